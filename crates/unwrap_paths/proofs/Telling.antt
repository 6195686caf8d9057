-- THE HELD LIST AFTER A PATH, from what the parts of the code answer to what a frame leaves.
use native.Mathlib.Omega.{arith}
use Prim.Native.Nat.{ℕ, suc, ◌-◌, ◌≤◌, ◌<◌}
use mathlib.Core.Path.{◌≡◌, ap, sym, ◌∙◌, subst}
use mathlib.Core.Bool.{true, false, ◌&&◌}
use mathlib.Core.List.{List, map}
use borrow.Author.Tests.{leb-true}
use lib.Dec.{leb}
use lib.ListN.{length, take, length-map}
use lib.Seq.{length-take-le}
use Rattle.octets.specs.Numbers.{oct}
use Rattle.wire_attributes.specs.Tree.{WrapKey, SaKey}
use Rattle.rules_chains.specs.Chain.{Root}
use Rattle.rules_chains.specs.Path.{start_id}
use Rattle.state_keys.specs.Limits.{limits}
use Rattle.lists.specs.Lists.{all}
use Rattle.lists.proofs.Cases.{and_parts}
use Rattle.state.specs.Held.{keys_of, held_of, held_formed, key_formed, distinct, ids_of}
use Rattle.state.specs.declared.held.HeldKey.{HeldKey}
use Rattle.state.specs.declared.held.Held.{Held}
use Rattle.state.proofs.Kept.{keys-of-held}
use Rattle.unwrap_copies.specs.inner.Openers.{OpenersAre}
use Rattle.unwrap_paths.specs.declared.links.Links.{Links}
use Rattle.unwrap_paths.specs.declared.nearest.Nearest.{Nearest}
use Rattle.unwrap_paths.specs.declared.back.Trail.{Trail}
use Rattle.unwrap_paths.specs.declared.held.PathHeld.{PathHeld}
use Rattle.unwrap_paths.specs.inner.Code.{GoesBack}
use Rattle.unwrap_paths.specs.inner.Links.{entries_at, LeadsTo}
use Rattle.unwrap_paths.specs.inner.Kept.{LinksFit, SearchKept}
use Rattle.unwrap_paths.specs.inner.Nearest.{NearestOf}
use Rattle.unwrap_paths.specs.inner.Holding.{held_at, TrailFits, GoesBefore, PathTells}
use Rattle.unwrap_paths.proofs.Tied.{leads-to, end-last}
use Rattle.unwrap_paths.proofs.Keeping.{tells_none, tells-some}

-- ---- what the calls ask for
pub formed-few : (h : Held) → held_formed limits h ≡ true → h.count ≤ limits.held_keys
unfolding held_formed
formed-few h e =
    leb-true h.count limits.held_keys
    (and_parts (leb h.count limits.held_keys) (all key_formed (keys_of h) && distinct (ids_of (keys_of h))) e).0

pub trail-fits : (links : Links) (a : Nearest) (trail : Trail) → LinksFit links →
    GoesBack links.count links.ids links.kwks links.levels a.kwk a.level trail.places trail.count → TrailFits trail
trail-fits links a trail fit way =
    record { few = way.few; inside = λ i h. omega (arith, way.inside i h, fit.few) }

-- a list that was made of some keys is the list of its keys
pub made-of-keys : (h : Held) (l : List HeldKey) → h ≡ held_of limits l → h ≡ held_of limits (keys_of h)
made-of-keys h l e = e ∙ ap (held_of limits) (sym (ap keys_of e ∙ keys-of-held limits l))

pub made-few : (h : Held) (l : List HeldKey) → h ≡ held_of limits l → length l ≤ limits.held_keys → h.count ≤ limits.held_keys
unfolding held_of
made-few h l e f = subst (λ (x : Held). x.count ≤ limits.held_keys) (sym e) f

pub keys-few : {A : Type 0} (f : ℕ → A) (count : ℕ) (places : List ℕ) → count ≤ length places → length (map f (take count places)) ≡ count
keys-few f count places h = length-map (take count places) f ∙ length-take-le count places h

-- ---- the answers
module _ (links : Links) (reached old : Held) (kwks : List ℕ) (a : Nearest)
    (near : NearestOf links.count links.ids links.levels (length kwks) kwks a) (trail : Trail)
    (way : GoesBack links.count links.ids links.kwks links.levels a.kwk a.level trail.places trail.count)
    (roots : List Root) (l : List WrapKey) (size : ℕ) (copies : List SaKey) (kept : SearchKept roots l size links reached)
    (openers : OpenersAre roots l size copies kwks) where
  abbrev places : List ℕ
  places = take trail.count trail.places

  abbrev end : ℕ
  end = start_id a.kwk (entries_at l places)

  leads : LeadsTo roots l size kept.cells copies places end
  leads =
      leads-to links.count kept.entries kept.cells links.ids links.kwks kept.linked.marks kept.linked.linked
      kept.frame roots l size kept.lists kept.searched kept.nonzero kept.fit kept.agree links.levels
      kept.linked.levels copies kwks openers a.kwk a.level near.place near.inside near.is near.has
      (λ i h. let b = near.before i h in (b.level, b.has, b.order)) trail.places trail.count way

  pub answer-none : old.count ≤ limits.held_keys → trail.count ≡ 0 →
      PathTells roots l size copies old (record { over = false; held = old })
  answer-none few z =
      tells_none roots l size links reached kept copies places end leads old few (ap (λ (m : ℕ). take m trail.places) z)

  end_is : 0 < trail.count → trail.count ≤ length trail.places → end ≡ oct links.kwks (oct trail.places (trail.count - 1))
  end_is h f =
      let e : trail.count ≡ suc (trail.count - 1) = omega arith in
      end-last links.count kept.entries kept.cells links.ids links.kwks kept.linked.marks kept.linked.linked
      kept.frame roots l size kept.lists kept.searched kept.nonzero kept.fit kept.agree links.levels
      kept.linked.levels copies kwks openers a.kwk a.level near.place near.inside near.is near.has
      (λ i h. let b = near.before i h in (b.level, b.has, b.order)) trail.places trail.count way (trail.count - 1) e f

  pub answer-some : 0 < trail.count → trail.count ≤ length trail.places → (keys : Held) →
      keys ≡ held_of limits (map (held_at links.ids reached) places) → (e : ℕ) →
      e ≡ oct links.kwks (oct trail.places (trail.count - 1)) → (r : PathHeld) →
      GoesBefore (keys_of keys) e (keys_of old) r → PathTells roots l size copies old r
  answer-some h f keys k e e-is r b =
      let x : keys_of keys ≡ map (held_at links.ids reached) places = ap keys_of k ∙ keys-of-held limits _ in
      let y : e ≡ end = e-is ∙ sym (end_is h f) in
      let z = length-take-le trail.count trail.places f in
      let some : 0 < length places = omega (arith, z, h) in
      tells-some roots l size links reached kept copies places end leads old r some
      (subst (λ (m : List HeldKey). GoesBefore m end (keys_of old) r) x
      (subst (λ (m : ℕ). GoesBefore (keys_of keys) m (keys_of old) r) y b))
