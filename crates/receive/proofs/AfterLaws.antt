-- The held list after acceptance, by the copies of the Rekey SA's key that open.
use Rattle.std.specs.Prelude.{Result, Ok}
use Prim.Native.Nat.{ℕ, ◌*◌, ◌<◌}
use mathlib.Core.Path.{◌≡◌, refl, ap, sym, subst}
use mathlib.Core.Bool.{Bool, true, false, false≢true}
use mathlib.Core.List.Memᴰ
use mathlib.Core.List.{List, [], ◌∷◌, Memᴰ}
use mathlib.Core.List.{flat_map}
use lib.ListN.{length, take, get_or}
use Rattle.wire_attributes.specs.Tree.{WrapKey}
use Rattle.wire_policies.specs.Policy.{GroupSaPolicy}
use Rattle.wire_frames.specs.Frame.{Frame}
use Rattle.state_keys.specs.Limits.{limits}
use Rattle.lists.specs.Lists.{any, keep}
use Rattle.lists.proofs.Cases.{bool_cases}
use Rattle.lists.proofs.Members.{member-kept}
use Rattle.state.specs.Held.{keys_of, held_formed}
use Rattle.state.specs.declared.State.{State}
use Rattle.state.specs.declared.held.Held.{Held}
use Rattle.state.proofs.Kept.{no-key-formed}
use Rattle.rules_refusals.specs.Contents.{row_of, announced}
use Rattle.rules_refusals.specs.Fitness.{is_rekey}
use Rattle.rules_chains.specs.Chain.{In, Root}
use Rattle.rules_chains.proofs.Members.{in-member, member-in}
use Rattle.rules_outcome.specs.Roots.{roots_of, entries_of, wrapping_size, copies_of}
use Rattle.rules_outcome.specs.Holding.{new_rekey, rekey_copies, held_before}
use Rattle.rules_outcome.proofs.RunsLists.{some-passes}
use Rattle.rules_outcome.proofs.Enters.{each-enters}
use Rattle.unwrap_sas.specs.inner.Keyed.{KeysOf, KeyedBy}
use Rattle.unwrap_sas.specs.declared.joining.Keyed.{Keyed}
use Rattle.unwrap_sas.specs.declared.joining.SasFault.{SasFault}
use Rattle.unwrap_lending.specs.inner.Lending.{place_octets, named_keys, Lends, LendsHeld, LendsNamed, LendsTwo}
use Rattle.unwrap_lending.proofs.HeldLaws.{get_d_any, held-within}
use Rattle.unwrap_copies.specs.inner.Openers.{OpenersAre}
use Rattle.unwrap_paths.specs.declared.held.PathHeld.{PathHeld}
use Rattle.unwrap_paths.specs.inner.Holding.{PathTells}
use Rattle.receive.specs.inner.Passing.{EachHasCopy, HeldTold}
use Rattle.receive.specs.inner.Opening.{SomeOpener, NextTold}

-- ---- the frame's own keys and the held ones are lent
pub two_lent : (reached : Held) (carried fresh : List ℕ) (n : ℕ) (held : Held) (ids block : List ℕ) → LendsNamed reached carried fresh →
    length carried ≡ n → LendsHeld held ids block →
    LendsTwo (named_keys reached carried) (keys_of held) carried (take (place_octets * n) fresh) ids block
two_lent reached carried fresh n held ids block own e lends =
    record {
      own = subst (λ (m : ℕ). Lends (named_keys reached carried) carried (take (place_octets * m) fresh)) e own.lends;
      held = lends.lends;
    }

-- ---- a copy of an announced Rekey SA is one of the Rekey SA's copies
gathered-in : {A B : Type 0} (g : A → List B) (a : A) (b : B) (l : List A) → Memᴰ a l → Memᴰ b (g a) → Memᴰ b (flat_map g l)
unfolding flat_map
gathered-in g a b _ (Memᴰ.head {x} {xs} e) n = Memᴰ.append_left (flat_map g xs) (subst (λ y. Memᴰ b (g y)) e n)
gathered-in g a b _ (Memᴰ.tail {x} {xs} m) n = Memᴰ.append_right (g x) (gathered-in g a b xs m n)

module _ (roots : List Root) (entries : List WrapKey) (size : ℕ) (f : Frame) where
  pub some-opener : EachHasCopy roots entries size f → SomeOpener roots entries size f
  unfolding rekey_copies
  some-opener each n =
      let p = some-passes is_rekey (announced f) n in
      let o = each p.one (member-in p.one (announced f) p.stands) in
      let c = o.1.copy in
      let m = gathered-in (copies_of f) p.one c (keep is_rekey (announced f))
      (member-kept is_rekey p.one (announced f) p.stands p.passes)
      (in-member c (copies_of f p.one) o.1.stands) in (
        c,
        member-in c (rekey_copies f) m,
        record { value = o.1.value; named = o.1.named; octets = o.0; opens = o.1.opens },
      )

  -- where each SA has its key, each has a copy that opens
  pub each_opens : (now : ℕ) (r : Keyed) → KeyedBy roots entries size f now r → r.found ≡ Ok tt → EachHasCopy roots entries size f
  each_opens now r k e a i =
      let q = subst (λ (x : Result (Unit {0}) SasFault). KeysOf roots entries size f (announced f) now x r.sas r.count) e k.keys in
      let o = each-enters roots entries size now f (announced f) (take r.count r.sas) q.1 a i in
      (o.octets, o.key.opens)

  -- without an opener the frame announces no Rekey SA
  module _ (ids : List ℕ) (openers : OpenersAre roots entries size (rekey_copies f) ids) (some : SomeOpener roots entries size f) where
    no-rekey : ids ≡ [] → new_rekey f ≡ false
    no-rekey e =
        bool_cases (new_rekey f)
        (λ n.
        let c = some n in
        absurd (Memᴰ.not-nil (in-member c.0.kwk_id [] (subst (In c.0.kwk_id) e (openers.all c.0 c.1 c.2)))))
        (λ n. n)

    -- with one it does
    a-rekey : 0 < length ids → new_rekey f ≡ true
    unfolding rekey_copies any keep flat_map
    a-rekey h =
        let o = openers.each (get_or ids 0 0) (record { place = 0; inside = h; is = get_d_any ids 0 (get_or ids 0 0) 0 h }) in
        bool_cases (new_rekey f) (λ n. n)
        (λ n.
        absurd (Memᴰ.not-nil
        (subst (Memᴰ o.0) (ap (flat_map (copies_of f)) (none_kept (announced f) n)) (in-member o.0 (rekey_copies f) o.1))))
      where
        none_kept : (l : List GroupSaPolicy) → any is_rekey l ≡ false → keep is_rekey l ≡ []
        none_kept [] e = refl
        none_kept (a ∷ l) e =
            bool_cases (is_rekey a) (λ g. absurd (false≢true (sym (rw g at e)))) (λ g. rw g (none_kept l (rw g at e)))

    module _ (old : Held) (formed : held_formed limits old ≡ true) where
      pub no-opener : ids ≡ [] → NextTold roots entries size (new_rekey f) (rekey_copies f) old (record { over = false; held = old })
      no-opener e =
          subst (λ (b : Bool). NextTold roots entries size b (rekey_copies f) old (record { over = false; held = old })) (sym (no-rekey e))
          (record { kept = λ q. refl; few = λ q. held-within old formed; beyond = λ q. absurd (false≢true q) })

      pub by-openers : 0 < length ids → (r : PathHeld) → PathTells roots entries size (rekey_copies f) old r →
          NextTold roots entries size (new_rekey f) (rekey_copies f) old r
      by-openers h r t =
          subst (λ (b : Bool). NextTold roots entries size b (rekey_copies f) old r) (sym (a-rekey h))
          (record { kept = t.kept; few = t.few; beyond = t.beyond })

-- the list that a frame finds is as a member's must be
pub before-formed : (b : Bool) (h : Held) → held_formed limits h ≡ true → held_formed limits (held_before limits b h) ≡ true
before-formed true h e = no-key-formed limits
before-formed false h e = e

pub told-after : (m : State) (now : ℕ) (lent : List ℕ) (f : Frame) (b : Bool) → (row_of f).registers ≡ b → (r : PathHeld) →
    NextTold (roots_of limits m now lent f) (entries_of f) (wrapping_size limits m now lent f) (new_rekey f) (rekey_copies f)
    (held_before limits b m.held) r → HeldTold m now lent f r.over r.held
told-after m now lent f b e r t =
    let u = subst
    (λ (x : Bool). NextTold (roots_of limits m now lent f) (entries_of f) (wrapping_size limits m now lent f) (new_rekey f) (rekey_copies f)
    (held_before limits x m.held) r) (sym e) t in
    record { kept = u.kept; few = u.few; beyond = u.beyond }
