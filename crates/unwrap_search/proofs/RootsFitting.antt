-- The roots of a search fit: each has one value, and no entry carries its Key ID.
use Prim.Native.Nat.{ℕ, ◌<◌}
use mathlib.Core.Path.{◌≡◌, ap, sym, ◌∙◌}
use mathlib.Core.Bool.{true, false≢true}
use mathlib.Core.Logic.{◌⊎◌, ⊎_elim}
use mathlib.Core.List.Memᴰ
use mathlib.Core.List.{List, Memᴰ}
use lib.ListN.{length}
use Rattle.wire_attributes.specs.Tree.{WrapKey}
use Rattle.rules_chains.specs.Chain.{In, Root}
use Rattle.rules_chains.proofs.Members.{in-member}
use Rattle.state_keys.specs.Limits.{limits}
use Rattle.state_keys.specs.Kinds.{value_of}
use Rattle.state.specs.Held.{keys_of, key_with, held_formed}
use Rattle.state.specs.declared.held.HeldKey.{HeldKey}
use Rattle.state.specs.declared.held.Held.{Held}
use Rattle.state.proofs.Kept.{distinct-found}
use Rattle.unwrap_lending.proofs.HeldLaws.{held-distinct, not-zero}
use Rattle.unwrap_search.specs.inner.Search.{key_at, Nonzero, held_roots, roots_with, RootsFit}
use Rattle.unwrap_search.proofs.Starting.{carried-at, held-root}
use Rattle.std.proofs.lemmas.Option.{same_Some}

pub root-cases : (v : List ℕ) (l : List WrapKey) (keys : List HeldKey) (r : Root) → In r (roots_with v l keys) →
    (r ≡ record { id = 0; value = v }) ⊎ Memᴰ r (held_roots l keys)
root-cases v l keys r m = Memᴰ.cases_cons (in-member r (roots_with v l keys) m)

module _ (v : List ℕ) (l : List WrapKey) (held : Held) (formed : held_formed limits held ≡ true) where
  abbrev keys : List HeldKey
  keys = keys_of held

  abbrev roots : List Root
  roots = roots_with v l keys

  -- ---- roots have one value each
  held-alike : (r s : Root) → Memᴰ r (held_roots l keys) → Memᴰ s (held_roots l keys) → r.id ≡ s.id → r.value ≡ s.value
  held-alike r s m n e =
      let f = held-root l keys r m in
      let g = held-root l keys s n in
      let d = held-distinct held formed in
      let q : f.0.id ≡ g.0.id = ap (λ (x : Root). x.id) f.2 ∙ e ∙ sym (ap (λ (x : Root). x.id) g.2) in
      let z : f.0.key ≡ g.0.key =
      same_Some f.0.key g.0.key
      (sym (distinct-found f.0 keys d f.1) ∙ ap (λ (i : ℕ). key_with i keys) q ∙ distinct-found g.0 keys d g.1) in
      sym (ap (λ (x : Root). x.value) f.2) ∙ ap value_of z ∙ ap (λ (x : Root). x.value) g.2

  held-nonzero : (r : Root) → Memᴰ r (held_roots l keys) → r.id ≡ 0 → ⊥
  held-nonzero r m e = let g = held-root l keys r m in not-zero held formed g.0 g.1 (ap (λ (x : Root). x.id) g.2 ∙ e)

  pub alike : (r s : Root) → In r roots → In s roots → r.id ≡ s.id → r.value ≡ s.value
  alike r s m n e =
      ⊎_elim
      (λ p.
      ⊎_elim (λ q. ap (λ (x : Root). x.value) (p ∙ sym q))
      (λ q. absurd (held-nonzero s q (sym e ∙ ap (λ (x : Root). x.id) p))) (root-cases v l keys s n))
      (λ p.
      ⊎_elim (λ q. absurd (held-nonzero r p (e ∙ ap (λ (x : Root). x.id) q))) (λ q. held-alike r s p q e) (root-cases v l keys s n))
      (root-cases v l keys r m)

  -- ---- no entry carries one
  pub apart : Nonzero l → (r : Root) → In r roots → (i : ℕ) → i < length l → (key_at l i).key_id ≡ r.id → ⊥
  apart nonzero r m i h e =
      ⊎_elim (λ p. nonzero i h (e ∙ ap (λ (x : Root). x.id) p))
      (λ p.
      let g = held-root l keys r p in
      false≢true (sym g.3 ∙ carried-at l g.0.id i h (e ∙ sym (ap (λ (x : Root). x.id) g.2))))
      (root-cases v l keys r m)

  pub roots-fit : Nonzero l → RootsFit roots l
  roots-fit nonzero = record { alike = alike; apart = apart nonzero }
