-- The tests by kind and by critical bit at one payload of the chain.
use Prim.Native.Nat.{ℕ, ◌+◌, ◌≤◌}
use mathlib.Core.Path.{◌≡◌, sym, ◌∙◌, subst}
use mathlib.Core.Logic.{◌⊎◌, inl, inr}
use mathlib.Core.List.{List, [], ◌∷◌}
use mathlib.Core.Bool.{Bool, true, false, not, ◌&&◌}
use native.Mathlib.Omega.{arith}
use borrow.Author.Tests.{eq-eqb, ne_eqb}
use lib.ListN.{drop}
use Rattle.octets.specs.Walk.{part}
use Rattle.lists.specs.Lists.{count, keep}
use Rattle.wire_frames.specs.Frame.{Payload, is_known}
use Rattle.wire_frames.specs.Grammar.{IsContent}
use Rattle.wire_readers.specs.inner.Payloads.{payloads_in}
use Rattle.wire_readers.specs.declared.payload.PayloadParts.{PayloadParts}
use Rattle.rules_refusals.specs.Number4.{unknown_critical}
use Rattle.rules_refusals.proofs.First.{count_yes, count_no, keep-yes, keep-no}
use Rattle.check_payloads.specs.inner.Facts.{of_kind}
use Rattle.check_payloads.proofs.StepLaws.{Step}

-- o is the body of the first of some payloads, which are of the kind k; where there is none, it is empty
pub data FirstBody (fresh : Bool) (k : ℕ) (o : List ℕ) : List Payload → Type 0 where
  no_body : o ≡ [] → FirstBody fresh k o []
  a_body : {p : Payload} {l : List Payload} → IsContent fresh k o p.content → FirstBody fresh k o (p ∷ l)

-- a count after a test: one more, or the same
abbrev pub Counted : Type 0 → ℕ → ℕ → Type 0
Counted hit n m = (hit × (m ≡ n + 1)) ⊎ ((hit → ⊥) × (m ≡ n))

pub not_known : (k : ℕ) → (k ≡ 36 → ⊥) → (k ≡ 37 → ⊥) → (k ≡ 39 → ⊥) → (k ≡ 41 → ⊥) → (k ≡ 42 → ⊥) → (k ≡ 51 → ⊥) → (k ≡ 52 → ⊥)
    → false ≡ is_known k
not_known k a b c d e f g =
    rw (ne_eqb k 36 a, ne_eqb k 37 b, ne_eqb k 39 c, ne_eqb k 41 d, ne_eqb k 42 e, ne_eqb k 51 f, ne_eqb k 52 g)

module _ (fresh : Bool) (w k : ℕ) (s : List ℕ) (at : ℕ) (r : PayloadParts) (g : Step fresh k s at r) where
  others : List Payload
  others = payloads_in fresh r.next (drop (at + r.end) s)

  of-kind : k ≡ w → of_kind w g.one ≡ true
  of-kind e = eq-eqb g.one.kind w (g.kind ∙ e)

  of_other : (k ≡ w → ⊥) → of_kind w g.one ≡ false
  of_other e = ne_eqb g.one.kind w (λ u. e (sym g.kind ∙ u))

  pub count_next : (n m all : ℕ) → Counted (k ≡ w) n m → n + count (of_kind w) (payloads_in fresh k (drop at s)) ≡ all
      → (m ≤ n + 1) × (m + count (of_kind w) (payloads_in fresh r.next (drop (at + r.end) s)) ≡ all)
  unfolding others
  count_next n m all (inl (e, f)) q =
      let c = count_yes (of_kind w) g.one others (payloads_in fresh k (drop at s)) g.item (of-kind e) in
      (omega arith, omega arith)
  count_next n m all (inr (e, f)) q =
      let c = count_no (of_kind w) g.one others (payloads_in fresh k (drop at s)) g.item (of_other e) in
      (omega arith, omega arith)

  pub keep-next : (k ≡ w → ⊥) → keep (of_kind w) (payloads_in fresh k (drop at s))
      ≡ keep (of_kind w) (payloads_in fresh r.next (drop (at + r.end) s))
  unfolding others
  keep-next e = keep-no (of_kind w) g.one others (payloads_in fresh k (drop at s)) g.item (of_other e)

  pub first_body : k ≡ w → (l : List Payload) → l ≡ keep (of_kind w) (payloads_in fresh k (drop at s))
      → FirstBody fresh w (part s (at + 4) (at + r.end)) l
  unfolding others
  first_body e l q =
      let i : IsContent fresh w (part s (at + 4) (at + r.end)) g.one.content =
      subst (λ (n : ℕ). IsContent fresh n (part s (at + 4) (at + r.end)) g.one.content) e g.is in
      subst (FirstBody fresh w (part s (at + 4) (at + r.end)))
      (sym (q ∙ keep-yes (of_kind w) g.one others (payloads_in fresh k (drop at s)) g.item (of-kind e))) (a_body i)

-- an unknown critical one, by its type and its bit
module _ (fresh : Bool) (k : ℕ) (s : List ℕ) (at : ℕ) (r : PayloadParts) (g : Step fresh k s at r) where
  pub bit : unknown_critical g.one ≡ (r.critical && not (is_known k))
  bit = λ i. g.critical i && not (is_known (g.kind i))
