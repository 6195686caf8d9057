-- What the code of a member finds is what the definitions say.
use native.Mathlib.Omega.{arith}
use Prim.Native.Nat.{ℕ, ◌-◌, ◌≤◌, ◌<◌}
use mathlib.Core.Path.{◌≡◌, ap, sym, ◌∙◌}
use mathlib.Core.Logic.{◌⊎◌, inl, inr}
use mathlib.Core.List.{List, ◌++◌}
use borrow.Author.Tests.{eq-eqb, ne_eqb}
use lib.ListN.{length, take, drop, replicate}
use lib.Seq.{take_all}
use Rattle.state_keys.specs.Kinds.{padded}
use Rattle.lists.proofs.Parts.{copied}
use Rattle.state_sa.specs.Entry.{rekey_protocol}
use Rattle.state_sa.specs.declared.entry.Sa.{Sa}
use Rattle.gikev2.specs.declared.SaAnswer.{SaAnswer}
use Rattle.gikev2.specs.Member.{answer_of}

-- the octets in use, of an array of m: as many as a count says, or all of them
module _ (m n count : ℕ) where
  abbrev pub Used : Type 0
  Used = ((m < count) × (n ≡ m)) ⊎ ((count ≤ m) × (n ≡ count))

  pub used_le : Used → n ≤ m
  used_le (inl w) = let e = w.1 in omega arith
  used_le (inr w) = let e = w.1 in let f = w.0 in omega arith

  pub used-take : (l : List ℕ) → length l ≡ m → Used → take (n - 0) l ≡ take count l
  used-take l h (inl w) =
      let e = w.1 in
      let f = w.0 in
      take_all (n - 0) l (omega arith) ∙ sym (take_all count l (omega arith))
  used-take l h (inr w) = let e = w.1 in let f : n - 0 ≡ count = omega arith in ap (λ (k : ℕ). take k l) f

module _ (s : Sa) (n : ℕ) (octets : List ℕ) (h : length s.octets ≡ 68) (u : Used 68 n s.count)
    (e : octets ≡ take (length (take (n - 0) s.octets)) (take (n - 0) s.octets) ++ drop (length (take (n - 0) s.octets))
    (replicate 68 0)) where
  answer-octets : octets ≡ padded 68 (take s.count s.octets)
  answer-octets = copied 68 (take (n - 0) s.octets) octets e ∙ ap (padded 68) (used-take 68 n s.count s.octets h u)

  -- the answer with these octets and part counts
  abbrev pub With : ℕ → ℕ → SaAnswer
  With a b = record {
    octets = octets;
    count = s.count;
    encryption = a;
    wrapping = b;
    condition = s.condition;
    lifetime = s.lifetime;
  }

  pub answer-rekey : s.protocol ≡ rekey_protocol → With s.encryption s.wrapping ≡ answer_of s
  unfolding answer_of
  answer-rekey p = rw (eq-eqb s.protocol rekey_protocol p, answer-octets)

  pub answer-other : (s.protocol ≡ rekey_protocol → ⊥) → With 0 0 ≡ answer_of s
  unfolding answer_of
  answer-other p = rw (ne_eqb s.protocol rekey_protocol p, answer-octets)
