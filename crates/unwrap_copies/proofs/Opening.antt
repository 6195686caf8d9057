-- What opening one copy under one key tells.
use native.Mathlib.Omega.{arith}
use Prim.Native.Nat.{ℕ, ◌-◌, ◌≤◌}
use mathlib.Core.Path.{◌≡◌, refl, ap, sym, ◌∙◌, subst}
use mathlib.Core.Bool.{true}
use mathlib.Core.List.Memᴰ
use mathlib.Core.List.{List, [], ◌∷◌}
use lib.Dec.{T}
use lib.ListN.{length, take, drop, replicate}
use lib.Seq.{take_at, length-take-le}
use Rattle.fips197.specs.Key.{Key, is_key}
use Rattle.rfc5649.specs.Opens.{Opens}
use Rattle.keywrap.specs.Answers.{OpenAnswers}
use Rattle.keywrap.specs.inner.Blank.{blank, OpensBlank}
use Rattle.std.specs.Prelude.{None, Some}
use Rattle.rfc5649.proofs.Determined.{opens_one}
use Rattle.rules_chains.proofs.Members.{in-member}
use Rattle.state_keys.specs.Algorithms.{is_wrapping_size}
use Rattle.state_keys.specs.Kinds.{padded, value_of}
use Rattle.state_keys.specs.declared.kinds.WrappingKey.{WrappingKey}
use Rattle.state_keys.proofs.Sizes.{wrapping-le}
use Rattle.unwrap_search.proofs.Opening.{landed_none}
use Rattle.unwrap_search.proofs.Searching.{is-key-size}
use Rattle.unwrap_copies.specs.inner.Tries.{Try, SomeOpens, TriesConflict, wrong_size, TriesKey}

-- one try, and what it opens to
pub alone : (t : Try) (x : List ℕ) → Opens t.key t.wrapped x → SomeOpens (t ∷ []) x
alone t x o = record { one = t; stands = record { place = 0; inside = omega arith; is = refl }; opens = o }

pub only : (t : Try) (x : List ℕ) → SomeOpens (t ∷ []) x → Opens t.key t.wrapped x
only t x s =
    subst (λ (a : Try). Opens a.key a.wrapped x) (Memᴰ.eq_of_singleton (in-member s.one (t ∷ []) s.stands)) s.opens

module _ (v w octets : List ℕ) where
  abbrev t : Try
  t = record { key = v; wrapped = w }

  pub opened-none : Key v → OpensBlank v w None → (x : List ℕ) → SomeOpens (t ∷ []) x → ⊥
  opened-none is h x s = landed_none v w octets 0 is h x (only t x s)

  pub opened-wrong : (n need : ℕ) → OpenAnswers v w blank (Some n) octets → (n ≡ need → ⊥) → TriesConflict (t ∷ []) need
  opened-wrong n need h f = wrong_size h.x (alone t h.x h.result.opens) (λ e. f (sym h.count ∙ e))

  pub opened-right : (n need : ℕ) (out : List ℕ) → Key v → OpenAnswers v w blank (Some n) octets → n ≡ need →
      out ≡ padded 68 (take n octets) → TriesKey (t ∷ []) need out n
  opened-right n need out is h e q =
      let x = h.x in
      let g : take n octets ≡ x = ap (take n) h.room-is ∙ take_at x (drop (length x) blank) n h.count in
      let o : out ≡ padded 68 x = q ∙ ap (padded 68) g in
      let f : take n out ≡ x = ap (take n) o ∙ take_at x (replicate (68 - length x) 0) n h.count in
      record {
        opens = subst (SomeOpens (t ∷ [])) (sym f) (alone t x h.result.opens);
        every = λ y s. opens_one v w y x is (only t y s) h.result.opens ∙ sym f;
        size = ap length f ∙ h.count ∙ e;
        need-is = e;
        blanks = o ∙ ap (padded 68) (sym f);
      }

-- ---- a key whose count is one of a wrapping key: its octets are there, and its schedule can be expanded
module _ (key : WrappingKey) (e : length key.octets ≡ 32) (h : is_wrapping_size key.count ≡ true) where
  pub key-inside : key.count ≤ length key.octets
  key-inside = let g = wrapping-le key.count h in omega arith

  pub key-count : key.count ≡ length (value_of key)
  key-count = sym (length-take-le key.count key.octets key-inside)

  pub key_fits : T (is_key (length (value_of key)))
  key_fits = subst (λ (m : ℕ). T (is_key m)) key-count (is-key-size key.count h)
