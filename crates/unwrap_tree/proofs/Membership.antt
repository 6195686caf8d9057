-- The two ways to say that something stands in a list, and the keys of a held list by Key ID.
use Prim.Native.Nat.{ℕ}
use mathlib.Core.Path.{◌≡◌, refl, sym}
use mathlib.Core.Bool.{Bool, true, false, false≢true}
use mathlib.Core.List.{List, [], ◌∷◌, Memᴰ}
use borrow.Author.Tests.{eqb-true}
use lib.Dec.{eqb}
use Rattle.lists.specs.Lists.{all, any}
use Rattle.state_keys.specs.Kinds.{wrapping_of}
use Rattle.lists.proofs.Cases.{bool_cases, and-whole}
use Rattle.state.specs.Held.{key_with}
use Rattle.state.specs.declared.held.HeldKey.{HeldKey}
use Rattle.std.specs.Prelude.{is_some}

module _ {A : Type 0} where
  -- what passes of each member passes of all
  pub all-members : (p : A → Bool) (l : List A) → ((a : A) → Memᴰ a l → p a ≡ true) → all p l ≡ true
  unfolding all
  all-members p [] f = refl
  all-members p (a ∷ l) f = and-whole (p a) (all p l) (f a (Memᴰ.head refl)) (all-members p l (λ b m. f b (Memᴰ.tail m)))

-- ---- the lookup by Key ID
-- a key of the held list: its Key ID and its value
abbrev pub held_key_of : ℕ → List ℕ → HeldKey
held_key_of i x = record { id = i; key = wrapping_of x }

pub record Has (id : ℕ) (l : List HeldKey) : Type 0 where
  pub key : HeldKey
  pub member : Memᴰ key l
  pub id-is : key.id ≡ id

pub has_key : (id : ℕ) (l : List HeldKey) → is_some (key_with id l) ≡ true → Has id l
unfolding key_with
has_key id [] e = absurd (false≢true e)
has_key id (k ∷ l) e =
    bool_cases (eqb k.id id) (λ g. record { key = k; member = Memᴰ.head refl; id-is = eqb-true k.id id g })
    (λ g. let r = has_key id l (rw g at e) in record { key = r.key; member = Memᴰ.tail r.member; id-is = r.id-is })

pub has-no-key : (id : ℕ) (l : List HeldKey) → is_some (key_with id l) ≡ false → any (λ (k : HeldKey). eqb k.id id) l ≡ false
unfolding key_with any
has-no-key id [] e = refl
has-no-key id (k ∷ l) e =
    bool_cases (eqb k.id id) (λ g. absurd (false≢true (sym (rw g at e)))) (λ g. rw g (has-no-key id l (rw g at e)))
