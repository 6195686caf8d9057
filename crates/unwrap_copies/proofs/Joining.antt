-- What is told of some tries and of others is told of them all.
use Prim.Native.Nat.{ℕ}
use mathlib.Core.Path.{◌≡◌, sym, ap, ◌∙◌, subst}
use mathlib.Core.Logic.{◌⊎◌, inl, inr, ⊎_elim}
use mathlib.Core.List.Memᴰ
use mathlib.Core.List.{List, ◌++◌}
use lib.ListN.{take}
use Rattle.rules_chains.proofs.Members.{in-member, member-in}
use Rattle.state_keys.specs.Kinds.{padded}
use Rattle.unwrap_copies.specs.declared.answer.CopyFound.{CopyFound}
use Rattle.unwrap_copies.specs.declared.answer.CopyFound.TheVariants.{Nothing, Key, Conflict}
use Rattle.unwrap_copies.specs.declared.answer.CopyOpened.{CopyOpened}
use Rattle.unwrap_copies.specs.inner.Tries.{Try, SomeOpens, TriesConflict, wrong_size, two-values, TriesKey, CopyTellsBy, CopyTells}

-- what an answer tells, by what was found
pub told : (l : List Try) (need : ℕ) (r : CopyOpened) (f : CopyFound) → r.found ≡ f → CopyTells l need r →
    CopyTellsBy l need f r.octets r.count
told l need r f e t = subst (λ (g : CopyFound). CopyTellsBy l need g r.octets r.count) e t

pub tell : (l : List Try) (need : ℕ) (r : CopyOpened) (f : CopyFound) → r.found ≡ f → CopyTellsBy l need f r.octets r.count →
    CopyTells l need r
tell l need r f e t = subst (λ (g : CopyFound). CopyTellsBy l need g r.octets r.count) (sym e) t

-- ---- tries that open to no less, and to no more
module _ (l m : List Try) (need : ℕ) (to : (x : List ℕ) → SomeOpens l x → SomeOpens m x) where
  pub conflict-wider : TriesConflict l need → TriesConflict m need
  conflict-wider (wrong_size x s f) = wrong_size x (to x s) f
  conflict-wider (two-values x y s t f) = two-values x y (to x s) (to y t) f

  pub tells-map : ((x : List ℕ) → SomeOpens m x → SomeOpens l x) → (f : CopyFound) (octets : List ℕ) (count : ℕ) →
      CopyTellsBy l need f octets count → CopyTellsBy m need f octets count
  tells-map from Conflict o c t = conflict-wider t
  tells-map from Nothing o c t = λ x s. t x (from x s)
  tells-map from Key o c t =
      record {
        opens = to (take c o) t.opens;
        every = λ x s. t.every x (from x s);
        size = t.size;
        need-is = t.need-is;
        blanks = t.blanks;
      }

-- ---- some, and others
module _ (l m : List Try) where
  pub some_left : (x : List ℕ) → SomeOpens l x → SomeOpens (l ++ m) x
  some_left x s =
      let i = member-in s.one (l ++ m) (Memᴰ.append_left m (in-member s.one l s.stands)) in
      record { one = s.one; stands = i; opens = s.opens }

  pub some_right : (x : List ℕ) → SomeOpens m x → SomeOpens (l ++ m) x
  some_right x s =
      let i = member-in s.one (l ++ m) (Memᴰ.append_right l (in-member s.one m s.stands)) in
      record { one = s.one; stands = i; opens = s.opens }

  pub some-cases : (x : List ℕ) → SomeOpens (l ++ m) x → SomeOpens l x ⊎ SomeOpens m x
  some-cases x s =
      ⊎_elim (λ d. inl (record { one = s.one; stands = member-in s.one l d; opens = s.opens }))
      (λ d. inr (record { one = s.one; stands = member-in s.one m d; opens = s.opens }))
      (Memᴰ.append_cases l (in-member s.one (l ++ m) s.stands))

  module _ (need : ℕ) (a b : CopyOpened) (p : CopyTells l need a) (q : CopyTells m need b) where
    pub nothing_left : a.found ≡ Nothing → CopyTells (l ++ m) need b
    nothing_left e =
        let none = told l need a Nothing e p in
        tells-map m (l ++ m) need some_right (λ x s. ⊎_elim (λ t. absurd (none x t)) (λ t. t) (some-cases x s)) b.found b.octets
        b.count q

    pub nothing_right : b.found ≡ Nothing → CopyTells (l ++ m) need a
    nothing_right e =
        let none = told m need b Nothing e q in
        tells-map l (l ++ m) need some_left (λ x s. ⊎_elim (λ t. t) (λ t. absurd (none x t)) (some-cases x s)) a.found a.octets
        a.count p

    pub conflict-left : a.found ≡ Conflict → CopyTells (l ++ m) need a
    conflict-left e = tell (l ++ m) need a Conflict e (conflict-wider l (l ++ m) need some_left (told l need a Conflict e p))

    pub conflict-right : b.found ≡ Conflict → CopyTells (l ++ m) need b
    conflict-right e = tell (l ++ m) need b Conflict e (conflict-wider m (l ++ m) need some_right (told m need b Conflict e q))

    module _ (e : a.found ≡ Key) (f : b.found ≡ Key) where
      one : TriesKey l need a.octets a.count
      one = told l need a Key e p

      two : TriesKey m need b.octets b.count
      two = told m need b Key f q

      pub both-agree : a.octets ≡ b.octets → CopyTells (l ++ m) need a
      both-agree g =
          let o : b.octets ≡ a.octets = sym g in
          let c : b.count ≡ a.count = two.need-is ∙ sym one.need-is in
          let v : take b.count b.octets ≡ take a.count a.octets = λ i. take (c i) (o i) in
          tell (l ++ m) need a Key e
          (record {
            opens = some_left (take a.count a.octets) one.opens;
            every = λ x s. ⊎_elim (one.every x) (λ t. two.every x t ∙ v) (some-cases x s);
            size = one.size;
            need-is = one.need-is;
            blanks = one.blanks;
          })

      pub both-differ : (a.octets ≡ b.octets → ⊥) → TriesConflict (l ++ m) need
      both-differ g =
          let x = take a.count a.octets in
          let y = take b.count b.octets in
          two-values x y (some_left x one.opens) (some_right y two.opens)
          (λ h. g (one.blanks ∙ ap (padded 68) h ∙ sym two.blanks))
