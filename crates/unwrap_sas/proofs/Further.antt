-- What is known of some policies, and of one more.
use Rattle.std.specs.Prelude.{Err}
use native.Mathlib.Omega.{arith}
use native.Mathlib.Numerals.{add-one}
use Prim.Native.Nat.{ℕ, ◌+◌, ◌<◌}
use mathlib.Core.Path.{◌≡◌, refl, ap, sym, ◌∙◌, subst}
use mathlib.Core.Bool.{Bool, true, false}
use mathlib.Core.Logic.{⊎_elim}
use mathlib.Core.List.Memᴰ
use mathlib.Core.List.{List, [], ◌∷◌, ◌++◌}
use lib.ListN.{length, take, set, length-append}
use lib.Seq.{take-suc-set}
use Rattle.wire_attributes.specs.Tree.{WrapKey}
use Rattle.wire_policies.specs.Policy.{GroupSaPolicy}
use Rattle.wire_frames.specs.Frame.{Frame}
use Rattle.state_sa.specs.declared.entry.Sa.{Sa}
use Rattle.unwrap_copies.specs.declared.answer.Openers.{Openers}
use Rattle.rules_chains.specs.Chain.{In, Root}
use Rattle.rules_chains.specs.Refusals.{CopiesConflict, wrong_size, two-values, KeyOf}
use Rattle.rules_outcome.specs.Roots.{announced_as}
use Rattle.rules_outcome.specs.After.{sa_from, Enter, no-sa, one_more}
use Rattle.rules_chains.proofs.Members.{in-member, member-in}
use Rattle.rules_outcome.proofs.Members.{in_head}
use Rattle.unwrap_sas.specs.inner.Keyed.{found_by, SomeConflict, NoConflict, SomeUnopened, KeysOf}
use Rattle.unwrap_sas.specs.inner.Policies.{IsConflict, IsUnopened, IsSa}
use Rattle.unwrap_sas.specs.declared.joining.SasFault.TheVariants.{KeyMissing}

module _ (roots : List Root) (entries : List WrapKey) (size : ℕ) (f : Frame) (tick : ℕ) where
  -- ---- policies among more policies
  module _ (l m : List GroupSaPolicy) where
    in-more : (a : GroupSaPolicy) → In a l → In a (l ++ m)
    in-more a i = member-in a (l ++ m) (Memᴰ.append_left m (in-member a l i))

    pub conflict-wider : SomeConflict roots entries size f l → SomeConflict roots entries size f (l ++ m)
    conflict-wider e = record { sa = e.sa; stands = in-more e.sa e.stands; conflict = e.conflict }

    unopened-wider : SomeUnopened roots entries size f l → SomeUnopened roots entries size f (l ++ m)
    unopened-wider e = record { sa = e.sa; stands = in-more e.sa e.stands; none = e.none }

  module _ (l : List GroupSaPolicy) (a : GroupSaPolicy) where
    last-in : In a (l ++ (a ∷ []))
    last-in = member-in a (l ++ (a ∷ [])) (Memᴰ.append_right l (in-member a (a ∷ []) (in_head a a [] refl)))

    fit-further : NoConflict roots entries size f l → (CopiesConflict roots entries size (announced_as f a) → ⊥) →
        NoConflict roots entries size f (l ++ (a ∷ []))
    fit-further n h b i c =
        ⊎_elim (λ m. n b (member-in b l m) c)
        (λ m. h (subst (λ (x : GroupSaPolicy). CopiesConflict roots entries size (announced_as f x)) (Memᴰ.eq_of_singleton m) c))
        (Memᴰ.append_cases l (in-member b (l ++ (a ∷ [])) i))

  -- where no copy opens, none opens to a wrong size or to another value
  pub unopened-fit : (a : GroupSaPolicy) → IsUnopened roots entries size f a → CopiesConflict roots entries size (announced_as f a) → ⊥
  unopened-fit a n (wrong_size x o h) = n x o
  unopened-fit a n (two-values x y o p h) = n x o

  enter-further : {l : List GroupSaPolicy} {m : List Sa} (a : GroupSaPolicy) (x : List ℕ) → Enter roots entries size tick f l m →
      KeyOf roots entries size (announced_as f a) x → Enter roots entries size tick f (l ++ (a ∷ [])) (m ++ (sa_from tick a x ∷ []))
  enter-further a x no-sa k = one_more x k no-sa
  enter-further a x (one_more y h e) k = one_more y h (enter-further a x e k)

  -- ---- by what was found
  module _ (l : List GroupSaPolicy) (a : GroupSaPolicy) where
    pub conflict-more : IsConflict roots entries size f a → SomeConflict roots entries size f (l ++ (a ∷ []))
    conflict-more e = record { sa = a; stands = last-in l a; conflict = e }

    no-conflict : (missing : Bool) (sas : List Sa) (n : ℕ) → KeysOf roots entries size f l tick (found_by missing) sas n →
        NoConflict roots entries size f l
    no-conflict true sas n k = k.0
    no-conflict false sas n k = k.0

    pub unopened-more : (missing : Bool) (sas : List Sa) (n : ℕ) → KeysOf roots entries size f l tick (found_by missing) sas n →
        IsUnopened roots entries size f a → KeysOf roots entries size f (l ++ (a ∷ [])) tick (Err KeyMissing) sas n
    unopened-more missing sas n k u =
        (fit-further l a (no-conflict missing sas n k) (unopened-fit a u), record { sa = a; stands = last-in l a; none = u })

    pub sa-more : (missing : Bool) (sas : List Sa) (n : ℕ) → KeysOf roots entries size f l tick (found_by missing) sas n → (sa : Sa)
        (openers : Openers) → n < length sas → IsSa tick sa openers roots entries size f a →
        KeysOf roots entries size f (l ++ (a ∷ [])) tick (found_by missing) (set sas n sa) (n + 1)
    sa-more true sas n k sa o h u = (fit-further l a k.0 u.fit, unopened-wider l (a ∷ []) k.1)
    sa-more false sas n k sa o h u =
        let s = set sas n sa in
        let t : take (n + 1) s ≡ take n sas ++ (sa_from tick a u.x ∷ []) =
        ap (λ (i : ℕ). take i s) (add-one n) ∙ take-suc-set sas n sa h
        ∙ ap (λ (x : Sa). take n sas ++ (x ∷ [])) u.is in
        let c = length-append l (a ∷ []) in
        let q = k.2 in (
          fit-further l a k.0 u.fit,
          subst (Enter roots entries size tick f (l ++ (a ∷ []))) (sym t) (enter-further a u.x k.1 u.key),
          omega arith,
        )
