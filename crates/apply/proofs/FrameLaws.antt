-- SAs that the Delete payloads of a frame retire, one payload after the other.
use native.Mathlib.Omega.{arith}
use Prim.Native.Nat.{ℕ, ◌+◌, ◌-◌, ◌≤◌}
use mathlib.Core.Path.{◌≡◌, refl, ap, sym, subst, ◌∙◌}
use mathlib.Core.Bool.{Bool, true, false, ◌||◌, ◌&&◌}
use mathlib.Core.List.{List, [], ◌∷◌, ◌++◌, append_assoc, append-nil, flat_map}
use borrow.Author.Tests.{eqb-true, eqb-false}
use lib.Dec.{eqb}
use lib.ListN.{length, drop}
use Rattle.octets.specs.Walk.{part}
use Rattle.octets.specs.Compare.{same}
use Rattle.lists.specs.Lists.{any}
use Rattle.lists.proofs.Cases.{bool_cases}
use Rattle.state_sa.specs.Entry.{esp_protocol, sa_spi}
use Rattle.state_sa.specs.declared.entry.Sa.{Sa}
use Rattle.state_table.specs.declared.Table.{Table}
use Rattle.wire_frames.specs.Delete.{Delete, delete_of}
use Rattle.wire_frames.specs.Frame.{payloads, nothing_left}
use Rattle.wire_readers.specs.inner.Values.{is_whole}
use Rattle.wire_readers.specs.inner.Payloads.{payloads_in}
use Rattle.wire_readers.specs.declared.payload.PayloadParts.{PayloadParts}
use Rattle.check_payloads.specs.inner.Deletion.{spis_in, deletes_among}
use Rattle.check_payloads.proofs.StepLaws.{Step}
use Rattle.check_payloads.proofs.DeletedLaws.{delete-here, delete-later, delete-none}
use Rattle.rules_outcome.specs.After.{is_zero}
use Rattle.apply.specs.declared.retiring.DeletesAt.{DeletesAt}
use Rattle.apply.specs.inner.Tables.{named_in, retired_there, AreDeletes}
use Rattle.apply.proofs.RetiringLaws.{there-none, there-more}

-- the first of all Delete payloads have retired what they name; the others are left
pub record Retires (now delay : ℕ) (before after : Table) (left all : List Delete) : Type 0 where
  pub passed : List Delete
  pub joined : passed ++ left ≡ all
  pub so_far : after ≡ retired_there (named_in (spis_in passed)) now delay before

module _ (now delay : ℕ) (before : Table) where
  pub retires-start : (all : List Delete) → Retires now delay before before all all
  unfolding flat_map
  retires-start all = record { passed = []; joined = refl; so_far = there-none now delay before }

  spis-more : (l : List Delete) (d : Delete) → spis_in (l ++ (d ∷ [])) ≡ spis_in l ++ d.spis
  unfolding flat_map
  spis-more [] d = append-nil d.spis
  spis-more (x ∷ l) d = ap (λ (y : List (List ℕ)). x.spis ++ y) (spis-more l d) ∙ sym (append_assoc x.spis (spis_in l) d.spis)

  any-join : {A : Type 0} (q : A → Bool) (l m : List A) → any q (l ++ m) ≡ (any q l || any q m)
  unfolding any
  any-join q [] m = refl
  any-join q (a ∷ l) m = by (q a) (any-join q l m)
    where
      by : (b : Bool) → any q (l ++ m) ≡ (any q l || any q m) → (b || any q (l ++ m)) ≡ ((b || any q l) || any q m)
      by true e = refl
      by false e = e

  named-join : (l m : List (List ℕ)) (a : Sa) → (named_in l a || named_in m a) ≡ named_in (l ++ m) a
  named-join l m a =
      let q : List ℕ → Bool = λ y. is_zero y || same (sa_spi a) y in
      by (eqb a.protocol esp_protocol) (any q l) (any q m) (any q (l ++ m)) (any-join q l m)
    where
      by : (e x y z : Bool) → z ≡ (x || y) → ((e && x) || (e && y)) ≡ (e && z)
      by true x y z g = sym g
      by false x y z g = refl

  module _ (now-is after : Table) (d : Delete) (list left all : List Delete) (first : list ≡ d ∷ left)
      (goes : after ≡ retired_there (named_in d.spis) now delay now-is) (r : Retires now delay before now-is list all) where
    pub retires-here : Retires now delay before after left all
    retires-here = record {
      passed = r.passed ++ (d ∷ []);
      joined = append_assoc r.passed (d ∷ []) left ∙ ap (λ (y : List Delete). r.passed ++ y) (sym first) ∙ r.joined;
      so_far = goes ∙ ap (retired_there (named_in d.spis) now delay) r.so_far
          ∙ there-more now delay (spis_in r.passed) d.spis before
          ∙ ap (λ (q : Sa → Bool). retired_there q now delay before)
          (λ i a. (named-join (spis_in r.passed) d.spis a
          ∙ ap (λ (y : List (List ℕ)). named_in y a) (sym (spis-more r.passed d))) i);
    }

  pub retires-later : (t : Table) (list left all : List Delete) → list ≡ left → Retires now delay before t list all →
      Retires now delay before t left all
  retires-later t list left all e r = subst (λ (y : List Delete). Retires now delay before t y all) e r

  -- none is left
  pub retires-all : (t : Table) (left all : List Delete) → left ≡ [] → Retires now delay before t left all →
      t ≡ retired_there (named_in (spis_in all)) now delay before
  retires-all t left all e r =
      let passed : r.passed ≡ all = sym (append-nil r.passed) ∙ ap (λ (y : List Delete). r.passed ++ y) (sym e) ∙ r.joined in
      r.so_far ∙ ap (λ (y : List Delete). retired_there (named_in (spis_in y)) now delay before) passed

-- ---- the walk from the first Delete payload to the last
empty : {A : Type 0} (l : List A) → length l ≡ 0 → l ≡ []
empty [] z = refl
empty (x ∷ l) z = absurd (omega arith)

pub same-deletes : (s : List ℕ) (d : DeletesAt) (l m : List Delete) → AreDeletes s d l → AreDeletes s d m → l ≡ m
same-deletes s d l m x y =
    bool_cases (eqb d.count 0)
    (λ e. let z = eqb-true d.count 0 e in empty l (x.count ∙ z) ∙ sym (empty m (y.count ∙ z)))
    (λ e. let z = eqb-false d.count 0 e in sym (x.from z).all ∙ (y.from z).all)

module _ (s : List ℕ) (now delay : ℕ) (before : Table) where
  -- where it stands: so many are left, and where one is left, these stand from a payload of a type on
  pub record Going (all : List Delete) (after : Table) (left kind at : ℕ) : Type 0 where
    pub others : List Delete
    pub many : length others ≡ left
    pub inside : (left ≡ 0 → ⊥) → at ≤ length s
    pub rest : (left ≡ 0 → ⊥) → is_whole (nothing_left (payloads false kind 0 (drop at s))) ≡ true
    pub here : (left ≡ 0 → ⊥) → deletes_among (payloads_in false kind (drop at s)) ≡ others
    pub so_far : Retires now delay before after others all

  pub going_start : (d : DeletesAt) (l : List Delete) → AreDeletes s d l → Going l before d.count 42 d.start
  going_start d l x = record {
    others = l;
    many = x.count;
    inside = λ z. (x.from z).inside;
    rest = λ z. (x.from z).rest;
    here = λ z. (x.from z).all;
    so_far = retires-start now delay before l;
  }

  module _ (all : List Delete) (t : Table) (left kind at : ℕ) (w : Going all t left kind at) where
    pub going_end : left ≤ 0 → t ≡ retired_there (named_in (spis_in all)) now delay before
    going_end h = retires-all now delay before t w.others all (empty w.others (omega (arith, w.many))) w.so_far

    module _ (some : left ≡ 0 → ⊥) where
      -- the type 0 ends the payloads
      pub going-kind : kind ≡ 0 → ⊥
      unfolding flat_map
      going-kind z = some (sym w.many ∙ ap length (sym (w.here some) ∙ delete-none (drop at s) kind z))

      module _ (r : PayloadParts) (g : Step false kind s at r) where
        abbrev Later : List Delete
        Later = deletes_among (payloads_in false r.next (drop (at + r.end) s))

        pub going-here : kind ≡ 42 → (after : Table) →
            after ≡ retired_there (named_in (delete_of (part s (at + 4) (at + r.end))).spis) now delay t →
            Going all after (left - 1) r.next (at + r.end)
        going-here e after goes =
            let first : w.others ≡ delete_of (part s (at + 4) (at + r.end)) ∷ Later = sym (w.here some) ∙ delete-here kind s at r g e in
            record {
              others = Later;
              many = omega (arith, w.many, ap length first);
              inside = λ z. g.inside;
              rest = λ z. g.rest;
              here = λ z. refl;
              so_far = retires-here now delay before t after _ w.others Later all first goes w.so_far;
            }

        pub going-later : (kind ≡ 42 → ⊥) → Going all t left r.next (at + r.end)
        going-later e =
            let same : w.others ≡ Later = sym (w.here some) ∙ delete-later kind s at r g e in
            record {
              others = Later;
              many = ap length (sym same) ∙ w.many;
              inside = λ z. g.inside;
              rest = λ z. g.rest;
              here = λ z. refl;
              so_far = retires-later now delay before t w.others Later all same w.so_far;
            }
