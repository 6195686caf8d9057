-- The try of a copy, by the key that its KWK ID names.
use Prim.Native.Nat.{ℕ}
use mathlib.Core.Path.{◌≡◌, refl, ap, sym, ◌∙◌, subst}
use mathlib.Core.List.{List, [], ◌∷◌}
use borrow.Author.Tests.{ne_eqb}
use lib.ListN.{length}
use Rattle.std.specs.Prelude.{Some}
use Rattle.aes.specs.inner.Schedule.{ExpandsInverse}
use Rattle.aes.specs.declared.InverseSchedule.{InverseSchedule}
use Rattle.wire_attributes.specs.Tree.{SaKey}
use Rattle.state.specs.declared.held.HeldKey.{HeldKey}
use Rattle.unwrap_lending.specs.inner.Named.{octets_named}
use Rattle.unwrap_copies.specs.declared.answer.CopyFound.TheVariants.{Nothing}
use Rattle.unwrap_copies.specs.declared.answer.CopyOpened.{CopyOpened}
use Rattle.unwrap_copies.specs.inner.Named.{try_of, try_for}
use Rattle.unwrap_copies.specs.inner.Ready.{TriedUnder, IsReady}
use Rattle.unwrap_copies.specs.inner.Tries.{Try, CopyTells}
use Rattle.unwrap_copies.proofs.Progress.{tells_none}

-- ---- copies that name a key
module _ (v : List ℕ) (new old : List HeldKey) where
  module _ (id : ℕ) (z : id ≡ 0 → ⊥) (key : List ℕ) (names : key ≡ octets_named id new old) where
    not-zero : (c : SaKey) → c.kwk_id ≡ id → c.kwk_id ≡ 0 → ⊥
    not-zero c k e = z (sym k ∙ e)

    value-is : (c : SaKey) → c.kwk_id ≡ id → octets_named c.kwk_id new old ≡ key
    value-is c k = ap (λ (j : ℕ). octets_named j new old) k ∙ sym names

    pub under-named : (length key ≡ 0 → ⊥) → TriedUnder v new old id key
    under-named e c k = rw (ne_eqb c.kwk_id 0 (not-zero c k), value-is c k, ne_eqb (length key) 0 e) refl

  -- ---- what the try of one of them tells
  module _ (c : SaKey) (need : ℕ) (r : CopyOpened) where
    pub tried-none : try_for v new old c ≡ [] → r.found ≡ Nothing → CopyTells (try_for v new old c) need r
    tried-none e f = subst (λ (x : List Try). CopyTells x need r) (sym e) (tells_none need r f)

    pub tried-under : (x w : List ℕ) → c.wrapped ≡ w → try_for v new old c ≡ try_of x c ∷ [] →
        CopyTells (record { key = x; wrapped = w } ∷ []) need r → CopyTells (try_for v new old c) need r
    tried-under x w o e t =
        subst (λ (y : List Try). CopyTells y need r)
        (ap (λ (y : List ℕ). record { key = x; wrapped = y } ∷ []) (sym o) ∙ sym e) t

-- ---- a key whose schedule is known
pub ready-some : (v : List ℕ) (new old : List HeldKey) (id : ℕ) (x : List ℕ) (made : InverseSchedule) → ExpandsInverse x made.words →
    TriedUnder v new old id x → IsReady v new old (record { id = id; schedule = Some made })
ready-some v new old id x made e t =
    record {
      known = λ s q.
          let z : made ≡ s = cc in (x, subst (λ (a : InverseSchedule). ExpandsInverse x a.words) z e, t);
      none = λ q. cc;
    }
