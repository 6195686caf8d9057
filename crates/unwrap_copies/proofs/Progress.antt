-- Where a walk over tries stands: what is told of those that were made, and which are left.
use Prim.Native.Nat.{ℕ}
use mathlib.Core.Path.{◌≡◌, refl, ap, sym, ◌∙◌, subst}
use mathlib.Core.List.Memᴰ
use mathlib.Core.List.{List, [], ◌++◌, append-nil, append_assoc}
use Rattle.rules_chains.proofs.Members.{in-member}
use Rattle.unwrap_copies.specs.declared.answer.CopyFound.TheVariants.{Nothing}
use Rattle.unwrap_copies.specs.declared.answer.CopyOpened.{CopyOpened}
use Rattle.unwrap_copies.specs.inner.Tries.{Try, CopyTells}
use Rattle.unwrap_copies.proofs.Joining.{tell}

-- of all tries some were made, of which r tells, and the rest is left
pub record Progress (need : ℕ) (all rest : List Try) (r : CopyOpened) : Type 0 where
  pub made : List Try
  pub joins : made ++ rest ≡ all
  pub tells : CopyTells made need r

-- nothing tells of no try
pub tells_none : (need : ℕ) (r : CopyOpened) → r.found ≡ Nothing → CopyTells [] need r
tells_none need r e = tell [] need r Nothing e (λ x s. Memᴰ.not-nil (in-member s.one [] s.stands))

-- after the first of them
pub began : (need : ℕ) (first rest : List Try) (r : CopyOpened) → CopyTells first need r → Progress need (first ++ rest) rest r
began need first rest r t = record { made = first; joins = refl; tells = t }

module _ (need : ℕ) (all : List Try) where
  pub starts : (r : CopyOpened) → r.found ≡ Nothing → Progress need all all r
  starts r e = began need [] all r (tells_none need r e)

  -- some more are made, and what they tell is joined
  pub goes_on : (left m rest : List Try) (a b r : CopyOpened) → left ≡ m ++ rest → Progress need all left a → CopyTells m need b →
      ((k : ℕ) (x y : List Try) → CopyTells x k a → CopyTells y k b → CopyTells (x ++ y) k r) → Progress need all rest r
  goes_on left m rest a b r e p t f =
      record {
        made = p.made ++ m;
        joins = append_assoc p.made m rest ∙ ap (λ (l : List Try). p.made ++ l) (sym e) ∙ p.joins;
        tells = f need p.made m p.tells t;
      }

  pub ends : (rest : List Try) (r : CopyOpened) → rest ≡ [] → Progress need all rest r → CopyTells all need r
  ends rest r e p =
      subst (λ (l : List Try). CopyTells l need r) (sym (append-nil p.made) ∙ ap (λ (l : List Try). p.made ++ l) (sym e) ∙ p.joins)
      p.tells
