-- THE ROW OF AN EXCHANGE TYPE, by cases: 39 and 40 register, 41 rekeys over the Rekey SA, 42 over the member's own channel (RFC 9838,
-- section 9.2), any other is number 2. Every law that goes by the exchange goes through this one, so that one exchange more is one case
-- more in each of them.
use Prim.Native.Nat.{ℕ}
use mathlib.Core.Path.{◌≡◌}
use mathlib.Core.Logic.{◌⊎◌, inl, inr}
use borrow.Author.Tests.{eqb-true}
use lib.Dec.{eqb}
use Rattle.lists.proofs.Cases.{bool_cases}
use Rattle.wire_frames.specs.Exchange.{registration, rekey, inband, other, exchange_of}

pub by_row : (P : Type 0) (x : ℕ) → (((x ≡ 39) ⊎ (x ≡ 40)) → exchange_of x ≡ registration → P) → (x ≡ 41 → exchange_of x ≡ rekey → P) →
    (x ≡ 42 → exchange_of x ≡ inband → P) → (exchange_of x ≡ other → P) → P
by_row P x registers rekeys in-band not_taken =
    bool_cases (eqb x 39) (λ a. registers (inl (eqb-true x 39 a)) (rw a))
    (λ a.
    bool_cases (eqb x 40) (λ b. registers (inr (eqb-true x 40 b)) (rw (a, b)))
    (λ b.
    bool_cases (eqb x 41) (λ c. rekeys (eqb-true x 41 c) (rw (a, b, c)))
    (λ c. bool_cases (eqb x 42) (λ d. in-band (eqb-true x 42 d) (rw (a, b, c, d))) (λ d. not_taken (rw (a, b, c, d))))))
