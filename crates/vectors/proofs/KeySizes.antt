-- The sizes of keys.
use Rattle.std.proofs.Common.{◌≡◌, ℕ, T, sym, subst}
use Rattle.fips197.specs.Key.{is_key}

pub is-16 : (n : ℕ) → n ≡ 16 → T (is_key n)
unfolding is_key
is-16 n e = subst (λ (m : ℕ). T (is_key m)) (sym e) tt

pub is-24 : (n : ℕ) → n ≡ 24 → T (is_key n)
unfolding is_key
is-24 n e = subst (λ (m : ℕ). T (is_key m)) (sym e) tt

pub is_32 : (n : ℕ) → n ≡ 32 → T (is_key n)
unfolding is_key
is_32 n e = subst (λ (m : ℕ). T (is_key m)) (sym e) tt
