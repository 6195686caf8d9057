-- What the code of an SA finds is what the definitions say.
use Rattle.std.proofs.Common.{◌≡◌, ℕ, ◌+◌, ◌-◌, ◌*◌, ◌%◌, ◌^◌, ◌<◌, ◌≤◌, Bool, true, false, eqb, leb, List, take, sym, ap, ◌∙◌, arith, le-ltb, eq-eqb, ne_eqb}
use Rattle.octets.specs.Compare.{less, same}
use Rattle.state_keys.specs.Kinds.{rekey_sizes}
use Rattle.state_sa.specs.declared.entry.Condition.{Condition}
use Rattle.state_sa.specs.declared.entry.Condition.TheVariants.{Live, Retiring}
use Rattle.state_sa.specs.declared.entry.Lifetime.TheVariants.{Unlimited, Limited}
use Rattle.state_sa.specs.declared.entry.Sa.{Sa}
use Rattle.state_sa.specs.Clock.{elapsed_at_least}
use Rattle.state_sa.specs.Entry.{esp_protocol, rekey_protocol, sa_spi_size, sa_spi, sa_before, named, sa_sized, live_rekey, due_by, ran_out}
use Rattle.state_sa.specs.Entry.{retired_by, retired}
use Rattle.state_sa.specs.Entry.{with_condition}

-- ---- the clock
-- the wrapping difference is the one number below 2^32 that makes up the tick
wrap-unique : (r s n : ℕ) → r < 2 ^ 32 → s < 2 ^ 32 → n < 2 ^ 32 → (r + s) % 2 ^ 32 ≡ n → r ≡ ((n + 2 ^ 32) - s) % 2 ^ 32
wrap-unique r s n hr hs hn e = omega arith

pub elapsed-is : (r now start seconds : ℕ) → r < 2 ^ 32 → start < 2 ^ 32 → now < 2 ^ 32 → (r + start) % 2 ^ 32 ≡ now →
    leb (seconds * 1000) r ≡ elapsed_at_least now start seconds
unfolding elapsed_at_least
elapsed-is r now start seconds hr hs hn e =
    let p : seconds * 1000 ≡ 1000 * seconds = omega arith in
    let q = wrap-unique r start now hr hs hn e in
    cc

-- ---- due and retiring
module _ (s : Sa) where
  pub due-live : (now : ℕ) → s.condition ≡ Live → false ≡ due_by now s.condition
  due-live now e = sym (ap (due_by now) e)

  pub due-retiring : (now start delay : ℕ)
      (r : Bool) → s.condition ≡ Retiring start delay → r ≡ elapsed_at_least now start delay → r ≡ due_by now s.condition
  due-retiring now start delay r e f = f ∙ sym (ap (due_by now) e)

  pub never-out : (now : ℕ) → s.lifetime ≡ Unlimited → false ≡ ran_out now s.lifetime
  never-out now e = sym (ap (ran_out now) e)

  pub out-by : (now start seconds : ℕ)
      (r : Bool) → s.lifetime ≡ Limited start seconds → r ≡ elapsed_at_least now start seconds → r ≡ ran_out now s.lifetime
  out-by now start seconds r e f = f ∙ sym (ap (ran_out now) e)

  pub retired-live : (now delay : ℕ) (r : Sa) → s.condition ≡ Live → r ≡ with_condition (Retiring now delay) s → r ≡ retired now delay s
  unfolding retired
  retired-live now delay r e f = f ∙ sym (ap (λ (c : Condition). with_condition (retired_by now delay c) s) e)

  pub retired-kept : (now delay start wait : ℕ) → s.condition ≡ Retiring start wait → s ≡ retired now delay s
  unfolding retired
  retired-kept now delay start wait e =
      ap (λ (c : Condition). with_condition c s) e ∙ sym (ap (λ (c : Condition). with_condition (retired_by now delay c) s) e)

  pub live-rekey : s.protocol ≡ rekey_protocol → s.condition ≡ Live → true ≡ live_rekey s
  unfolding live_rekey
  live-rekey p e = rw (eq-eqb s.protocol rekey_protocol p, e)

  pub retiring-rekey : (start wait : ℕ) → s.protocol ≡ rekey_protocol → s.condition ≡ Retiring start wait → false ≡ live_rekey s
  unfolding live_rekey
  retiring-rekey start wait p e = rw (eq-eqb s.protocol rekey_protocol p, e)

  -- ---- the tests of its octet counts
  pub sized-rekey : (r : Bool) → (s.protocol ≡ esp_protocol → ⊥) → s.protocol ≡ rekey_protocol →
      rekey_sizes s.encryption s.wrapping ≡ true →
      r ≡ eqb s.count (s.encryption + s.wrapping) → r ≡ sa_sized s
  unfolding sa_sized
  sized-rekey r a b e f = rw (ne_eqb s.protocol esp_protocol a, eq-eqb s.protocol rekey_protocol b, e) f

-- ---- the order and the name, by the octets in use
pub before-spi : (a b : Sa) (n m : ℕ) (r : Bool) → b.protocol ≤ a.protocol → a.protocol ≤ b.protocol → n ≡ sa_spi_size a.protocol →
    m ≡ sa_spi_size b.protocol → r ≡ less (take (n - 0) a.spi) (take (m - 0) b.spi) → r ≡ sa_before a b
unfolding sa_before
before-spi a b n m r g h e f p =
    let x : n - 0 ≡ sa_spi_size a.protocol = omega arith in
    let y : m - 0 ≡ sa_spi_size b.protocol = omega arith in
    rw (le-ltb a.protocol b.protocol g, le-ltb b.protocol a.protocol h)
    (p ∙ ap (λ (k : ℕ). less (take k a.spi) (take (m - 0) b.spi)) x ∙ ap (λ (k : ℕ). less (sa_spi a) (take k b.spi)) y)

pub named-spi : (s : Sa) (p n : ℕ) (x : List ℕ) (r : Bool) → s.protocol ≡ p → n ≡ sa_spi_size s.protocol →
    r ≡ same (take n s.spi) x → r ≡ named p x s
unfolding named
named-spi s p n x r e f q = rw (eq-eqb s.protocol p e) (q ∙ ap (λ (k : ℕ). same (take k s.spi) x) f)
