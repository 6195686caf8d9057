-- What retiring leaves of an SA, and that what is made is blank in its unused places.
use Rattle.std.proofs.Common.{◌≡◌, ℕ, ◌+◌, ◌-◌, true, false, eqb, List, length, take, replicate, sym, refl, ap, ◌∙◌, arith, take_at, eq-eqb}
use mathlib.Core.Bool.{and-false}
use lib.Seq.{take-append_seam}
use Rattle.state_keys.specs.Algorithms.{is_encryption_size}
use Rattle.state_keys.specs.Kinds.{padded, esp_of, rekey_of, rekey_sizes}
use Rattle.state_sa.specs.declared.entry.Condition.{Condition}
use Rattle.state_sa.specs.declared.entry.Condition.TheVariants.{Live, Retiring}
use Rattle.state_sa.specs.declared.entry.Lifetime.{Lifetime}
use Rattle.state_sa.specs.declared.entry.Sa.{Sa}
use Rattle.state_sa.specs.Entry.{rekey_protocol, sa_before, sa_sized, fit_lifetime, sa_formed, is_live, live_rekey, retired_by, retired}
use Rattle.state_sa.specs.Entry.{esp_sa, rekey_sa}
use Rattle.state_sa.specs.Blank.{ZeroPadded}

-- ---- retiring leaves an SA's name and octets
module _ (now delay : ℕ) where
  pub retired-protocol : (s : Sa) → (retired now delay s).protocol ≡ s.protocol
  unfolding retired
  retired-protocol s = refl

  pub retired-formed : (s : Sa) → sa_formed (retired now delay s) ≡ sa_formed s
  unfolding retired sa_sized sa_formed
  retired-formed s = refl

  pub retired-before : (a b : Sa) → sa_before (retired now delay a) (retired now delay b) ≡ sa_before a b
  unfolding retired sa_before
  retired-before a b = refl

  pub retired-before-left : (a b : Sa) → sa_before (retired now delay a) b ≡ sa_before a b
  unfolding retired sa_before
  retired-before-left a b = refl

  pub retired-before-right : (a b : Sa) → sa_before a (retired now delay b) ≡ sa_before a b
  unfolding retired sa_before
  retired-before-right a b = refl

  no-live : (c : Condition) → is_live (retired_by now delay c) ≡ false
  no-live Live = refl
  no-live (Retiring s d) = refl

  -- no SA that was retired is live
  pub retired-rekey : (s : Sa) → live_rekey (retired now delay s) ≡ false
  unfolding retired live_rekey
  retired-rekey s = rw (no-live s.condition) (and-false (eqb s.protocol rekey_protocol))

  pub retired-blank : (s : Sa) → ZeroPadded s → ZeroPadded (retired now delay s)
  unfolding retired
  retired-blank s b = record { spi = b.spi; octets = b.octets; parts = b.parts }

-- ---- what is made is blank in its unused places
pub esp-blank : (x y : List ℕ) (t : Lifetime) → length x ≡ 4 → ZeroPadded (esp_sa x (esp_of y) t)
unfolding esp_sa
esp-blank x y t e =
    let g : take (length y) (padded 36 y) ≡ y = take-append_seam y (replicate (36 - length y) 0) in
    record {
      spi = ap (padded 16) (sym (take_at x (replicate (16 - length x) 0) 4 e));
      octets =
          ap (λ (z : List ℕ). padded 68 z) g
          ∙ ap (padded 68) (sym (take-append_seam y (replicate (68 - length y) 0)))
          ∙ ap (λ (z : List ℕ). padded 68 (take (length y) (padded 68 z))) (sym g);
      parts = λ p. (refl, refl);
    }

pub rekey-blank : (x o : List ℕ) (e w : ℕ) (t : Lifetime) → length x ≡ 16 → length o ≡ e + w → ZeroPadded (rekey_sa x (rekey_of o e w) t)
unfolding rekey_sa
rekey-blank x o e w t f g =
    record {
      spi = ap (padded 16) (sym (take_at x (replicate (16 - length x) 0) 16 f));
      octets = ap (padded 68) (sym (take_at o (replicate (68 - length o) 0) (e + w) g));
      parts = λ p. absurd (omega arith);
    }

-- ---- what is made of fitting keys is as a table's SAs must be
pub esp-formed : (x y : List ℕ) (t : Lifetime) → is_encryption_size (length y) ≡ true → fit_lifetime t ≡ true
    → sa_formed (esp_sa x (esp_of y) t) ≡ true
unfolding esp_sa sa_sized sa_formed
esp-formed x y t e h = rw (e, h)

pub rekey-formed : (x o : List ℕ) (e w : ℕ) (t : Lifetime) → rekey_sizes e w ≡ true → fit_lifetime t ≡ true →
    sa_formed (rekey_sa x (rekey_of o e w) t) ≡ true
unfolding rekey_sa sa_sized sa_formed
rekey-formed x o e w t f h = rw (f, eq-eqb (e + w) (e + w) refl, h)
