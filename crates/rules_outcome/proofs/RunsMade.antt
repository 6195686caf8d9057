-- What an SA that a policy announces is: as a table's SAs must be, with the policy's name, blank in its unused places, live.
use native.Mathlib.Omega.{arith}
use Prim.Native.Nat.{ℕ, suc, ◌+◌, ◌-◌, ◌≤◌}
use mathlib.Core.Path.{◌≡◌, refl, ap, sym, ◌∙◌}
use mathlib.Core.Bool.{Bool, true, false, cond, ◌&&◌, ◌||◌, false≢true}
use mathlib.Core.List.{List, [], ◌∷◌, Memᴰ}
use borrow.Author.Tests.{ne_eqb, eqb-true, le-leb, ltb-false, lt-ltb}
use lib.Dec.{eqb, ltb}
use lib.ListN.{length, replicate}
use lib.Seq.{take_at}
use Rattle.octets.specs.Compare.{same}
use Rattle.lists.specs.Lists.{any, count}
use Rattle.state_keys.specs.Algorithms.{is_encryption_size}
use Rattle.state_keys.specs.Kinds.{rekey_sizes}
use Rattle.wire_attributes.specs.Tree.{WrapKey}
use Rattle.wire_policies.specs.Policy.{GroupSaPolicy}
use Rattle.wire_frames.specs.Frame.{Frame}
use Rattle.state_sa.specs.Entry.{sa_spi, named, most_seconds, fit_lifetime, sa_formed, live_rekey, esp_sa, rekey_sa}
use Rattle.state_sa.specs.Blank.{ZeroPadded}
use Rattle.state_sa.specs.declared.entry.Sa.{Sa}
use Rattle.state_sa.proofs.Kept.{esp-blank, rekey-blank, esp-formed, rekey-formed}
use Rattle.rules_refusals.specs.Contents.{several}
use Rattle.rules_refusals.specs.Fitness.{is_esp, is_rekey, sum, encryption_octets, key_wrap_octets}
use Rattle.rules_refusals.specs.Number6.{policy_named}
use Rattle.rules_chains.specs.Chain.{Root}
use Rattle.rules_chains.specs.Refusals.{KeyOf}
use Rattle.rules_outcome.specs.Roots.{need_of, announced_as}
use Rattle.rules_outcome.specs.After.{lifetime_from, sa_from, Enter, no-sa, one_more}

-- a policy that numbers 1, 4 and 5 let pass: of ESP or a Rekey SA, with an SPI of its size and transforms that need these octets
pub data Kind (a : GroupSaPolicy) : Type 0 where
  an-esp : is_esp a ≡ true → length a.spi ≡ 4 → is_encryption_size (encryption_octets a) ≡ true → key_wrap_octets a ≡ 0 → Kind a
  a-rekey : is_esp a ≡ false → is_rekey a ≡ true → length a.spi ≡ 16 → rekey_sizes (encryption_octets a) (key_wrap_octets a) ≡ true → Kind a

-- with at most one lifetime, of at most 2,000,000 seconds
abbrev pub Lasts : GroupSaPolicy → Type 0
Lasts a = (several a.key_lifetimes ≡ false) × (any (λ (n : ℕ). ltb most_seconds n) a.key_lifetimes ≡ false)

made-lifetime : (now : ℕ) (l : List ℕ) → several l ≡ false → any (λ (n : ℕ). ltb most_seconds n) l ≡ false →
    fit_lifetime (lifetime_from now l) ≡ true
unfolding lifetime_from sum any
made-lifetime now [] e h = refl
made-lifetime now (n ∷ []) e h = le-leb (n + 0) most_seconds (by (ltb most_seconds n) refl h)
  where
    by : (b : Bool) → ltb most_seconds n ≡ b → b || false ≡ false → n + 0 ≤ most_seconds
    by true g f = absurd (false≢true (sym f))
    by false g f = let k = ltb-false most_seconds n g in omega arith
made-lifetime now (n ∷ m ∷ l) e h =
    absurd (false≢true (sym e ∙ lt-ltb 1 (length (n ∷ m ∷ l)) (omega arith)))

module _ (now : ℕ) (a : GroupSaPolicy) (x : List ℕ) where
  pub made-protocol : Kind a → (sa_from now a x).protocol ≡ a.protocol
  unfolding sa_from esp_sa rekey_sa
  made-protocol (an-esp e l s k) = rw e (sym (eqb-true a.protocol 3 e))
  made-protocol (a-rekey e r l s) = rw e (sym (eqb-true a.protocol 6 r))

  pub made-spi : Kind a → sa_spi (sa_from now a x) ≡ a.spi
  unfolding sa_from esp_sa rekey_sa
  made-spi (an-esp e l s k) = rw e (take_at a.spi (replicate (16 - length a.spi) 0) 4 l)
  made-spi (a-rekey e r l s) = rw e (take_at a.spi (replicate (16 - length a.spi) 0) 16 l)

  pub made-live : Kind a → live_rekey (sa_from now a x) ≡ is_rekey a
  unfolding sa_from esp_sa rekey_sa live_rekey
  made-live (an-esp e l s k) =
      rw e (sym (ne_eqb a.protocol 6 (λ p. let q = eqb-true a.protocol 3 e in omega arith)))
  made-live (a-rekey e r l s) = rw e (sym r)

  module _ (n : length x ≡ need_of a) where
    pub made-formed : Kind a → Lasts a → sa_formed (sa_from now a x) ≡ true
    unfolding need_of sa_from
    made-formed (an-esp e l s k) h =
        let z : length x ≡ encryption_octets a = omega arith in
        let t = lifetime_from now a.key_lifetimes in
        rw e (esp-formed a.spi x t (ap is_encryption_size z ∙ s) (made-lifetime now a.key_lifetimes h.0 h.1))
    made-formed (a-rekey e r l s) h =
        let t = lifetime_from now a.key_lifetimes in
        rw e (rekey-formed a.spi x (encryption_octets a) (key_wrap_octets a) t s (made-lifetime now a.key_lifetimes h.0 h.1))

    pub made-blank : Kind a → ZeroPadded (sa_from now a x)
    unfolding need_of sa_from
    made-blank (an-esp e l s k) = rw e (esp-blank a.spi x (lifetime_from now a.key_lifetimes) l)
    made-blank (a-rekey e r l s) =
        rw e (rekey-blank a.spi x (encryption_octets a) (key_wrap_octets a) (lifetime_from now a.key_lifetimes) l n)

-- ---- the SAs that policies announce
pub data Made (now : ℕ) : List GroupSaPolicy → List Sa → Type 0 where
  none_made : Made now [] []
  and-made : {l : List GroupSaPolicy} {m : List Sa} (a : GroupSaPolicy) (x : List ℕ) → Kind a → Lasts a → length x ≡ need_of a →
      Made now l m → Made now (a ∷ l) (sa_from now a x ∷ m)

pub enter-made : {roots : List Root} {entries : List WrapKey} {size now : ℕ} {f : Frame} {l : List GroupSaPolicy} {m : List Sa} →
    Enter roots entries size now f l m → ((a : GroupSaPolicy) → Memᴰ a l → Kind a) →
    ((a : GroupSaPolicy) → Memᴰ a l → Lasts a) →
    ((a : GroupSaPolicy) → Memᴰ a l → (x : List ℕ) → KeyOf roots entries size (announced_as f a) x → length x ≡ need_of a) →
    Made now l m
enter-made no-sa k t n = none_made
enter-made (one_more {a} x v e) k t n =
    and-made a x (k a (Memᴰ.head refl)) (t a (Memᴰ.head refl)) (n a (Memᴰ.head refl) x v)
    (enter-made e (λ b m. k b (Memᴰ.tail m)) (λ b m. t b (Memᴰ.tail m)) (λ b m. n b (Memᴰ.tail m)))

pub made-length : {now : ℕ} {l : List GroupSaPolicy} {m : List Sa} → Made now l m → length m ≡ length l
made-length none_made = refl
made-length (and-made a x k t n r) = ap suc (made-length r)

pub made-count : {now : ℕ} {l : List GroupSaPolicy} {m : List Sa} → Made now l m → count live_rekey m ≡ count is_rekey l
unfolding count
made-count none_made = refl
made-count {now} (and-made a x k t n r) = λ i. cond (made-live now a x k i) (made-count r i + 1) (made-count r i)

pub made-any : (p : ℕ) (y : List ℕ) {now : ℕ} {l : List GroupSaPolicy} {m : List Sa} → Made now l m →
    any (named p y) m ≡ any (policy_named p y) l
unfolding any named
made-any p y none_made = refl
made-any p y {now} (and-made a x k t n r) =
    λ i. (eqb (made-protocol now a x k i) p && same (made-spi now a x k i) y) || made-any p y r i
