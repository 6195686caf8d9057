-- What an exchange's row makes of the keys that chains start with: in a registration, and in a rekey over the member's own channel, the
-- lent default key alone; in a rekey over the Rekey SA its default key and the held keys, with the lent key not read.
use native.Mathlib.Omega.{arith}
use Prim.Native.Nat.{ℕ, suc}
use mathlib.Core.Path.{◌≡◌, refl, ap}
use mathlib.Core.Bool.{true, false, false≢true}
use mathlib.Core.Logic.{◌⊎◌, inl, inr}
use mathlib.Core.List.{List, [], ◌∷◌, map, flat_map}
use borrow.Author.Tests.{ltb-false}
use lib.ListN.{length}
use Rattle.state_keys.specs.Limits.{Limits}
use Rattle.wire_frames.specs.Frame.{Frame}
use Rattle.wire_frames.specs.Exchange.{exchange_of, registration, rekey, inband}
use Rattle.wire_frames.specs.declared.exchanges.Exchange.{Exchange}
use Rattle.state.specs.declared.State.{State}
use Rattle.state.specs.Held.{keys_of}
use Rattle.wire_bags.specs.Bag.{MemberKeyBag}
use Rattle.rules_refusals.specs.Contents.{row_of, some, member_bags, wrap_keys_of, fresh_keys_of}
use Rattle.rules_refusals.specs.Number4.{barred_member_bag}
use Rattle.rules_refusals.specs.Number5.{lent_key_size}
use Rattle.rules_refusals.proofs.ExchangeRows.{by_row}
use Rattle.rules_outcome.specs.Roots.{own_key_of, key_zero_value, held_root, those_not_carried, roots_of, wrapping_size}
use Rattle.rules_outcome.specs.NamedKey.{Registration, Inband, Rekey, lent_root}

-- an exchange that sets the held list is a registration
pub registers : (x : ℕ) → (exchange_of x).registers ≡ true → exchange_of x ≡ registration
registers x e =
    by_row (exchange_of x ≡ registration) x (λ q r. r) (λ q r. absurd (false≢true (rw r at e))) (λ q r. absurd (false≢true (rw r at e)))
    (λ r. absurd (false≢true (rw r at e)))

-- one in which held keys open copies is a rekey over the Rekey SA
pub names-held : (x : ℕ) → (exchange_of x).names_held_keys ≡ true → x ≡ 41
names-held x e =
    by_row (x ≡ 41) x (λ q r. absurd (false≢true (rw r at e))) (λ q r. q) (λ q r. absurd (false≢true (rw r at e)))
    (λ r. absurd (false≢true (rw r at e)))

pub registration-row : (f : Frame) → Registration f → row_of f ≡ registration
registration-row f (inl e) = ap exchange_of e
registration-row f (inr e) = ap exchange_of e

-- GSA_REKEY: exchange type 41
pub rekeys : (x : ℕ) → x ≡ 41 → exchange_of x ≡ rekey
rekeys x e = ap exchange_of e

-- GSA_INBAND_REKEY: exchange type 42
pub inband-row : (f : Frame) → Inband f → row_of f ≡ inband
inband-row f e = ap exchange_of e

-- a rekey of either kind takes no Member bag
pub rekey-bars : (f : Frame) → Rekey f → (row_of f).allows_member_bag ≡ false
rekey-bars f (inl e) = ap (λ (x : Exchange). x.allows_member_bag) (rekeys f.header.exchange e)
rekey-bars f (inr e) = ap (λ (x : Exchange). x.allows_member_bag) (inband-row f e)

-- an exchange that number 2 lets pass is one of the four
pub one-of-four : (f : Frame) → (row_of f).admitted ≡ true → Registration f ⊎ Rekey f
one-of-four f e =
    by_row (Registration f ⊎ Rekey f) f.header.exchange (λ q r. inl q) (λ q r. inr (inl q)) (λ q r. inr (inr q))
    (λ r. absurd (false≢true (rw r at e)))

-- "Member bag in a rekey", over the Rekey SA or the member's own channel: one that passes number 4 has no WRAP_KEY
pub no-wrap-key : (f : Frame) → (row_of f).allows_member_bag ≡ false → barred_member_bag f ≡ false → wrap_keys_of f ≡ []
unfolding barred_member_bag flat_map
no-wrap-key f x e =
    let g : some (member_bags f) ≡ false = rw x at e in
    none-gathered (member_bags f) g
  where
    none-gathered : (l : List MemberKeyBag) → some l ≡ false → flat_map (λ (b : MemberKeyBag). b.keys) l ≡ []
    none-gathered [] q = refl
    none-gathered (b ∷ l) q = let h = ltb-false 0 (suc (length l)) q in absurd (omega arith)

module _ (limits : Limits) (s : State) (now : ℕ) (f : Frame) where
  module _ (e : row_of f ≡ registration) where
    pub lent-roots : (lent : List ℕ) → roots_of limits s now lent f ≡ lent_root lent
    unfolding roots_of key_zero_value
    lent-roots lent = rw e

    pub lent-size : (lent : List ℕ) → wrapping_size limits s now lent f ≡ length lent
    unfolding wrapping_size key_zero_value
    lent-size lent = rw e

  module _ (e : row_of f ≡ inband) where
    pub inband-roots : (lent : List ℕ) → roots_of limits s now lent f ≡ lent_root lent
    unfolding roots_of key_zero_value
    inband-roots lent = rw e

    pub inband-size : (lent : List ℕ) → wrapping_size limits s now lent f ≡ length lent
    unfolding wrapping_size key_zero_value
    inband-size lent = rw e

  module _ (e : row_of f ≡ rekey) where
    pub own-roots : (lent : List ℕ) →
        roots_of limits s now lent f
        ≡ record { id = 0; value = own_key_of limits s now } ∷ map held_root (those_not_carried (fresh_keys_of f) (keys_of s.held))
    unfolding roots_of key_zero_value
    own-roots lent = rw e

    pub own-size : (lent : List ℕ) → wrapping_size limits s now lent f ≡ length (own_key_of limits s now)
    unfolding wrapping_size key_zero_value
    own-size lent = rw e

    pub not-judged : (lent : List ℕ) → lent_key_size lent f ≡ false
    unfolding lent_key_size
    not-judged lent = rw e
