-- What is known of a frame to which none of numbers 2 to 7 applies.
use native.Mathlib.Omega.{arith}
use Prim.Native.Nat.{ℕ, suc, ◌+◌, ◌≤◌}
use mathlib.Core.Path.{◌≡◌, refl, ap, sym}
use mathlib.Core.Bool.{Bool, true, false, not, cond, false≢true}
use mathlib.Core.List.{List, [], ◌∷◌, flat_map}
use borrow.Author.Tests.{ltb-false}
use lib.ListN.{length, get_or}
use Rattle.state_keys.specs.Limits.{limits}
use Rattle.lists.specs.Lists.{any, count}
use Rattle.state_keys.specs.Algorithms.{is_wrapping_size}
use Rattle.wire_policies.specs.Policy.{GroupSaPolicy, GroupWidePolicy}
use Rattle.wire_bags.specs.Bag.{MemberKeyBag}
use Rattle.wire_frames.specs.Frame.{Frame}
use Rattle.wire_frames.specs.Exchange.{registration, rekey}
use Rattle.wire_frames.specs.declared.exchanges.KeyZero.{KeyZero}
use Rattle.wire_frames.specs.declared.exchanges.KeyZero.TheVariants as keyZero
use Rattle.state.specs.declared.State.{State}
use Rattle.state.specs.State.{state_formed}
use Rattle.rules_refusals.specs.Contents.{row_of, some, several, has_gsa, has_kd, announced, group_wides}
use Rattle.rules_refusals.specs.Contents.{member_bags, wrap_keys_of, fresh_keys_of}
use Rattle.rules_refusals.specs.Fitness.{is_esp, is_rekey, transforms_fit}
use Rattle.rules_refusals.specs.Number2.{not_due_sas, over_live_rekey, other_spis}
use Rattle.rules_refusals.specs.Number4.{number4_of_frame, barred_member_bag, two_gsa, two_kd, several_rekey_policies, several_group_wide}
use Rattle.rules_refusals.specs.Number4.{several_member_bags, key_length_twice, initial_message_id_twice, delay_twice, lifetime_twice}
use Rattle.rules_refusals.specs.Number5.{number5_of_frame, other_transforms, lent_key_size}
use Rattle.rules_refusals.specs.Number6.{number6_of_frame, policy_unpaired, bag_unpaired, wrap_key_id, fresh_key_id}
use Rattle.rules_refusals.specs.Number7.{number7_of_frame, number7_of_member, many_esp_policies, many_wrap_keys, many_sa_keys, many_fresh_keys, many_sas}
use Rattle.rules_refusals.specs.Refusals.{Number, one, applies, judged, number2, number3, number4, number5, number6, number7, refusal}
use Rattle.rules_refusals.proofs.Clear.{no-clause}
use Rattle.lists.proofs.Cases.{bool_cases, or-none}
use Rattle.unwrap_sas.specs.inner.Keyed.{new_sas}
use Rattle.rules_refusals.proofs.ExchangeRows.{by_row}
use Rattle.rules_outcome.proofs.RunsClear.{None}
use Rattle.receive.specs.inner.Passing.{RekeysOver}

-- ---- the numbers, one after the other
none-by : (n : Number) (l : List Number) (k : ℕ) → n.number ≡ suc k → (b : Bool) → applies n ≡ b →
    cond b n.number (judged l) ≡ 0 → None n × (judged l ≡ 0)
none-by n l k h true e g = absurd (omega arith)
none-by n l k h false e g =
    let p = or-none (one n.of_frame) (one n.of_member) e in (record { of_frame = p.0; of_member = p.1 }, g)

none_first : (n : Number) (l : List Number) (k : ℕ) → n.number ≡ suc k → judged (n ∷ l) ≡ 0 → None n × (judged l ≡ 0)
unfolding judged
none_first n l k h e = none-by n l k h (applies n) refl e

-- key 0 is the lent key or the Rekey SA's
lent-or-own : keyZero.Lent ≡ keyZero.RekeySa → ⊥
lent-or-own e = false≢true (ap is-own e)
  where
    is-own : KeyZero → Bool
    is-own keyZero.Lent = false
    is-own keyZero.RekeySa = true

-- policies whose transforms are fit are of ESP or of the Rekey SA
count_yes : {A : Type 0} (p : A → Bool) (a : A) (l : List A) → p a ≡ true → count p (a ∷ l) ≡ count p l + 1
unfolding count
count_yes p a l h = rw h refl

count-least : {A : Type 0} (p : A → Bool) (a : A) (l : List A) → count p l ≤ count p (a ∷ l)
unfolding count
count-least p a l = bool_cases (p a) (λ h. rw h (omega arith)) (λ h. rw h (omega arith))

is-of-two : (a : Bool) (p : GroupSaPolicy) → not (transforms_fit a p) ≡ false → is_esp p ≡ false → is_rekey p ≡ true
unfolding transforms_fit
is-of-two a p e h =
    bool_cases (is_rekey p) (λ g. g) (λ g. absurd (false≢true (sym (rw (h, g) at e))))

of_two : (a : Bool) (l : List GroupSaPolicy) → any (λ (p : GroupSaPolicy). not (transforms_fit a p)) l ≡ false →
    length l ≤ count is_esp l + count is_rekey l
unfolding any
of_two a [] e = omega arith
of_two a (p ∷ l) e =
    let q = or-none (not (transforms_fit a p)) (any (λ (x : GroupSaPolicy). not (transforms_fit a x)) l) e in
    let r = of_two a l q.1 in
    let esps = count-least is_esp p l in
    let rekeys = count-least is_rekey p l in
    bool_cases (is_esp p) (λ h. let n = count_yes is_esp p l h in omega (arith, r, rekeys, n))
    (λ h. let n = count_yes is_rekey p l (is-of-two a p q.0 h) in omega (arith, r, esps, n))

module _ (m : State) (now : ℕ) (lent : List ℕ) (f : Frame) (e : refusal limits m now lent f ≡ 0) where
  from-2 : None (number2 limits m now f.header.exchange f.header.spi)
      × (judged (number3 m f.header.exchange f.header.message_id ∷ number4 f ∷ number5 lent f ∷ number6 m now f ∷ number7 limits m
      now f ∷ []) ≡ 0)
  unfolding refusal
  from-2 = none_first (number2 limits m now f.header.exchange f.header.spi) _ 1 refl e

  from-3 : None (number3 m f.header.exchange f.header.message_id)
      × (judged (number4 f ∷ number5 lent f ∷ number6 m now f ∷ number7 limits m now f ∷ []) ≡ 0)
  from-3 = none_first (number3 m f.header.exchange f.header.message_id) _ 2 refl from-2.1

  from-4 : None (number4 f) × (judged (number5 lent f ∷ number6 m now f ∷ number7 limits m now f ∷ []) ≡ 0)
  from-4 = none_first (number4 f) _ 3 refl from-3.1

  from-5 : None (number5 lent f) × (judged (number6 m now f ∷ number7 limits m now f ∷ []) ≡ 0)
  from-5 = none_first (number5 lent f) _ 4 refl from-4.1

  from-6 : None (number6 m now f) × (judged (number7 limits m now f ∷ []) ≡ 0)
  from-6 = none_first (number6 m now f) _ 5 refl from-5.1

  from-7 : None (number7 limits m now f)
  from-7 = (none_first (number7 limits m now f) [] 6 refl from-6.1).0

  -- ---- number 2
  not-not : (b : Bool) → not b ≡ false → b ≡ true
  not-not true g = refl
  not-not false g = absurd (false≢true (sym g))

  pub state-formed : state_formed limits m ≡ true
  state-formed =
      not-not (state_formed limits m)
      (no-clause (number2 limits m now f.header.exchange f.header.spi).of_member 2 from-2.0.of_member)

  pub admitted : (row_of f).admitted ≡ true
  admitted =
      not-not (row_of f).admitted
      (no-clause (number2 limits m now f.header.exchange f.header.spi).of_frame 0 from-2.0.of_frame)

  -- an exchange whose key 0 is the Rekey SA's is a rekey over it
  pub is-rekey : RekeysOver f → row_of f ≡ rekey
  is-rekey z =
      by_row (row_of f ≡ rekey) f.header.exchange (λ q r. absurd (lent-or-own (rw r at z))) (λ q r. r)
      (λ q r. absurd (lent-or-own (rw r at z))) (λ r. absurd (lent-or-own (rw r at z)))

  -- an exchange that is taken and has the lent key as key 0 judges its size
  pub judges-lent : (row_of f).zero ≡ keyZero.Lent → (row_of f).judges_lent_key ≡ true
  judges-lent z =
      let a = admitted in
      by_row ((row_of f).judges_lent_key ≡ true) f.header.exchange (λ q r. rw r refl) (λ q r. absurd (lent-or-own (sym (rw r at z))))
      (λ q r. rw r refl) (λ r. absurd (false≢true (rw r at a)))

  -- an exchange that names held keys, or reads fresh tree keys, is a rekey over the Rekey SA; one that sets the held list is a registration
  pub names-rekey : (row_of f).names_held_keys ≡ true → row_of f ≡ rekey
  names-rekey z =
      by_row (row_of f ≡ rekey) f.header.exchange (λ q r. absurd (false≢true (rw r at z))) (λ q r. r)
      (λ q r. absurd (false≢true (rw r at z))) (λ r. absurd (false≢true (rw r at z)))

  pub sets-held : (row_of f).registers ≡ true → row_of f ≡ registration
  sets-held z =
      by_row (row_of f ≡ registration) f.header.exchange (λ q r. r) (λ q r. absurd (false≢true (rw r at z)))
      (λ q r. absurd (false≢true (rw r at z))) (λ r. absurd (false≢true (rw r at z)))

  pub keeps-bars : (row_of f).registers ≡ false → (row_of f).allows_member_bag ≡ false
  keeps-bars z =
      let a = admitted in
      by_row ((row_of f).allows_member_bag ≡ false) f.header.exchange (λ q r. absurd (false≢true (sym (rw r at z)))) (λ q r. rw r refl)
      (λ q r. rw r refl) (λ r. absurd (false≢true (rw r at a)))

  pub over-live : row_of f ≡ rekey → any (over_live_rekey f.header.spi) (not_due_sas now m) ≡ true
  unfolding other_spis
  over-live r =
      let q = no-clause (number2 limits m now f.header.exchange f.header.spi).of_member 1 from-2.0.of_member in
      not-not (any (over_live_rekey f.header.spi) (not_due_sas now m)) (rw r at q)

  -- ---- number 4
  pub no-4 : (k : ℕ) → get_or (number4_of_frame f) k false ≡ false
  no-4 k = no-clause (number4_of_frame f) k from-4.0.of_frame

  pub one-gsa : count has_gsa f.payloads ≤ 1
  unfolding number4_of_frame two_gsa
  one-gsa = ltb-false 1 (count has_gsa f.payloads) (no-4 3)

  pub one-kd : count has_kd f.payloads ≤ 1
  unfolding number4_of_frame two_kd
  one-kd = ltb-false 1 (count has_kd f.payloads) (no-4 4)

  pub wides-once : several (group_wides f) ≡ false
  unfolding number4_of_frame several_group_wide
  wides-once = no-4 9

  pub one-member-bag : length (member_bags f) ≤ 1
  unfolding number4_of_frame several_member_bags
  one-member-bag = ltb-false 1 (length (member_bags f)) (no-4 10)

  pub delays-once : any (λ (w : GroupWidePolicy). several w.deactivation_delays) (group_wides f) ≡ false
  unfolding number4_of_frame delay_twice
  delays-once = no-4 14

  pub one-rekey : several_rekey_policies f ≡ false
  unfolding number4_of_frame
  one-rekey = no-4 8

  pub rekeys-few : count is_rekey (announced f) ≤ 1
  unfolding number4_of_frame several_rekey_policies
  rekeys-few = ltb-false 1 (count is_rekey (announced f)) (no-4 8)

  pub ids-once : any (λ (a : GroupSaPolicy). several a.initial_message_ids) (announced f) ≡ false
  unfolding number4_of_frame initial_message_id_twice
  ids-once = no-4 13

  pub lengths-once : key_length_twice f ≡ false
  unfolding number4_of_frame
  lengths-once = no-4 12

  pub lifetimes-once : lifetime_twice f ≡ false
  unfolding number4_of_frame
  lifetimes-once = no-4 16

  none_of : {A : Type 0} (l : List A) → some l ≡ false → l ≡ []
  none_of [] q = refl
  none_of (a ∷ l) q = let h = ltb-false 0 (suc (length l)) q in absurd (omega arith)

  pub no-entry : (row_of f).allows_member_bag ≡ false → wrap_keys_of f ≡ []
  unfolding number4_of_frame barred_member_bag flat_map
  no-entry r =
      let n = no-4 1 in
      let q : some (member_bags f) ≡ false = rw r at n in
      ap (flat_map (λ (b : MemberKeyBag). b.keys)) (none_of (member_bags f) q)

  -- ---- number 5
  pub no-5 : (k : ℕ) → get_or (number5_of_frame lent f) k false ≡ false
  no-5 k = no-clause (number5_of_frame lent f) k from-5.0.of_frame

  pub transforms-fit : other_transforms f ≡ false
  unfolding number5_of_frame
  transforms-fit = no-5 2

  pub lent_fits : (row_of f).judges_lent_key ≡ true → is_wrapping_size (length lent) ≡ true
  unfolding number5_of_frame lent_key_size
  lent_fits r = let n = no-5 5 in not-not (is_wrapping_size (length lent)) (rw r at n)

  -- ---- number 6
  pub all-paired : policy_unpaired f ≡ false
  unfolding number6_of_frame
  all-paired = no-clause (number6_of_frame f) 0 from-6.0.of_frame

  pub bags-paired : bag_unpaired f ≡ false
  unfolding number6_of_frame
  bags-paired = no-clause (number6_of_frame f) 1 from-6.0.of_frame

  pub no_zero : wrap_key_id f ≡ false
  unfolding number6_of_frame
  no_zero = no-clause (number6_of_frame f) 7 from-6.0.of_frame

  pub no-fresh-zero : fresh_key_id f ≡ false
  unfolding number6_of_frame
  no-fresh-zero = no-clause (number6_of_frame f) 9 from-6.0.of_frame

  -- ---- number 7
  pub few-fresh : length (fresh_keys_of f) ≤ limits.fresh_keys
  unfolding number7_of_frame many_fresh_keys
  few-fresh = ltb-false limits.fresh_keys (length (fresh_keys_of f)) (no-clause (number7_of_frame limits f) 5 from-7.of_frame)

  pub few-sa-keys : many_sa_keys limits f ≡ false
  unfolding number7_of_frame
  few-sa-keys = no-clause (number7_of_frame limits f) 2 from-7.of_frame

  pub few-entries : length (wrap_keys_of f) ≤ limits.wrap_keys
  unfolding number7_of_frame many_wrap_keys
  few-entries = ltb-false limits.wrap_keys (length (wrap_keys_of f)) (no-clause (number7_of_frame limits f) 1 from-7.of_frame)

  pub few-sas : length (not_due_sas now m) + length (announced f) ≤ limits.sas
  unfolding number7_of_member many_sas
  few-sas =
      ltb-false limits.sas (length (not_due_sas now m) + length (announced f))
      (no-clause (number7_of_member limits m now f) 0 from-7.of_member)

  few-esps : count is_esp (announced f) ≤ limits.esp_policies
  unfolding number7_of_frame many_esp_policies
  few-esps = ltb-false limits.esp_policies (count is_esp (announced f)) (no-clause (number7_of_frame limits f) 0 from-7.of_frame)

  -- the SAs of a frame: its ESP SAs and a Rekey SA
  pub few-announced : length (announced f) ≤ new_sas
  unfolding other_transforms
  few-announced = omega (arith, of_two (row_of f).authentication (announced f) transforms-fit, few-esps, rekeys-few)
