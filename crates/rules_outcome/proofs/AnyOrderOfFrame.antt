-- ORDER DOES NOT MATTER to what a frame gives (document 02, T-14): the keys to start with, the entries, the copies, the delay, what becomes
-- of the SAs that stand in the table, the SAs that enter, the table, the least Message ID.
use Prim.Native.Nat.{ℕ}
use mathlib.Core.Path.{◌≡◌, refl, ap, ap₂, sym, ◌∙◌, subst}
use mathlib.Core.Bool.{Bool, true, cond, not, ◌&&◌, ◌||◌}
use mathlib.Core.Logic.{inl, inr, ⊎_elim}
use mathlib.Core.List.{List, [], ◌∷◌, map}
use lib.Dec.{eqb}
use Rattle.octets.specs.Compare.{same}
use Rattle.state_keys.specs.Limits.{Limits}
use Rattle.lists.specs.Lists.{keep, rising}
use Rattle.lists.proofs.Rising.{rising-unique}
use Rattle.wire_attributes.specs.Tree.{WrapKey}
use Rattle.wire_policies.specs.Policy.{GroupSaPolicy, GroupWidePolicy}
use Rattle.wire_bags.specs.Bag.{GroupKeyBag}
use Rattle.wire_frames.specs.Frame.{Frame}
use Rattle.state_sa.specs.Entry.{esp_protocol, rekey_protocol, sa_spi, sa_before}
use Rattle.state_sa.specs.declared.entry.Sa.{Sa}
use Rattle.state_sa.proofs.Order.{before-trans, before-irrefl}
use Rattle.state_table.specs.Table.{retired_if}
use Rattle.state.specs.declared.State.{State}
use Rattle.state.specs.declared.held.HeldKey.{HeldKey}
use Rattle.state.specs.Held.{keys_of}
use Rattle.rules_refusals.specs.Contents.{announced, group_bags, fresh_keys_of}
use Rattle.rules_refusals.specs.Fitness.{is_rekey, sum}
use Rattle.rules_refusals.specs.Number2.{not_due_sas}
use Rattle.rules_refusals.specs.Number6.{bag_named}
use Rattle.rules_refusals.specs.Reordered.{AnyOrder, none, next, swapped, then, Reordered}
use Rattle.rules_refusals.proofs.AnyOrder.{any-equal, as_is, both-joined}
use Rattle.rules_refusals.proofs.Contents.{group-same, announced-order, wides-order, deleted-order, group-bags-order, wrap-keys-order}
use Rattle.rules_refusals.proofs.Contents.{fresh-keys-order}
use Rattle.rules_chains.specs.Chain.{Root}
use Rattle.rules_chains.specs.Refusals.{KeyOf}
use Rattle.rules_chains.proofs.Members.{in-member, member-in}
use Rattle.rules_chains.proofs.AnyOrder.{Among, key-kept}
use Rattle.rules_outcome.specs.Roots.{key_zero_value, carried, those_not_carried, roots_of, entries_of, wrapping_size, copies_of, announced_as}
use Rattle.rules_outcome.specs.Holding.{new_rekey, rekey_copies}
use Rattle.rules_outcome.specs.After.{delay_of, is_zero, named_in_delete, replaced, old_sa, old_sas, sa_from, insert_all}
use Rattle.rules_outcome.specs.After.{Enter, no-sa, one_more, initial_message_id, least_afterwards}
use Rattle.rules_outcome.proofs.Members.{in-keep, keep-in, in-flat_map, flat_map-in}
use Rattle.rules_outcome.proofs.Enters.{in_all, all_in}
use Rattle.rules_outcome.proofs.AnyOrder.{order_from, order-among, sum-order, reordered-back, group-trans, equal-back}

-- ---- what a frame gives to chains
module _ {f g : Frame} (r : Reordered f g) where
  pub entries-among : Among (entries_of f) (entries_of g)
  entries-among = order-among (both-joined (λ e. refl) (wrap-keys-order r) (fresh-keys-order r))

  -- the copies of an SA: those of bags of its name, each with the same copies in the other frame
  pub copies-among : (a : GroupSaPolicy) → Among (copies_of f a) (copies_of g a)
  unfolding copies_of
  copies-among a c i =
      let named = bag_named a.protocol a.spi in
      let b = in-flat_map (λ (x : GroupKeyBag). x.keys) c (keep named (group_bags f)) i in
      let k = in-keep b.item named (group_bags f) b.stands in
      let d = order_from group-same group-trans (group-bags-order r) b.item k.0 in
      let e : named b.item ≡ named d.0 = λ j. eqb (d.2.protocol j) a.protocol && same (d.2.spi j) a.spi in
      flat_map-in (λ (x : GroupKeyBag). x.keys) c (keep named (group_bags g)) d.0
      (keep-in d.0 named (group_bags g) d.1 (sym e ∙ k.1)) (order-among d.2.keys c b.is)

  pub rekey-copies-among : Among (rekey_copies f) (rekey_copies g)
  unfolding rekey_copies
  rekey-copies-among c i =
      let a = in-flat_map (copies_of f) c (keep is_rekey (announced f)) i in
      let k = in-keep a.item is_rekey (announced f) a.stands in
      flat_map-in (copies_of g) c (keep is_rekey (announced g)) a.item
      (keep-in a.item is_rekey (announced g) (order-among (announced-order r) a.item k.0) k.1)
      (copies-among a.item c a.is)

  -- which held keys are carried anew: those of whose Key ID there is a fresh entry, at whatever place
  carried-kept : (k : HeldKey) → carried (fresh_keys_of f) k ≡ carried (fresh_keys_of g) k
  carried-kept k = any-equal (λ (e : WrapKey). eqb e.key_id k.id) (fresh-keys-order r)

  not-carried-kept : (h : List HeldKey) → those_not_carried (fresh_keys_of f) h ≡ those_not_carried (fresh_keys_of g) h
  not-carried-kept h = λ i. keep (λ (k : HeldKey). not (carried-kept k i)) h

  module _ (limits : Limits) (s : State) (now : ℕ) (lent : List ℕ) where
    pub roots_kept : roots_of limits s now lent f ≡ roots_of limits s now lent g
    unfolding roots_of key_zero_value
    roots_kept = rw (r.header, not-carried-kept (keys_of s.held))

    pub size-kept : wrapping_size limits s now lent f ≡ wrapping_size limits s now lent g
    unfolding wrapping_size key_zero_value
    size-kept = rw r.header

-- ---- the SAs that stand in the table
module _ {f g : Frame} (r : Reordered f g) where
  pub delay-kept : delay_of f ≡ delay_of g
  unfolding delay_of
  delay-kept = sum-order (λ (w : GroupWidePolicy). sum (λ (d : ℕ). d) w.deactivation_delays) (wides-order r)

  pub new-rekey-kept : new_rekey f ≡ new_rekey g
  new-rekey-kept = any-equal is_rekey (announced-order r)

  delete-kept : (a : Sa) → named_in_delete f a ≡ named_in_delete g a
  unfolding named_in_delete
  delete-kept a =
      ap (λ (b : Bool). eqb a.protocol esp_protocol && b)
      (any-equal (λ (x : List ℕ). is_zero x || same (sa_spi a) x) (deleted-order r))

  replaced-kept : (a : Sa) → replaced f a ≡ replaced g a
  unfolding replaced
  replaced-kept a = ap (λ (b : Bool). b && eqb a.protocol rekey_protocol) new-rekey-kept

  old-kept : (now : ℕ) (a : Sa) → old_sa now f a ≡ old_sa now g a
  unfolding retired_if
  old-kept now a = λ i. retired_if (λ (x : Sa). delete-kept x i || replaced-kept x i) now (delay-kept i) a

  each-kept : (now : ℕ) (l : List Sa) → map (old_sa now f) l ≡ map (old_sa now g) l
  each-kept now [] = refl
  each-kept now (a ∷ l) = ap₂ (λ (x : Sa) (y : List Sa). x ∷ y) (old-kept now a) (each-kept now l)

  pub old-sas-kept : (s : State) (now : ℕ) → old_sas s now f ≡ old_sas s now g
  unfolding old_sas
  old-sas-kept s now = each-kept now (not_due_sas now s)

  -- ---- the least Message ID
  initial-kept : initial_message_id f ≡ initial_message_id g
  unfolding initial_message_id
  initial-kept =
      sum-order (λ (a : GroupSaPolicy). cond (is_rekey a) (sum (λ (i : ℕ). i) a.initial_message_ids) 0) (announced-order r)

  pub least_kept : (s : State) → least_afterwards s f ≡ least_afterwards s g
  unfolding least_afterwards
  least_kept s = rw (new-rekey-kept, initial-kept, r.header)

-- ---- the new SAs, in the order of the policies
module _ (roots : List Root) (size now : ℕ) {f g : Frame} (r : Reordered f g) where
  pub enter-kept : (l : List GroupSaPolicy) (m : List Sa) → Enter roots (entries_of f) size now f l m →
      Enter roots (entries_of g) size now g l m
  enter-kept [] _ no-sa = no-sa
  enter-kept (a ∷ l) _ (one_more {m = m} x k e) =
      one_more x
      (key-kept roots size (entries-among r) (entries-among (reordered-back r)) (announced_as f a) (announced_as g a) (copies-among r a)
      (copies-among (reordered-back r) a) x k) (enter-kept l m e)

-- the same SAs in the order of another list of policies
module _ (roots : List Root) (entries : List WrapKey) (size now : ℕ) (f : Frame) where
  pub record EnterToo (l : List GroupSaPolicy) (m : List Sa) : Type 0 where
    pub sas : List Sa
    pub enter : Enter roots entries size now f l sas
    pub order : AnyOrder ◌≡◌ m sas

  headed : (a b : GroupSaPolicy) (x : List ℕ) → a ≡ b → KeyOf roots entries size (announced_as f a) x →
      (l : List GroupSaPolicy) (m : List Sa) → EnterToo l m → EnterToo (b ∷ l) (sa_from now a x ∷ m)
  headed a b x e k l m t =
      record {
        sas = sa_from now b x ∷ t.sas;
        enter = one_more x (subst (λ (c : GroupSaPolicy). KeyOf roots entries size (announced_as f c) x) e k) t.enter;
        order = next (ap (λ (c : GroupSaPolicy). sa_from now c x) e) t.order;
      }

  as-it-is : (l : List GroupSaPolicy) (m : List Sa) → Enter roots entries size now f l m → EnterToo l m
  as-it-is l m e = record { sas = m; enter = e; order = as_is (λ a. refl) m }

  further : (l : List GroupSaPolicy) (m : List Sa) (t : EnterToo l m) (n : List GroupSaPolicy) → EnterToo n t.sas → EnterToo n m
  further l m t n u = record { sas = u.sas; enter = u.enter; order = then t.order u.order }

  pub enter-order : {l n : List GroupSaPolicy} → AnyOrder ◌≡◌ l n → (m : List Sa) → Enter roots entries size now f l m → EnterToo n m
  enter-order none _ no-sa = as-it-is [] [] no-sa
  enter-order (next {a = a} {b = b} {m = n} e s) _ (one_more {m = m} x k t) = headed a b x e k n m (enter-order s m t)
  enter-order (swapped {a = a} {b = b} {l = l}) _ (one_more x k (one_more {m = m} y j t)) =
      record { sas = sa_from now b y ∷ sa_from now a x ∷ m; enter = one_more y j (one_more x k t); order = swapped }
  enter-order (then {m = n} {n = o} p q) m t =
      let u = enter-order p m t in further n m u o (enter-order q u.sas u.enter)

-- ---- the table: two lists that rise strictly and have the same members are one, in whatever order the SAs entered
inserted-among : (new others old : List Sa) → AnyOrder ◌≡◌ new others → Among (insert_all new old) (insert_all others old)
inserted-among new others old o a i =
    all_in a others old (⊎_elim (λ j. inl (order-among o a j)) (λ j. inr j) (in_all a new old i))

pub inserted-kept : (new others old : List Sa) → AnyOrder ◌≡◌ new others → rising sa_before (insert_all new old) ≡ true →
    rising sa_before (insert_all others old) ≡ true → insert_all new old ≡ insert_all others old
inserted-kept new others old o p q =
    let into = inserted-among new others old o in
    let back = inserted-among others new old (equal-back o) in
    rising-unique sa_before before-trans before-irrefl (insert_all new old) (insert_all others old) p q
    (λ a m. in-member a (insert_all others old) (into a (member-in a (insert_all new old) m)))
    (λ a m. in-member a (insert_all new old) (back a (member-in a (insert_all others old) m)))
