-- WIDER LIMITS (document 02, T-01): "Frames not refused for room keep their answers, on any member within the old limits."
use native.Mathlib.Omega.{arith}
use Prim.Native.Nat.{ℕ, suc, ◌+◌, ◌≤◌}
use mathlib.Core.Path.{◌≡◌, refl, ap, sym, ◌∙◌, subst}
use mathlib.Core.Bool.{Bool, true, false, ◌&&◌, cond, false≢true}
use mathlib.Core.List.{List, [], ◌∷◌, map}
use borrow.Author.Tests.{le-leb, leb-true, le-ltb, ltb-false}
use lib.Dec.{leb, ltb}
use lib.ListN.{length, length-take}
use Rattle.state_keys.specs.Limits.{Limits, limits, limits_before_t01}
use Rattle.lists.specs.Lists.{all, any, count, rising}
use Rattle.state_keys.specs.Kinds.{value_of}
use Rattle.lists.proofs.Rising.{length-keep}
use Rattle.lists.proofs.Cases.{bool_cases, and_parts, or-none}
use Rattle.wire_bags.specs.Bag.{GroupKeyBag}
use Rattle.wire_frames.specs.Frame.{Frame}
use Rattle.wire_frames.specs.Grammar.{IsFrame}
use Rattle.state_sa.specs.Entry.{sa_formed, sa_before, live_rekey, due}
use Rattle.state_sa.specs.declared.entry.Sa.{Sa}
use Rattle.state_table.specs.declared.Table.{Table}
use Rattle.state_table.specs.Table.{sas_of, table_of, table_formed, swept, not_due, stays, empty_at, found_rekey, key_wrap_part_of, default_key}
use Rattle.state_table.specs.Table.{the_one}
use Rattle.state_table.proofs.Kept.{sas-of-table, formed-count}
use Rattle.state_table.proofs.Laws.{changed-in, found_in}
use Rattle.state.specs.declared.State.{State}
use Rattle.state.specs.declared.least.Least.{Least}
use Rattle.state.specs.declared.least.Least.TheVariants.{Id}
use Rattle.state.specs.declared.held.HeldKey.{HeldKey}
use Rattle.state.specs.declared.held.Held.{Held}
use Rattle.state.specs.Held.{keys_of, held_of, held_formed, key_formed, ids_of, distinct}
use Rattle.state.specs.State.{state_formed}
use Rattle.state.proofs.Kept.{keys-of-held}
use Rattle.rules_refusals.specs.Contents.{row_of, announced, group_bags, wrap_keys_of, fresh_keys_of, deleted_spis}
use Rattle.rules_refusals.specs.Fitness.{is_esp}
use Rattle.rules_refusals.specs.Number2.{not_due_sas, unwanted_member, other_spis}
use Rattle.rules_refusals.specs.Number3.{not_acceptable}
use Rattle.rules_refusals.specs.Number6.{already_in_table, number6_of_member}
use Rattle.rules_refusals.specs.Number7.{many_esp_policies, many_wrap_keys, many_sa_keys, many_deleted_spis, long_lifetime, many_sas}
use Rattle.rules_refusals.specs.Number7.{many_fresh_keys, number7_of_frame, number7_of_member}
use Rattle.rules_refusals.specs.Refusals.{one, applies, number2, number3, number6, number7}
use Rattle.rules_chains.specs.Chain.{Root}
use Rattle.rules_outcome.specs.Roots.{own_key_of, key_zero_by, key_zero_value, held_root, those_not_carried, roots_of, entries_of, wrapping_size}
use Rattle.rules_outcome.specs.Answer.{KeyConflictOf, KeyMissingOf, conditions, FrameAnswers}
use Rattle.rules_outcome.specs.Holding.{new_rekey, rekey_copies, held_before, HeldNext, HeldAfterwards, OverHeld, OverHeldOf}
use Rattle.rules_outcome.specs.After.{old_sas, old_sa, insert_all, Enter, initial_message_id, least_by}
use Rattle.rules_outcome.specs.After.{least_afterwards, After}
use Rattle.rules_outcome.specs.Outcome.{Judged, refused, accepted, NoTree, Outcome, no-layout, by-tree}
use Rattle.rules_outcome.proofs.Following.{Follow, none, more, first-kept, alike}
use Rattle.rules_outcome.proofs.WiderHeld.{SameKeys, found, next-then}
use Rattle.rules_outcome.specs.Wider.{Wider, Within, SameMember, in_places, AnswerKept, AnswersKept}
use Rattle.std.specs.Prelude.{Option}
use Rattle.state_keys.specs.Kinds.{key_or_blank}
use Rattle.state_keys.specs.declared.kinds.WrappingKey.{WrappingKey}

-- ---- what is not over a limit is not over a wider one
not-over : (x y n : ℕ) → x ≤ y → ltb x n ≡ false → ltb y n ≡ false
not-over x y n h e = let g = ltb-false x n e in le-ltb y n (omega arith)

none_over : {A : Type 0} (x y : ℕ) (m : A → ℕ) (l : List A) → x ≤ y → any (λ (a : A). ltb x (m a)) l ≡ false →
    any (λ (a : A). ltb y (m a)) l ≡ false
unfolding any
none_over x y m [] h e = refl
none_over x y m (a ∷ l) h e =
    let p = or-none (ltb x (m a)) (any (λ b. ltb x (m b)) l) e in rw (not-over x y (m a) h p.0, none_over x y m l h p.1)

module _ (a b : Limits) (w : Wider a b) (s t : State) (i : Within a s) (m : SameMember s t) where
  -- ---- the member keeps its list under both or under neither
  sas-a : s.table.count ≤ a.sas
  sas-a = let g = i.sas in omega arith

  sas-b : t.table.count ≤ b.sas
  sas-b = let h = m.sa-count in let g = i.sas in let k = w.sas in omega arith

  table-formed : table_formed a s.table ≡ table_formed b t.table
  unfolding table_formed
  table-formed =
      rw (le-leb s.table.count a.sas sas-a, le-leb t.table.count b.sas sas-b)
      (ap (λ (l : List Sa). all sa_formed l && (rising sa_before l && leb (count live_rekey l) 1)) m.sas)

  held-b : t.held.count ≤ b.held_keys
  held-b = let h = m.key-count in let g = i.held_keys in let k = w.held_keys in omega arith

  held-formed : held_formed a s.held ≡ held_formed b t.held
  unfolding held_formed
  held-formed =
      rw (le-leb s.held.count a.held_keys i.held_keys, le-leb t.held.count b.held_keys held-b)
      (ap (λ (l : List HeldKey). all key_formed l && distinct (ids_of l)) m.keys)

  state-formed : state_formed a s ≡ state_formed b t
  unfolding state_formed
  state-formed = λ j. table-formed j && held-formed j

  module _ (now : ℕ) where
    empty : empty_at a now s.table ≡ empty_at b now t.table
    unfolding empty_at
    empty =
        rw (le-leb s.table.count a.sas sas-a, le-leb t.table.count b.sas sas-b) (ap (all (due now)) m.sas)

    stand : not_due_sas now s ≡ not_due_sas now t
    stand = ap (not_due now) m.sas

    -- the default key of the table as it stands
    made : (limits : Limits) (u : Table) → u.count ≤ limits.sas →
        default_key limits (swept limits now u) ≡ key_wrap_part_of (the_one live_rekey (not_due now (sas_of u)))
    unfolding default_key found_rekey swept table_of
    made limits u h =
        let l = not_due now (sas_of u) in
        let n = length-keep (stays now) (sas_of u) in
        let k = length-take u.count u.sas in
        ap (λ (x : Table). key_wrap_part_of (found_rekey limits x)) (changed-in limits u (not_due now) h)
        ∙ ap key_wrap_part_of (found_in limits live_rekey (table_of limits l) (omega arith) ∙ ap (the_one live_rekey) (sas-of-table limits l))

    own : own_key_of a s now ≡ own_key_of b t now
    own =
        ap (λ (k : Option WrappingKey). value_of (key_or_blank k))
        (made a s.table sas-a ∙ ap (λ (l : List Sa). key_wrap_part_of (the_one live_rekey l)) stand ∙ sym (made b t.table sas-b))

    module _ (lent : List ℕ) (f : Frame) where
      -- ---- chains go by the same keys
      zero_same : key_zero_value a s now lent f ≡ key_zero_value b t now lent f
      unfolding key_zero_value
      zero_same = ap (key_zero_by (row_of f).zero lent) own

      roots : roots_of a s now lent f ≡ roots_of b t now lent f
      unfolding roots_of
      roots = λ j.
          record { id = 0; value = zero_same j }
          ∷ cond (row_of f).names_held_keys (map held_root (those_not_carried (fresh_keys_of f) (m.keys j))) []

      size : wrapping_size a s now lent f ≡ wrapping_size b t now lent f
      unfolding wrapping_size
      size = ap length zero_same

      -- ---- numbers 2, 3, 6, 8 and 9 say the same; 7 that does not hold does not hold under the wider limits
      two-same : applies (number2 a s now f.header.exchange f.header.spi)
          ≡ applies (number2 b t now f.header.exchange f.header.spi)
      unfolding one unwanted_member other_spis
      two-same = rw (empty, stand, state-formed)

      number3-same : applies (number3 s f.header.exchange f.header.message_id)
          ≡ applies (number3 t f.header.exchange f.header.message_id)
      unfolding one not_acceptable
      number3-same = rw m.least

      number6-same : applies (number6 s now f) ≡ applies (number6 t now f)
      unfolding one number6_of_member already_in_table
      number6-same = rw stand

      conflict-same : KeyConflictOf a s now lent f ≡ KeyConflictOf b t now lent f
      conflict-same = rw (roots, size)

      missing-same : KeyMissingOf a s now lent f ≡ KeyMissingOf b t now lent f
      missing-same = rw (roots, size)

      number7-less : applies (number7 a s now f) ≡ false → applies (number7 b t now f) ≡ false
      unfolding one number7_of_frame number7_of_member many_esp_policies many_wrap_keys many_sa_keys many_deleted_spis many_fresh_keys many_sas
      number7-less e =
          let p = or-none (one (number7_of_frame a f)) (one (number7_of_member a s now f)) e in
          let e1 = or-none (many_esp_policies a f) _ p.0 in
          let e2 = or-none (many_wrap_keys a f) _ e1.1 in
          let e3 = or-none (many_sa_keys a f) _ e2.1 in
          let e4 = or-none (many_deleted_spis a f) _ e3.1 in
          let e6 = or-none (long_lifetime f) _ e4.1 in
          let e7 = or-none (many_fresh_keys a f) false e6.1 in
          let e5 = or-none (many_sas a s now f) false p.1 in
          rw (
            not-over a.esp_policies b.esp_policies (count is_esp (announced f)) w.esp_policies e1.0,
            not-over a.wrap_keys b.wrap_keys (length (wrap_keys_of f)) w.wrap_keys e2.0,
            none_over a.sa_keys b.sa_keys (λ (x : GroupKeyBag). length x.keys) (group_bags f) w.sa_keys e3.0,
            not-over a.deleted_spis b.deleted_spis (length (deleted_spis f)) w.deleted_spis e4.0,
            e6.0,
            not-over a.fresh_keys b.fresh_keys (length (fresh_keys_of f)) w.fresh_keys e7.0,
            not-over a.sas b.sas (length (not_due_sas now t) + length (announced f)) w.sas
                (ap (λ (l : List Sa). ltb a.sas (length l + length (announced f))) (sym stand) ∙ e5.0),
          )

      number7-none : (applies (number7 a s now f) ≡ true → ⊥) → applies (number7 b t now f) ≡ true → ⊥
      number7-none never h =
          bool_cases (applies (number7 a s now f)) (λ g. absurd (never g)) (λ g. absurd (false≢true (sym (number7-less g) ∙ h)))

      -- the list that the frame would leave has the same keys
      same-found : SameKeys a b (roots_of a s now lent f) (entries_of f) (wrapping_size a s now lent f) (rekey_copies f)
          (held_before a (row_of f).registers s.held) (held_before b (row_of f).registers t.held)
      same-found =
          found a b (roots_of a s now lent f) (entries_of f) (wrapping_size a s now lent f) (rekey_copies f) (row_of f).registers s.held
          t.held (record { keys = m.keys; count = m.key-count })

      over_none : (OverHeldOf a s now lent f → ⊥) → OverHeldOf b t now lent f → ⊥
      over_none never o =
          let r = roots_of b t now lent f in
          let n = wrapping_size b t now lent f in
          let back = found b a r (entries_of f) n (rekey_copies f) (row_of f).registers t.held s.held
          (record { keys = sym m.keys; count = sym m.key-count }) in
          let y = next-then b a r (entries_of f) n (rekey_copies f) (held_before b (row_of f).registers t.held)
          (held_before a (row_of f).registers s.held) o.list back (new_rekey f) o.leaves in
          let g = o.over in
          let c = y.same.count in
          let h = w.held_keys in
          never
          (subst
          (λ (l : List Root).
          OverHeld l (entries_of f) (wrapping_size a s now lent f) a (new_rekey f) (rekey_copies f)
          (held_before a (row_of f).registers s.held))
          (sym roots)
          (subst
          (λ (k : ℕ).
          OverHeld r (entries_of f) k a (new_rekey f) (rekey_copies f) (held_before a (row_of f).registers s.held))
          (sym size) (record { list = y.then; leaves = y.next-is; over = omega (arith, g, c, h) })))

      conditions-follow : Follow 7 (conditions a s now lent f) (conditions b t now lent f)
      conditions-follow =
          more (alike 7 2 (ap (λ (x : Bool). x ≡ true) two-same))
          (more (alike 7 3 (ap (λ (x : Bool). x ≡ true) number3-same))
          (more (alike 7 4 refl)
          (more (alike 7 5 refl)
          (more (alike 7 6 (ap (λ (x : Bool). x ≡ true) number6-same))
          (more (record { number = refl; holds = λ q h. absurd (q refl); fails = number7-none })
          (more (alike 7 8 conflict-same)
          (more (alike 7 9 missing-same)
          (more (record { number = refl; holds = λ q h. absurd (q refl); fails = over_none })
          none))))))))

      answers-same : (n : ℕ) → (n ≡ 7 → ⊥) → FrameAnswers a s now lent f n → FrameAnswers b t now lent f n
      answers-same n q h = first-kept 7 conditions-follow n q h

      -- ---- the member after it is the same
      old-same : old_sas s now f ≡ old_sas t now f
      unfolding old_sas
      old-same = ap (map (old_sa now f)) stand

      least-same : least_afterwards s f ≡ least_afterwards t f
      unfolding least_afterwards
      least-same =
          ap (λ (x : Least). cond (new_rekey f) (Id (initial_message_id f)) (least_by (row_of f).least f.header.message_id x)) m.least

      abbrev HeldUnder : List Root → ℕ → Held → Type 0
      HeldUnder r n h = HeldNext r (entries_of f) n b (new_rekey f) (rekey_copies f) (held_before b (row_of f).registers t.held) h

      record HeldThen (old : Held) : Type 0 where
        then : Held
        keys : keys_of old ≡ keys_of then
        count : old.count ≡ then.count
        by : HeldAfterwards b t now lent f then

      held_then : (old : Held) → HeldAfterwards a s now lent f old → HeldThen old
      held_then old x =
          let y = next-then a b (roots_of a s now lent f) (entries_of f) (wrapping_size a s now lent f) (rekey_copies f)
          (held_before a (row_of f).registers s.held) (held_before b (row_of f).registers t.held) old same-found (new_rekey f) x in
          record {
            then = y.then;
            keys = y.same.keys;
            count = y.same.count;
            by =
                subst (λ (r : List Root). HeldUnder r (wrapping_size b t now lent f) y.then) roots
                (subst (λ (n : ℕ). HeldUnder (roots_of a s now lent f) n y.then) size y.next-is);
          }

      record Next (next : State) : Type 0 where
        then : State
        after : After b t now lent f then
        same : SameMember next then

      after_same : (next : State) → After a s now lent f next → Next next
      unfolding table_of
      after_same next x =
          let l = insert_all x.new (old_sas t now f) in
          let h = held_then next.held x.held in
          let e : next.table ≡ table_of a l = x.table ∙ ap (λ (o : List Sa). table_of a (insert_all x.new o)) old-same in
          record {
            then = record { table = table_of b l; held = h.then; least = least_afterwards t f; profile = t.profile };
            after = record {
              new = x.new;
              enter =
                  subst (λ (r : List Root). Enter r (entries_of f) (wrapping_size b t now lent f) now f (announced f) x.new) roots
                  (subst (λ (n : ℕ). Enter (roots_of a s now lent f) (entries_of f) n now f (announced f) x.new) size x.enter);
              table = refl;
              held = h.by;
              least = refl;
              profile = refl;
            };
            same = record {
              sas = ap sas_of e ∙ sas-of-table a l ∙ sym (sas-of-table b l);
              sa-count = ap (λ (u : Table). u.count) e;
              keys = h.keys;
              key-count = h.count;
              least = x.least ∙ least-same;
              profile = x.profile ∙ m.profile;
            };
          }

      reads : (octets : List ℕ) → IsFrame s.profile octets f → IsFrame t.profile octets f
      reads octets g = subst (λ (p : Bool). IsFrame p octets f) m.profile g

      judged-kept : (octets : List ℕ) (n : ℕ) (next : State) → IsFrame s.profile octets f → (n ≡ 7 → ⊥) → Judged a s now lent f n next →
          AnswerKept b t now lent octets n next
      judged-kept octets _ _ g q (refused n p) =
          record { then = t; outcome = by-tree f (reads octets g) (refused n (answers-same (suc n) q p)); same = m }
      judged-kept octets _ _ g q (accepted next p x) =
          let y = after_same next x in
          record {
            then = y.then;
            outcome = by-tree f (reads octets g)
                (accepted y.then (answers-same 0 q p) y.after);
            same = y.same;
          }

  outcome-kept : (now : ℕ) (lent octets : List ℕ) (n : ℕ) (next : State) → Outcome a s now lent octets n next → (n ≡ 7 → ⊥) →
      AnswerKept b t now lent octets n next
  outcome-kept now lent octets _ _ (no-layout o) q =
      record { then = t; outcome = no-layout (subst (λ (p : Bool). NoTree p octets) m.profile o); same = m }
  outcome-kept now lent octets n next (by-tree f g j) q = judged-kept now lent f octets n next g q j

-- the same member stands in the places of any limits, where it has as many places as it says
pub same-in-places : (limits : Limits) (s : State) → s.table.count ≤ length s.table.sas → s.held.count ≤ length s.held.keys →
    SameMember s (in_places limits s)
unfolding table_of held_of
same-in-places limits s g h =
    let x = length-take s.table.count s.table.sas in
    let y = length-take s.held.count s.held.keys in
    record {
      sas = sym (sas-of-table limits (sas_of s.table));
      sa-count = omega arith;
      keys = sym (keys-of-held limits (keys_of s.held));
      key-count = omega arith;
      least = refl;
      profile = refl;
    }

-- a member that keeps its list under limits is within them
pub formed-within : (limits : Limits) (s : State) → state_formed limits s ≡ true → Within limits s
unfolding state_formed held_formed
formed-within limits s e =
    let p = and_parts (table_formed limits s.table) (held_formed limits s.held) e in
    record {
      sas = formed-count limits s.table p.0;
      held_keys =
          leb-true s.held.count limits.held_keys (and_parts (leb s.held.count limits.held_keys) _ p.1).0;
    }

-- THE THEOREM, of any two records of limits
pub answers-kept : (a b : Limits) → Wider a b → AnswersKept a b
answers-kept a b w s t i m now lent octets n next o q = outcome-kept a b w s t i m now lent octets n next o q

-- and at document 01's own and those of T-01
pub wider : Wider limits_before_t01 limits
wider = record {
  sas = omega arith;
  held_keys = omega arith;
  esp_policies = omega arith;
  wrap_keys = omega arith;
  sa_keys = omega arith;
  deleted_spis = omega arith;
  fresh_keys = omega arith;
}

pub answers-kept-by-t01 : AnswersKept limits_before_t01 limits
answers-kept-by-t01 = answers-kept limits_before_t01 limits wider
