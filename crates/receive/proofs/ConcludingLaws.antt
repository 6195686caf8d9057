-- What the keys of a frame that numbers 2 to 7 let pass make of it: number 8, number 9, or the state after acceptance.
use Rattle.std.specs.Prelude.{Result, Ok, Err}
use native.Mathlib.Omega.{arith}
use Prim.Native.Nat.{ℕ, ◌+◌, ◌≤◌}
use mathlib.Core.Path.{◌≡◌, refl, ap, sym, subst, ◌∙◌}
use mathlib.Core.Bool.{Bool, true, false}
use mathlib.Core.List.{List, []}
use lib.ListN.{length, take}
use Rattle.octets.specs.Numbers.{oct}
use Rattle.octets.specs.Walk.{whole}
use Rattle.state_keys.specs.Limits.{limits}
use Rattle.lists.proofs.Cases.{and_parts}
use Rattle.wire_frames.specs.Frame.{Frame, frame}
use Rattle.wire_frames.specs.Exchange.{exchange_of}
use Rattle.wire_frames.specs.declared.exchanges.Exchange.{Exchange}
use Rattle.wire_frames.proofs.FrameGrammar.{read-frame}
use Rattle.state_table.specs.Table.{table_formed}
use Rattle.state_table.proofs.Kept.{formed-count}
use Rattle.state.specs.State.{state_formed}
use Rattle.state.specs.Held.{held_formed}
use Rattle.rules_refusals.specs.Number2.{not_due_sas}
use Rattle.state_sa.specs.declared.entry.Sa.{Sa}
use Rattle.state.specs.declared.State.{State}
use Rattle.state.specs.declared.held.Held.{Held}
use Rattle.rules_refusals.specs.Contents.{row_of, announced}
use Rattle.rules_refusals.specs.Refusals.{refusal}
use Rattle.rules_chains.specs.Chain.{Root}
use Rattle.rules_chains.specs.Refusals.{EntriesConflict, CopiesConflict, of-entries, of-copies}
use Rattle.rules_outcome.specs.Roots.{roots_of, entries_of, wrapping_size, announced_as, announced_keys}
use Rattle.rules_outcome.specs.Answer.{KeyConflictOf, KeyMissingOf}
use Rattle.rules_outcome.specs.Holding.{new_rekey, rekey_copies, held_before, HeldAfterwards, OverHeldOf}
use Rattle.rules_outcome.specs.After.{Enter}
use Rattle.rules_outcome.specs.Outcome.{Judged, refused, accepted}
use Rattle.rules_outcome.proofs.Answering.{answers-8, answers-9, answers-over, answers-0}
use Rattle.rules_outcome.proofs.Determined.{held_one}
use Rattle.rules_outcome.proofs.Accepting.{missing-policy, policy-missing}
use Rattle.rules_outcome.proofs.Enters.{each-enters}
use Rattle.rules_outcome.proofs.Members.{in_map, map-in}
use Rattle.apply.specs.inner.Following.{Follows}
use Rattle.check_judging.specs.declared.facts.Facts.{Facts}
use Rattle.unwrap_sas.specs.inner.Keyed.{new_sas, SomeConflict, NoConflict, SomeUnopened, KeysOf, KeyedBy}
use Rattle.unwrap_sas.specs.declared.joining.Keyed.{Keyed}
use Rattle.unwrap_sas.specs.declared.joining.SasFault.{SasFault}
use Rattle.unwrap_sas.specs.declared.joining.SasFault.TheVariants.{KeyConflict, KeyMissing}
use Rattle.receive.specs.inner.Passing.{Passed, EachHasCopy, HeldTold}
use Rattle.receive.proofs.ClauseLaws.{few-sas, few-announced}

module _ (m : State) (now : ℕ) (lent : List ℕ) (f : Frame) (e : refusal limits m now lent f ≡ 0) where
  abbrev roots : List Root
  roots = roots_of limits m now lent f

  abbrev size : ℕ
  size = wrapping_size limits m now lent f

  -- number 8 of the entries
  pub conflict-of-entries : EntriesConflict (roots_of limits m now lent f) (entries_of f) (wrapping_size limits m now lent f) →
      Judged limits m now lent f 8 m
  conflict-of-entries x = refused 7 (answers-8 limits m now lent f e (of-entries x))

  pub conflict-of-copies : SomeConflict (roots_of limits m now lent f) (entries_of f) (wrapping_size limits m now lent f) f (announced f) →
      Judged limits m now lent f 8 m
  unfolding announced_keys
  conflict-of-copies x =
      let a = announced_as f x.sa in
      refused 7
      (answers-8 limits m now lent f e
      (of-copies a (map-in (announced_as f) a (announced f) x.sa x.stands refl) x.conflict))

  module _ (none : EntriesConflict (roots_of limits m now lent f) (entries_of f) (wrapping_size limits m now lent f) → ⊥)
      (fit : NoConflict (roots_of limits m now lent f) (entries_of f) (wrapping_size limits m now lent f) f (announced f)) where
    no-conflict : KeyConflictOf limits m now lent f → ⊥
    unfolding announced_keys
    no-conflict (of-entries x) = none x
    no-conflict (of-copies a i x) =
        let r = in_map (announced_as f) a (announced f) i in
        fit r.item r.stands (subst (CopiesConflict roots (entries_of f) size) r.is x)

    pub unopened : SomeUnopened (roots_of limits m now lent f) (entries_of f) (wrapping_size limits m now lent f) f (announced f) →
        Judged limits m now lent f 9 m
    unopened x =
        refused 8
        (answers-9 limits m now lent f e no-conflict
        (policy-missing limits m now lent f x.sa x.stands (λ o. x.none o.0 o.1)))

    -- each SA has its key
    module _ (new : List Sa)
        (enter : Enter (roots_of limits m now lent f) (entries_of f) (wrapping_size limits m now lent f) now f (announced f) new) where
      each : EachHasCopy roots (entries_of f) size f
      each a i = let r = each-enters roots (entries_of f) size now f (announced f) new enter a i in (r.octets, r.key.opens)

      all-open : KeyMissingOf limits m now lent f → ⊥
      all-open n = let p = missing-policy limits m now lent f n in p.2 (each p.0 p.1)

      pub over-number7 : OverHeldOf limits m now lent f → Judged limits m now lent f 7 m
      over-number7 o = refused 6 (answers-over limits m now lent f e no-conflict all-open o)

      pub opened : (held : Held) (next : State) → HeldTold m now lent f false held → Follows m now f new held next →
          Judged limits m now lent f 0 next
      opened held next h follows =
          let kept = h.kept refl in
          let not-over : OverHeldOf limits m now lent f → ⊥ =
          λ o.
          let q : o.list ≡ held =
          held_one roots (entries_of f) size limits (new_rekey f) (rekey_copies f) (held_before limits (row_of f).registers m.held) o.list
          held o.leaves kept in
          let n : o.list.count ≡ held.count = ap (λ (x : Held). x.count) q in
          let g = o.over in
          let few = h.few refl in omega (arith, n, g, few) in
          accepted next (answers-0 limits m now lent f e no-conflict all-open not-over)
          (record {
            new = new;
            enter = enter;
            table = follows.table;
            held = subst (HeldAfterwards limits m now lent f) (sym follows.held-is) kept;
            least = follows.least;
            profile = follows.profile;
          })

-- ---- the header's fields that acceptance reads
pub row_is : (profile : Bool) (s : List ℕ) (f : Frame) (x : ℕ) (r : Exchange) → frame profile s ≡ whole f [] → x ≡ oct s 18 →
    r ≡ exchange_of x → row_of f ≡ r
row_is profile s f x r w e g = ap exchange_of (sym (read-frame profile s f [] w).exchange ∙ sym e) ∙ sym g

-- ---- a state that is formed
module _ (m : State) (e : state_formed limits m ≡ true) where
  parts : (table_formed limits m.table ≡ true) × (held_formed limits m.held ≡ true)
  unfolding state_formed
  parts = and_parts (table_formed limits m.table) (held_formed limits m.held) e

  pub table_fits : m.table.count ≤ limits.sas
  table_fits = formed-count limits m.table parts.0

  pub table_is : table_formed limits m.table ≡ true
  table_is = parts.0

  pub held_fits : held_formed limits m.held ≡ true
  held_fits = parts.1

-- ---- by what is known of the keys
-- what is known of a frame's keys where number 8 does not hold of its entries: `keyed` is the result for its SAs. If each has its key,
-- `over` says whether the held list after acceptance would be over its limit, and if not, `held` is that list
pub record KeysKnown (m : State) (now : ℕ) (lent s : List ℕ) (x : Facts) (keyed : Keyed) (over : Bool) (held : Held) (f : Frame) : Type
    0 where
  pub passed : Passed m now lent s x f
  pub entries : EntriesConflict (roots_of limits m now lent f) (entries_of f) (wrapping_size limits m now lent f) → ⊥
  pub keys : KeyedBy (roots_of limits m now lent f) (entries_of f) (wrapping_size limits m now lent f) f now keyed
  pub held-is : keyed.found ≡ Ok tt → HeldTold m now lent f over held

module _ (m : State) (now : ℕ) (lent s : List ℕ) (x : Facts) (keyed : Keyed) (over : Bool) (held : Held) (f : Frame)
    (o : KeysKnown m now lent s x keyed over held f) where
  keys-by : (y : Result (Unit {0}) SasFault) → keyed.found ≡ y →
      KeysOf (roots_of limits m now lent f) (entries_of f) (wrapping_size limits m now lent f) f (announced f) now y keyed.sas
      keyed.count
  keys-by y e =
      subst
      (λ (z : Result (Unit {0}) SasFault).
      KeysOf (roots_of limits m now lent f) (entries_of f) (wrapping_size limits m now lent f) f (announced f) now z keyed.sas
      keyed.count)
      e o.keys.keys

  pub by-conflict : keyed.found ≡ Err KeyConflict → Judged limits m now lent f 8 m
  by-conflict e = conflict-of-copies m now lent f o.passed.clauses (keys-by (Err KeyConflict) e)

  pub by-missing : keyed.found ≡ Err KeyMissing → Judged limits m now lent f 9 m
  by-missing e =
      let k = keys-by (Err KeyMissing) e in
      unopened m now lent f o.passed.clauses o.entries k.0 k.1

  module _ (e : keyed.found ≡ Ok tt) where
    pub by_over : over ≡ true → Judged limits m now lent f 7 m
    by_over w =
        let k = keys-by (Ok tt) e in
        over-number7 m now lent f o.passed.clauses o.entries k.0 (take keyed.count keyed.sas) k.1
        ((o.held-is e).beyond w)

    pub by-keys : over ≡ false → (next : State) → Follows m now f (take keyed.count keyed.sas) held next →
        Judged limits m now lent f 0 next
    by-keys w next follows =
        let k = keys-by (Ok tt) e in
        let new = take keyed.count keyed.sas in
        opened m now lent f o.passed.clauses o.entries k.0 new k.1 held next
        (subst (λ (x : Bool). HeldTold m now lent f x held) w (o.held-is e)) follows

    pub room-is : length (not_due_sas now m) + keyed.count ≤ limits.sas
    room-is =
        let k = keys-by (Ok tt) e in
        let n = few-sas m now lent f o.passed.clauses in
        omega (arith, k.2)

    pub new-few : keyed.count ≤ new_sas
    new-few =
        let k = keys-by (Ok tt) e in
        let n = few-announced m now lent f o.passed.clauses in
        omega (arith, k.2)
