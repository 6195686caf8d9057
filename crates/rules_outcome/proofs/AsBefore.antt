-- WHERE NO FRESH KEY IS READ NOTHING DIFFERS. Document 02, T-11: "Elsewhere, and with the profile off, the attribute is skipped." A member
-- with the profile off, and any member in a registration or an in-band rekey, has the outcome of the rules before that request
-- (BeforeOne.antt: there is one).
use native.Mathlib.Omega.{arith}
use Prim.Native.Nat.{ℕ, zero, suc, ◌≤◌}
use mathlib.Core.Path.{◌≡◌, refl, ap, sym, ◌∙◌, subst}
use mathlib.Core.Bool.{Bool, true, false, cond, not, ◌&&◌, and-false}
use mathlib.Core.Logic.{◌⊎◌, inl, inr, ⊎_elim}
use mathlib.Core.List.Memᴰ
use mathlib.Core.List.{List, [], ◌∷◌, ◌++◌, map, append-nil, Memᴰ}
use borrow.Author.Tests.{leb-true, le-ltb, ltb-false, not-false}
use lib.Dec.{eqb, leb, ltb}
use lib.ListN.{length, drop}
use Rattle.octets.specs.Numbers.{oct}
use Rattle.octets.specs.Walk.{Spans}
use Rattle.ikev2_numbers.specs.Codes.{exchange_at, first_payload_at, gsa_rekey, header_octets}
use Rattle.lists.specs.Lists.{all, any, keep}
use Rattle.state_keys.specs.Limits.{Limits}
use Rattle.state_keys.specs.Limits as figures
use Rattle.lists.proofs.Cases.{and_parts}
use Rattle.wire_attributes.specs.Tree.{WrapKey}
use Rattle.wire_frames.specs.Exchange.{reads_fresh}
use Rattle.wire_frames.specs.declared.exchanges.Exchange.{Exchange}
use Rattle.wire_frames.specs.Frame.{Frame, none_next}
use Rattle.wire_frames.specs.Grammar.{IsPayload, IsFrame}
use Rattle.wire_frames.proofs.PlainLaws.{in-rekeys-alone}
use Rattle.state_table.specs.Table.{table_formed}
use Rattle.state.specs.declared.State.{State}
use Rattle.state.specs.declared.held.HeldKey.{HeldKey}
use Rattle.state.specs.declared.held.Held.{Held}
use Rattle.state.specs.Held.{keys_of, held_of, key_formed, ids_of, distinct, held_formed}
use Rattle.state.specs.State.{state_formed}
use Rattle.rules_refusals.specs.Contents.{row_of, announced, wrap_keys_of, fresh_keys_of}
use Rattle.rules_refusals.specs.Number2.{number2_of_frame, number2_of_member}
use Rattle.rules_refusals.specs.Number4.{number4_of_frame}
use Rattle.rules_refusals.specs.Number6.{under_itself, fresh_key_id, fresh_wraps_itself, number6_of_frame}
use Rattle.rules_refusals.specs.Number7.{many_wrap_keys, many_fresh_keys, number7_of_frame}
use Rattle.rules_refusals.specs.Refusals.{one, applies, number2, number3, number4, number5, number6, number7, numbers}
use Rattle.rules_refusals.proofs.Clear.{no-clause}
use Rattle.rules_chains.specs.Chain.{Root}
use Rattle.rules_chains.specs.Refusals.{EntriesConflict, of-entries, KeyConflict, KeyMissing}
use Rattle.rules_chains.specs.Path.{KeyPath}
use Rattle.rules_chains.proofs.Members.{in-member}
use Rattle.rules_chains.proofs.WorkingPath.{path-ends}
use Rattle.rules_outcome.specs.Roots.{key_zero_value, held_root, those_not_carried, roots_of, entries_of, wrapping_size, announced_keys}
use Rattle.rules_outcome.specs.Holding.{new_rekey, rekey_copies, held_from, held_before, HeldNext, OverHeld, OverHeldOf}
use Rattle.rules_outcome.specs.Answer.{RefusalCase, First, by_clauses, KeyConflictOf, KeyMissingOf, conditions, FrameAnswers}
use Rattle.rules_outcome.specs.After.{Enter, After}
use Rattle.rules_outcome.specs.Outcome.{Judged, NoTree, Outcome}
use Rattle.rules_outcome.specs.Outcome as now-rules
use Rattle.rules_outcome.specs.Judging.{SomeHolds}
use Rattle.rules_outcome.specs.NamedKey.{Registration, Rekey}
use Rattle.rules_outcome.specs.BeforeT11.{number6_before, number7_before, roots_before, conditions_before, HeldThen, AfterBefore}
use Rattle.rules_outcome.specs.BeforeT11.{JudgedBefore, refused, accepted, OutcomeBefore, no-layout, by-tree}
use Rattle.rules_outcome.proofs.First.{first-none, none_first, first-split, some_left}
use Rattle.rules_outcome.proofs.FreshRead.{no-fresh}
use Rattle.rules_outcome.proofs.Rows.{registration-row, rekeys, inband-row, rekey-bars, one-of-four, no-wrap-key}
use Rattle.rules_outcome.proofs.RunsClear.{none-applies}
use Rattle.rules_outcome.proofs.PathKeys.{from-none}
use Rattle.rules_outcome.proofs.HeldList.{no-entry-stays}
use Rattle.rules_outcome.proofs.Room.{room-in-registration, room-without-entries}

keep_all : (l : List HeldKey) → keep (λ (k : HeldKey). not false) l ≡ l
unfolding keep
keep_all [] = refl
keep_all (k ∷ l) = ap (λ (m : List HeldKey). k ∷ m) (keep_all l)

-- ---- the layout
module _ (profile : Bool) (octets : List ℕ) (unread : reads_fresh profile (oct octets exchange_at) ≡ false) where
  not-read : (p : Bool) (f : Frame) → IsFrame p octets f → reads_fresh profile f.header.exchange ≡ false
  not-read p f e = ap (reads_fresh profile) (sym e.exchange) ∙ unread

  reads_as : (p q : Bool) (f : Frame) → reads_fresh p f.header.exchange ≡ reads_fresh q f.header.exchange → IsFrame p octets f →
      IsFrame q octets f
  reads_as p q f r e =
      record {
        least = e.least;
        most = e.most;
        size = e.size;
        major = e.major;
        spi = e.spi;
        exchange = e.exchange;
        message_id = e.message_id;
        payloads =
            subst (λ (b : Bool). Spans none_next (IsPayload b) (oct octets first_payload_at) (drop header_octets octets) f.payloads []) r
            e.payloads;
      }

  read_off : (f : Frame) → IsFrame profile octets f → IsFrame false octets f
  read_off f e = reads_as profile false f (not-read profile f e) e

  read-on : (f : Frame) → IsFrame false octets f → IsFrame profile octets f
  read-on f e = reads_as false profile f (sym (not-read false f e)) e

-- ---- a tree without fresh keys
module _ (limits : Limits) (s : State) (now : ℕ) (lent : List ℕ) (f : Frame) (bare : fresh_keys_of f ≡ []) where
  abbrev size : ℕ
  size = wrapping_size limits s now lent f

  none-carried : (l : List HeldKey) → those_not_carried (fresh_keys_of f) l ≡ l
  unfolding any
  none-carried l = ap (λ (m : List WrapKey). those_not_carried m l) bare ∙ keep_all l

  same-roots : roots_of limits s now lent f ≡ roots_before limits s now lent f
  unfolding roots_of
  same-roots =
      ap
      (λ (l : List HeldKey).
      record { id = 0; value = key_zero_value limits s now lent f } ∷ cond (row_of f).names_held_keys (map held_root l) [])
      (none-carried (keys_of s.held))

  same_entries : entries_of f ≡ wrap_keys_of f
  same_entries = ap (λ (l : List WrapKey). wrap_keys_of f ++ l) bare ∙ append-nil (wrap_keys_of f)

  no-key-id : fresh_key_id f ≡ false
  unfolding fresh_key_id any
  no-key-id = ap (any (λ (k : WrapKey). eqb k.key_id 0)) bare

  none-under-itself : fresh_wraps_itself f ≡ false
  unfolding fresh_wraps_itself any
  none-under-itself = ap (any under_itself) bare

  few-fresh : many_fresh_keys limits f ≡ false
  unfolding many_fresh_keys
  few-fresh = ap (λ (l : List WrapKey). ltb limits.fresh_keys (length l)) bare ∙ le-ltb limits.fresh_keys 0 (omega arith)

  same-6 : applies (number6 s now f) ≡ applies (number6_before s now f)
  unfolding one number6_of_frame
  same-6 = rw (no-key-id, none-under-itself) refl

  same-7 : applies (number7 limits s now f) ≡ applies (number7_before limits s now f)
  unfolding one number7_of_frame
  same-7 = rw few-fresh refl

  -- numbers 2 to 9
  abbrev early : List RefusalCase
  early =
      map by_clauses (numbers limits s now lent f)
      ++ (record { number = 8; holds = KeyConflictOf limits s now lent f } ∷ record { number = 9; holds = KeyMissingOf limits s now lent f }
      ∷ [])

  abbrev late : List RefusalCase
  late = record { number = 7; holds = OverHeldOf limits s now lent f } ∷ []

  same-early : early ≡ conditions_before limits s now lent f
  same-early = λ i.
      by_clauses (number2 limits s now f.header.exchange f.header.spi)
      ∷ by_clauses (number3 s f.header.exchange f.header.message_id) ∷ by_clauses (number4 f) ∷ by_clauses (number5 lent f)
      ∷ record { number = 6; holds = same-6 i ≡ true } ∷ record { number = 7; holds = same-7 i ≡ true }
      ∷ record { number = 8; holds = KeyConflict (same-roots i) (same_entries i) size (announced_keys f) }
      ∷ record { number = 9; holds = KeyMissing (same-roots i) (same_entries i) size (announced_keys f) } ∷ []

  -- ---- the list is never over its limit, where none of these applies
  module _ (enough : limits.wrap_keys ≤ limits.held_keys) (none : (m : ℕ) → SomeHolds early m → ⊥) where
    formed : state_formed limits s ≡ true
    formed =
        let m = none-applies (number2 limits s now f.header.exchange f.header.spi) (λ h. none 2 (inl (h, refl))) in
        not-false (state_formed limits s)
        (no-clause (number2_of_member limits s now f.header.exchange f.header.spi) 2 m.of_member)

    kind : Registration f ⊎ Rekey f
    kind =
        let m = none-applies (number2 limits s now f.header.exchange f.header.spi) (λ h. none 2 (inl (h, refl))) in
        one-of-four f (not-false (row_of f).admitted (no-clause (number2_of_frame f.header.exchange) 0 m.of_frame))

    no-entry : Rekey f → entries_of f ≡ []
    unfolding number4_of_frame
    no-entry r =
        let m = none-applies (number4 f) (λ h. none 4 (inr (inr (inl (h, refl))))) in
        same_entries ∙ no-wrap-key f (rekey-bars f r) (no-clause (number4_of_frame f) 1 m.of_frame)

    few : length (entries_of f) ≤ limits.held_keys
    unfolding number7_of_frame many_wrap_keys
    few =
        let m = none-applies (number7 limits s now f) (λ h. none 7 (inr (inr (inr (inr (inr (inl (h, refl)))))))) in
        let h = ltb-false limits.wrap_keys (length (wrap_keys_of f)) (no-clause (number7_of_frame limits f) 1 m.of_frame) in
        let e : length (entries_of f) ≡ length (wrap_keys_of f) = ap length same_entries in
        omega (arith, h, e, enough)

    no-conflict : EntriesConflict (roots_of limits s now lent f) (entries_of f) size → ⊥
    no-conflict h = none 8 (inr (inr (inr (inr (inr (inr (inl (of-entries h, refl))))))))

    held-few : s.held.count ≤ limits.held_keys
    unfolding state_formed held_formed
    held-few =
        let k = (and_parts (table_formed limits s.table) (held_formed limits s.held) formed).1 in
        leb-true s.held.count limits.held_keys
        (and_parts (leb s.held.count limits.held_keys) (all key_formed (keys_of s.held) && distinct (ids_of (keys_of s.held))) k).0

    -- by the row's answer to whether the exchange registers
    by-registers : (b : Bool) → OverHeldOf limits s now lent f → (row_of f).registers ≡ b →
        OverHeld (roots_of limits s now lent f) (entries_of f) size limits (new_rekey f) (rekey_copies f) (held_before limits b s.held)
    by-registers b o e =
        subst
        (λ (c : Bool).
        OverHeld (roots_of limits s now lent f) (entries_of f) size limits (new_rekey f) (rekey_copies f) (held_before limits c s.held))
        e o

    registers-no : Rekey f → (row_of f).registers ≡ false
    registers-no r =
        ⊎_elim (λ x. ap (λ (y : Exchange). y.registers) (rekeys f.header.exchange x))
        (λ x. ap (λ (y : Exchange). y.registers) (inband-row f x)) r

    pub never-over : OverHeldOf limits s now lent f → ⊥
    never-over o =
        ⊎_elim
        (λ g.
        room-in-registration (roots_of limits s now lent f) (entries_of f) size limits (rekey_copies f) (new_rekey f) no-conflict few
        (by-registers true o (ap (λ (y : Exchange). y.registers) (registration-row f g))))
        (λ r.
        room-without-entries (roots_of limits s now lent f) (entries_of f) size limits (rekey_copies f) (new_rekey f) s.held (no-entry r)
        held-few (by-registers false o (registers-no r)))
        kind

  module _ (enough : limits.wrap_keys ≤ limits.held_keys) where
    late-no : (n : ℕ) → ((m : ℕ) → SomeHolds early m → ⊥) → First late (suc n) → ⊥
    late-no n none (inl p) = never-over enough none p.0
    late-no n none (inr p) = let z = p.1 in omega arith

    answer-before : (n : ℕ) → FrameAnswers limits s now lent f n → First (conditions_before limits s now lent f) n
    answer-before zero a =
        let none = first-none (conditions limits s now lent f) refl a in
        subst (λ (l : List RefusalCase). First l 0) same-early (none_first early (λ m h. none m (some_left early late m h)))
    answer-before (suc n) a =
        subst (λ (l : List RefusalCase). First l (suc n)) same-early
        (⊎_elim (λ q. q) (λ q. absurd (late-no n q.0 q.1)) (first-split early late n a))

    -- ---- the member afterwards
    carry : (P : List Root → List WrapKey → Type 0) → P (roots_of limits s now lent f) (entries_of f) →
        P (roots_before limits s now lent f) (wrap_keys_of f)
    carry P x =
        subst (P (roots_before limits s now lent f)) same_entries (subst (λ (r : List Root). P r (entries_of f)) same-roots x)

    -- in a registration chains start with key 0 alone
    ends-on-zero : Registration f → (ids : List ℕ) (end : ℕ) →
        KeyPath (roots_before limits s now lent f) (wrap_keys_of f) size (rekey_copies f) ids end → end ≡ 0
    ends-on-zero g ids end p =
        let e = path-ends (roots_before limits s now lent f) (wrap_keys_of f) size (rekey_copies f) ids end p in
        let one : roots_before limits s now lent f ≡ record { id = 0; value = key_zero_value limits s now lent f } ∷ [] =
        ap
        (λ (x : Exchange).
        record { id = 0; value = key_zero_value limits s now lent f } ∷ cond x.names_held_keys (map held_root (keys_of s.held)) [])
        (registration-row f g) in
        sym e.is
        ∙ ap (λ (r : Root). r.id)
        (Memᴰ.eq_of_singleton (subst (Memᴰ e.key) one (in-member e.key (roots_before limits s now lent f) e.stands)))

    set_before : Registration f → (b : Bool) (h : Held) →
        HeldNext (roots_before limits s now lent f) (wrap_keys_of f) size limits b (rekey_copies f) (held_of limits []) h →
        HeldThen limits s now lent f true b h
    set_before g true h p =
        record {
          ids = p.ids;
          path =
              subst (KeyPath (roots_before limits s now lent f) (wrap_keys_of f) size (rekey_copies f) p.ids)
              (ends-on-zero g p.ids p.end p.path) p.path;
          keys = p.keys;
          are = p.are;
          is = p.is ∙ from-none limits (map held_from p.keys) p.end;
        }
    set_before g false h p = p

    held_then : (none : (m : ℕ) → SomeHolds early m → ⊥) (next : State) → After limits s now lent f next →
        HeldThen limits s now lent f (row_of f).registers (new_rekey f) next.held
    held_then none next a =
        ⊎_elim
        (λ g.
        let r : (row_of f).registers ≡ true = ap (λ (y : Exchange). y.registers) (registration-row f g) in
        subst (λ (b : Bool). HeldThen limits s now lent f b (new_rekey f) next.held) (sym r)
        (set_before g (new_rekey f) next.held
        (carry (λ l e. HeldNext l e size limits (new_rekey f) (rekey_copies f) (held_of limits []) next.held)
        (subst
        (λ (b : Bool).
        HeldNext (roots_of limits s now lent f) (entries_of f) size limits (new_rekey f) (rekey_copies f) (held_before limits b s.held)
        next.held)
        r a.held))))
        (λ q.
        let r = registers-no enough none q in
        subst (λ (b : Bool). HeldThen limits s now lent f b (new_rekey f) next.held) (sym r)
        (no-entry-stays (roots_of limits s now lent f) (entries_of f) size limits (new_rekey f) (rekey_copies f) s.held next.held
        (no-entry enough none q)
        (subst
        (λ (b : Bool).
        HeldNext (roots_of limits s now lent f) (entries_of f) size limits (new_rekey f) (rekey_copies f) (held_before limits b s.held)
        next.held)
        r a.held)))
        (kind enough none)

    after-before : (next : State) → FrameAnswers limits s now lent f 0 → After limits s now lent f next →
        AfterBefore limits s now lent f next
    after-before next p a =
        let none = first-none (conditions limits s now lent f) refl p in
        record {
          new = a.new;
          enter = carry (λ r e. Enter r e size now f (announced f) a.new) a.enter;
          table = a.table;
          held = held_then (λ m h. none m (some_left early late m h)) next a;
          least = a.least;
          profile = a.profile;
        }

    judged-before : (n : ℕ) (next : State) → Judged limits s now lent f n next → JudgedBefore limits s now lent f n next
    judged-before _ _ (now-rules.refused n p) = refused n (answer-before (suc n) p)
    judged-before _ _ (now-rules.accepted next p a) = accepted next (answer-before 0 p) (after-before next p a)

-- ---- THE LAW, of octets in which no fresh key is read
module _ (limits : Limits) (enough : limits.wrap_keys ≤ limits.held_keys) (s : State) (now : ℕ) (lent octets : List ℕ)
    (unread : reads_fresh s.profile (oct octets exchange_at) ≡ false) where
  pub as_before : (n : ℕ) (next : State) → Outcome limits s now lent octets n next → OutcomeBefore limits s now lent octets n next
  as_before _ _ (now-rules.no-layout none) = no-layout (λ f e. none f (read-on s.profile octets unread f e))
  as_before n next (now-rules.by-tree f e j) =
      by-tree f (read_off s.profile octets unread f e)
      (judged-before limits s now lent f (no-fresh s.profile octets f e (not-read s.profile octets unread s.profile f e)) enough n
      next j)

-- "with the profile off", whatever the octets are
pub profile-off : (s : State) → s.profile ≡ false → (now : ℕ) (lent octets : List ℕ) (n : ℕ) (next : State) →
    Outcome figures.limits s now lent octets n next → OutcomeBefore figures.limits s now lent octets n next
profile-off s off now lent octets =
    as_before figures.limits (omega arith) s now lent octets
    (ap (λ (p : Bool). reads_fresh p (oct octets exchange_at)) off)

-- "Elsewhere": in every exchange but GSA_REKEY, also with the profile on
pub elsewhere : (s : State) (now : ℕ) (lent octets : List ℕ) → (oct octets exchange_at ≡ gsa_rekey → ⊥) → (n : ℕ) (next : State) →
    Outcome figures.limits s now lent octets n next → OutcomeBefore figures.limits s now lent octets n next
elsewhere s now lent octets e =
    as_before figures.limits (omega arith) s now lent octets
    (ap (λ (b : Bool). s.profile && b) (in-rekeys-alone (oct octets exchange_at) e) ∙ and-false s.profile)
