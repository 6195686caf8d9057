-- What two members, or two headers, make of one GSA_INBAND_REKEY (document 02, T-02): the lemma behind the theorems of Inband.antt.
use native.Mathlib.Omega.{arith}
use Prim.Native.Nat.{ℕ, zero, suc}
use mathlib.Core.Path.{◌≡◌, refl, ap, sym, ◌∙◌, subst}
use mathlib.Core.Bool.{Bool, true, false, not, ◌&&◌, and-false}
use mathlib.Core.Logic.{◌⊎◌, inl, inr, ⊎_elim}
use mathlib.Core.List.{List, [], ◌∷◌, ◌++◌, map}
use borrow.Author.Tests.{leb-true, not-false}
use lib.Dec.{leb}
use Rattle.lists.specs.Lists.{all}
use Rattle.state_keys.specs.Limits.{Limits}
use Rattle.lists.proofs.Cases.{bool_cases, and_parts}
use Rattle.wire_attributes.specs.Tree.{SaKey, WrapKey}
use Rattle.wire_policies.specs.Policy.{GroupSaPolicy}
use Rattle.wire_frames.specs.Frame.{Frame, Payload}
use Rattle.wire_frames.specs.Grammar.{IsFrame}
use Rattle.wire_frames.specs.declared.exchanges.Exchange.{Exchange}
use Rattle.wire_frames.proofs.FrameGrammar.{one-tree}
use Rattle.state_sa.specs.declared.entry.Sa.{Sa}
use Rattle.state_table.specs.Table.{empty_at, table_of, table_formed}
use Rattle.state.specs.declared.State.{State}
use Rattle.state.specs.Held.{keys_of, key_formed, ids_of, distinct, held_formed}
use Rattle.state.specs.State.{state_formed}
use Rattle.rules_refusals.specs.Contents.{row_of, announced, fresh_keys_of}
use Rattle.rules_refusals.specs.Number2.{unwanted_member, other_spis, number2_of_frame, number2_of_member}
use Rattle.rules_refusals.specs.Number3.{not_acceptable}
use Rattle.rules_refusals.specs.Number4.{critical_unknown, barred_member_bag, barred_delete, two_gsa, two_kd, gsa_without_kd, kd_without_gsa, neither}
use Rattle.rules_refusals.specs.Number4.{several_rekey_policies, several_group_wide, several_member_bags, gsa_without_sa_policy, key_length_twice}
use Rattle.rules_refusals.specs.Number4.{initial_message_id_twice, delay_twice, other_destination, lifetime_twice, number4_of_frame}
use Rattle.rules_refusals.specs.Number5.{ah_policy, ah_bag, other_transforms, delete_of_other, delete_of_none, lent_key_size, number5_of_frame}
use Rattle.rules_refusals.specs.Number6.{policy_unpaired, bag_unpaired, policy_twice, bag_twice, sa_key_count, sa_key_id, esp_kwk_id, wrap_key_id}
use Rattle.rules_refusals.specs.Number6.{wraps_itself, fresh_key_id, fresh_wraps_itself, already_in_table, number6_of_frame, number6_of_member}
use Rattle.rules_refusals.specs.Number7.{many_esp_policies, many_wrap_keys, many_sa_keys, many_deleted_spis, long_lifetime, many_fresh_keys, many_sas}
use Rattle.rules_refusals.specs.Number7.{number7_of_frame, number7_of_member}
use Rattle.rules_refusals.specs.Refusals.{number2, number3, number4, number5, numbers}
use Rattle.rules_refusals.proofs.Clear.{no-clause}
use Rattle.rules_chains.specs.Chain.{Root}
use Rattle.rules_chains.specs.Refusals.{Announced, KeyOf, KeyConflict, KeyMissing}
use Rattle.rules_outcome.specs.Roots.{roots_of, entries_of, key_zero_value, wrapping_size, copies_of, announced_as, announced_keys}
use Rattle.rules_outcome.specs.Holding.{new_rekey, rekey_copies, held_before, HeldNext, OverHeld, OverHeldOf}
use Rattle.rules_outcome.specs.Answer.{RefusalCase, First, by_clauses, KeyConflictOf, KeyMissingOf, conditions, FrameAnswers}
use Rattle.rules_outcome.specs.After.{delay_of, named_in_delete, replaced, old_sas, insert_all, Enter, no-sa, one_more}
use Rattle.rules_outcome.specs.After.{initial_message_id, least_afterwards, After}
use Rattle.rules_outcome.specs.Outcome.{Judged, refused, accepted, Outcome, no-layout, by-tree}
use Rattle.rules_outcome.specs.Judging.{SomeHolds}
use Rattle.rules_outcome.specs.NamedKey.{Inband, lent_root}
use Rattle.rules_outcome.specs.Inband.{Beside}
use Rattle.rules_outcome.proofs.First.{first-none, none_first, first-split, first-left, some_left, some-split}
use Rattle.rules_outcome.proofs.FreshRead.{no-fresh}
use Rattle.rules_outcome.proofs.Rows.{inband-row, no-wrap-key}
use Rattle.rules_outcome.proofs.RunsClear.{none-applies}
use Rattle.rules_outcome.proofs.HeldList.{no-entry-stays, no-entry-next}
use Rattle.rules_outcome.proofs.Room.{room-without-entries}

-- ---- two frames of this exchange with the same payloads, over two members with the same table
-- the exchange with any SPIs and Message ID
abbrev framed : List ℕ → ℕ → List Payload → Frame
framed spi id p = record { header = record { spi = spi; exchange = 42; message_id = id }; payloads = p }

module _ (limits : Limits) (s t : State) (now : ℕ) (lent : List ℕ) (x y : List ℕ) (i j : ℕ) (p : List Payload) where
  abbrev f : Frame
  f = framed x i p

  abbrev g : Frame
  g = framed y j p

  same-4 : number4 f ≡ number4 g
  unfolding number4_of_frame critical_unknown barred_member_bag barred_delete two_gsa two_kd gsa_without_kd kd_without_gsa neither several_rekey_policies
      several_group_wide several_member_bags gsa_without_sa_policy key_length_twice initial_message_id_twice delay_twice other_destination
      lifetime_twice
  same-4 = refl

  same-5 : number5 lent f ≡ number5 lent g
  unfolding number5_of_frame ah_policy ah_bag other_transforms delete_of_other delete_of_none lent_key_size
  same-5 = refl

  same-copies : (a : GroupSaPolicy) → announced_as f a ≡ announced_as g a
  unfolding copies_of
  same-copies a = refl

  same-rekey-copies : rekey_copies f ≡ rekey_copies g
  unfolding rekey_copies copies_of
  same-rekey-copies = refl

  same-announced : announced_keys f ≡ announced_keys g
  unfolding announced_keys copies_of
  same-announced = refl

  lent-root : (u : State) → (roots_of limits u now lent f ≡ lent_root lent) × (roots_of limits u now lent g ≡ lent_root lent)
  unfolding roots_of key_zero_value
  lent-root u = (refl, refl)

  module _ (same-table : s.table ≡ t.table) (same-formed : state_formed limits s ≡ state_formed limits t) where
    same-2 : number2 limits s now 42 x ≡ number2 limits t now 42 y
    unfolding unwanted_member other_spis
    same-2 = λ k.
        record { number = 2; of_frame = number2_of_frame 42; of_member = empty_at limits now (same-table k) ∷ false ∷ not (same-formed k) ∷ [] }

    same-3 : number3 s 42 i ≡ number3 t 42 j
    unfolding not_acceptable
    same-3 = refl

    -- the number's clauses on the frame, and those on the table
    same-6-frame : number6_of_frame f ≡ number6_of_frame g
    unfolding number6_of_frame policy_unpaired bag_unpaired policy_twice bag_twice sa_key_count sa_key_id esp_kwk_id wrap_key_id wraps_itself fresh_key_id
        fresh_wraps_itself
    same-6-frame = refl

    same-6-member : number6_of_member s now f ≡ number6_of_member t now g
    unfolding number6_of_member already_in_table
    same-6-member = rw same-table

    same-7-frame : number7_of_frame limits f ≡ number7_of_frame limits g
    unfolding number7_of_frame many_esp_policies many_wrap_keys many_sa_keys many_deleted_spis long_lifetime many_fresh_keys
    same-7-frame = refl

    same-7-member : number7_of_member limits s now f ≡ number7_of_member limits t now g
    unfolding number7_of_member many_sas
    same-7-member = rw same-table

    same-roots : roots_of limits s now lent f ≡ roots_of limits t now lent g
    same-roots = (lent-root s).0 ∙ sym (lent-root t).1

    same_size : wrapping_size limits s now lent f ≡ wrapping_size limits t now lent g
    unfolding wrapping_size key_zero_value
    same_size = refl

    -- numbers 2 to 9
    abbrev early : State → Frame → List RefusalCase
    early u h =
        map by_clauses (numbers limits u now lent h)
        ++ (record { number = 8; holds = KeyConflictOf limits u now lent h }
        ∷ record { number = 9; holds = KeyMissingOf limits u now lent h } ∷ [])

    abbrev late : State → Frame → List RefusalCase
    late u h = record { number = 7; holds = OverHeldOf limits u now lent h } ∷ []

    same-early : early s f ≡ early t g
    same-early = λ k.
        map by_clauses
        (same-2 k ∷ same-3 k ∷ same-4 k ∷ same-5 k ∷ record { number = 6; of_frame = same-6-frame k; of_member = same-6-member k } ∷
        record { number = 7; of_frame = same-7-frame k; of_member = same-7-member k } ∷ [])
        ++ (record { number = 8; holds = KeyConflict (same-roots k) (entries_of f) (same_size k) (same-announced k) } ∷
        record { number = 9; holds = KeyMissing (same-roots k) (entries_of f) (same_size k) (same-announced k) } ∷ [])

    module _ (bare : fresh_keys_of f ≡ []) where
      -- what numbers 2 and 4 let pass has no entry, and leaves the held list of a member that is as it must be
      module _ (none : (m : ℕ) → SomeHolds (early s f) m → ⊥) where
        no-entry : entries_of f ≡ []
        unfolding number4_of_frame
        no-entry =
            let m = none-applies (number4 f) (λ h. none 4 (inr (inr (inl (h, refl))))) in
            ap (λ (l : List WrapKey). l ++ fresh_keys_of f) (no-wrap-key f refl (no-clause (number4_of_frame f) 1 m.of_frame)) ∙ bare

        formed : state_formed limits s ≡ true
        formed =
            let m = none-applies (number2 limits s now 42 x) (λ h. none 2 (inl (h, refl))) in
            not-false (state_formed limits s) (no-clause (number2_of_member limits s now 42 x) 2 m.of_member)

        never-over : (u : State) (h : Frame) → entries_of h ≡ [] → (row_of h).registers ≡ false → state_formed limits u ≡ true →
            OverHeldOf limits u now lent h → ⊥
        unfolding state_formed held_formed
        never-over u h none r w o =
            let k = (and_parts (table_formed limits u.table) (held_formed limits u.held) w).1 in
            let c = leb-true u.held.count limits.held_keys
            (and_parts (leb u.held.count limits.held_keys)
            (all key_formed (keys_of u.held) && distinct (ids_of (keys_of u.held))) k).0 in
            room-without-entries (roots_of limits u now lent h) (entries_of h) (wrapping_size limits u now lent h) limits (rekey_copies h)
            (new_rekey h)
            u.held none c
            (subst
            (λ (b : Bool).
            OverHeld (roots_of limits u now lent h) (entries_of h) (wrapping_size limits u now lent h) limits (new_rekey h) (rekey_copies h)
            (held_before limits b u.held))
            r o)

        not-s : OverHeldOf limits s now lent f → ⊥
        not-s = never-over s f no-entry refl formed

        not_t : OverHeldOf limits t now lent g → ⊥
        not_t = never-over t g no-entry refl (sym same-formed ∙ formed)

      none-late : (u : State) (h : Frame) → (OverHeldOf limits u now lent h → ⊥) → (n : ℕ) → First (late u h) (suc n) → ⊥
      none-late u h none n (inl p) = none p.0
      none-late u h none n (inr p) = let z = p.1 in omega arith

      same_answer : (n : ℕ) → FrameAnswers limits s now lent f n → FrameAnswers limits t now lent g n
      same_answer zero a =
          let none = first-none (conditions limits s now lent f) refl a in
          let before : (m : ℕ) → SomeHolds (early s f) m → ⊥ = λ m h. none m (some_left (early s f) (late s f) m h) in
          none_first (conditions limits t now lent g)
          (λ m h.
          ⊎_elim (λ q. before m (subst (λ (l : List RefusalCase). SomeHolds l m) (sym same-early) q))
          (⊎_elim (λ q. not_t before q.0) (λ q. q)) (some-split (early t g) (late t g) m h))
      same_answer (suc n) a =
          ⊎_elim (λ q. first-left (early t g) (late t g) n (subst (λ (l : List RefusalCase). First l (suc n)) same-early q))
          (λ q. absurd (none-late s f (not-s q.0) n q.1)) (first-split (early s f) (late s f) n a)

    same_old : old_sas s now f ≡ old_sas t now g
    unfolding old_sas delay_of named_in_delete replaced
    same_old = rw same-table

    same-enter : (roots : List Root) (entries : List WrapKey) (size : ℕ) (l : List GroupSaPolicy) (m : List Sa) →
        Enter roots entries size now f l m → Enter roots entries size now g l m
    same-enter roots entries size _ _ no-sa = no-sa
    same-enter roots entries size _ _ (one_more {a} {l} {m} k o e) =
        one_more k (subst (λ (z : Announced). KeyOf roots entries size z k) (same-copies a) o) (same-enter roots entries size l m e)

    -- the member afterwards: the table that the other has, the held list and the least Message ID by its own
    abbrev besides : State → State
    besides next = record { table = next.table; held = t.held; least = least_afterwards t g; profile = t.profile }

    same_after : (next : State) → entries_of f ≡ [] → After limits s now lent f next → After limits t now lent g (besides next)
    unfolding rekey_copies
    same_after next none a =
        record {
          new = a.new;
          enter =
              subst (λ (n : ℕ). Enter (roots_of limits t now lent g) (entries_of g) n now g (announced g) a.new) same_size
              (subst (λ (r : List Root). Enter r (entries_of g) (wrapping_size limits s now lent f) now g (announced g) a.new) same-roots
              (same-enter (roots_of limits s now lent f) (entries_of f) (wrapping_size limits s now lent f) (announced f) a.new
              a.enter));
          table = a.table ∙ ap (λ (l : List Sa). table_of limits (insert_all a.new l)) same_old;
          held =
              subst (λ (n : ℕ). HeldNext (roots_of limits t now lent g) (entries_of g) n limits (new_rekey g) (rekey_copies g) t.held
              t.held)
              same_size
              (subst
              (λ (r : List Root).
              HeldNext r (entries_of g) (wrapping_size limits s now lent f) limits (new_rekey g) (rekey_copies g) t.held t.held)
              same-roots
              (no-entry-next (roots_of limits s now lent f) (entries_of f) (wrapping_size limits s now lent f) limits (new_rekey f)
              (rekey_copies g) s.held next.held t.held none
              (subst
              (λ (c : List SaKey).
              HeldNext (roots_of limits s now lent f) (entries_of f) (wrapping_size limits s now lent f) limits (new_rekey f) c s.held
              next.held)
              same-rekey-copies a.held)));
          least = refl;
          profile = refl;
        }

    least-own-or-new : (next : State) → After limits s now lent f next →
        ((next.least ≡ s.least) × ((besides next).least ≡ t.least)) ⊎ ((besides next).least ≡ next.least)
    unfolding least_afterwards initial_message_id
    least-own-or-new next a =
        bool_cases (new_rekey f) (λ e. inr (sym (a.least ∙ rw e))) (λ e. inl (a.least ∙ rw e, rw e))

    module _ (octets : List ℕ) (d : IsFrame t.profile octets g) (bare : fresh_keys_of f ≡ []) where
      judged-beside : (n : ℕ) (next : State) → Judged limits s now lent f n next → Beside limits s t now lent octets n next
      judged-beside _ _ (refused n a) =
          record {
            after = t;
            outcome = by-tree g d (refused n (same_answer bare (suc n) a));
            table = sym same-table;
            held = (refl, refl);
            least = inl (refl, refl);
          }
      judged-beside _ _ (accepted next a r) =
          let none = first-none (conditions limits s now lent f) refl a in
          let empty = no-entry bare (λ m h. none m (some_left (early s f) (late s f) m h)) in
          record {
            after = besides next;
            outcome = by-tree g d (accepted (besides next) (same_answer bare 0 a) (same_after next empty r));
            table = refl;
            held = (
              no-entry-stays (roots_of limits s now lent f) (entries_of f) (wrapping_size limits s now lent f) limits (new_rekey f)
                  (rekey_copies f) s.held next.held empty r.held,
              refl,
            );
            least = least-own-or-new next r;
          }

-- a frame of this exchange, by its parts
framed_is : (f : Frame) (p : List Payload) → Inband f → f.payloads ≡ p → f ≡ framed f.header.spi f.header.message_id p
framed_is f p b e = λ k.
    record { header = record { spi = f.header.spi; exchange = b k; message_id = f.header.message_id }; payloads = e k }

module _ (limits : Limits) (now : ℕ) (lent octets others : List ℕ) (f g : Frame) (b : Inband f) (c : Inband g)
    (p : f.payloads ≡ g.payloads) where
  -- no fresh key is read in this exchange
  bare : (profile : Bool) → IsFrame profile octets f → fresh_keys_of f ≡ []
  bare profile e =
      no-fresh profile octets f e
      (ap (λ (x : Exchange). profile && x.reads_fresh_keys) (inband-row f b) ∙ and-false profile)

  by-frame : (s t : State) → IsFrame s.profile octets f → IsFrame t.profile others g → s.table ≡ t.table →
      state_formed limits s ≡ state_formed limits t → (n : ℕ) (next : State) → Judged limits s now lent f n next →
      Beside limits s t now lent others n next
  by-frame s t e d q w n next j =
      let x = framed_is f g.payloads b p in
      let y = framed_is g g.payloads c refl in
      judged-beside limits s t now lent f.header.spi g.header.spi f.header.message_id g.header.message_id g.payloads q w
      others (subst (IsFrame t.profile others) y d) (ap fresh_keys_of (sym x) ∙ bare s.profile e) n next
      (subst (λ (h : Frame). Judged limits s now lent h n next) x j)

  pub beside : (s t : State) → IsFrame s.profile octets f → IsFrame t.profile others g → s.table ≡ t.table →
      state_formed limits s ≡ state_formed limits t → (n : ℕ) (next : State) → Outcome limits s now lent octets n next →
      Beside limits s t now lent others n next
  beside s t e d q w _ _ (no-layout none) = absurd (none f e)
  beside s t e d q w n next (by-tree h z j) =
      by-frame s t e d q w n next (subst (λ (k : Frame). Judged limits s now lent k n next) (one-tree s.profile octets h f z e) j)
