-- WHEN THE LAST 7 IS GIVEN: "Over 128 then is 7, judged after 9" (document 02, T-11). Where none of 1 to 9 applies, it is given exactly
-- when a GSA_REKEY of a member with the profile announces a Rekey SA, its fresh path is not empty and ends on a held key, and the path,
-- that key and the held keys behind it whose IDs the path has not are over the limit.
use native.Mathlib.Omega.{arith}
use Prim.Native.Nat.{ℕ, ◌≤◌, ◌<◌}
use mathlib.Core.Path.{◌≡◌, refl, ap, sym, ◌∙◌, subst}
use mathlib.Core.Bool.{Bool, true, false, not, ◌&&◌}
use mathlib.Core.Logic.{◌↔◌, ⊎_elim}
use mathlib.Core.List.{List, [], ◌∷◌, ◌++◌, map}
use mathlib.Core.List.{Memᴰ}
use borrow.Author.Tests.{eqb-true, eqb-false, leb-true, ltb-false, not-true, not-false}
use lib.Dec.{eqb, leb}
use lib.ListN.{length}
use Rattle.ikev2_numbers.specs.Codes.{gsa_rekey}
use Rattle.lists.specs.Lists.{all}
use Rattle.state_keys.specs.Algorithms.{is_wrapping_size}
use Rattle.state_keys.specs.Limits.{Limits}
use Rattle.state_keys.specs.Limits as figures
use Rattle.state_keys.specs.Kinds.{wrapping_of}
use Rattle.lists.proofs.Cases.{and_parts, bool_cases}
use Rattle.wire_attributes.specs.Tree.{WrapKey}
use Rattle.wire_policies.specs.Policy.{GroupSaPolicy}
use Rattle.wire_frames.specs.Exchange.{reads_fresh}
use Rattle.wire_frames.specs.declared.exchanges.Exchange.{Exchange}
use Rattle.wire_frames.specs.Frame.{Frame}
use Rattle.wire_frames.specs.Grammar.{IsFrame}
use Rattle.state_table.specs.Table.{table_formed}
use Rattle.state.specs.declared.State.{State}
use Rattle.state.specs.declared.held.HeldKey.{HeldKey}
use Rattle.state.specs.declared.held.Held.{Held}
use Rattle.state.specs.Held.{keys_of, held_of, key_formed, ids_of, distinct, held_formed}
use Rattle.state.specs.State.{state_formed}
use Rattle.rules_refusals.specs.Contents.{row_of, fresh_keys_of}
use Rattle.rules_refusals.specs.Number2.{number2_of_member}
use Rattle.rules_refusals.specs.Number7.{many_fresh_keys, number7_of_frame}
use Rattle.rules_refusals.specs.Refusals.{number2, number7}
use Rattle.rules_refusals.proofs.Clear.{no-clause}
use Rattle.rules_chains.specs.Chain.{In, Root}
use Rattle.rules_chains.specs.Refusals.{EntriesConflict, Value, of-entries}
use Rattle.rules_chains.specs.Path.{KeyPath, Keys, no_key, one_more}
use Rattle.rules_chains.proofs.Determined.{one_value}
use Rattle.rules_chains.proofs.WorkingPath.{path-ends}
use Rattle.rules_outcome.specs.Roots.{own_key_of, roots_of, entries_of, wrapping_size}
use Rattle.rules_outcome.specs.Holding.{new_rekey, rekey_copies, held_from, from_key, path_before, held_by_path, held_before}
use Rattle.rules_outcome.specs.Holding.{HoldsPath, OverHeld, OverHeldOf}
use Rattle.rules_outcome.specs.NamedKey.{fresh_roots, FreshGiven}
use Rattle.rules_outcome.specs.RestSays.{NewRekey}
use Rattle.rules_outcome.specs.Meets.{Meets}
use Rattle.rules_outcome.specs.Outcome.{Outcome}
use Rattle.rules_outcome.specs.Demand3.{FreshPath}
use Rattle.rules_outcome.specs.OverSays.{OverSays}
use Rattle.rules_outcome.proofs.Members.{in_head, in_tail}
use Rattle.rules_outcome.proofs.RunsLists.{all_pass}
use Rattle.rules_outcome.proofs.RunsClear.{none-applies}
use Rattle.rules_outcome.proofs.Meets.{rows-meets, meets-2, meets-7, meets-8, met-or-over}
use Rattle.rules_outcome.proofs.Rows.{rekeys}
use Rattle.rules_outcome.proofs.FreshRead.{no-fresh}
use Rattle.rules_outcome.proofs.PathBefore.{is-distinct, cut_at, left-of, before-default}
use Rattle.rules_outcome.proofs.PathKeys.{path-few}
use Rattle.rules_outcome.proofs.NamedKey.{Passes, registers, in-band, over-sa, not-rekey, to-fresh-roots, of-fresh-roots}
use Rattle.rules_outcome.proofs.HeldList.{new-any, any-new, of-path}
use Rattle.rules_outcome.proofs.HeldRekey.{EndsOn, ends_on, before-held, is-path}
use Rattle.rules_outcome.proofs.AsBefore.{never-over}
use Rattle.rules_outcome.proofs.Demands.{passes-2-and-4}
use Rattle.rules_outcome.proofs.Judged9.{judged-9}

module _ (limits : Limits) (s : State) (now : ℕ) (lent : List ℕ) (f : Frame) where
  abbrev R : List Root
  R = fresh_roots limits s now lent f

  abbrev l : List WrapKey
  l = fresh_keys_of f

  abbrev size : ℕ
  size = length (own_key_of limits s now)

  abbrev old : List HeldKey
  old = keys_of s.held

  counted : (path : List HeldKey) (end : ℕ) → 1 ≤ length path →
      (held_by_path limits path end s.held).count ≡ length (path_before path end old)
  unfolding held_of
  counted [] end some = absurd (omega arith)
  counted (a ∷ path) end some = refl

  -- ---- from the list that would follow to the words
  module _ (profile : s.profile ≡ true) (rekey : f.header.exchange ≡ gsa_rekey) (policy : GroupSaPolicy) (new : NewRekey f policy)
      (few-held : s.held.count ≤ limits.held_keys) where
    ends-on-held : (path : List HeldKey) (end : ℕ) → FreshPath limits s now lent f path end → 1 ≤ length path → eqb end 0 ≡ false →
        EndsOn limits s now lent f end → limits.held_keys < length (path_before path end old) → OverSays limits s now lent f
    ends-on-held path end p some z o over =
        let c = cut_at end old o.key o.stands o.is in
        let b = before-held limits s now lent f path end p z c.key c.behind c.left c.is o.not_carried in
        let w = ap length b in
        record {
          profile = profile;
          rekey = rekey;
          policy = policy;
          new = new;
          path = path;
          end = end;
          fresh = p;
          some = some;
          ahead = c.ahead;
          key = c.key;
          behind = c.behind;
          found = c.all;
          ends = c.is;
          not_carried = o.not_carried;
          over = omega (arith, w, over);
        }

    by-path : (path : List HeldKey) (end : ℕ) → FreshPath limits s now lent f path end → length path ≤ limits.held_keys → (r : Root) →
        In r R → r.id ≡ end → (h : Held) → h ≡ held_by_path limits path end s.held → limits.held_keys < h.count →
        OverSays limits s now lent f
    by-path [] end p few r m q h e over =
        let z : h.count ≡ s.held.count = ap (λ (x : Held). x.count) e in absurd (omega (arith, z, few-held, over))
    by-path (a ∷ path) end p few r m q h e over =
        let some : 1 ≤ length (a ∷ path) = omega arith in
        let n : h.count ≡ length (path_before (a ∷ path) end old) =
        ap (λ (x : Held). x.count) e ∙ counted (a ∷ path) end some in
        bool_cases (eqb end 0)
        (λ z.
        let c : length (path_before (a ∷ path) end old) ≡ length (a ∷ path) =
        ap (λ (i : ℕ). length (path_before (a ∷ path) i old)) (eqb-true end 0 z) ∙ ap length (before-default (a ∷ path) old) in
        absurd (omega (arith, n, c, few, over)))
        (λ z.
        ends-on-held (a ∷ path) end p some z (ends_on limits s now lent f r m end q (eqb-false end 0 z)) (omega (arith, n, over)))

    by-list : (EntriesConflict R l size → ⊥) → length l ≤ limits.held_keys →
        OverHeld R l size limits true (rekey_copies f) s.held → OverSays limits s now lent f
    by-list none few o =
        let p = o.leaves in
        let e = path-ends R l size (rekey_copies f) p.ids p.end p.path in
        let n = path-few R l size limits (rekey_copies f) s.held o.list p none in
        by-path (map held_from p.keys) p.end (is-path limits s now lent f o.list p) (omega (arith, n, few)) e.key e.stands
        e.is o.list p.is o.over

  -- ---- from the words to the list that would follow
  module _ (none : EntriesConflict R l size → ⊥) where
    -- the path's keys with their values
    keys-of : (path : List HeldKey) → ((k : HeldKey) → In k path → (x : List ℕ) × FreshGiven limits s now lent f k.id x) →
        ((k : HeldKey) → In k path → (x : List ℕ) → FreshGiven limits s now lent f k.id x → k.key ≡ wrapping_of x) →
        (keys : List Root) × Keys R l size (ids_of path) keys × (map held_from keys ≡ path)
    keys-of [] only value = ([], no_key, refl)
    keys-of (k ∷ path) only value =
        let g = only k (in_head k k path refl) in
        let r = keys-of path (λ a m. only a (in_tail a k path m)) (λ a m. value a (in_tail a k path m)) in
        let v : Value R l size k.id g.0 =
        record { reached = g.1; every = λ y q. one_value R l size none k.id y g.0 q g.1 } in
        let q = sym (value k (in_head k k path refl) g.0 g.1) in
        (record { id = k.id; value = g.0 } ∷ r.0, one_more v r.1, λ i. record { id = k.id; key = q i } ∷ r.2 i)

    follows : (path : List HeldKey) (end : ℕ) → FreshPath limits s now lent f path end →
        HoldsPath R l size limits (rekey_copies f) s.held (held_by_path limits path end s.held)
    follows path end p =
        let k = keys-of path p.only p.value in
        record {
          ids = ids_of path;
          end = end;
          path =
              subst (λ (i : List ℕ). KeyPath R l size (rekey_copies f) i end) (sym p.written)
              (of-path R l size f p.passed end p.is);
          keys = k.0;
          are = k.1;
          is = ap (λ (m : List HeldKey). held_by_path limits m end s.held) (sym k.2);
        }

    too_long : all key_formed old ≡ true → distinct (ids_of old) ≡ true → OverSays limits s now lent f →
        OverHeld R l size limits true (rekey_copies f) s.held
    unfolding key_formed
    too_long each once o =
        let key = o.key in
        let m : Memᴰ key old =
        subst (Memᴰ key) (sym o.found) (mathlib.Core.List.Memᴰ.append_right o.ahead (mathlib.Core.List.Memᴰ.head refl)) in
        let formed = (and_parts (not (eqb key.id 0)) (is_wrapping_size key.key.count) (all_pass key_formed old each key m)).0 in
        let z : eqb o.end 0 ≡ false = ap (λ (i : ℕ). eqb i 0) (sym o.ends) ∙ not-true (eqb key.id 0) formed in
        let left = ap (λ (a : List HeldKey). from_key o.end a) o.found
        ∙ left-of o.end o.ahead key o.behind
        (is-distinct (ids_of (o.ahead ++ (key ∷ o.behind)))
        (subst (λ (a : List HeldKey). distinct (ids_of a) ≡ true) o.found once)) o.ends in
        let b = before-held limits s now lent f o.path o.end o.fresh z key o.behind left o.ends o.not_carried in
        let n = counted o.path o.end o.some in
        let w = ap length b in
        let over = o.over in
        record {
          list = held_by_path limits o.path o.end s.held;
          leaves = follows o.path o.end o.fresh;
          over = omega (arith, n, w, over);
        }

-- ---- of octets that meet none of 1 to 9. The limits of a frame's entries are within that of the held list
module _ (limits : Limits) (wraps : limits.wrap_keys ≤ limits.held_keys) (freshes : limits.fresh_keys ≤ limits.held_keys) (s : State)
    (now : ℕ) (lent octets : List ℕ) (f : Frame) (e : IsFrame s.profile octets f)
    (none : (m : ℕ) → Meets limits s now lent octets m → ⊥) where
  abbrev roots : List Root
  roots = fresh_roots limits s now lent f

  abbrev fresh : List WrapKey
  fresh = fresh_keys_of f

  abbrev own : ℕ
  own = length (own_key_of limits s now)

  held-parts : (s.held.count ≤ limits.held_keys) × (all key_formed (keys_of s.held) ≡ true)
      × (distinct (ids_of (keys_of s.held)) ≡ true)
  unfolding state_formed held_formed
  held-parts =
      let m = none-applies (number2 limits s now f.header.exchange f.header.spi)
      (λ h. none 2 (meets-2 limits s now lent octets f e h)) in
      let k = not-false (state_formed limits s)
      (no-clause (number2_of_member limits s now f.header.exchange f.header.spi) 2 m.of_member) in
      let h = (and_parts (table_formed limits s.table) (held_formed limits s.held) k).1 in
      let p = and_parts (leb s.held.count limits.held_keys)
      (all key_formed (keys_of s.held) && distinct (ids_of (keys_of s.held))) h in
      let q = and_parts (all key_formed (keys_of s.held)) (distinct (ids_of (keys_of s.held))) p.1 in
      (leb-true s.held.count limits.held_keys p.0, q.0, q.1)

  few-fresh : length (fresh_keys_of f) ≤ limits.fresh_keys
  unfolding number7_of_frame many_fresh_keys
  few-fresh =
      let m = none-applies (number7 limits s now f) (λ h. none 7 (meets-7 limits s now lent octets f e h)) in
      ltb-false limits.fresh_keys (length (fresh_keys_of f)) (no-clause (number7_of_frame limits f) 5 m.of_frame)

  no-conflict : EntriesConflict (roots_of limits s now lent f) (entries_of f) (wrapping_size limits s now lent f) → ⊥
  no-conflict h = none 8 (meets-8 limits s now lent octets f e (of-entries h))

  -- where no fresh key is read the list is never over its limit
  bare-never : fresh_keys_of f ≡ [] → OverHeldOf limits s now lent f → ⊥
  bare-never bare = never-over limits s now lent f bare wraps (λ m h. none m (rows-meets limits s now lent octets f e m h))

  -- in a GSA_REKEY the list that is found is the member's
  abbrev Over : List Root → List WrapKey → ℕ → Type 0
  Over r m n = OverHeld r m n limits (new_rekey f) (rekey_copies f) s.held

  registers-no : f.header.exchange ≡ gsa_rekey → (row_of f).registers ≡ false
  registers-no x = ap (λ (y : Exchange). y.registers) (rekeys f.header.exchange x)

  says : Passes limits s now lent f → OverHeldOf limits s now lent f → OverSays limits s now lent f
  says (registers g bare) o = absurd (bare-never bare o)
  says (in-band g empty bare) o = absurd (bare-never bare o)
  says (over-sa x empty) o =
      bool_cases s.profile
      (λ on.
      let found : Over (roots_of limits s now lent f) (entries_of f) (wrapping_size limits s now lent f) =
      subst
      (λ (b : Bool).
      OverHeld (roots_of limits s now lent f) (entries_of f) (wrapping_size limits s now lent f) limits (new_rekey f) (rekey_copies f)
      (held_before limits b s.held))
      (registers-no x) o in
      let over = to-fresh-roots limits s now lent f Over x empty found in
      let few = few-fresh in
      let conflict = to-fresh-roots limits s now lent f (λ r m n. EntriesConflict r m n → ⊥) x empty no-conflict in
      by-new on x conflict (omega (arith, few, freshes)) over)
      (λ off.
      absurd (bare-never
      (no-fresh s.profile octets f e (ap (λ (p : Bool). reads_fresh p f.header.exchange) off)) o))
    where
      by-new : s.profile ≡ true → f.header.exchange ≡ gsa_rekey → (EntriesConflict roots fresh own → ⊥) →
          length fresh ≤ limits.held_keys → Over roots fresh own → OverSays limits s now lent f
      by-new on x conflict few o =
          let told : (b : Bool) → new_rekey f ≡ b → OverHeld roots fresh own limits b (rekey_copies f) s.held =
          λ b g. subst (λ (c : Bool). OverHeld roots fresh own limits c (rekey_copies f) s.held) g o in
          bool_cases (new_rekey f)
          (λ g. let n = any-new f g in by-list limits s now lent f on x n.0 n.1 held-parts.0 conflict few (told true g))
          (λ g.
          let p = told false g in
          let z : p.list.count ≡ s.held.count = ap (λ (h : Held). h.count) p.leaves in
          let few-held = held-parts.0 in
          let over = p.over in
          absurd (omega (arith, z, few-held, over)))

  said : Passes limits s now lent f → OverSays limits s now lent f → OverHeldOf limits s now lent f
  said (registers g bare) o = absurd (not-rekey limits s now lent f g o.rekey)
  said (in-band g empty bare) o = let x = o.rekey in let z : ◌≡◌ {A = ℕ} 42 41 = sym g ∙ x in absurd (omega arith)
  said (over-sa x empty) o =
      let conflict = to-fresh-roots limits s now lent f (λ r m n. EntriesConflict r m n → ⊥) x empty no-conflict in
      let over = too_long limits s now lent f conflict held-parts.1 held-parts.2 o in
      let found = of-fresh-roots limits s now lent f Over x empty
      (subst (λ (b : Bool). OverHeld roots fresh own limits b (rekey_copies f) s.held) (sym (new-any f o.policy o.new)) over) in
      subst
      (λ (b : Bool).
      OverHeld (roots_of limits s now lent f) (entries_of f) (wrapping_size limits s now lent f) limits (new_rekey f) (rekey_copies f)
      (held_before limits b s.held))
      (sym (registers-no x)) found

  pub over-exactly : OverHeldOf limits s now lent f ↔ OverSays limits s now lent f
  over-exactly =
      let fit = passes-2-and-4 limits s now lent octets f e (none 2) (none 4) in (says fit, said fit)

  -- THE LAW
  pub seven-after-nine : (n : ℕ) (next : State) → Outcome limits s now lent octets n next → (n ≡ 7) ↔ OverSays limits s now lent f
  seven-after-nine n next o =
      let j = judged-9 limits s now lent octets f e (λ m h. none m) n next o in (
        λ q. over-exactly.0 (j.over.0 q).1,
        λ w. j.over.1 (λ x. nine (j.refused.1 x), over-exactly.1 w),
      )
    where
      nine : n ≡ 9 → ⊥
      nine q =
          ⊎_elim (none 9) (λ p. let z : ◌≡◌ {A = ℕ} 9 7 = p.0 in omega arith)
          (met-or-over limits s now lent octets 8 next (subst (λ (k : ℕ). Outcome limits s now lent octets k next) q o))

-- with the limits of the code
pub over-then-exactly : (s : State) (now : ℕ) (lent octets : List ℕ) (f : Frame) → IsFrame s.profile octets f →
    ((m : ℕ) → Meets figures.limits s now lent octets m → ⊥) → (n : ℕ) (next : State) → Outcome figures.limits s now lent octets n next →
    (n ≡ 7) ↔ OverSays figures.limits s now lent f
over-then-exactly = seven-after-nine figures.limits (omega arith) (omega arith)
