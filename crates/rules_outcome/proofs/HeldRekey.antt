-- THE HELD LIST AFTER A REKEY OVER THE REKEY SA, in the customer's words (document 02, T-11): "After acceptance the fresh path goes before
-- the held key it ends on; held keys ahead of that one go, and so does any held key whose ID the fresh path has; the others behind it
-- stay. A fresh path that ends on the default key is the whole list; an empty fresh path changes nothing."
use native.Mathlib.Omega.{arith}
use Prim.Native.Nat.{ℕ, ◌-◌, ◌≤◌}
use mathlib.Core.Path.{◌≡◌, refl, ap, sym, ◌∙◌, subst}
use mathlib.Core.Bool.{Bool, true, false, false≢true, cond, not}
use mathlib.Core.Logic.{⊎_elim}
use mathlib.Core.List.{List, [], ◌∷◌, ◌++◌, map, Memᴰ}
use borrow.Author.Tests.{eqb-true, eqb-false, not-true}
use lib.Dec.{eqb}
use lib.ListN.{length, replicate}
use lib.Seq.{take-append_seam}
use Rattle.lists.specs.Lists.{keep}
use Rattle.state_keys.specs.Limits.{Limits}
use Rattle.state_keys.specs.Kinds.{value_of, wrapping_of}
use Rattle.lists.proofs.Cases.{bool_cases}
use Rattle.wire_attributes.specs.Tree.{WrapKey}
use Rattle.wire_policies.specs.Policy.{GroupSaPolicy}
use Rattle.wire_frames.specs.Frame.{Frame}
use Rattle.state.specs.declared.State.{State}
use Rattle.state.specs.declared.held.HeldKey.{HeldKey}
use Rattle.state.specs.declared.held.Held.{Held}
use Rattle.state.specs.Held.{keys_of}
use Rattle.state.proofs.Kept.{keys-of-held}
use Rattle.rules_refusals.specs.Contents.{fresh_keys_of}
use Rattle.rules_chains.specs.Chain.{In, Root, CopyOpens}
use Rattle.rules_chains.specs.Refusals.{EntriesConflict}
use Rattle.rules_chains.specs.Refusals as refusals
use Rattle.rules_chains.proofs.Determined.{last_entry}
use Rattle.rules_chains.proofs.Members.{in-member, member-in}
use Rattle.rules_chains.proofs.WorkingPath.{path-ends}
use Rattle.rules_outcome.specs.Roots.{own_key_of, held_root, carried, those_not_carried, copies_of}
use Rattle.rules_outcome.specs.Holding.{new_rekey, rekey_copies, held_from, from_key, on_path, path_before, held_by_path, HoldsPath, HeldNext}
use Rattle.rules_outcome.specs.NamedKey.{Carries, fresh_roots, FreshGiven}
use Rattle.rules_outcome.specs.RestSays.{NewRekey}
use Rattle.rules_outcome.specs.Demand3.{OpensByFresh, FreshPath, HeldByFresh, nothing-changes, to-default-key, to-held-key}
use Rattle.rules_outcome.specs.Demand3.{HeldAfterRekey}
use Rattle.rules_outcome.proofs.Members.{in-cases, in-keep, in_map}
use Rattle.rules_outcome.proofs.RunsLists.{passes_none}
use Rattle.rules_outcome.proofs.NamedKey.{carries-not}
use Rattle.rules_outcome.proofs.PathBefore.{cut_at, before-default}
use Rattle.rules_outcome.proofs.PathKeys.{path-ids, holds-key}
use Rattle.rules_outcome.proofs.HeldList.{not-other, new-any, any-new, path-of, none_passed, opened-by}

module _ (limits : Limits) (s : State) (now : ℕ) (lent : List ℕ) (f : Frame) where
  abbrev R : List Root
  R = fresh_roots limits s now lent f

  abbrev l : List WrapKey
  l = fresh_keys_of f

  abbrev size : ℕ
  size = length (own_key_of limits s now)

  -- a key that is given is carried
  given-carried : (i : ℕ) (x : List ℕ) → FreshGiven limits s now lent f i x → Carries f i
  given-carried i x r = let e = last_entry R l size i x r in record { entry = r.last; stands = e.0; is = e.1 }

  -- ---- the key that a path ends on, where it is not key 0
  pub record EndsOn (end : ℕ) : Type 0 where
    pub key : HeldKey
    pub stands : Memᴰ key (keys_of s.held)
    pub is : key.id ≡ end
    pub not_carried : Carries f end → ⊥

  pub ends_on : (r : Root) → In r R → (end : ℕ) → r.id ≡ end → (end ≡ 0 → ⊥) → EndsOn end
  ends_on r m end e some =
      let held = map held_root (those_not_carried l (keys_of s.held)) in
      ⊎_elim (λ q. absurd (some (sym e ∙ ap (λ (a : Root). a.id) q)))
      (λ i.
      let h = in_map held_root r (those_not_carried l (keys_of s.held)) i in
      let k = in-keep h.item (λ (a : HeldKey). not (carried l a)) (keys_of s.held) h.stands in
      let q : h.item.id ≡ end = ap (λ (a : Root). a.id) (sym h.is) ∙ e in
      record {
        key = h.item;
        stands = in-member h.item (keys_of s.held) k.0;
        is = q;
        not_carried = λ c.
            carries-not limits s now lent f h.item (not-true (carried l h.item) k.1) (subst (Carries f) (sym q) c);
      })
      (in-cases r (record { id = 0; value = own_key_of limits s now }) held m)

  -- ---- by the path's keys
  module _ (path : List HeldKey) (end : ℕ) (p : FreshPath limits s now lent f path end) where
    -- a key that is not carried is not on the path
    off-path : (k : HeldKey) → k.id ≡ end → (Carries f end → ⊥) → on_path path k ≡ false
    off-path k e none =
        passes_none (λ (a : HeldKey). eqb a.id k.id) path
        (λ a m.
        bool_cases (eqb a.id k.id)
        (λ g.
        let x = p.only a (member-in a path m) in
        absurd (none (subst (Carries f) (eqb-true a.id k.id g ∙ e) (given-carried a.id x.0 x.1))))
        (λ g. g))

    -- the path goes before the held key it ends on, and those behind that one stay less the path's Key IDs
    pub before-held : eqb end 0 ≡ false → (key : HeldKey) (behind : List HeldKey) → from_key end (keys_of s.held) ≡ key ∷ behind →
        key.id ≡ end → (Carries f end → ⊥) →
        path_before path end (keys_of s.held) ≡ path ++ (key ∷ keep (λ (k : HeldKey). not (on_path path k)) behind)
    unfolding path_before keep
    before-held z key behind left e none =
        let off = off-path key e none in
        let kept : keep (λ (k : HeldKey). not (on_path path k)) (key ∷ behind)
        ≡ key ∷ keep (λ (k : HeldKey). not (on_path path k)) behind =
        rw off refl in
        ap (λ (b : Bool). path ++ cond b [] (keep (λ (k : HeldKey). not (on_path path k)) (from_key end (keys_of s.held)))) z
        ∙ ap (λ (m : List HeldKey). path ++ keep (λ (k : HeldKey). not (on_path path k)) m) left
        ∙ ap (λ (m : List HeldKey). path ++ m) kept

    module _ (h : Held) (some : 1 ≤ length path) (made : keys_of h ≡ path_before path end (keys_of s.held)) where
      on-default : end ≡ 0 → HeldByFresh limits s now lent f s.held h
      on-default e =
          to-default-key path (subst (FreshPath limits s now lent f path) e p) some
          (made ∙ ap (λ (i : ℕ). path_before path i (keys_of s.held)) e ∙ before-default path (keys_of s.held))

      on-held : eqb end 0 ≡ false → EndsOn end → HeldByFresh limits s now lent f s.held h
      on-held z o =
          let c = cut_at end (keys_of s.held) o.key o.stands o.is in
          to-held-key path end p some c.ahead c.key c.behind c.all c.is o.not_carried
          (made ∙ before-held z c.key c.behind c.left c.is o.not_carried)

  by-keys : (h : Held) (path : List HeldKey) (end : ℕ) → FreshPath limits s now lent f path end → (r : Root) → In r R → r.id ≡ end →
      h ≡ held_by_path limits path end s.held → HeldByFresh limits s now lent f s.held h
  by-keys h [] end p r m q e = nothing-changes end p e
  by-keys h (a ∷ path) end p r m q e =
      let some : 1 ≤ length (a ∷ path) = omega arith in
      let made : keys_of h ≡ path_before (a ∷ path) end (keys_of s.held) =
      ap keys_of e ∙ keys-of-held limits (path_before (a ∷ path) end (keys_of s.held)) in
      bool_cases (eqb end 0) (λ z. on-default (a ∷ path) end p h some made (eqb-true end 0 z))
      (λ z. on-held (a ∷ path) end p h some made z (ends_on r m end q (eqb-false end 0 z)))

  -- ---- the path by which a list follows
  module _ (h : Held) (p : HoldsPath R l size limits (rekey_copies f) s.held h) where
    value-of : (k : HeldKey) → In k (map held_from p.keys) → (x : List ℕ) → FreshGiven limits s now lent f k.id x →
        k.key ≡ wrapping_of x
    value-of k m x r =
        let g = holds-key R l size limits (rekey_copies f) s.held h p k (in-member k (map held_from p.keys) m) in
        g.key-is ∙ ap wrapping_of (sym (g.value.every x r))

    pub is-path : FreshPath limits s now lent f (map held_from p.keys) p.end
    is-path =
        record {
          passed = p.path.passed;
          is = path-of R l size f p.ids p.end p.path;
          written = path-ids R l size limits (rekey_copies f) s.held h p ∙ sym p.path.written;
          only = λ k m.
              let g = holds-key R l size limits (rekey_copies f) s.held h p k (in-member k (map held_from p.keys) m) in
              (g.x, g.value.reached);
          value = value-of;
          octets = λ k m x r. ap value_of (value-of k m x r) ∙ take-append_seam x (replicate (32 - length x) 0);
        }

    by-path : HeldByFresh limits s now lent f s.held h
    by-path =
        let e = path-ends R l size (rekey_copies f) p.ids p.end p.path in
        by-keys h (map held_from p.keys) p.end is-path e.key e.stands e.is p.is

    by_old : OpensByFresh limits s now lent f [] → h ≡ s.held
    by_old o =
        p.is ∙ ap (λ (m : List HeldKey). held_by_path limits m p.end s.held) (none_passed R l size f limits s.held h p o)

  -- ---- THE LIST
  module _ (h : Held) (conflict : EntriesConflict R l size → ⊥)
      (opens : (p : GroupSaPolicy) → NewRekey f p → (x : List ℕ) × CopyOpens R l size (copies_of f p) x) where
    all_fit : (i : ℕ) (x : List ℕ) → FreshGiven limits s now lent f i x → length x ≡ size
    all_fit i x r = not-other (length x) size (λ q. conflict (refusals.wrong_size i x r q))

    pub after-rekey : (b : Bool) → new_rekey f ≡ b → HeldNext R l size limits b (rekey_copies f) s.held h →
        HeldAfterRekey limits s now lent f s.held h
    after-rekey true g p =
        record {
          no-rekey-sa = λ without. let n = any-new f g in absurd (without n.0 n.1);
          path = λ q n. by-path h p;
          by-old-key = by_old h p;
          opened = opened-by R l size f opens;
          fits = all_fit;
        }
    after-rekey false g p =
        record {
          no-rekey-sa = λ without. p;
          path = λ q n. absurd (false≢true (sym g ∙ new-any f q n));
          by-old-key = λ o. p;
          opened = opened-by R l size f opens;
          fits = all_fit;
        }
