-- From the cells of a search to the path: what the search says is what the levels need, and what is read off them is the path.
use native.Mathlib.Omega.{arith}
use Prim.Native.Nat.{ℕ, suc, ◌≤◌, ◌<◌}
use mathlib.Core.Path.{◌≡◌, refl, ap, sym, ◌∙◌, subst}
use mathlib.Core.Bool.{Bool, true, false, not, false≢true}
use mathlib.Core.Logic.{◌⊎◌, inl, inr, ⊎_elim}
use mathlib.Core.List.Memᴰ
use mathlib.Core.List.{List, [], ◌∷◌, map, Memᴰ}
use borrow.Author.Tests.{eq-eqb, eqb-true}
use lib.Dec.{eqb}
use lib.ListN.{length, take, get_or}
use lib.Seq.{length-take-le, get_or-take}
use Rattle.lists.proofs.Cases.{bool_cases, lt-cases}
use Rattle.octets.specs.Numbers.{oct}
use Rattle.rfc5649.specs.Opens.{Opens}
use Rattle.wire_attributes.specs.Tree.{WrapKey, SaKey}
use Rattle.rules_chains.specs.Chain.{In, Root, Chain, Reached}
use Rattle.rules_chains.specs.Path.{key_ids, start_id, Opener, KeyPath}
use Rattle.rules_chains.specs.Refusals.{EntriesConflict}
use Rattle.rules_chains.proofs.Determined.{AtRoot, ends_by, last_entry, one_value}
use Rattle.rules_chains.proofs.Laws.{step_by, entries_fit}
use Rattle.rules_chains.proofs.Members.{in-member, member-in}
use Rattle.lists.specs.Lists.{any}
use Rattle.state_keys.specs.Kinds.{value_of}
use Rattle.unwrap_search.specs.declared.open.Status.TheVariants.{Wrong}
use Rattle.unwrap_search.specs.declared.open.Entry.{Entry}
use Rattle.unwrap_search.specs.declared.open.Cell.{Cell}
use Rattle.unwrap_search.specs.inner.Entries.{no_entry, no_wrap_key, Lists}
use Rattle.unwrap_search.specs.inner.Search.{key_at, cell_at, Searched, FoundIn, OneEach, Nonzero, RootsFit, carried_by}
use Rattle.unwrap_search.proofs.Statuses.{get_d_any}
use Rattle.unwrap_search.proofs.Starting.{carried-at, carried_some}
use Rattle.unwrap_conflicts.specs.inner.Values.{is_done}
use Rattle.unwrap_conflicts.proofs.ConflictLaws.{conflict-wrong}
use Rattle.unwrap_conflicts.proofs.Clashing.{done-is}
use Rattle.unwrap_paths.specs.inner.Levels.{Walk, starts, goes, Levelled, Best, Distance, ReadOff}
use Rattle.unwrap_paths.specs.declared.levels.Mark.{Mark}
use Rattle.unwrap_paths.specs.inner.Code.{opens, opens_first, is_opened, Roots, HasLevels, HasLevel, GoesBack}
use Rattle.unwrap_copies.specs.inner.Openers.{OneOpens, OpenersAre}
use Rattle.unwrap_paths.specs.inner.Links.{mark_of, LinksAre, entries_at, LeadsTo}
use Rattle.unwrap_paths.proofs.Best.{best-walk}
use Rattle.unwrap_paths.proofs.Chained.{Known, Leading, chain-walk, start-last, path-is}

-- ---- marks
-- the mark of an entry that is done, and of one that is not
mark-opened : (c : Cell) (b : Bool) → opens (mark_of c b) ≡ is_done c.status
mark-opened c b =
    bool_cases (is_done c.status) (λ d. bool_cases b (λ z. rw (d, z) refl) (λ z. rw (d, z) refl)) (λ d. rw d refl)

mark-first : (c : Cell) (b : Bool) → is_done c.status ≡ true → not b ≡ opens_first (mark_of c b)
mark-first c b d = bool_cases b (λ z. rw (d, z) refl) (λ z. rw (d, z) refl)

-- ---- a Key ID is that of a root
abbrev pub is_root_of : List Root → ℕ → Bool
is_root_of roots k = any (λ (r : Root). eqb r.id k) roots

root-some : (roots : List Root) (r : Root) → Memᴰ r roots → is_root_of roots r.id ≡ true
unfolding any
root-some [] r m = absurd (Memᴰ.not-nil m)
root-some (a ∷ l) r m =
    ⊎_elim (λ e. let q : a.id ≡ r.id = ap (λ (x : Root). x.id) (sym e) in rw (eq-eqb a.id r.id q) refl)
    (λ d. bool_cases (eqb a.id r.id) (λ g. rw g refl) (λ g. rw g (root-some l r d)))
    (Memᴰ.cases_cons m)

root-found : (roots : List Root) (k : ℕ) → is_root_of roots k ≡ true → (r : Root) × Memᴰ r roots × (r.id ≡ k)
unfolding any
root-found [] k e = absurd (false≢true e)
root-found (a ∷ l) k e =
    bool_cases (eqb a.id k) (λ g. (a, Memᴰ.head refl, eqb-true a.id k g))
    (λ g. let f = root-found l k (rw g at e) in (f.0, Memᴰ.tail f.1, f.2))

module _ (n : ℕ) (entries : List Entry) (cells : List Cell) (ids kwks : List ℕ) (marks : List Mark)
    (linked : LinksAre n n entries cells ids kwks marks) where
  module _ (frame : List ℕ) (roots : List Root) (l : List WrapKey) (size : ℕ) (lists : Lists frame entries n l)
      (s : Searched roots l size cells) (nonzero : Nonzero l) (rootsFit : RootsFit roots l) (none : EntriesConflict roots l size → ⊥) where
    abbrev is_root : ℕ → Bool
    is_root = is_root_of roots

    opened-is : (i : ℕ) → i < n → is_opened marks i ≡ is_done (cell_at cells i).status
    opened-is i h =
        ap opens (linked.mark-is frame l lists i h)
        ∙ mark-opened (cell_at cells i) (carried_by l (get_or entries i no_entry).kwk)

    in-l : (i : ℕ) → i < n → i < length l
    in-l i h = omega (arith, lists.count)

    -- ---- what the search says
    no-wrong : (i : ℕ) → i < length l → (cell_at cells i).status ≡ Wrong → ⊥
    no-wrong i h w =
        none (conflict-wrong frame entries n cells roots l size lists s
        (record { place = i; inside = let z : i < n = omega (arith, lists.count, h) in z; holds = w }))

    found-reached : (k : ℕ) (x : List ℕ) → FoundIn roots l size cells k x → Reached roots l size k x
    found-reached k x f =
        let g = s.gives f.place f.inside f.done in
        subst (λ (a : ℕ). Reached roots l size a x) f.id-is
        (subst (Reached roots l size (key_at l f.place).key_id) f.value-is
        (record { last = key_at l f.place; before = g.passed; chain = g.chain }))

    one_each : OneEach roots l size cells
    one_each k x y f g =
        one_value roots l size none k x y (found-reached k x f) (found-reached k y g)

    leading : (i : ℕ) → i < n → is_opened marks i ≡ true → Leading roots l size n (oct ids) (oct kwks) (is_opened marks) is_root i
    leading i h o =
        let g = s.gives i (in-l i h) (done-is (cell_at cells i).status (sym (opened-is i h) ∙ o)) in
        let b = step_by roots l size (key_at l i) g.passed (key_at l i).key_id (value_of (cell_at cells i).key) g.chain in
        record {
          passed = g.passed;
          value = b.value;
          chain = subst (λ (a : ℕ). Chain roots l size g.passed a b.value) (sym b.names) b.before;
          opened = value_of (cell_at cells i).key;
          opens = b.opens;
        }

    all-opened : (i : ℕ) → i < n → (p : List WrapKey) (v x : List ℕ) → Chain roots l size p (key_at l i).kwk_id v →
        Opens v (key_at l i).wrapped x → is_opened marks i ≡ true
    all-opened i h p v x c o =
        opened-is i h
        ∙ ap is_done (s.opened nonzero no-wrong one_each i (in-l i h) v x (record { passed = p; chain = c }) o)

    -- ---- values of chains
    -- a key that is reached is no root's
    reached-carried : (k : ℕ) (x : List ℕ) → Reached roots l size k x → (i : ℕ) × (i < length l) × ((key_at l i).key_id ≡ k)
    reached-carried k x r =
        let a = last_entry roots l size k x r in
        let q : key_at l a.0.place ≡ r.last = get_d_any l a.0.place no_wrap_key r.last a.0.inside ∙ a.0.is in
        (a.0.place, a.0.inside, ap (λ (b : WrapKey). b.key_id) q ∙ a.1)

    not-both : (k : ℕ) (v x : List ℕ) → AtRoot roots l size k v → Reached roots l size k x → ⊥
    not-both k v x a r =
        let c = reached-carried k x r in rootsFit.apart a.key a.stands c.0 c.1 (c.2 ∙ sym a.id-is)

    by-ends : (k : ℕ) (v w : List ℕ) → AtRoot roots l size k v ⊎ Reached roots l size k v →
        AtRoot roots l size k w ⊎ Reached roots l size k w → v ≡ w
    by-ends k v w (inl a) (inl b) =
        sym a.value-is ∙ rootsFit.alike a.key b.key a.stands b.stands (a.id-is ∙ sym b.id-is) ∙ b.value-is
    by-ends k v w (inl a) (inr b) = absurd (not-both k v w a b)
    by-ends k v w (inr a) (inl b) = absurd (not-both k w v b a)
    by-ends k v w (inr a) (inr b) = one_value roots l size none k v w a b

    -- ---- the marks tell the roots
    no-root : (k : ℕ) → carried_by l k ≡ true → is_root k ≡ false
    no-root k e =
        bool_cases (is_root k)
        (λ g.
        let f = root-found roots k g in
        let c = carried_some l k e in
        absurd (rootsFit.apart f.0 (member-in f.0 roots f.1) c.0 c.1 (c.2 ∙ sym f.2)))
        (λ g. g)

    named-root : (k : ℕ) (v : List ℕ) → AtRoot roots l size k v ⊎ Reached roots l size k v → carried_by l k ≡ false → is_root k ≡ true
    named-root k v (inl a) e =
        subst (λ (j : ℕ). is_root j ≡ true) a.id-is (root-some roots a.key (in-member a.key roots a.stands))
    named-root k v (inr r) e =
        let c = reached-carried k v r in absurd (false≢true (sym e ∙ carried-at l k c.0 c.1 c.2))

    are-roots : Roots n kwks marks is_root
    are-roots i h o =
        let d = sym (opened-is i h) ∙ o in
        let k = (get_or entries i no_entry).kwk in
        let g = leading i h o in
        let q : (key_at l i).kwk_id ≡ k = sym (lists.at i h).kwk in
        let is : is_root k ≡ not (carried_by l k) =
        bool_cases (carried_by l k) (λ e. no-root k e ∙ sym (ap not e))
        (λ e.
        named-root k g.value
        (subst (λ (j : ℕ). AtRoot roots l size j g.value ⊎ Reached roots l size j g.value) q
        (ends_by roots l size g.passed (key_at l i).kwk_id g.value g.chain)) e ∙ sym (ap not e)) in
        ap is_root (linked.kwk-is i h) ∙ is ∙ mark-first (cell_at cells i) (carried_by l k) d
        ∙ ap opens_first (sym (linked.mark-is frame l lists i h))

    ends-one : (p q : List WrapKey) (k : ℕ) (v w : List ℕ) → Chain roots l size p k v → Chain roots l size q k w →
        v ≡ w
    ends-one p q k v w c d = by-ends k v w (ends_by roots l size p k v c) (ends_by roots l size q k w d)

    known : Known roots l size n (oct ids) (oct kwks) (is_opened marks) is_root
    known =
        record {
          count = lists.count;
          id-is = λ i h. linked.id-is i h ∙ (lists.at i h).id;
          kwk-is = λ i h. linked.kwk-is i h ∙ (lists.at i h).kwk;
          leads = leading;
          all = all-opened;
          one = ends-one;
          fits = λ e p k x c. entries_fit roots l size none k x (record { last = e; before = p; chain = c });
          root_is = λ r m. root-some roots r (in-member r roots m);
          is-root = λ k e. let f = root-found roots k e in (f.0, member-in f.0 roots f.1, f.2);
        }

    -- ---- the level of the key that a copy names
    abbrev W : List ℕ → ℕ → Type 0
    W = Walk n (oct ids) (oct kwks) (is_opened marks) is_root

    module _ (levels : List ℕ) (is : Levelled n (oct ids) (oct kwks) (is_opened marks) is_root (oct levels)) (k d : ℕ)
        (level : HasLevel n ids levels k d) where
      given-root : (places : List ℕ) → W places k → d ≡ 0 → is_root k ≡ true
      given-root [] (starts _ r) z = r
      given-root (j ∷ p) (goes _ h o e w) z =
          let m = is.least j k p (goes j h o e w) in absurd (level.none z j h e m.0)

      given-some : 0 < d → is_root k ≡ false
      given-some h =
          let j = level.some h in
          no-root k
          (carried-at l k j.0 (in-l j.0 j.1) (sym (linked.id-is j.0 j.1 ∙ (lists.at j.0 j.1).id) ∙ j.2))

      distance : (places : List ℕ) → W places k → Distance n (oct ids) is_root (oct levels) k d
      distance places w = record { root = given-root places w; not_root = given-some; some = level.some; least = level.least }

      -- no walk to it is shorter
      no-shorter : (places : List ℕ) → W places k → d ≤ length places
      no-shorter [] (starts _ r) = lt-cases 0 d (λ h. absurd (false≢true (sym (given-some h) ∙ r))) (λ h. omega arith)
      no-shorter (j ∷ p) (goes _ h o e w) =
          let m = is.least j k p (goes j h o e w) in
          lt-cases 0 d (λ g. let a = level.least g j h e m.0 in let b = m.1 in omega arith) (λ g. omega arith)

    -- ---- the path of all copies that open, back from the nearest key that one of them names
    module _ (levels : List ℕ) (has : HasLevels n ids kwks marks levels) (copies : List SaKey) (named : List ℕ)
        (openers : OpenersAre roots l size copies named) (k d place : ℕ) (inside : place < length named) (at_place : oct named place ≡ k)
        (level : HasLevel n ids levels k d)
        (before : (i : ℕ) → i < length named → (e : ℕ) × HasLevel n ids levels (oct named i) e × ((d < e) ⊎ ((d ≡ e) × (k ≤ oct named i))))
        (places : List ℕ) (count : ℕ) (way : GoesBack n ids kwks levels k d places count) where
      is : Levelled n (oct ids) (oct kwks) (is_opened marks) is_root (oct levels)
      is = has.levelled is_root are-roots

      mine : (c : SaKey) × In c copies × OneOpens roots l size c × (c.kwk_id ≡ k)
      mine = openers.each k (record { place = place; inside = inside; is = get_d_any named place k 0 inside ∙ at_place })

      abbrev copy : SaKey
      copy = mine.0

      abbrev opened : OneOpens roots l size copy
      opened = mine.2

      my-chain : Chain roots l size opened.named.passed k opened.value
      my-chain = subst (λ (a : ℕ). Chain roots l size opened.named.passed a opened.value) mine.3 opened.named.chain

      read : ReadOff n (oct ids) (oct kwks) (is_opened marks) is_root (oct levels) k d (take count places)
      read =
          let w = chain-walk roots l size n (oct ids) (oct kwks) (is_opened marks) is_root known opened.named.passed k opened.value
          my-chain in
          way.reads (is_opened marks) is_root is (distance levels is k d level w.places w.walk)

      -- a walk goes by entries that opened
      on-walk : (p : List ℕ) (j : ℕ) → W p j → (i : ℕ) → Memᴰ i p → (i < n) × (is_opened marks i ≡ true)
      on-walk _ j (starts _ r) i m = absurd (Memᴰ.not-nil m)
      on-walk _ j (goes {p = p} a h o e w) i m =
          ⊎_elim (λ q. subst (λ (b : ℕ). (b < n) × (is_opened marks b ≡ true)) (sym q) (h, o)) (λ g. on-walk p (oct kwks a) w i g)
          (Memᴰ.cases_cons m)

      walk : W (take count places) k
      walk =
          best-walk n (oct ids) (oct kwks) (is_opened marks) is_root (oct levels) is k d (take count places) read.trail
          read.best

      -- no other copy that opens comes first
      first : (q : List WrapKey) (o : Opener roots l size copies q) (r : List ℕ) → W r o.copy.kwk_id →
          (d ≤ length r) × (length r ≡ d → k ≤ o.copy.kwk_id)
      first q o r w =
          let j = o.copy.kwk_id in
          let opens : OneOpens roots l size o.copy =
          record { value = o.value; named = record { passed = q; chain = o.chain }; octets = o.octets; opens = o.opens } in
          let i = openers.all o.copy o.stands opens in
          let at : oct named i.place ≡ j = get_d_any named i.place 0 j i.inside ∙ i.is in
          let b = before i.place i.inside in
          let s = no-shorter levels is j b.0 (subst (λ (a : ℕ). HasLevel n ids levels a b.0) at b.1) r w in
          ⊎_elim (λ h. let z : d ≤ length r = omega (arith, h, s) in (z, λ e. absurd (omega (arith, h, s, e))))
          (λ h.
          let z : d ≤ length r = omega (arith, h.0, s) in
          (z, λ e. subst (λ (a : ℕ). k ≤ a) at h.1))
          b.2

      abbrev end : ℕ
      end = start_id k (entries_at l (take count places))

      pub leads-to : LeadsTo roots l size cells copies (take count places) end
      leads-to =
          let e = mine.3 in
          let b : Best n (oct ids) (oct kwks) (is_opened marks) is_root (oct levels) copy.kwk_id d (take count places) read.trail =
          subst (λ (a : ℕ). Best n (oct ids) (oct kwks) (is_opened marks) is_root (oct levels) a d (take count places) read.trail) (sym e)
          read.best in
          record {
            path = subst (λ (a : ℕ). KeyPath roots l size copies (key_ids (entries_at l (take count places)))
                (start_id a (entries_at l (take count places)))) e
                (path-is roots l size n (oct ids) (oct kwks) (is_opened marks) is_root known (oct levels) is copies copy mine.1 d
                (take count places) read.trail b opened.octets
                (λ v c.
                subst (λ (y : List ℕ). Opens y copy.wrapped opened.octets)
                (ends-one opened.named.passed (map (key_at l) (take count places)) copy.kwk_id opened.value v
                opened.named.chain c) opened.opens)
                (λ q o r w. let f = first q o r w in (f.0, λ s. subst (λ (a : ℕ). a ≤ o.copy.kwk_id) (sym e) (f.1 s))));
            inside = λ i m. in-l i (on-walk (take count places) k walk i m).0;
            done = λ i m.
                let o = on-walk (take count places) k walk i m in
                done-is (cell_at cells i).status (sym (opened-is i o.0) ∙ o.1);
          }

      -- the key that it ends on: the one that its last entry names
      pub end-last : (m : ℕ) → count ≡ suc m → count ≤ length places → end ≡ oct kwks (oct places m)
      end-last m e h =
          let s : length (take count places) ≡ suc m = length-take-le count places h ∙ e in
          let g : m < count = omega arith in
          start-last roots l size n (oct ids) (oct kwks) (is_opened marks) is_root known (take count places) k m walk s
          ∙ ap (oct kwks) (get_or-take count places m 0 g)
