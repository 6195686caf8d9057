-- The held list by chains alone: the copies of the Rekey SA's key, the chains that open one of them, and the list after a registration in
-- the customer's words.
use native.Mathlib.Omega.{arith}
use Prim.Native.Nat.{ℕ, ◌-◌, ◌≤◌}
use mathlib.Core.Path.{◌≡◌, refl, ap, sym, ◌∙◌, subst}
use mathlib.Core.Bool.{Bool, true, false, false≢true}
use mathlib.Core.List.Memᴰ
use mathlib.Core.List.{List, [], ◌∷◌, map}
use lib.Dec.{eqb}
use lib.ListN.{length, replicate, length-map}
use lib.Seq.{take-append_seam}
use borrow.Author.Tests.{eq-eqb, eqb-true, eqb-false}
use Rattle.lists.specs.Lists.{keep}
use Rattle.state_keys.specs.Limits.{Limits}
use Rattle.state_keys.specs.Kinds.{value_of, wrapping_of}
use Rattle.lists.proofs.Cases.{bool_cases}
use Rattle.wire_attributes.specs.Tree.{SaKey, WrapKey}
use Rattle.wire_policies.specs.Policy.{GroupSaPolicy}
use Rattle.wire_frames.specs.Frame.{Frame}
use Rattle.state_sa.specs.declared.entry.Sa.{Sa}
use Rattle.state.specs.declared.held.HeldKey.{HeldKey}
use Rattle.state.specs.declared.held.Held.{Held}
use Rattle.state.specs.Held.{keys_of, held_of, ids_of, distinct}
use Rattle.state.proofs.Kept.{keys-of-held}
use Rattle.rules_refusals.specs.Contents.{announced, wrap_keys_of}
use Rattle.rules_refusals.specs.Fitness.{is_rekey}
use Rattle.rules_chains.specs.Chain.{In, Root, CopyOpens}
use Rattle.rules_chains.specs.Refusals.{EntriesConflict}
use Rattle.rules_chains.specs.Refusals as refusals
use Rattle.rules_chains.specs.Path.{key_ids, NotAfter, Opener, KeyPath, Keys, no_key, one_more}
use Rattle.rules_chains.proofs.WorkingPath.{path-ends, path-of-none}
use Rattle.rules_chains.proofs.Members.{in-member, member-in}
use Rattle.rules_outcome.specs.Roots.{copies_of}
use Rattle.rules_outcome.specs.Holding.{new_rekey, rekey_copies, held_from, held_by_path, HoldsPath, HeldNext}
use Rattle.rules_outcome.specs.After.{Enter}
use Rattle.rules_outcome.specs.NamedKey.{lent_root, Given, InOwnBag}
use Rattle.rules_outcome.specs.RestSays.{NewRekey}
use Rattle.rules_outcome.specs.Demand3.{OpensRekeyKey, PathOf, OpensByWrapKeys, HeldPath, HeldAfter}
use Rattle.rules_outcome.proofs.Members.{not-in-none, in-keep, keep-in, in-flat_map, flat_map-in}
use Rattle.rules_outcome.proofs.RunsLists.{some-passes, passes-some}
use Rattle.rules_outcome.proofs.Bags.{copy-own, own-copy}
use Rattle.rules_outcome.proofs.Enters.{each-enters}
use Rattle.rules_outcome.proofs.PathKeys.{HoldsKey, held-keys, held-ids, path-ids, holds-key, path-once}

-- equal counts, where they cannot differ
pub not-other : (m n : ℕ) → ((m ≡ n → ⊥) → ⊥) → m ≡ n
not-other m n f = bool_cases (eqb m n) (eqb-true m n) (λ e. absurd (f (eqb-false m n e)))

-- ---- the copies of the key of a Rekey SA that the frame announces
module _ (f : Frame) where
  pub new-any : (p : GroupSaPolicy) → NewRekey f p → new_rekey f ≡ true
  new-any p n = passes-some is_rekey (announced f) p (in-member p (announced f) n.stands) (eq-eqb p.protocol 6 n.is-rekey)

  pub any-new : new_rekey f ≡ true → (p : GroupSaPolicy) × NewRekey f p
  any-new g =
      let r = some-passes is_rekey (announced f) g in
      (r.one, record { stands = member-in r.one (announced f) r.stands; is-rekey = eqb-true r.one.protocol 6 r.passes })

  rekey-copy : (p : GroupSaPolicy) → NewRekey f p → (c : SaKey) → In c (copies_of f p) → In c (rekey_copies f)
  unfolding rekey_copies
  rekey-copy p n c m =
      flat_map-in (copies_of f) c (keep is_rekey (announced f)) p
      (keep-in p is_rekey (announced f) n.stands (eq-eqb p.protocol 6 n.is-rekey)) m

  record OfRekey (c : SaKey) : Type 0 where
    policy : GroupSaPolicy
    new : NewRekey f policy
    own : InOwnBag f policy c

  of-rekey : (c : SaKey) → In c (rekey_copies f) → OfRekey c
  unfolding rekey_copies
  of-rekey c m =
      let r = in-flat_map (copies_of f) c (keep is_rekey (announced f)) m in
      let p = r.item in
      let k = in-keep p is_rekey (announced f) r.stands in
      record {
        policy = p;
        new = record { stands = k.0; is-rekey = eqb-true p.protocol 6 k.1 };
        own = copy-own f p c r.is;
      }

  -- where the announced SAs enter, a chain opens the key of a Rekey SA among them
  pub rekey-opener : (roots : List Root) (entries : List WrapKey) (size now : ℕ) (new : List Sa) →
      Enter roots entries size now f (announced f) new → new_rekey f ≡ true →
      (q : List WrapKey) × Opener roots entries size (rekey_copies f) q
  rekey-opener roots entries size now new e g =
      let n = any-new g in
      let r = each-enters roots entries size now f (announced f) new e n.0 n.1.stands in
      let o = r.key.opens in (
        o.named.passed,
        record {
          copy = o.copy;
          stands = rekey-copy n.0 n.1 o.copy o.stands;
          value = o.value;
          chain = o.named.chain;
          octets = r.octets;
          opens = o.opens;
        },
      )

none-long : {A : Type 0} (l : List A) → length l ≤ 0 → l ≡ []
none-long [] h = refl
none-long (a ∷ l) h = absurd (omega arith)

-- ---- chains that open the key of a Rekey SA, in the customer's words and by the copies
module _ (roots : List Root) (entries : List WrapKey) (size : ℕ) (f : Frame) where
  abbrev Opens : List WrapKey → Type 0
  Opens = OpensRekeyKey roots entries size f

  pub to-opener : (q : List WrapKey) → OpensRekeyKey roots entries size f q → Opener roots entries size (rekey_copies f) q
  to-opener q o =
      record {
        copy = o.copy;
        stands = rekey-copy f o.policy o.new o.copy (own-copy f o.policy o.copy o.own);
        value = o.value;
        chain = o.chain;
        octets = o.octets;
        opens = o.opens;
      }

  from-opener : (q : List WrapKey) → Opener roots entries size (rekey_copies f) q → Opens q
  from-opener q o =
      let r = of-rekey f o.copy o.stands in
      record {
        policy = r.policy;
        new = r.new;
        copy = o.copy;
        own = r.own;
        value = o.value;
        chain = o.chain;
        octets = o.octets;
        opens = o.opens;
      }

  pub opened-by : ((p : GroupSaPolicy) → NewRekey f p → (x : List ℕ) × CopyOpens roots entries size (copies_of f p) x) →
      (p : GroupSaPolicy) →
      NewRekey f p → (passed : List WrapKey) × OpensRekeyKey roots entries size f passed
  opened-by opens p n =
      let o = (opens p n).1 in (
        o.named.passed,
        record {
          policy = p;
          new = n;
          copy = o.copy;
          own = copy-own f p o.copy o.stands;
          value = o.value;
          chain = o.named.chain;
          octets = (opens p n).0;
          opens = o.opens;
        },
      )

  -- the path of the copies is the path
  pub path-of : (ids : List ℕ) (end : ℕ) (p : KeyPath roots entries size (rekey_copies f) ids end) →
      PathOf roots entries size f p.passed end
  unfolding to-opener from-opener
  path-of ids end p =
      record {
        opens = from-opener p.passed p.opener;
        ends = p.ends;
        fewest = λ other o. p.fewest other (to-opener other o);
        smallest = λ other o e.
            subst (λ (m : List ℕ). NotAfter m (key_ids other)) (sym p.written) (p.smallest other (to-opener other o) e);
        lowest = λ other o e. p.lowest other (to-opener other o) (e ∙ p.written);
      }

  -- and the path is the path of the copies
  pub of-path : (passed : List WrapKey) (end : ℕ) → PathOf roots entries size f passed end →
      KeyPath roots entries size (rekey_copies f) (key_ids passed) end
  unfolding to-opener from-opener
  of-path passed end p =
      record {
        passed = passed;
        opener = to-opener passed p.opens;
        written = refl;
        ends = p.ends;
        fewest = λ other o. p.fewest other (from-opener other o);
        smallest = λ other o e. p.smallest other (from-opener other o) e;
        lowest = λ other o e. p.lowest other (from-opener other o) e;
      }

  module _ (limits : Limits) (old h : Held) (p : HoldsPath roots entries size limits (rekey_copies f) old h) where
    -- as many keys as entries
    keys-long : length (map held_from p.keys) ≡ length p.path.passed
    keys-long =
        let a : length (ids_of (map held_from p.keys)) ≡ length (map held_from p.keys) =
        length-map (map held_from p.keys) (λ (k : HeldKey). k.id) in
        let b : length (key_ids p.path.passed) ≡ length p.path.passed = length-map p.path.passed (λ (e : WrapKey). e.key_id) in
        let c : length (ids_of (map held_from p.keys)) ≡ length (key_ids p.path.passed) =
        ap length (path-ids roots entries size limits (rekey_copies f) old h p ∙ sym p.path.written) in
        omega (arith, a, b, c)

    -- a copy under a key that chains start with: none is passed
    pub none_passed : OpensRekeyKey roots entries size f [] → map held_from p.keys ≡ []
    none_passed o =
        let few = p.path.fewest [] (to-opener [] o) in
        let n = keys-long in
        none-long (map held_from p.keys) (omega (arith, few, n))

-- ---- where there is no entry nothing changes
no-ids : (roots : List Root) (entries : List WrapKey) (size : ℕ) (ids : List ℕ) (keys : List Root) → Keys roots entries size ids keys →
    ids ≡ [] → keys ≡ []
no-ids roots entries size _ _ no_key e = refl
no-ids roots entries size _ _ (one_more {i = i} {l = l} v k) e =
    let z : ◌≡◌ {A = ℕ} (length (i ∷ l)) 0 = ap length e in absurd (omega arith)

pub no-entry-stays : (roots : List Root) (entries : List WrapKey) (size : ℕ) (limits : Limits) (b : Bool) (copies : List SaKey)
    (old h : Held) → entries ≡ [] → HeldNext roots entries size limits b copies old h → h ≡ old
no-entry-stays roots entries size limits true copies old h none p =
    let e = path-of-none roots entries size copies p.ids p.end p.path none in
    p.is ∙ ap (λ (l : List Root). held_by_path limits (map held_from l) p.end old)
    (no-ids roots entries size p.ids p.keys p.are e)
no-entry-stays roots entries size limits false copies old h none p = p

-- and so it is with any other list
pub no-entry-next : (roots : List Root) (entries : List WrapKey) (size : ℕ) (limits : Limits) (b : Bool) (copies : List SaKey)
    (old h other : Held) → entries ≡ [] → HeldNext roots entries size limits b copies old h →
    HeldNext roots entries size limits b copies other other
no-entry-next roots entries size limits true copies old h other none p =
    let e = path-of-none roots entries size copies p.ids p.end p.path none in
    record {
      ids = p.ids;
      end = p.end;
      path = p.path;
      keys = p.keys;
      are = p.are;
      is = sym (ap (λ (l : List Root). held_by_path limits (map held_from l) p.end other)
          (no-ids roots entries size p.ids p.keys p.are e));
    }
no-entry-next roots entries size limits false copies old h other none p = refl

-- ---- in a registration chains start with the lent key alone
module _ (lent : List ℕ) (f : Frame) where
  abbrev R : List Root
  R = lent_root lent

  abbrev l : List WrapKey
  l = wrap_keys_of f

  abbrev size : ℕ
  size = length lent

  -- so that every path ends on key 0
  ends-on-zero : (ids : List ℕ) (end : ℕ) → KeyPath R l size (rekey_copies f) ids end → end ≡ 0
  ends-on-zero ids end p =
      let e = path-ends R l size (rekey_copies f) ids end p in
      sym e.is ∙ ap (λ (r : Root). r.id) (Memᴰ.eq_of_singleton (in-member e.key R e.stands))

  module _ (limits : Limits) (h : Held) (none : EntriesConflict R l size → ⊥)
      (opens : (p : GroupSaPolicy) → NewRekey f p → (x : List ℕ) × CopyOpens R l size (copies_of f p) x) where
    abbrev old : Held
    old = held_of limits []

    all_fit : (i : ℕ) (x : List ℕ) → Given lent f i x → length x ≡ size
    all_fit i x r = not-other (length x) size (λ q. none (refusals.wrong_size i x r q))

    module _ (p : HoldsPath R l size limits (rekey_copies f) old h) where
      is-path : HeldPath lent f h
      is-path =
          record {
            passed = p.path.passed;
            path = subst (PathOf R l size f p.path.passed) (ends-on-zero p.ids p.end p.path)
                (path-of R l size f p.ids p.end p.path);
            written = held-ids R l size limits (rekey_copies f) old h p refl ∙ sym p.path.written;
          }

      -- "or one opened by the default key: empty"
      by_default : OpensByWrapKeys lent f [] → keys_of h ≡ []
      by_default o = held-keys R l size limits (rekey_copies f) old h p refl ∙ none_passed R l size f limits old h p o

      key_of : (k : HeldKey) → In k (keys_of h) → HoldsKey R l size k
      key_of k m =
          let e = held-keys R l size limits (rekey_copies f) old h p refl in
          holds-key R l size limits (rekey_copies f) old h p k (in-member k (map held_from p.keys) (subst (In k) e m))

      value-of : (k : HeldKey) → In k (keys_of h) → (x : List ℕ) → Given lent f k.id x → k.key ≡ wrapping_of x
      value-of k m x r = let g = key_of k m in g.key-is ∙ ap wrapping_of (sym (g.value.every x r))

      by-path : new_rekey f ≡ true → HeldAfter lent f h
      by-path g =
          record {
            path = λ q o. is-path;
            no-rekey-sa = λ without. let n = any-new f g in absurd (without n.0 n.1);
            by-default-key = by_default;
            opened = opened-by R l size f opens;
            once =
                ap (λ (m : List HeldKey). distinct (ids_of m)) (held-keys R l size limits (rekey_copies f) old h p refl)
                ∙ path-once R l size limits (rekey_copies f) old h p none;
            only = λ k m. let v = key_of k m in (v.x, v.value.reached);
            value = value-of;
            octets = λ k m x r. ap value_of (value-of k m x r) ∙ take-append_seam x (replicate (32 - length x) 0);
            fits = all_fit;
          }

    -- "No Rekey SA ..: empty"
    by-none : new_rekey f ≡ false → h ≡ held_of limits [] → HeldAfter lent f h
    unfolding distinct
    by-none g q =
        let e : keys_of h ≡ [] = ap keys_of q ∙ keys-of-held limits [] in
        let empty : (k : HeldKey) → In k (keys_of h) → ⊥ = λ k m. not-in-none k (subst (In k) e m) in
        record {
          path = λ passed o. absurd (false≢true (sym g ∙ new-any f o.policy o.new));
          no-rekey-sa = λ n. e;
          by-default-key = λ o. e;
          opened = opened-by R l size f opens;
          once = ap (λ (m : List HeldKey). distinct (ids_of m)) e;
          only = λ k m. absurd (empty k m);
          value = λ k m x r. absurd (empty k m);
          octets = λ k m x r. absurd (empty k m);
          fits = all_fit;
        }

    by-set : (b : Bool) → new_rekey f ≡ b → HeldNext R l size limits b (rekey_copies f) old h → HeldAfter lent f h
    by-set true g p = by-path p g
    by-set false g q = by-none g q

  -- by whatever roots, entries and size are these
  module _ (roots : List Root) (entries : List WrapKey) (n : ℕ) (of-lent : roots ≡ R) (of-frame : entries ≡ l) (so-long : n ≡ size) where
    carry : (P : List Root → List WrapKey → ℕ → Type 0) → P roots entries n → P R l size
    carry P x =
        subst (P R l) so-long (subst (λ (m : List WrapKey). P R m n) of-frame (subst (λ (r : List Root). P r entries n) of-lent x))

    pub held_after : (limits : Limits) (h : Held) → (EntriesConflict roots entries n → ⊥) →
        ((p : GroupSaPolicy) → NewRekey f p → (x : List ℕ) × CopyOpens roots entries n (copies_of f p) x) →
        HeldNext roots entries n limits (new_rekey f) (rekey_copies f) (held_of limits []) h → HeldAfter lent f h
    held_after limits h none opens set =
        by-set limits h (carry (λ r e m. (EntriesConflict r e m → ⊥)) none)
        (carry (λ r e m. ((p : GroupSaPolicy) → NewRekey f p → (x : List ℕ) × CopyOpens r e m (copies_of f p) x)) opens) (new_rekey f) refl
        (carry (λ r e m. HeldNext r e m limits (new_rekey f) (rekey_copies f) (held_of limits []) h) set)
