-- Where the walk over the policies of a GSA body stands: those that were passed, and what is known of them.
use Rattle.std.specs.Prelude.{Result, Ok, Err}
use native.Mathlib.Omega.{arith}
use Prim.Native.Nat.{ℕ, ◌+◌, ◌<◌, ◌≤◌}
use mathlib.Core.Path.{◌≡◌, refl, ap, sym, ◌∙◌, subst}
use mathlib.Core.Bool.{Bool, true, false, not, false≢true}
use mathlib.Core.List.Memᴰ
use mathlib.Core.List.{List, [], ◌∷◌, ◌++◌, append-nil, append_assoc, Memᴰ, flat_map}
use borrow.Author.Tests.{eqb-true, eqb-false, not-false}
use lib.Dec.{eqb}
use lib.ListN.{length, take, drop, set, length-append, length-set}
use Rattle.lists.specs.Lists.{any}
use Rattle.wire_attributes.specs.Tree.{SaKey, WrapKey}
use Rattle.wire_policies.specs.Policy.{GroupSaPolicy, policies}
use Rattle.wire_frames.specs.Frame.{Frame}
use Rattle.wire_readers.specs.inner.Values.{is_whole}
use Rattle.wire_readers.specs.declared.policy.Parts.{Parts}
use Rattle.state_sa.specs.declared.entry.Sa.{Sa}
use Rattle.rules_refusals.specs.Contents.{row_of, several, group_sa_in, announced}
use Rattle.rules_refusals.specs.Fitness.{is_rekey, transforms_fit}
use Rattle.rules_refusals.specs.Number4.{twice_in_transform, key_length_twice, lifetime_twice}
use Rattle.rules_refusals.specs.Number5.{other_transforms}
use Rattle.rules_refusals.specs.Number6.{bags_named, policy_unpaired}
use Rattle.rules_chains.specs.Chain.{In, Root}
use Rattle.rules_outcome.specs.Roots.{copies_of}
use Rattle.rules_outcome.specs.Holding.{rekey_copies}
use Rattle.rules_outcome.specs.After.{no-sa}
use Rattle.rules_outcome.proofs.Members.{not-in-none}
use Rattle.rules_outcome.proofs.RunsLists.{none_passes}
use Rattle.unwrap_sas.specs.inner.Keyed.{new_sas, ChecksPassed, found_by, KeysOf, SomeConflict, KeyedBy}
use Rattle.unwrap_sas.specs.inner.Policies.{SaPredicate, IsConflict, IsUnopened, IsSa, OpeningKeys, spi_at, body_at, Announces}
use Rattle.unwrap_sas.specs.inner.Policies.{IsAnnounced}
use Rattle.unwrap_sas.specs.declared.joining.SasFault.{SasFault}
use Rattle.unwrap_sas.specs.declared.joining.SasFault.TheVariants.{KeyConflict}
use Rattle.unwrap_copies.specs.declared.answer.Openers.{Openers}
use Rattle.unwrap_copies.specs.inner.Openers.{openers_of, OpenersAre}
use Rattle.lists.proofs.Cases.{bool_cases}
use Rattle.unwrap_sas.proofs.Further.{conflict-wider, conflict-more, unopened-more, sa-more}
use Rattle.unwrap_sas.proofs.RekeyCopies.{copies_among, among_none, among-other, among_first, few-copies}
use Rattle.unwrap_sas.proofs.PolicyAt.{sas_from, no-more-sas, SaAt, PolicyAt}

-- ---- keys were found if none is missing
keys-told : (missing : Bool) → found_by missing ≡ Ok tt → missing ≡ false
keys-told true e = cc
keys-told false e = refl

-- ---- a policy of a frame that numbers 4 to 7 let pass
module _ (reads : Bool) (f : Frame) (g k : List ℕ) (y : ChecksPassed reads f g k) (before : List GroupSaPolicy) (at : ℕ)
    (all_are : before ++ sas_from g at ≡ sas_from g 0) (r : Parts) (s : SaAt g at r) where
  abbrev a : GroupSaPolicy
  a = s.sa

  stands : Memᴰ a (announced f)
  stands =
      subst (Memᴰ a)
      (ap (λ (l : List GroupSaPolicy). before ++ l) (sym s.first) ∙ all_are ∙ ap (flat_map group_sa_in) (sym y.policies))
      (Memᴰ.append_right before (Memᴰ.head refl))

  fits : transforms_fit (row_of f).authentication a ≡ true
  unfolding other_transforms
  fits =
      not-false (transforms_fit (row_of f).authentication a)
      (none_passes (λ (p : GroupSaPolicy). not (transforms_fit (row_of f).authentication p)) (announced f) y.transforms a stands)

  once : any twice_in_transform a.transforms ≡ false
  unfolding key_length_twice
  once = none_passes (λ (p : GroupSaPolicy). any twice_in_transform p.transforms) (announced f) y.lengths a stands

  lasting : several a.key_lifetimes ≡ false
  unfolding lifetime_twice
  lasting = none_passes (λ (p : GroupSaPolicy). several p.key_lifetimes) (announced f) y.lifetimes a stands

  paired : bags_named f a.protocol a.spi ≡ 1
  unfolding policy_unpaired
  paired =
      eqb-true (bags_named f a.protocol a.spi) 1
      (not-false (eqb (bags_named f a.protocol a.spi) 1)
      (none_passes (λ (p : GroupSaPolicy). not (eqb (bags_named f p.protocol p.spi) 1)) (announced f) y.paired a stands))

  pub announces : Announces reads k r.first (spi_at g at r) (body_at g at r) f a
  announces = record {
    protocol-is = s.protocol-is;
    spi-is = s.spi-is;
    spi-size = s.spi-size;
    body = s.body;
    is = s.is;
    transforms = s.transforms;
    fits = fits;
    once = once;
    lifetimes = s.lifetimes;
    lasting = lasting;
    bags = y.bags;
    paired = paired;
  }

module _ (reads : Bool) (g k schedule carried fresh ids block : List ℕ) (tick : ℕ) where
  pub record Along (at : ℕ) (missing : Bool) (sas : List Sa) (count : ℕ) (openers : Openers) : Type 0 where
    pub inside : at ≤ length g
    pub rest : is_whole (policies 0 (drop at g)) ≡ true
    pub places : length sas ≡ new_sas
    pub passed : List GroupSaPolicy
    pub all_are : passed ++ sas_from g at ≡ sas_from g 0
    pub few : count ≤ length passed
    pub known : (roots : List Root) (entries : List WrapKey) (size : ℕ) (f : Frame) → ChecksPassed reads f g k →
        OpeningKeys schedule carried fresh ids block roots entries size → KeysOf roots entries size f passed tick
        (found_by missing) sas count
    pub listed : (roots : List Root) (entries : List WrapKey) (size : ℕ) (f : Frame) → ChecksPassed reads f g k →
        OpeningKeys schedule carried fresh ids block roots entries size → missing ≡ false →
        OpenersAre roots entries size (copies_among f passed) (openers_of openers)

  pub along-start : (sas : List Sa) (openers : Openers) → is_whole (policies 0 g) ≡ true → length sas ≡ new_sas → openers.count ≡ 0 →
      Along 0 false sas 0 openers
  along-start sas openers w n z =
      record {
        inside = omega arith;
        rest = w;
        places = n;
        passed = [];
        all_are = refl;
        few = omega arith;
        known = λ roots entries size f y o. (λ a i. absurd (not-in-none a i), no-sa, refl);
        listed = λ roots entries size f y o e. record {
          each = λ i m. absurd (not-in-none i (subst (λ (n : ℕ). In i (take n openers.ids)) z m));
          all = λ c m u. absurd (not-in-none c (subst (In c) (among_none f) m));
        };
      }

  module _ (at : ℕ) (missing : Bool) (sas : List Sa) (count : ℕ) (openers : Openers) (w : Along at missing sas count openers) where
    pub along-end : (found : Result (Unit {0}) SasFault) → found ≡ found_by missing → length g ≤ at → (roots : List Root)
        (entries : List WrapKey) (size : ℕ) (f : Frame) → ChecksPassed reads f g k → OpeningKeys schedule carried fresh ids block roots entries size →
        KeyedBy roots entries size f tick (record { found = found; sas = sas; count = count; openers = openers })
    unfolding rekey_copies
    along-end found e h roots entries size f y o =
        let all : w.passed ≡ announced f =
        sym (append-nil w.passed) ∙ ap (λ (l : List GroupSaPolicy). w.passed ++ l) (sym (no-more-sas g at h)) ∙ w.all_are
        ∙ ap (flat_map group_sa_in) (sym y.policies) in
        record {
          keys =
              subst (λ (l : List GroupSaPolicy). KeysOf roots entries size f l tick found sas count) all
              (subst (λ (x : Result (Unit {0}) SasFault). KeysOf roots entries size f w.passed tick x sas count) (sym e)
              (w.known roots entries size f y o));
          openers = λ k.
              subst (λ (l : List GroupSaPolicy). OpenersAre roots entries size (copies_among f l) (openers_of openers)) all
              (w.listed roots entries size f y o (keys-told missing (sym e ∙ k)));
        }

    module _ (r : Parts) (p : PolicyAt g at r) where
      pub along-wide : r.first ≡ 0 → Along (at + r.end) missing sas count openers
      along-wide z =
          record {
            inside = p.inside;
            rest = p.others;
            places = w.places;
            passed = w.passed;
            all_are = ap (λ (l : List GroupSaPolicy). w.passed ++ l) (sym (p.wide z)) ∙ w.all_are;
            few = w.few;
            known = w.known;
            listed = w.listed;
          }

      module _ (z : r.first ≡ 0 → ⊥) where
        abbrev s : SaAt g at r
        s = p.sa-at z

        abbrev x : List ℕ
        x = spi_at g at r

        abbrev b : List ℕ
        b = body_at g at r

        pub along-announces : (f : Frame) → ChecksPassed reads f g k → Announces reads k r.first x b f s.sa
        along-announces f y = announces reads f g k y w.passed at w.all_are r s

        -- a place is left for its SA
        pub along-room : (f : Frame) → ChecksPassed reads f g k → count < new_sas
        along-room f y =
            let n = ap length w.all_are in
            let m = length-append w.passed (sas_from g at) in
            let c = ap length s.first in
            let d = ap length (ap (flat_map group_sa_in) y.policies) in
            omega (arith, w.few, y.room)

        all-next : (w.passed ++ (s.sa ∷ [])) ++ sas_from g (at + r.end) ≡ sas_from g 0
        all-next =
            append_assoc w.passed (s.sa ∷ []) (sas_from g (at + r.end))
            ∙ ap (λ (l : List GroupSaPolicy). w.passed ++ l) (sym s.first) ∙ w.all_are

        abbrev pub Says : SaPredicate → Type 0
        Says Is = (roots : List Root) (entries : List WrapKey) (size : ℕ) (f : Frame) (a : GroupSaPolicy) →
            IsAnnounced reads k r.first x b schedule carried fresh ids block roots entries size f a → Is roots entries size f a

        -- number 8 of one is number 8
        pub along-conflict : Says IsConflict → (n : ℕ) (table : List Sa) (o : Openers)
            → (roots : List Root) (entries : List WrapKey) (size : ℕ) (f : Frame) → ChecksPassed reads f g k →
            OpeningKeys schedule carried fresh ids block roots entries size →
            KeyedBy roots entries size f tick (record { found = Err KeyConflict; sas = table; count = n; openers = o })
        along-conflict more n table others roots entries size f y o =
            let e = more roots entries size f s.sa (record { opening = o; stands = along-announces f y }) in
            let u = conflict-wider roots entries size f tick (w.passed ++ (s.sa ∷ [])) (sas_from g (at + r.end))
            (conflict-more roots entries size f tick w.passed s.sa e) in
            record {
              keys = subst (SomeConflict roots entries size f) (all-next ∙ ap (flat_map group_sa_in) (sym y.policies)) u;
              openers = λ k. cc;
            }

        pub along-none : Says IsUnopened → Along (at + r.end) true sas count openers
        along-none more =
            let n = length-append w.passed (s.sa ∷ []) in
            record {
              inside = p.inside;
              rest = p.others;
              places = w.places;
              passed = w.passed ++ (s.sa ∷ []);
              all_are = all-next;
              few = omega (arith, w.few);
              known = λ roots entries size f y o.
                  unopened-more roots entries size f tick w.passed s.sa missing sas count (w.known roots entries size f y o)
                  (more roots entries size f s.sa (record { opening = o; stands = along-announces f y }));
              listed = λ roots entries size f y o e. absurd (false≢true (sym e));
            }

        -- the openers of the Rekey SA, if this is one
        openers-next : (own next : Openers) (sa : Sa) → (r.first ≡ 6 → next ≡ own) → ((r.first ≡ 6 → ⊥) → next ≡ openers) →
            Says (IsSa tick sa own) → (roots : List Root) (entries : List WrapKey) (size : ℕ) (f : Frame) → ChecksPassed reads f g k →
            OpeningKeys schedule carried fresh ids block roots entries size → missing ≡ false →
            OpenersAre roots entries size (copies_among f (w.passed ++ (s.sa ∷ []))) (openers_of next)
        openers-next own next sa is kept more roots entries size f y o e =
            let h = along-announces f y in
            let m = more roots entries size f s.sa (record { opening = o; stands = h }) in
            let all = ap (λ (l : List GroupSaPolicy). w.passed ++ l) (sym s.first) ∙ w.all_are ∙ ap (flat_map group_sa_in) (sym
            y.policies) in
            bool_cases (is_rekey s.sa)
            (λ q.
            let c = among_first f w.passed s.sa (sas_from g (at + r.end)) y.rekeys all q in
            let n = is (sym s.protocol-is ∙ eqb-true s.sa.protocol 6 q) in
            subst (λ (l : List SaKey). OpenersAre roots entries size l (openers_of next)) (sym c)
            (subst (λ (x : Openers). OpenersAre roots entries size (copies_of f s.sa) (openers_of x)) (sym n)
            (m.opened (few-copies f s.sa y.few-copies h.paired))))
            (λ q.
            let c = among-other f w.passed s.sa q in
            let n = kept (λ z. eqb-false s.sa.protocol 6 q (s.protocol-is ∙ z)) in
            subst (λ (l : List SaKey). OpenersAre roots entries size l (openers_of next)) (sym c)
            (subst (λ (x : Openers). OpenersAre roots entries size (copies_among f w.passed) (openers_of x)) (sym n)
            (w.listed roots entries size f y o e)))

        pub along-sa : (sa : Sa) (own next : Openers) → (r.first ≡ 6 → next ≡ own) → ((r.first ≡ 6 → ⊥) → next ≡ openers) →
            count < new_sas → Says (IsSa tick sa own) → Along (at + r.end) missing (set sas count sa) (count + 1) next
        along-sa sa own next is kept h more =
            let n = length-append w.passed (s.sa ∷ []) in
            let e = w.places in
            record {
              inside = p.inside;
              rest = p.others;
              places = length-set sas count sa ∙ e;
              passed = w.passed ++ (s.sa ∷ []);
              all_are = all-next;
              few = omega (arith, w.few);
              known = λ roots entries size f y o.
                  sa-more roots entries size f tick w.passed s.sa missing sas count (w.known roots entries size f y o) sa own
                  (omega arith)
                  (more roots entries size f s.sa (record { opening = o; stands = along-announces f y }));
              listed = openers-next own next sa is kept more;
            }
