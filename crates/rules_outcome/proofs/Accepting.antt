-- What is known of a frame that is accepted, and of number 9, by the SAs that the frame announces.
use Prim.Native.Nat.{ℕ}
use mathlib.Core.Path.{◌≡◌, refl, ap, sym, ◌∙◌, subst}
use mathlib.Core.Logic.{◌⊎◌, inl, inr, ⊎_elim}
use mathlib.Core.List.{List}
use lib.ListN.{length}
use Rattle.state_keys.specs.Limits.{Limits}
use Rattle.wire_attributes.specs.Tree.{SaKey}
use Rattle.wire_policies.specs.Policy.{GroupSaPolicy}
use Rattle.wire_frames.specs.Frame.{Frame}
use Rattle.wire_frames.specs.Grammar.{IsFrame}
use Rattle.wire_frames.proofs.FrameGrammar.{one-tree}
use Rattle.state_sa.specs.declared.entry.Sa.{Sa}
use Rattle.state_table.specs.Table.{sas_of}
use Rattle.state_table.proofs.Kept.{sas-of-table}
use Rattle.state.specs.declared.State.{State}
use Rattle.rules_refusals.specs.Contents.{announced}
use Rattle.rules_chains.specs.Chain.{In, Root, CopyOpens}
use Rattle.rules_chains.specs.Refusals.{Announced, EntriesConflict, of-entries, of-copies}
use Rattle.rules_chains.specs.Refusals as refusals
use Rattle.rules_outcome.specs.Roots.{roots_of, entries_of, wrapping_size, need_of, announced_as, announced_keys}
use Rattle.rules_outcome.specs.Answer.{KeyConflictOf, KeyMissingOf, FrameAnswers}
use Rattle.rules_outcome.specs.After.{old_sas, sa_from, insert_all, After}
use Rattle.rules_outcome.specs.Demand3.{NewBy, EnteredBy}
use Rattle.rules_outcome.specs.NamedKey.{OpensTo}
use Rattle.rules_outcome.specs.RestSays.{Stayed}
use Rattle.rules_outcome.specs.Outcome.{Judged, accepted, Outcome, by-tree}
use Rattle.rules_outcome.proofs.Members.{in_map, map-in}
use Rattle.rules_outcome.proofs.Enters.{each-enters, entered-is, in_all, all_in, old-stayed, stayed-old}
use Rattle.rules_outcome.proofs.HeldList.{not-other}

-- two ways of saying that a copy opens, of which each gives the other
module _ (now : ℕ) (P Q : GroupSaPolicy → List ℕ → Type 0) (to : (a : GroupSaPolicy) (x : List ℕ) → P a x → Q a x)
    (from : (a : GroupSaPolicy) (x : List ℕ) → Q a x → P a x) where
  pub new_by : (l : List Sa) (a : GroupSaPolicy) → NewBy now P l a → NewBy now Q l a
  new_by l a n =
      record {
        octets = n.octets;
        opens = to a n.octets n.opens;
        every = λ y q. n.every y (from a y q);
        fits = n.fits;
        stands = n.stands;
      }

  pub entered_by : (f : Frame) (b : Sa) → EnteredBy now P f b → EnteredBy now Q f b
  entered_by f b n =
      record {
        policy = n.policy;
        stands = n.stands;
        octets = n.octets;
        opens = to n.policy n.octets n.opens;
        every = λ y q. n.every y (from n.policy y q);
        fits = n.fits;
        is = n.is;
      }

module _ (limits : Limits) (s : State) (now : ℕ) (lent : List ℕ) where
  module _ (f : Frame) where
    abbrev pub Opened : List SaKey → List ℕ → Type 0
    Opened l x = CopyOpens (roots_of limits s now lent f) (entries_of f) (wrapping_size limits s now lent f) l x

    -- a copy opens, to something
    abbrev pub HasCopy : GroupSaPolicy → Type 0
    HasCopy a = (x : List ℕ) × OpensTo limits s now lent f a x

    -- number 9 by the policies
    pub missing-policy : KeyMissingOf limits s now lent f → (a : GroupSaPolicy) × In a (announced f) × (HasCopy a → ⊥)
    unfolding announced_keys
    missing-policy n =
        let r = in_map (announced_as f) n.sa (announced f) n.stands in
        let e : n.sa ≡ announced_as f r.item = r.is in
        (r.item, r.stands, λ h. n.none h.0 (subst (λ (b : Announced). Opened b.copies h.0) (sym e) h.1))

    pub policy-missing : (a : GroupSaPolicy) → In a (announced f) → (HasCopy a → ⊥) → KeyMissingOf limits s now lent f
    unfolding announced_keys
    policy-missing a m none =
        record { sa = announced_as f a; stands = map-in (announced_as f) (announced_as f a) (announced f) a m refl; none = λ x o. none (x, o) }

    -- where 8 does not apply, what a copy opens to has the size that its policy needs
    module _ (none : KeyConflictOf limits s now lent f → ⊥) where
      pub entries_fit : EntriesConflict (roots_of limits s now lent f) (entries_of f) (wrapping_size limits s now lent f) → ⊥
      entries_fit e = none (of-entries e)

      pub copy-fits : (a : GroupSaPolicy) → In a (announced f) → (x : List ℕ) → OpensTo limits s now lent f a x → length x ≡ need_of a
      unfolding announced_keys
      copy-fits a m x o =
          not-other (length x) (need_of a)
          (λ d.
          none
          (of-copies (announced_as f a) (map-in (announced_as f) (announced_as f a) (announced f) a m refl) (refusals.wrong_size x o d)))

    -- acceptance has a copy that opens for each
    pub after-opens : (next : State) → After limits s now lent f next → (a : GroupSaPolicy) → In a (announced f) → HasCopy a
    after-opens next p a m =
        let roots = roots_of limits s now lent f in
        let r = each-enters roots (entries_of f) (wrapping_size limits s now lent f) now f (announced f) p.new p.enter a m in
        (r.octets, r.key.opens)

    -- ---- the table after acceptance
    abbrev pub New : List Sa → GroupSaPolicy → Type 0
    New l a = NewBy now (OpensTo limits s now lent f) l a

    abbrev pub Entered : Sa → Type 0
    Entered b = EnteredBy now (OpensTo limits s now lent f) f b

    module _ (next : State) (after : After limits s now lent f next) (none : KeyConflictOf limits s now lent f → ⊥) where
      abbrev roots : List Root
      roots = roots_of limits s now lent f

      abbrev size : ℕ
      size = wrapping_size limits s now lent f

      sas-are : sas_of next.table ≡ insert_all after.new (old_sas s now f)
      sas-are = ap sas_of after.table ∙ sas-of-table limits (insert_all after.new (old_sas s now f))

      pub new-stands : (a : GroupSaPolicy) → In a (announced f) → New (sas_of next.table) a
      new-stands a m =
          let r = each-enters roots (entries_of f) size now f (announced f) after.new after.enter a m in
          let b = sa_from now a r.octets in
          record {
            octets = r.octets;
            opens = r.key.opens;
            every = r.key.every;
            fits = copy-fits none a m r.octets r.key.opens;
            stands = subst (In b) (sym sas-are) (all_in b after.new (old_sas s now f) (inl r.stands));
          }

      pub stands-as : (b : Sa) → In b (sas_of next.table) → Entered b ⊎ Stayed s now f b
      stands-as b m =
          ⊎_elim
          (λ i.
          let r = entered-is roots (entries_of f) size now f (announced f) after.new after.enter b i in
          inl (record {
            policy = r.policy;
            stands = r.stands;
            octets = r.octets;
            opens = r.key.opens;
            every = r.key.every;
            fits = copy-fits none r.policy r.stands r.octets r.key.opens;
            is = r.is;
          }))
          (λ i. inr (old-stayed s now f b i)) (in_all b after.new (old_sas s now f) (subst (In b) sas-are m))

      entered-stands : (b : Sa) → Entered b → In b (sas_of next.table)
      entered-stands b r =
          let n = new-stands r.policy r.stands in
          let q = r.is ∙ ap (sa_from now r.policy) (n.every r.octets r.opens) in
          subst (λ (x : Sa). In x (sas_of next.table)) (sym q) n.stands

      pub as-stands : (b : Sa) → Entered b ⊎ Stayed s now f b → In b (sas_of next.table)
      as-stands b (inl r) = entered-stands b r
      as-stands b (inr r) =
          subst (In b) (sym sas-are) (all_in b after.new (old_sas s now f) (inr (stayed-old s now f b r)))

  -- ---- an outcome of 0, by the frame's tree
  module _ (octets : List ℕ) (f : Frame) (e : IsFrame s.profile octets f) where
    by-judged : (next : State) → Judged limits s now lent f 0 next → FrameAnswers limits s now lent f 0 × After limits s now lent f next
    by-judged _ (accepted next p a) = (p, a)

    pub whole-accepted : (next : State) → Outcome limits s now lent octets 0 next →
        FrameAnswers limits s now lent f 0 × After limits s now lent f next
    whole-accepted next (by-tree g d j) =
        by-judged next (subst (λ (x : Frame). Judged limits s now lent x 0 next) (one-tree s.profile octets g f d e) j)
