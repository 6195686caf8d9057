-- The facts of a frame, and the number that the tests over them give.
use Prim.Native.Nat.{ℕ, ◌≤◌}
use mathlib.Core.Path.{◌≡◌, ap, sym, ◌∙◌, subst}
use mathlib.Core.List.{List, [], ◌∷◌}
use mathlib.Core.Bool.{Bool, true, false, ◌&&◌}
use lib.ListN.{length}
use Rattle.octets.specs.Walk.{whole}
use Rattle.state_keys.specs.Limits.{limits}
use Rattle.state_table.specs.Table.{sas_of}
use Rattle.state_table.specs.inner.Changes.{standing_count}
use Rattle.state.specs.declared.State.{State}
use Rattle.wire_frames.specs.Frame.{Frame, frame}
use Rattle.wire_frames.specs.declared.exchanges.Exchange.{Exchange}
use Rattle.wire_readers.specs.inner.Values.{is_whole}
use Rattle.wire_readers.specs.inner.Policies.{policies_in}
use Rattle.wire_readers.specs.inner.Bags.{bags_in}
use Rattle.rules_refusals.specs.Contents.{row_of, policies_of, bags_of}
use Rattle.rules_refusals.specs.Refusals.{one, number4, number5, number6, number7, applies, judged, on_frame}
use Rattle.check_payloads.specs.declared.PayloadFacts.{PayloadFacts}
use Rattle.check_payloads.specs.declared.deletion.Deletes.{Deletes}
use Rattle.check_payloads.specs.inner.Facts.{payload_facts_of as payloadFacts}
use Rattle.check_payloads.proofs.FoundLaws.{OfFrame, facts-of}
use Rattle.check_payloads.proofs.FrameLaws.{reads-to}
use Rattle.check_composition.specs.declared.PolicyFacts.{PolicyFacts}
use Rattle.check_composition.specs.inner.Facts.{policy_facts_of as policyFacts}
use Rattle.check_bagkeys.specs.declared.BagFacts.{BagFacts}
use Rattle.check_bagkeys.specs.inner.Facts.{bag_facts_of as bagFacts}
use Rattle.check_pairing.specs.inner.Names.{Name, Names}
use Rattle.check_pairing.proofs.NamesOf.{policy_names, policy-names, bag_names, bag-names}
use Rattle.check_judging.specs.declared.facts.Facts.{Facts}
use Rattle.check_judging.specs.inner.Facts.{at, frame_facts_of}
use Rattle.check_judging.specs.inner.Tests.{number4_by, number5_by, number6_by, number7_by}
use Rattle.check_judging.proofs.OrderLaws.{applying, passing, none-judged, stand}
use Rattle.check_judging.proofs.BodiesLaws.{one-gsa-at-most, one-kd-at-most}
use Rattle.check_judging.proofs.Number4Laws.{policies-are, bags-are, number4-is}
use Rattle.check_judging.proofs.Number5Laws.{number5-is, number7-is}
use Rattle.check_judging.proofs.Number6Laws.{number6-is}

module _ (state : State) (tick : ℕ) (lent s : List ℕ) (few : state.table.count ≤ limits.sas) (row : Exchange) (x : Facts)
    (w : x ≡ frame_facts_of state.profile row s) where
  -- whether fresh keys are read in the frame
  abbrev fresh : Bool
  fresh = state.profile && row.reads_fresh_keys

  abbrev b : PayloadFacts
  b = x.payloads

  abbrev p : PolicyFacts
  p = x.policies

  abbrev k : BagFacts
  k = x.bags

  abbrev d : Deletes
  d = b.deletion

  abbrev gsa_in : List ℕ
  gsa_in = at s b.gsa

  abbrev kd_in : List ℕ
  kd_in = at s b.kd

  -- what the walks found
  bodies-are : b ≡ payloadFacts s
  bodies-are = ap (λ (y : Facts). y.payloads) w

  policies-in : p ≡ policyFacts row.authentication (policies_in gsa_in)
  policies-in =
      ap (λ (y : Facts). y.policies) w
      ∙ ap (λ (y : PayloadFacts). policyFacts row.authentication (policies_in (at s y.gsa))) (sym bodies-are)

  bags-in : k ≡ bagFacts limits (bags_in fresh kd_in)
  bags-in =
      ap (λ (y : Facts). y.bags) w ∙ ap (λ (y : PayloadFacts). bagFacts limits (bags_in fresh (at s y.kd))) (sym bodies-are)

  pub its-payloads : (f : Frame) → frame state.profile s ≡ whole f [] → row_of f ≡ row
      → OfFrame (state.profile && row.reads_fresh_keys) s f x.payloads
  its-payloads f q e =
      subst (λ (r : Exchange). OfFrame (state.profile && r.reads_fresh_keys) s f b) e (facts-of state.profile s b bodies-are f q)

  -- the bodies of the frame that the octets are
  module _ (whole-so : is_whole (frame state.profile s) ≡ true)
      (v : (f : Frame) → frame state.profile s ≡ whole f [] → row_of f ≡ row) where
    pub own : OfFrame (state.profile && row.reads_fresh_keys) s (reads-to state.profile s whole-so).0 x.payloads
    own = let f = reads-to state.profile s whole-so in its-payloads f.0 f.1 (v f.0 f.1)

    pub own-names : ((l : List Name) × Names (at s x.payloads.gsa) l) × ((m : List Name) × Names (at s x.payloads.kd) m)
        × (state.table.count ≤ limits.sas)
    own-names = ((_, policy-names _ own.gsa_whole), (_, bag-names _ _ own.kd_whole), few)

  -- ---- each number of a frame that reads so
  module _ (f : Frame) (q : frame state.profile s ≡ whole f []) (e : row_of f ≡ row) where
    number4-at : (y : Bool) → y ≡ one (number4_by row x) → y ≡ applies (number4 f)
    number4-at y h = h ∙ number4-is fresh s f b (its-payloads f q e) row e p k policies-in bags-in

    module _ (none : false ≡ applies (number4 f)) where
      gsas : b.gsas ≤ 1
      gsas = one-gsa-at-most fresh s f b (its-payloads f q e) none

      kds : b.kds ≤ 1
      kds = one-kd-at-most fresh s f b (its-payloads f q e) none

      its-policies : p ≡ policyFacts (row_of f).authentication (policies_of f)
      its-policies = policies-are fresh s f b (its-payloads f q e) row e p k policies-in bags-in gsas

      its-bags : k ≡ bagFacts limits (bags_of f)
      its-bags = bags-are fresh s f b (its-payloads f q e) row e p k policies-in bags-in kds

      number5-at : (y : Bool) → y ≡ one (number5_by row (length lent) x) → y ≡ applies (number5 lent f)
      number5-at y h = h ∙ number5-is f row e d (its-payloads f q e).deletion p k its-policies its-bags lent

      number6-at : (y : Bool)
          → ((l m : List Name) → Names gsa_in l → Names kd_in m → y ≡ one (number6_by row x l m tick (sas_of state.table)))
          → y ≡ applies (number6 state tick f)
      number6-at y h =
          let is = its-payloads f q e in
          h (policy_names (policies_in gsa_in)) (bag_names (bags_in fresh kd_in)) (policy-names gsa_in is.gsa_whole)
          (bag-names fresh kd_in is.kd_whole)
          ∙ (λ i. one (number6_by row x (policy_names ((is.policies gsas).all i)) (bag_names ((is.bags kds).all i)) tick
          (sas_of state.table)))
          ∙ number6-is row f e k its-bags state tick

      number7-at : (y : Bool) (n : ℕ) → n ≡ standing_count limits tick state.table → y ≡ one (number7_by limits x n)
          → y ≡ applies (number7 limits state tick f)
      number7-at y n u h =
          h ∙ number7-is f row e d (its-payloads f q e).deletion p k its-policies its-bags state tick n
          (u ∙ stand limits tick state.table few)

  -- ---- the first that applies
  abbrev Judged : ℕ → Type 0
  Judged n = (f : Frame) → frame state.profile s ≡ whole f [] → row_of f ≡ row → n ≡ judged (on_frame limits state tick lent f)

  module _ (x4 : Bool) (h4 : x4 ≡ one (number4_by row x)) where
    pub at-4 : x4 ≡ true → Judged 4
    at-4 t = λ f q e. applying (number4 f) _ (sym t ∙ number4-at f q e x4 h4)

    module _ (n4 : x4 ≡ false) (x5 : Bool) (h5 : x5 ≡ one (number5_by row (length lent) x)) where
      none-4 : (f : Frame) → frame state.profile s ≡ whole f [] → row_of f ≡ row → false ≡ applies (number4 f)
      none-4 f q e = sym n4 ∙ number4-at f q e x4 h4

      pub at_5 : x5 ≡ true → Judged 5
      at_5 t = λ f q e.
          let n = none-4 f q e in
          passing (number4 f) _ 5 n (applying (number5 lent f) _ (sym t ∙ number5-at f q e n x5 h5))

      module _ (n5 : x5 ≡ false) (x6 : Bool)
          (h6 : (l m : List Name) → Names gsa_in l → Names kd_in m → x6 ≡ one (number6_by row x l m tick (sas_of state.table))) where
        pub at-6 : x6 ≡ true → Judged 6
        at-6 t = λ f q e.
            let n = none-4 f q e in
            passing (number4 f) _ 6 n (passing (number5 lent f) _ 6 (sym n5 ∙ number5-at f q e n x5 h5)
            (applying (number6 state tick f) _ (sym t ∙ number6-at f q e n x6 h6)))

        module _ (n6 : x6 ≡ false) (m : ℕ) (u : m ≡ standing_count limits tick state.table) (x7 : Bool)
            (h7 : x7 ≡ one (number7_by limits x m)) where
          after-6 : (r : ℕ) → ((f : Frame) → x7 ≡ applies (number7 limits state tick f) → r ≡ judged (number7 limits state tick f ∷ []))
              → Judged r
          after-6 r h = λ f q e.
              let n = none-4 f q e in
              passing (number4 f) _ r n (passing (number5 lent f) _ r (sym n5 ∙ number5-at f q e n x5 h5)
              (passing (number6 state tick f) _ r (sym n6 ∙ number6-at f q e n x6 h6) (h f (number7-at f q e n x7 m u h7))))

          pub at_7 : x7 ≡ true → Judged 7
          at_7 t = after-6 7 (λ f h. applying (number7 limits state tick f) [] (sym t ∙ h))

          pub at_none : x7 ≡ false → Judged 0
          at_none t = after-6 0 (λ f h. passing (number7 limits state tick f) [] 0 (sym t ∙ h) none-judged)
