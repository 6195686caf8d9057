use mathlib.Core.Path.{◌≡◌, ap, ◌∙◌, subst}
use mathlib.Core.Bool.{Bool, true, ◌&&◌}
use mathlib.Core.List.{List, []}
use Prim.Native.Nat.{ℕ}
use Rattle.octets.specs.Walk.{whole}
use Rattle.state_keys.specs.Limits.{limits}
use Rattle.wire_frames.specs.Frame.{Frame, frame}
use Rattle.wire_frames.specs.declared.exchanges.Exchange.{Exchange}
use Rattle.wire_readers.specs.inner.Values.{is_whole}
use Rattle.wire_readers.specs.inner.Policies.{policies_in}
use Rattle.wire_readers.specs.inner.Bags.{bags_in}
use Rattle.rules_refusals.specs.Contents.{row_of}
use Rattle.check_payloads.specs.inner.Facts.{payload_facts_of}
use Rattle.check_payloads.specs.declared.PayloadFacts.{PayloadFacts}
use Rattle.check_payloads.proofs.FrameLaws.{reads-to}
use Rattle.check_payloads.proofs.FoundLaws.{OfFrame, facts-of}
use Rattle.check_composition.specs.inner.Facts.{policy_facts_of as policyFacts}
use Rattle.check_bagkeys.specs.inner.Facts.{bag_facts_of as bagFacts}
use Rattle.check_bagkeys.specs.inner.Places.{member_in}
use Rattle.check_bagkeys.specs.declared.KdFacts.{KdFacts}
use Rattle.check_judging.specs.inner.Facts.{at}
use Rattle.check_judging.proofs.facts.facts_of.Goals as goal

-- the payloads of the frame that the octets are
own : (profile : Bool) (row : Exchange) (s : List ℕ) (w : is_whole (frame profile s) ≡ true)
    → ((f : Frame) → frame profile s ≡ whole f [] → row_of f ≡ row) → (r : PayloadFacts) → r ≡ payload_facts_of s
    → OfFrame (profile && row.reads_fresh_keys) s (reads-to profile s w).0 r
own profile row s w is r e =
    let f = reads-to profile s w in
    subst (λ (x : Exchange). OfFrame (profile && x.reads_fresh_keys) s f.0 r) (is f.0 f.1) (facts-of profile s r e f.0 f.1)

pub slice_bounds-policy_facts-count : goal.slice_bounds-policy_facts-count
slice_bounds-policy_facts-count c =
    let a = c.args in
    let p = c.payload_facts-payloads in
    (own a.profile a.row a.s.now c.requires.s_value c.requires.f_value p.result p.ensures).gsa_order

pub slice_bounds-policy_facts-start : goal.slice_bounds-policy_facts-start
slice_bounds-policy_facts-start c =
    let a = c.args in
    let p = c.payload_facts-payloads in
    (own a.profile a.row a.s.now c.requires.s_value c.requires.f_value p.result p.ensures).gsa_order

pub slice_bounds-policy_facts-end : goal.slice_bounds-policy_facts-end
slice_bounds-policy_facts-end c =
    let a = c.args in
    let p = c.payload_facts-payloads in
    (own a.profile a.row a.s.now c.requires.s_value c.requires.f_value p.result p.ensures).gsa_inside

pub policy_facts-policies-requires : goal.policy_facts-policies-requires
policy_facts-policies-requires c =
    let a = c.args in
    let p = c.payload_facts-payloads in
    (own a.profile a.row a.s.now c.requires.s_value c.requires.f_value p.result p.ensures).gsa_whole

pub slice_bounds-kd_facts-count : goal.slice_bounds-kd_facts-count
slice_bounds-kd_facts-count c =
    let a = c.args in
    let p = c.payload_facts-payloads in
    (own a.profile a.row a.s.now c.requires.s_value c.requires.f_value p.result p.ensures).kd_order

pub slice_bounds-kd_facts-start : goal.slice_bounds-kd_facts-start
slice_bounds-kd_facts-start c =
    let a = c.args in
    let p = c.payload_facts-payloads in
    (own a.profile a.row a.s.now c.requires.s_value c.requires.f_value p.result p.ensures).kd_order

pub slice_bounds-kd_facts-end : goal.slice_bounds-kd_facts-end
slice_bounds-kd_facts-end c =
    let a = c.args in
    let p = c.payload_facts-payloads in
    (own a.profile a.row a.s.now c.requires.s_value c.requires.f_value p.result p.ensures).kd_inside

pub kd_facts-requires : goal.kd_facts-requires
kd_facts-requires c =
    let a = c.args in
    let p = c.payload_facts-payloads in
    (own a.profile a.row a.s.now c.requires.s_value c.requires.f_value p.result p.ensures).kd_whole

pub returns : goal.returns
returns c =
    let a = c.args in
    let s = a.s.now in
    let e = c.payload_facts-payloads.ensures in
    let k = c.kd_facts.ensures in
    λ i. record {
      payloads = e i;
      policies = (c.policy_facts-policies.ensures ∙ ap (λ (y : PayloadFacts). policyFacts a.row.authentication
          (policies_in (at s y.gsa))) e) i;
      bags = (ap (λ (y : KdFacts). y.bags) k ∙ ap (λ (y : PayloadFacts). bagFacts limits
          (bags_in (a.profile && a.row.reads_fresh_keys) (at s y.kd))) e) i;
      member_bag = (ap (λ (y : KdFacts). y.member_bag) k ∙ ap (λ (y : PayloadFacts). member_in (at s y.kd)) e) i;
    }
