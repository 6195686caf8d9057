-- The bodies of the GSA and the KD of a frame that numbers 2 to 7 let pass: what the readers of them ask for.
use native.Mathlib.Omega.{arith}
use Prim.Native.Nat.{ℕ, ◌≤◌}
use mathlib.Core.Path.{◌≡◌, refl, ap, sym, subst, ◌∙◌}
use mathlib.Core.Bool.{Bool}
use mathlib.Core.List.{List, flat_map}
use lib.ListN.{length}
use Rattle.wire_attributes.specs.declared.tables.Place.TheVariants.{MemberBag}
use Rattle.wire_attributes.specs.declared.tables.Meaning.TheVariants as meaning
use Rattle.wire_bags.specs.Bag.{Bag}
use Rattle.wire_frames.specs.Frame.{Frame}
use Rattle.wire_frames.specs.Exchange.{reads_fresh}
use Rattle.wire_frames.specs.declared.exchanges.Exchange.{Exchange}
use Rattle.wire_frames.proofs.FrameGrammar.{read-frame}
use Rattle.state.specs.declared.State.{State}
use Rattle.wire_readers.specs.inner.Policies.{policies_in}
use Rattle.check_payloads.specs.declared.PayloadFacts.{PayloadFacts}
use Rattle.check_payloads.proofs.FoundLaws.{OfFrame, HoldsPolicies, HoldsBags, facts-of}
use Rattle.check_composition.specs.inner.Facts.{policy_facts_of as policyFacts}
use Rattle.check_bagkeys.specs.inner.Places.{member_in}
use Rattle.check_judging.specs.declared.facts.Facts.{Facts}
use Rattle.check_judging.specs.inner.Facts.{at}
use Rattle.check_judging.proofs.MemberLaws.{member_is}
use Rattle.rules_refusals.specs.Contents.{row_of, member_bag_of, policies_of, wrap_keys_of}
use Rattle.rules_outcome.proofs.FreshRead.{no-fresh, fresh-in-rekey-bags}
use Rattle.unwrap_tree.specs.inner.Reached.{wrap_keys_among}
use Rattle.unwrap_tree.specs.inner.Entries.{HoldsEntries}
use Rattle.receive.specs.inner.Passing.{Passed, Bodied, Bagged}
use Rattle.receive.proofs.ClauseLaws.{one-gsa, one-kd, one-member-bag}

-- the facts, and where the bodies stand
module _ (m : State) (now : ℕ) (lent s : List ℕ) (x : Facts) (f : Frame) (p : Passed m now lent s x f) where
  abbrev reads : Bool
  reads = reads_fresh m.profile f.header.exchange

  pub of-frame : OfFrame reads s f x.payloads
  of-frame = facts-of m.profile s x.payloads (ap (λ (y : Facts). y.payloads) p.facts) f p.whole_is

  pub holds-policies : HoldsPolicies (at s x.payloads.gsa) f
  holds-policies = of-frame.policies (omega (arith, of-frame.gsas, one-gsa m now lent f p.clauses))

  pub holds-bags : HoldsBags reads (at s x.payloads.kd) f
  holds-bags = of-frame.bags (omega (arith, of-frame.kds, one-kd m now lent f p.clauses))

  pub policies-are : x.policies ≡ policyFacts (row_of f).authentication (policies_of f)
  policies-are =
      let e = ap (λ (y : Facts). y.payloads) p.facts in
      ap (λ (y : Facts). y.policies) p.facts
      ∙ ap (λ (y : PayloadFacts). policyFacts (row_of f).authentication (policies_in (at s y.gsa))) (sym e)
      ∙ ap (policyFacts (row_of f).authentication) holds-policies.all

  -- its WRAP_KEYs stand where the facts say, since number 4 leaves one Member Key Bag at most
  bag-stands : x.member_bag ≡ member_in (at s x.payloads.kd)
  bag-stands =
      let e = ap (λ (y : Facts). y.payloads) p.facts in
      ap (λ (y : Facts). y.member_bag) p.facts ∙ ap (λ (y : PayloadFacts). member_in (at s y.kd)) (sym e)

  holds-entries : HoldsEntries meaning.WrapKey MemberBag (at s x.payloads.kd) x.member_bag (wrap_keys_of f)
  holds-entries =
      let one = one-member-bag m now lent f p.clauses in
      let few = subst (λ (l : List Bag). length (flat_map member_bag_of l) ≤ 1) (sym holds-bags.all) one in
      let i = member_is reads (at s x.payloads.kd) x.member_bag bag-stands holds-bags.held few in
      record {
        order = i.order;
        inside = i.inside;
        held = i.held;
        keys = ap wrap_keys_among (sym holds-bags.all) ∙ i.keys;
        wrapped = λ n. refl;
      }

  pub bodied : Bodied m now lent s x (at s x.payloads.gsa) (at s x.payloads.kd) f
  bodied =
      record {
        passed = p;
        bagged = record {
          clauses = p.clauses;
          row = refl;
          policies = sym holds-policies.all;
          bags = sym holds-bags.all;
          laid = holds-bags.held;
          unread = no-fresh m.profile s f (read-frame m.profile s f _ p.whole_is);
          placed = fresh-in-rekey-bags m.profile s f (read-frame m.profile s f _ p.whole_is);
          entries = holds-entries;
        };
      }

module _ {m : State} {now : ℕ} {lent s : List ℕ} {x : Facts} {g k : List ℕ} {f : Frame}
    (b : Bodied m now lent s x g k f) where
  -- the same by the row that was read
  pub bagged-by : (e : Exchange) → row_of f ≡ e → Bagged e m now lent g k x.member_bag f
  bagged-by e r = subst (λ (y : Exchange). Bagged y m now lent g k x.member_bag f) r b.bagged
