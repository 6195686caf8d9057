-- DOCUMENT 02, T-09: "A controller in the field sent an entry whose Key ID equals its KWK ID. Any such WRAP_KEY, reached or not, now gives
-- number 6 in a registration."
use Prim.Native.Nat.{ℕ, ◌<◌}
use mathlib.Core.Path.{◌≡◌, refl, ap, subst}
use mathlib.Core.Bool.{Bool, true, ◌||◌}
use mathlib.Core.Logic.{◌↔◌}
use mathlib.Core.List.{List, []}
use native.Mathlib.Omega.{arith}
use borrow.Author.Tests.{eq-eqb, eqb-true}
use Rattle.state_keys.specs.Limits.{Limits}
use Rattle.wire_bags.specs.Bag.{MemberKeyBag}
use Rattle.wire_frames.specs.Frame.{Frame}
use Rattle.wire_frames.specs.Grammar.{IsFrame}
use Rattle.state.specs.declared.State.{State}
use Rattle.rules_refusals.specs.Contents.{member_bags, wrap_keys_of}
use Rattle.rules_refusals.specs.Number6.{under_itself, wraps_itself, number6_of_frame, number6_of_member}
use Rattle.rules_refusals.specs.Refusals.{one}
use Rattle.rules_refusals.proofs.OneOf.{one_at}
use Rattle.rules_chains.specs.Chain.{In}
use Rattle.rules_chains.proofs.Members.{in-member, member-in}
use Rattle.rules_outcome.specs.NamedKey.{Registration}
use Rattle.rules_outcome.specs.Outcome.{Outcome}
use Rattle.rules_outcome.specs.Meets.{Meets, lowest}
use Rattle.rules_outcome.specs.WrapsItself.{WrapsItself}
use Rattle.rules_outcome.proofs.Members.{flat_map-in, not-in-none}
use Rattle.rules_outcome.proofs.Bags.{entry-own}
use Rattle.rules_outcome.proofs.Meets.{meets-6, is-refused, accepted-is}
use Rattle.rules_outcome.proofs.Determined.{outcome-one}
use Rattle.rules_outcome.proofs.RunsLists.{passes-some, some-passes}
use Rattle.rules_outcome.proofs.NamedKey.{Passes, registers, in-band, over-sa}
use Rattle.rules_outcome.proofs.Demands.{passes-2-and-4}

module _ (f : Frame) where
  stands : (w : WrapsItself f) → In w.entry (wrap_keys_of f)
  stands w =
      let m = w.stands in flat_map-in (λ (b : MemberKeyBag). b.keys) w.entry (member_bags f) m.bag m.stands m.entry

  clause : WrapsItself f → wraps_itself f ≡ true
  unfolding wraps_itself
  clause w =
      let k = w.entry in
      passes-some under_itself (wrap_keys_of f) k (in-member k (wrap_keys_of f) (stands w)) (eq-eqb k.key_id k.kwk_id w.equals)

  found : wraps_itself f ≡ true → WrapsItself f
  unfolding wraps_itself
  found e =
      let p = some-passes under_itself (wrap_keys_of f) e in
      let k = p.one in
      record {
        entry = k;
        stands = entry-own f k (member-in k (wrap_keys_of f) p.stands);
        equals = eqb-true k.key_id k.kwk_id p.passes;
      }

  -- the clause applies to the frames that have such an entry, and to no other
  pub clause-exactly : (wraps_itself f ≡ true) ↔ WrapsItself f
  clause-exactly = (found, clause)

module _ (limits : Limits) (s : State) (now : ℕ) (lent octets : List ℕ) (f : Frame) (e : IsFrame s.profile octets f)
    (w : WrapsItself f) where
  abbrev Met : ℕ → Type 0
  Met n = Meets limits s now lent octets n

  -- "Any such WRAP_KEY, reached or not, now gives number 6": its condition is met, whatever the member, the lent key and the tick are
  pub meets-number6 : Met 6
  unfolding number6_of_frame
  meets-number6 =
      meets-6 limits s now lent octets f e
      (ap (λ (b : Bool). b || one (number6_of_member s now f)) (one_at 8 (number6_of_frame f) (clause f w)))

  -- so it is the answer where none lower is met, and the member stays
  module _ (low : (m : ℕ) → m < 6 → Met m → ⊥) where
    pub answered-number6 : (n : ℕ) (next : State) → Outcome limits s now lent octets n next → (n ≡ 6) × (next ≡ s)
    answered-number6 n next o =
        outcome-one limits s now lent octets n 6 next s o
        (is-refused limits s now lent octets 5 s (lowest meets-number6 low refl))

    -- "in a registration": in any other exchange a lower one is
    pub in-a-registration : Registration f
    in-a-registration = by (passes-2-and-4 limits s now lent octets f e (low 2 (omega arith)) (low 4 (omega arith)))
      where
        has-none : wrap_keys_of f ≡ [] → Registration f
        has-none q = absurd (not-in-none w.entry (subst (In w.entry) q (stands f w)))

        by : Passes limits s now lent f → Registration f
        by (registers g bare) = g
        by (in-band y q bare) = has-none q
        by (over-sa y q) = has-none q

  -- a frame that has one is never accepted
  pub never-accepted : (next : State) → Outcome limits s now lent octets 0 next → ⊥
  never-accepted next o = (accepted-is limits s now lent octets next o).none 6 meets-number6
