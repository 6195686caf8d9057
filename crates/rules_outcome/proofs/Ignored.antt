-- "Flags, minor version and RESERVED octets are ignored": two frames that are alike in all that is read have the same answer and the same
-- member afterwards. What is read of them does not name these octets.
use Prim.Native.Nat.{ℕ}
use mathlib.Core.Path.{◌≡◌, refl, subst}
use mathlib.Core.Bool.{Bool}
use mathlib.Core.List.{List}
use lib.ListN.{get_or}
use Rattle.octets.specs.Ignored.{all, high, top, ignored, none_of, Alike}
use Rattle.state_keys.specs.Limits.{Limits}
use Rattle.wire_policies.specs.Transform.{Transform}
use Rattle.wire_policies.specs.Policy.{group_wide, GroupWidePolicy}
use Rattle.wire_policies.specs.Grammar.{IsTransform, IsGroupWide, is_wide}
use Rattle.wire_policies.specs.Ignored.{transform_mask, policy_mask}
use Rattle.wire_bags.specs.Bag.{member_keys, MemberKeyBag}
use Rattle.wire_bags.specs.Grammar.{IsMemberKeyBag, is_member}
use Rattle.wire_bags.specs.Ignored.{bag_mask}
use Rattle.wire_frames.specs.Frame.{Frame, Payload, unread}
use Rattle.wire_frames.specs.Grammar.{IsPayload, IsFrame, is-unread}
use Rattle.wire_frames.specs.Ignored.{header_mask, content_mask, payload_mask, frame_mask}
use Rattle.wire_frames.proofs.Ignored.{ignored-octets}
use Rattle.wire_frames.proofs.FrameGrammar.{one-tree}
use Rattle.state.specs.declared.State.{State}
use Rattle.rules_outcome.specs.Outcome.{Outcome, no-layout, by-tree}

module _ (limits : Limits) (s : State) (now : ℕ) (lent octets other : List ℕ) (f : Frame) (i : IsFrame s.profile octets f)
    (a : Alike (frame_mask s.profile octets f i) octets other) where
  pub ignored-outcome : (n : ℕ) (next : State) → Outcome limits s now lent octets n next → Outcome limits s now lent other n next
  ignored-outcome n next (no-layout h) = absurd (h f i)
  ignored-outcome n next (by-tree g e j) =
      by-tree g (subst (IsFrame s.profile other) (one-tree s.profile octets f g i e)
      (ignored-octets s.profile octets other f i a)) j

-- of what nothing is read, and of what a part
pub record NotRead : Type 0 where
  pub flags : get_or header_mask 19 all ≡ ignored
  pub minor-version : get_or header_mask 17 all ≡ high
  pub under-critical : (fresh : Bool) (o : List ℕ) (x : Payload) (k next : ℕ) (p : IsPayload fresh k o x next) →
      get_or (payload_mask fresh o x k next p) 1 all ≡ top
  pub body-not-read : (fresh : Bool) (k : ℕ) (o : List ℕ) (a : k ≡ 51 → ⊥) (b : k ≡ 52 → ⊥) (c : k ≡ 42 → ⊥) →
      content_mask fresh k o unread (is-unread a b c) ≡ none_of o
  pub transform-second : (o : List ℕ) (x : Transform) (more next : Bool) (t : IsTransform more o x next) →
      get_or (transform_mask o x more next t) 1 all ≡ ignored
  pub transform-sixth : (o : List ℕ) (x : Transform) (more next : Bool) (t : IsTransform more o x next) →
      get_or (transform_mask o x more next t) 5 all ≡ ignored
  pub group-wide-second : (o : List ℕ) (x : GroupWidePolicy) (w : IsGroupWide o x) →
      get_or (policy_mask o (group_wide x) (is_wide w)) 1 all ≡ ignored
  pub member-bag-second : (fresh : Bool) (o : List ℕ) (x : MemberKeyBag) (b : IsMemberKeyBag o x) →
      get_or (bag_mask fresh o (member_keys x) (is_member b)) 1 all ≡ ignored

pub not-read : NotRead
not-read =
    record {
      flags = refl;
      minor-version = refl;
      under-critical = λ fresh o x k next p. refl;
      body-not-read = λ fresh k o a b c. refl;
      transform-second = λ o x more next t. refl;
      transform-sixth = λ o x more next t. refl;
      group-wide-second = λ o x w. refl;
      member-bag-second = λ fresh o x b. refl;
    }
