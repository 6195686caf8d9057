-- The theorems that docs/CLAIMS.md cites under "Document 02: T-14, order must not matter".
use Prim.Native.Nat.{ℕ}
use mathlib.Core.Bool.{Bool}
use mathlib.Core.Logic.{◌↔◌}
use mathlib.Core.List.{List}
use mathlib.Core.Path.{◌≡◌}
use lib.ListN.{length}
use Rattle.octets.specs.Compare.{same}
use Rattle.wire_frames.specs.Frame.{Frame}
use Rattle.wire_frames.specs.Grammar.{IsFrame}
use Rattle.state_keys.specs.Limits.{Limits}
use Rattle.lists.specs.Lists.{count}
use Rattle.state.specs.declared.State.{State}
use Rattle.rules_refusals.specs.Reordered.{AnyOrder, Reordered}
use Rattle.rules_outcome.specs.Outcome.{Outcome}
use Rattle.rules_order.specs.Rearranged.{Rearranged}
use Rattle.rules_order.proofs.RearrangedKept.{FrameToo}
use Rattle.gikev2.specs.declared.Member.{Member}
use Rattle.gikev2.specs.declared.call.Answer.{Answer}
use Rattle.gikev2.specs.Receive.{Receives}
use Rattle.rules_order.proofs.Order as ofOrder
use Rattle.rules_order.proofs.RearrangedKept as ofRearrangedKept
use Rattle.rules_order.proofs.Permuted as ofPermuted
use Rattle.gikev2_order.proofs.Received as ofReceived
pub use Rattle.rules_refusals.proofs.AnyExchange.{two-policies, wide-and-policy, two-bags, member-bag-and-bag, two-copies}
pub use Rattle.rules_refusals.proofs.AnyExchange.{two-fresh-keys, two-wrap-keys}
pub use Rattle.rules_order.proofs.AnyExchange.{policies-in-any-order}
pub use Rattle.rules_order.proofs.AnyExchangeOfBags.{bags-in-any-order, attributes-in-any-order}

pub order-kept : (limits : Limits) (s : State) (now : ℕ) (lent : List ℕ) {f g : Frame} → Reordered f g → (octets others : List ℕ) →
    IsFrame s.profile octets f → IsFrame s.profile others g → (n : ℕ) (next : State) →
    Outcome limits s now lent octets n next ↔ Outcome limits s now lent others n next
order-kept = ofOrder.order-kept

pub rearranged-reads : (profile : Bool) (octets others : List ℕ) (f : Frame) → IsFrame profile octets f → Rearranged octets others →
    FrameToo profile f others
rearranged-reads = ofRearrangedKept.rearranged-reads

pub rearranged-length : (octets others : List ℕ) → Rearranged octets others → length octets ≡ length others
rearranged-length = ofRearrangedKept.rearranged-length

pub rearranged-kept : (limits : Limits) (s : State) (now : ℕ) (lent octets others : List ℕ) (f : Frame)
    (i : IsFrame s.profile octets f) (r : Rearranged octets others) (n : ℕ) (next : State) →
    Outcome limits s now lent octets n next ↔ Outcome limits s now lent others n next
rearranged-kept = ofRearrangedKept.rearranged-kept

pub rearranged-one : (limits : Limits) (s : State) (now : ℕ) (lent octets others : List ℕ) (f : Frame)
    (i : IsFrame s.profile octets f) (r : Rearranged octets others) (n m : ℕ) (next after : State) →
    Outcome limits s now lent octets n next → Outcome limits s now lent others m after → (n ≡ m) × (next ≡ after)
rearranged-one = ofRearrangedKept.rearranged-one

pub any-order-exactly : (l m : List (List ℕ)) → ((o : List ℕ) → count (same o) l ≡ count (same o) m) ↔ AnyOrder ◌≡◌ l m
any-order-exactly = ofPermuted.any-order-exactly

pub received-rearranged : (m : Member) (now : ℕ) (lent octets others : List ℕ) (f : Frame) → IsFrame m.state.profile octets f →
    Rearranged octets others → (a b : Answer) (next after : Member) → Receives m now lent octets a next →
    Receives m now lent others b after → (a ≡ b) × (next ≡ after)
received-rearranged = ofReceived.received-rearranged
