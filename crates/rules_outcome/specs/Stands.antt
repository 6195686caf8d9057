-- WHERE POLICIES, BAGS, KEYS AND SPIS STAND IN A FRAME: the vocabulary of the theorems in proofs/Stands.antt. They say that the lists used
-- to judge a frame leave none out and add none, "wherever the entries stand in the frame". No contract cites this file.
use Rattle.std.specs.Prelude.{ℕ, ◌≡◌, List}
use Rattle.wire_attributes.specs.Tree.{WrapKey}
use Rattle.wire_policies.specs.Policy.{Policy}
use Rattle.wire_bags.specs.Bag.{Bag, group_keys, member_keys, GroupKeyBag, MemberKeyBag}
use Rattle.wire_frames.specs.Delete.{Delete}
use Rattle.wire_frames.specs.Frame.{Frame, Payload, gsa, kd, delete}
use Rattle.rules_chains.specs.Chain.{In}

module _ (f : Frame) where
  -- policy `x` stands in a GSA of the frame
  pub record HasPolicy (x : Policy) : Type 0 where
    pub payload : Payload
    pub stands : In payload f.payloads
    pub policies : List Policy
    pub is-gsa : payload.content ≡ gsa policies
    pub policy : In x policies

  -- bag `x` stands in a KD of the frame
  pub record HasBag (x : Bag) : Type 0 where
    pub payload : Payload
    pub stands : In payload f.payloads
    pub bags : List Bag
    pub is-kd : payload.content ≡ kd bags
    pub bag : In x bags

  -- WRAP_KEY `e` stands in a Member Key Bag of the frame
  pub record HasWrapKey (e : WrapKey) : Type 0 where
    pub bag : MemberKeyBag
    pub stands : HasBag (member_keys bag)
    pub entry : In e bag.keys

  -- fresh tree key `e` stands in a Group Key Bag of the frame (document 02, T-11)
  pub record HasFreshKey (e : WrapKey) : Type 0 where
    pub bag : GroupKeyBag
    pub stands : HasBag (group_keys bag)
    pub entry : In e bag.fresh

  -- a D of the frame names SPI `x`
  pub record HasSpi (x : List ℕ) : Type 0 where
    pub payload : Payload
    pub stands : In payload f.payloads
    pub deletes : Delete
    pub is-delete : payload.content ≡ delete deletes
    pub spi : In x deletes.spis
