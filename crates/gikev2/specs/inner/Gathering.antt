-- How far a fragment has come in the code. Inner.
use Rattle.std.specs.Prelude.{ℕ, ◌≤◌, ◌≡◌, true, false, List, [], length}
use Rattle.ikev2_numbers.specs.Codes.{most_octets}
use Rattle.state_keys.specs.Limits.{limits}
use Rattle.state_keys.specs.Algorithms.{is_encryption_size}
use Rattle.state_keys.specs.declared.kinds.EncryptionKey.{EncryptionKey}
use Rattle.wire_frames.specs.Header.{header_of}
use Rattle.wire_frames.specs.Frame.{figure}
use Rattle.rules_refusals.specs.Refusals.{applies, number3}
use Rattle.gcm.specs.Opening.{put_at_start}
use Rattle.rfc5282.specs.OuterFragment.{outer_fragment, total_in}
use Rattle.rfc5282.specs.Number10.{OpensFragmentInto}
use Rattle.sealing.specs.Pieces.{PieceOf, PieceInto}
use Rattle.fragments.specs.declared.Names.{Names}
use Rattle.fragments.specs.declared.Collection.{Collection}
use Rattle.fragments.specs.Collection.{Waiting, most_fragments, frame_size, collection_of, empty_collection, counted}
use Rattle.fragments.specs.Gathering.{whole}
use Rattle.fragments.specs.inner.Places.{Taking}
use Rattle.rules_outcome.specs.Outcome.{Outcome}
use Rattle.rules_sealed.specs.SealingKey.{sealing_part, encryption_octets_of}
use Rattle.rules_sealed.specs.SealedOutcome.{sealed_number2}
use Rattle.rules_fragments.specs.FragmentOutcome.{names_in}
use Rattle.gikev2.specs.declared.Member.{Member}
use Rattle.gikev2.specs.declared.call.Answer.{Answer}
use Rattle.gikev2.specs.declared.fragment.FragmentAnswer.TheVariants.{Refused, Complete}
use Rattle.gikev2.specs.declared.fragment.Gathered.{Gathered}
use Rattle.gikev2.specs.Receive.{number_of, figure_of}
use Rattle.gikev2.specs.inner.Sealing.{IsSealingKey}

-- a fragment refused: member and collection are as they were
abbrev pub refused_by : Answer → Member → Collection → Gathered
refused_by a m c = record { answer = Refused a; member = m; collection = c }

-- numbers 1 and 2 let the fragment pass
pub record PassedOutside (m : Member) (now : ℕ) (octets : List ℕ) : Type 0 where
  pub fragment : outer_fragment octets ≡ true
  pub not-2 : applies (sealed_number2 limits m.state now (header_of octets)) ≡ false

-- number 10 lets it pass: under the live Rekey SA's key it opens to a piece of p octets, and the room holds 16,384
pub record PassedOpening (m : Member) (now : ℕ) (key : EncryptionKey) (octets room : List ℕ) (p : ℕ) : Type 0 where
  pub outside : PassedOutside m now octets
  pub key-is : IsSealingKey m.state.table key
  pub piece : PieceInto (encryption_octets_of key) octets room p

-- the fragment has a piece of p octets under the key, and that goes beside n others
pub record ToWrite (c : Collection) (f : Names) (key : EncryptionKey) (octets : List ℕ) (p n : ℕ) : Type 0 where
  pub sized : is_encryption_size key.count ≡ true
  pub of : PieceOf (encryption_octets_of key) octets p
  pub counts : 1 ≤ f.total
  pub taking : Taking (counted c) f of.piece n

-- numbers 3 and 7 let it pass too, and it is not passed over
pub record ToGather (m : Member) (c : Collection) (now : ℕ) (f : Names) (key : EncryptionKey) (octets room : List ℕ) (p n : ℕ)
    : Type 0 where
  pub outside : PassedOutside m now octets
  pub names : f ≡ names_in octets
  pub write : ToWrite c f key octets p n
  pub opens : OpensFragmentInto (sealing_part limits m.state) octets room write.of.piece
  pub not-3 : applies (number3 m.state (header_of octets).exchange (header_of octets).message_id) ≡ false
  pub few : total_in octets ≤ most_fragments

-- what waits is complete, and the room holds the frame that it makes
pub record ToComplete (w : Waiting) (c : Collection) (room : List ℕ) : Type 0 where
  pub is : c ≡ collection_of w
  pub few : length w.kept ≤ most_fragments
  pub small : frame_size w.kept ≤ most_octets
  pub holds : most_octets ≤ length room

-- the whole frame was received: answer, member, collection and room afterwards
pub record ReceivedWhole (m : Member) (now : ℕ) (w : Waiting) (room : List ℕ) (g : Gathered) (after : List ℕ) : Type 0 where
  pub answer : Answer
  pub says : g.answer ≡ Complete answer
  pub outcome : Outcome limits m.state now [] (whole w) (number_of answer) g.member.state
  pub offset : figure_of answer ≡ figure m.state.profile (whole w)
  pub emptied : g.collection ≡ empty_collection
  pub room-is : after ≡ put_at_start (whole w) room
