-- IN ANY ORDER (document 02, T-12: "each opened and checked on its own, in any order"; "The complete frame must be answered as if it had
-- come whole and opened .. and until then member and room are unchanged"). What theorem 3 says, in its words. No contract cites this file.
use Rattle.std.specs.Prelude.{ℕ, ◌-◌, ◌/◌, ◌<◌, ◌≤◌, ◌≡◌, Bool, true, false, cond, ◌⊎◌, eqb, length, take, drop, get_or}
use mathlib.Core.List.{List, [], ◌∷◌, flat_map}
use Rattle.octets.specs.Numbers.{oct}
use Rattle.ikev2_numbers.specs.Codes.{gsa_rekey, header_octets, major_version, minor_versions, most_octets, version_at}
use Rattle.state_keys.specs.Limits.{Limits}
use Rattle.lists.specs.Lists.{any}
use Rattle.wire_frames.specs.Header.{header_of, first_payload}
use Rattle.wire_frames.specs.Frame.{figure}
use Rattle.state.specs.declared.State.{State}
use Rattle.rules_refusals.specs.Refusals.{applies, number3}
use Rattle.gcm.specs.Opening.{put_at_start}
use Rattle.rfc5282.specs.Keys.{aes_key_of, salt_of}
use Rattle.rfc5282.specs.SealedFrame.{Choice, FitChoice, OpenedFrame}
use Rattle.rfc5282.specs.SealedFragment.{sealed_fragment}
use Rattle.fragments.specs.declared.Collection.{Collection}
use Rattle.fragments.specs.Collection.{Waiting, nothing, most_fragments, empty_collection, counted}
use Rattle.rules_outcome.specs.Outcome.{Outcome}
use Rattle.rules_sealed.specs.SealingKey.{sealing_part}
use Rattle.rules_sealed.specs.SealedOutcome.{sealed_number2}
use Rattle.rules_fragments.specs.FragmentOutcome.{FragmentAnswer, passed_over, waiting, complete, FragmentOutcome}

-- an opened GSA_REKEY frame of at most 16,384 octets
pub record RekeyFrame (frame : List ℕ) : Type 0 where
  pub opened : OpenedFrame frame
  pub most : length frame ≤ most_octets
  pub version : oct frame version_at / minor_versions ≡ major_version
  pub exchange : (header_of frame).exchange ≡ gsa_rekey

-- any cut of what follows its header into n pieces, 1 to 32. A piece may be empty
pub record CutOf (frame : List ℕ) (pieces : List (List ℕ)) : Type 0 where
  pub least : 1 ≤ length pieces
  pub most : length pieces ≤ most_fragments
  pub joined : flat_map (λ (p : List ℕ). p) pieces ≡ drop header_octets frame

-- a collection that is not of the same SPIs and Message ID
abbrev pub OfOther : List ℕ → Waiting → Type 0
OfOther frame w = (w ≡ nothing) ⊎ ((w.spis ≡ (header_of frame).spi) × (w.id ≡ (header_of frame).message_id) → ⊥)

-- one piece as it is handed in: its number, how the sender sealed it, and the room and the tick
pub record HandedIn : Type 0 where
  pub number : ℕ
  pub next : ℕ
  pub choice : Choice
  pub room : List ℕ
  pub tick : ℕ

-- fragment i is among them
abbrev pub is_there : ℕ → List HandedIn → Bool
is_there i l = any (λ (x : HandedIn). eqb i x.number) l

-- each of n was there once
abbrev pub EachThere : ℕ → List HandedIn → Type 0
EachThere n l = (i : ℕ) → 1 ≤ i → i ≤ n → is_there i l ≡ true

module _ (limits : Limits) (s : State) (frame : List ℕ) (pieces : List (List ℕ)) where
  -- the piece sealed as fragment i of n, with the frame's header, under the key of the member's live Rekey SA
  abbrev pub sealed_piece : HandedIn → List ℕ
  sealed_piece x =
      sealed_fragment (aes_key_of (sealing_part limits s)) (salt_of (sealing_part limits s)) (take header_octets frame) x.next x.number
      (length pieces) (get_or pieces (x.number - 1) []) x.choice

  -- sealed by any choice in at most 16,384 octets; fragment 1 names the frame's first payload, and the others any; a room of 16,384 octets
  -- at least; a tick at which 2 and 3 do not apply
  pub record FitHandedIn (x : HandedIn) : Type 0 where
    pub least : 1 ≤ x.number
    pub most : x.number ≤ length pieces
    pub choice-fit : FitChoice x.choice
    pub next_small : x.next < 256
    pub first_next : x.number ≡ 1 → x.next ≡ first_payload frame
    pub short : length (sealed_piece x) ≤ most_octets
    pub room-holds : most_octets ≤ length x.room
    pub not-two : applies (sealed_number2 limits s x.tick (header_of frame)) ≡ false
    pub not_three : applies (number3 s (header_of frame).exchange (header_of frame).message_id) ≡ false

  -- the pieces of a list, the last one first, were handed in, in any order and any of them any number of times: the first to the member `s`
  -- and the collection `c`, each other to what the one before it left
  pub data Handed (c : Collection) : List HandedIn → State → Collection → Type 0 where
    none : Handed c [] s c
    one_more : {l : List HandedIn} {m : State} {d : Collection} → Handed c l m d → (x : HandedIn) → FitHandedIn x →
        {a : FragmentAnswer} {next : State} {e : Collection} {after : List ℕ} →
        FragmentOutcome limits m x.tick d (sealed_piece x) x.room a next e after → Handed c (x ∷ l) next e

  -- until each was there: a copy is passed over and another waits; member and room are unchanged
  pub record StillWaiting (l : List HandedIn) (x : HandedIn) (a : FragmentAnswer) (next : State) (after : List ℕ) : Type 0 where
    pub answer : a ≡ cond (is_there x.number l) passed_over waiting
    pub member_is : next ≡ s
    pub room-is : after ≡ x.room

  -- with the last one: the answer and the member of the frame handed in whole, at that tick; the room starts with it
  pub record WholeAnswered (x : HandedIn) (a : FragmentAnswer) (next : State) (e : Collection) (after : List ℕ) : Type 0 where
    pub number : ℕ
    pub answer : a ≡ complete number (figure s.profile frame)
    pub outcome : Outcome limits s x.tick [] frame number next
    pub empties : e ≡ empty_collection
    pub room-is : after ≡ put_at_start frame x.room

  -- THEOREM 3: from any collection of another rekey, after any pieces among which one still lacks, one more
  abbrev pub InAnyOrder : Type 0
  InAnyOrder =
      (c : Collection) → OfOther frame (counted c) → (l : List HandedIn) (m : State) (d : Collection) → Handed c l m d →
      (EachThere (length pieces) l → ⊥) → (x : HandedIn) → FitHandedIn x → (a : FragmentAnswer) (next : State) (e : Collection)
      (after : List ℕ) → FragmentOutcome limits m x.tick d (sealed_piece x) x.room a next e after →
      ((EachThere (length pieces) (x ∷ l) → ⊥) → StillWaiting l x a next after)
      × (EachThere (length pieces) (x ∷ l) → WholeAnswered x a next e after)

  -- ---- that it speaks of something

  -- any pieces among which one lacks can be handed in, in any order: the member is then the one at the start
  abbrev pub AllFit : List HandedIn → Type 0
  AllFit [] = Unit {0}
  AllFit (x ∷ l) = FitHandedIn x × AllFit l

  abbrev pub CanBeHanded : Type 0
  CanBeHanded =
      (c : Collection) → OfOther frame (counted c) → (l : List HandedIn) → AllFit l → (EachThere (length pieces) l → ⊥) →
      (d : Collection) × Handed c l s d

  -- and one that brings the last then has an outcome, where the frame handed in whole has one at that tick
  abbrev pub LastAnswers : Type 0
  LastAnswers =
      (c : Collection) → OfOther frame (counted c) → (l : List HandedIn) (d : Collection) → Handed c l s d →
      (EachThere (length pieces) l → ⊥) → (x : HandedIn) → FitHandedIn x → EachThere (length pieces) (x ∷ l) → (n : ℕ) (next : State) →
      Outcome limits s x.tick [] frame n next →
      FragmentOutcome limits s x.tick d (sealed_piece x) x.room (complete n (figure s.profile frame)) next empty_collection
      (put_at_start frame x.room)
