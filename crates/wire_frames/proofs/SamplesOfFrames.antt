-- Samples computed on the definitions: frames by their octets, and where a broken layout breaks.
use Rattle.wire_attributes.specs.declared.Broken.{Broken}
use Rattle.std.specs.Prelude.{Result, Ok}
use Rattle.wire_attributes.specs.Answers.{broken_at}
use Prim.Native.Nat.{ℕ}
use mathlib.Core.Path.{◌≡◌, refl}
use mathlib.Core.List.{List, [], ◌∷◌, ◌++◌, map}
use mathlib.Core.Bool.{true, false}
use Rattle.octets.specs.Numbers.{number}
use Rattle.octets.specs.Walk.{whole, chain, chain_up_to, many}
use Rattle.wire_attributes.specs.Tree.{values_of}
use Rattle.wire_attributes.specs.Layout.{attribute}
use Rattle.wire_policies.specs.Selector.{selector}
use Rattle.wire_policies.specs.Transform.{transform}
use Rattle.wire_policies.specs.Policy.{suite, sa_body, policy}
use Rattle.wire_bags.specs.Bag.{bag, member_keys}
use Rattle.wire_frames.specs.Delete.{stretches}
use Rattle.wire_frames.specs.Frame.{is_known, gsa, kd, delete, unread, body, payload, frame, frame_layout}
use Rattle.wire_frames.specs.Exchange.{registration, rekey, inband, other, exchange_of}

-- "Known: IDr 36, CERT 37, AUTH 39, N 41, D 42, GSA 51, KD 52"; others are not, also those that the RFCs name
known-kinds :
    (map is_known (36 ∷ 37 ∷ 39 ∷ 41 ∷ 42 ∷ 51 ∷ 52 ∷ []) ≡ true ∷ true ∷ true ∷ true ∷ true ∷ true ∷ true ∷ [])
    × (map is_known (33 ∷ 38 ∷ 40 ∷ 43 ∷ 46 ∷ 50 ∷ 53 ∷ []) ≡ false ∷ false ∷ false ∷ false ∷ false ∷ false ∷ false ∷ [])
    × (map is_known (0 ∷ 34 ∷ 35 ∷ 44 ∷ 45 ∷ 54 ∷ 255 ∷ []) ≡ false ∷ false ∷ false ∷ false ∷ false ∷ false ∷ false ∷ [])
known-kinds = (refl, refl, refl)

-- GSA_AUTH 39, GSA_REGISTRATION 40, GSA_REKEY 41, GSA_INBAND_REKEY 42 (RFC 9838, section 9.2)
exchange-types :
    map exchange_of (39 ∷ 40 ∷ 41 ∷ 42 ∷ 38 ∷ 43 ∷ 34 ∷ 0 ∷ []) ≡
    registration ∷ registration ∷ rekey ∷ inband ∷ other ∷ other ∷ other ∷ other ∷ []
exchange-types = refl

-- a frame of n octets whose first payload is of the kind k, with version octet v
abbrev header : ℕ → ℕ → ℕ → List ℕ
header k v n = 1 ∷ 2 ∷ 3 ∷ 4 ∷ 5 ∷ 6 ∷ 7 ∷ 8 ∷ 9 ∷ 10 ∷ 11 ∷ 12 ∷ 13 ∷ 14 ∷ 15 ∷ 16 ∷ k ∷ v ∷ 41 ∷ 8 ∷ 1 ∷ 0 ∷ 2 ∷ 3 ∷ 0 ∷ 0 ∷ 0 ∷ n ∷ []

abbrev framed : ℕ → ℕ → List ℕ → List ℕ
framed k n l = header k 32 n ++ l

pub record Sample : Type 0 where
  pub octets : List ℕ
  pub layout : Result (Unit {0}) Broken

abbrev is : List ℕ → Result (Unit {0}) Broken → Sample
is o l = record { octets = o; layout = l }

abbrev samples : List Sample
samples =
    -- a bare header is whole; a payload of which no octet is there, and octets left over, count for the header
    is (framed 0 28 []) (Ok tt) ∷
    is (framed 41 28 []) (broken_at 0) ∷
    is (framed 0 29 (0 ∷ [])) (broken_at 0) ∷
    is (framed 41 33 (0 ∷ 0 ∷ 0 ∷ 4 ∷ 0 ∷ [])) (broken_at 0) ∷
    is (framed 41 31 (0 ∷ 0 ∷ 0 ∷ [])) (broken_at 28) ∷
    -- the header: its length, the major version; the minor version is free
    is [] (broken_at 0) ∷
    is (framed 0 27 []) (broken_at 0) ∷
    is (framed 0 29 []) (broken_at 0) ∷
    is (header 0 16 28) (broken_at 0) ∷
    is (header 0 31 28) (broken_at 0) ∷
    is (header 0 47 28) (Ok tt) ∷
    is (header 0 48 28) (broken_at 0) ∷
    -- a payload's length counts its header: under 4, 4, past the frame; in one that is not read, too
    is (framed 41 32 (0 ∷ 0 ∷ 0 ∷ 3 ∷ [])) (broken_at 28) ∷
    is (framed 41 32 (0 ∷ 0 ∷ 0 ∷ 4 ∷ [])) (Ok tt) ∷
    is (framed 41 32 (0 ∷ 0 ∷ 0 ∷ 5 ∷ [])) (broken_at 28) ∷
    is (framed 99 33 (0 ∷ 0 ∷ 0 ∷ 5 ∷ 9 ∷ [])) (Ok tt) ∷
    is (framed 46 36 (53 ∷ 0 ∷ 0 ∷ 4 ∷ 0 ∷ 0 ∷ 0 ∷ 4 ∷ [])) (Ok tt) ∷
    -- empty GSA, empty KD, a group-wide policy and a Member bag of 4 octets
    is (framed 51 36 (52 ∷ 0 ∷ 0 ∷ 4 ∷ 0 ∷ 0 ∷ 0 ∷ 4 ∷ [])) (Ok tt) ∷
    is (framed 51 44 (52 ∷ 0 ∷ 0 ∷ 8 ∷ 0 ∷ 0 ∷ 0 ∷ 4 ∷ 0 ∷ 0 ∷ 0 ∷ 8 ∷ 0 ∷ 0 ∷ 0 ∷ 4 ∷ [])) (Ok tt) ∷
    -- Delete: 4 octets at least; SPIs that fill the body; of 4 octets for ESP, also where the count is 0
    is (framed 42 40 (0 ∷ 0 ∷ 0 ∷ 12 ∷ 3 ∷ 4 ∷ 0 ∷ 1 ∷ 1 ∷ 2 ∷ 3 ∷ 4 ∷ [])) (Ok tt) ∷
    is (framed 42 35 (0 ∷ 0 ∷ 0 ∷ 7 ∷ 3 ∷ 4 ∷ 0 ∷ [])) (broken_at 28) ∷
    is (framed 42 40 (0 ∷ 0 ∷ 0 ∷ 12 ∷ 3 ∷ 4 ∷ 0 ∷ 2 ∷ 1 ∷ 2 ∷ 3 ∷ 4 ∷ [])) (broken_at 28) ∷
    is (framed 42 40 (0 ∷ 0 ∷ 0 ∷ 12 ∷ 3 ∷ 2 ∷ 0 ∷ 2 ∷ 1 ∷ 2 ∷ 3 ∷ 4 ∷ [])) (broken_at 28) ∷
    is (framed 42 40 (0 ∷ 0 ∷ 0 ∷ 12 ∷ 2 ∷ 2 ∷ 0 ∷ 2 ∷ 1 ∷ 2 ∷ 3 ∷ 4 ∷ [])) (Ok tt) ∷
    is (framed 42 36 (0 ∷ 0 ∷ 0 ∷ 8 ∷ 3 ∷ 4 ∷ 0 ∷ 0 ∷ [])) (Ok tt) ∷
    is (framed 41 40 (42 ∷ 0 ∷ 0 ∷ 4 ∷ 0 ∷ 0 ∷ 0 ∷ 8 ∷ 3 ∷ 5 ∷ 0 ∷ 0 ∷ [])) (broken_at 32) ∷
    -- Delete of another protocol may have SPIs of no octets
    is (framed 42 36 (0 ∷ 0 ∷ 0 ∷ 8 ∷ 1 ∷ 0 ∷ 0 ∷ 9 ∷ [])) (Ok tt) ∷
    is (framed 42 36 (0 ∷ 0 ∷ 0 ∷ 8 ∷ 6 ∷ 16 ∷ 0 ∷ 0 ∷ [])) (Ok tt) ∷
    -- two breaks: the first is given, an inner one before a later payload, the header before all
    is (framed 52 44 (51 ∷ 0 ∷ 0 ∷ 8 ∷ 1 ∷ 0 ∷ 0 ∷ 4 ∷ 0 ∷ 0 ∷ 0 ∷ 8 ∷ 1 ∷ 0 ∷ 0 ∷ 4 ∷ [])) (broken_at 32) ∷
    is (framed 52 40 (41 ∷ 0 ∷ 0 ∷ 8 ∷ 0 ∷ 0 ∷ 0 ∷ 4 ∷ 0 ∷ 0 ∷ 0 ∷ 3 ∷ [])) (broken_at 36) ∷
    is (header 52 16 36 ++ (41 ∷ 0 ∷ 0 ∷ 8 ∷ 1 ∷ 0 ∷ 0 ∷ 4 ∷ [])) (broken_at 0) ∷
    []

samples-laid : map (λ (s : Sample). frame_layout false s.octets) samples ≡ map (λ (s : Sample). s.layout) samples
unfolding frame_layout frame payload body policy suite sa_body selector transform bag attribute many chain chain_up_to number values_of stretches
samples-laid = refl

-- a whole frame as a tree: the header's fields; payloads of a kind that is not known, the critical bit set and not set; D; an empty GSA;
-- KD with a Member bag
whole-frame : frame false
    (framed 99 70
    ((53 ∷ 128 ∷ 0 ∷ 6 ∷ 1 ∷ 2 ∷ []) ++ ((42 ∷ 127 ∷ 0 ∷ 4 ∷ []) ++ ((42 ∷ 255 ∷ 0 ∷ 12 ∷ 2 ∷ 2 ∷ 0 ∷ 2 ∷ 1 ∷ 2 ∷ 3 ∷ 4 ∷ []) ++
    ((51 ∷ 0 ∷ 0 ∷ 8 ∷ 1 ∷ 0 ∷ 0 ∷ 1 ∷ []) ++ (52 ∷ 0 ∷ 0 ∷ 4 ∷ 0 ∷ 0 ∷ 0 ∷ 8 ∷ 0 ∷ 0 ∷ 0 ∷ 4 ∷ []))))))
    ≡ whole (record {
      header = record {
        spi = 1 ∷ 2 ∷ 3 ∷ 4 ∷ 5 ∷ 6 ∷ 7 ∷ 8 ∷ 9 ∷ 10 ∷ 11 ∷ 12 ∷ 13 ∷ 14 ∷ 15 ∷ 16 ∷ [];
        exchange = 41;
        message_id = 16777731;
      };
      payloads =
          record { kind = 99; critical = true; content = unread } ∷ record { kind = 53; critical = false; content = unread } ∷
          record {
            kind = 42;
            critical = true;
            content = delete (record { protocol = 2; spis = (1 ∷ 2 ∷ []) ∷ (3 ∷ 4 ∷ []) ∷ [] });
          } ∷
          record { kind = 42; critical = false; content = delete (record { protocol = 1; spis = [] ∷ [] }) } ∷
          record { kind = 51; critical = false; content = gsa [] } ∷
          record { kind = 52; critical = false; content = kd (member_keys (record { keys = [] }) ∷ []) } ∷ [];
    }) []
unfolding frame payload body policy bag attribute many chain chain_up_to number values_of stretches
whole-frame = refl
