-- Samples computed on the definitions: where octets break (document 02, T-06). Each row is a frame that is right but for its fault, and the
-- offset that number 1 carries. The rows of each kind of structure go by the faults of specs/Breaks.
use Rattle.std.specs.Prelude.{Ok}
use Rattle.wire_attributes.specs.Answers.{broken_at}
use Prim.Native.Nat.{ℕ, ◌+◌}
use mathlib.Core.Path.{◌≡◌, refl}
use mathlib.Core.List.{List, [], ◌∷◌, ◌++◌, map}
use mathlib.Core.Bool.{false}
use lib.ListN.{length, take, replicate}
use Rattle.octets.specs.Numbers.{number}
use Rattle.octets.specs.Walk.{chain, chain_up_to, many}
use Rattle.wire_attributes.specs.Tree.{values_of}
use Rattle.wire_attributes.specs.Layout.{attribute}
use Rattle.wire_policies.specs.Selector.{selector}
use Rattle.wire_policies.specs.Transform.{transform}
use Rattle.wire_policies.specs.Policy.{suite, sa_body, policy}
use Rattle.wire_bags.specs.Bag.{bag}
use Rattle.wire_frames.specs.Delete.{stretches}
use Rattle.wire_frames.specs.Frame.{body, payload, frame, frame_layout}

pub record Break : Type 0 where
  pub octets : List ℕ
  pub offset : ℕ

abbrev at : ℕ → List ℕ → Break
at o s = record { octets = s; offset = o }

abbrev AllAt : List Break → Type 0
AllAt l = map (λ (x : Break). frame_layout false x.octets) l ≡ map (λ (x : Break). broken_at x.offset) l

-- ---- octets with right lengths. The header: the kind of the first payload, the version, the length
abbrev header : ℕ → ℕ → ℕ → List ℕ
header k v n = 1 ∷ 2 ∷ 3 ∷ 4 ∷ 5 ∷ 6 ∷ 7 ∷ 8 ∷ 9 ∷ 10 ∷ 11 ∷ 12 ∷ 13 ∷ 14 ∷ 15 ∷ 16 ∷ k ∷ v ∷ 41 ∷ 8 ∷ 1 ∷ 0 ∷ 2 ∷ 3 ∷ 0 ∷ 0 ∷ 0 ∷ n ∷ []

abbrev framed : ℕ → List ℕ → List ℕ
framed k l = header k 32 (28 + length l) ++ l

-- a payload with the kind of the next; a frame of one GSA, and of one KD: what they hold starts at 32
abbrev pub held : ℕ → List ℕ → List ℕ
held n l = n ∷ 0 ∷ 0 ∷ (4 + length l) ∷ l

abbrev gsa : List ℕ → List ℕ
gsa l = framed 51 (held 0 l)

abbrev kd : List ℕ → List ℕ
kd l = framed 52 (held 0 l)

-- a group-wide policy or Member Key Bag; a policy or bag of ESP, of the Rekey SA, and of AH
abbrev pub wide : List ℕ → List ℕ
wide l = 0 ∷ 0 ∷ 0 ∷ (4 + length l) ∷ l

abbrev pub esp : List ℕ → List ℕ
esp l = 3 ∷ 4 ∷ 0 ∷ (8 + length l) ∷ 9 ∷ 8 ∷ 7 ∷ 6 ∷ l

abbrev pub sixteen : List ℕ
sixteen = 1 ∷ 2 ∷ 3 ∷ 4 ∷ 5 ∷ 6 ∷ 7 ∷ 8 ∷ 9 ∷ 10 ∷ 11 ∷ 12 ∷ 13 ∷ 14 ∷ 15 ∷ 16 ∷ []

abbrev pub rekey : List ℕ → List ℕ
rekey l = 6 ∷ 16 ∷ 0 ∷ (20 + length l) ∷ (sixteen ++ l)

abbrev pub ah : List ℕ → List ℕ
ah l = 2 ∷ 4 ∷ 0 ∷ (8 + length l) ∷ 9 ∷ 8 ∷ 7 ∷ 6 ∷ l

-- a selector of 16 octets: type and length
abbrev ts : ℕ → ℕ → List ℕ
ts t n = t ∷ 0 ∷ 0 ∷ n ∷ 0 ∷ 0 ∷ 0 ∷ 0 ∷ 239 ∷ 1 ∷ 2 ∷ 3 ∷ 239 ∷ 1 ∷ 2 ∷ 3 ∷ []

abbrev ip4 : List ℕ
ip4 = ts 7 16

abbrev ip6 : List ℕ
ip6 = 8 ∷ 0 ∷ 0 ∷ 40 ∷ replicate 36 0

-- a transform: 3 or 0, its type, its attributes
abbrev tf : ℕ → ℕ → List ℕ → List ℕ
tf m t l = m ∷ 0 ∷ 0 ∷ (8 + length l) ∷ t ∷ 0 ∷ 0 ∷ 20 ∷ l

-- a GSA with an ESP policy: its selectors stand at 40 and 56, its transforms start at 72
abbrev suited : List ℕ → List ℕ
suited l = gsa (esp (ip4 ++ (ip4 ++ l)))

-- ---- the header: its own fields; a payload that is missing, and octets left over, count for it
abbrev of_header : List Break
of_header =
    at 0 [] ∷
    at 0 (take 27 (header 0 32 28)) ∷
    at 0 (header 0 32 27) ∷
    at 0 (header 0 32 29) ∷
    at 0 (header 0 16 28) ∷
    at 0 (header 0 48 28) ∷
    at 0 (framed 41 []) ∷
    at 0 (framed 41 (held 51 [])) ∷
    at 0 (framed 0 (0 ∷ [])) ∷
    at 0 (framed 41 (held 0 [] ++ (0 ∷ 0 ∷ 0 ∷ 4 ∷ []))) ∷
    at 0 (framed 51 (held 0 (wide []) ++ (9 ∷ []))) ∷
    []

-- ---- payloads, the first and the second; of kinds that are read, that are not, and that are not known
abbrev of_payload : List Break
of_payload =
    -- cut short
    at 28 (framed 41 (0 ∷ [])) ∷
    at 28 (framed 99 (0 ∷ 0 ∷ 0 ∷ [])) ∷
    at 32 (framed 41 (held 51 [] ++ (0 ∷ 0 ∷ []))) ∷
    -- a length under 4, and past the frame
    at 28 (framed 51 (0 ∷ 0 ∷ 0 ∷ 3 ∷ [])) ∷
    at 32 (framed 99 (held 52 [] ++ (0 ∷ 0 ∷ 0 ∷ 0 ∷ []))) ∷
    at 28 (framed 52 (0 ∷ 0 ∷ 0 ∷ 5 ∷ [])) ∷
    at 32 (framed 41 (held 41 [] ++ (0 ∷ 0 ∷ 1 ∷ 4 ∷ []))) ∷
    -- the body of D: under 4 octets, more or fewer octets than size times count, an SPI size that is not ESP's
    at 28 (framed 42 (held 0 [])) ∷
    at 28 (framed 42 (held 0 (3 ∷ 4 ∷ 0 ∷ []))) ∷
    at 28 (framed 42 (held 0 (3 ∷ 4 ∷ 0 ∷ 1 ∷ 1 ∷ 2 ∷ 3 ∷ []))) ∷
    at 28 (framed 42 (held 0 (3 ∷ 4 ∷ 0 ∷ 0 ∷ 1 ∷ 2 ∷ 3 ∷ 4 ∷ []))) ∷
    at 32 (framed 41 (held 42 [] ++ held 0 (3 ∷ 2 ∷ 0 ∷ 2 ∷ 1 ∷ 2 ∷ 3 ∷ 4 ∷ []))) ∷
    []

-- ---- the head of a policy or a key bag, at 32, and behind one of 4 octets at 36
abbrev of_head : (List ℕ → List ℕ) → List Break
of_head f =
    -- cut short, before and in its SPI
    at 32 (f (0 ∷ [])) ∷
    at 32 (f (3 ∷ 4 ∷ 0 ∷ 8 ∷ 9 ∷ 8 ∷ 7 ∷ [])) ∷
    at 36 (f (wide [] ++ (0 ∷ 0 ∷ 0 ∷ []))) ∷
    -- a length that is too small, without and with an SPI, and one past the holder
    at 32 (f (0 ∷ 0 ∷ 0 ∷ 3 ∷ [])) ∷
    at 32 (f (3 ∷ 4 ∷ 0 ∷ 7 ∷ 9 ∷ 8 ∷ 7 ∷ 6 ∷ [])) ∷
    at 36 (f (wide [] ++ (0 ∷ 0 ∷ 0 ∷ 5 ∷ []))) ∷
    -- another first octet
    at 32 (f (1 ∷ 0 ∷ 0 ∷ 4 ∷ [])) ∷
    at 36 (f (wide [] ++ (4 ∷ 4 ∷ 0 ∷ 8 ∷ 9 ∷ 8 ∷ 7 ∷ 6 ∷ []))) ∷
    -- an SPI size that is not the protocol's: ESP, AH, the Rekey SA
    at 32 (f (3 ∷ 16 ∷ 0 ∷ 8 ∷ 9 ∷ 8 ∷ 7 ∷ 6 ∷ [])) ∷
    at 36 (f (wide [] ++ (2 ∷ 5 ∷ 0 ∷ 8 ∷ 9 ∷ 8 ∷ 7 ∷ 6 ∷ []))) ∷
    at 32 (f (6 ∷ 4 ∷ 0 ∷ 20 ∷ sixteen)) ∷
    []

-- ---- a policy that ends where a selector or a transform is due: the first, the second; the first, one behind a 3
abbrev of_missing : List Break
of_missing =
    at 32 (gsa (esp [])) ∷
    at 32 (gsa (esp ip4)) ∷
    at 32 (suited []) ∷
    at 32 (suited (tf 3 5 [])) ∷
    at 32 (suited (tf 3 1 [] ++ tf 3 5 [])) ∷
    at 36 (gsa (wide [] ++ esp [])) ∷
    at 32 (gsa (rekey (ip4 ++ ip4))) ∷
    []

-- ---- selectors: source and destination
abbrev of_selector : List Break
of_selector =
    -- cut short, of both types
    at 40 (gsa (esp (7 ∷ []))) ∷
    at 40 (gsa (esp (take 15 ip4))) ∷
    at 56 (gsa (esp (ip4 ++ (7 ∷ 0 ∷ 0 ∷ [])))) ∷
    at 56 (gsa (esp (ip4 ++ ts 8 40))) ∷
    -- another type
    at 40 (gsa (esp (ts 9 16 ++ (ip4 ++ tf 0 5 [])))) ∷
    at 56 (gsa (esp (ip4 ++ (ts 6 16 ++ tf 0 5 [])))) ∷
    -- a length that is not the type's
    at 40 (gsa (esp (ts 7 40 ++ (ip4 ++ tf 0 5 [])))) ∷
    at 56 (gsa (esp (ip4 ++ (ts 7 15 ++ tf 0 5 [])))) ∷
    []

-- ---- transforms: the first at 72, one behind 8 octets at 80
abbrev of_transform : List Break
of_transform =
    -- cut short
    at 72 (suited (0 ∷ [])) ∷
    at 72 (suited (0 ∷ 0 ∷ 0 ∷ 8 ∷ 5 ∷ 0 ∷ 0 ∷ [])) ∷
    at 80 (suited (tf 3 5 [] ++ (0 ∷ []))) ∷
    -- a length under 8, and past the policy
    at 72 (suited (0 ∷ 0 ∷ 0 ∷ 7 ∷ 5 ∷ 0 ∷ 0 ∷ 0 ∷ [])) ∷
    at 72 (suited (0 ∷ 0 ∷ 0 ∷ 9 ∷ 5 ∷ 0 ∷ 0 ∷ 0 ∷ [])) ∷
    at 80 (suited (tf 3 5 [] ++ (0 ∷ 0 ∷ 1 ∷ 8 ∷ 5 ∷ 0 ∷ 0 ∷ 0 ∷ []))) ∷
    -- neither 3 nor 0
    at 72 (suited (tf 1 5 [])) ∷
    at 80 (suited (tf 3 5 [] ++ tf 2 5 [])) ∷
    []

-- ---- attributes, in each structure that holds them
abbrev of_attribute : List Break
of_attribute =
    -- cut short: of a transform, of a policy behind its transforms, of a group-wide policy, of a Member and of a Group Key Bag
    at 80 (suited (tf 0 5 (128 ∷ []))) ∷
    at 80 (suited (tf 0 5 [] ++ (128 ∷ 1 ∷ 0 ∷ []))) ∷
    at 36 (gsa (wide (128 ∷ 1 ∷ []))) ∷
    at 36 (kd (wide (0 ∷ 3 ∷ 0 ∷ []))) ∷
    at 40 (kd (esp (0 ∷ []))) ∷
    -- a value that runs past the holder, of one that is skipped too
    at 80 (suited (tf 0 5 (0 ∷ 9 ∷ 0 ∷ 1 ∷ []))) ∷
    at 80 (suited (tf 0 5 [] ++ (0 ∷ 1 ∷ 0 ∷ 4 ∷ 0 ∷ 0 ∷ 0 ∷ []))) ∷
    at 36 (gsa (wide (0 ∷ 1 ∷ 0 ∷ 1 ∷ []))) ∷
    at 36 (kd (wide (0 ∷ 1 ∷ 0 ∷ 24 ∷ sixteen))) ∷
    at 40 (kd (esp (0 ∷ 2 ∷ 255 ∷ 255 ∷ 0 ∷ []))) ∷
    -- Key Length and the deactivation delay in long form; GSA_INITIAL_MESSAGE_ID, SA_KEY and WRAP_KEY in short form
    at 80 (suited (tf 0 1 (0 ∷ 14 ∷ 0 ∷ 2 ∷ 0 ∷ 128 ∷ []))) ∷
    at 36 (gsa (wide (0 ∷ 2 ∷ 0 ∷ 2 ∷ 0 ∷ 5 ∷ []))) ∷
    at 92 (gsa (rekey (ip4 ++ (ip4 ++ (tf 0 5 [] ++ (128 ∷ 2 ∷ 0 ∷ 7 ∷ [])))))) ∷
    at 40 (kd (esp (128 ∷ 1 ∷ 0 ∷ 0 ∷ []))) ∷
    at 36 (kd (wide (128 ∷ 1 ∷ 0 ∷ 0 ∷ []))) ∷
    -- GSA_INITIAL_MESSAGE_ID not of 4 octets; wrapped keys under 24 octets, and of no multiple of 8
    at 92 (gsa (rekey (ip4 ++ (ip4 ++ (tf 0 5 [] ++ (0 ∷ 2 ∷ 0 ∷ 2 ∷ 0 ∷ 7 ∷ [])))))) ∷
    at 52 (kd (rekey (0 ∷ 1 ∷ 0 ∷ 16 ∷ sixteen))) ∷
    at 36 (kd (wide (0 ∷ 1 ∷ 0 ∷ 28 ∷ (sixteen ++ take 12 sixteen)))) ∷
    -- behind another of 4 octets
    at 84 (suited (tf 0 1 (128 ∷ 14 ∷ 0 ∷ 128 ∷ 0 ∷ 14 ∷ 0 ∷ 0 ∷ []))) ∷
    at 40 (gsa (wide (128 ∷ 1 ∷ 0 ∷ 5 ∷ 128 ∷ []))) ∷
    at 40 (kd (wide (128 ∷ 2 ∷ 0 ∷ 0 ∷ 128 ∷ 1 ∷ 0 ∷ 0 ∷ []))) ∷
    []

-- ---- behind others of its kind and of other sizes: a payload of 5 octets, then one of kind k, whose first item of 4 octets stands at 37
abbrev behind : ℕ → List ℕ → List ℕ
behind k l = framed 41 (held k (9 ∷ []) ++ held 0 (wide [] ++ l))

abbrev of_behind : List Break
of_behind =
    -- a policy's head, one that ends where a selector is due, a bag's head
    at 41 (behind 51 (1 ∷ 0 ∷ 0 ∷ 4 ∷ [])) ∷
    at 41 (behind 51 (esp [])) ∷
    at 41 (behind 52 (1 ∷ 0 ∷ 0 ∷ 4 ∷ [])) ∷
    -- a selector behind one of 40 octets, the second attribute of the second transform, the second of a bag
    at 89 (behind 51 (esp (ip6 ++ (ts 9 16 ++ tf 0 5 [])))) ∷
    at 125 (behind 51 (esp (ip6 ++ (ip4 ++ (tf 3 5 [] ++ tf 0 1 (128 ∷ 14 ∷ 0 ∷ 128 ∷ 0 ∷ 14 ∷ 0 ∷ 0 ∷ [])))))) ∷
    at 53 (behind 52 (esp (128 ∷ 9 ∷ 0 ∷ 0 ∷ 0 ∷ 1 ∷ 0 ∷ 0 ∷ []))) ∷
    -- in AH, which is not supported: Key Length in long form, SA_KEY in short form
    at 89 (behind 51 (ah (ip4 ++ (ip4 ++ tf 0 1 (0 ∷ 14 ∷ 0 ∷ 0 ∷ []))))) ∷
    at 49 (behind 52 (ah (128 ∷ 1 ∷ 0 ∷ 0 ∷ []))) ∷
    []

-- ---- GSA_KEY_LIFETIME (document 02, T-07), in a policy of ESP, of AH and of the Rekey SA
abbrev of_ah : List ℕ → List ℕ
of_ah l = gsa (ah (ip4 ++ (ip4 ++ (tf 0 5 [] ++ l))))

abbrev of_rekey : List ℕ → List ℕ
of_rekey l = gsa (rekey (ip4 ++ (ip4 ++ (tf 0 5 [] ++ l))))

abbrev hour : List ℕ
hour = 0 ∷ 1 ∷ 0 ∷ 4 ∷ 0 ∷ 0 ∷ 14 ∷ 16 ∷ []

abbrev of_lifetime : List Break
of_lifetime =
    -- in short form
    at 80 (suited (tf 0 5 [] ++ (128 ∷ 1 ∷ 0 ∷ 4 ∷ []))) ∷
    at 80 (of_ah (128 ∷ 1 ∷ 0 ∷ 4 ∷ [])) ∷
    at 92 (of_rekey (128 ∷ 1 ∷ 0 ∷ 4 ∷ [])) ∷
    -- not of 4 octets: none, one fewer, one more, twice as many
    at 80 (suited (tf 0 5 [] ++ (0 ∷ 1 ∷ 0 ∷ 0 ∷ []))) ∷
    at 80 (of_ah (0 ∷ 1 ∷ 0 ∷ 3 ∷ 0 ∷ 14 ∷ 16 ∷ [])) ∷
    at 80 (suited (tf 0 5 [] ++ (0 ∷ 1 ∷ 0 ∷ 5 ∷ 0 ∷ 0 ∷ 0 ∷ 14 ∷ 16 ∷ []))) ∷
    at 92 (of_rekey (0 ∷ 1 ∷ 0 ∷ 8 ∷ 0 ∷ 0 ∷ 0 ∷ 0 ∷ 0 ∷ 0 ∷ 14 ∷ 16 ∷ [])) ∷
    -- behind one that is right; before GSA_INITIAL_MESSAGE_ID, where both are broken; in a policy behind a group-wide one
    at 88 (suited (tf 0 5 [] ++ (hour ++ (128 ∷ 1 ∷ 0 ∷ 4 ∷ [])))) ∷
    at 92 (of_rekey (128 ∷ 1 ∷ 0 ∷ 4 ∷ 128 ∷ 2 ∷ 0 ∷ 7 ∷ [])) ∷
    at 100 (of_rekey (hour ++ (128 ∷ 2 ∷ 0 ∷ 7 ∷ []))) ∷
    at 88 (gsa (wide (128 ∷ 1 ∷ 0 ∷ 4 ∷ []) ++ esp (ip4 ++ (ip4 ++ (tf 0 5 [] ++ (128 ∷ 1 ∷ 0 ∷ 4 ∷ [])))))) ∷
    []

-- ---- two breaks in one frame
abbrev of_two : List Break
of_two =
    -- own fields come first: of the header, a payload, a policy, a bag, a transform, though what they hold is broken too
    at 0 (header 52 16 36 ++ held 0 (1 ∷ 0 ∷ 0 ∷ 4 ∷ [])) ∷
    at 28 (framed 51 (0 ∷ 0 ∷ 0 ∷ 9 ∷ 1 ∷ 0 ∷ 0 ∷ 4 ∷ [])) ∷
    at 32 (gsa (3 ∷ 16 ∷ 0 ∷ 12 ∷ 9 ∷ 8 ∷ 7 ∷ 6 ∷ 9 ∷ 0 ∷ 0 ∷ 16 ∷ [])) ∷
    at 32 (kd (0 ∷ 0 ∷ 0 ∷ 6 ∷ 0 ∷ [])) ∷
    at 72 (suited (tf 1 1 (0 ∷ 14 ∷ 0 ∷ 0 ∷ []))) ∷
    -- then what it holds, before what follows: a policy and the next payload, a bag and the octets left over, an attribute and the next
    -- transform, an attribute and a transform that is missing, one and a payload that is missing
    at 32 (framed 51 (held 41 (1 ∷ 0 ∷ 0 ∷ 4 ∷ []) ++ (0 ∷ 0 ∷ 0 ∷ 3 ∷ []))) ∷
    at 32 (framed 52 (held 0 (1 ∷ 0 ∷ 0 ∷ 4 ∷ []) ++ (9 ∷ []))) ∷
    at 80 (suited (tf 3 1 (0 ∷ 14 ∷ 0 ∷ 0 ∷ []) ++ tf 1 5 [])) ∷
    at 80 (suited (tf 3 1 (0 ∷ 14 ∷ 0 ∷ 0 ∷ []))) ∷
    at 36 (framed 52 (held 41 (wide (0 ∷ [])))) ∷
    -- the earlier of two of one kind: payloads, policies, bags, selectors, transforms, attributes
    at 32 (framed 52 (held 51 (1 ∷ 0 ∷ 0 ∷ 4 ∷ []) ++ held 0 (1 ∷ 0 ∷ 0 ∷ 4 ∷ []))) ∷
    at 36 (gsa (wide (0 ∷ 2 ∷ 0 ∷ 0 ∷ []) ++ (1 ∷ 0 ∷ 0 ∷ 4 ∷ []))) ∷
    at 40 (kd (esp (0 ∷ 1 ∷ 0 ∷ 0 ∷ []) ++ (1 ∷ 0 ∷ 0 ∷ 4 ∷ []))) ∷
    at 40 (gsa (esp (ts 9 16 ++ (ts 9 16 ++ tf 1 5 [])))) ∷
    at 56 (gsa (esp (ip4 ++ (ts 9 16 ++ tf 1 5 [])))) ∷
    at 72 (suited (tf 1 5 [] ++ tf 1 5 [])) ∷
    at 36 (gsa (wide (0 ∷ 2 ∷ 0 ∷ 0 ∷ 0 ∷ 2 ∷ 0 ∷ 0 ∷ []))) ∷
    []

abbrev breaks : List Break
breaks =
    of_header
    ++ (of_payload ++ (of_head gsa ++
    (of_head kd ++ (of_missing ++ (of_selector ++ (of_transform ++ (of_attribute ++ (of_lifetime ++ (of_behind ++ of_two)))))))))

-- "Number 1 carries the offset of the innermost payload, policy, bag, selector, transform or attribute whose layout broke first, or 0 for
-- the header"
pub samples-break : AllAt breaks
unfolding frame_layout frame payload body policy suite sa_body selector transform bag attribute many chain chain_up_to number values_of stretches
samples-break = refl

-- over 16,384 octets, and right but for that: one payload in a frame of 16,385
pub too_long : frame_layout false (take 24 (header 41 32 0) ++ (0 ∷ 0 ∷ 64 ∷ 1 ∷ 0 ∷ 0 ∷ 63 ∷ 229 ∷ replicate 16353 0)) ≡ broken_at 0
unfolding frame_layout frame number
too_long = refl

-- an SA_KEY of 256 + n octets in a bag of ESP: at most 264 are wrapped, behind the two IDs
abbrev long_key : ℕ → List ℕ
long_key n =
    take 24 (header 52 32 0)
    ++ (0 ∷ 0 ∷ 1 ∷ (44 + n) ∷ 0 ∷ 0 ∷ 1 ∷ (16 + n) ∷ 3 ∷ 4 ∷ 1 ∷ (12 + n) ∷ 9 ∷ 8 ∷ 7 ∷ 6 ∷ 0 ∷ 1 ∷ 1 ∷ n ∷ replicate (256 + n) 0)

pub key-too-long : map (frame_layout false) (long_key 16 ∷ long_key 24 ∷ []) ≡ Ok tt ∷ broken_at 40 ∷ []
unfolding frame_layout frame payload body bag attribute many chain chain_up_to number values_of
key-too-long = refl

-- without its fault each of these would be whole: what the rows are made of
pub wholes-whole :
    map (frame_layout false)
    (header 0 32 28 ∷ framed 41 (held 42 [] ++ held 0 (3 ∷ 4 ∷ 0 ∷ 1 ∷ 1 ∷ 2 ∷ 3 ∷ 4 ∷ [])) ∷ gsa (wide (128 ∷ 2 ∷ 0 ∷ 5 ∷ [])) ∷
    gsa (wide [] ++ esp (ip4 ++ (ip4 ++ (tf 3 5 [] ++ tf 0 1 (128 ∷ 14 ∷ 0 ∷ 128 ∷ []))))) ∷
    gsa (rekey (ip4 ++ (ip4 ++ (tf 0 5 [] ++ (0 ∷ 2 ∷ 0 ∷ 4 ∷ 0 ∷ 0 ∷ 0 ∷ 7 ∷ []))))) ∷
    kd (esp (0 ∷ 1 ∷ 0 ∷ 24 ∷ (sixteen ++ take 8 sixteen)) ++ wide (0 ∷ 1 ∷ 0 ∷ 24 ∷ (sixteen ++ take 8 sixteen))) ∷
    behind 51 (esp (ip6 ++ (ip4 ++ tf 0 1 [])) ++ ah (ip4 ++ (ip4 ++ tf 0 1 []))) ∷ behind 52 (ah (128 ∷ 9 ∷ 0 ∷ 0 ∷ [])) ∷
    suited (tf 0 5 [] ++ (hour ++ hour)) ∷ of_ah hour ∷ of_rekey (hour ++ (0 ∷ 2 ∷ 0 ∷ 4 ∷ 0 ∷ 0 ∷ 0 ∷ 7 ∷ [])) ∷
    -- in a group-wide policy attribute 1 is another one, in any form
    gsa (wide (128 ∷ 1 ∷ 0 ∷ 4 ∷ 0 ∷ 1 ∷ 0 ∷ 3 ∷ 0 ∷ 14 ∷ 16 ∷ [])) ∷ [])
    ≡ replicate 12 (Ok tt)
unfolding frame_layout frame payload body policy suite sa_body selector transform bag attribute many chain chain_up_to number values_of stretches
wholes-whole = refl
