-- Samples computed on the definitions: where private attribute 16385 is read (document 02, T-11). Each row is a frame of one KD, read for a
-- member with the profile or without it.
use Rattle.wire_attributes.specs.declared.Broken.{Broken}
use Rattle.std.specs.Prelude.{Result, Ok}
use Rattle.wire_attributes.specs.Answers.{broken_at}
use Prim.Native.Nat.{ℕ, ◌+◌}
use mathlib.Core.Path.{◌≡◌, refl}
use mathlib.Core.List.{List, [], ◌∷◌, ◌++◌, map}
use mathlib.Core.Bool.{Bool, true, false}
use lib.ListN.{length, take}
use Rattle.octets.specs.Numbers.{number}
use Rattle.octets.specs.Walk.{whole, chain, chain_up_to, many}
use Rattle.wire_attributes.specs.Tree.{SaKey, WrapKey, values_of}
use Rattle.wire_attributes.specs.Layout.{attribute}
use Rattle.wire_bags.specs.Bag.{Bag, group_keys, bag, bags}
use Rattle.wire_frames.specs.Frame.{body, payload, frame, frame_layout}
use Rattle.wire_frames.proofs.AllBreaks.{held, wide, esp, sixteen, rekey, ah}

pub record Row : Type 0 where
  pub profile : Bool
  pub octets : List ℕ
  pub layout : Result (Unit {0}) Broken

-- with the profile, and without it
abbrev on : Result (Unit {0}) Broken → List ℕ → Row
on l s = record { profile = true; octets = s; layout = l }

abbrev off : Result (Unit {0}) Broken → List ℕ → Row
off l s = record { profile = false; octets = s; layout = l }

-- a frame of the exchange type `x` with the key bags `l`, which start at 32; the attributes of the Rekey SA's bag `rekey` start at 52
abbrev kd_of : ℕ → List ℕ → List ℕ
kd_of x l =
    1 ∷ 2 ∷ 3 ∷ 4 ∷ 5 ∷ 6 ∷ 7 ∷ 8 ∷ 9 ∷ 10 ∷ 11 ∷ 12 ∷ 13 ∷ 14 ∷ 15 ∷ 16 ∷ 52 ∷ 32 ∷ x ∷ 8 ∷ 1 ∷ 0 ∷ 2 ∷ 3 ∷ 0 ∷ 0 ∷ 0
    ∷ (32 + length l) ∷ held 0 l

-- attribute 16385 as it must be: Key ID 5, KWK ID 7, 16 wrapped octets; an SA_KEY of the same octets; 16385 in short form, of 16 and of 28
-- octets
abbrev value : List ℕ
value = 0 ∷ 0 ∷ 0 ∷ 5 ∷ 0 ∷ 0 ∷ 0 ∷ 7 ∷ sixteen

abbrev entry : List ℕ
entry = 64 ∷ 1 ∷ 0 ∷ 24 ∷ value

abbrev copy : List ℕ
copy = 0 ∷ 1 ∷ 0 ∷ 24 ∷ value

abbrev short : List ℕ
short = 192 ∷ 1 ∷ 0 ∷ 0 ∷ []

abbrev few : List ℕ
few = 64 ∷ 1 ∷ 0 ∷ 16 ∷ sixteen

abbrev uneven : List ℕ
uneven = 64 ∷ 1 ∷ 0 ∷ 28 ∷ (sixteen ++ take 12 sixteen)

abbrev rows : List Row
rows =
    -- read in the Rekey SA's bag of a GSA_REKEY, with the profile: "with WRAP_KEY's layout"
    on (Ok tt) (kd_of 41 (rekey entry)) ∷
    on (Ok tt) (kd_of 41 (rekey (copy ++ (entry ++ entry)))) ∷
    on (broken_at 52) (kd_of 41 (rekey short)) ∷
    on (broken_at 52) (kd_of 41 (rekey few)) ∷
    on (broken_at 52) (kd_of 41 (rekey uneven)) ∷
    on (broken_at 80) (kd_of 41 (rekey (copy ++ short))) ∷
    on (broken_at 80) (kd_of 41 (rekey (entry ++ few))) ∷
    -- of this number alone
    on (Ok tt) (kd_of 41 (rekey (192 ∷ 0 ∷ 0 ∷ 0 ∷ 192 ∷ 2 ∷ 0 ∷ 0 ∷ 128 ∷ 0 ∷ 0 ∷ 0 ∷ []))) ∷
    -- "with the profile off, the attribute is skipped"
    off (Ok tt) (kd_of 41 (rekey short)) ∷
    off (Ok tt) (kd_of 41 (rekey few)) ∷
    off (Ok tt) (kd_of 41 (rekey (copy ++ uneven))) ∷
    -- "Elsewhere .. the attribute is skipped": in a registration, in GSA_INBAND_REKEY, in another exchange
    on (Ok tt) (kd_of 39 (rekey short)) ∷
    on (Ok tt) (kd_of 40 (rekey few)) ∷
    on (Ok tt) (kd_of 42 (rekey uneven)) ∷
    on (Ok tt) (kd_of 34 (rekey short)) ∷
    -- in the bags of ESP and AH, and in a Member Key Bag
    on (Ok tt) (kd_of 41 (esp short)) ∷
    on (Ok tt) (kd_of 41 (ah few)) ∷
    on (Ok tt) (kd_of 41 (wide uneven)) ∷
    -- what breaks any attribute breaks it everywhere
    off (broken_at 52) (kd_of 41 (rekey (64 ∷ 1 ∷ 0 ∷ 17 ∷ sixteen))) ∷
    on (broken_at 40) (kd_of 39 (esp (64 ∷ 1 ∷ 0 ∷ []))) ∷
    []

pub rows-laid : map (λ (r : Row). frame_layout r.profile r.octets) rows ≡ map (λ (r : Row). r.layout) rows
unfolding frame_layout frame payload body bag attribute many chain chain_up_to number values_of
rows-laid = refl

-- the tree: SA_KEYs and fresh keys apart, each in its order; where fresh keys are not read a bag has none
abbrev one : SaKey
one = record { key_id = 5; kwk_id = 7; wrapped = sixteen }

abbrev fresh : WrapKey
fresh = record { key_id = 5; kwk_id = 7; wrapped = sixteen }

abbrev rekey_bag : List SaKey → List WrapKey → Bag
rekey_bag k l = group_keys (record { protocol = 6; spi = sixteen; keys = k; fresh = l })

abbrev esp_bag : List SaKey → Bag
esp_bag k = group_keys (record { protocol = 3; spi = 9 ∷ 8 ∷ 7 ∷ 6 ∷ []; keys = k; fresh = [] })

pub trees :
    (bags true 0 (rekey (entry ++ (copy ++ entry))) ≡ whole (rekey_bag (one ∷ []) (fresh ∷ fresh ∷ []) ∷ []) [])
    × (bags false 0 (rekey (entry ++ (copy ++ entry))) ≡ whole (rekey_bag (one ∷ []) [] ∷ []) [])
    × (bags true 0 (esp (entry ++ copy)) ≡ whole (esp_bag (one ∷ []) ∷ []) [])
unfolding bag attribute many chain chain_up_to number values_of
trees = (refl, refl, refl)
