-- REARRANGED IS NOT TOO NARROW (document 02, T-14), for what a KD holds: whatever bags are put in another order, or attributes of a bag,
-- the frame so made is the first one rearranged.
use Prim.Native.Nat.{ℕ, ◌+◌}
use mathlib.Core.Path.{◌≡◌, refl}
use mathlib.Core.Bool.{Bool}
use mathlib.Core.List.{List, [], ◌∷◌, ◌++◌}
use lib.ListN.{length}
use Rattle.octets.specs.Numbers.{oct}
use Rattle.octets.specs.Walk.{Spans}
use Rattle.wire_attributes.specs.Attribute.{Attribute}
use Rattle.wire_attributes.specs.Grammar.{IsAttribute}
use Rattle.wire_attributes.specs.declared.tables.Place.{Place}
use Rattle.wire_policies.specs.Policy.{spi_size}
use Rattle.wire_bags.specs.Bag.{Bag}
use Rattle.wire_bags.specs.Grammar.{IsBag}
use Rattle.wire_frames.specs.Frame.{Payload, none_next}
use Rattle.wire_frames.specs.Grammar.{joined, IsPayload}
use Rattle.rules_refusals.specs.Reordered.{AnyOrder}
use Rattle.rules_chains.specs.Chain.{In}
use Rattle.rules_order.specs.Rearranged.{BagRearranged, in-kd, Rearranged}
use Rattle.rules_order.proofs.Cutting.{bag-counts, attribute-one}
use Rattle.rules_order.proofs.SameBags.{equal-moved, one-moved, bag-same}
use Rattle.rules_order.proofs.AnyExchange.{Before, frame_with, body-moved}

-- a frame: its header, payloads, one payload of the kind `k` with `head` and a body, and the payloads behind it
module _ (fresh : Bool) (header before head behind : List ℕ) (k j : ℕ) (n : length header ≡ 28) (h : length head ≡ 4)
    (b : Before (oct header 16) before k) (l : List Payload) (r : Spans none_next (IsPayload fresh) j behind l []) where
  abbrev pub frame_of : List ℕ → List ℕ
  frame_of body = frame_with header before head behind body

  -- bags of a KD, each as it is or rearranged
  bags-moved : k ≡ 52 → (bs cs : List (List ℕ)) → ((o : List ℕ) → In o bs → (x : Bag) × IsBag fresh o x) → AnyOrder BagRearranged bs cs →
      (x : Payload) → IsPayload fresh k (head ++ joined bs) x j → Rearranged (frame_of (joined bs)) (frame_of (joined cs))
  bags-moved e bs cs each order =
      body-moved fresh header before head behind k j n h b l r (joined bs) (joined cs)
      (in-kd e
      (record {
        stretches = bs;
        others = cs;
        each = λ o i. bag-counts fresh o (each o i).0 (each o i).1;
        order = order;
        from = refl;
        to = refl;
      }))

  -- bags of a KD, Group Key Bags and the Member Key Bag, in any order
  pub bags-in-any-order : k ≡ 52 → (bs cs : List (List ℕ)) → ((o : List ℕ) → In o bs → (x : Bag) × IsBag fresh o x) → AnyOrder ◌≡◌ bs cs →
      (x : Payload) → IsPayload fresh k (head ++ joined bs) x j → Rearranged (frame_of (joined bs)) (frame_of (joined cs))
  bags-in-any-order e bs cs each order =
      bags-moved e bs cs each (equal-moved bs cs (λ o i. bag-same fresh o (each o i).0 (each o i).1) order)

  -- attributes of one bag (SA_KEY copies, WRAP_KEY entries, private entries, skipped ones) in any order, the other bags as they are
  pub attributes-in-any-order : k ≡ 52 → (first last : List (List ℕ)) (top : List ℕ) (p : Place) (xs ys : List (List ℕ)) →
      length top ≡ 4 + spi_size (oct top 0) → ((o : List ℕ) → In o xs → (a : Attribute) × IsAttribute p o a) → AnyOrder ◌≡◌ xs ys →
      ((o : List ℕ) → In o (first ++ (top ++ joined xs) ∷ last) → (x : Bag) × IsBag fresh o x) → (x : Payload) →
      IsPayload fresh k (head ++ joined (first ++ (top ++ joined xs) ∷ last)) x j →
      Rearranged (frame_of (joined (first ++ (top ++ joined xs) ∷ last))) (frame_of (joined (first ++ (top ++ joined ys) ∷ last)))
  attributes-in-any-order e first last top p xs ys n each order are =
      bags-moved e (first ++ (top ++ joined xs) ∷ last) (first ++ (top ++ joined ys) ∷ last) are
      (one-moved first last (top ++ joined xs) (top ++ joined ys) (λ o i. bag-same fresh o (are o i).0 (are o i).1)
      (record {
        head = top;
        size = n;
        held = joined xs;
        others = joined ys;
        moved =
            record {
              stretches = xs;
              others = ys;
              each = λ o i. attribute-one p o (each o i).0 (each o i).1;
              order = order;
              from = refl;
              to = refl;
            };
        from = refl;
        to = refl;
      }))
