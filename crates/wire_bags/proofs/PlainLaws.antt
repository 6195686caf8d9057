-- Key bags that are whole where fresh keys are read are whole where they are not, and are the same less the fresh keys.
use Prim.Native.Nat.{ℕ}
use mathlib.Core.Path.{◌≡◌, refl, sym, ◌∙◌}
use mathlib.Core.List.{List, [], ◌∷◌, map}
use mathlib.Core.Bool.{Bool, false}
use Rattle.octets.specs.Walk.{whole, no-more, then}
use Rattle.wire_attributes.proofs.PlainLaws.{attributes-plain, sa-keys-plain, no-fresh-keys}
use Rattle.wire_bags.specs.Bag.{Bag, group_keys, member_keys, bags}
use Rattle.wire_bags.specs.Grammar.{IsBag, is-group, is_member, Bags}
use Rattle.wire_bags.specs.Plain.{plain_bag}
use Rattle.wire_bags.proofs.BagGrammar.{bags-read, read-bags}

pub bag-plain : (fresh : Bool) (o : List ℕ) (x : Bag) → IsBag fresh o x → IsBag false o (plain_bag x)
bag-plain fresh o (group_keys x) (is-group i) = is-group (record {
  protocol = i.protocol;
  known = i.known;
  spi_octets = i.spi_octets;
  size = i.size;
  least = i.least;
  spi = i.spi;
  attributes = i.attributes;
  held = attributes-plain fresh x.protocol i.held;
  keys = sym (sa-keys-plain fresh x.protocol i.attributes) ∙ i.keys;
  entries = no-fresh-keys x.protocol i.attributes;
})
bag-plain fresh o (member_keys x) (is_member i) = is_member i

pub bags-plain : (fresh : Bool) {s : List ℕ} {l : List Bag} → Bags fresh s l → Bags false s (map plain_bag l)
bags-plain fresh no-more = no-more
bags-plain fresh (then o s {a = a} i r) = then o s (bag-plain fresh o a i) (bags-plain fresh r)

-- where they are not read no bag has one
none-in-bag : (o : List ℕ) (x : Bag) → IsBag false o x → plain_bag x ≡ x
none-in-bag o (group_keys x) (is-group i) =
    let e : [] ≡ x.fresh = sym (no-fresh-keys x.protocol i.attributes) ∙ i.entries in
    λ j. group_keys (record { protocol = x.protocol; spi = x.spi; keys = x.keys; fresh = e j })
none-in-bag o (member_keys x) (is_member i) = refl

pub none-in-bags : {s : List ℕ} {l : List Bag} → Bags false s l → map plain_bag l ≡ l
none-in-bags no-more = refl
none-in-bags (then o s {a = a} i r) = λ j. none-in-bag o a i j ∷ none-in-bags r j

-- the same of the readers
pub bags-read-plain : (fresh : Bool) (b : ℕ) (s : List ℕ) (l : List Bag) (rest : List ℕ) → bags fresh b s ≡ whole l rest
    → bags false b s ≡ whole (map plain_bag l) []
bags-read-plain fresh b s l rest q = bags-read false (bags-plain fresh (read-bags fresh b s l rest q)) b
