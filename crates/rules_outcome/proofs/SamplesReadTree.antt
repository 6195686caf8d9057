-- Octets that are laid out as the registrations with a Rekey SA, that of RFC 9838's Appendix A.2 among them, here for keys of 16 octets.
use native.Mathlib.Omega.{arith}
use Prim.Native.Nat.{ℕ, ◌+◌, ◌*◌}
use mathlib.Core.Path.{◌≡◌, refl, ap, sym, ◌∙◌, subst}
use mathlib.Core.Bool.{true, false}
use mathlib.Core.List.{List, [], ◌∷◌, ◌++◌}
use lib.ListN.{length, replicate}
use Rattle.octets.specs.Numbers.{number}
use Rattle.octets.specs.Octets.{Octets}
use Rattle.octets.specs.Compare.{order_of, same}
use Rattle.octets.specs.Walk.{whole, chain, chain_up_to, many}
use Rattle.octets.proofs.Octets.{join-octets}
use Rattle.lists.specs.Lists.{all}
use Rattle.fips197.specs.Key.{Key}
use Rattle.rfc5649.specs.Wrap.{wrap_of, blocks}
use Rattle.rfc5649.proofs.Wrapping.{length-wrap}
use Rattle.wire_attributes.specs.Tree.{WrapKey, values_of}
use Rattle.wire_attributes.specs.Layout.{attribute}
use Rattle.wire_policies.specs.Selector.{selector}
use Rattle.wire_policies.specs.Transform.{transform}
use Rattle.wire_policies.specs.Policy.{suite, sa_body, policy}
use Rattle.wire_bags.specs.Bag.{bag}
use Rattle.wire_frames.specs.Frame.{frame, body, payload}
use Rattle.rules_refusals.specs.Fitness.{multicast, one_group_address}
use Rattle.rules_outcome.specs.SampleFrames.{Around, creating, Creates, entry, FitKey}
use Rattle.rules_outcome.proofs.SamplesRead.{group, anywhere, selector_octets, firsts, entry_octets, all_firsts, literal-octets}
use Rattle.rules_outcome.proofs.SamplesRead.{wrapped-24, wrapped-octets, firsts-octets, entry-octets, Read, laid_out}

unfoldable pub tree_around : Around
tree_around = record {
  auth = true;
  spis = replicate 16 1;
  message_id = 0;
  spi = replicate 16 2;
  source = anywhere;
  destination = anywhere;
  profile = false;
}

pub one-group : one_group_address tree_around.destination ≡ true
unfolding tree_around anywhere group one_group_address multicast same order_of
one-group = refl

-- up to the wrapped octets of the SA_KEY: the header of a frame of 256 + n octets, the GSA payload, the KD payload of d octets, the Group
-- Key Bag with the SA_KEY under KWK ID k
head_octets : ℕ → ℕ → ℕ → List ℕ
head_octets n d k =
    replicate 16 1 ++ ((51 ∷ 32 ∷ 39 ∷ 0 ∷ 0 ∷ 0 ∷ 0 ∷ 0 ∷ 0 ∷ 0 ∷ 1 ∷ n ∷ []) ++ ((52 ∷ 0 ∷ 0 ∷ 84 ∷ 6 ∷ 16 ∷ 0 ∷ 80 ∷ []) ++
    (replicate 16 2 ++ (selector_octets ++ (selector_octets ++
    ((3 ∷ 0 ∷ 0 ∷ 12 ∷ 1 ∷ 0 ∷ 0 ∷ 20 ∷ 128 ∷ 14 ∷ 0 ∷ 128 ∷ 3 ∷ 0 ∷ 0 ∷ 8 ∷ 13 ∷ 0 ∷ 0 ∷ 1 ∷ 0 ∷ 0 ∷ 0 ∷ 8 ∷ 14 ∷ 0 ∷ 0 ∷ 1 ∷ []) ++
    ((0 ∷ 0 ∷ 0 ∷ d ∷ 6 ∷ 16 ∷ 0 ∷ 80 ∷ []) ++ (replicate 16 2 ++ (0 ∷ 1 ∷ 0 ∷ 56 ∷ 0 ∷ 0 ∷ 0 ∷ 0 ∷ 0 ∷ 0 ∷ 0 ∷ k ∷ [])))))))))

-- the Member Key Bag has m octets
created_octets : ℕ → ℕ → ℕ → ℕ → List ℕ → List ℕ → List ℕ
created_octets n d k m w entries = head_octets n d k ++ (firsts 48 w ++ ((0 ∷ 0 ∷ 0 ∷ m ∷ []) ++ entries))

tree-reads : (w a b c : List ℕ) →
    frame false (created_octets 52 196 1 112 w (entry_octets 1 3 a ++ (entry_octets 3 7 b ++ entry_octets 7 0 c)))
    ≡ whole (creating tree_around 1 (firsts 48 w) (entry 1 3 (firsts 24 a) ∷ entry 3 7 (firsts 24 b) ∷ entry 7 0 (firsts 24 c) ∷ [])) []
unfolding frame payload body policy suite sa_body selector transform bag attribute many chain chain_up_to number values_of group anywhere
    tree_around selector_octets firsts entry_octets head_octets created_octets
tree-reads w a b c = refl

two-reads : (w a b : List ℕ) → frame false (created_octets 16 160 5 76 w (entry_octets 5 9 a ++ entry_octets 9 0 b))
    ≡ whole (creating tree_around 5 (firsts 48 w) (entry 5 9 (firsts 24 a) ∷ entry 9 0 (firsts 24 b) ∷ [])) []
unfolding frame payload body policy suite sa_body selector transform bag attribute many chain chain_up_to number values_of group anywhere
    tree_around selector_octets firsts entry_octets head_octets created_octets
two-reads w a b = refl

around-reads : (w a b : List ℕ) → frame false (created_octets 16 160 5 76 w (entry_octets 5 9 a ++ entry_octets 9 5 b))
    ≡ whole (creating tree_around 5 (firsts 48 w) (entry 5 9 (firsts 24 a) ∷ entry 9 5 (firsts 24 b) ∷ [])) []
unfolding frame payload body policy suite sa_body selector transform bag attribute many chain chain_up_to number values_of group anywhere
    tree_around selector_octets firsts entry_octets head_octets created_octets
around-reads w a b = refl

created-octets : (n d k m : ℕ) (w entries : List ℕ) → Octets (head_octets n d k) → Octets (0 ∷ 0 ∷ 0 ∷ m ∷ []) → Octets (firsts 48 w) →
    Octets entries → Octets (created_octets n d k m w entries)
unfolding created_octets
created-octets n d k m w entries first last o q =
    join-octets (head_octets n d k) (firsts 48 w ++ ((0 ∷ 0 ∷ 0 ∷ m ∷ []) ++ entries)) first
    (join-octets (firsts 48 w) ((0 ∷ 0 ∷ 0 ∷ m ∷ []) ++ entries) o (join-octets (0 ∷ 0 ∷ 0 ∷ m ∷ []) entries last q))

-- with two entries and with three
head-of-two : Octets (head_octets 16 160 5) × Octets (0 ∷ 0 ∷ 0 ∷ 76 ∷ [])
unfolding head_octets selector_octets all
head-of-two = (literal-octets (head_octets 16 160 5) refl, literal-octets (0 ∷ 0 ∷ 0 ∷ 76 ∷ []) refl)

head-of-three : Octets (head_octets 52 196 1) × Octets (0 ∷ 0 ∷ 0 ∷ 112 ∷ [])
unfolding head_octets selector_octets all
head-of-three = (literal-octets (head_octets 52 196 1) refl, literal-octets (0 ∷ 0 ∷ 0 ∷ 112 ∷ []) refl)

module _ (lent x v : List ℕ) (key : Key lent) (size : length lent ≡ 16) (long : length x ≡ 36) (small : Octets x)
    (fit : FitKey lent v) where
  x-is : firsts 48 (wrap_of v x) ≡ wrap_of v x
  x-is =
      all_firsts 48 (wrap_of v x)
      (length-wrap v x fit.key small (omega arith) (omega arith) ∙ ap (λ (m : ℕ). 8 * (blocks m + 1)) long)

  x-octets : Octets (firsts 48 (wrap_of v x))
  x-octets = subst Octets (sym x-is) (wrapped-octets v x fit.key small)

  under : (k y : List ℕ) → Key k → FitKey lent y → firsts 24 (wrap_of k y) ≡ wrap_of k y
  under k y i h = wrapped-24 k y i h.key (h.size ∙ size)

  under-octets : (k y : List ℕ) → Key k → FitKey lent y → Octets (firsts 24 (wrap_of k y))
  under-octets k y i h = subst Octets (sym (under k y i h)) (wrapped-octets k y i h.key.small)

  pub tree-read : (v₃ v₇ : List ℕ) → FitKey lent v₃ → FitKey lent v₇ →
      Read (creating tree_around 1 (wrap_of v x) (entry 1 3 (wrap_of v₃ v) ∷ entry 3 7 (wrap_of v₇ v₃) ∷ entry 7 0 (wrap_of lent v₇) ∷ []))
  tree-read v₃ v₇ w₃ w₇ =
      let a = entry_octets 1 3 (wrap_of v₃ v) in
      let b = entry_octets 3 7 (wrap_of v₇ v₃) in
      let c = entry_octets 7 0 (wrap_of lent v₇) in
      record {
        octets = created_octets 52 196 1 112 (wrap_of v x) (a ++ (b ++ c));
        small =
            created-octets 52 196 1 112 (wrap_of v x) (a ++ (b ++ c)) head-of-three.0 head-of-three.1 x-octets
            (join-octets a (b ++ c) (entry-octets 1 3 (wrap_of v₃ v) (omega arith) (omega arith) (under-octets v₃ v w₃.key fit))
            (join-octets b c (entry-octets 3 7 (wrap_of v₇ v₃) (omega arith) (omega arith) (under-octets v₇ v₃ w₇.key w₃))
            (entry-octets 7 0 (wrap_of lent v₇) (omega arith) (omega arith) (under-octets lent v₇ key w₇))));
        reads =
            tree-reads (wrap_of v x) (wrap_of v₃ v) (wrap_of v₇ v₃) (wrap_of lent v₇)
            ∙ (λ i.
            whole (creating tree_around 1 (x-is i)
            (entry 1 3 (under v₃ v w₃.key fit i) ∷ entry 3 7 (under v₇ v₃ w₇.key w₃ i) ∷ entry 7 0 (under lent v₇ key w₇ i) ∷ []))
            []);
      }

  pub two-steps-read : (v₉ : List ℕ) → FitKey lent v₉ →
      Read (creating tree_around 5 (wrap_of v x) (entry 5 9 (wrap_of v₉ v) ∷ entry 9 0 (wrap_of lent v₉) ∷ []))
  two-steps-read v₉ w₉ =
      let a = entry_octets 5 9 (wrap_of v₉ v) in
      let b = entry_octets 9 0 (wrap_of lent v₉) in
      record {
        octets = created_octets 16 160 5 76 (wrap_of v x) (a ++ b);
        small =
            created-octets 16 160 5 76 (wrap_of v x) (a ++ b) head-of-two.0 head-of-two.1 x-octets
            (join-octets a b (entry-octets 5 9 (wrap_of v₉ v) (omega arith) (omega arith) (under-octets v₉ v w₉.key fit))
            (entry-octets 9 0 (wrap_of lent v₉) (omega arith) (omega arith) (under-octets lent v₉ key w₉)));
        reads =
            two-reads (wrap_of v x) (wrap_of v₉ v) (wrap_of lent v₉)
            ∙ (λ i.
            whole (creating tree_around 5 (x-is i) (entry 5 9 (under v₉ v w₉.key fit i) ∷ entry 9 0 (under lent v₉ key w₉ i) ∷ [])) []);
      }

  pub circle-read : (a b : List ℕ) → length a ≡ 24 → Octets a → length b ≡ 24 → Octets b →
      Read (creating tree_around 5 (wrap_of v x) (entry 5 9 a ∷ entry 9 5 b ∷ []))
  circle-read a b na oa nb ob = record {
    octets = created_octets 16 160 5 76 (wrap_of v x) (entry_octets 5 9 a ++ entry_octets 9 5 b);
    small =
        created-octets 16 160 5 76 (wrap_of v x) (entry_octets 5 9 a ++ entry_octets 9 5 b) head-of-two.0 head-of-two.1 x-octets
        (join-octets (entry_octets 5 9 a) (entry_octets 9 5 b)
        (entry-octets 5 9 a (omega arith) (omega arith) (firsts-octets 24 a na oa))
        (entry-octets 9 5 b (omega arith) (omega arith) (firsts-octets 24 b nb ob)));
    reads =
        around-reads (wrap_of v x) a b
        ∙ (λ i.
        whole (creating tree_around 5 (x-is i) (entry 5 9 (all_firsts 24 a na i) ∷ entry 9 5 (all_firsts 24 b nb i) ∷ [])) []);
  }

  -- what is read is such a registration
  pub creates-by : (k : ℕ) (l : List WrapKey) (r : Read (creating tree_around k (wrap_of v x) l)) → Creates tree_around lent x k v l
      r.octets
  unfolding tree_around
  creates-by k l r = record {
    key = key;
    group = one-group;
    size = long;
    small = small;
    fit = fit;
    reads = laid_out (creating tree_around k (wrap_of v x) l) r;
  }
