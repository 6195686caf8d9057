-- Octets that read as the rekey with fresh keys of the samples, for keys of 16 octets, and the keys of a member that gets it.
use native.Mathlib.Omega.{arith}
use Prim.Native.Nat.{ℕ, ◌+◌, ◌*◌, ◌<◌}
use mathlib.Core.Path.{◌≡◌, refl, ap, sym, ◌∙◌, subst}
use mathlib.Core.List.{List, [], ◌∷◌, ◌++◌}
use mathlib.Core.Bool.{true}
use borrow.Author.Tests.{lt-ltb}
use lib.ListN.{length, drop, replicate, get_or, length-drop}
use Rattle.octets.specs.Numbers.{number}
use Rattle.octets.specs.Octets.{Octets}
use Rattle.octets.specs.Walk.{whole, chain, chain_up_to, many}
use Rattle.octets.proofs.Octets.{join-octets}
use Rattle.lists.specs.Lists.{all}
use Rattle.fips197.specs.Key.{Key}
use Rattle.rfc5649.specs.Wrap.{wrap_of, blocks}
use Rattle.rfc5649.proofs.Wrapping.{length-wrap}
use Rattle.wire_attributes.specs.Tree.{values_of}
use Rattle.wire_attributes.specs.Layout.{attribute}
use Rattle.wire_policies.specs.Selector.{selector}
use Rattle.wire_policies.specs.Transform.{transform}
use Rattle.wire_policies.specs.Policy.{suite, sa_body, policy}
use Rattle.wire_bags.specs.Bag.{bag}
use Rattle.wire_frames.specs.Frame.{frame, body, payload}
use Rattle.wire_frames.proofs.FrameGrammar.{read-frame}
use Rattle.rules_outcome.specs.SampleFrames.{Around, entry, FitKey, copy_under, renewing, Renews}
use Rattle.rules_outcome.proofs.SamplesRead.{group, anywhere, selector_octets, firsts, all_firsts, literal-octets, wrapped-24}
use Rattle.rules_outcome.proofs.SamplesRead.{wrapped-octets, firsts-octets}
use Rattle.rules_outcome.proofs.SamplesReadTree.{tree_around, one-group}

-- an SA_KEY with 48 wrapped octets, and private attribute 16385 with 24
copy_octets : ℕ → List ℕ → List ℕ
copy_octets k w = (0 ∷ 1 ∷ 0 ∷ 56 ∷ 0 ∷ 0 ∷ 0 ∷ 0 ∷ 0 ∷ 0 ∷ 0 ∷ k ∷ []) ++ firsts 48 w

fresh_octets : ℕ → ℕ → List ℕ → List ℕ
fresh_octets i k w = (64 ∷ 1 ∷ 0 ∷ 32 ∷ 0 ∷ 0 ∷ 0 ∷ i ∷ 0 ∷ 0 ∷ 0 ∷ k ∷ []) ++ firsts 24 w

-- up to the attributes of the Group Key Bag: the header of a frame of 364 octets, the GSA payload, the KD payload of 252 octets
anew_head : List ℕ
anew_head =
    replicate 16 1 ++ ((51 ∷ 32 ∷ 41 ∷ 0 ∷ 0 ∷ 0 ∷ 0 ∷ 0 ∷ 0 ∷ 0 ∷ 1 ∷ 108 ∷ []) ++ ((52 ∷ 0 ∷ 0 ∷ 84 ∷ 6 ∷ 16 ∷ 0 ∷ 80 ∷ []) ++
    (replicate 16 2 ++ (selector_octets ++ (selector_octets ++
    ((3 ∷ 0 ∷ 0 ∷ 12 ∷ 1 ∷ 0 ∷ 0 ∷ 20 ∷ 128 ∷ 14 ∷ 0 ∷ 128 ∷ 3 ∷ 0 ∷ 0 ∷ 8 ∷ 13 ∷ 0 ∷ 0 ∷ 1 ∷ 0 ∷ 0 ∷ 0 ∷ 8 ∷ 14 ∷ 0 ∷ 0 ∷ 1 ∷ []) ++
    ((0 ∷ 0 ∷ 0 ∷ 252 ∷ 6 ∷ 16 ∷ 0 ∷ 248 ∷ []) ++ replicate 16 2)))))))

anew_octets : List ℕ → List ℕ → List ℕ → List ℕ → List ℕ → List ℕ
anew_octets a b c d e =
    anew_head ++ (copy_octets 1 a ++ (copy_octets 15 b ++ (fresh_octets 15 6 c ++ (fresh_octets 15 16 d ++ fresh_octets 16 11 e))))

anew-reads : (a b c d e : List ℕ) →
    frame true (anew_octets a b c d e)
    ≡ whole (renewing tree_around (copy_under 1 (firsts 48 a) ∷ copy_under 15 (firsts 48 b) ∷ [])
    (entry 15 6 (firsts 24 c) ∷ entry 15 16 (firsts 24 d) ∷ entry 16 11 (firsts 24 e) ∷ [])) []
unfolding frame payload body policy suite sa_body selector transform bag attribute many chain chain_up_to number values_of group anywhere
    tree_around selector_octets firsts copy_octets fresh_octets anew_head anew_octets
anew-reads a b c d e = refl

-- ---- they are octets
head-octets : Octets anew_head
unfolding anew_head selector_octets all
head-octets = literal-octets anew_head refl

copy-octets : (k : ℕ) (w : List ℕ) → k < 256 → Octets (firsts 48 w) → Octets (copy_octets k w)
unfolding copy_octets all
copy-octets k w h o =
    let first : List ℕ = 0 ∷ 1 ∷ 0 ∷ 56 ∷ 0 ∷ 0 ∷ 0 ∷ 0 ∷ 0 ∷ 0 ∷ 0 ∷ k ∷ [] in
    join-octets first (firsts 48 w) (literal-octets first (rw (lt-ltb k 256 h))) o

fresh-octets : (i k : ℕ) (w : List ℕ) → i < 256 → k < 256 → Octets (firsts 24 w) → Octets (fresh_octets i k w)
unfolding fresh_octets all
fresh-octets i k w h g o =
    let first : List ℕ = 64 ∷ 1 ∷ 0 ∷ 32 ∷ 0 ∷ 0 ∷ 0 ∷ i ∷ 0 ∷ 0 ∷ 0 ∷ k ∷ [] in
    join-octets first (firsts 24 w) (literal-octets first (rw (lt-ltb i 256 h, lt-ltb k 256 g))) o

zeros-48 : Octets (replicate 48 0)
unfolding all
zeros-48 = literal-octets (replicate 48 0) refl

zeros-24 : Octets (replicate 24 0)
unfolding all
zeros-24 = literal-octets (replicate 24 0) refl

-- what the row asks for; the octets of its frame are below 256
pub record Renewal : Type 0 where
  pub r : Around
  pub z : List ℕ
  pub x : List ℕ
  pub v₂ : List ℕ
  pub v₅ : List ℕ
  pub v₁₁ : List ℕ
  pub v₁₅ : List ℕ
  pub v₁₆ : List ℕ
  pub w₁ : List ℕ
  pub w₆ : List ℕ
  pub held : Key v₂ × Key v₅ × Key v₁₁
  pub fresh : FitKey (drop 20 z) v₁₅ × FitKey (drop 20 z) v₁₆
  pub octets : List ℕ
  pub small : Octets octets
  pub renews : Renews r z x (copy_under 1 w₁ ∷ copy_under 15 (wrap_of v₁₅ x) ∷ [])
      (entry 15 6 w₆ ∷ entry 15 16 (wrap_of v₁₆ v₁₅) ∷ entry 16 11 (wrap_of v₁₁ v₁₆) ∷ []) octets

module _ (z x v₂ v₅ v₁₁ v₁₅ v₁₆ : List ℕ) (long : length z ≡ 36) (size : length x ≡ 36) (small : Octets x) (k₂ : Key v₂) (k₅ : Key v₅)
    (k₁₁ : Key v₁₁) (f₁₅ : FitKey (drop 20 z) v₁₅) (f₁₆ : FitKey (drop 20 z) v₁₆) where
  abbrev none : ℕ → List ℕ
  none n = replicate n 0

  sixteen : (v : List ℕ) → FitKey (drop 20 z) v → length v ≡ 16
  sixteen v h = let d = length-drop 20 z in let e = h.size in omega (arith, d, e, long)

  under : (k v : List ℕ) → Key k → FitKey (drop 20 z) v → firsts 24 (wrap_of k v) ≡ wrap_of k v
  under k v i h = wrapped-24 k v i h.key (sixteen v h)

  x-is : firsts 48 (wrap_of v₁₅ x) ≡ wrap_of v₁₅ x
  x-is =
      all_firsts 48 (wrap_of v₁₅ x)
      (length-wrap v₁₅ x f₁₅.key small (omega arith) (omega arith) ∙ ap (λ (m : ℕ). 8 * (blocks m + 1)) size)

  abbrev text : List ℕ
  text = anew_octets (none 48) (wrap_of v₁₅ x) (none 24) (wrap_of v₁₆ v₁₅) (wrap_of v₁₁ v₁₆)

  read : frame true text
      ≡ whole (renewing tree_around (copy_under 1 (none 48) ∷ copy_under 15 (wrap_of v₁₅ x) ∷ [])
      (entry 15 6 (none 24) ∷ entry 15 16 (wrap_of v₁₆ v₁₅) ∷ entry 16 11 (wrap_of v₁₁ v₁₆) ∷ [])) []
  read =
      anew-reads (none 48) (wrap_of v₁₅ x) (none 24) (wrap_of v₁₆ v₁₅) (wrap_of v₁₁ v₁₆)
      ∙ (λ i.
      whole (renewing tree_around (copy_under 1 (all_firsts 48 (none 48) refl i) ∷ copy_under 15 (x-is i) ∷ [])
      (entry 15 6 (all_firsts 24 (none 24) refl i) ∷ entry 15 16 (under v₁₆ v₁₅ f₁₆.key f₁₅ i)
      ∷ entry 16 11 (under v₁₁ v₁₆ k₁₁ f₁₆ i) ∷ [])) [])

  text-octets : Octets text
  unfolding anew_octets
  text-octets =
      let a = copy_octets 1 (none 48) in
      let b = copy_octets 15 (wrap_of v₁₅ x) in
      let c = fresh_octets 15 6 (none 24) in
      let d = fresh_octets 15 16 (wrap_of v₁₆ v₁₅) in
      let e = fresh_octets 16 11 (wrap_of v₁₁ v₁₆) in
      join-octets anew_head (a ++ (b ++ (c ++ (d ++ e)))) head-octets
      (join-octets a (b ++ (c ++ (d ++ e)))
      (copy-octets 1 (none 48) (omega arith) (firsts-octets 48 (none 48) refl zeros-48))
      (join-octets b (c ++ (d ++ e))
      (copy-octets 15 (wrap_of v₁₅ x) (omega arith) (subst Octets (sym x-is) (wrapped-octets v₁₅ x f₁₅.key small)))
      (join-octets c (d ++ e)
      (fresh-octets 15 6 (none 24) (omega arith) (omega arith) (firsts-octets 24 (none 24) refl zeros-24))
      (join-octets d e
      (fresh-octets 15 16 (wrap_of v₁₆ v₁₅) (omega arith) (omega arith)
      (subst Octets (sym (under v₁₆ v₁₅ f₁₆.key f₁₅)) (wrapped-octets v₁₆ v₁₅ f₁₆.key f₁₅.key.small)))
      (fresh-octets 16 11 (wrap_of v₁₁ v₁₆) (omega arith) (omega arith)
      (subst Octets (sym (under v₁₁ v₁₆ k₁₁ f₁₆)) (wrapped-octets v₁₁ v₁₆ k₁₁ f₁₆.key.small)))))))

  pub renewal : Renewal
  unfolding tree_around
  renewal = record {
    r = tree_around;
    z = z;
    x = x;
    v₂ = v₂;
    v₅ = v₅;
    v₁₁ = v₁₁;
    v₁₅ = v₁₅;
    v₁₆ = v₁₆;
    w₁ = none 48;
    w₆ = none 24;
    held = (k₂, k₅, k₁₁);
    fresh = (f₁₅, f₁₆);
    octets = text;
    small = text-octets;
    renews = record {
      spi = refl;
      another = λ e. let q : ◌≡◌ {A = ℕ} 1 2 = ap (λ (l : List ℕ). get_or l 0 0) e in omega arith;
      group = one-group;
      old-size = long;
      size = size;
      small = small;
      reads = read-frame true text (renewing tree_around (copy_under 1 (none 48) ∷ copy_under 15 (wrap_of v₁₅ x) ∷ [])
          (entry 15 6 (none 24) ∷ entry 15 16 (wrap_of v₁₆ v₁₅) ∷ entry 16 11 (wrap_of v₁₁ v₁₆) ∷ [])) [] read;
    };
  }
