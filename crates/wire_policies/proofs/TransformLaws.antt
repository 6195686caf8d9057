-- What the code's tests say of the transform that some octets start with, and how the loop over transforms goes on.
use Rattle.wire_attributes.specs.declared.Broken.{Broken}
use Rattle.std.specs.Prelude.{Result, Ok}
use Prim.Native.Nat.{ℕ, ◌+◌, ◌<◌, ◌≤◌}
use mathlib.Core.Path.{◌≡◌, refl, ap, sym, ◌∙◌}
use mathlib.Core.List.{List}
use mathlib.Core.Bool.{Bool, true, false}
use native.Mathlib.Omega.{arith}
use borrow.Author.Tests.{eq-eqb, ne_eqb}
use lib.Dec.{eqb}
use native.Mathlib.Nat.{add-zero}
use lib.ListN.{length, drop}
use lib.Seq.{get_or-drop}
use Rattle.lists.proofs.Cases.{and_parts}
use Rattle.octets.specs.Numbers.{oct}
use Rattle.octets.specs.Walk.{be16, part, sized, Reading, whole, broken, mapped, closed, opened, within, Linked}
use Rattle.octets.specs.Walk.{chain}
use Rattle.octets.proofs.Numerals.{sized-is}
use Rattle.octets.proofs.Walks.{tail, by-test, Takes, Keeps, took, takes-mapped, takes-closed, begun-none, begun-some, outline}
use Rattle.octets.proofs.Walks.{takes-begun, opened-is, opened-not, takes-opened}
use Rattle.octets.proofs.Walks.{keeps-chain, chain-stops, chain-goes, chain-breaks}
use Rattle.wire_attributes.specs.Attribute.{Attribute}
use Rattle.wire_attributes.specs.Place.{in_transform}
use Rattle.wire_attributes.specs.Layout.{attributes}
use Rattle.wire_attributes.specs.declared.tables.Place.{Place}
use Rattle.wire_attributes.specs.Answers.{broken_at, layout_of, spot_of}
use Rattle.wire_attributes.proofs.Loops.{held_whole, held-broken, spot-mapped, spot-stops, spot-breaks, next-is, next-broken}
use Rattle.wire_policies.specs.Transform.{Transform, is_mark, transform_fits, transform_of, transform, no_more, transforms}

pub fits-is : (s : List ℕ) → transform_fits s ≡ true → (8 ≤ be16 s 2) × (be16 s 2 ≤ length s)
fits-is s e = sized-is s 8 (and_parts (sized 8 s) (is_mark (oct s 0)) e).0

module _ (h b : ℕ) (s : List ℕ) where
  pub missing : length s ≡ 0 → broken_at h ≡ spot_of s (transform h true b s)
  unfolding transform
  missing e = sym (ap (spot_of s) (begun-none h s _ e))

  module _ (some : length s ≡ 0 → ⊥) where
    held : Reading (Linked Bool Transform)
    held = mapped (transform_of s) (within 8 (be16 s 2) (attributes (in_transform (oct s 4))) b s)

    is : transform h true b s ≡ opened b (transform_fits s) held
    unfolding transform held
    is = begun-some h s _ some

    pub bad : transform_fits s ≡ false → broken_at b ≡ spot_of s (transform h true b s)
    bad e = sym (ap (spot_of s) (is ∙ opened-not b (transform_fits s) held e))

    module _ (fit : transform_fits s ≡ true) (n : ℕ) (p : Place) (g : n ≡ be16 s 2) (k : p ≡ in_transform (oct s 4)) where
      inner : (y : Result (Unit {0}) Broken) → y ≡ layout_of (attributes p (b + 8) (part s 8 n))
          → y ≡ layout_of (attributes (in_transform (oct s 4)) (b + 8) (part s 8 (be16 s 2)))
      inner y q =
          q ∙ ap (λ (u : Place). layout_of (attributes u (b + 8) (part s 8 n))) k
          ∙ ap (λ (u : ℕ). layout_of (attributes (in_transform (oct s 4)) (b + 8) (part s 8 u))) g

      out : spot_of s (within 8 (be16 s 2) (attributes (in_transform (oct s 4))) b s) ≡ spot_of s (transform h true b s)
      unfolding held
      out =
          spot-mapped (transform_of s) s (within 8 (be16 s 2) (attributes (in_transform (oct s 4))) b s)
          ∙ sym (ap (spot_of s) (is ∙ opened-is b (transform_fits s) held fit))

      pub good : Ok tt ≡ layout_of (attributes p (b + 8) (part s 8 n)) → Ok n ≡ spot_of s (transform h true b s)
      good q =
          ap Ok g
          ∙ held_whole (attributes (in_transform (oct s 4))) b s 8 (be16 s 2) (fits-is s fit).1 (inner (Ok tt) q) ∙ out

      pub inner-broken : (o : ℕ) → broken_at o ≡ layout_of (attributes p (b + 8) (part s 8 n))
          → broken_at o ≡ spot_of s (transform h true b s)
      inner-broken o q = held-broken (attributes (in_transform (oct s 4))) b s 8 (be16 s 2) o (inner (broken_at o) q) ∙ out

pub takes : (h : ℕ) (more : Bool) (b : ℕ) (s : List ℕ) → Takes s (transform h more b s)
unfolding transform
takes h more b s =
    let x = within 8 (be16 s 2) (attributes (in_transform (oct s 4))) b s in
    takes-begun h s (opened b (transform_fits s) (mapped (transform_of s) x))
    (takes-opened s b (transform_fits s) (mapped (transform_of s) x)
    (λ e.
    let f = fits-is s e in
    takes-mapped (transform_of s) s x
    (takes-closed s (drop (be16 s 2) s) (attributes (in_transform (oct s 4)) (b + 8) (part s 8 (be16 s 2)))
    (took s (be16 s 2) (omega (arith, f.0)) f.1))))

pub keeps : (h b : ℕ) (s : List ℕ) → Keeps s (transforms h b s)
keeps h b s = keeps-chain no_more (transform h) (takes h) true b s

-- whether another follows
pub next_of : (h : ℕ) (more : Bool) (b : ℕ) (s : List ℕ) (x : Linked Bool Transform) (rest : List ℕ) → transform h more b s ≡ whole x rest
    → x.next ≡ eqb (oct s 0) 3
unfolding transform
next_of h more b s x rest =
    by-test (λ (y : Reading (Linked Bool Transform)). y ≡ whole x rest → x.next ≡ eqb (oct s 0) 3) (eqb (length s) 0)
    (λ i q. let z : ◌≡◌ {A = ℕ} 0 1 = cc in absurd (omega arith))
    (λ i. by-test (λ (y : Reading (Linked Bool Transform)). y ≡ whole x rest → x.next ≡ eqb (oct s 0) 3) (transform_fits s)
    (λ j. go (attributes (in_transform (oct s 4)) (b + 8) (part s 8 (be16 s 2))))
    (λ j q. let z : ◌≡◌ {A = ℕ} 0 1 = cc in absurd (omega arith)))
  where
    go : (y : Reading (List Attribute)) → mapped (transform_of s) (closed (drop (be16 s 2) s) y) ≡ whole x rest → x.next ≡ eqb (oct s 0) 3
    go (whole l r) q =
        let u : transform_of s l ≡ x = cc in
        ap (λ (y : Linked Bool Transform). y.next) (sym u)
    go (broken o) q = let z : ◌≡◌ {A = ℕ} 0 1 = cc in absurd (omega arith)

module _ (h b : ℕ) (s : List ℕ) (at : ℕ) (l : at ≤ length s)
    (old : outline (transforms h b s) ≡ outline (transforms h (b + at) (drop at s))) where
  steps : (e m : ℕ) → Ok e ≡ spot_of (tail s at) (transform h true (b + at) (tail s at)) → m ≡ oct s at
      → outline (transforms h b s) ≡ outline (chain no_more (transform h) (eqb m 3) (b + (at + e)) (drop (at + e) s))
  steps e m q f =
      let n = next-is (transform h true) (takes h true) b s at l e q in
      let i = n.some in
      let g : n.item.next ≡ eqb m 3 =
      next_of h true (b + at) (drop at s) n.item (drop (at + e) s) n.is ∙ ap (λ (y : ℕ). eqb y 3) (first s at ∙ sym f) in
      chain-goes no_more (transform h) (takes h) b s (outline (transforms h b s)) at true old refl n.item (at + e) (omega arith)
      n.inside n.is
      ∙ ap (λ (y : Bool). outline (chain no_more (transform h) y (b + (at + e)) (drop (at + e) s))) g
    where
      first : (s : List ℕ) (at : ℕ) → oct (drop at s) 0 ≡ oct s at
      first s at = simp (get_or-drop, add-zero)

  pub inside : (e : ℕ) → Ok e ≡ spot_of (tail s at) (transform h true (b + at) (tail s at)) → (0 < e) × (at + e ≤ length s)
  inside e q = let n = next-is (transform h true) (takes h true) b s at l e q in (n.some, n.inside)

  pub goes : (e m : ℕ) → Ok e ≡ spot_of (tail s at) (transform h true (b + at) (tail s at)) → m ≡ oct s at → m ≡ 3
      → outline (transforms h b s) ≡ outline (transforms h (b + (at + e)) (drop (at + e) s))
  goes e m q f g =
      steps e m q f ∙ ap (λ (y : Bool). outline (chain no_more (transform h) y (b + (at + e)) (drop (at + e) s))) (eq-eqb m 3 g)

  pub ends : (e m : ℕ) → Ok e ≡ spot_of (tail s at) (transform h true (b + at) (tail s at)) → m ≡ oct s at → (m ≡ 3 → ⊥)
      → Ok (at + e) ≡ spot_of s (transforms h b s)
  ends e m q f g =
      let o = steps e m q f ∙ ap (λ (y : Bool). outline (chain no_more (transform h) y (b + (at + e)) (drop (at + e) s))) (ne_eqb m 3 g) in
      spot-stops s (transforms h b s) (at + e) (inside e q).1
      (chain-stops no_more (transform h) (takes h) b s (outline (transforms h b s)) (at + e) false o refl)

  pub tears : (o : ℕ) → broken_at o ≡ spot_of (tail s at) (transform h true (b + at) (tail s at)) → broken_at o ≡ spot_of s
      (transforms h b s)
  tears o q =
      spot-breaks s (transforms h b s) o
      (chain-breaks no_more (transform h) (takes h) b s (outline (transforms h b s)) at true old refl o
      (next-broken (transform h true) (takes h true) b s at l o q))
