-- Transforms added up one after the other: what a loop has, and what the transforms that are left come to.
use Prim.Native.Nat.{ℕ, ◌+◌, ◌-◌, ◌<◌, ◌≤◌}
use mathlib.Core.Path.{◌≡◌, refl, ap, sym, subst, ◌∙◌}
use mathlib.Core.List.{List, [], ◌∷◌}
use mathlib.Core.Bool.{Bool, true, false, not}
use Rattle.std.proofs.lemmas.Bool.{not-true, not-false}
use native.Mathlib.Omega.{arith}
use lib.ListN.{length, take, drop, length-drop}
use lib.Seq.{drop-drop}
use Rattle.octets.specs.Walk.{part, Spans, none, more}
use Rattle.octets.proofs.Walks.{tail as cut, to_end}
use Rattle.wire_attributes.specs.Place.{in_transform}
use Rattle.wire_attributes.specs.Layout.{attributes}
use Rattle.wire_policies.specs.Transform.{Transform, no_more}
use Rattle.wire_policies.specs.Grammar.{IsTransform, Transforms}
use Rattle.wire_readers.specs.inner.Values.{is_whole}
use Rattle.wire_readers.specs.inner.Bodies.{TransformIs}
use Rattle.wire_readers.specs.declared.body.TransformParts.{TransformParts}
use Rattle.check_suites.specs.inner.Octets.{transform_in}

-- the attributes of a transform at a place, as the part of the slice where they stand
there : (s : List ℕ) (at n : ℕ) → part (cut s at) 8 n ≡ part s (at + 8) (at + n)
there s at n =
    let d : n - 8 ≡ at + n - (at + 8) = omega arith in
    (λ j. take (d j) (drop 8 (to_end s at j))) ∙ ap (take (at + n - (at + 8))) (drop-drop 8 at s)

-- behind a transform that says that none follows
none_of : {s : List ℕ} {l : List Transform} {tail : List ℕ} {go : Bool} → Spans no_more IsTransform go s l tail → go ≡ false → l ≡ []
none_of (none e) h = refl
none_of (more o s e i r) h = let z : ◌≡◌ {A = ℕ} 0 1 = cc in absurd (omega arith)

module _ {X : Type 0} (f : List Transform → X) (plus : X → X → X) where
  pub record Folded (s : List ℕ) (at : ℕ) (x : X) (l : List Transform) (tail : List ℕ) : Type 0 where
    pub others : List Transform
    pub left : Transforms (drop at s) others tail
    pub total : f l ≡ plus x (f others)

  module _ (s : List ℕ) (at : ℕ) (x : X) (l : List Transform) (tail : List ℕ) (k : Folded s at x l tail) where
    pub here : Transforms (cut s at) k.others tail
    here = subst (λ (y : List ℕ). Transforms y k.others tail) (sym (to_end s at)) k.left

    module _ (r : TransformParts)
        (parts : (m : List Transform) (rest : List ℕ) → Transforms (cut s at) m rest → TransformIs (cut s at) m rest r) where
      is : TransformIs (cut s at) k.others tail r
      is = parts k.others tail here

      pub inside : (8 ≤ r.end) × (at + r.end ≤ length s)
      inside = (is.least, omega (arith, is.least, is.inside, ap length (to_end s at), length-drop at s))

      pub bounds : (r.id < 65536) × (r.end < 65536)
      bounds = (is.two_octets, is.short)

      pub held : is_whole (attributes (in_transform r.kind) 0 (part s (at + 8) (at + r.end))) ≡ true
      held = ap (λ (y : List ℕ). is_whole (attributes (in_transform r.kind) 0 y)) (sym (there s at r.end)) ∙ is.held

      head-is : is.head ≡ transform_in r.kind r.id (part s (at + 8) (at + r.end))
      head-is =
          (λ j. record { kind = is.kind j; id = is.id j; key_lengths = is.key_lengths j })
          ∙ ap (transform_in r.kind r.id) (there s at r.end)

      behind : Spans no_more IsTransform r.more (drop (at + r.end) s) is.rest tail
      behind =
          subst (λ (y : List ℕ). Spans no_more IsTransform r.more y is.rest tail)
          (ap (drop r.end) (to_end s at) ∙ drop-drop r.end at s) is.others

      module _ (first : (a : Transform) (m : List Transform) → f (a ∷ m) ≡ plus (f (a ∷ [])) (f m))
          (assoc : (x y z : X) → plus (plus x y) z ≡ plus x (plus y z))
          (y : X) (q : y ≡ f (transform_in r.kind r.id (part s (at + 8) (at + r.end)) ∷ [])) where
        one_more : f l ≡ plus (plus x y) (f is.rest)
        one_more =
            k.total ∙ ap (λ (m : List Transform). plus x (f m)) is.all ∙ ap (plus x) (first is.head is.rest)
            ∙ ap (λ (t : Transform). plus x (plus (f (t ∷ [])) (f is.rest))) head-is
            ∙ ap (λ (z : X). plus x (plus z (f is.rest))) (sym q) ∙ sym (assoc x y (f is.rest))

        pub next : not r.more ≡ false → Folded s (at + r.end) (plus x y) l tail
        next h = record {
          others = is.rest;
          left = subst (λ (t : Bool). Spans no_more IsTransform t (drop (at + r.end) s) is.rest tail) (not-false r.more h) behind;
          total = one_more;
        }

        pub last : not r.more ≡ true → f l ≡ plus (plus x y) (f [])
        last h = one_more ∙ ap (λ (m : List Transform). plus (plus x y) (f m)) (none_of behind (not-true r.more h))
