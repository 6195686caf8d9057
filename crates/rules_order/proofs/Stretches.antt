-- Stretches one after the other: octets are cut into them in one way, and items that are laid out as them can be moved with them.
use native.Mathlib.Omega.{arith}
use Prim.Native.Nat.{ℕ, ◌<◌}
use mathlib.Core.Path.{◌≡◌, refl, ap, sym, ◌∙◌, subst}
use mathlib.Core.List.{List, [], ◌∷◌, ◌++◌}
use lib.ListN.{length, take, drop, length-append}
use lib.Seq.{take-append_seam, drop-append_seam}
use Rattle.octets.specs.Walk.{Row, no-more, then}
use Rattle.wire_frames.specs.Grammar.{joined}
use Rattle.rules_refusals.specs.Reordered.{AnyOrder, none, next, swapped}
use Rattle.rules_refusals.specs.Reordered as reordered
use Rattle.rules_chains.specs.Chain.{In}
use Rattle.rules_outcome.proofs.Members.{in_head, in_tail}

-- what is cut off at the same length is the same, and so is what follows
pub cut-same : (o p s t : List ℕ) → length o ≡ length p → o ++ s ≡ p ++ t → (o ≡ p) × (s ≡ t)
cut-same o p s t n e = (
  sym (take-append_seam o s) ∙ (λ i. take (n i) (e i)) ∙ take-append_seam p t,
  sym (drop-append_seam o s) ∙ (λ i. drop (n i) (e i)) ∙ drop-append_seam p t,
)

-- each stretch is laid out as the item at its place
pub data Are {A : Type 0} (Is : List ℕ → A → Type 0) : List (List ℕ) → List A → Type 0 where
  no_item : Are Is [] []
  also : {o : List ℕ} {a : A} {os : List (List ℕ)} {l : List A} → Is o a → Are Is os l → Are Is (o ∷ os) (a ∷ l)

pub are-row : {A : Type 0} {Is : List ℕ → A → Type 0} {os : List (List ℕ)} {l : List A} → Are Is os l → Row Is (joined os) l
unfolding joined
are-row no_item = no-more
are-row (also {o = o} {os = os} i r) = then o (joined os) i (are-row r)

-- stretches that fit are cut in one way, so items that are laid out as the octets are laid out as the stretches
module _ {A : Type 0} (Is : List ℕ → A → Type 0) (Fits : List ℕ → Type 0) (fits : (o : List ℕ) (a : A) → Is o a → Fits o)
    (some : (o : List ℕ) → Fits o → 0 < length o)
    (one : (o p s t : List ℕ) → Fits o → Fits p → o ++ s ≡ p ++ t → length o ≡ length p) where
  pub row-are : {s : List ℕ} {l : List A} → Row Is s l → (os : List (List ℕ)) → ((o : List ℕ) → In o os → Fits o) → joined os ≡ s →
      Are Is os l
  unfolding joined
  row-are no-more [] each e = no_item
  row-are no-more (p ∷ os) each e =
      absurd (omega (arith, ap length e, length-append p (joined os), some p (each p (in_head p p os refl))))
  row-are (then o s {a = a} i r) [] each e = absurd (omega (arith, ap length e, length-append o s, some o (fits o a i)))
  row-are (then o s {a = a} i r) (p ∷ os) each e =
      let f = each p (in_head p p os refl) in
      let c = cut-same p o (joined os) s (one p o (joined os) s f (fits o a i) e) e in
      also (subst (λ (x : List ℕ). Is x a) (sym c.0) i) (row-are r os (λ q j. each q (in_tail q p os j)) c.1)

-- stretches in another order, each replaced by one that `R` relates to it: the items follow them
module _ {A : Type 0} (Is : List ℕ → A → Type 0) (R : List ℕ → List ℕ → Type 0) (Q : A → A → Type 0)
    (carry : (o p : List ℕ) (a : A) → R o p → Is o a → (b : A) × Is p b × Q a b) where
  pub record Follow (ps : List (List ℕ)) (l : List A) : Type 0 where
    pub items : List A
    pub are : Are Is ps items
    pub order : AnyOrder Q l items

  pub follow : {os ps : List (List ℕ)} → AnyOrder R os ps → {l : List A} → Are Is os l → Follow ps l
  follow none no_item = record { items = []; are = no_item; order = none }
  follow (next {a = o} {b = p} r s) (also {a = a} i t) =
      let c = carry o p a r i in
      let k = follow s t in
      record { items = c.0 ∷ k.items; are = also c.1 k.are; order = next c.2 k.order }
  follow swapped (also {a = a} i (also {a = b} {l = l} j t)) =
      record { items = b ∷ a ∷ l; are = also j (also i t); order = swapped }
  follow (reordered.then r s) t =
      let k = follow r t in
      let j = follow s k.are in
      record { items = j.items; are = j.are; order = reordered.then k.order j.order }

-- equal stretches are laid out as the same item
pub equal-carried : {A : Type 0} (Is : List ℕ → A → Type 0) (o p : List ℕ) (a : A) → o ≡ p → Is o a → (b : A) × Is p b × (a ≡ b)
equal-carried Is o p a e i = (a, subst (λ (x : List ℕ). Is x a) e i, refl)

-- as many octets in all
pub joined_length : {R : List ℕ → List ℕ → Type 0} → ((o p : List ℕ) → R o p → length o ≡ length p) → {os ps : List (List ℕ)} →
    AnyOrder R os ps → length (joined os) ≡ length (joined ps)
unfolding joined
joined_length h none = refl
joined_length h (next {a = o} {b = p} {l = os} {m = ps} r s) =
    let e = h o p r in
    let f = joined_length h s in
    omega (arith, length-append o (joined os), length-append p (joined ps))
joined_length h (swapped {a = o} {b = p} {l = os}) =
    let one = length-append o (p ++ joined os) in
    let other = length-append p (o ++ joined os) in
    omega (arith, length-append p (joined os), length-append o (joined os))
joined_length h (reordered.then r s) = joined_length h r ∙ joined_length h s
