-- The walk over the payloads of a frame.
use Prim.Native.Nat.{ℕ, suc, ◌+◌, ◌-◌, ◌*◌, ◌≤◌}
use mathlib.Core.Path.{◌≡◌, refl, ap, sym, ◌∙◌, subst}
use mathlib.Core.Logic.{inl, inr}
use mathlib.Core.List.{List, []}
use mathlib.Core.Bool.{Bool, true, false, not, cond, ◌&&◌, ◌||◌, or-false}
use native.Mathlib.Omega.{arith}
use borrow.Author.Tests.{eqb-true, eqb-false}
use lib.ListN.{length, drop}
use lib.Dec.{eqb}
use Rattle.octets.specs.Numbers.{oct}
use Rattle.octets.specs.Walk.{part}
use Rattle.lists.specs.Lists.{any, count}
use Rattle.lists.proofs.Cases.{bool_cases}
use Rattle.wire_frames.specs.Header.{first_payload}
use Rattle.wire_frames.specs.Delete.{Delete, delete_of}
use Rattle.wire_frames.specs.Frame.{Payload, is_known, payloads, nothing_left}
use Rattle.wire_readers.specs.inner.Values.{nowhere, is_whole}
use Rattle.wire_readers.specs.inner.Payloads.{payloads_in}
use Rattle.wire_readers.specs.declared.Stretch.{Stretch}
use Rattle.wire_readers.specs.declared.payload.PayloadParts.{PayloadParts}
use Rattle.rules_refusals.specs.Number4.{unknown_critical}
use Rattle.rules_refusals.proofs.OneOf.{or-joined}
use Rattle.check_payloads.specs.inner.Places.{body_from, body_of}
use Rattle.wire_readers.specs.inner.Values.{once}
use Rattle.check_payloads.specs.inner.Deletion.{with_one, deletes_with, deletes_among}
use Rattle.check_payloads.specs.inner.Facts.{payloads_of, of_kind, payload_facts_of, no_payloads, first_with, with_payload, CountsFit}
use Rattle.check_payloads.specs.inner.Facts.{CountsGrown}
use Rattle.check_payloads.specs.declared.deletion.Deletes.{Deletes}
use Rattle.check_payloads.specs.declared.PayloadFacts.{PayloadFacts}
use Rattle.check_payloads.proofs.StepLaws.{Step, none_left}
use Rattle.check_payloads.proofs.KindLaws.{count_next, bit}
use Rattle.check_payloads.proofs.DeletedLaws.{Sums, sums-start, fits-here, sums-here, sums-later, sums-last, sums-all}
use Rattle.check_payloads.proofs.BodyLaws.{nothing-from, body-here, body-later}

-- n of a type were passed, x is where the body of the first of them stands; of those that are left it is sought with so much fuel
pub record FirstSo (w : ℕ) (s : List ℕ) (n : ℕ) (x : Stretch) (fuel kind at : ℕ) : Type 0 where
  pub none : n ≡ 0 → (x ≡ nowhere) × (body_from fuel w kind at s ≡ body_of w s)
  pub some : (n ≡ 0 → ⊥) → x ≡ body_of w s

abbrev left_at : List ℕ → ℕ → ℕ → List Payload
left_at s kind at = payloads_in false kind (drop at s)

-- ---- one payload of the kind k, for the kind w
module _ (w k : ℕ) (s : List ℕ) (at : ℕ) (r : PayloadParts) (g : Step false k s at r) where
  abbrev after : List Payload
  after = left_at s r.next (at + r.end)

  count-step : (n m all : ℕ) → m ≡ n + once (eqb k w) → n + count (of_kind w) (left_at s k at) ≡ all → m + count (of_kind w) after ≡ all
  count-step n m all e h =
      bool_cases (eqb k w)
      (λ t. (count_next false w k s at r g n m all (inl (eqb-true k w t, e ∙ ap (λ (b : Bool). n + once b) t)) h).1)
      (λ t.
      let z : m ≡ n = e ∙ ap (λ (b : Bool). n + once b) t ∙ (let y : n + 0 ≡ n = omega arith in y) in
      (count_next false w k s at r g n m all (inr (eqb-false k w t, z)) h).1)

  abbrev place : Stretch
  place = record { start = at + 4; end = at + r.end }

  first_step : (fuel n m : ℕ) (x y : Stretch) → (k ≡ 0 → ⊥) → m ≡ n + once (eqb k w) → y ≡ first_with (eqb k w) n place x
      → FirstSo w s n x (suc fuel) k at → FirstSo w s m y fuel r.next (at + r.end)
  first_step fuel n m x y z e q f = bool_cases (eqb k w) this other
    where
      this : eqb k w ≡ true → FirstSo w s m y fuel r.next (at + r.end)
      this t =
          let one : m ≡ n + 1 = e ∙ ap (λ (b : Bool). n + once b) t in
          record {
            none = λ v. absurd (omega arith);
            some = λ v. bool_cases (eqb n 0)
                (λ u.
                q ∙ (λ i. cond (t i && u i) place x) ∙ sym (body-here false fuel w k s at r g z t)
                ∙ (f.none (eqb-true n 0 u)).1)
                (λ u. q ∙ (λ i. cond (t i && u i) place x) ∙ f.some (eqb-false n 0 u));
          }

      other : eqb k w ≡ false → FirstSo w s m y fuel r.next (at + r.end)
      other t =
          let same : m ≡ n = e ∙ ap (λ (b : Bool). n + once b) t ∙ (let v : n + 0 ≡ n = omega arith in v) in
          let kept : y ≡ x = q ∙ ap (λ (b : Bool). first_with b n place x) t in
          record {
            none = λ v.
                let p = f.none (sym same ∙ v) in
                (kept ∙ p.0, sym (body-later false fuel w k s at r g z t) ∙ p.1);
            some = λ v. kept ∙ f.some (λ u. v (same ∙ u));
          }

-- ---- the rest of what it says
module _ (k : ℕ) (s : List ℕ) (at : ℕ) (r : PayloadParts) (g : Step false k s at r) where
  critical-step : (b c all : Bool) → c ≡ (b || (r.critical && not (is_known k))) → (b || any unknown_critical (left_at s k at)) ≡ all
      → (c || any unknown_critical (left_at s r.next (at + r.end))) ≡ all
  unfolding any
  critical-step b c all e h =
      let rest = any unknown_critical (left_at s r.next (at + r.end)) in
      ap (λ (x : Bool). x || rest) e ∙ sym (or-joined b (r.critical && not (is_known k)) rest)
      ∙ ap (λ (x : Bool). b || (x || rest)) (sym (bit false k s at r g))
      ∙ ap (λ (l : List Payload). b || any unknown_critical l) (sym g.item) ∙ h

  deletes-step : (d e : Deletes) (all : List Delete) → e ≡ deletes_with d k (part s (at + 4) (at + r.end))
      → Sums d (deletes_among (left_at s k at)) all → Sums e (deletes_among (left_at s r.next (at + r.end))) all
  deletes-step d e all q h =
      let o = part s (at + 4) (at + r.end) in
      bool_cases (eqb k 42)
      (λ t. sums-here k s at r g d e all (eqb-true k 42 t) (q ∙ ap (λ (b : Bool). cond b (with_one d (delete_of o)) d) t) h)
      (λ t.
      subst (λ (x : Deletes). Sums x (deletes_among (left_at s r.next (at + r.end))) all)
      (sym (q ∙ ap (λ (b : Bool). cond b (with_one d (delete_of o)) d) t)) (sums-later k s at r g d all (eqb-false k 42 t) h))

-- ---- the walk: where it stands at a place
module _ (s : List ℕ) where
  pub record PayloadWalk (b : PayloadFacts) (kind at : ℕ) : Type 0 where
    pub inside : at ≤ length s
    pub rest : is_whole (nothing_left (payloads false kind 0 (drop at s))) ≡ true
    pub few : (b.gsas ≤ at) × (b.kds ≤ at) × (b.deletes ≤ at) × (b.deletion.spis ≤ 65536 * at)
    pub gsas : b.gsas + count (of_kind 51) (left_at s kind at) ≡ count (of_kind 51) (payloads_of s)
    pub kds : b.kds + count (of_kind 52) (left_at s kind at) ≡ count (of_kind 52) (payloads_of s)
    pub deletes : b.deletes + count (of_kind 42) (left_at s kind at) ≡ count (of_kind 42) (payloads_of s)
    pub critical : (b.critical || any unknown_critical (left_at s kind at)) ≡ any unknown_critical (payloads_of s)
    pub deletion : Sums b.deletion (deletes_among (left_at s kind at)) (deletes_among (payloads_of s))
    pub fuel : ℕ
    pub enough : length s ≤ at + fuel
    pub gsa : FirstSo 51 s b.gsas b.gsa fuel kind at
    pub kd : FirstSo 52 s b.kds b.kd fuel kind at
    pub delete : FirstSo 42 s b.deletes b.delete fuel kind at

  first-none : (w : ℕ) → FirstSo w s 0 nowhere (length s) (first_payload s) 28
  first-none w = record { none = λ z. (refl, refl); some = λ z. absurd (z refl) }

  none_passed : is_whole (nothing_left (payloads false (oct s 16) 0 (drop 28 s))) ≡ true → 28 ≤ length s
      → PayloadWalk no_payloads (oct s 16) 28
  none_passed e h = record {
    inside = h;
    rest = e;
    few = (omega arith, omega arith, omega arith, omega arith);
    gsas = omega arith;
    kds = omega arith;
    deletes = omega arith;
    critical = refl;
    deletion = sums-start (deletes_among (payloads_of s));
    fuel = length s;
    enough = omega arith;
    gsa = first-none 51;
    kd = first-none 52;
    delete = first-none 42;
  }

  pub payloads-start : is_whole (nothing_left (payloads false (oct s 16) 0 (drop 28 s))) ≡ true → 28 ≤ length s → (b : PayloadFacts) →
      b ≡ no_payloads
      → (k : ℕ) → k ≡ oct s 16 → PayloadWalk b k 28
  payloads-start e h b q k kq =
      subst (λ (x : PayloadFacts). PayloadWalk x k 28) (sym q) (subst (λ (n : ℕ). PayloadWalk no_payloads n 28) (sym kq) (none_passed e h))

  module _ (b : PayloadFacts) (kind at : ℕ) (w : PayloadWalk b kind at) where
    module _ (r : PayloadParts) (g : Step false kind s at r) where
      pub payload-room : length s ≤ 16384 → CountsFit kind (part s (at + 4) (at + r.end)) b
      payload-room h = record {
        gsas = omega (arith, w.few.0, w.inside);
        kds = omega (arith, w.few.1, w.inside);
        deletes = omega (arith, w.few.2, w.inside);
        spis = omega (arith, w.few.3, w.inside);
        fits = fits-here kind s at r g;
      }

      -- one step of the fuel is used
      sought : (v n m : ℕ) (x y : Stretch) → (kind ≡ 0 → ⊥) → m ≡ n + once (eqb kind v) →
          y ≡ first_with (eqb kind v) n (record { start = at + 4; end = at + r.end }) x
          → FirstSo v s n x w.fuel kind at → FirstSo v s m y (w.fuel - 1) r.next (at + r.end)
      sought v n m x y z e q f =
          let u : w.fuel ≡ suc (w.fuel - 1) = omega (arith, w.enough, g.some, g.inside) in
          first_step v kind s at r g (w.fuel - 1) n m x y z e q (subst (λ (l : ℕ). FirstSo v s n x l kind at) u f)

      pub payload-next : (kind ≡ 0 → ⊥) → (n : PayloadFacts)
          → (n ≡ with_payload b kind r.critical (record { start = at + 4; end = at + r.end }) (part s (at + 4) (at + r.end)))
          × CountsGrown b n
          → PayloadWalk n r.next (at + r.end)
      payload-next z n (q, u) = record {
        inside = g.inside;
        rest = g.rest;
        few = (
          omega (arith, w.few.0, u.gsas, g.some),
          omega (arith, w.few.1, u.kds, g.some),
          omega (arith, w.few.2, u.deletes, g.some),
          omega (arith, w.few.3, u.spis, g.some),
        );
        gsas = count-step 51 kind s at r g b.gsas n.gsas _ (ap (λ (x : PayloadFacts). x.gsas) q) w.gsas;
        kds = count-step 52 kind s at r g b.kds n.kds _ (ap (λ (x : PayloadFacts). x.kds) q) w.kds;
        deletes = count-step 42 kind s at r g b.deletes n.deletes _ (ap (λ (x : PayloadFacts). x.deletes) q) w.deletes;
        critical = critical-step kind s at r g b.critical n.critical _ (ap (λ (x : PayloadFacts). x.critical) q) w.critical;
        deletion = deletes-step kind s at r g b.deletion n.deletion _ (ap (λ (x : PayloadFacts). x.deletion) q) w.deletion;
        fuel = w.fuel - 1;
        enough = omega (arith, w.enough, g.some, g.inside);
        gsa = sought 51 b.gsas n.gsas b.gsa n.gsa z (ap (λ (x : PayloadFacts). x.gsas) q) (ap (λ (x : PayloadFacts). x.gsa) q)
            w.gsa;
        kd = sought 52 b.kds n.kds b.kd n.kd z (ap (λ (x : PayloadFacts). x.kds) q) (ap (λ (x : PayloadFacts). x.kd) q)
            w.kd;
        delete = sought 42 b.deletes n.deletes b.delete n.delete z (ap (λ (x : PayloadFacts). x.deletes) q)
            (ap (λ (x : PayloadFacts). x.delete) q) w.delete;
      }

    module _ (z : kind ≡ 0) where
      none : left_at s kind at ≡ []
      none = none_left false (drop at s) kind z

      all-counted : (n v : ℕ) → n + count (of_kind v) (left_at s kind at) ≡ count (of_kind v) (payloads_of s)
          → n ≡ count (of_kind v) (payloads_of s)
      unfolding count
      all-counted n v h = let e : count (of_kind v) (left_at s kind at) ≡ 0 = ap (count (of_kind v)) none in omega arith

      all-critical : b.critical ≡ any unknown_critical (payloads_of s)
      unfolding any
      all-critical =
          sym (or-false b.critical) ∙ ap (λ (l : List Payload). b.critical || any unknown_critical l) (sym none) ∙ w.critical

      found : (v n : ℕ) (x : Stretch) → FirstSo v s n x w.fuel kind at → x ≡ body_of v s
      found v n x f =
          bool_cases (eqb n 0)
          (λ t. let p = f.none (eqb-true n 0 t) in p.0 ∙ sym (nothing-from w.fuel v kind at s z) ∙ p.1)
          (λ t. f.some (eqb-false n 0 t))

      pub payloads-end : b ≡ payload_facts_of s
      payloads-end =
          let d = sums-all b.deletion (deletes_among (payloads_of s))
          (sums-last (drop at s) kind b.deletion (deletes_among (payloads_of s)) z w.deletion) in
          λ i. record {
            gsas = all-counted b.gsas 51 w.gsas i;
            kds = all-counted b.kds 52 w.kds i;
            deletes = all-counted b.deletes 42 w.deletes i;
            gsa = found 51 b.gsas b.gsa w.gsa i;
            kd = found 52 b.kds b.kd w.kd i;
            delete = found 42 b.deletes b.delete w.delete i;
            critical = all-critical i;
            deletion = d i;
          }
