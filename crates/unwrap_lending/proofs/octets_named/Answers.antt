use native.Mathlib.Omega.{arith}
use Prim.Native.Nat.{ℕ, ◌+◌, ◌≤◌}
use mathlib.Core.Path.{ap, sym, ◌∙◌}
use lib.ListN.{length}
use mathlib.Core.Bool.{Bool, cond}
use Rattle.unwrap_lending.specs.inner.Named.{key_start}
use Rattle.unwrap_lending.proofs.Blocks.{ids-length}
use Rattle.unwrap_lending.proofs.Naming.{first_found, first-none, start-found, start_none, in-fresh, in_held, in-neither}
use Rattle.unwrap_lending.proofs.octets_named.Goals as goal

-- `unwrap_lending::octets_named` meets its contract.

pub value_at-requires : goal.value_at-requires
value_at-requires c =
    let p = c.requires.lends in
    let a = c.args in
    let n = ids-length p.0 a.carried.now a.fresh.now p.1 in
    (p.0, a.carried.now, p.1, omega (arith, n, c.in-Some.ensures.1))

pub returns-in-Some : goal.returns-in-Some
returns-in-Some c =
    let a = c.args in
    let p = c.in-Some.ensures.0 in
    let h = c.in-Some.ensures.1 in
    let in-first = (first_found a.id a.carried.now c.in-Some.i p h).0 in record {
      result_value = (λ new old f o.
          let n = ids-length new a.carried.now a.fresh.now f in
          c.value_at.ensures.result_value new a.carried.now f (omega (arith, n, h))
          ∙ in-fresh a.id new old a.carried.now a.fresh.now a.ids.now a.held.now f o c.in-Some.i p h);
      ref_ptr_value = c.value_at.ensures.ref_ptr_value
          ∙ ap (λ (n : ℕ). (a.fresh.ref_ptr.0, n + a.fresh.ref_ptr.1)) (start-found a.id a.carried.now c.in-Some.i p h)
          ∙ ap
          (λ (b : Bool). cond b (a.fresh.ref_ptr.0, key_start a.id a.carried.now + a.fresh.ref_ptr.1)
          (a.held.ref_ptr.0, key_start a.id a.ids.now + a.held.ref_ptr.1)) (sym in-first);
    }

pub value_at-requires-in-Some-place_of : goal.value_at-requires-in-Some-place_of
value_at-requires-in-Some-place_of c =
    let p = c.requires.lends_2 in
    let a = c.args in
    let n = ids-length p.0 a.ids.now a.held.now p.1 in
    (p.0, a.ids.now, p.1, omega (arith, n, c.in-Some-place_of.ensures.1))

pub returns-in-Some-place_of : goal.returns-in-Some-place_of
returns-in-Some-place_of c =
    let a = c.args in
    let p = c.in_default.ensures in
    let g : length a.carried.now ≤ length a.carried.now = omega arith in
    let q = c.in-Some-place_of.ensures.0 in
    let h = c.in-Some-place_of.ensures.1 in
    let j = c.in-Some-place_of.j in record {
      result_value = (λ new old f o.
          let n = ids-length old a.ids.now a.held.now o in
          c.value_at-in-Some-place_of.ensures.result_value old a.ids.now o (omega (arith, n, h))
          ∙ in_held a.id new old a.carried.now a.fresh.now a.ids.now a.held.now f o _ p g j q h);
      ref_ptr_value = c.value_at-in-Some-place_of.ensures.ref_ptr_value
          ∙ ap (λ (n : ℕ). (a.held.ref_ptr.0, n + a.held.ref_ptr.1)) (start-found a.id a.ids.now j q h)
          ∙ ap
          (λ (b : Bool). cond b (a.fresh.ref_ptr.0, key_start a.id a.carried.now + a.fresh.ref_ptr.1)
          (a.held.ref_ptr.0, key_start a.id a.ids.now + a.held.ref_ptr.1))
          (sym (first-none a.id a.carried.now _ p g));
    }

pub returns : goal.returns
returns c =
    let a = c.args in
    let p = c.in_default.ensures in
    let q = c.in_default-place_of.ensures in
    let g : length a.carried.now ≤ length a.carried.now = omega arith in
    let h : length a.ids.now ≤ length a.ids.now = omega arith in
    record {
      result_value = (λ new old f o.
          in-neither a.id new old a.carried.now a.fresh.now a.ids.now a.held.now f o _ p g _ q h);
      ref_ptr_value = ap (λ (n : ℕ). (a.held.ref_ptr.0, n + a.held.ref_ptr.1)) (start_none a.id a.ids.now _ q h)
          ∙ ap
          (λ (b : Bool). cond b (a.fresh.ref_ptr.0, key_start a.id a.carried.now + a.fresh.ref_ptr.1)
          (a.held.ref_ptr.0, key_start a.id a.ids.now + a.held.ref_ptr.1))
          (sym (first-none a.id a.carried.now _ p g));
    }
