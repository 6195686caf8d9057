use Prim.Native.Nat.{◌-◌, ◌/◌}
use native.Mathlib.Omega.{arith}
use lib.ListN.{length}
use mathlib.Core.Path.{refl}
use Rattle.keywrap.specs.inner.Blank.{blank}
use Rattle.keywrap.proofs.Opening.{opening-least, opening-most, opening-whole, opened}
use Rattle.keywrap.proofs.open_under.Goals as goal
use Rattle.keywrap.proofs.open_under.Goals.{then-size-lt-LEAST_WRAPPED-via-then-size-lt-LEAST_WRAPPED, then-size-lt-LEAST_WRAPPED-via-else-size-lt-LEAST_WRAPPED+then-size-gt-MOST_WRAPPED, then-size-lt-LEAST_WRAPPED-via-else-size-lt-LEAST_WRAPPED+else-size-gt-MOST_WRAPPED+then-size-ne0}

-- `keywrap::open_under` meets its contract.

pub returns-then-size-lt-LEAST_WRAPPED : goal.returns-then-size-lt-LEAST_WRAPPED
returns-then-size-lt-LEAST_WRAPPED c = λ key e.
    let w = c.args.wrapped.now in
    record {
      none = λ x h.
          let least = opening-least key w blank x e.key-is.small h in
          let most = opening-most key w blank x e.key-is.small h in
          let whole = opening-whole key w blank x e.key-is.small h in
          elim c.then-size-lt-LEAST_WRAPPED.branch [
            | then-size-lt-LEAST_WRAPPED-via-then-size-lt-LEAST_WRAPPED p ↦ omega arith
            | then-size-lt-LEAST_WRAPPED-via-else-size-lt-LEAST_WRAPPED+then-size-gt-MOST_WRAPPED p ↦ omega arith
            | then-size-lt-LEAST_WRAPPED-via-else-size-lt-LEAST_WRAPPED+else-size-gt-MOST_WRAPPED+then-size-ne0 p ↦ omega arith
          ];
      room-is = refl;
    }

pub returns : goal.returns
returns c = λ key e.
    let w = c.args.wrapped.now in
    opened key w c.unwrap_registers.result (length w / 8 - 1) e.key-is (λ i. (c.shared_slice_known-1.given i).fits)
    (omega arith) (omega arith) (omega arith)
    (c.unwrap_registers.ensures key e) c.check_registers.result
    c.check_registers.ensures
