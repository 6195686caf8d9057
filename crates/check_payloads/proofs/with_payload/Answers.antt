use native.Mathlib.Omega.{arith}
use Prim.Native.Nat.{◌+◌}
use mathlib.Core.Bool.{◌||◌, ◌&&◌, not}
use lib.Dec.{eqb}
use Rattle.wire_readers.proofs.ValuesLaws.{few-once}
use Rattle.check_payloads.proofs.with_payload.Goals as goal

pub overflow_add-gsas : goal.overflow_add-gsas
overflow_add-gsas c =
    record { fits = omega (arith, few-once c.one_if.result (eqb c.args.kind 51) c.one_if.ensures, c.requires.gsas) }

pub overflow_add-kds : goal.overflow_add-kds
overflow_add-kds c =
    record { fits = omega (arith, few-once c.one_if-2.result (eqb c.args.kind 52) c.one_if-2.ensures, c.requires.kds) }

pub overflow_add-deletes : goal.overflow_add-deletes
overflow_add-deletes c =
    record { fits = omega (arith, few-once c.one_if-3.result (eqb c.args.kind 42) c.one_if-3.ensures, c.requires.deletes) }

pub returns : goal.returns
returns c =
    let a = c.args in
    let b = a.b in (
      (λ i. record {
        gsas = b.gsas + c.one_if.ensures i;
        kds = b.kds + c.one_if-2.ensures i;
        deletes = b.deletes + c.one_if-3.ensures i;
        gsa = c.first-gsa.ensures i;
        kd = c.first-kd.ensures i;
        delete = c.first-delete.ensures i;
        critical = b.critical || (a.critical && not (c.is_known-known.ensures i));
        deletion = c.with_payload-deletion.ensures.0 i;
      }),
      record {
        gsas = omega (arith, few-once c.one_if.result (eqb a.kind 51) c.one_if.ensures);
        kds = omega (arith, few-once c.one_if-2.result (eqb a.kind 52) c.one_if-2.ensures);
        deletes = omega (arith, few-once c.one_if-3.result (eqb a.kind 42) c.one_if-3.ensures);
        spis = c.with_payload-deletion.ensures.1;
      },
    )
