use mathlib.Core.Path.{refl}
use Prim.Native.Nat.{◌-◌}
use native.Mathlib.Omega.{arith}
use lib.ListN.{length}
use Rattle.gcm.proofs.OpenLaws.{is-so, is-not-so, opening-size, part-size, open_none, open-some}
use Rattle.gcm.proofs.open.Goals as goal

-- `gcm::open` meets its contract.

pub returns-then-octets-lt-TAG_OCTETS : goal.returns-then-octets-lt-TAG_OCTETS
returns-then-octets-lt-TAG_OCTETS c =
    let a = c.args in
    record {
      none = λ x h. omega (
        arith,
        opening-size a.key.now a.nonce.now a.a.now a.octets.now a.room.now x h,
        c.if-octets-lt-TAG_OCTETS.true,
      );
      room-is = refl;
    }

pub returns-then-room-n : goal.returns-then-room-n
returns-then-room-n c =
    let a = c.args in
    record {
      none = λ x h. omega (
        arith,
        opening-size a.key.now a.nonce.now a.a.now a.octets.now a.room.now x h,
        h.holds,
        c.if-room-n.true,
      );
      room-is = refl;
    }

pub returns-then-n-gt-MOST_TEXT : goal.returns-then-n-gt-MOST_TEXT
returns-then-n-gt-MOST_TEXT c =
    let a = c.args in
    record {
      none = λ x h. omega (
        arith,
        opening-size a.key.now a.nonce.now a.a.now a.octets.now a.room.now x h,
        h.supported.text-most,
        c.if-n-gt-MOST_TEXT.true,
      );
      room-is = refl;
    }

pub expand-schedule-requires : goal.expand-schedule-requires
expand-schedule-requires c =
    record {
      tables_value = c.tables-tables.ensures;
      t = is-so c.is_key.ensures c.if-not-is_key.false;
    }

pub verify_tag-requires : goal.verify_tag-requires
verify_tag-requires c =
    let a = c.args in record {
      tables_value = (c.tables-tables.ensures, record { key = a.key.now; expands = c.expand-schedule.ensures });
      nonce_len = (omega arith, omega arith);
      tag_octets_in_bounds = (omega arith, omega arith);
    }

pub gctr_in-requires : goal.gctr_in-requires
gctr_in-requires c =
    let a = c.args in
    let n = part-size a.octets.now (length a.octets.now - 16) (omega arith) in record {
      tables_value = (c.tables-tables.ensures, record { key = a.key.now; expands = c.expand-schedule.ensures });
      nonce_len = (omega arith, omega (arith, n), omega (arith, n));
    }

pub returns-then-not-is_key : goal.returns-then-not-is_key
returns-then-not-is_key c = record { none = λ x h. is-not-so c.is_key.ensures c.if-not-is_key.true h.key-size; room-is = refl }

pub returns-then-not-verify_tag : goal.returns-then-not-verify_tag
returns-then-not-verify_tag c =
    let a = c.args in
    record {
      none = open_none a.key.now a.nonce.now a.a.now a.octets.now a.room.now c.verify_tag.result
          (c.verify_tag.ensures a.key.now c.expand-schedule.ensures) c.if-not-verify_tag.true;
      room-is = refl;
    }

pub returns : goal.returns
returns c =
    let a = c.args in
    open-some a.key.now a.nonce.now a.a.now a.octets.now a.room.now c.verify_tag.result
    (c.verify_tag.ensures a.key.now c.expand-schedule.ensures)
    c.if-not-verify_tag.false
    (is-so c.is_key.ensures c.if-not-is_key.false) (omega arith) (omega arith) (omega arith) (omega arith)
    (c.gctr_in.ensures a.key.now c.expand-schedule.ensures)
