use Rattle.std.proofs.Common.{◌≡◌, [], arith}
use Rattle.octets.specs.Numbers.{oct}
use Rattle.journaling.proofs.PutLaws.{frame-line, rekey-key, other-rekey, other_key}
use Rattle.journaling.proofs.put_frame.Goals as goal

-- `journaling::put_frame` meets its contract.

pub returns-then-wide-eq-GSA_REKEY : goal.returns-then-wide-eq-GSA_REKEY
returns-then-wide-eq-GSA_REKEY c =
    let s = c.args in
    let e : oct s.frame.now 18 ≡ 41 = omega (arith, c.wide.ensures) in
    frame-line s.frame.now s.lent.now s.tick [] (rekey-key s.frame.now s.lent.now e) c.put_entry.ensures

pub put_entry-requires-2 : goal.put_entry-requires-2
put_entry-requires-2 c =
    let f = c.args.frame.now in
    let e : oct f 18 ≡ 41 → ⊥ = λ q. omega (arith, c.wide.ensures) in
    record {
      key_len_bound = c.requires.key (other-rekey f e);
      frame_len_bound = c.requires.most;
    }

pub returns : goal.returns
returns c =
    let s = c.args in
    let e : oct s.frame.now 18 ≡ 41 → ⊥ = λ q. omega (arith, c.wide.ensures) in
    frame-line s.frame.now s.lent.now s.tick s.lent.now (other_key s.frame.now s.lent.now e) c.put_entry-2.ensures
