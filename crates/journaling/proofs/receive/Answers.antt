use Rattle.std.proofs.Common.{◌≡◌, ◌∙◌, arith}
use Rattle.rules_outcome.specs.Run.{handed}
use Rattle.gikev2.specs.Receive.{number_of}
use Rattle.journaling.proofs.PutLaws.{accepted-writable, accepted-step, accepted-offset, refused-frame}
use Rattle.journaling.proofs.receive.Goals as goal

-- `journaling::receive` meets its contract.

pub returns-then-number-ne0 : goal.returns-then-number-ne0
returns-then-number-ne0 c =
    let s = c.args in
    refused-frame s.member s.tick s.lent.now s.frame.now c.receive-x.result.answer c.receive-x.result.member
    c.receive-x.ensures (λ z. omega (arith, z, c.number.ensures)) s.room.now

pub put_frame-line-requires : goal.put_frame-line-requires
put_frame-line-requires c =
    let s = c.args in
    accepted-writable s.member s.tick s.lent.now s.frame.now c.receive-x.result.answer c.receive-x.result.member
    c.receive-x.ensures (omega (arith, c.number.ensures))

pub returns : goal.returns
returns c =
    let s = c.args in
    let a = c.receive-x.result.answer in
    let next = c.receive-x.result.member in
    let z : number_of a ≡ 0 = omega (arith, c.number.ensures) in
    let o = c.receive-x.ensures in
    record {
      step =
          c.entered.ensures.by_index (handed s.frame.now s.lent.now s.tick) s.room.now c.put_frame-line.new.room
          (accepted-step s.member s.tick s.lent.now s.frame.now a next o z) c.put_frame-line.ensures;
      offset =
          c.entered.ensures.result_value ∙ accepted-offset s.member s.tick s.lent.now s.frame.now a next o z;
    }
