use Rattle.std.proofs.Common.{◌≡◌, length, sym, arith, length-take-le, rules}
use Rattle.member.proofs.ReplyLaws.{received_is}
use Rattle.member.proofs.running.receive_frame.Goals as goal

-- `member::running::receive_frame` meets its contract.

pub slice_bounds-octets-end : goal.slice_bounds-octets-end
slice_bounds-octets-end c =
    let l : length c.args.r.key.octets ≡ 32 = search rules in
    omega (arith, c.requires)

pub slice_bounds-receive-end : goal.slice_bounds-receive-end
slice_bounds-receive-end c =
    let k = c.args.r.key in
    let l : length k.octets ≡ 32 = search rules in
    sym (length-take-le k.len k.octets (omega (arith, c.requires)))

pub returns : goal.returns
returns c =
    let a = c.args in
    let k = c.receive-x in
    let p = c.put_reply-at.ensures in
    received_is a.r a.tick a.frame.now k.result.answer k.result.member k.ensures p.put p.a_len_bound
