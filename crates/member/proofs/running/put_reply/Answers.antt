use Rattle.std.proofs.Common.{w64, Fits, rules}
use Rattle.member.proofs.ReplyLaws.{told_is, told-short}
use Rattle.member.proofs.running.put_reply.Goals as goal

-- `member::running::put_reply` meets its contract.

pub returns : goal.returns
returns c =
    let fig = c.figure-figure in
    let num = c.number-number in
    let a = c.args in
    let f : Fits w64 num.result = search rules in
    let g : Fits w64 a.sas = search rules in
    let h : Fits w64 a.held = search rules in
    let k : Fits w64 fig.result = search rules in record {
      put = told_is num.result a.a a.sas a.held fig.result num.ensures fig.ensures c.put_answer.ensures;
      a_len_bound = told-short num.result a.a a.sas a.held fig.result num.ensures fig.ensures f.fits g.fits h.fits
          k.fits;
    }
