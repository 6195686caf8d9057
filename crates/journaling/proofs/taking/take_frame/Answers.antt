use Rattle.std.proofs.Common.{◌≡◌, ℕ, ◌+◌, ◌-◌, take, ap, arith}
use Rattle.text_rules.proofs.InputLaws.{part-rest}
use Rattle.journaling.proofs.TakeLaws.{hands-there, frame-taken, frame_refused}
use Rattle.journaling.proofs.taking.take_frame.Goals as goal

-- `journaling::taking::take_frame` meets its contract.

pub overflow_add-behind : goal.overflow_add-behind
overflow_add-behind c = let h = hands-there c.args.n c.args.o.now c.requires in omega arith

pub be32_at-tick-requires : goal.be32_at-tick-requires
be32_at-tick-requires c = let h = hands-there c.args.n c.args.o.now c.requires in omega arith

pub slice_bounds-receive-count : goal.slice_bounds-receive-count
slice_bounds-receive-count c = let h = hands-there c.args.n c.args.o.now c.requires in omega arith

pub slice_bounds-receive-start : goal.slice_bounds-receive-start
slice_bounds-receive-start c = let h = hands-there c.args.n c.args.o.now
    c.requires in omega arith

pub slice_bounds-receive-end-2 : goal.slice_bounds-receive-end-2
slice_bounds-receive-end-2 c = let h = hands-there c.args.n c.args.o.now
    c.requires in omega arith

pub returns : goal.returns
returns c =
    let o = c.args.o.now in
    let k : c.args.n - 0 ≡ c.args.n = omega arith in
    frame-taken c.args.n o c.args.member c.requires c.be32_at-tick.ensures (ap (λ (i : ℕ). take i o) k) (part-rest
    (c.args.n + 4) o) c.receive-x.ensures
    (omega (arith, c.number.ensures))

pub returns-then-number-ne0 : goal.returns-then-number-ne0
returns-then-number-ne0 c =
    let o = c.args.o.now in
    let k : c.args.n - 0 ≡ c.args.n = omega arith in
    frame_refused c.args.n o c.args.member c.requires c.be32_at-tick.ensures (ap (λ (i : ℕ). take i o) k) (part-rest
    (c.args.n + 4) o) c.receive-x.ensures
    (λ z. omega (arith, z, c.number.ensures))
