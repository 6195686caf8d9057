use mathlib.Core.Path.{◌≡◌, refl, subst, ◌∙◌}
use Prim.Native.Nat.{ℕ, ◌+◌, ◌*◌, ◌/◌}
use lib.ListN.{length}
use Rattle.gcm.specs.inner.Puts.{PutsOctets}
use native.Mathlib.Omega.{arith}
use Rattle.gcm.proofs.StreamLaws.{Streaming, streamed, none-put, more-put, all-put}
use Rattle.gcm.proofs.stream.gctr_in.Goals as goal

-- `gcm::stream::gctr_in` meets its contract.

pub loop-i-init : goal.loop-i-init
loop-i-init c =
    let a = c.args in
    record {
      inside = omega arith;
      count = omega arith;
      size = refl;
      puts = λ key e. none-put a.nonce.now c.requires.nonce_len.0 key a.c.now a.room.now;
    }

pub loop-i-preserved : goal.loop-i-preserved
loop-i-preserved c =
    let a = c.args in
    record {
      inside = omega arith;
      count = omega arith;
      size = c.add_block.ensures.size ∙ c.loop-i.invariant.size;
      puts = λ key e.
          subst (λ (n : ℕ). PutsOctets (streamed a.nonce.now key a.c.now) 0 n a.room.now c.add_block.new.room) (omega arith)
          (more-put a.nonce.now c.requires.nonce_len.0 key a.c.now a.room.now (omega arith) c.loop-i.invariant.count
          (omega arith) (omega arith)
          (c.block_of.ensures ∙ c.encipher_counter-m.ensures key e) (c.loop-i.invariant.puts key e) c.add_block.ensures);
    }

pub shape_of-room-then-at-c : goal.shape_of-room-then-at-c
shape_of-room-then-at-c c =
    c.add_block-then-at-c.ensures.size ∙ c.loop-i.invariant.size

-- the loop has gone over all whole blocks
pub returns-then-at-c : goal.returns-then-at-c
returns-then-at-c c = λ key e.
    let a = c.args in
    let v = subst (λ (i : ℕ). Streaming a.schedule.now a.nonce.now a.c.now a.room.now c.loop-i.room (16 * i) (2 + i))
    (let q : c.loop-i.i ≡ length a.c.now / 16 = omega arith in q) c.loop-i.invariant in
    all-put a.nonce.now c.requires.nonce_len.0 key a.c.now a.room.now c.requires.nonce_len.1 refl
    (more-put a.nonce.now c.requires.nonce_len.0 key a.c.now a.room.now (omega arith) v.count (omega arith) (omega arith)
    (c.block_of-then-at-c.ensures ∙ c.encipher_counter-m-then-at-c.ensures key e) (v.puts key e) c.add_block-then-at-c.ensures)

pub returns-else-at-c : goal.returns-else-at-c
returns-else-at-c c = λ key e.
    let a = c.args in
    all-put a.nonce.now c.requires.nonce_len.0 key a.c.now a.room.now c.requires.nonce_len.1 (omega arith) (c.loop-i.invariant.puts key e)
