use Rattle.std.proofs.Common.{refl}
use Rattle.state.specs.Held.{keys_of}
use Rattle.unwrap_paths.proofs.Putting.{put-none, put-not, put_next, put-over, put-end, at_default, at-end, at-over}
use Rattle.unwrap_paths.proofs.held.path_before.Goals as goal
use Rattle.unwrap_paths.proofs.held.path_before.Goals.{then-stays+else-count-ge-HELD_KEYS, else-stays}

-- `unwrap_paths::held::path_before` meets its contract.

pub returns-then-end-eq0 : goal.returns-then-end-eq0
returns-then-end-eq0 c =
    let a = c.args in
    let r = c.requires.count_le_held_keys in
    at_default (keys_of a.path) a.end (keys_of a.old) c.if-end-eq0.true a.path r.1 r.0

pub loop-k-init : goal.loop-k-init
loop-k-init c =
    let a = c.args in
    let r = c.requires.count_le_held_keys in
    put-none (keys_of a.path) a.end (keys_of a.old) a.path r.1 r.0

pub returns-then-count-ge-HELD_KEYS : goal.returns-then-count-ge-HELD_KEYS
returns-then-count-ge-HELD_KEYS c =
    let l = c.loop-k in
    let a = c.args in
    let p = keys_of a.path in
    at-over p a.end (keys_of a.old) c.if-end-eq0.false a.old
    (put-over p a.end (keys_of a.old) l.keys l.count l.met l.k-index l.invariant c.loop-k-test.true _ _ _ refl c.stays.ensures
    c.if-stays.true c.if-count-ge-HELD_KEYS.true)

pub loop-k-preserved : goal.loop-k-preserved
loop-k-preserved c =
    let l = c.loop-k in
    let a = c.args in
    let p = keys_of a.path in
    elim c.if-stays.branch [
      | then-stays+else-count-ge-HELD_KEYS w ↦ rw (w.keys-is, w.count-is)
          (put_next p a.end (keys_of a.old) l.keys l.count l.met l.k-index l.invariant c.loop-k-test.true _ _ _ refl c.stays.ensures
          w.if-stays.true w.if-count-ge-HELD_KEYS.false)
      | else-stays w ↦ rw (w.keys-is, w.count-is)
          (put-not p a.end (keys_of a.old) l.keys l.count l.met l.k-index l.invariant c.loop-k-test.true _ _ _ refl c.stays.ensures
          w.if-stays.false)
    ]

pub returns : goal.returns
returns c =
    let l = c.loop-k in
    let a = c.args in
    at-end (keys_of a.path) a.end (keys_of a.old) c.if-end-eq0.false _
    (put-end (keys_of a.path) a.end (keys_of a.old) l.keys l.count l.met l.k-index c.loop-k-test.false l.invariant) l.invariant.few
