use Prim.Native.Nat.{ℕ, ◌+◌, ◌-◌, ◌*◌, ◌/◌, min}
use mathlib.Core.Path.{◌≡◌, sym, ◌∙◌}
use mathlib.Core.List.{List}
use native.Mathlib.Omega.{arith}
use lib.ListN.{length}
use Rattle.lists.proofs.Cases.{lt-cases}
use Rattle.text_rules.specs.Hex.{octets_of_hex}
use Rattle.text_rules.proofs.HexLaws.{read_more, read-end}
use Rattle.text_lines.specs.inner.Room.{Put}
use Rattle.text_lines.proofs.RoomLaws.{puts-more, puts-done, puts-full, length-puts, put-octet-as, put-stored}
use Rattle.text_lines.proofs.put_octets.Invariants.{Putting}
use Rattle.text_lines.proofs.put_octets.Goals as goal

-- `text_lines::put_octets` meets its contract. The invariant: the octets of the digits passed are put, as many as the turns so far.

-- all are put: none is left, or no room
all-put : (text : List ℕ) {room₀ : List ℕ} {at : ℕ} (k : ℕ) {room : List ℕ} → Putting room₀ at text k room
    → k ≡ min (length text / 2) (length room₀ - at) → Put room₀ at (octets_of_hex text) room (at + k)
all-put text {room₀} {at} k p e =
    lt-cases (length room₀ - at) (length text / 2) (λ h. puts-full p (omega arith))
    (λ h. puts-done p (read-end text (2 * k) (omega arith)))

pub loop-k-preserved : goal.loop-k-preserved
loop-k-preserved c =
    let a = c.args in
    let k = c.loop-k.k in
    let n = c.fitting-n.ensures in
    let e = length-puts c.loop-k.invariant in
    let two : 2 * k + 2 ≡ 2 * (k + 1) = omega arith in
    let place : a.at + k + 1 ≡ a.at + (k + 1) = omega arith in
    let o = put-octet-as c.octet_at.ensures (put-stored c.loop-k.room (a.at + k) c.octet_at.result (omega (arith, e, n))) in
    let more = puts-more _ c.loop-k.invariant (read_more a.text.now (2 * k) (omega (arith, n))) o in
    rw (sym place) (rw (sym two) more)

pub returns : goal.returns
returns c =
    let k = c.loop-k.k in
    let e : k ≡ c.fitting-n.result = omega arith in
    rw (sym e) (all-put c.args.text.now k c.loop-k.invariant (e ∙ c.fitting-n.ensures))
