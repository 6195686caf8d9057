-- What the answers of the calls on lines give their caller: the key and the frame as parts of what was lent.
use Prim.Native.Nat.{ℕ, ◌/◌, ◌≤◌}
use mathlib.Core.Path.{◌≡◌, refl, ap, sym, subst, ◌∙◌}
use mathlib.Core.List.{List, [], ◌∷◌}
use native.Mathlib.Omega.{arith}
use lib.ListN.{length, take, drop, length-drop}
use Rattle.lists.proofs.Cases.{bool_cases}
use Rattle.std.specs.Prelude.{Some, None}
use Rattle.text_rules.specs.Hex.{octets_of_hex}
use Rattle.text_rules.specs.Input.{Asked, is_taken, line_key, frame, asked_by}
use Rattle.text_rules.specs.Answer.{bad_text}
use Rattle.text_rules.specs.Transcript.{CallRelation, LineOutcome, told, RepliesTo, Replies}
use Rattle.text_lines.specs.inner.Calls.{KeyLineGives, Asks}
use Rattle.text_lines.specs.declared.LineKey.{LineKey}
use Rattle.text_rules.proofs.InputLaws.{taken-bounds, key-taken, key-other, asked-other}
use Rattle.text_lines.proofs.RoomLaws.{length-put, put_next, put-taken}

pub length-octets : (text : List ℕ) → length (octets_of_hex text) ≡ length text / 2
unfolding octets_of_hex
length-octets [] = refl
length-octets (h ∷ []) = refl
length-octets (h ∷ l ∷ text) = let r = length-octets text in omega arith

pub key-short : (line : List ℕ) → length (line_key line) ≤ 32
key-short line =
    bool_cases (is_taken 0 64 line)
    (λ e.
    let b = taken-bounds 0 64 line e in
    let l = ap length (key-taken line e) ∙ length-octets line in
    omega arith)
    (λ e. let l = ap length (key-other line e) in omega arith)

-- the key of a first line is the first octets of what was given
pub given-key : (line : List ℕ) {r : LineKey} → KeyLineGives line r → take r.len r.octets ≡ line_key line
given-key line p = let s = key-short line in put-taken p (omega arith)

pub given-length : (line : List ℕ) {r : LineKey} → KeyLineGives line r → r.len ≡ length (line_key line)
given-length line p =
    let s = key-short line in
    let e = put_next p (omega arith) in
    omega arith

frame-short : (line : List ℕ) (tick : ℕ) (octets : List ℕ) → asked_by line ≡ frame tick octets → length (octets_of_hex (drop 8 line)) ≤ 16384
frame-short line tick octets q =
    bool_cases (is_taken 8 32776 line)
    (λ e.
    let b = taken-bounds 8 32776 line e in
    let l = length-octets (drop 8 line) in
    let d = length-drop 8 line in
    omega arith)
    (λ e. let o = asked-other line e in let z : ◌≡◌ {A = ℕ} 0 1 = cc in absurd (omega arith))

-- the frame of a later line is the first octets of a room that has 16,384
module _ (line : List ℕ) {room after : List ℕ} {tick len : ℕ}
    (p : Asks line room after (Some (record { tick = tick; len = len }))) (h : 16384 ≤ length room) where
  pub asked-frame : take len after ≡ octets_of_hex (drop 8 line)
  asked-frame = let s = frame-short line tick (octets_of_hex (drop 8 line)) p.0 in put-taken p.1 (omega arith)

  pub asked-inside : len ≤ length after
  asked-inside = let l = length-put p.1 in omega (arith, p.1.place)

-- what the program does with a later line is what the line asks
module _ {S : Type 0} (step : CallRelation S) (key : List ℕ) (member : S) (line : List ℕ) {room after : List ℕ} where
  pub reply-bad : Asks line room after None → Replies step key member line (record { next = member; text = bad_text })
  reply-bad p = subst (λ (x : Asked). RepliesTo step key member x (record { next = member; text = bad_text })) (sym p.0) refl

  pub reply-frame : {tick len : ℕ} (o : LineOutcome S) → Asks line room after (Some (record { tick = tick; len = len })) → 16384 ≤ length room
      → step member key tick (take len after) o → Replies step key member line (told o)
  reply-frame {tick} o p h q =
      subst (λ (x : Asked). RepliesTo step key member x (told o)) (sym p.0)
      (o, subst (λ (f : List ℕ). step member key tick f o) (asked-frame line p h) q, refl)
