-- Lines that are too long to be taken, and the room that holds every line that is written.
use native.Mathlib.Omega.{arith}
use Prim.Native.Nat.{ℕ, ◌+◌, ◌*◌, ◌%◌, ◌<◌, ◌≤◌}
use mathlib.Core.Path.{◌≡◌}
use mathlib.Core.Bool.{false, ◌&&◌}
use mathlib.Core.Logic.{inl, inr}
use mathlib.Core.List.{List, [], ◌∷◌, ◌++◌}
use borrow.Author.Tests.{eqb-true, eqb-false, ne_eqb}
use lib.Dec.{eqb}
use lib.ListN.{length, take, length-drop, length-append}
use Rattle.octets.specs.Numbers.{octets_of}
use Rattle.octets.specs.Octets.{Octets}
use Rattle.octets.specs.Walk.{be32}
use Rattle.octets.proofs.RoundTrip.{length-octets}
use Rattle.state_keys.specs.Limits.{Limits}
use Rattle.lists.proofs.Cases.{bool_cases, lt-cases, and_parts}
use Rattle.text_rules.specs.Hex.{are_digits, is_hex, octets_of_hex, digits_of}
use Rattle.text_rules.proofs.RoundTrip.{length-written}
use Rattle.text_lines.proofs.CallLaws.{length-octets as length-read}
use Rattle.state.specs.declared.State.{State}
use Rattle.rules_outcome.specs.Outcome.{Outcome, no-layout}
use Rattle.rules_outcome.specs.Run.{Event, handed, sweep, leave}
use Rattle.journal_rules.specs.Line.{tick_octets, is_gsa_rekey, key_read, entry_octets, event_octets, line_of}
use Rattle.journal_rules.specs.Line.{Said, frame_behind, hands_in, handed_by, said_of, read_line}
use Rattle.journal_rules.specs.Replay.{TakesEffect, StopsReading}
use Rattle.journal_rules.specs.Claims.{KeyFits, line_room}
use Rattle.journal_rules.specs.inner.Longest.{longest_octets, longest_digits}
use Rattle.journal_rules.proofs.Accepting.{accepted-frame}
use Rattle.journal_rules.proofs.LineExactly.{read-octets}

-- ---- lengths of lines
pub length-entry : (key : List ℕ) (tick : ℕ) (frame : List ℕ) → length (entry_octets key tick frame) ≡ 5 + length key + length frame
length-entry key tick frame =
    let a = length-append key (octets_of tick_octets tick ++ frame) in
    let b = length-append (octets_of tick_octets tick) frame in
    let c = length-octets 4 tick in
    omega arith

pub length-line : (x : Event) → length (line_of x) ≡ 1 + 2 * length (event_octets x)
unfolding line_of
length-line x =
    let a = length-append (digits_of (event_octets x)) (10 ∷ []) in
    let b = length-written (event_octets x) in
    omega arith

module _ (limits : Limits) (s : State) where
  abbrev Stopped : Said → Type 0
  Stopped x = StopsReading limits s x

  -- a frame of over 16,384 octets is number 1
  long-refused : (frame lent : List ℕ) (tick : ℕ) → 16384 < length frame → Outcome limits s tick lent frame 1 s
  long-refused frame lent tick h = no-layout (λ f e. let m = e.most in omega arith)

  stop-handed : (n : ℕ) (o : List ℕ) → n < 255 → longest_octets ≤ length o → Stopped (handed_by n o)
  stop-handed n o few h =
      let d = length-drop (n + tick_octets) o in
      bool_cases (hands_in n o) (λ e. rw e (0, long-refused (frame_behind n o) (take n o) (be32 o n) (omega arith))) (λ e. rw e tt)

  stop-octets : (n : ℕ) (o : List ℕ) → n < 256 → longest_octets ≤ length o → Stopped (said_of (n ∷ o))
  unfolding said_of
  stop-octets n o b h =
      let z = ne_eqb (length o) 0 (λ e. omega arith) in
      let y = ne_eqb (length o) 4 (λ e. omega arith) in
      bool_cases (eqb n 255) (λ e. rw (e, z) tt)
      (λ e.
      let few : n < 255 = let q = eqb-false n 255 e in lt-cases n 255 (λ k. k) (λ k. absurd (q (omega arith))) in
      let no-sweep : (eqb n 0 && eqb (length o) 4) ≡ false = bool_cases (eqb n 0) (λ q. rw (q, y)) (λ q. rw q) in
      rw (e, no-sweep) (stop-handed n o few h))

  stop-long : (o : List ℕ) → Octets o → longest_octets < length o → Stopped (said_of o)
  stop-long [] k h = absurd (omega arith)
  stop-long (n ∷ o) k h = stop-octets n o (k 0) (omega arith)

  -- A LINE OF MORE DIGITS STOPS THE READING
  pub long-stops : (text : List ℕ) → longest_digits < length text → Stopped (read_line text)
  unfolding read_line is_hex
  long-stops text h =
      bool_cases (is_hex text)
      (λ e.
      let p = eqb-true (length text % 2) 0 (and_parts (are_digits text) _ e).1 in
      let l = length-read text in
      rw e (stop-long (octets_of_hex text) (read-octets text) (omega arith)))
      (λ e. rw e tt)

  -- ---- "A room of 32,843 octets holds every line"
  key-short : (frame lent : List ℕ) → (is_gsa_rekey frame ≡ false → KeyFits lent) → length (key_read frame lent) ≤ 32
  key-short frame lent k = bool_cases (is_gsa_rekey frame) (λ e. rw e (omega arith)) (λ e. rw e (fits (k e)))
    where
      fits : KeyFits lent → length lent ≤ 32
      fits (inl e) = omega arith
      fits (inr (inl e)) = omega arith
      fits (inr (inr e)) = omega arith

  octets-short : (x : Event) (next : State) → TakesEffect limits s x next → length (event_octets x) ≤ 16421
  unfolding event_octets
  octets-short (handed f l t) next o =
      let a = accepted-frame limits s t l f next o in
      let m = a.most in
      let k = key-short f l a.key in
      let n = length-entry (key_read f l) t f in
      omega arith
  octets-short (sweep t) next o = let n = length-entry [] t [] in omega arith
  octets-short leave next o = omega arith

  pub holds-every-line : (x : Event) (next : State) → TakesEffect limits s x next → length (line_of x) ≤ line_room
  holds-every-line x next o = let a = octets-short x next o in let b = length-line x in omega arith
