-- A LINE SAYS ITS STEP, and a text that says a step is the line of that step.
use native.Mathlib.Omega.{arith}
use Prim.Native.Nat.{ℕ, ◌+◌, ◌^◌, ◌<◌}
use mathlib.Core.Path.{◌≡◌, refl, ap, sym, ◌∙◌}
use mathlib.Core.Bool.{true, false, cond, not, ◌&&◌}
use mathlib.Core.List.{List, [], ◌++◌}
use borrow.Author.Tests.{ne_eqb, eq-eqb, le-leb}
use lib.Dec.{eqb}
use lib.ListN.{length, drop, length-append}
use lib.Seq.{take-append_seam, drop_at, drop-drop}
use Rattle.octets.specs.Numbers.{number, octets_of}
use Rattle.octets.specs.Octets.{Octets}
use Rattle.octets.specs.Walk.{be32}
use Rattle.octets.proofs.Octets.{join-octets, one-octet, no-octets}
use Rattle.octets.proofs.RoundTrip.{octets-octets, length-octets}
use Rattle.lists.proofs.Cases.{bool_cases}
use Rattle.text_rules.specs.Hex.{digits_of}
use Rattle.text_rules.proofs.RoundTrip.{read-written, written-hex}
use Rattle.rules_outcome.specs.Run.{Event, handed, sweep, leave}
use Rattle.journal_rules.specs.Line.{tick_octets, is_gsa_rekey, key_read, entry_octets, event_octets}
use Rattle.journal_rules.specs.Line.{says, frame_behind, hands_in, said_of, read_line}
use Rattle.journal_rules.specs.Claims.{Holdable, HoldableEvent, as_written}

four : (t : ℕ) (r : List ℕ) → t < 2 ^ 32 → number 4 (octets_of 4 t ++ r) ≡ t
unfolding octets_of number
four t r h = omega arith

-- ---- one entry, from its octets behind the key length
module _ (f key : List ℕ) (t : ℕ) (h : Holdable f key t) where
  abbrev behind : List ℕ
  behind = key ++ (octets_of tick_octets t ++ f)

  length-behind : length behind ≡ length key + (4 + length f)
  length-behind =
      let a = length-append key (octets_of tick_octets t ++ f) in
      let b = length-append (octets_of tick_octets t) f in
      let c = length-octets 4 t in
      omega arith

  tick-there : be32 behind (length key) ≡ t
  tick-there = ap (number 4) (drop_at key (octets_of tick_octets t ++ f) (length key) refl) ∙ four t f h.tick-fits

  frame-there : frame_behind (length key) behind ≡ f
  frame-there =
      sym (drop-drop tick_octets (length key) behind)
      ∙ ap (drop tick_octets) (drop_at key (octets_of tick_octets t ++ f) (length key) refl)
      ∙ drop_at (octets_of tick_octets t) f tick_octets (length-octets 4 t)

  agrees : cond (is_gsa_rekey f) (eqb (length key) 0) (not (eqb (length key) 0)) ≡ true
  agrees =
      bool_cases (is_gsa_rekey f) (λ e. rw (e, eq-eqb (length key) 0 (h.none e)))
      (λ e. let p = h.some e in rw (e, ne_eqb (length key) 0 (λ q. omega arith)))

  hands : hands_in (length key) behind ≡ true
  hands =
      let n = length-behind in
      let l = h.least in
      rw (le-leb (length key + 32) (length behind) (omega arith), frame-there) agrees

  no-sweep : (eqb (length key) 0 && eqb (length behind) tick_octets) ≡ false
  no-sweep =
      let n = length-behind in
      let l = h.least in
      let q = ne_eqb (length behind) 4 (λ e. omega arith) in
      bool_cases (eqb (length key) 0) (λ e. rw (e, q)) (λ e. rw e)

  pub entry-said : said_of (entry_octets key t f) ≡ says (handed f key t)
  unfolding said_of
  entry-said =
      let few = h.few in
      rw (
        ne_eqb (length key) 255 (λ e. omega arith),
        no-sweep,
        hands,
        frame-there,
        tick-there,
        take-append_seam key (octets_of tick_octets t ++ f),
      )

  pub entry-octets : Octets (entry_octets key t f)
  entry-octets =
      let few = h.few in
      one-octet (length key) behind (omega arith)
      (join-octets key (octets_of 4 t ++ f) h.key-octets (join-octets (octets_of 4 t) f (octets-octets 4 t) h.octets))

-- ---- the other kinds
sweep-said : (t : ℕ) → t < 2 ^ 32 → said_of (entry_octets [] t []) ≡ says (sweep t)
unfolding said_of
sweep-said t h =
    let n = length-append (octets_of tick_octets t) [] in
    let m = length-octets 4 t in
    rw (eq-eqb (length (octets_of tick_octets t ++ [])) 4 (omega arith), four t [] h)

pub octets-of : (x : Event) → HoldableEvent x → Octets (event_octets x)
unfolding event_octets
octets-of (handed f l t) h = entry-octets f (key_read f l) t h
octets-of (sweep t) h = one-octet 0 (octets_of 4 t ++ []) (omega arith) (join-octets (octets_of 4 t) [] (octets-octets 4 t) no-octets)
octets-of leave h = one-octet 255 [] (omega arith) no-octets

said-back : (x : Event) → HoldableEvent x → said_of (event_octets x) ≡ says (as_written x)
unfolding event_octets said_of
said-back (handed f l t) h = entry-said f (key_read f l) t h
said-back (sweep t) h = sweep-said t h
said-back leave h = refl

-- WHAT A LINE SAYS is its step
pub line-back : (x : Event) → HoldableEvent x → read_line (digits_of (event_octets x)) ≡ says (as_written x)
unfolding read_line
line-back x h =
    let o = octets-of x h in
    rw (written-hex (event_octets x) o, read-written (event_octets x) o) (said-back x h)
