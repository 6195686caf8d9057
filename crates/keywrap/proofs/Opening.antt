-- The code that opens: what it unwraps, what the checks tell, and what is handed on.
use mathlib.Core.Path.{◌≡◌, refl, sym, ap, ◌∙◌, subst}
use mathlib.Core.Bool.{Bool, true, false}
use mathlib.Core.List.{List, ◌++◌}
use Prim.Native.Nat.{ℕ, suc, ◌+◌, ◌*◌, ◌%◌, ◌≤◌}
use native.Mathlib.Numerals.{add-one}
use native.Mathlib.Omega.{arith}
use borrow.Author.Tests.{leb-true, leb-false}
use lib.Dec.{leb}
use lib.ListN.{length, take, drop, replicate, length-append}
use lib.Seq.{take_at, length-take-le}
use Rattle.octets.specs.Octets.{Octets}
use Rattle.fips197.specs.Key.{Key}
use Rattle.std.specs.Prelude.{Option, None, Some}
use Rattle.rfc5649.specs.Wrap.{blocks, registers}
use Rattle.keywrap.specs.Answers.{Opening, OpenAnswers, Wrote}
use Rattle.keywrap.specs.declared.Opened.{Opened}
use Rattle.keywrap.specs.inner.Blank.{blank, AnswersBlank, OpensBlank}
use Rattle.rfc5649.specs.inner.Unwrap.{backward, Begins}
use Rattle.keywrap.specs.inner.Room.{answer_by, room_by, put_answer, put_room}
use Rattle.rfc5649.proofs.Registers.{registers-are}
use Rattle.rfc5649.proofs.Wrapping as wrapping
use Rattle.rfc5649.proofs.Wrapping.{length-wrapped, backward-registers, opens}
use Rattle.rfc5649.proofs.Determined.{opens_one}
use Rattle.keywrap.proofs.Answering.{answers-map}

-- ---- n + 1 registers at the start of an array of 33: l are those loaded, b those unwrapped

module _ (w : List ℕ) (n : ℕ) (o : Octets w) (most : n ≤ 32) where
  pub part_count : n + 1 ≡ length (take (n + 1) (replicate {A = ℕ} 33 0))
  part_count = sym (length-take-le (n + 1) (replicate 33 0) (omega arith))

  module _ (l : List ℕ) (el : l ≡ registers (length (take (n + 1) (replicate {A = ℕ} 33 0))) w) where
    loaded : l ≡ registers (suc n) w
    loaded = el ∙ ap (λ (k : ℕ). registers k w) (sym part_count ∙ add-one n)

    length-l : length l ≡ n + 1
    length-l = ap length loaded ∙ (registers-are (suc n) w o).size ∙ sym (add-one n)

    pub part-within : n + 1 ≤ length (l ++ drop (n + 1) (replicate 33 0))
    part-within = omega (arith, length-l, length-append l (drop (n + 1) (replicate 33 0)))

    part-is : take (n + 1) (l ++ drop (n + 1) (replicate 33 0)) ≡ l
    part-is = take_at l (drop (n + 1) (replicate 33 0)) (n + 1) length-l

    pub part-kept : n + 1 ≡ length (take (n + 1) (l ++ drop (n + 1) (replicate 33 0)))
    part-kept = sym (ap length part-is ∙ length-l)

    pub unwrapped-is : (key b rest : List ℕ) → Key key → 1 ≤ n → length w ≡ 8 * suc n
        → b ≡ backward key n (take (n + 1) (l ++ drop (n + 1) (replicate 33 0)))
        → take (suc n) (b ++ rest) ≡ backward key n (registers (suc n) w)
    unwrapped-is key b rest is least size e =
        take_at b rest (suc n) (ap length whole ∙ (backward-registers key w n is o size least most).size) ∙ whole
      where
        whole : b ≡ backward key n (registers (suc n) w)
        whole = e ∙ ap (backward key n) (part-is ∙ loaded)

-- ---- sizes that nothing opens from

module _ (key w room x : List ℕ) (k : Octets key) (h : Opening key w room x) where
  pub opening-key : Key key
  opening-key = record { size = h.key-size; small = k }

  pub opening-size : length w ≡ 8 * suc (blocks (length x))
  opening-size = length-wrapped key w x opening-key h.opens

  pub opening-least : 16 ≤ length w
  opening-least = omega (arith, opening-size, h.opens.least)

  pub opening-most : length w ≤ 264
  opening-most = omega (arith, opening-size, h.opens.most)

  pub opening-whole : length w % 8 ≡ 0
  opening-whole = omega (arith, opening-size)

-- ---- what the checks tell of unwrapped registers is what opens

module _ (key w s : List ℕ) (n : ℕ) (is : Key key) (o : Octets w) (size : length w ≡ 8 * suc n) (least : 1 ≤ n) (most : n ≤ 32)
    (e : take (suc n) s ≡ backward key n (registers (suc n) w)) where
  to : (x : List ℕ) → Begins n (take (suc n) s) x → Opening key w blank x
  unfolding blank
  to x b =
      record {
        key-size = is.size;
        opens = opens key w n is o size least most x b.octets b.size (sym e ∙ b.is);
        holds = omega (arith, b.size);
      }

  from : (x : List ℕ) → Opening key w blank x → Begins n (take (suc n) s) x
  from x h =
      record {
        octets = h.opens.octets;
        size = same;
        is = e ∙ ap (λ (m : ℕ). backward key m (registers (suc m) w)) (sym same) ∙ wrapping.unwrapped key w x is h.opens;
      }
    where
      same : blocks (length x) ≡ n
      same = omega (arith, size, length-wrapped key w x is h.opens)

  pub opened : (r : Option Opened) → AnswersBlank (Begins n (take (suc n) s)) r → OpensBlank key w r
  opened None = answers-map (Begins n (take (suc n) s)) (Opening key w blank) blank to from None blank
  opened (Some o) = answers-map (Begins n (take (suc n) s)) (Opening key w blank) blank to from (Some o.count) o.octets

-- ---- into lent room

module _ (key w room : List ℕ) (is : Key key) where
  more_room : (x : List ℕ) → Opening key w room x → Opening key w blank x
  unfolding blank
  more_room x h = record { key-size = h.key-size; opens = h.opens; holds = h.opens.most }

  pub put-none : {after : List ℕ} → OpenAnswers key w blank None after → OpenAnswers key w room None room
  put-none h = record { none = λ x g. h.none x (more_room x g); room-is = refl }

  module _ (n : ℕ) (octets : List ℕ) (h : Wrote (Opening key w blank) blank n octets) where
    pub put-most : n ≤ length octets
    put-most = omega (arith, h.count, ap length h.room-is, length-append h.x (drop (length h.x) blank))

    front : take n octets ≡ h.x
    front = ap (take n) h.room-is ∙ take_at h.x (drop (length h.x) blank) n h.count

    pub put_some : {a : Option ℕ} {after : List ℕ} → a ≡ put_answer (take n octets) room → after ≡ put_room (take n octets) room
        → OpenAnswers key w room a after
    unfolding put_answer put_room
    put_some {a} {after} ea er =
        subst (λ (b : Option ℕ). OpenAnswers key w room b after) (sym (ea ∙ ap (λ (x : List ℕ). put_answer x room) front))
        (subst (λ (r : List ℕ). OpenAnswers key w room (put_answer h.x room) r) (sym (er ∙ ap (λ (x : List ℕ). put_room x room) front))
        (by (leb (length h.x) (length room)) refl))
      where
        by : (b : Bool) → leb (length h.x) (length room) ≡ b → OpenAnswers key w room (answer_by b h.x) (room_by b h.x room)
        by true l =
            record {
              x = h.x;
              result = record {
                key-size = h.result.key-size;
                opens = h.result.opens;
                holds = leb-true (length h.x) (length room) l;
              };
              count = refl;
              room-is = refl;
            }
        by false l =
            record {
              none = λ y g. omega (
                arith,
                leb-false (length h.x) (length room) l,
                g.holds,
                ap length (opens_one key w h.x y is h.result.opens g.opens),
              );
              room-is = refl;
            }
