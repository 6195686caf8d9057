-- A TEXT SAYS A STEP EXACTLY WHEN IT IS THE LINE OF THAT STEP.
use native.Mathlib.Omega.{arith}
use Prim.Native.Nat.{ℕ, suc, ◌+◌, ◌*◌, ◌^◌, ◌<◌, ◌≤◌}
use mathlib.Core.Path.{◌≡◌, refl, ap, sym, ◌∙◌, subst}
use mathlib.Core.Bool.{true, false, cond, not, ◌&&◌}
use mathlib.Core.Logic.{◌↔◌}
use mathlib.Core.List.{List, [], ◌∷◌, ◌++◌, append-nil}
use borrow.Author.Tests.{eqb-true, eqb-false, leb-true, not-true}
use lib.Dec.{eqb, leb}
use lib.ListN.{length, take, drop, length-drop, take-append-drop}
use lib.Seq.{take_all, drop-drop, length-take-le}
use Rattle.octets.specs.Numbers.{number, octets_of}
use Rattle.octets.specs.Octets.{Octets}
use Rattle.octets.specs.Walk.{be32}
use Rattle.octets.proofs.Octets.{one-octet, no-octets, drop-octets, take-octets}
use Rattle.octets.proofs.RoundTrip.{number_lt, octets-number}
use Rattle.lists.proofs.Cases.{bool_cases, lt-cases, and_parts}
use Rattle.text_rules.specs.Hex.{is_digit, digit_value_of, is_hex, octets_of_hex, digits_of}
use Rattle.text_rules.proofs.HexLaws.{of-digit, other-value}
use Rattle.text_rules.proofs.RoundTrip.{written_read}
use Rattle.rules_outcome.specs.Run.{Event, handed, sweep, leave}
use Rattle.journal_rules.specs.Line.{tick_octets, is_gsa_rekey, key_read, entry_octets, event_octets}
use Rattle.journal_rules.specs.Line.{says, other_kind, frame_behind, hands_in, handed_by, said_of, read_line}
use Rattle.journal_rules.specs.Claims.{HoldableEvent, as_written, IsLineOf}
use Rattle.journal_rules.proofs.LineBack.{line-back}

-- ---- the octets of a text
value-small : (c : ℕ) → digit_value_of c < 16
value-small c =
    bool_cases (is_digit c) (λ e. (of-digit c e).small) (λ e. let z = other-value c e in omega arith)

pub read-octets : (text : List ℕ) → Octets (octets_of_hex text)
unfolding octets_of_hex
read-octets [] = no-octets
read-octets (h ∷ []) = no-octets
read-octets (h ∷ l ∷ text) =
    let a = value-small h in
    let b = value-small l in
    one-octet (16 * digit_value_of h + digit_value_of l) (octets_of_hex text) (omega arith) (read-octets text)

-- ---- what octets say, they are the octets of
-- octets say a step, and are those that are written for it
record Written (o : List ℕ) (x : Event) : Type 0 where
  octets : event_octets x ≡ o
  held : HoldableEvent x
  as_is : as_written x ≡ x

other-says : {P : Type 0} (x : Event) → other_kind ≡ says x → P
other-says x e = let z : ◌≡◌ {A = ℕ} 0 1 = cc in absurd (omega arith)

said-as : (x y : Event) (o : List ℕ) → says x ≡ says y → Written o x → Written o y
said-as x y o e w = subst (Written o) (cc) w

no-more : (o : List ℕ) → length o ≡ 0 → o ≡ []
no-more [] e = refl
no-more (a ∷ o) e = absurd (omega arith)

-- four octets are the number that they write
tick-back : (o : List ℕ) → Octets o → 4 ≤ length o → octets_of tick_octets (number 4 o) ≡ take 4 o
tick-back o h n = octets-number 4 o h n

tick-small : (o : List ℕ) → Octets o → number 4 o < 2 ^ 32
tick-small o h = number_lt 4 o h

module _ (o : List ℕ) (h : Octets o) where
  swept-is : length o ≡ 4 → Written (0 ∷ o) (sweep (be32 o 0))
  unfolding event_octets
  swept-is n =
      record {
        octets =
            ap (λ (s : List ℕ). 0 ∷ s)
            (append-nil (octets_of tick_octets (number 4 o)) ∙ tick-back o h (omega arith) ∙ take_all 4 o (omega arith));
        held = tick-small o h;
        as_is = refl;
      }

  module _ (n : ℕ) (few : n < 255) (there : n + 32 ≤ length o)
      (agrees : cond (is_gsa_rekey (frame_behind n o)) (eqb n 0) (not (eqb n 0)) ≡ true) where
    abbrev f : List ℕ
    f = frame_behind n o

    no_key : is_gsa_rekey f ≡ true → n ≡ 0
    no_key e = eqb-true n 0 (rw e at agrees)

    a_key : is_gsa_rekey f ≡ false → n ≡ 0 → ⊥
    a_key e = let z : not (eqb n 0) ≡ true = rw e at agrees in eqb-false n 0 (not-true (eqb n 0) z)

    key-is : key_read f (take n o) ≡ take n o
    key-is = bool_cases (is_gsa_rekey f) (λ e. rw (e, no_key e)) (λ e. rw e)

    key-length : length (take n o) ≡ n
    key-length = length-take-le n o (omega arith)

    behind-is : take n o ++ (octets_of tick_octets (be32 o n) ++ f) ≡ o
    behind-is =
        let d = length-drop n o in
        ap (λ (s : List ℕ). take n o ++ (s ++ f)) (tick-back (drop n o) (drop-octets n o h) (omega arith))
        ∙ ap (λ (s : List ℕ). take n o ++ (take 4 (drop n o) ++ s)) (sym (drop-drop 4 n o))
        ∙ ap (λ (s : List ℕ). take n o ++ s) (take-append-drop 4 (drop n o)) ∙ take-append-drop n o

    handed-is : Written (n ∷ o) (handed f (take n o) (be32 o n))
    unfolding event_octets
    handed-is =
        let l = length-drop (n + tick_octets) o in
        let k = key-length in
        record {
          octets =
              ap (λ (key : List ℕ). entry_octets key (be32 o n) f) key-is
              ∙ ap (λ (m : ℕ). m ∷ (take n o ++ (octets_of tick_octets (be32 o n) ++ f))) k
              ∙ ap (λ (s : List ℕ). n ∷ s) behind-is;
          held =
              rw key-is (record {
                octets = drop-octets (n + tick_octets) o h;
                key-octets = take-octets n o h;
                tick-fits = tick-small (drop n o) (drop-octets n o h);
                least = omega arith;
                none = λ e. k ∙ no_key e;
                some = λ e. let z = a_key e in lt-cases 0 (length (take n o)) (λ q. q) (λ q. absurd (z (omega arith)));
                few = omega arith;
              });
          as_is = ap (λ (key : List ℕ). handed f key (be32 o n)) key-is;
        }

left_is : (n : ℕ) (o : List ℕ) → n ≡ 255 → o ≡ [] → Written (n ∷ o) leave
unfolding event_octets
left_is n o a b = rw (a, b) (record { octets = refl; held = tt; as_is = refl })

said-handed : (n : ℕ) (o : List ℕ) → Octets o → n < 255 → (x : Event) → handed_by n o ≡ says x → Written (n ∷ o) x
said-handed n o h few x e =
    bool_cases (hands_in n o)
    (λ q.
    let p = and_parts (leb (n + 32) (length o)) _ q in
    said-as (handed (frame_behind n o) (take n o) (be32 o n)) x (n ∷ o) (rw q at e)
    (handed-is o h n few (leb-true (n + 32) (length o) p.0) p.1))
    (λ q. other-says x (rw q at e))

said-is : (o : List ℕ) → Octets o → (x : Event) → said_of o ≡ says x → Written o x
unfolding said_of
said-is [] h x e = other-says x e
said-is (n ∷ o) h x e =
    let rest : Octets o = λ i. h (suc i) in
    let first : n < 256 = h 0 in
    bool_cases (eqb n 255)
    (λ q.
    bool_cases (eqb (length o) 0)
    (λ r.
    said-as leave x (n ∷ o) (rw (q, r) at e)
    (left_is n o (eqb-true n 255 q) (no-more o (eqb-true (length o) 0 r))))
    (λ r. other-says x (rw (q, r) at e)))
    (λ q.
    bool_cases (eqb n 0 && eqb (length o) 4)
    (λ r.
    let p = and_parts (eqb n 0) (eqb (length o) 4) r in
    let w = swept-is o rest (eqb-true (length o) 4 p.1) in
    said-as (sweep (be32 o 0)) x (n ∷ o) (rw (q, r) at e)
    (subst (λ (m : ℕ). Written (m ∷ o) (sweep (be32 o 0))) (sym (eqb-true n 0 p.0)) w))
    (λ r.
    let few : n < 255 = let z = eqb-false n 255 q in lt-cases n 255 (λ k. k) (λ k. absurd (z (omega arith))) in
    said-handed n o rest few x (rw (q, r) at e)))

-- THE EXACT READING: a text says a step exactly when it is that step's line, and no text is the line of two
module _ (text : List ℕ) (x : Event) where
  read-line : read_line text ≡ says x → IsLineOf text x
  unfolding read_line
  read-line e =
      bool_cases (is_hex text)
      (λ q.
      let w = said-is (octets_of_hex text) (read-octets text) x (rw q at e) in
      record { is = sym (written_read text q) ∙ ap digits_of (sym w.octets); held = w.held; as_is = w.as_is })
      (λ q. other-says x (rw q at e))

  line_read : IsLineOf text x → read_line text ≡ says x
  line_read w = ap read_line w.is ∙ line-back x w.held ∙ ap says w.as_is

  pub read-exactly : (read_line text ≡ says x) ↔ IsLineOf text x
  read-exactly = (read-line, line_read)
