-- Lines computed: what is written for each kind of step, what texts say, and what journals give.
use Prim.Native.Nat.{ℕ}
use Prim.Native.Char.{code}
use Prim.Native.String.{String, [] as none, ◌∷◌ as ◌then◌}
use mathlib.Core.Path.{◌≡◌, refl}
use mathlib.Core.Bool.{Bool}
use mathlib.Core.List.{List, [], ◌∷◌, ◌++◌, map}
use lib.ListN.{replicate}
use Rattle.octets.specs.Numbers.{number, octets_of}
use Rattle.text_rules.specs.Hex.{is_digit, digit_value_of, digit_of, are_digits, is_hex, octets_of_hex, digits_of}
use Rattle.text_rules.specs.Lines.{lines}
use Rattle.state_keys.specs.Limits.{Limits}
use Rattle.state.specs.State.{new_state}
use Rattle.rules_outcome.specs.Run.{Event, handed, sweep, leave}
use Rattle.journal_rules.specs.Line.{event_octets, line_of, Said, says, other_kind, said_of, read_line}
use Rattle.journal_rules.specs.Replay.{goes_on, cut_short, stops, ReadBack}

abbrev text : String → List ℕ
text none = []
text (c then s) = code c ∷ text s

-- 28 octets, 0 but for the exchange type
abbrev header : ℕ → List ℕ
header x = replicate 18 0 ++ (x ∷ replicate 9 0)

-- their digits, up to the exchange type and behind it
abbrev front : List ℕ
front = text "000000000000000000000000000000000000"

abbrev back : List ℕ
back = text "000000000000000000"

pub record WrittenSample : Type 0 where
  pub event : Event
  pub line : List ℕ

-- a registration with a lent key; a GSA_REKEY, whose lent key leaves no trace; GSA_INBAND_REKEY; sweeps; leaving
abbrev written_table : List WrittenSample
written_table =
    record { event = handed (header 40) (1 ∷ 171 ∷ []) 4660; line = text "0201ab00001234" ++ (front ++ (text "28" ++ (back ++ text "\n"))) }
    ∷ record { event = handed (header 41) (1 ∷ 171 ∷ []) 4660; line = text "0000001234" ++ (front ++ (text "29" ++ (back ++ text "\n"))) }
    ∷ record { event = handed (header 42) (255 ∷ []) 0; line = text "01ff00000000" ++ (front ++ (text "2a" ++ (back ++ text "\n"))) }
    ∷ record { event = sweep 9; line = text "0000000009\n" }
    ∷ record { event = sweep 4294967295; line = text "00ffffffff\n" }
    ∷ record { event = leave; line = text "ff\n" }
    ∷ []

pub lines-written : map (λ (r : WrittenSample). line_of r.event) written_table ≡ map (λ (r : WrittenSample). r.line) written_table
unfolding line_of event_octets octets_of digits_of digit_of
lines-written = refl

pub record SaidSample : Type 0 where
  pub text : List ℕ
  pub said : Said

-- each kind; then what is of none: ff with more, capitals, a CR, a blank, an odd count, no digit at all, a tick cut short, a key length
-- beyond the octets, a key without a frame, a frame of 27 octets, a GSA_REKEY with a key, another exchange without one
abbrev said_table : List SaidSample
said_table =
    record { text = text "ff"; said = says leave }
    ∷ record { text = text "0000000009"; said = says (sweep 9) }
    ∷ record { text = text "00fffffffe"; said = says (sweep 4294967294) }
    ∷ record { text = text "0000001234" ++ (front ++ (text "29" ++ back)); said = says (handed (header 41) [] 4660) }
    ∷ record {
      text = text "0000001234" ++ (front ++ (text "29" ++ (back ++ text "ab")));
      said = says (handed (header 41 ++
          (171 ∷ [])) [] 4660);
    }
    ∷ record { text = text "0201ab00001234" ++ (front ++ (text "28" ++ back)); said = says (handed (header 40) (1 ∷ 171 ∷ []) 4660) }
    ∷ record { text = text "01ff00000000" ++ (front ++ (text "2a" ++ back)); said = says (handed (header 42) (255 ∷ []) 0) }
    ∷ record { text = text "ff00"; said = other_kind }
    ∷ record { text = text "ff00000009"; said = other_kind }
    ∷ record { text = text "FF"; said = other_kind }
    ∷ record { text = text "ff\r"; said = other_kind }
    ∷ record { text = text "ff "; said = other_kind }
    ∷ record { text = text "f"; said = other_kind }
    ∷ record { text = text ""; said = other_kind }
    ∷ record { text = text "00"; said = other_kind }
    ∷ record { text = text "00000009"; said = other_kind }
    ∷ record { text = text "000000000900"; said = other_kind }
    ∷ record { text = text "0207"; said = other_kind }
    ∷ record { text = text "010700000005"; said = other_kind }
    ∷ record {
      text = text "000000123400" ++ (text "0000000000000000000000000000000000" ++
          (text "29" ++ text "0000000000000000"));
      said = other_kind;
    }
    ∷ record { text = text "0107000012" ++ (front ++ (text "28" ++ back)); said = other_kind }
    ∷ record { text = text "0201ab00001234" ++ (front ++ (text "29" ++ back)); said = other_kind }
    ∷ record { text = text "0000001234" ++ (front ++ (text "28" ++ back)); said = other_kind }
    ∷ []

pub lines-said : map (λ (r : SaidSample). read_line r.text) said_table ≡ map (λ (r : SaidSample). r.said) said_table
unfolding read_line said_of is_hex are_digits is_digit octets_of_hex digit_value_of number
lines-said = refl

-- "onto a new member of the same profile": two lines that are taken and one that is cut; a line of no kind behind one that is taken
pub reads-onto-profile : (limits : Limits) (profile : Bool) → ReadBack limits profile (text "ff\nff\n0") (new_state limits profile) 0
unfolding lines read_line said_of is_hex are_digits is_digit octets_of_hex digit_value_of number new_state
reads-onto-profile limits profile =
    let s = new_state limits profile in
    goes_on s 1 _ _ leave s s 0 refl refl refl (goes_on s 2 _ _ leave s s 0 refl refl refl (cut_short s 3 _ _ refl))

pub stops-onto-profile : (limits : Limits) (profile : Bool) → ReadBack limits profile (text "ff\nFF\nff\n") (new_state limits profile) 2
unfolding lines read_line said_of is_hex are_digits is_digit octets_of_hex digit_value_of number new_state
stops-onto-profile limits profile =
    let s = new_state limits profile in goes_on s 1 _ _ leave s s 2 refl refl refl (stops s 2 _ _ refl tt)
