-- Samples of the definitions, computed. The first is document 01's own input, with its output. The step here stands for a member: it
-- answers number 1 to a frame under 28 octets and number 2 to any other, as a new member does to document 01's two samples, and counts.
--
use Prim.Native.Nat.{ℕ, ◌+◌, ◌*◌}
use Prim.Native.Char.{code}
use Prim.Native.String.{String, [] as none, ◌∷◌ as ◌then◌}
use mathlib.Core.Path.{◌≡◌, refl, subst}
use mathlib.Core.List.{List, [], ◌∷◌, ◌++◌, map}
use mathlib.Core.Bool.{cond}
use lib.ListN.{length}
use lib.Dec.{ltb}
use Rattle.text_rules.specs.Hex.{is_digit, digit_value_of, are_digits, is_hex, octets_of_hex, number_from}
use Rattle.text_rules.specs.Lines.{Line, lines}
use Rattle.text_rules.specs.Input.{Asked, bad, frame, is_taken, line_key, asked_by}
use Rattle.text_rules.specs.Answer.{decimal_up_to, decimal, printed, answer_text, bad_text}
use Rattle.text_rules.specs.Transcript.{CallRelation, LineOutcome, Reply, told, RepliesTo, Later, OutputOf, Transcript}

abbrev text : String → List ℕ
text none = []
text (c then s) = code c ∷ text s

-- the transcript of a step that is a function, computed
module _ {S : Type 0} (f : S → List ℕ → ℕ → List ℕ → LineOutcome S) where
  abbrev graph : CallRelation S
  graph member key tick octets o = o ≡ f member key tick octets

  abbrev reply_to : List ℕ → S → Asked → Reply S
  reply_to key member bad = record { next = member; text = bad_text }
  reply_to key member (frame tick octets) = told (f member key tick octets)

  unfoldable later : List ℕ → S → List Line → List ℕ
  later key member [] = []
  later key member (l ∷ ls) =
      (reply_to key member (asked_by l.text)).text ++ later key (reply_to key member (asked_by l.text)).next ls

  abbrev output_of : S → List Line → List ℕ
  output_of member [] = []
  output_of member (first ∷ ls) = later (line_key first.text) member ls

  abbrev transcript : S → List ℕ → List ℕ
  transcript member input = output_of member (lines input)

  replies : (key : List ℕ) (member : S) (x : Asked) → RepliesTo graph key member x (reply_to key member x)
  replies key member bad = refl
  replies key member (frame tick octets) = (f member key tick octets, refl, refl)

  laters : (key : List ℕ) (member : S) (ls : List Line) → Later graph key member ls (later key member ls)
  unfolding later
  laters key member [] = refl
  laters key member (l ∷ ls) =
      let a = reply_to key member (asked_by l.text) in
      (a, replies key member (asked_by l.text), later key a.next ls, laters key a.next ls, refl)

  outputs : (member : S) (ls : List Line) → OutputOf graph member ls (output_of member ls)
  outputs member [] = refl
  outputs member (first ∷ ls) = laters (line_key first.text) member ls

  computed : (member : S) (input output : List ℕ) → transcript member input ≡ output → Transcript graph member input output
  computed member input output e = subst (λ (s : List ℕ). Transcript graph member input s) e (outputs member (lines input))

-- a new member's answers to document 01's samples
abbrev toy : ℕ → List ℕ → ℕ → List ℕ → LineOutcome ℕ
toy member key tick octets = record { next = member; number = cond (ltb (length octets) 28) 1 2; sas = 0; held = 0; figure = 0 }

-- document 01's input, and its line of a tick and a bare header, with no newline behind it
abbrev input : List ℕ
input =
    text "000102030405060708090a0b0c0d0e0f\n0000000000\nxyz\n"
    ++ (text "0000000000000000000000000000000000000000002000000000000000000000001C\n"
    ++ (text "0000000000000000000000000000000000000000002000000000000000000000001 c\n"
    ++ text "ffffffff0000000000000000000000000000000000200000000000000000001c"))

sample : Transcript (graph toy) 0 input (text "1 0 0 0\nbad\nbad\nbad\n2 0 0\n")
unfolding is_digit digit_value_of are_digits is_hex octets_of_hex number_from lines is_taken line_key asked_by
    decimal_up_to decimal printed answer_text later
sample = computed toy 0 input (text "1 0 0 0\nbad\nbad\nbad\n2 0 0\n") refl

-- counts the frames, and tells the tick and the sizes of key and frame; its figure is a number of two digits
abbrev tell : ℕ → List ℕ → ℕ → List ℕ → LineOutcome ℕ
tell member key tick octets =
    record { next = member + 1; number = length octets; sas = tick; held = length key + 100 * member; figure = 47 }

pub record Sample : Type 0 where
  pub input : String
  pub output : String

-- an input with no line, or with a first line alone, prints nothing; a newline ends a line and starts none; a first line counts as an empty
-- key or gives one of any size up to 32; other characters, odd counts and under 8 digits are bad and leave the member as it was
abbrev table : List Sample
table =
    record { input = ""; output = "" }
    ∷ record { input = "\n"; output = "" }
    ∷ record { input = "00000000"; output = "" }
    ∷ record { input = "\n\n"; output = "bad\n" }
    ∷ record { input = "\n00000000"; output = "0 0 0\n" }
    ∷ record { input = "\n00000000\n"; output = "0 0 0\n" }
    ∷ record { input = "\n00000000\n\n"; output = "0 0 0\nbad\n" }
    ∷ record { input = "00\n00000100ab\n0000000\n000000000\nffffffff0000"; output = "1 256 1 47\nbad\nbad\n2 4294967295 101\n" }
    ∷ record { input = "\n000000\n00000000"; output = "bad\n0 0 0\n" }
    ∷ record { input = "0\n00000000"; output = "0 0 0\n" }
    ∷ record { input = "0g\n00000000"; output = "0 0 0\n" }
    ∷ record { input = "0A\n00000000\n"; output = "0 0 0\n" }
    ∷ record { input = "0123456789abcdef0123456789abcdef01234567\n00000000"; output = "0 0 20\n" }
    ∷ record { input = "0000000000000000000000000000000000000000000000000000000000000000\n00000000"; output = "0 0 32\n" }
    ∷ record { input = "000000000000000000000000000000000000000000000000000000000000000000\n00000000"; output = "0 0 0\n" }
    ∷ record { input = "\n00000000\r\n000000g0\n00000000\0\n00000000 \nÿ00000000"; output = "bad\nbad\nbad\nbad\nbad\n" }
    ∷ []

abbrev Hold : List Sample → Type 0
Hold [] = Unit {0}
Hold (s ∷ l) = Transcript (graph tell) 0 (text s.input) (text s.output) × Hold l

hold : (l : List Sample)
    → map (λ (s : Sample). transcript tell 0 (text s.input)) l ≡ map (λ (s : Sample). text s.output) l → Hold l
hold [] e = tt
hold (s ∷ l) e = (computed tell 0 (text s.input) (text s.output) (cc), hold l (cc))

samples : Hold table
unfolding is_digit digit_value_of are_digits is_hex octets_of_hex number_from lines is_taken line_key asked_by
    decimal_up_to decimal printed answer_text later
samples = hold table refl
