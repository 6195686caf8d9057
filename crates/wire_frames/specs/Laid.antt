-- THE ANSWER ON A LAYOUT, in the papers' words: document 01's number of it and document 02's offset (T-06), each over the octets and the
-- member's profile alone (document 02, T-11).
use Rattle.std.specs.Prelude.{ℕ, ◌≡◌, ◌↔◌, List, [], ◌∷◌, Bool, Result}
use Rattle.wire_attributes.specs.Answers.{layout_number, layout_offset}
use Rattle.wire_attributes.specs.declared.Broken.{Broken}
use Rattle.wire_frames.specs.Frame.{Frame, frame_layout}
use Rattle.wire_frames.specs.Grammar.{IsFrame}
use Rattle.wire_frames.specs.Breaks.{BreaksFrame}

-- `r` is the answer on `s` for a member with this `profile`. Number: "1: .. any first octet, length, SPI size, selector type, attribute
-- format or end that breaks the layouts", so 0 exactly where some tree fits the octets. Offset: "Number 1 carries the offset of the
-- innermost payload, policy, bag, selector, transform or attribute whose layout broke first", and a whole frame carries none
pub record Laid (profile : Bool) (s : List ℕ) (r : Result (Unit {0}) Broken) : Type 0 where
  pub layout : r ≡ frame_layout profile s
  pub number : (layout_number r ≡ 0) ↔ ((x : Frame) × IsFrame profile s x)
  pub offset : (o : ℕ) → (layout_offset r ≡ o ∷ []) ↔ BreaksFrame profile s o
