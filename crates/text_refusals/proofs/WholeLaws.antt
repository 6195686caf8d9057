-- A frame whose layout the code calls whole is whole.
use Rattle.wire_attributes.specs.declared.Broken.{Broken}
use Rattle.std.specs.Prelude.{Result, Ok}
use native.Mathlib.Omega.{arith}
use Prim.Native.Nat.{ℕ, suc}
use mathlib.Core.Path.{◌≡◌, refl, ap, sym, ◌∙◌}
use mathlib.Core.List.{List}
use mathlib.Core.Bool.{true, false}
use Rattle.octets.specs.Walk.{Reading, whole, broken}
use Rattle.wire_attributes.specs.Answers.{broken_at, layout_of}
use Rattle.wire_frames.specs.Frame.{Frame, frame, frame_layout}
use Rattle.wire_readers.specs.inner.Values.{is_whole}

by_layout : (x : Reading Frame) → layout_of x ≡ Ok tt → is_whole x ≡ true
by_layout (whole f rest) l = refl
by_layout (broken o) l = cc

pub is-whole : (s : List ℕ) (r : Result (Unit {0}) Broken) → r ≡ frame_layout false s → r ≡ Ok tt → is_whole (frame false s) ≡ true
unfolding frame_layout
is-whole s r e l = by_layout (frame false s) (sym e ∙ l)
