-- THE SIZE THAT A WRAPPING KEY NEEDS is a second number of the algorithm table, or 0 where the live Rekey SA has no default key.
use Prim.Native.Nat.{ℕ, ◌-◌}
use mathlib.Core.Path.{◌≡◌, refl, ap, sym, ◌∙◌, subst}
use mathlib.Core.Bool.{Bool, true, false, false≢true, not, ◌&&◌}
use mathlib.Core.Logic.{◌⊎◌, inl, inr}
use mathlib.Core.List.{List, []}
use borrow.Author.Tests.{not-false}
use lib.ListN.{length, replicate, take, drop}
use lib.Seq.{take-append_seam}
use Rattle.state_keys.specs.Limits.{Limits}
use Rattle.state_keys.specs.Algorithms.{is_wrapping_size}
use Rattle.state_keys.specs.Kinds.{value_of, wrapping_key, key_wrap_part, rekey_sizes}
use Rattle.state_keys.specs.declared.kinds.RekeyKey.{RekeyKey}
use Rattle.lists.proofs.Cases.{bool_cases}
use Rattle.wire_frames.specs.Frame.{Frame}
use Rattle.wire_frames.specs.declared.exchanges.Exchange.{Exchange}
use Rattle.state_table.specs.Table.{swept, found_rekey, key_wrap_part_of, default_key}
use Rattle.state.specs.declared.State.{State}
use Rattle.rules_refusals.specs.Contents.{row_of}
use Rattle.wire_frames.specs.Exchange.{registration, rekey, inband}
use Rattle.rules_refusals.specs.Number2.{number2_of_frame}
use Rattle.rules_refusals.specs.Number5.{lent_key_size, number5_of_frame}
use Rattle.rules_refusals.proofs.Clear.{no-clause}
use Rattle.rules_refusals.proofs.ExchangeRows.{by_row}
use Rattle.rules_outcome.specs.Roots.{own_key_of, key_zero_by, key_zero_value, wrapping_size}
use Rattle.rules_outcome.proofs.RunsClear.{Clear}
use Rattle.std.specs.Prelude.{Option, Some, None}
use Rattle.state_sa.specs.Entry.{keying_of}
use Rattle.state_keys.specs.Kinds.{key_or_blank}
use Rattle.state_sa.specs.declared.entry.Sa.{Sa}

-- a size of the table, or none
abbrev pub Sized : ℕ → Type 0
Sized n = (n ≡ 0) ⊎ (is_wrapping_size n ≡ true)

made-sized : (x : List ℕ) → Sized (length (value_of (key_or_blank (wrapping_key x))))
unfolding wrapping_key
made-sized x =
    bool_cases (is_wrapping_size (length x))
    (λ e.
    rw e
    (inr (ap (λ (l : List ℕ). is_wrapping_size (length l)) (take-append_seam x (replicate (32 - length x) 0)) ∙ e)))
    (λ e. rw e (inl refl))

part-sized : (k : RekeyKey) → Sized (length (value_of (key_or_blank (key_wrap_part k))))
unfolding key_wrap_part
part-sized k =
    bool_cases (rekey_sizes k.encryption k.wrapping)
    (λ e. rw e (made-sized (take k.wrapping (drop k.encryption k.octets)))) (λ e. rw e (inl refl))

found-sized : (f : Option Sa) → Sized (length (value_of (key_or_blank (key_wrap_part_of f))))
unfolding key_wrap_part_of
found-sized (Some b) = part-sized (keying_of b)
found-sized None = inl refl

pub own-sized : (limits : Limits) (s : State) (now : ℕ) → Sized (length (own_key_of limits s now))
unfolding default_key
own-sized limits s now = found-sized (found_rekey limits (swept limits now s.table))

-- of a frame that no clause refuses: the lent key's size is judged where it is key 0
module _ (limits : Limits) (s : State) (now : ℕ) (lent : List ℕ) (f : Frame) (c : Clear limits s now lent f) where
  lent-sized : (row_of f).judges_lent_key ≡ true → is_wrapping_size (length lent) ≡ true
  unfolding number5_of_frame lent_key_size
  lent-sized e =
      let k = no-clause (number5_of_frame lent f) 5 c.no-5.of_frame in
      let n : not (is_wrapping_size (length lent)) ≡ false = sym (ap (λ (b : Bool). b && not (is_wrapping_size (length lent))) e) ∙ k in
      not-false (is_wrapping_size (length lent)) n

  by-lent : (x : Exchange) → row_of f ≡ x → x.judges_lent_key ≡ true → key_zero_by x.zero lent (own_key_of limits s now) ≡ lent →
      Sized (wrapping_size limits s now lent f)
  unfolding wrapping_size key_zero_value
  by-lent x r j z =
      inr
      (ap (λ (y : Exchange). is_wrapping_size (length (key_zero_by y.zero lent (own_key_of limits s now)))) r
      ∙ ap (λ (l : List ℕ). is_wrapping_size (length l)) z
      ∙ lent-sized (ap (λ (y : Exchange). y.judges_lent_key) r ∙ j))

  by-own : row_of f ≡ rekey → Sized (wrapping_size limits s now lent f)
  unfolding wrapping_size key_zero_value
  by-own r = subst (λ (x : Exchange). Sized (length (key_zero_by x.zero lent (own_key_of limits s now)))) (sym r) (own-sized limits s now)

  pub size_fits : Sized (wrapping_size limits s now lent f)
  size_fits =
      by_row (Sized (wrapping_size limits s now lent f)) f.header.exchange (λ q r. by-lent registration r refl refl) (λ q r. by-own r)
      (λ q r. by-lent inband r refl refl)
      (λ r.
      absurd (false≢true (sym (ap (λ (x : Exchange). x.admitted) r)
      ∙ not-false (row_of f).admitted (no-clause (number2_of_frame f.header.exchange) 0 c.no-2.of_frame))))
