-- `Expands` and `ExpandsInverse` determine the 61 words of a schedule: of a key there is one.
use mathlib.Core.Path.{◌≡◌, sym, ap, ◌∙◌}
use mathlib.Core.Logic.{◌⊎◌, inl, inr}
use mathlib.Core.List.{List}
use Prim.Native.Nat.{ℕ, zero, suc, ◌+◌, ◌*◌, ◌/◌, ◌%◌, ◌<◌, ◌≤◌}
use native.Mathlib.Nat.{mod-lt, eq-or-lt_of_le}
use native.Mathlib.Omega.{arith}
use lib.Dec.{lit<}
use lib.ListN.{length, get_or}
use lib.Seq.{ext_get_or}
use Rattle.lists.proofs.Cases.{lt-cases}
use Rattle.octets.specs.Numbers.{oct}
use Rattle.fips197.specs.Key.{rounds_of}
use Rattle.aes.specs.declared.AesState.{AesState}
use Rattle.aes.specs.inner.Word.{word_of}
use Rattle.aes.specs.inner.Rounds.{state_octets, round_key_of, swapped_of}
use Rattle.aes.specs.inner.Schedule.{ZeroWords, Expands, ExpandsInverse}
use Rattle.aes.proofs.Growing.{whole}

-- each element is below 2 ^ 32, as those of an array of `u32` are
abbrev pub Words : List ℕ → Type 0
Words s = (i : ℕ) → get_or s i 0 < 4294967296

-- word k of a block's octets
word_at : ℕ → List ℕ → ℕ
word_at k s = word_of (oct s (4 * k)) (oct s (4 * k + 1)) (oct s (4 * k + 2)) (oct s (4 * k + 3))

-- round key r of an inverse schedule, in the block's order
abbrev inverse_key : List ℕ → ℕ → List ℕ
inverse_key s r = state_octets (swapped_of (round_key_of s r))

-- a state of words is that of its octets
same-state : (p q : AesState) → ((p.a < 4294967296) × (p.b < 4294967296) × (p.c < 4294967296) × (p.d < 4294967296))
    → ((q.a < 4294967296) × (q.b < 4294967296) × (q.c < 4294967296) × (q.d < 4294967296)) → state_octets p ≡ state_octets q → p ≡ q
unfolding word_at
same-state p q (pa, pb, pc, pd) (qa, qb, qc, qd) e =
    λ i. record {
      a = (whole p.a pa ∙ ap (word_at 0) e ∙ sym (whole q.a qa)) i;
      b = (whole p.b pb ∙ ap (word_at 1) e ∙ sym (whole q.b qb)) i;
      c = (whole p.c pc ∙ ap (word_at 2) e ∙ sym (whole q.c qc)) i;
      d = (whole p.d pd ∙ ap (word_at 3) e ∙ sym (whole q.d qd)) i;
    }

module _ (s t : List ℕ) (small : Words s) (small' : Words t) where
  same_key : (r : ℕ) → state_octets (round_key_of s r) ≡ state_octets (round_key_of t r) → round_key_of s r ≡ round_key_of t r
  same_key r =
      same-state (round_key_of s r) (round_key_of t r) (small (4 * r), small (4 * r + 1), small (4 * r + 2), small (4 * r + 3))
      (small' (4 * r), small' (4 * r + 1), small' (4 * r + 2), small' (4 * r + 3))

  same-swapped : (r : ℕ) → inverse_key s r ≡ inverse_key t r → round_key_of s r ≡ round_key_of t r
  same-swapped r e =
      ap swapped_of (same-state (swapped_of (round_key_of s r)) (swapped_of (round_key_of t r))
      (small (4 * r), small (4 * r + 3), small (4 * r + 2), small (4 * r + 1))
      (small' (4 * r), small' (4 * r + 3), small' (4 * r + 2), small' (4 * r + 1)) e)

  -- word m of round key r
  in-key : (r m : ℕ) → m < 4 → round_key_of s r ≡ round_key_of t r → get_or s (4 * r + m) 0 ≡ get_or t (4 * r + m) 0
  in-key r zero l e = bare s ∙ ap (λ (q : AesState). q.a) e ∙ sym (bare t)
    where
      bare : (w : List ℕ) → get_or w (4 * r + 0) 0 ≡ get_or w (4 * r) 0
      bare w = ap (λ (i : ℕ). get_or w i 0) (let z : 4 * r + 0 ≡ 4 * r = omega arith in z)
  in-key r (suc zero) l e = ap (λ (q : AesState). q.b) e
  in-key r (suc (suc zero)) l e = ap (λ (q : AesState). q.c) e
  in-key r (suc (suc (suc zero))) l e = ap (λ (q : AesState). q.d) e
  in-key r (suc (suc (suc (suc m)))) l e = absurd (omega arith)

  same-words : (n : ℕ) → length s ≡ 61 → length t ≡ 61 → get_or s 60 0 ≡ get_or t 60 0 → ((r : ℕ) → r ≤ n → round_key_of s r ≡ round_key_of t r)
      → ZeroWords s (4 * (n + 1)) 60 → ZeroWords t (4 * (n + 1)) 60 → s ≡ t
  same-words n ls lt count keys blank blank' =
      ext_get_or 0 s t (ls ∙ sym lt) (λ i h. at i (eq-or-lt_of_le (let z : i ≤ 60 = omega (arith, ls) in z)))
    where
      within : (i : ℕ) → i < 4 * (n + 1) → get_or s i 0 ≡ get_or t i 0
      within i l =
          let e : i ≡ 4 * (i / 4) + i % 4 = omega arith in
          ap (λ (j : ℕ). get_or s j 0) e
          ∙ in-key (i / 4) (i % 4) (mod-lt i (lit< tt)) (keys (i / 4) (omega arith))
          ∙ ap (λ (j : ℕ). get_or t j 0) (sym e)

      at : (i : ℕ) → (i ≡ 60) ⊎ (i < 60) → get_or s i 0 ≡ get_or t i 0
      at i (inl e) = ap (λ (j : ℕ). get_or s j 0) e ∙ count ∙ ap (λ (j : ℕ). get_or t j 0) (sym e)
      at i (inr b) = lt-cases i (4 * (n + 1)) (within i) (λ l. blank i l b ∙ sym (blank' i l b))

  pub expands-one : (key : List ℕ) → Expands key s → Expands key t → s ≡ t
  expands-one key x y =
      same-words (rounds_of key) x.size y.size (x.rounds ∙ sym y.rounds) (λ r l. same_key r (x.keys r l ∙ sym (y.keys r l)))
      x.unused y.unused

  pub expands-inverse-one : (key : List ℕ) → ExpandsInverse key s → ExpandsInverse key t → s ≡ t
  expands-inverse-one key x y =
      same-words (rounds_of key) x.size y.size (x.rounds ∙ sym y.rounds) (λ r l. same-swapped r (at r l (eq-or-lt_of_le l)))
      x.unused y.unused
    where
      at : (r : ℕ) → r ≤ rounds_of key → (r ≡ rounds_of key) ⊎ (r < rounds_of key) → inverse_key s r ≡ inverse_key t r
      at r l (inl e) = ap (inverse_key s) e ∙ x.last ∙ sym y.last ∙ ap (inverse_key t) (sym e)
      at zero l (inr h) = x.first ∙ sym y.first
      at (suc r) l (inr h) = x.between (suc r) (omega arith) h ∙ sym (y.between (suc r) (omega arith) h)
