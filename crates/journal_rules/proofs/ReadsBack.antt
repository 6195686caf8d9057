-- READING BACK: a journal gives the member that its steps made, and so does one that was cut; a line that cannot be taken stops the
-- reading.
use native.Mathlib.Omega.{arith}
use Prim.Native.Nat.{ℕ, suc, ◌+◌, ◌-◌, ◌<◌, ◌≤◌}
use mathlib.Core.Path.{◌≡◌, refl, ap, sym, ◌∙◌, subst}
use mathlib.Core.Bool.{Bool, true, false, false≢true}
use mathlib.Core.Logic.{inl, inr}
use mathlib.Core.List.{List, [], ◌∷◌, ◌++◌, append_assoc, append-nil}
use borrow.Author.Tests.{eqb-true}
use lib.ListN.{length, take, length-append}
use lib.Seq.{take-append-le, take-append-add, take-nil}
use Rattle.ikev2_numbers.specs.Codes.{exchange_at}
use Rattle.octets.specs.Numbers.{oct}
use Rattle.state_keys.specs.Limits.{Limits}
use Rattle.lists.specs.Lists.{count}
use Rattle.lists.proofs.Cases.{bool_cases, lt-cases}
use Rattle.text_rules.specs.Hex.{digits_of}
use Rattle.text_rules.specs.Lines.{Line, lines}
use Rattle.text_rules.proofs.RoundTrip.{written-hex}
use Rattle.text_lines.proofs.LineLaws.{NoNewline, lines-ended, lines-begun, begun}
use Rattle.state.specs.declared.State.{State}
use Rattle.rules_outcome.specs.Outcome.{Outcome}
use Rattle.rules_outcome.specs.Run.{Event, handed, sweep, leave}
use Rattle.rules_outcome.proofs.Demands.{lent-not-read}
use Rattle.state.specs.State.{new_state}
use Rattle.journal_rules.specs.Line.{is_gsa_rekey, event_octets, line_of, says, other_kind, read_line}
use Rattle.journal_rules.specs.Replay.{TakesEffect, StopsReading}
use Rattle.journal_rules.specs.Replay.{Replays, at-end, cut_short, goes_on, stops, ReadBack}
use Rattle.journal_rules.specs.Claims.{KeyFits, HoldableEvent, as_written}
use Rattle.journal_rules.specs.Claims.{journal_of, Typed, lines_ended, TookEffect, none-taken, then-took, CutTo}
use Rattle.journal_rules.proofs.Accepting.{accepted-frame}
use Rattle.journal_rules.proofs.LineBack.{octets-of, line-back}
use Rattle.journal_rules.proofs.Newlines.{hex-plain, plain-take, plain-none, none-plain, one-more-ended}

key-some : (lent : List ℕ) → KeyFits lent → (0 < length lent) × (length lent < 255)
key-some lent (inl e) = (omega arith, omega arith)
key-some lent (inr (inl e)) = (omega arith, omega arith)
key-some lent (inr (inr e)) = (omega arith, omega arith)

module _ (limits : Limits) where
  -- a step that took effect can be held by a line
  pub holdable : (s : State) (x : Event) (next : State) → Typed x → TakesEffect limits s x next → HoldableEvent x
  holdable s (handed f l t) next h o =
      let a = accepted-frame limits s t l f next o in
      bool_cases (is_gsa_rekey f)
      (λ e.
      rw e (record {
        octets = h.0;
        key-octets = λ k. omega arith;
        tick-fits = h.2;
        least = a.least;
        none = λ q. refl;
        some = λ q. absurd (false≢true (sym q ∙ e));
        few = omega arith;
      }))
      (λ e.
      let k = key-some l (a.key e) in
      rw e (record {
        octets = h.0;
        key-octets = h.1;
        tick-fits = h.2;
        least = a.least;
        none = λ q. absurd (false≢true (sym e ∙ q));
        some = λ q. k.0;
        few = k.1;
      }))
  holdable s (sweep t) next h o = h
  holdable s leave next h o = tt

  -- and has the same effect as its line says
  effect-written : (s : State) (x : Event) (next : State) → TakesEffect limits s x next → TakesEffect limits s (as_written x) next
  effect-written s (handed f l t) next o =
      bool_cases (is_gsa_rekey f)
      (λ e.
      rw e (lent-not-read limits s t l f (λ g d. sym d.exchange ∙ eqb-true (oct f exchange_at) 41 e) [] 0 next o))
      (λ e. rw e o)
  effect-written s (sweep t) next o = o
  effect-written s leave next o = o

  -- the first line of a journal
  abbrev whole : Event → Line
  whole x = record { text = digits_of (event_octets x); ended = true }

  digits-plain : (x : Event) → HoldableEvent x → NoNewline (digits_of (event_octets x))
  digits-plain x h = hex-plain (digits_of (event_octets x)) (written-hex (event_octets x) (octets-of x h))

  line-then : (x : Event) (rest : List ℕ) → HoldableEvent x → lines (line_of x ++ rest) ≡ whole x ∷ lines rest
  unfolding line_of
  line-then x rest h =
      let d = digits_of (event_octets x) in
      ap lines (append_assoc d (10 ∷ []) rest) ∙ lines-ended d rest (digits-plain x h)

  -- over the lines of steps that took effect, and on with whatever is behind them
  pub over-steps : (s e : State) (l : List Event) → TookEffect limits s l e → (rest : List ℕ) (n : ℕ) (last : State) (k : ℕ) →
      Replays limits e (n + length l) (lines rest) last k → Replays limits s n (lines (journal_of l ++ rest)) last k
  unfolding journal_of
  over-steps _ _ _ (none-taken s) rest n last k r =
      let z : n + 0 ≡ n = omega arith in subst (λ (m : ℕ). Replays limits s m (lines rest) last k) z r
  over-steps _ _ _ (then-took s m e x l h d t) rest n last k r =
      let y = holdable s x m h d in
      let z : n + suc (length l) ≡ n + 1 + length l = omega arith in
      subst (λ (ls : List Line). Replays limits s n ls last k)
      (sym (ap lines (append_assoc (line_of x) (journal_of l) rest) ∙ line-then x (journal_of l ++ rest) y))
      (goes_on s n (whole x) (lines (journal_of l ++ rest)) (as_written x) m last k refl (line-back x y) (effect-written s x m d)
      (over-steps m e l t rest (n + 1) last k (subst (λ (i : ℕ). Replays limits e i (lines rest) last k) z r)))

  -- what no newline ends is not looked at
  begun-rest : (s : State) (n : ℕ) (t : List ℕ) → Replays limits s n (begun t) s 0
  begun-rest s n [] = at-end s n
  begun-rest s n (c ∷ t) = cut_short s n (record { text = c ∷ t; ended = false }) [] refl

  pub rest-unread : (s : State) (n : ℕ) (t : List ℕ) → NoNewline t → Replays limits s n (lines t) s 0
  rest-unread s n t p = subst (λ (ls : List Line). Replays limits s n ls s 0) (sym (lines-begun t p)) (begun-rest s n t)

  module _ (profile : Bool) (l : List Event) (e : State) (took : TookEffect limits (new_state limits profile) l e) where
    -- "Cut at any octet, it must give the member as of the last line that ends in a newline": behind the lines of steps stand any octets
    -- without a newline, be they the beginning of a line, all its digits, or others
    pub cut-anywhere-behind : (t : List ℕ) → lines_ended t ≡ 0 → ReadBack limits profile (journal_of l ++ t) e 0
    cut-anywhere-behind t p =
        over-steps (new_state limits profile) e l took t _ e 0 (rest-unread e _ t (none-plain t p))

    -- "Reading a journal back onto a new member of the same profile gives the member that these steps made of one."
    pub reads-back : ReadBack limits profile (journal_of l) e 0
    unfolding count
    reads-back = subst (λ (j : List ℕ). ReadBack limits profile j e 0) (append-nil (journal_of l)) (cut-anywhere-behind [] refl)

    -- "A whole line that is not of these kinds, or that the member would refuse, stops the reading with its line number, from 1, and the
    -- member so far": whatever follows it
    pub stops_at : (t rest : List ℕ) → lines_ended t ≡ 0 → StopsReading limits e (read_line t) →
        ReadBack limits profile (journal_of l ++ (t ++ (10 ∷ rest))) e (1 + length l)
    stops_at t rest p q =
        over-steps (new_state limits profile) e l took (t ++ (10 ∷ rest)) 1 e (1 + length l)
        (subst (λ (ls : List Line). Replays limits e (1 + length l) ls e (1 + length l)) (sym (lines-ended t rest (none-plain t p)))
        (stops e (1 + length l) (record { text = t; ended = true }) (lines rest) refl q))

    -- of the two: a line that is none of these kinds, and a frame that the member refuses
    pub other-stops : (t rest : List ℕ) → lines_ended t ≡ 0 → read_line t ≡ other_kind →
        ReadBack limits profile (journal_of l ++ (t ++ (10 ∷ rest))) e (1 + length l)
    other-stops t rest p q = stops_at t rest p (subst (StopsReading limits e) (sym q) tt)

    pub refusal-stops : (t rest frame lent : List ℕ) (tick n : ℕ) → lines_ended t ≡ 0 → read_line t ≡ says (handed frame lent tick) →
        Outcome limits e tick lent frame (suc n) e → ReadBack limits profile (journal_of l ++ (t ++ (10 ∷ rest))) e (1 + length l)
    refusal-stops t rest frame lent tick n p q o = stops_at t rest p (subst (StopsReading limits e) (sym q) (n, o))

  -- ---- cut at any octet of the journal
  cut-within : (s : State) (m : ℕ) (x : Event) (l : List Event) → HoldableEvent x → (k : ℕ) → k < length (line_of x) →
      CutTo limits s m (x ∷ l) (take k (line_of x ++ journal_of l))
  unfolding line_of
  cut-within s m x l h k b =
      let d = digits_of (event_octets x) in
      let n = length-append d (10 ∷ []) in
      let e : take k ((d ++ (10 ∷ [])) ++ journal_of l) ≡ take k d =
      take-append-le k (d ++ (10 ∷ [])) (journal_of l) (omega arith) ∙ take-append-le k d (10 ∷ []) (omega arith) in
      let p = plain-take k d (digits-plain x h) in
      let z = plain-none (take k d) p in
      rw e (record {
        member = s;
        steps = rw z (none-taken s);
        reads = rest-unread s m (take k d) p;
      })

  cut-behind : (s next : State) (m : ℕ) (x : Event) (l : List Event) → Typed x → TakesEffect limits s x next → (k : ℕ) →
      length (line_of x) ≤ k → CutTo limits next (m + 1) l (take (k - length (line_of x)) (journal_of l)) →
      CutTo limits s m (x ∷ l) (take k (line_of x ++ journal_of l))
  unfolding line_of
  cut-behind s next m x l h d k b c =
      let y = holdable s x next h d in
      let t = digits_of (event_octets x) in
      let i = k - length (line_of x) in
      let r = take i (journal_of l) in
      let z : length (line_of x) + i ≡ k = omega arith in
      let e : take k (line_of x ++ journal_of l) ≡ line_of x ++ r =
      ap (λ (n : ℕ). take n (line_of x ++ journal_of l)) (sym z) ∙ take-append-add (line_of x) (journal_of l) i in
      let n : lines_ended (line_of x ++ r) ≡ suc (lines_ended r) =
      ap lines_ended (append_assoc t (10 ∷ []) r) ∙ one-more-ended t r (digits-plain x y) in
      subst (λ (j : List ℕ). CutTo limits s m (x ∷ l) j) (sym e) (record {
        member = c.member;
        steps =
            subst (λ (q : ℕ). TookEffect limits s (take q (x ∷ l)) c.member) (sym n)
            (then-took s next c.member x (take (lines_ended r) l) h d c.steps);
        reads =
            subst (λ (ls : List Line). Replays limits s m ls c.member 0) (sym (line-then x r y))
            (goes_on s m (whole x) (lines r) (as_written x) next c.member 0 refl (line-back x y) (effect-written s x next d) c.reads);
      })

  cut-over : (s e : State) (l : List Event) → TookEffect limits s l e → (k m : ℕ) → CutTo limits s m l (take k (journal_of l))
  unfolding journal_of lines count
  cut-over _ _ _ (none-taken s) k m = rw (take-nil k) (record { member = s; steps = none-taken s; reads = at-end s m })
  cut-over _ _ _ (then-took s n e x l h d t) k m =
      lt-cases k (length (line_of x)) (λ b. cut-within s m x l (holdable s x n h d) k b)
      (λ b. cut-behind s n m x l h d k b (cut-over n e l t (k - length (line_of x)) (m + 1)))

  -- "Cut at any octet, it must give the member as of the last line that ends in a newline": the first k octets of a journal, for every k
  pub cut-anywhere : (profile : Bool) (l : List Event) (e : State) → TookEffect limits (new_state limits profile) l e → (k : ℕ) →
      CutTo limits (new_state limits profile) 1 l (take k (journal_of l))
  cut-anywhere profile l e t k = cut-over (new_state limits profile) e l t k 1
