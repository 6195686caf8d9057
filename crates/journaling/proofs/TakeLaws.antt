-- One line over a member: what its octets say, and what the member does with it.
use Rattle.std.proofs.Common.{◌≡◌, ℕ, zero, suc, ◌+◌, ◌<◌, ◌≤◌, Bool, true, false, not, ◌&&◌, eqb, leb, List, [], ◌∷◌, length, get_or, take, sym, refl, ap, ◌∙◌, subst, arith, length-take-le, get_or-drop, take_all, eq-eqb, ne_eqb, eqb-true, le-leb, leb-true}
use Rattle.std.specs.Prelude.{Option}
use borrow.Author.Tests.{lt-leb}
use Rattle.octets.specs.Walk.{be32}
use Rattle.state_keys.specs.Limits.{limits}
use Rattle.lists.proofs.Cases.{lt-cases, and_parts}
use Rattle.text_rules.specs.Hex.{is_hex, octets_of_hex}
use Rattle.text_lines.specs.inner.Room.{Put}
use Rattle.text_lines.specs.inner.Reading.{LineKept}
use Rattle.text_lines.proofs.RoomLaws.{put-taken, put_next}
use Rattle.text_lines.proofs.CallLaws.{length-octets}
use Rattle.state.specs.declared.State.{State}
use Rattle.state.specs.State.{swept_state}
use Rattle.rules_outcome.specs.Outcome.{Outcome}
use Rattle.rules_outcome.specs.Run.{handed, sweep, leave}
use Rattle.rules_outcome.proofs.Demands.{refusal-keeps}
use Rattle.gikev2.specs.Member.{swept_member, left_member}
use Rattle.gikev2.specs.Receive.{number_of, Receives}
use Rattle.gikev2.specs.declared.Member.{Member}
use Rattle.gikev2.specs.declared.call.Answer.{Answer}
use Rattle.journal_rules.specs.Line.{is_gsa_rekey, Said, other_kind, frame_behind, hands_in, handed_by, said_of, read_line}
use Rattle.journal_rules.specs.Replay.{WouldRefuse, StopsReading}
use Rattle.journal_rules.specs.inner.Longest.{longest_octets, longest_digits}
use Rattle.journal_rules.proofs.Determined.{goes-or-stops}
use Rattle.journal_rules.proofs.LongLines.{long-stops}
use Rattle.journaling.specs.inner.LineTaking.{LineTakes, TakesLine}

-- what a line that is of none of these kinds comes to
pub takes-other : (s : State) (said : Said) → said ≡ other_kind → LineTakes s said false s
takes-other s said e = (subst (StopsReading limits s) (sym e) tt, refl)

pub takes-as : (s next : State) (b : Bool) {x y : Said} → x ≡ y → LineTakes s x b next → LineTakes s y b next
takes-as s next b e p = subst (λ (z : Said). LineTakes s z b next) e p

pub takes-line-as : (s : State) (r : Option Member) {x y : Said} → x ≡ y → TakesLine s x r → TakesLine s y r
takes-line-as s r e p = subst (λ (z : Said). TakesLine s z r) e p

-- ---- whether octets hand in a frame
module _ (n : ℕ) (o : List ℕ) where
  pub hands-short : length o < n + 32 → false ≡ hands_in n o
  hands-short h = rw (lt-leb (n + 32) (length o) h)

  exchange-there : is_gsa_rekey (frame_behind n o) ≡ eqb (get_or o (n + 4 + 18) 0) 41
  exchange-there = ap (λ (x : ℕ). eqb x 41) (get_or-drop (n + 4) o 18 0)

  pub hands-rekey : n + 32 ≤ length o → get_or o (n + 4 + 18) 0 ≡ 41 → eqb n 0 ≡ hands_in n o
  hands-rekey h e = rw (le-leb (n + 32) (length o) h, exchange-there, eq-eqb (get_or o (n + 4 + 18) 0) 41 e)

  pub hands-other : n + 32 ≤ length o → (get_or o (n + 4 + 18) 0 ≡ 41 → ⊥) → not (eqb n 0) ≡ hands_in n o
  hands-other h e = rw (le-leb (n + 32) (length o) h, exchange-there, ne_eqb (get_or o (n + 4 + 18) 0) 41 e)

  pub hands-there : hands_in n o ≡ true → n + 32 ≤ length o
  hands-there e = leb-true (n + 32) (length o) (and_parts (leb (n + 32) (length o)) _ e).0

  -- ---- a frame that is handed in
  module _ (m : Member) {tick : ℕ} {lent frame : List ℕ} {a : Answer} {next : Member} (h : hands_in n o ≡ true) (t : tick ≡ be32 o n)
      (l : lent ≡ take n o) (f : frame ≡ frame_behind n o) (r : Receives m tick lent frame a next) where
    outcome-there : Outcome limits m.state (be32 o n) (take n o) (frame_behind n o) (number_of a) next.state
    outcome-there =
        subst (λ (x : List ℕ). Outcome limits m.state (be32 o n) (take n o) x (number_of a) next.state) f
        (subst (λ (x : List ℕ). Outcome limits m.state (be32 o n) x frame (number_of a) next.state) l
        (subst (λ (x : ℕ). Outcome limits m.state x lent frame (number_of a) next.state) t r.outcome))

    pub frame-taken : number_of a ≡ 0 → LineTakes m.state (handed_by n o) true next.state
    frame-taken z = (
      handed (frame_behind n o) (take n o) (be32 o n),
      rw h,
      subst (λ (k : ℕ). Outcome limits m.state (be32 o n) (take n o) (frame_behind n o) k next.state) z outcome-there,
    )

    refuses : (k : ℕ) → (k ≡ 0 → ⊥) → Outcome limits m.state (be32 o n) (take n o) (frame_behind n o) k m.state →
        WouldRefuse limits m.state (handed (frame_behind n o) (take n o) (be32 o n))
    refuses zero z p = absurd (z refl)
    refuses (suc k) z p = (k, p)

    pub frame_refused : (number_of a ≡ 0 → ⊥) → LineTakes m.state (handed_by n o) false m.state
    frame_refused z =
        let k = refusal-keeps limits m.state (be32 o n) (take n o) (frame_behind n o) (number_of a) next.state outcome-there z in (
          rw h (refuses (number_of a) z
              (subst (λ (s : State). Outcome limits m.state (be32 o n) (take n o) (frame_behind n o) (number_of a) s) k outcome-there)),
          refl,
        )

-- ---- the octet of a line, with those behind it
module _ (m : Member) (n : ℕ) (o : List ℕ) where
  pub leaving-taken : n ≡ 255 → length o ≡ 0 → (next : Member) → next ≡ left_member m →
      LineTakes m.state (said_of (n ∷ o)) true next.state
  unfolding said_of left_member
  leaving-taken e z next d = (leave, rw (eq-eqb n 255 e, eq-eqb (length o) 0 z), ap (λ (x : Member). x.state) d)

  pub leaving-other : n ≡ 255 → (length o ≡ 0 → ⊥) → LineTakes m.state (said_of (n ∷ o)) false m.state
  unfolding said_of
  leaving-other e z = takes-other m.state (said_of (n ∷ o)) (rw (eq-eqb n 255 e, ne_eqb (length o) 0 z))

  module _ (no-leaving : n ≡ 255 → ⊥) where
    pub sweep-there : (eqb n 0 && eqb (length o) 4) ≡ true → length o ≡ 4
    sweep-there q = eqb-true (length o) 4 (and_parts (eqb n 0) (eqb (length o) 4) q).1

    pub sweep-taken : (eqb n 0 && eqb (length o) 4) ≡ true → (tick : ℕ) → tick ≡ be32 o 0 → (next : Member) → next ≡ swept_member tick m →
        LineTakes m.state (said_of (n ∷ o)) true next.state
    unfolding said_of swept_member
    sweep-taken q tick t next d = (
      sweep (be32 o 0),
      rw (ne_eqb n 255 no-leaving, q),
      ap (λ (x : Member). x.state) d ∙ ap (λ (x : ℕ). swept_state limits x m.state) t,
    )

    said-handed : (eqb n 0 && eqb (length o) 4) ≡ false → handed_by n o ≡ said_of (n ∷ o)
    unfolding said_of
    said-handed q = rw (ne_eqb n 255 no-leaving, q)

    pub handed-taken : (eqb n 0 && eqb (length o) 4) ≡ false → (r : Option Member) → TakesLine m.state (handed_by n o) r →
        TakesLine m.state (said_of (n ∷ o)) r
    handed-taken q r p = takes-line-as m.state r (said-handed q) p

    pub none-handed : (eqb n 0 && eqb (length o) 4) ≡ false → hands_in n o ≡ false →
        LineTakes m.state (said_of (n ∷ o)) false m.state
    none-handed q h = takes-as m.state m.state false (said-handed q) (takes-other m.state (handed_by n o) (rw h))

pub no-octets-said : (s : State) (o : List ℕ) → length o ≡ 0 → LineTakes s (said_of o) false s
unfolding said_of
no-octets-said s [] e = takes-other s other_kind refl
no-octets-said s (n ∷ o) e = absurd (omega arith)

-- ---- a text
module _ (s : State) (text : List ℕ) where
  pub text-taken : is_hex text ≡ true → (r : Option Member) → TakesLine s (said_of (octets_of_hex text)) r → TakesLine s (read_line text) r
  unfolding read_line
  text-taken h r p = rw h p

  pub text-other : is_hex text ≡ false → LineTakes s (read_line text) false s
  unfolding read_line
  text-other h = takes-other s (read_line text) (rw h)

  pub text-long : longest_digits < length text → LineTakes s (read_line text) false s
  text-long h = (long-stops limits s text h, refl)

-- the octets of a text in the room
module _ {room after : List ℕ} {n : ℕ} (text : List ℕ) (p : Put room 0 (octets_of_hex text) after n) (h : length text ≤ longest_digits)
    (k : longest_octets ≤ length room) where
  pub octets-inside : n ≤ longest_octets
  octets-inside =
      let l = length-octets text in let e = put_next p (omega arith) in omega arith

  pub octets-there : take n after ≡ octets_of_hex text
  octets-there = let l = length-octets text in put-taken p (omega arith)

-- ---- lines that are too long to be taken: all of them come to the same
pub takes-long : (s : State) (u v : List ℕ) → longest_digits < length u → longest_digits < length v → (b : Bool) (next : State) →
    LineTakes s (read_line u) b next → LineTakes s (read_line v) b next
takes-long s u v h k true next t = absurd (goes-or-stops limits s (read_line u) t.0 next t.1 t.2 (long-stops limits s u h))
takes-long s u v h k false next t = (long-stops limits s v k, t.1)

-- a line that is longer than the lent one
pub takes-kept : {line : List ℕ} {len : ℕ} {text : List ℕ} → LineKept line len text → length line ≡ longest_digits + 1 →
    (s : State) (b : Bool) (next : State) → LineTakes s (read_line (take len line)) b next → LineTakes s (read_line text) b next
takes-kept {line} {len} {text} p l s b next t =
    lt-cases (length line) (length text)
    (λ h.
    let c = length-take-le (length line) text (omega arith) in
    let e = ap length p.same in
    takes-long s (take len line) text (omega arith) (omega arith) b next t)
    (λ h. takes-as s next b (ap read_line (p.same ∙ take_all (length line) text h)) t)
