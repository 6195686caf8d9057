-- The answer to a sealed frame: from what the code finds to the sealed outcome, and that the outcome is one.
use native.Mathlib.Omega.{arith}
use Prim.Native.Nat.{ℕ, ◌-◌, ◌≤◌}
use mathlib.Core.Path.{◌≡◌, refl, sym, ap, ap₂, ◌∙◌, subst}
use mathlib.Core.Bool.{Bool, true, false, false≢true}
use mathlib.Core.Logic.{inl, inr}
use mathlib.Core.List.{List}
use borrow.Author.Tests.{eq-eqb, ne_eqb}
use lib.ListN.{length, take, drop, length-append}
use lib.Seq.{take-append_seam}
use Rattle.octets.specs.Octets.{Octets}
use Rattle.state_keys.specs.Limits.{limits}
use Rattle.state_keys.specs.declared.kinds.EncryptionKey.{EncryptionKey}
use Rattle.wire_frames.specs.Header.{Header, header_of}
use Rattle.state.specs.declared.State.{State}
use Rattle.rules_refusals.specs.Refusals.{one, applies, number2}
use Rattle.rfc5282.specs.Outer.{outer, IsOuter}
use Rattle.rfc5282.specs.Number10.{Unopened, OpensInto}
use Rattle.rfc5282.proofs.LayoutLaws.{outer-relates, relates-outer}
use Rattle.rfc5282.proofs.Number10Laws.{unopened-none}
use Rattle.gcm.specs.Opening.{put_at_start}
use Rattle.std.specs.Prelude.{Option, None, Some}
use Rattle.sealing.specs.Unsealing.{UnsealsInto}
use Rattle.rules_outcome.specs.Answer.{First}
use Rattle.rules_sealed.specs.SealingKey.{sealing_key, encryption_octets_of, sealing_part}
use Rattle.rules_sealed.specs.SealedOutcome.{sealed_number2, sealed_conditions, not_opened}
use Rattle.rules_sealed.proofs.SealedDetermined.{sealed-one, receives-opened}
use Rattle.gikev2.specs.declared.Member.{Member}
use Rattle.gikev2.specs.declared.call.Answer.{Answer}
use Rattle.gikev2.specs.declared.call.Answer.TheVariants as answer
use Rattle.gikev2.specs.Receive.{Receives, number_of, figure_of}
use Rattle.gikev2.specs.ReceiveSealed.{ReceivesSealed}
use Rattle.gikev2.specs.inner.Sealing.{IsSealingKey}
use Rattle.gikev2.proofs.ReceiveLaws.{answer-one}

-- ---- number 2
module _ (s : State) (now : ℕ) (h : Header) where
  pub other-exchange : (h.exchange ≡ 41 → ⊥) → true ≡ applies (sealed_number2 limits s now h)
  unfolding one
  other-exchange f = rw (ne_eqb h.exchange 41 f)

  pub rekey-exchange : (r : Bool) (x : ℕ) → x ≡ h.exchange → x ≡ 41 → r ≡ applies (number2 limits s now x h.spi) →
      r ≡ applies (sealed_number2 limits s now h)
  unfolding one
  rekey-exchange r x e d g =
      g ∙ ap (λ (y : ℕ). applies (number2 limits s now y h.spi)) e ∙ rw (eq-eqb h.exchange 41 (sym e ∙ d))

pub not_so : {b : Bool} → b ≡ false → b ≡ true → ⊥
not_so e a = false≢true (sym e ∙ a)

-- ---- the key
pub key-part : (m : Member) (k : EncryptionKey) → IsSealingKey m.state.table k → encryption_octets_of k ≡ sealing_part limits m.state
unfolding sealing_key
key-part m k i = ap encryption_octets_of i.is

module _ (m : Member) (now : ℕ) (octets room : List ℕ) where
  -- the answer, the member and the room that the code gives back
  pub given-as : (a b : Answer) (next after : Member) (left : List ℕ) → a ≡ b → next ≡ after
      → ReceivesSealed m now octets room b after left →
      ReceivesSealed m now octets room a next left
  given-as a b next after left ea em r =
      subst (λ (x : Answer). ReceivesSealed m now octets room x next left) (sym ea)
      (subst (λ (x : Member). ReceivesSealed m now octets room b x left) (sym em) r)

  pub outer-refused : outer octets ≡ false → ReceivesSealed m now octets room (answer.BrokenLayout 0) m room
  outer-refused e = not_opened 0 (inl (λ i. false≢true (sym e ∙ relates-outer octets i), refl))

  module _ (o : Octets octets) (e : outer octets ≡ true) where
    is-outer : (IsOuter octets → ⊥) → ⊥
    is-outer k = k (outer-relates octets o e)

    pub two-refused : applies (sealed_number2 limits m.state now (header_of octets)) ≡ true →
        ReceivesSealed m now octets room answer.NotForMember m room
    two-refused a = not_opened 1 (inr (is-outer, inl (a, refl)))

    module _ (e2 : applies (sealed_number2 limits m.state now (header_of octets)) ≡ false) where
      no-2 : applies (sealed_number2 limits m.state now (header_of octets)) ≡ true → ⊥
      no-2 = not_so e2

      pub unopened-refused : Unopened (sealing_part limits m.state) octets room →
          ReceivesSealed m now octets room answer.Unopened m room
      unopened-refused u = not_opened 9 (inr (is-outer, inr (no-2, inl (u, refl))))

      -- what was opened is received as it is by `receive`, whatever key is lent
      module _ (x : List ℕ) (h : OpensInto (sealing_part limits m.state) octets room x) where
        past : First (sealed_conditions limits m.state now octets room) 0
        past = inr (is-outer, inr (no-2, inr (λ u. unopened-none (sealing_part limits m.state) octets room u x h, refl)))

        pub opened-received : (lent : List ℕ) (a : Answer) (next : Member) → Receives m now lent x a next →
            ReceivesSealed m now octets room a next (put_at_start x room)
        opened-received lent a next r =
            (receives-opened limits m.state now octets room x past h lent (number_of a) (figure_of a) next.state (put_at_start x room)).1
            (r.outcome, r.offset, refl)

  -- ---- from the answer of `open_frame`
  module _ (part : List ℕ) (r : Option ℕ) (after : List ℕ) (u : UnsealsInto part octets room r after) where
    pub opened-fits : (n : ℕ) → r ≡ Some n → n ≤ length after
    opened-fits n e =
        let w : UnsealsInto part octets room (Some n) after = subst (λ (x : Option ℕ). UnsealsInto part octets room x after) e u in
        let l = ap length w.room-is ∙ length-append w.opened (drop (length w.opened) room) in
        omega (arith, l, w.count)

    module _ (o : Octets octets) (e : outer octets ≡ true)
        (e2 : applies (sealed_number2 limits m.state now (header_of octets)) ≡ false) (ep : part ≡ sealing_part limits m.state) where
      pub not-opened-given : r ≡ None → (a : Answer) (next : Member) → a ≡ answer.Unopened → next ≡ m →
          ReceivesSealed m now octets room a next after
      not-opened-given q a next ea em =
          let w : UnsealsInto part octets room None after = subst (λ (x : Option ℕ). UnsealsInto part octets room x after) q u in
          given-as a answer.Unopened next m after ea em
          (subst (λ (x : List ℕ). ReceivesSealed m now octets room answer.Unopened m x) (sym w.room-is)
          (unopened-refused o e e2 (subst (λ (x : List ℕ). Unopened x octets room) ep w.clause)))

      pub opened-given : (n : ℕ) → r ≡ Some n → (lent : List ℕ) (a : Answer) (next : Member) →
          Receives m now lent (take (n - 0) (drop 0 after)) a next → ReceivesSealed m now octets room a next after
      opened-given n q lent a next v =
          let w : UnsealsInto part octets room (Some n) after = subst (λ (x : Option ℕ). UnsealsInto part octets room x after) q u in
          let x = w.opened in
          let h = subst (λ (y : List ℕ). OpensInto y octets room x) ep w.opening in
          let t : take (n - 0) (drop 0 after) ≡ x =
          ap₂ take (let k : n - 0 ≡ n = omega arith in k ∙ sym w.count) w.room-is ∙ take-append_seam x (drop (length x) room) in
          subst (λ (y : List ℕ). ReceivesSealed m now octets room a next y) (sym w.room-is)
          (opened-received o e e2 x h lent a next (subst (λ (y : List ℕ). Receives m now lent y a next) t v))

  -- "Every public call's promise determines its answer and the member or lent storage after it, also on refusal, for all inputs"
  pub receives-sealed-one : (a b : Answer) (next after : Member) (left rest : List ℕ) → ReceivesSealed m now octets room a next left →
      ReceivesSealed m now octets room b after rest → (a ≡ b) × (next ≡ after) × (left ≡ rest)
  receives-sealed-one a b next after left rest p q =
      let r = sealed-one limits m.state now octets room (number_of a) (number_of b) (figure_of a) (figure_of b) next.state after.state
      left rest p q in
      (answer-one a b r.0 r.1, λ i. record { state = r.2 i }, r.3)
