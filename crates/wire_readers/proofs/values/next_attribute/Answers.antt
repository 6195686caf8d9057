use Rattle.std.proofs.Common.{rules, ℕ, eqb, cond, ◌≡◌, refl, ap, sym, ◌∙◌, drop}
use Rattle.octets.proofs.Walks.{to_end}
use Rattle.wire_attributes.specs.Tree.{code_of}
use Rattle.wire_attributes.specs.Answers.{read_of}
use Rattle.wire_attributes.specs.declared.tables.Meaning.{Meaning}
use Rattle.wire_attributes.specs.declared.tables.Meaning.TheVariants as meaning
use Rattle.wire_attributes.proofs.AttributeLaws.{read_is, cut-is}
use Rattle.wire_readers.proofs.ValuesLaws.{none_left, none-placed, never-cut, met, passed}
use Rattle.wire_readers.proofs.values.next_attribute.Goals as goal

-- no two meanings have one number
abbrev meaning_at : ℕ → Meaning
meaning_at n =
    cond (eqb n 1) meaning.KeyLength
    (cond (eqb n 2) meaning.InitialMessageId
    (cond (eqb n 3) meaning.DeactivationDelay
    (cond (eqb n 4) meaning.KeyLifetime
    (cond (eqb n 5) meaning.SaKey (cond (eqb n 6) meaning.WrapKey (cond (eqb n 7) meaning.FreshKey meaning.Skipped))))))

at-code : (m : Meaning) → meaning_at (code_of m) ≡ m
at-code meaning.Skipped = refl
at-code meaning.KeyLength = refl
at-code meaning.InitialMessageId = refl
at-code meaning.DeactivationDelay = refl
at-code meaning.KeyLifetime = refl
at-code meaning.SaKey = refl
at-code meaning.WrapKey = refl
at-code meaning.FreshKey = refl

same : (m n : Meaning) → code_of m ≡ code_of n → m ≡ n
same m n e = sym (at-code m) ∙ ap meaning_at e ∙ at-code n

pub returns-then-eq : goal.returns-then-eq
returns-then-eq c =
    let a = c.args in
    let s = a.s.now in
    let l = c.loop-at in
    let r = c.in_ok-a.a in
    let e : c.meaning_in.result ≡ a.m = search rules in
    met a.m a.place s l.at l.invariant.2 c.loop-at-test.true r.short r.kind r.start r.end
    (read_is (drop l.at s) r (c.in_ok-a.ensures ∙ ap read_of (to_end s l.at)))
    a.from l.invariant.0 l.invariant.3 l.invariant.4 (ap code_of (sym c.meaning_in.ensures ∙ e))

pub loop-at-preserved : goal.loop-at-preserved
loop-at-preserved c =
    let a = c.args in
    let s = a.s.now in
    let l = c.loop-at in
    let r = c.in_ok-a.a in
    let ne : c.meaning_in.result ≡ a.m → ⊥ = search rules in
    passed a.m a.place s l.at l.invariant.2 c.loop-at-test.true r.short r.kind r.start r.end
    (read_is (drop l.at s) r (c.in_ok-a.ensures ∙ ap read_of (to_end s l.at)))
    a.from l.invariant.0 l.invariant.3 l.invariant.4 (λ k. ne (c.meaning_in.ensures ∙ same _ _ k))

pub returns-in_err-a : goal.returns-in_err-a
returns-in_err-a c =
    let a = c.args in
    let l = c.loop-at in
    absurd (never-cut a.m a.place a.s.now l.at l.invariant.2 c.loop-at-test.true
    (cut-is (drop l.at a.s.now) (c.in_err-a.ensures ∙ ap read_of (to_end a.s.now l.at))))

pub returns : goal.returns
returns c =
    let a = c.args in
    let l = c.loop-at in (
      l.invariant.3 ∙ none_left a.m a.place a.s.now l.at l.invariant.2 c.loop-at-test.false,
      l.invariant.4 ∙ none-placed a.m a.place a.s.now l.at l.invariant.2 c.loop-at-test.false,
    )
