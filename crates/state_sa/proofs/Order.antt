-- The order of the table is strict, and total on protocol and SPI.
use Rattle.std.proofs.Common.{◌≡◌, ℕ, true, false, eqb, ◌⊎◌, List, sym, ap, ◌∙◌, inl, inr, arith, le-ltb, lt-ltb, eq-eqb, eqb-true}
use mathlib.Core.Bool.{false≢true}
use Rattle.octets.specs.Compare.{less, same}
use Rattle.octets.proofs.Order.{Lex, lex-trans, less-trans, less-irrefl, less-total, same-eq, eq-same}
use Rattle.lists.proofs.Cases.{lt-cases, and_parts, and-whole}
use Rattle.state_sa.specs.declared.entry.Sa.{Sa}
use Rattle.state_sa.specs.Entry.{sa_spi, sa_before, named}

before-inv : (a b : Sa) → sa_before a b ≡ true → Lex a.protocol b.protocol (less (sa_spi a) (sa_spi b) ≡ true)
unfolding sa_before
before-inv a b e =
    lt-cases a.protocol b.protocol inl
    (λ g.
    lt-cases b.protocol a.protocol
    (λ h. absurd (false≢true (sym (rw (le-ltb a.protocol b.protocol g, lt-ltb b.protocol a.protocol h)) ∙ e)))
    (λ h. inr (omega arith, sym (rw (le-ltb a.protocol b.protocol g, le-ltb b.protocol a.protocol h)) ∙ e)))

before_of : (a b : Sa) → Lex a.protocol b.protocol (less (sa_spi a) (sa_spi b) ≡ true) → sa_before a b ≡ true
unfolding sa_before
before_of a b (inl h) = rw (lt-ltb a.protocol b.protocol h)
before_of a b (inr p) =
    let g = p.0 in rw (le-ltb a.protocol b.protocol (omega arith), le-ltb b.protocol a.protocol (omega arith)) p.1

pub before-trans : (a b c : Sa) → sa_before a b ≡ true → sa_before b c ≡ true → sa_before a c ≡ true
before-trans a b c e f =
    before_of a c
    (lex-trans a.protocol b.protocol c.protocol (less-trans (sa_spi a) (sa_spi b) (sa_spi c)) (before-inv a b e) (before-inv b c f))

pub before-irrefl : (a : Sa) → sa_before a a ≡ false
unfolding sa_before
before-irrefl a =
    rw (le-ltb a.protocol a.protocol (omega arith)) (less-irrefl (sa_spi a))

-- a has the protocol and the SPI of b
abbrev pub SameName : Sa → Sa → Type 0
SameName a b = (a.protocol ≡ b.protocol) × (sa_spi a ≡ sa_spi b)

pub same-not-before : (a b : Sa) → SameName a b → sa_before a b ≡ false
unfolding sa_before
same-not-before a b e =
    let p = e.0 in
    rw (le-ltb a.protocol b.protocol (omega arith), le-ltb b.protocol a.protocol (omega arith))
    (ap (less (sa_spi a)) (sym e.1) ∙ less-irrefl (sa_spi a))

total-by : (a b : Sa) → a.protocol ≡ b.protocol → (less (sa_spi a) (sa_spi b) ≡ true) ⊎
    ((sa_spi a ≡ sa_spi b) ⊎ (less (sa_spi b) (sa_spi a) ≡ true)) →
    (sa_before a b ≡ true) ⊎ (SameName a b ⊎ (sa_before b a ≡ true))
total-by a b e (inl x) = inl (before_of a b (inr (e, x)))
total-by a b e (inr (inl x)) = inr (inl (e, x))
total-by a b e (inr (inr x)) = inr (inr (before_of b a (inr (sym e, x))))

pub before-total : (a b : Sa) → (sa_before a b ≡ true) ⊎ (SameName a b ⊎ (sa_before b a ≡ true))
before-total a b =
    lt-cases a.protocol b.protocol (λ h. inl (before_of a b (inl h)))
    (λ g.
    lt-cases b.protocol a.protocol (λ h. inr (inr (before_of b a (inl h))))
    (λ h. total-by a b (omega arith) (less-total (sa_spi a) (sa_spi b))))

-- the name of an SA: a test by protocol and SPI passes exactly the SAs that have them
pub named-is : (p : ℕ) (x : List ℕ) (s : Sa) → named p x s ≡ true → (s.protocol ≡ p) × (sa_spi s ≡ x)
unfolding named
named-is p x s e =
    let f = and_parts (eqb s.protocol p) (same (sa_spi s) x) e in (eqb-true s.protocol p f.0, same-eq (sa_spi s) x f.1)

pub is-named : (p : ℕ) (x : List ℕ) (s : Sa) → s.protocol ≡ p → sa_spi s ≡ x → named p x s ≡ true
unfolding named
is-named p x s e f = and-whole (eqb s.protocol p) (same (sa_spi s) x) (eq-eqb s.protocol p e) (eq-same (sa_spi s) x f)
