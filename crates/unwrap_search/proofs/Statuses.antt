-- Cells by their status, and one on which a key was tried.
use native.Mathlib.Omega.{arith}
use Prim.Native.Nat.{ℕ, zero, suc, ◌<◌}
use mathlib.Core.Path.{◌≡◌, refl, ap, sym, ◌∙◌, subst}
use mathlib.Core.List.{List, [], ◌∷◌}
use borrow.Author.Tests.{eqb-true, eqb-false}
use Rattle.lists.proofs.Cases.{bool_cases}
use lib.ListN.{length, get_or}
use Rattle.rfc5649.specs.Opens.{Opens}
use Rattle.rfc5649.proofs.Determined.{opens_one}
use Rattle.wire_attributes.specs.Tree.{WrapKey}
use Rattle.state_keys.specs.declared.kinds.WrappingKey.{WrappingKey}
use Rattle.unwrap_search.specs.declared.open.Status.{Status}
use Rattle.unwrap_search.specs.declared.open.Status.TheVariants.{Waiting, Failed, Wrong, Pending, Done}
use Rattle.unwrap_search.specs.declared.open.Cell.{Cell}
use Rattle.state_keys.specs.Kinds.{value_of}
use Rattle.unwrap_search.specs.inner.Opened.{EntryOpened, WrongSize, NotOpened, LandedBy, Landed, Tried, opened, stays}
use lib.Dec.{eqb}
use Rattle.fips197.specs.Key.{Key}

-- the cell's entry opened to a right size
abbrev pub Holds : Status → Type 0
Holds Waiting = ⊥
Holds Failed = ⊥
Holds Wrong = ⊥
Holds Pending = Unit {0}
Holds Done = Unit {0}

-- what the cell of entry e says, where K says which keys are known
abbrev pub GoodBy : ℕ → (ℕ → List ℕ → Type 0) → WrapKey → Status → WrappingKey → Type 0
GoodBy size K e Waiting key = Unit {0}
GoodBy size K e Failed key = (v : List ℕ) × K e.kwk_id v × NotOpened v e.wrapped
GoodBy size K e Wrong key = (v : List ℕ) × K e.kwk_id v × WrongSize v size e.wrapped
GoodBy size K e Pending key = (v : List ℕ) × K e.kwk_id v × EntryOpened v size e.wrapped key
GoodBy size K e Done key = (v : List ℕ) × K e.kwk_id v × EntryOpened v size e.wrapped key

abbrev pub Good : ℕ → (ℕ → List ℕ → Type 0) → WrapKey → Cell → Type 0
Good size K e c = GoodBy size K e c.status c.key

pub good-mono : (size : ℕ) (K L : ℕ → List ℕ → Type 0) → ((k : ℕ) (v : List ℕ) → K k v → L k v) →
    (e : WrapKey) (s : Status) (x : WrappingKey) →
    GoodBy size K e s x → GoodBy size L e s x
good-mono size K L f e Waiting x g = g
good-mono size K L f e Failed x g = (g.0, f _ _ g.1, g.2)
good-mono size K L f e Wrong x g = (g.0, f _ _ g.1, g.2)
good-mono size K L f e Pending x g = (g.0, f _ _ g.1, g.2)
good-mono size K L f e Done x g = (g.0, f _ _ g.1, g.2)

pub good-landed : (size : ℕ) (K : ℕ → List ℕ → Type 0) (e : WrapKey) (v : List ℕ) → K e.kwk_id v → (s : Status) (x : WrappingKey) →
    LandedBy v size e.wrapped s x → GoodBy size K e s x
good-landed size K e v h Waiting x l = absurd l
good-landed size K e v h Failed x l = (v, h, l)
good-landed size K e v h Wrong x l = (v, h, l)
good-landed size K e v h Pending x l = (v, h, l)
good-landed size K e v h Done x l = absurd l

pub landed-waits : (v : List ℕ) (size : ℕ) (w : List ℕ) (s : Status) (x : WrappingKey) → LandedBy v size w s x → s ≡ Waiting → ⊥
landed-waits v size w Waiting x l e = l
landed-waits v size w Failed x l e = let z : ◌≡◌ {A = ℕ} 0 1 = cc in omega arith
landed-waits v size w Wrong x l e = let z : ◌≡◌ {A = ℕ} 0 1 = cc in omega arith
landed-waits v size w Pending x l e = let z : ◌≡◌ {A = ℕ} 0 1 = cc in omega arith
landed-waits v size w Done x l e = l

pub landed-done : (v : List ℕ) (size : ℕ) (w : List ℕ) (s : Status) (x : WrappingKey) → LandedBy v size w s x → s ≡ Done → ⊥
landed-done v size w Waiting x l e = l
landed-done v size w Failed x l e = let z : ◌≡◌ {A = ℕ} 0 1 = cc in omega arith
landed-done v size w Wrong x l e = let z : ◌≡◌ {A = ℕ} 0 1 = cc in omega arith
landed-done v size w Pending x l e = let z : ◌≡◌ {A = ℕ} 0 1 = cc in omega arith
landed-done v size w Done x l e = l

pub holds-waits : (s : Status) → Holds s → s ≡ Waiting → ⊥
holds-waits Waiting h e = h
holds-waits Failed h e = h
holds-waits Wrong h e = h
holds-waits Pending h e = let z : ◌≡◌ {A = ℕ} 0 1 = cc in omega arith
holds-waits Done h e = let z : ◌≡◌ {A = ℕ} 0 1 = cc in omega arith

pub holds-good : (size : ℕ) (K : ℕ → List ℕ → Type 0) (e : WrapKey) (s : Status) (x : WrappingKey) → Holds s → GoodBy size K e s x →
    (v : List ℕ) × K e.kwk_id v × EntryOpened v size e.wrapped x
holds-good size K e Waiting x h g = absurd h
holds-good size K e Failed x h g = absurd h
holds-good size K e Wrong x h g = absurd h
holds-good size K e Pending x h g = g
holds-good size K e Done x h g = g

-- where an entry that names a known key no longer waits and is not of a wrong size, it opened to what it opens to
pub good-known : (size : ℕ) (K : ℕ → List ℕ → Type 0) (e : WrapKey) (v w : List ℕ) (s : Status) (x : WrappingKey) →
    ((a b : List ℕ) → K e.kwk_id a → K e.kwk_id b → a ≡ b) → K e.kwk_id v → Key v → Opens v e.wrapped w →
    (s ≡ Waiting → ⊥) → (s ≡ Wrong → ⊥) → GoodBy size K e s x → Holds s × (value_of x ≡ w)
good-known size K e v w Waiting x u h is q n m g = absurd (n refl)
good-known size K e v w Failed x u h is q n m g = absurd (g.2 w (subst (λ (t : List ℕ). Opens t e.wrapped w) (u v g.0 h g.1) q))
good-known size K e v w Wrong x u h is q n m g = absurd (m refl)
good-known size K e v w Pending x u h is q n m g =
    let o = subst (λ (t : List ℕ). Opens t e.wrapped (value_of x)) (u g.0 v g.1 h) g.2.opens in
    (tt, opens_one v e.wrapped (value_of x) w is o q)
good-known size K e v w Done x u h is q n m g =
    let o = subst (λ (t : List ℕ). Opens t e.wrapped (value_of x)) (u g.0 v g.1 h) g.2.opens in
    (tt, opens_one v e.wrapped (value_of x) w is o q)

pub eq-cases : {P : Type 0} (a b : ℕ) → (a ≡ b → P) → ((a ≡ b → ⊥) → P) → P
eq-cases a b f g = bool_cases (eqb a b) (λ e. f (eqb-true a b e)) (λ e. g (eqb-false a b e))

pub get_d_any : {A : Type 0} (l : List A) (i : ℕ) (a b : A) → i < length l → get_or l i a ≡ get_or l i b
get_d_any [] i a b h = absurd (omega arith)
get_d_any (x ∷ l) zero a b h = refl
get_d_any (x ∷ l) (suc i) a b h = get_d_any l i a b (omega arith)

pub waits-done : (s : Status) → s ≡ Waiting → s ≡ Done → ⊥
waits-done s p q = let z : ◌≡◌ {A = ℕ} 0 1 = cc in omega arith

pub holds-done : (s : Status) → Holds s → (s ≡ Pending → ⊥) → s ≡ Done
holds-done Waiting h f = absurd h
holds-done Failed h f = absurd h
holds-done Wrong h f = absurd h
holds-done Pending h f = absurd (f refl)
holds-done Done h f = refl

-- ---- a cell on which a key was tried, by cases
module _ (k : ℕ) (v : List ℕ) (size : ℕ) (e : WrapKey) (c r : Cell) where
  pub tried-stays : Holds c.status → Tried k v size e c r → r ≡ c
  tried-stays h (opened w q l) = absurd (holds-waits c.status h w)
  tried-stays h (stays f p) = p

  pub tried-waits : Tried k v size e c r → r.status ≡ Waiting → (c.status ≡ Waiting) × (e.kwk_id ≡ k → ⊥)
  tried-waits (opened w q l) h = absurd (landed-waits v size e.wrapped r.status r.key l h)
  tried-waits (stays f p) h = let s : c.status ≡ Waiting = ap (λ (a : Cell). a.status) (sym p) ∙ h in (s, f s)

  pub tried-done : Tried k v size e c r → r.status ≡ Done → c.status ≡ Done
  tried-done (opened w q l) h = absurd (landed-done v size e.wrapped r.status r.key l h)
  tried-done (stays f p) h = ap (λ (a : Cell). a.status) (sym p) ∙ h

pub tried-elim : (P : Cell → Type 0) (k : ℕ) (v : List ℕ) (size : ℕ) (e : WrapKey) (c r : Cell) → Tried k v size e c r →
    (c.status ≡ Waiting → e.kwk_id ≡ k → Landed v size e.wrapped r → P r) → P c → P r
tried-elim P k v size e c r (opened w q l) f g = f w q l
tried-elim P k v size e c r (stays n p) f g = subst P (sym p) g
