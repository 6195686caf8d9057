-- What opening one entry makes of its cell.
use native.Mathlib.Omega.{arith}
use Prim.Native.Nat.{ℕ, ◌-◌, ◌≤◌}
use mathlib.Core.Path.{◌≡◌, refl, ap, sym, ◌∙◌, subst}
use mathlib.Core.Bool.{Bool, true, false, cond, ◌&&◌}
use mathlib.Core.List.{List, []}
use borrow.Author.Tests.{eq-eqb, eqb-true}
use lib.Dec.{eqb}
use lib.ListN.{length, take, drop, replicate, length-replicate}
use lib.Seq.{take_at, take-append_seam}
use Rattle.octets.specs.Walk.{part}
use Rattle.fips197.specs.Key.{Key}
use Rattle.rfc5649.specs.Opens.{Opens}
use Rattle.keywrap.specs.Answers.{OpenAnswers}
use Rattle.keywrap.specs.inner.Blank.{blank, OpensBlank}
use Rattle.std.specs.Prelude.{None, Some}
use Rattle.wire_attributes.specs.Tree.{WrapKey}
use Rattle.lists.proofs.Cases.{bool_cases}
use Rattle.state_keys.specs.Algorithms.{is_wrapping_size}
use Rattle.state_keys.specs.Kinds.{wrapping_of, wrapping_key, value_of}
use Rattle.unwrap_search.specs.declared.open.Status.{Status}
use Rattle.unwrap_search.specs.declared.open.Status.TheVariants.{Waiting, Failed, Wrong, Pending, Done}
use Rattle.unwrap_search.specs.declared.open.Entry.{Entry}
use Rattle.unwrap_search.specs.declared.open.Cell.{Cell}
use Rattle.unwrap_search.specs.inner.Entries.{IsEntry}
use Rattle.unwrap_search.specs.inner.Opened.{waiting, naming, EntryOpened, WrongSize, NotOpened, Landed, Tried, opened, stays}
use Rattle.std.specs.Prelude.{Option}
use Rattle.state_keys.proofs.Made.{wrapping-made}
use Rattle.state_keys.specs.Kinds.{key_or_blank}
use Rattle.state_keys.specs.declared.kinds.WrappingKey.{WrappingKey}

module _ (v w octets : List ℕ) (size : ℕ) where
  pub landed_none : Key v → OpensBlank v w None → NotOpened v w
  unfolding blank
  landed_none is h x o =
      let room : length x ≤ length blank = subst (λ (m : ℕ). length x ≤ m) (sym (length-replicate {A = ℕ} 256 0)) o.most in
      h.none x (record { key-size = is.size; opens = o; holds = room })

  pub landed-wrong : (m : ℕ) → OpenAnswers v w blank (Some m) octets → (m ≡ size → ⊥) → WrongSize v size w
  landed-wrong m h ne = record { x = h.x; opens = h.result.opens; misfit = λ e. ne (sym h.count ∙ e) }

  pub landed-right : (m : ℕ) (made : Option WrappingKey) → OpenAnswers v w blank (Some m) octets → m ≡ size → is_wrapping_size size ≡ true →
      made ≡ wrapping_key (take m octets) → EntryOpened v size w (key_or_blank made)
  landed-right m made h e fit q =
      let x = h.x in
      let t : take m octets ≡ x = ap (take m) h.room-is ∙ take_at x (drop (length x) blank) m h.count in
      let f : is_wrapping_size (length x) ≡ true = ap is_wrapping_size (h.count ∙ e) ∙ fit in
      let is : key_or_blank made ≡ wrapping_of x = ap key_or_blank (q ∙ ap wrapping_key t ∙ wrapping-made x f) in
      let value : value_of (key_or_blank made) ≡ x = ap value_of is ∙ take-append_seam x (replicate (32 - length x) 0) in
      record {
        opens = subst (Opens v w) (sym value) h.result.opens;
        fits = ap length value ∙ h.count ∙ e;
        is = is ∙ ap wrapping_of (sym value);
      }

-- ---- a key tried on one entry
waits-is : (s : Status) → true ≡ waiting s → s ≡ Waiting
waits-is Waiting e = refl
waits-is Failed e = let z : ◌≡◌ {A = ℕ} 0 1 = cc in absurd (omega arith)
waits-is Wrong e = let z : ◌≡◌ {A = ℕ} 0 1 = cc in absurd (omega arith)
waits-is Pending e = let z : ◌≡◌ {A = ℕ} 0 1 = cc in absurd (omega arith)
waits-is Done e = let z : ◌≡◌ {A = ℕ} 0 1 = cc in absurd (omega arith)

-- an entry that waits for a key, by the test
named-is : (k : ℕ) (e : Entry) (c : Cell) → true ≡ naming k e c → (e.kwk ≡ k) × (c.status ≡ Waiting)
named-is k e c h =
    bool_cases (eqb e.kwk k)
    (λ b. (eqb-true e.kwk k b, waits-is c.status (h ∙ ap (λ (t : Bool). t && waiting c.status) b)))
    (λ b.
    let f : true ≡ false = h ∙ ap (λ (t : Bool). t && waiting c.status) b in
    let z : ◌≡◌ {A = ℕ} 0 1 = cc in
    absurd (omega arith))

pub named-not : (k : ℕ) (e : Entry) (c : Cell) → false ≡ naming k e c → e.kwk ≡ k → c.status ≡ Waiting → ⊥
named-not k e c h q w =
    let f : naming k e c ≡ true = ap (λ (t : Bool). t && waiting c.status) (eq-eqb e.kwk k q) ∙ ap waiting w in
    let z : ◌≡◌ {A = ℕ} 0 1 = cc in
    omega arith

module _ (frame : List ℕ) (place : Entry) (e : WrapKey) (is : IsEntry frame place e) (k : ℕ) (v : List ℕ) (size : ℕ) (c : Cell) where
  pub tried-opened : true ≡ naming k place c → (r : Cell) → Landed v size (part frame place.start place.end) r → Tried k v size e c r
  tried-opened h r l =
      let p = named-is k place c h in
      opened p.1 (sym is.kwk ∙ p.0) (subst (λ (s : List ℕ). Landed v size s r) is.octets l)

  pub tried_other : false ≡ naming k place c → Tried k v size e c c
  tried_other h = stays (λ w q. named-not k place c h (is.kwk ∙ q) w) refl
