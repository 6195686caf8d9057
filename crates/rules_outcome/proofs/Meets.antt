-- The list of specs/Meets.antt beside the one that is judged: a number is given exactly when the condition at some place has it and holds,
-- and none at an earlier place does. The numbers of document 01's table rise; behind it the 7 of document 02, T-11, stands after 9.
use native.Mathlib.Omega.{arith}
use Prim.Native.Nat.{ℕ, suc, ◌≤◌, ◌<◌}
use mathlib.Core.Path.{◌≡◌, refl, sym, subst}
use mathlib.Core.Bool.{Bool, true}
use mathlib.Core.Logic.{◌⊎◌, inl, inr, ⊎_elim, ◌↔◌}
use mathlib.Core.List.{List, [], ◌∷◌, ◌++◌, map}
use Rattle.state_keys.specs.Limits.{Limits}
use Rattle.wire_frames.specs.Frame.{Frame}
use Rattle.wire_frames.specs.Grammar.{IsFrame}
use Rattle.wire_frames.proofs.FrameGrammar.{one-tree}
use Rattle.state.specs.declared.State.{State}
use Rattle.rules_refusals.specs.Refusals.{applies, number2, number4, number6, number7, numbers}
use Rattle.rules_outcome.specs.Answer.{RefusalCase, First, by_clauses, KeyConflictOf, KeyMissingOf, conditions}
use Rattle.rules_outcome.specs.Holding.{OverHeldOf}
use Rattle.rules_outcome.specs.Judging.{SomeHolds, JudgedFirst, above}
use Rattle.rules_outcome.specs.Meets.{RefusalRow, refusal_rows, OfTree, of_tree, table_rows, over_then, judging_order, Meets, Refused}
use Rattle.rules_outcome.specs.Meets.{lowest, over-then, Accepted}
use Rattle.rules_outcome.specs.Outcome.{Judged, refused, accepted, NoTree, Outcome, no-layout, by-tree}
use Rattle.rules_outcome.proofs.First.{below_holds, past-holds, exceed-holds, first_holds, first-lowest, first-none, first-is}
use Rattle.rules_outcome.proofs.First.{none_first, first-split, first-left, first-right, some_left, some_right, some-split, first-at}
use Rattle.rules_outcome.proofs.First.{at_first}
use Rattle.rules_outcome.proofs.Readings.{tree_of}

-- ---- rows on a tree and on the octets that it is laid out as
abbrev pub on_frame : Frame → RefusalRow → RefusalCase
on_frame f r = record { number = r.number; holds = r.meets f }

module _ (profile : Bool) (octets : List ℕ) where
  module _ (f : Frame) (e : IsFrame profile octets f) where
    from : (r : RefusalRow) → OfTree profile octets r.meets → r.meets f
    from r t = subst r.meets (one-tree profile octets t.tree f t.layout e) t.meets

    some_to : (l : List RefusalRow) (n : ℕ) → SomeHolds (map (on_frame f) l) n → SomeHolds (map (of_tree profile octets) l) n
    some_to (r ∷ l) n (inl h) = inl (record { tree = f; layout = e; meets = h.0 }, h.1)
    some_to (r ∷ l) n (inr h) = inr (some_to l n h)
    some_to [] n h = elim h [ ]

    some-from : (l : List RefusalRow) (n : ℕ) → SomeHolds (map (of_tree profile octets) l) n → SomeHolds (map (on_frame f) l) n
    some-from (r ∷ l) n (inl h) = inl (from r h.0, h.1)
    some-from (r ∷ l) n (inr h) = inr (some-from l n h)
    some-from [] n h = elim h [ ]

    first_to : (l : List RefusalRow) (n : ℕ) → First (map (on_frame f) l) n → First (map (of_tree profile octets) l) n
    first_to [] n p = p
    first_to (r ∷ l) n (inl p) = inl (record { tree = f; layout = e; meets = p.0 }, p.1)
    first_to (r ∷ l) n (inr p) = inr (λ t. p.0 (from r t), first_to l n p.1)

    first-from : (l : List RefusalRow) (n : ℕ) → First (map (of_tree profile octets) l) n → First (map (on_frame f) l) n
    first-from [] n p = p
    first-from (r ∷ l) n (inl p) = inl (from r p.0, p.1)
    first-from (r ∷ l) n (inr p) =
        inr (λ h. p.0 (record { tree = f; layout = e; meets = h }), first-from l n p.1)

  -- a row that holds has a tree
  some-tree : (l : List RefusalRow) (n : ℕ) → SomeHolds (map (of_tree profile octets) l) n → (f : Frame) × IsFrame profile octets f
  some-tree (r ∷ l) n (inl h) = (h.0.tree, h.0.layout)
  some-tree (r ∷ l) n (inr h) = some-tree l n h
  some-tree [] n h = elim h [ ]

module _ (limits : Limits) (s : State) (now : ℕ) (lent octets : List ℕ) where
  abbrev Met : ℕ → Type 0
  Met n = Meets limits s now lent octets n

  abbrev Over : Type 0
  Over = OfTree s.profile octets (OverHeldOf limits s now lent)

  abbrev rows : List RefusalCase
  rows = table_rows limits s now lent octets

  abbrev order : List RefusalCase
  order = judging_order limits s now lent octets

  abbrev table : List RefusalRow
  table = refusal_rows limits s now lent

  -- all that is judged by a tree
  abbrev last : RefusalRow
  last = record { number = 7; meets = OverHeldOf limits s now lent }

  abbrev whole : List RefusalRow
  whole = table ++ (last ∷ [])

  -- the numbers of document 01's table rise
  pub rows-rise : above 0 (table_rows limits s now lent octets) ≡ true
  rows-rise = refl

  -- what is met in the table is judged
  pub meets-order : (n : ℕ) → Met n → SomeHolds (judging_order limits s now lent octets) n
  meets-order n x = some_left rows (over_then limits s now lent octets ∷ []) n x.row

  pub at-most-9 : (n : ℕ) → SomeHolds (judging_order limits s now lent octets) n → n ≤ 9
  at-most-9 n x = let h = below_holds 10 order refl n x in omega arith

  module _ (f : Frame) (e : IsFrame s.profile octets f) where
    -- what the tree meets is met
    pub rows-meets : (n : ℕ) → SomeHolds (map (on_frame f) (refusal_rows limits s now lent)) n → Met n
    rows-meets n h = record { row = inr (some_to s.profile octets f e table n h) }

    -- and nothing else is
    by_row : (n : ℕ) → SomeHolds rows n → SomeHolds (map (on_frame f) table) n
    by_row n (inl h) = absurd (h.0 f e)
    by_row n (inr h) = some-from s.profile octets f e table n h

    pub meets-rows : (n : ℕ) → Met n → SomeHolds (map (on_frame f) (refusal_rows limits s now lent)) n
    meets-rows n x = by_row n x.row

    pub meets-2 : applies (number2 limits s now f.header.exchange f.header.spi) ≡ true → Met 2
    meets-2 h = rows-meets 2 (inl (h, refl))

    pub meets-4 : applies (number4 f) ≡ true → Met 4
    meets-4 h = rows-meets 4 (inr (inr (inl (h, refl))))

    pub meets-6 : applies (number6 s now f) ≡ true → Met 6
    meets-6 h = rows-meets 6 (inr (inr (inr (inr (inl (h, refl))))))

    pub meets-7 : applies (number7 limits s now f) ≡ true → Met 7
    meets-7 h = rows-meets 7 (inr (inr (inr (inr (inr (inl (h, refl)))))))

    pub meets-8 : KeyConflictOf limits s now lent f → Met 8
    meets-8 h = rows-meets 8 (inr (inr (inr (inr (inr (inr (inl (h, refl))))))))

    pub missing-meets : KeyMissingOf limits s now lent f → Met 9
    missing-meets h = rows-meets 9 (inr (inr (inr (inr (inr (inr (inr (inl (h, refl)))))))))

    -- the rows behind the clauses
    abbrev behind-clauses : List RefusalCase
    behind-clauses =
        record { number = 8; holds = KeyConflictOf limits s now lent f } ∷ record { number = 9; holds = KeyMissingOf limits s now lent f }
        ∷ []

    -- 8 and 9 are met by these
    behind : (n : ℕ) → 8 ≤ n → Met n → SomeHolds behind-clauses n
    behind n g x = past-holds 8 (map by_clauses (numbers limits s now lent f)) behind-clauses refl n g (meets-rows n x)

    conflict-of : SomeHolds behind-clauses 8 → KeyConflictOf limits s now lent f
    conflict-of (inl h) = h.0
    conflict-of (inr (inl h)) = let q = h.1 in absurd (omega arith)
    conflict-of (inr (inr h)) = elim h [ ]

    missing-of : SomeHolds behind-clauses 9 → KeyMissingOf limits s now lent f
    missing-of (inl h) = let q = h.1 in absurd (omega arith)
    missing-of (inr (inl h)) = h.0
    missing-of (inr (inr h)) = elim h [ ]

    pub conflict-met : Met 8 → KeyConflictOf limits s now lent f
    conflict-met x = conflict-of (behind 8 (omega arith) x)

    pub missing-met : Met 9 → KeyMissingOf limits s now lent f
    missing-met x = missing-of (behind 9 (omega arith) x)

    -- the held list that the tree's frame would leave
    pub over-met : Over → OverHeldOf limits s now lent f
    over-met t = from s.profile octets f e last t

    -- no number that is met by a tree is below 2
    pub not_low : (n : ℕ) → Met n → 1 < n
    not_low n x = exceed-holds 1 (map (on_frame f) table) refl n (meets-rows n x)

    -- what holds of the tree holds of the octets, and the other way round
    pub order-to : (n : ℕ) → SomeHolds (conditions limits s now lent f) n → SomeHolds order n
    order-to n h = inr (some_to s.profile octets f e whole n h)

    order-by : (n : ℕ) → SomeHolds order n → SomeHolds (conditions limits s now lent f) n
    order-by n (inl h) = absurd (h.0 f e)
    order-by n (inr h) = some-from s.profile octets f e whole n h

  -- ---- refusals, by their place in judging order
  record Given (n : ℕ) (next : State) : Type 0 where
    first : First order n
    stays : next ≡ s

  judged-first : (f : Frame) → IsFrame s.profile octets f → (n : ℕ) (next : State) → Judged limits s now lent f (suc n) next →
      Given (suc n) next
  judged-first f e _ _ (refused n p) =
      record { first = inr (λ none. none f e, first_to s.profile octets f e whole (suc n) p); stays = refl }

  given : (n : ℕ) (next : State) → Outcome limits s now lent octets (suc n) next → Given (suc n) next
  given _ _ (no-layout none) = record { first = inl (none, refl); stays = refl }
  given n next (by-tree f e j) = judged-first f e n next j

  first-given : (n : ℕ) → First order (suc n) → Outcome limits s now lent octets (suc n) s
  first-given n (inl p) = subst (λ (k : ℕ). Outcome limits s now lent octets k s) (sym p.1) (no-layout p.0)
  first-given n (inr p) =
      let t = tree_of s.profile octets p.0 in
      by-tree t.0 t.1 (refused n (first-from s.profile octets t.0 t.1 whole (suc n) p.1))

  pub refused-first : (n : ℕ) (next : State) →
      Outcome limits s now lent octets (suc n) next ↔ (JudgedFirst (judging_order limits s now lent octets) (suc n) × (next ≡ s))
  refused-first n next = (
    λ o. let g = given n next o in (first-at order n g.first, g.stays),
    λ p.
        subst (λ (x : State). Outcome limits s now lent octets (suc n) x) (sym p.1)
        (first-given n (at_first order (suc n) p.0)),
  )

  -- ---- the same by numbers: those of the table rise, so judged earlier is lower in it
  by_place : (n : ℕ) (next : State) → next ≡ s → First order (suc n) → Refused limits s now lent octets (suc n) next
  by_place n next e p =
      ⊎_elim
      (λ q. lowest (record { row = first_holds rows n q }) (λ m g x. first-lowest 0 rows rows-rise (suc n) q m g x.row) e)
      (λ q. at_last q.1 (λ m x. q.0 m x.row))
      (first-split rows (over_then limits s now lent octets ∷ []) n p)
    where
      at_last : First (over_then limits s now lent octets ∷ []) (suc n) → ((m : ℕ) → Met m → ⊥) →
          Refused limits s now lent octets (suc n) next
      at_last (inl h) none = over-then h.1 h.0 none e
      at_last (inr h) none = let z = h.1 in absurd (omega arith)

  place-of : (n : ℕ) (next : State) → Refused limits s now lent octets (suc n) next → First order (suc n) × (next ≡ s)
  place-of n next (lowest x none e) = (
    first-left rows (over_then limits s now lent octets ∷ []) n
        (first-is 0 rows rows-rise (suc n) x.row (λ m g y. none m g (record { row = y }))),
    e,
  )
  place-of n next (over-then q x none e) = (
    first-right rows (over_then limits s now lent octets ∷ []) (suc n) (λ m y. none m (record { row = y })) (inl (x, q)),
    e,
  )

  pub refused-is : (n : ℕ) (next : State) → Outcome limits s now lent octets (suc n) next → Refused limits s now lent octets (suc n) next
  refused-is n next o = let g = given n next o in by_place n next g.stays g.first

  pub is-refused : (n : ℕ) (next : State) → Refused limits s now lent octets (suc n) next → Outcome limits s now lent octets (suc n) next
  is-refused n next r =
      let p = place-of n next r in subst (λ (x : State). Outcome limits s now lent octets (suc n) x) (sym p.1) (first-given n p.0)

  -- a number that is given is met, in the table or behind it
  pub given_holds : (n : ℕ) (next : State) → Outcome limits s now lent octets (suc n) next →
      SomeHolds (judging_order limits s now lent octets) (suc n)
  given_holds n next o = first_holds order n (given n next o).first

  -- and the member stays
  pub refused-stays : (n : ℕ) (next : State) → Outcome limits s now lent octets (suc n) next → next ≡ s
  refused-stays n next o = (given n next o).stays

  -- what is given is met in the table, or it is 7, none of the table is met and the held list would be over its limit
  pub met-or-over : (n : ℕ) (next : State) → Outcome limits s now lent octets (suc n) next →
      Met (suc n) ⊎ ((suc n ≡ 7) × Over × ((m : ℕ) → Met m → ⊥))
  met-or-over n next o = of (refused-is n next o)
    where
      of : Refused limits s now lent octets (suc n) next → Met (suc n) ⊎ ((suc n ≡ 7) × Over × ((m : ℕ) → Met m → ⊥))
      of (lowest x none e) = inl x
      of (over-then q x none e) = inr (q, x, none)

  -- 1 is given for octets of no tree alone
  layout-of-1 : SomeHolds rows 1 → NoTree s.profile octets
  layout-of-1 (inl h) = h.0
  layout-of-1 (inr h) =
      let t = some-tree s.profile octets table 1 h in
      let g = not_low t.0 t.1 1 (record { row = inr h }) in absurd (omega arith)

  pub refused-layout : (next : State) → Refused limits s now lent octets 1 next → NoTree s.profile octets
  refused-layout next (lowest x none e) = layout-of-1 x.row
  refused-layout next (over-then q x none e) = absurd (omega arith)

  -- ---- acceptance
  none-met : (f : Frame) → IsFrame s.profile octets f → (next : State) → Judged limits s now lent f 0 next →
      Accepted limits s now lent octets next
  none-met f e _ (accepted next p a) =
      let none = first-none (conditions limits s now lent f) refl p in
      record {
        none = λ m x. none m (some_left (map (on_frame f) table) (on_frame f last ∷ []) m (meets-rows f e m x));
        room = λ t. none 7 (some_right (map (on_frame f) table) (on_frame f last ∷ []) 7 (inl (over-met f e t, refl)));
        tree = f;
        layout = e;
        after = a;
      }

  pub accepted-is : (next : State) → Outcome limits s now lent octets 0 next → Accepted limits s now lent octets next
  accepted-is _ (by-tree f e j) = none-met f e _ j

  -- none that is judged holds
  pub accepted-none : (next : State) → Accepted limits s now lent octets next → (m : ℕ) →
      SomeHolds (judging_order limits s now lent octets) m → ⊥
  accepted-none next a m h =
      ⊎_elim (λ x. a.none m (record { row = x })) (⊎_elim (λ x. a.room x.0) (λ x. x))
      (some-split rows (over_then limits s now lent octets ∷ []) m h)

  pub is-accepted : (next : State) → Accepted limits s now lent octets next → Outcome limits s now lent octets 0 next
  is-accepted next a =
      let f = a.tree in
      let e = a.layout in
      by-tree f e
      (accepted next (none_first (conditions limits s now lent f) (λ m y. accepted-none next a m (order-to f e m y))) a.after)
