-- The entries of a frame that numbers 2 to 7 let pass, and the keys that its chains start with.
use Prim.Native.Nat.{ℕ, ◌≤◌}
use mathlib.Core.Path.{◌≡◌, refl, ap, sym, ◌∙◌, subst}
use mathlib.Core.Bool.{Bool, true, false, cond, ◌&&◌, false≢true, and-false}
use mathlib.Core.List.{List, [], ◌∷◌, ◌++◌, append-nil}
use borrow.Author.Tests.{eq-eqb}
use lib.Dec.{eqb}
use lib.ListN.{length, get_or}
use Rattle.wire_attributes.specs.Tree.{WrapKey}
use Rattle.wire_frames.specs.Frame.{Frame}
use Rattle.wire_frames.specs.declared.exchanges.Exchange.{Exchange}
use Rattle.wire_readers.specs.inner.Bags.{bags_in}
use Rattle.wire_readers.specs.declared.Stretch.{Stretch}
use Rattle.state_keys.specs.Limits.{limits}
use Rattle.lists.specs.Lists.{any, keep}
use Rattle.state_keys.specs.Kinds.{value_of}
use Rattle.state_keys.specs.declared.kinds.WrappingKey.{WrappingKey}
use Rattle.lists.proofs.Cases.{bool_cases}
use Rattle.state.specs.Held.{keys_of, held_of, held_formed}
use Rattle.state.specs.declared.State.{State}
use Rattle.state.specs.declared.held.HeldKey.{HeldKey}
use Rattle.state.specs.declared.held.Held.{Held}
use Rattle.state.proofs.Kept.{no-key-formed, keys-of-held}
use Rattle.rules_refusals.specs.Contents.{row_of, wrap_keys_of, fresh_keys_of}
use Rattle.rules_refusals.specs.Number6.{wrap_key_id, fresh_key_id}
use Rattle.rules_chains.specs.Chain.{In, Root}
use Rattle.rules_chains.proofs.Members.{in-member}
use Rattle.rules_outcome.specs.Roots.{key_zero_value, roots_of, entries_of}
use Rattle.rules_outcome.proofs.RunsLists.{none_passes}
use Rattle.unwrap_search.specs.inner.Entries.{no_wrap_key}
use Rattle.unwrap_search.specs.inner.Search.{Nonzero, held_roots, roots_with}
use Rattle.unwrap_search.proofs.Statuses.{get_d_any}
use Rattle.unwrap_tree.specs.inner.Source.{Sourced}
use Rattle.unwrap_sas.specs.inner.Keyed.{ChecksPassed}
use Rattle.receive.specs.inner.Passing.{Bagged, reads_by}
use Rattle.receive.specs.inner.Opening.{IsKeyZero}
use Rattle.receive.proofs.ClauseLaws.{no-entry, no_zero, no-fresh-zero, few-entries, few-fresh, few-announced, few-sa-keys}
use Rattle.receive.proofs.ClauseLaws.{names-rekey, sets-held, keeps-bars, state-formed, lengths-once, lifetimes-once, transforms-fit}
use Rattle.receive.proofs.ClauseLaws.{all-paired, bags-paired, one-rekey}
use Rattle.receive.proofs.ConcludingLaws.{held_fits}

nonzero-of : (l : List WrapKey) → any (λ (k : WrapKey). eqb k.key_id 0) l ≡ false → Nonzero l
nonzero-of l e i h z =
    let k = get_or l i no_wrap_key in
    let m : In k l = record { place = i; inside = h; is = get_d_any l i k no_wrap_key h } in
    false≢true (sym (none_passes (λ (x : WrapKey). eqb x.key_id 0) l e k (in-member k l m)) ∙ eq-eqb k.key_id 0 z)

no-held : (l : List WrapKey) → held_roots l [] ≡ []
unfolding held_roots keep
no-held l = refl

module _ {e : Exchange} {m : State} {now : ℕ} {lent g k : List ℕ} {bag : Stretch} {f : Frame} (b : Bagged e m now lent g k bag f) where
  -- ---- a frame has entries of one kind at most
  registers-unread : e.registers ≡ true → fresh_keys_of f ≡ []
  registers-unread h =
      let r = sets-held m now lent f b.clauses (ap (λ (y : Exchange). y.registers) b.row ∙ h) in
      let q : e.reads_fresh_keys ≡ false = ap (λ (y : Exchange). y.reads_fresh_keys) (sym b.row ∙ r) in
      b.unread (ap (λ (x : Bool). m.profile && x) q ∙ and-false m.profile)

  pub keeps-none : e.registers ≡ false → wrap_keys_of f ≡ []
  keeps-none h =
      no-entry m now lent f b.clauses (keeps-bars m now lent f b.clauses (ap (λ (y : Exchange). y.registers) b.row ∙ h))

  pub apart : e.registers ≡ true → reads_by m e ≡ false
  apart h =
      let r = sets-held m now lent f b.clauses (ap (λ (y : Exchange). y.registers) b.row ∙ h) in
      ap (λ (y : Exchange). m.profile && y.reads_fresh_keys) (sym b.row ∙ r) ∙ and-false m.profile

  pub sourced : Sourced e.registers (reads_by m e) f g k bag
  sourced =
      record {
        apart = apart;
        member = λ h. b.entries;
        none = keeps-none;
        unread = b.unread;
        fresh = λ r. record {
          policies = b.policies;
          bags = b.bags ∙ ap (λ (x : Bool). bags_in x k) r;
          placed = b.placed;
          paired = all-paired m now lent f b.clauses;
          owned = bags-paired m now lent f b.clauses;
          rekeys = one-rekey m now lent f b.clauses;
        };
      }

  abbrev Fit : List WrapKey → Type 0
  Fit l = (length l ≤ limits.wrap_keys) × Nonzero l

  entries_fit : Fit (entries_of f)
  unfolding wrap_key_id fresh_key_id
  entries_fit =
      bool_cases e.registers
      (λ h.
      subst (λ (l : List WrapKey). Fit (wrap_keys_of f ++ l)) (sym (registers-unread h))
      (subst Fit (sym (append-nil (wrap_keys_of f)))
      (few-entries m now lent f b.clauses, nonzero-of (wrap_keys_of f) (no_zero m now lent f b.clauses))))
      (λ h.
      subst (λ (l : List WrapKey). Fit (l ++ fresh_keys_of f)) (sym (keeps-none h))
      (few-fresh m now lent f b.clauses, nonzero-of (fresh_keys_of f) (no-fresh-zero m now lent f b.clauses)))

  pub entries-few : length (entries_of f) ≤ limits.wrap_keys
  entries-few = entries_fit.0

  pub entries-nonzero : Nonzero (entries_of f)
  entries-nonzero = entries_fit.1

  pub checked : ChecksPassed (reads_by m e) f g k
  checked =
      let q = b.clauses in
      record {
        policies = b.policies;
        bags = b.bags;
        lengths = lengths-once m now lent f q;
        lifetimes = lifetimes-once m now lent f q;
        transforms = transforms-fit m now lent f q;
        paired = all-paired m now lent f q;
        room = few-announced m now lent f q;
        rekeys = one-rekey m now lent f q;
        few-copies = few-sa-keys m now lent f q;
      }

  -- ---- the keys that chains start with
  pub own-formed : held_formed limits m.held ≡ true
  own-formed = held_fits m (state-formed m now lent f b.clauses)

  module _ (held : Held) (is : held ≡ cond e.names_held_keys m.held (held_of limits [])) where
    pub named-formed : held_formed limits held ≡ true
    named-formed =
        bool_cases e.names_held_keys (λ h. ap (held_formed limits) (rw h at is) ∙ own-formed)
        (λ h. ap (held_formed limits) (rw h at is) ∙ no-key-formed limits)

    pub roots-are : (zero : WrappingKey) → IsKeyZero m now lent f zero →
        roots_with (value_of zero) (entries_of f) (keys_of held) ≡ roots_of limits m now lent f
    unfolding roots_of held_roots
    roots-are zero z =
        bool_cases e.names_held_keys
        (λ h.
        let n : (row_of f).names_held_keys ≡ true = ap (λ (y : Exchange). y.names_held_keys) b.row ∙ h in
        let r = names-rekey m now lent f b.clauses n in
        let none = keeps-none (ap (λ (y : Exchange). y.registers) (sym b.row ∙ r)) in
        let own : held ≡ m.held = rw h at is in
        ap (λ (v : List ℕ). roots_with v (entries_of f) (keys_of held)) z.value
        ∙ ap (λ (x : Held). roots_with (key_zero_value limits m now lent f) (entries_of f) (keys_of x)) own
        ∙ ap (λ (l : List WrapKey). roots_with (key_zero_value limits m now lent f) (l ++ fresh_keys_of f) (keys_of m.held)) none
        ∙ rw n refl)
        (λ h.
        let n : (row_of f).names_held_keys ≡ false = ap (λ (y : Exchange). y.names_held_keys) b.row ∙ h in
        let own : held ≡ held_of limits [] = rw h at is in
        ap (λ (v : List ℕ). roots_with v (entries_of f) (keys_of held)) z.value
        ∙ ap (λ (x : List HeldKey). roots_with (key_zero_value limits m now lent f) (entries_of f) x) (ap keys_of own ∙ keys-of-held limits [])
        ∙ ap (λ (l : List Root). record { id = 0; value = key_zero_value limits m now lent f } ∷ l) (no-held (entries_of f)) ∙ rw n refl)
