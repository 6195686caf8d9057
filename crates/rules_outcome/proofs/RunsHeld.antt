-- The held list that a frame leaves is as it must be, within its limit, and blank in its unused places.
use native.Mathlib.Omega.{arith}
use Prim.Native.Nat.{ℕ, ◌-◌, ◌≤◌}
use mathlib.Core.Path.{◌≡◌, refl, ap, sym, ◌∙◌, subst}
use mathlib.Core.Bool.{Bool, true, false, ◌&&◌}
use mathlib.Core.Logic.{◌⊎◌, ⊎_elim}
use mathlib.Core.List.Memᴰ
use mathlib.Core.List.{List, [], ◌∷◌, map, Memᴰ}
use lib.Dec.{eqb, leb}
use lib.ListN.{length, take, replicate}
use lib.Seq.{take-append_seam}
use Rattle.state_keys.specs.Limits.{Limits}
use Rattle.lists.specs.Lists.{all, any}
use Rattle.state_keys.specs.Algorithms.{is_wrapping_size}
use Rattle.state_keys.specs.Kinds.{padded, wrapping_of}
use Rattle.state_keys.specs.declared.kinds.WrappingKey.{WrappingKey}
use Rattle.lists.proofs.Cases.{and_parts}
use Rattle.wire_attributes.specs.Tree.{SaKey, WrapKey}
use Rattle.state.specs.declared.held.HeldKey.{HeldKey}
use Rattle.state.specs.declared.held.Held.{Held}
use Rattle.state.specs.Held.{keys_of, held_of, key_formed, ids_of, distinct, held_formed}
use Rattle.state.specs.Blank.{AllKeysBlank, no_key, one_more}
use Rattle.state.proofs.Kept.{keys-of-held, held-formed}
use Rattle.rules_chains.specs.Chain.{Root}
use Rattle.rules_chains.specs.Refusals.{EntriesConflict, Value}
use Rattle.rules_chains.proofs.Determined.{last_entry}
use Rattle.rules_chains.proofs.Laws.{step_by, entries_fit}
use Rattle.rules_outcome.specs.Holding.{held_from, path_before, held_by_path, HeldNext}
use Rattle.rules_chains.proofs.Members.{in-member}
use Rattle.rules_outcome.proofs.RunsLists.{none_passes, all_pass}
use Rattle.rules_outcome.proofs.PathBefore.{path-or-old, before-distinct}
use Rattle.rules_outcome.proofs.PathKeys.{HoldsKey, holds-key, path-once}

-- ---- each key of a list
each-formed : (l : List HeldKey) → ((k : HeldKey) → Memᴰ k l → key_formed k ≡ true) → all key_formed l ≡ true
unfolding all
each-formed [] f = refl
each-formed (k ∷ l) f = rw (f k (Memᴰ.head refl)) (each-formed l (λ b m. f b (Memᴰ.tail m)))

abbrev KeyBlank : WrappingKey → Type 0
KeyBlank k = k.octets ≡ padded 32 (take k.count k.octets)

key-blank : (x : List ℕ) → KeyBlank (wrapping_of x)
key-blank x = ap (padded 32) (sym (take-append_seam x (replicate (32 - length x) 0)))

each-blank : (l : List HeldKey) → ((k : HeldKey) → Memᴰ k l → KeyBlank k.key) → AllKeysBlank l
each-blank [] f = no_key
each-blank (k ∷ l) f = one_more (f k (Memᴰ.head refl)) (each-blank l (λ b m. f b (Memᴰ.tail m)))

blank-each : (l : List HeldKey) → AllKeysBlank l → (k : HeldKey) → Memᴰ k l → KeyBlank k.key
blank-each _ no_key k m = absurd (Memᴰ.not-nil m)
blank-each _ (one_more {k = a} {l = l} e b) k m =
    ⊎_elim (λ q. subst (λ (x : HeldKey). KeyBlank x.key) (sym q) e) (λ n. blank-each l b k n) (Memᴰ.cases_cons m)

-- the held list's part of a blank state
pub record HeldBlank (limits : Limits) (h : Held) : Type 0 where
  pub places : h ≡ held_of limits (keys_of h)
  pub values : AllKeysBlank (keys_of h)

-- ---- the list
module _ (limits : Limits) (roots : List Root) (entries : List WrapKey) (size : ℕ) (copies : List SaKey) (old h : Held) where
  -- a key of no octets opens nothing: what is reached has the size, and at least one octet
  module _ (fits : (size ≡ 0) ⊎ (is_wrapping_size size ≡ true)) (none : EntriesConflict roots entries size → ⊥)
      (no_zero : any (λ (k : WrapKey). eqb k.key_id 0) entries ≡ false) where
    value-size : (k : ℕ) (x : List ℕ) → Value roots entries size k x → length x ≡ size
    value-size k x v = entries_fit roots entries size none k x v.reached

    some_size : (k : ℕ) (x : List ℕ) → Value roots entries size k x → is_wrapping_size size ≡ true
    some_size k x v =
        let r = v.reached in
        let o = (step_by roots entries size r.last r.before k x r.chain).opens.least in
        let e = value-size k x v in
        ⊎_elim (λ z. absurd (omega (arith, o, e, z))) (λ g. g) fits

    one-formed : (k : HeldKey) → HoldsKey roots entries size k → key_formed k ≡ true
    unfolding key_formed
    one-formed k g =
        let e = last_entry roots entries size k.id g.x g.value.reached in
        let z = none_passes (λ (w : WrapKey). eqb w.key_id 0) entries no_zero g.value.reached.last (in-member _ entries e.0) in
        let n : eqb k.id 0 ≡ false = ap (λ (i : ℕ). eqb i 0) (sym e.1) ∙ z in
        let c : k.key.count ≡ size = ap (λ (w : WrappingKey). w.count) g.key-is ∙ value-size k.id g.x g.value in
        rw n (ap is_wrapping_size c ∙ some_size k.id g.x g.value)

    module _ (was : held_formed limits old ≡ true) where
      old-keys : all key_formed (keys_of old) ≡ true
      unfolding held_formed
      old-keys =
          let p = and_parts (leb old.count limits.held_keys) (all key_formed (keys_of old) && distinct (ids_of (keys_of old))) was in
          (and_parts (all key_formed (keys_of old)) (distinct (ids_of (keys_of old))) p.1).0

      old-distinct : distinct (ids_of (keys_of old)) ≡ true
      unfolding held_formed
      old-distinct =
          let p = and_parts (leb old.count limits.held_keys) (all key_formed (keys_of old) && distinct (ids_of (keys_of old))) was in
          (and_parts (all key_formed (keys_of old)) (distinct (ids_of (keys_of old))) p.1).1

      -- by what the path's keys are
      by-path-formed : (path : List HeldKey) (end : ℕ) → ((k : HeldKey) → Memᴰ k path → key_formed k ≡ true) →
          distinct (ids_of path) ≡ true → (held_by_path limits path end old).count ≤ limits.held_keys →
          held_formed limits (held_by_path limits path end old) ≡ true
      unfolding held_of
      by-path-formed [] end each once room = was
      by-path-formed (a ∷ path) end each once room =
          let l = path_before (a ∷ path) end (keys_of old) in
          held-formed limits l room
          (each-formed l
          (λ k m.
          ⊎_elim (λ n. each k n) (λ n. all_pass key_formed (keys_of old) old-keys k n) (path-or-old (a ∷ path) end (keys_of old) k m)))
          (before-distinct (a ∷ path) end (keys_of old) once old-distinct)

      pub next-formed : (b : Bool) → HeldNext roots entries size limits b copies old h → h.count ≤ limits.held_keys →
          held_formed limits h ≡ true
      next-formed true p room =
          let l = map held_from p.keys in
          ap (held_formed limits) p.is
          ∙ by-path-formed l p.end (λ k m. one-formed k (holds-key roots entries size limits copies old h p k m))
          (path-once roots entries size limits copies old h p none) (subst (λ (g : Held). g.count ≤ limits.held_keys) p.is room)
      next-formed false q room = ap (held_formed limits) q ∙ was

  -- ---- unused places are blank
  module _ (was : HeldBlank limits old) where
    blank-by-path : (path : List HeldKey) (end : ℕ) → ((k : HeldKey) → Memᴰ k path → KeyBlank k.key) →
        HeldBlank limits (held_by_path limits path end old)
    blank-by-path [] end each = was
    blank-by-path (a ∷ path) end each =
        let l = path_before (a ∷ path) end (keys_of old) in
        let e = keys-of-held limits l in
        record {
          places = ap (held_of limits) (sym e);
          values =
              subst AllKeysBlank (sym e)
              (each-blank l
              (λ k m. ⊎_elim (λ n. each k n) (λ n. blank-each (keys_of old) was.values k n)
              (path-or-old (a ∷ path) end (keys_of old) k m)));
        }

    pub next-blank : (b : Bool) → HeldNext roots entries size limits b copies old h → HeldBlank limits h
    next-blank true p =
        subst (HeldBlank limits) (sym p.is)
        (blank-by-path (map held_from p.keys) p.end
        (λ k m. let g = holds-key roots entries size limits copies old h p k m in subst KeyBlank (sym g.key-is) (key-blank g.x)))
    next-blank false q = subst (HeldBlank limits) (sym q) was
