-- WHAT IS NO FAULT: "An entry that fails the RFC 5649 check leads nowhere and is no fault." One that does not open, or whose KWK ID names
-- no key, may stand anywhere among the others: the same keys are reached, the same copies open, and number 8 holds as without it.
use Prim.Native.Nat.{ℕ}
use mathlib.Core.Path.{◌≡◌, sym, subst}
use mathlib.Core.Logic.{◌⊎◌, inr, ⊎_elim, ◌↔◌}
use mathlib.Core.List.{List, [], ◌∷◌}
use Rattle.rfc5649.specs.Opens.{Opens}
use Rattle.wire_attributes.specs.Tree.{WrapKey, SaKey}
use Rattle.rules_chains.specs.Chain.{In, Root, root, Reached, ChainEnds, CopyOpens}
use Rattle.rules_chains.specs.Refusals.{Announced, EntriesConflict, CopiesConflict}
use Rattle.rules_chains.specs.Refusals as refusals
use Rattle.rules_chains.proofs.Closure.{reached-first, reached-on, reached-least}

module _ (roots : List Root) (size : ℕ) where
  -- a chain ends on a key that it starts with
  root_ends : (entries : List WrapKey) (r : Root) → In r roots → ChainEnds roots entries size r.id r.value
  root_ends entries r m = record { passed = []; chain = root r m }

  -- what is reached by these entries is reached by more
  more-reach : (entries more : List WrapKey) → ((e : WrapKey) → In e entries → In e more) → (k : ℕ) (x : List ℕ) →
      Reached roots entries size k x → Reached roots more size k x
  more-reach entries more all =
      reached-least roots entries size (Reached roots more size)
      (λ r m e i n x o. reached-first roots more size r m e (all e i) n x o)
      (λ k v g t e i n x o. reached-on roots more size k v g t e (all e i) n x o)

  -- ---- an entry that leads nowhere
  module _ (entries more : List WrapKey) (added : WrapKey) (adds : (e : WrapKey) → In e more ↔ ((e ≡ added) ⊎ In e entries))
      (fails : (v x : List ℕ) → ChainEnds roots entries size added.kwk_id v → Opens v added.wrapped x → ⊥) where
    stands-too : (e : WrapKey) → In e entries → In e more
    stands-too e i = (adds e).1 (inr i)

    -- it is not the entry by which a chain goes on
    not-by : (e : WrapKey) (v x : List ℕ) → e ≡ added → ChainEnds roots entries size e.kwk_id v → Opens v e.wrapped x → ⊥
    not-by e v x q n o =
        fails v x (subst (λ (d : WrapKey). ChainEnds roots entries size d.kwk_id v) q n)
        (subst (λ (d : WrapKey). Opens v d.wrapped x) q o)

    none_more : (k : ℕ) (x : List ℕ) → Reached roots more size k x → Reached roots entries size k x
    none_more =
        reached-least roots more size (Reached roots entries size)
        (λ r m e i n x o.
        ⊎_elim
        (λ q. absurd (not-by e r.value x q (subst (λ (j : ℕ). ChainEnds roots entries size j r.value) (sym n) (root_ends entries r m))
        o))
        (λ j. reached-first roots entries size r m e j n x o) ((adds e).0 i))
        (λ k v g t e i n x o.
        ⊎_elim
        (λ q.
        absurd (not-by e v x q (subst (λ (j : ℕ). ChainEnds roots entries size j v) (sym n)
        (record { passed = g.last ∷ g.before; chain = g.chain })) o))
        (λ j. reached-on roots entries size k v g t e j n x o) ((adds e).0 i))

    pub leads-nowhere : (k : ℕ) (x : List ℕ) → Reached roots more size k x ↔ Reached roots entries size k x
    leads-nowhere k x = (none_more k x, more-reach entries more stands-too k x)

    fewer-conflicts : EntriesConflict roots more size → EntriesConflict roots entries size
    fewer-conflicts (refusals.wrong_size k x r d) = refusals.wrong_size k x (none_more k x r) d
    fewer-conflicts (refusals.two-values k x y r q d) = refusals.two-values k x y (none_more k x r) (none_more k y q) d

    more-conflicts : EntriesConflict roots entries size → EntriesConflict roots more size
    more-conflicts (refusals.wrong_size k x r d) = refusals.wrong_size k x ((leads-nowhere k x).1 r) d
    more-conflicts (refusals.two-values k x y r q d) = refusals.two-values k x y ((leads-nowhere k x).1 r) ((leads-nowhere k y).1 q) d

    pub entry-no-fault : EntriesConflict roots more size ↔ EntriesConflict roots entries size
    entry-no-fault = (fewer-conflicts, more-conflicts)

  -- ---- a copy that does not open
  module _ (entries : List WrapKey) (copies more : List SaKey) (need : ℕ) (added : SaKey)
      (adds : (c : SaKey) → In c more ↔ ((c ≡ added) ⊎ In c copies))
      (fails : (v x : List ℕ) → ChainEnds roots entries size added.kwk_id v → Opens v added.wrapped x → ⊥) where
    opens-too : (x : List ℕ) → CopyOpens roots entries size copies x → CopyOpens roots entries size more x
    opens-too x o =
        record { copy = o.copy; stands = (adds o.copy).1 (inr o.stands); value = o.value; named = o.named; opens = o.opens }

    opens_of : (x : List ℕ) → CopyOpens roots entries size more x → CopyOpens roots entries size copies x
    opens_of x o =
        ⊎_elim
        (λ q.
        absurd (fails o.value x (subst (λ (c : SaKey). ChainEnds roots entries size c.kwk_id o.value) q o.named)
        (subst (λ (c : SaKey). Opens o.value c.wrapped x) q o.opens)))
        (λ i. record { copy = o.copy; stands = i; value = o.value; named = o.named; opens = o.opens })
        ((adds o.copy).0 o.stands)

    pub opens-nothing : (x : List ℕ) → CopyOpens roots entries size more x ↔ CopyOpens roots entries size copies x
    opens-nothing x = (opens_of x, opens-too x)

    abbrev with_it : Announced
    with_it = record { copies = more; need = need }

    abbrev without : Announced
    without = record { copies = copies; need = need }

    fewer-copies : CopiesConflict roots entries size with_it → CopiesConflict roots entries size without
    fewer-copies (refusals.wrong_size x o d) = refusals.wrong_size x (opens_of x o) d
    fewer-copies (refusals.two-values x y o p d) = refusals.two-values x y (opens_of x o) (opens_of y p) d

    more-copies : CopiesConflict roots entries size without → CopiesConflict roots entries size with_it
    more-copies (refusals.wrong_size x o d) = refusals.wrong_size x (opens-too x o) d
    more-copies (refusals.two-values x y o p d) = refusals.two-values x y (opens-too x o) (opens-too y p) d

    pub copy-no-fault : CopiesConflict roots entries size with_it ↔ CopiesConflict roots entries size without
    copy-no-fault = (fewer-copies, more-copies)
