-- Without entries nothing is reached: what a search over none would answer.
use native.Mathlib.Omega.{arith}
use Prim.Native.Nat.{ℕ}
use mathlib.Core.Path.{◌≡◌, refl, ap, sym, ◌∙◌, subst}
use mathlib.Core.Bool.{Bool, true, false}
use mathlib.Core.List.Memᴰ
use mathlib.Core.List.{List, [], ◌∷◌}
use lib.ListN.{take}
use Rattle.wire_attributes.specs.Tree.{WrapKey}
use Rattle.rules_chains.specs.Chain.{In, Root, Reached}
use Rattle.rules_chains.specs.Refusals.{EntriesConflict, wrong_size, two-values}
use Rattle.rules_chains.proofs.Determined.{last_entry}
use Rattle.rules_chains.proofs.Members.{in-member}
use Rattle.state_keys.specs.Limits.{limits}
use Rattle.lists.specs.Lists.{rising}
use Rattle.state_keys.specs.Algorithms.{is_wrapping_size}
use Rattle.state_keys.specs.Kinds.{value_of}
use Rattle.state_keys.specs.declared.kinds.WrappingKey.{WrappingKey}
use Rattle.state.specs.Held.{keys_of, held_of, held_formed}
use Rattle.state.specs.declared.held.Held.{Held}
use Rattle.state.proofs.Kept.{no-key-formed}
use Rattle.unwrap_lending.specs.inner.Lending.{LendsHeld, named_keys}
use Rattle.unwrap_search.specs.inner.Entries.{Lists}
use Rattle.unwrap_search.specs.inner.Search.{Searched, Nonzero, roots_with}
use Rattle.unwrap_search.proofs.RootsFitting.{roots-fit}
use Rattle.unwrap_copies.specs.inner.Known.{Agrees}
use Rattle.unwrap_paths.specs.declared.links.Links.{Links}
use Rattle.unwrap_paths.specs.inner.Levels.{Walk, goes}
use Rattle.unwrap_paths.specs.inner.Kept.{LinksKept, LinksFit}
use Rattle.unwrap_tree.specs.inner.AllReached.{HeldAre}
use Rattle.unwrap_tree.specs.inner.Reached.{TreeAnswers}
use Rattle.unwrap_tree.proofs.Agreeing.{held-agrees, held_gives}

not-in-none : {A : Type 0} (a : A) → In a [] → ⊥
not-in-none a m = Memᴰ.not-nil (in-member a [] m)

none-reached : (roots : List Root) (size k : ℕ) (x : List ℕ) → Reached roots [] size k x → ⊥
none-reached roots size k x r = not-in-none r.last (last_entry roots [] size k x r).0

none-conflict : (roots : List Root) (size : ℕ) → EntriesConflict roots [] size → ⊥
none-conflict roots size (wrong_size k x r d) = none-reached roots size k x r
none-conflict roots size (two-values k x y r q d) = none-reached roots size k x r

no-nonzero : Nonzero []
no-nonzero i h = absurd (omega arith)

-- a walk goes by an entry that is there
no_walk : (id kwk : ℕ → ℕ) (opened is_root : ℕ → Bool) (i k : ℕ) (p : List ℕ) → Walk 0 id kwk opened is_root (i ∷ p) k → ⊥
no_walk id kwk opened is_root i k p (goes _ h o e w) = omega arith

module _ (links : Links) (z : links.count ≡ 0) where
  pub none-fit : LinksFit links
  none-fit = record { few = omega arith; within = λ i h. absurd (omega arith) }

  kept-none : LinksKept 0 [] [] links
  kept-none =
      record {
        count-is = z;
        marks = [];
        linked =
            record {
              id-is = λ i h. absurd (omega arith);
              kwk-is = λ i h. absurd (omega arith);
              mark-is = λ frame l t i h. absurd (omega arith);
            };
        levels =
            record {
              within = λ i h. absurd (omega arith);
              levelled = λ is_root r. record {
                shortest = λ i h. absurd (omega arith);
                least = λ i k p w. absurd (no_walk _ _ _ _ i k p w);
              };
            };
      }

  module _ (zero : WrappingKey) (held : Held) (ids block : List ℕ) (lends : LendsHeld held ids block)
      (sized : is_wrapping_size zero.count ≡ true) (reached : Held) (is : reached ≡ held_of limits []) where
    abbrev roots : List Root
    roots = roots_with (value_of zero) [] (keys_of held)

    abbrev size : ℕ
    size = zero.count

    formed : held_formed limits reached ≡ true
    formed = ap (held_formed limits) is ∙ no-key-formed limits

    are : HeldAre roots [] size limits reached
    unfolding rising
    are = record {
      keys = [];
      is = is;
      rise = refl;
      each = λ k m. absurd (not-in-none k m);
      all = λ i x v. absurd (none-reached roots size i x v.reached);
    }

    searched : Searched roots [] size []
    searched = record {
      gives = λ i h. absurd (omega arith);
      misfits = λ i h. absurd (omega arith);
      complete = λ nz fit one k x r. absurd (none-reached roots size k x r);
      opened = λ nz fit one i h. absurd (omega arith);
    }

    own : LinksKept links.count [] [] links
    own = subst (λ (m : ℕ). LinksKept m [] [] links) (sym z) kept-none

    lists : Lists [] [] links.count []
    lists = record { count = sym z; within = omega arith; at = λ i h. absurd (omega arith) }

    none_answers : TreeAnswers roots [] size zero (keys_of held) (record { conflict = false; held = reached; links = links })
    none_answers = record {
      conflict = none-conflict roots size;
      formed = formed;
      agrees = λ q.
          subst (λ (x : List ℕ). Agrees roots [] size zero (named_keys reached x) (keys_of held))
          (ap (λ (m : ℕ). take m links.ids) (sym z))
          (held-agrees zero [] size held ids block lends reached no-nonzero sized (none-conflict roots size) are formed);
      fit = none-fit;
      kept = λ q. record {
        frame = [];
        entries = [];
        cells = [];
        lists = lists;
        searched = searched;
        linked = own;
        nonzero = no-nonzero;
        fit = roots-fit (value_of zero) [] held lends.formed no-nonzero;
        agree = none-conflict roots size;
        gives = held_gives zero [] size held ids block lends reached no-nonzero sized (none-conflict roots size) are formed;
      };
    }

    pub none-for : (l : List WrapKey) → l ≡ [] → TreeAnswers (roots_with (value_of zero) l (keys_of held)) l zero.count zero (keys_of held)
        (record { conflict = false; held = reached; links = links })
    none-for l e =
        subst
        (λ (x : List WrapKey). TreeAnswers (roots_with (value_of zero) x (keys_of held)) x zero.count zero (keys_of held)
        (record { conflict = false; held = reached; links = links })) (sym e) none_answers
