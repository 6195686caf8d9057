use native.Mathlib.Omega.{arith}
use Prim.Native.Nat.{ℕ}
use mathlib.Core.Path.{◌≡◌, ap, sym, subst, ◌∙◌}
use mathlib.Core.Bool.{false≢true}
use mathlib.Core.List.{List}
use lib.ListN.{length, take}
use Rattle.wire_attributes.specs.Tree.{WrapKey}
use Rattle.state_keys.specs.Limits.{limits}
use Rattle.state_keys.specs.Kinds.{value_of}
use Rattle.state.specs.Held.{held_formed, keys_of}
use Rattle.state.proofs.Kept.{no-key-formed}
use Rattle.unwrap_lending.specs.inner.Lending.{named_keys}
use Rattle.unwrap_search.specs.declared.open.Entry.{Entry}
use Rattle.unwrap_search.specs.inner.Entries.{Lists}
use Rattle.unwrap_search.specs.inner.Search.{roots_with}
use Rattle.unwrap_search.proofs.Loops.{lists-first}
use Rattle.unwrap_search.proofs.RootsFitting.{roots-fit}
use Rattle.unwrap_copies.specs.inner.Known.{Agrees}
use Rattle.unwrap_paths.proofs.KeptLaws.{links-fit, links-own}
use Rattle.unwrap_tree.proofs.Agreeing.{ids-are, held-agrees, held_gives}
use borrow.Author.Rules.{rules}
use Rattle.unwrap_tree.proofs.reach_keys.Goals as goal

-- `unwrap_tree::reach_keys` meets its contract.

-- the entries that the calls take, as a slice
sliced : (k : List ℕ) (places : List Entry) (n : ℕ) (l : List WrapKey) → length places ≡ limits.wrap_keys → Lists k places n l →
    Lists k (take n places) (length (take n places)) l
sliced k places n l e x = lists-first k places n l (let m = x.within in omega arith) x

pub returns-then-entries_conflict : goal.returns-then-entries_conflict
returns-then-entries_conflict c l held h z lends =
    let a = c.args in
    let r = c.entries-list.result in
    let e : length r.places ≡ limits.wrap_keys = search rules in
    let list = sliced a.kd.now r.places r.count l e (c.entries-list.ensures l h) in
    record {
      conflict = c.if-entries_conflict.ensures a.kd.now (roots_with (value_of a.zero) l (keys_of held)) l a.zero.count list
          (c.search-cells.ensures l held list lends) z;
      formed = ap (held_formed limits) c.new.ensures ∙ no-key-formed limits;
      agrees = λ q. absurd (false≢true (sym q));
      fit = links-fit _ _ _ c.links_of-links.result c.links_of-links.ensures list.within;
      kept = λ q. absurd (false≢true (sym q));
    }

pub returns : goal.returns
returns c l held h z lends =
    let a = c.args in
    let k = a.kd.now in
    let zero = a.zero in
    let roots = roots_with (value_of zero) l (keys_of held) in
    let r = c.entries-list.result in
    let e : length r.places ≡ limits.wrap_keys = search rules in
    let list = sliced k r.places r.count l e (c.entries-list.ensures l h) in
    let f = c.search-cells.ensures l held list lends in
    let n = c.if-entries_conflict.ensures k roots l zero.count list f z in
    let reached = c.held_of in
    let g = reached.ensures k roots l zero.count list f z c.requires.count_value n in
    let links = c.links_of-links in
    let long : length links.result.ids ≡ limits.wrap_keys = search rules in
    let own = links-own _ _ _ links.result links.ensures in
    let lists = subst (λ (m : ℕ). Lists k (take r.count r.places) m l) (sym links.ensures.count-is) list in
    let ids = ids-are l links.result.ids links.result.count lists.count (omega (arith, long, lists.within))
    (λ i d. own.linked.id-is i d ∙ (lists.at i d).id) in
    record {
      conflict = n;
      formed = g.1;
      agrees = λ q.
          subst (λ (x : List ℕ). Agrees roots l zero.count zero (named_keys reached.result x) (keys_of held)) (sym ids)
          (held-agrees zero l zero.count held a.ids.now a.block.now lends reached.result z c.requires.count_value n g.0 g.1);
      fit = links-fit _ _ _ links.result links.ensures list.within;
      kept = λ q. record {
        frame = k;
        entries = take r.count r.places;
        cells = c.search-cells.result;
        lists = lists;
        searched = f;
        linked = own;
        nonzero = z;
        fit = roots-fit (value_of zero) l held lends.formed z;
        agree = n;
        gives = held_gives zero l zero.count held a.ids.now a.block.now lends reached.result z c.requires.count_value n g.0 g.1;
      };
    }
