-- Key 0 of a frame: the lent key, or the default key of the live Rekey SA.
use native.Mathlib.Omega.{arith}
use Prim.Native.Nat.{ℕ}
use mathlib.Core.Path.{◌≡◌, refl, ap, sym, ◌∙◌, subst}
use mathlib.Core.Bool.{true}
use mathlib.Core.List.{List}
use lib.Dec.{T}
use lib.ListN.{length}
use lib.Seq.{length-take-le}
use Rattle.octets.specs.Octets.{Octets}
use Rattle.octets.proofs.Octets.{take-octets}
use Rattle.fips197.specs.Key.{Key, is_key}
use Rattle.wire_frames.specs.Frame.{Frame}
use Rattle.wire_frames.specs.declared.exchanges.Exchange.{Exchange}
use Rattle.wire_frames.specs.declared.exchanges.KeyZero.TheVariants as keyZero
use Rattle.wire_readers.specs.declared.Stretch.{Stretch}
use Rattle.state_keys.specs.Limits.{limits}
use Rattle.lists.specs.Lists.{any}
use Rattle.state_keys.specs.Algorithms.{is_wrapping_size}
use Rattle.state_keys.specs.Kinds.{wrapping_of, wrapping_key, value_of}
use Rattle.state_keys.specs.declared.kinds.WrappingKey.{WrappingKey}
use Rattle.lists.proofs.Cases.{and_parts}
use Rattle.state_keys.proofs.Sizes.{wrapping-le}
use Rattle.state_sa.specs.Entry.{named, live_rekey}
use Rattle.state_sa.specs.Entry as entry
use Rattle.state_table.specs.Table.{sas_of, swept, table_formed, default_key}
use Rattle.state_table.specs.declared.Table.{Table}
use Rattle.state_table.proofs.Kept.{sas-of-table, swept-formed}
use Rattle.state.specs.declared.State.{State}
use Rattle.rules_refusals.specs.Contents.{row_of}
use Rattle.rules_refusals.specs.Number2.{not_due_sas, over_live_rekey}
use Rattle.rules_outcome.specs.Roots.{key_zero_value, wrapping_size, own_key_of}
use Rattle.rules_outcome.proofs.RunsLists.{some-passes, passes-some}
use Rattle.apply.proofs.NextLaws.{swept-made}
use Rattle.unwrap_search.proofs.Searching.{is-key-size}
use Rattle.unwrap_tree.proofs.Agreeing.{value-of}
use Rattle.receive.specs.inner.Passing.{Bagged, IsDefaultKey}
use Rattle.receive.specs.inner.Opening.{IsKeyZero}
use Rattle.receive.proofs.ClauseLaws.{lent_fits, state-formed, is-rekey, over-live, judges-lent}
use Rattle.receive.proofs.ConcludingLaws.{table_fits, table_is}
use Rattle.std.specs.Prelude.{Option, Some, is_some, IsSome}
use Rattle.std.proofs.lemmas.Option.{same_Some}
use Rattle.state_keys.proofs.Made.{wrapping-made}
use Rattle.state_keys.specs.Kinds.{key_or_blank}

module _ {e : Exchange} {m : State} {now : ℕ} {lent g k : List ℕ} {bag : Stretch} {f : Frame} (b : Bagged e m now lent g k bag f) where
  -- ---- the lent key
  module _ (z : e.zero ≡ keyZero.Lent) where
    of-lent : (row_of f).zero ≡ keyZero.Lent
    of-lent = ap (λ (y : Exchange). y.zero) b.row ∙ z

    lent-size-fits : is_wrapping_size (length lent) ≡ true
    lent-size-fits = lent_fits m now lent f b.clauses (judges-lent m now lent f b.clauses of-lent)

    lent-value : key_zero_value limits m now lent f ≡ lent
    unfolding key_zero_value
    lent-value = rw of-lent refl

    pub lent-some : (k : Option WrappingKey) → k ≡ wrapping_key lent → IsSome k
    lent-some k q = ap is_some (q ∙ wrapping-made lent lent-size-fits)

    pub lent-zero : (zero : WrappingKey) → wrapping_key lent ≡ Some zero → Octets lent → IsKeyZero m now lent f zero
    unfolding wrapping_size
    lent-zero zero is o =
        let w : zero ≡ wrapping_of lent = same_Some zero (wrapping_of lent) (sym is ∙ wrapping-made lent lent-size-fits) in
        let v : value_of zero ≡ lent = ap value_of w ∙ value-of lent in
        record {
          value = v ∙ sym lent-value;
          size = ap (λ (y : WrappingKey). y.count) w ∙ ap length (sym lent-value);
          fits = ap (λ (y : WrappingKey). is_wrapping_size y.count) w ∙ lent-size-fits;
          key = subst Key (sym v) (record { size = is-key-size (length lent) lent-size-fits; small = o });
        }

  -- ---- the default key of the live Rekey SA
  module _ (z : e.zero ≡ keyZero.RekeySa) (t : Table) (w : t ≡ swept limits now m.table) where
    of-own : (row_of f).zero ≡ keyZero.RekeySa
    of-own = ap (λ (y : Exchange). y.zero) b.row ∙ z

    formed : table_formed limits m.table ≡ true
    formed = table_is m (state-formed m now lent f b.clauses)

    pub stands-formed : table_formed limits t ≡ true
    stands-formed = ap (table_formed limits) w ∙ swept-formed limits now m.table formed

    stands-are : sas_of t ≡ not_due_sas now m
    stands-are =
        ap sas_of (w ∙ swept-made now m.table (table_fits m (state-formed m now lent f b.clauses)))
        ∙ sas-of-table limits (not_due_sas now m)

    pub stands_live : any live_rekey (sas_of t) ≡ true
    stands_live =
        let x = some-passes (over_live_rekey f.header.spi) (not_due_sas now m)
        (over-live m now lent f b.clauses (is-rekey m now lent f b.clauses of-own)) in
        let l = (and_parts (live_rekey x.one) (named entry.rekey_protocol f.header.spi x.one) x.passes).0 in
        ap (any live_rekey) stands-are ∙ passes-some live_rekey (not_due_sas now m) x.one x.stands l

    own_value : key_zero_value limits m now lent f ≡ own_key_of limits m now
    unfolding key_zero_value
    own_value = rw of-own refl

    pub own-zero : (zero : WrappingKey) → IsDefaultKey t zero → length zero.octets ≡ 32 → Octets zero.octets →
        IsKeyZero m now lent f zero
    unfolding wrapping_size
    own-zero zero d array o =
        let v : value_of zero ≡ key_zero_value limits m now lent f =
        ap value_of (d.is ∙ ap (λ (x : Table). key_or_blank (default_key limits x)) w) ∙ sym own_value in
        let h = wrapping-le zero.count d.fits in
        let n : length (value_of zero) ≡ zero.count = length-take-le zero.count zero.octets (omega arith) in
        record {
          value = v;
          size = sym n ∙ ap length v;
          fits = d.fits;
          key = record {
            size = subst (λ (x : ℕ). T (is_key x)) (sym n) (is-key-size zero.count d.fits);
            small = take-octets zero.count zero.octets o;
          };
        }
