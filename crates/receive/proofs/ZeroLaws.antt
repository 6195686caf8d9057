-- Key 0 of a frame: the lent key of a registration, the default key of the live Rekey SA of a rekey.
use native.Mathlib.Omega.{arith}
use Prim.Native.Nat.{ℕ, ◌+◌}
use mathlib.Core.Path.{◌≡◌, ap, sym, subst, ◌∙◌}
use mathlib.Core.Bool.{true, false, ◌&&◌}
use mathlib.Core.List.{List}
use borrow.Author.Tests.{eqb-true}
use lib.Dec.{eqb}
use lib.ListN.{length, take, drop, length-drop}
use lib.Seq.{length-take-le}
use Rattle.state_keys.specs.Limits.{limits}
use Rattle.lists.specs.Lists.{any}
use Rattle.state_keys.specs.Algorithms.{is_wrapping_size}
use Rattle.state_keys.specs.Kinds.{wrapping_of, rekey_sizes, key_wrap_part}
use Rattle.lists.proofs.Cases.{and_parts}
use Rattle.state_keys.proofs.Sizes.{rekey-parts, rekey-le}
use Rattle.state_sa.specs.Entry.{esp_protocol, rekey_protocol, is_live, sa_sized, fit_lifetime, sa_formed, live_rekey}
use Rattle.state_sa.specs.declared.entry.Sa.{Sa}
use Rattle.state_table.specs.Table.{sas_of, table_formed, found_rekey, key_wrap_part_of, default_key}
use Rattle.state_table.specs.declared.Table.{Table}
use Rattle.state_table.proofs.Kept.{formed-fit}
use Rattle.state_table.proofs.Finds.{rekey-found}
use Rattle.rules_outcome.proofs.RunsLists.{Passes, some-passes, all_pass}
use Rattle.receive.specs.inner.Passing.{IsDefaultKey}
use Rattle.std.specs.Prelude.{Option, Some, is_some, IsSome}
use Rattle.std.proofs.lemmas.Option.{same_Some}
use Rattle.state_keys.proofs.Made.{wrapping-made}
use Rattle.state_sa.specs.Entry.{keying_of}
use Rattle.state_keys.specs.Kinds.{key_or_blank}
use Rattle.state_keys.specs.declared.kinds.WrappingKey.{WrappingKey}

-- a live Rekey SA that is formed has parts of the algorithm table
live-sizes : (s : Sa) → sa_formed s ≡ true → live_rekey s ≡ true → rekey_sizes s.encryption s.wrapping ≡ true
unfolding sa_sized sa_formed live_rekey
live-sizes s e l =
    let k = (and_parts (sa_sized s) (fit_lifetime s.lifetime) e).0 in
    let p = eqb-true s.protocol rekey_protocol (and_parts (eqb s.protocol rekey_protocol) (is_live s.condition) l).0 in
    let n : eqb s.protocol esp_protocol ≡ false = ap (λ (k : ℕ). eqb k esp_protocol) p in
    let g = and_parts (eqb s.protocol rekey_protocol)
    (rekey_sizes s.encryption s.wrapping && eqb s.count (s.encryption + s.wrapping))
    (rw n at k) in
    (and_parts (rekey_sizes s.encryption s.wrapping) (eqb s.count (s.encryption + s.wrapping)) g.1).0

module _ (t : Table) (e : table_formed limits t ≡ true) (some : any live_rekey (sas_of t) ≡ true) where
  the_one : Passes live_rekey (sas_of t)
  the_one = some-passes live_rekey (sas_of t) some

  found-one : found_rekey limits t ≡ Some the_one.one
  found-one = rekey-found limits t e the_one.one the_one.stands the_one.passes

  pub rekey-stands : (f : Option Sa) → f ≡ found_rekey limits t → IsSome f
  rekey-stands f g = ap is_some (g ∙ found-one)

  module _ (s : Sa) (g : found_rekey limits t ≡ Some s) (long : length s.octets ≡ 68) where
    sizes : rekey_sizes s.encryption s.wrapping ≡ true
    sizes =
        let q : s ≡ the_one.one = same_Some s the_one.one (sym g ∙ found-one) in
        subst (λ (a : Sa). rekey_sizes a.encryption a.wrapping ≡ true) (sym q)
        (live-sizes the_one.one (all_pass sa_formed (sas_of t) (formed-fit limits t e).each the_one.one the_one.stands)
        the_one.passes)

    abbrev wrapping : List ℕ
    wrapping = take s.wrapping (drop s.encryption s.octets)

    wrapping-fits : is_wrapping_size (length wrapping) ≡ true
    wrapping-fits =
        let h = rekey-le s.encryption s.wrapping sizes in
        let n = length-drop s.encryption s.octets in
        ap is_wrapping_size (length-take-le s.wrapping (drop s.encryption s.octets) (omega (arith, h.0, h.1)))
        ∙ (rekey-parts s.encryption s.wrapping sizes).1

    part-is : key_wrap_part (keying_of s) ≡ Some (wrapping_of wrapping)
    unfolding key_wrap_part
    part-is = rw sizes (wrapping-made wrapping wrapping-fits)

    pub part-stands : (r : Option WrappingKey) → r ≡ key_wrap_part (keying_of s) → IsSome r
    part-stands r k = ap is_some (k ∙ part-is)

    pub default-is : (k : WrappingKey) → key_wrap_part (keying_of s) ≡ Some k → IsDefaultKey t k
    unfolding default_key key_wrap_part_of
    default-is k q =
        let made : k ≡ wrapping_of wrapping = same_Some k (wrapping_of wrapping) (sym q ∙ part-is) in
        record {
          is = sym (ap key_or_blank (ap key_wrap_part_of g ∙ q));
          fits = ap (λ (x : WrappingKey). is_wrapping_size x.count) made ∙ wrapping-fits;
        }
