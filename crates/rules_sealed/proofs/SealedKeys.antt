-- "KEYED BY THE LIVE REKEY SA": past number 2 the key is cut out of the SA over which the frame came, and its octets are an AES key and a
-- salt.
use native.Mathlib.Omega.{arith}
use Prim.Native.Nat.{ℕ, ◌+◌, ◌-◌, ◌≤◌}
use mathlib.Core.Path.{◌≡◌, sym, ap, ◌∙◌, subst}
use mathlib.Core.Bool.{true, false, ◌&&◌}
use mathlib.Core.List.{List, Memᴰ}
use borrow.Author.Tests.{eqb-true, not-true}
use lib.Dec.{eqb}
use lib.ListN.{length, take, replicate}
use lib.Seq.{take-append_seam, length-take-le}
use Rattle.octets.specs.Compare.{same}
use Rattle.octets.specs.Octets.{Octets}
use Rattle.octets.proofs.Octets.{take-octets}
use Rattle.octets.proofs.Order.{same-eq}
use Rattle.state_keys.specs.Limits.{Limits}
use Rattle.state_keys.specs.Algorithms.{is_encryption_size}
use Rattle.state_keys.specs.Kinds.{encryption_of, encryption_key, rekey_sizes, encryption_part}
use Rattle.state_keys.specs.declared.kinds.EncryptionKey.{EncryptionKey}
use Rattle.lists.specs.Lists.{any}
use Rattle.lists.proofs.Cases.{and_parts}
use Rattle.lists.proofs.Members.{kept-member}
use Rattle.state_keys.proofs.Sizes.{among-is, encryption-size, rekey-parts, rekey-le}
use Rattle.state_sa.specs.Entry.{esp_protocol, rekey_protocol, is_live, sa_spi, named, sa_sized, fit_lifetime, sa_formed, live_rekey, due}
use Rattle.state_sa.specs.declared.entry.Sa.{Sa}
use Rattle.state_table.specs.declared.Table.{Table}
use Rattle.state_table.specs.Table.{sas_of, table_formed, stays, found_rekey}
use Rattle.state_table.proofs.Kept.{formed-fit}
use Rattle.state_table.proofs.Finds.{rekey-found}
use Rattle.state.specs.declared.State.{State}
use Rattle.state.specs.Held.{held_formed}
use Rattle.state.specs.State.{state_formed}
use Rattle.wire_frames.specs.Header.{header_of}
use Rattle.rules_refusals.specs.Number2.{not_due_sas, over_live_rekey}
use Rattle.rules_refusals.specs.Refusals.{applies}
use Rattle.rules_chains.specs.Chain.{In}
use Rattle.rules_chains.proofs.Members.{member-in}
use Rattle.rfc5282.specs.Keys.{FitPart}
use Rattle.rfc5282.proofs.PartLaws.{sizes-fit}
use Rattle.rules_outcome.proofs.RunsLists.{Passes, all_pass, some-passes, passes-some}
use Rattle.rules_sealed.specs.SealingKey.{encryption_of_found, sealing_key, encryption_octets_of, sealing_part}
use Rattle.rules_sealed.specs.SealedOutcome.{sealed_number2}
use Rattle.rules_sealed.specs.SealedSays.{LongArrays, SealedOver}
use Rattle.rules_sealed.proofs.SealedHeader.{is-formed, stands-over}
use Rattle.std.specs.Prelude.{Option, Some, is_some, IsSome}
use Rattle.std.proofs.lemmas.Option.{same_Some}
use Rattle.state_keys.proofs.Made.{encryption-made}
use Rattle.state_sa.specs.Entry.{keying_of}
use Rattle.state_keys.specs.Kinds.{encryption_or_blank}

-- the live Rekey SA of a table that is as it must be
module _ (limits : Limits) (t : Table) (formed : table_formed limits t ≡ true) (b : Sa) (m : Memᴰ b (sas_of t))
    (live : live_rekey b ≡ true) where
  the-live : found_rekey limits t ≡ Some b
  the-live = rekey-found limits t formed b m live

  sizes : rekey_sizes b.encryption b.wrapping ≡ true
  unfolding sa_sized sa_formed live_rekey
  sizes =
      let e = all_pass sa_formed (sas_of t) (formed-fit limits t formed).each b m in
      let k = (and_parts (sa_sized b) (fit_lifetime b.lifetime) e).0 in
      let p = eqb-true b.protocol rekey_protocol (and_parts (eqb b.protocol rekey_protocol) (is_live b.condition) live).0 in
      let n : eqb b.protocol esp_protocol ≡ false = ap (λ (k : ℕ). eqb k esp_protocol) p in
      let g = and_parts (eqb b.protocol rekey_protocol)
      (rekey_sizes b.encryption b.wrapping && eqb b.count (b.encryption + b.wrapping))
      (rw n at k) in
      (and_parts (rekey_sizes b.encryption b.wrapping) (eqb b.count (b.encryption + b.wrapping)) g.1).0

  -- the octets of an SA are an array of 68
  module _ (long : 68 ≤ length b.octets) where
    abbrev part : List ℕ
    part = take b.encryption b.octets

    part_length : length part ≡ b.encryption
    part_length = let h = rekey-le b.encryption b.wrapping sizes in length-take-le b.encryption b.octets (omega (arith, h.0))

    part-fit : is_encryption_size (length part) ≡ true
    part-fit = ap is_encryption_size part_length ∙ (rekey-parts b.encryption b.wrapping sizes).0

    -- the key that is found is the first octets of its keying octets
    part-is : encryption_part (keying_of b) ≡ Some (encryption_of part)
    unfolding encryption_part
    part-is = rw sizes (encryption-made part part-fit)

    found-key : encryption_of_found (found_rekey limits t) ≡ Some (encryption_of part)
    unfolding encryption_of_found
    found-key = ap encryption_of_found the-live ∙ part-is

    key-is : encryption_or_blank (encryption_of_found (found_rekey limits t)) ≡ encryption_of part
    key-is = ap encryption_or_blank found-key

    octets-are : encryption_octets_of (encryption_or_blank (encryption_of_found (found_rekey limits t))) ≡ part
    octets-are = ap encryption_octets_of key-is ∙ take-append_seam part (replicate (36 - length part) 0)

    count-fit : is_encryption_size (encryption_or_blank (encryption_of_found (found_rekey limits t))).count ≡ true
    count-fit = ap (λ (k : EncryptionKey). is_encryption_size k.count) key-is ∙ part-fit

-- what the code finds: the live Rekey SA of a table, and the first part of its keying octets
module _ (limits : Limits) (t : Table) (formed : table_formed limits t ≡ true) (some : any live_rekey (sas_of t) ≡ true) where
  live : Passes live_rekey (sas_of t)
  live = some-passes live_rekey (sas_of t) some

  live-found : found_rekey limits t ≡ Some live.one
  live-found = the-live limits t formed live.one live.stands live.passes

  pub live-stands : (f : Option Sa) → f ≡ found_rekey limits t → IsSome f
  live-stands f g = ap is_some (g ∙ live-found)

  module _ (b : Sa) (is : found_rekey limits t ≡ Some b) (long : length b.octets ≡ 68) where
    same-live : live.one ≡ b
    same-live = same_Some live.one b (sym live-found ∙ is)

    stands-live : Memᴰ b (sas_of t)
    stands-live = subst (λ (a : Sa). Memᴰ a (sas_of t)) same-live live.stands

    passes-live : live_rekey b ≡ true
    passes-live = subst (λ (a : Sa). live_rekey a ≡ true) same-live live.passes

    long-live : 68 ≤ length b.octets
    long-live = omega (arith, long)

    pub sealing-part-stands : (r : Option EncryptionKey) → r ≡ encryption_part (keying_of b) → IsSome r
    sealing-part-stands r q = ap is_some (q ∙ part-is limits t formed b stands-live passes-live long-live)

    module _ (k : EncryptionKey) (q : encryption_part (keying_of b) ≡ Some k) where
      pub sealing-key-found : k ≡ encryption_or_blank (encryption_of_found (found_rekey limits t))
      unfolding encryption_of_found
      sealing-key-found = sym (ap encryption_or_blank (ap encryption_of_found is ∙ q))

      pub sealing-key-sized : is_encryption_size k.count ≡ true
      sealing-key-sized =
          ap (λ (x : EncryptionKey). is_encryption_size x.count) sealing-key-found
          ∙ count-fit limits t formed b stands-live passes-live long-live

module _ (limits : Limits) (s : State) (now : ℕ) (octets : List ℕ)
    (no-2 : applies (sealed_number2 limits s now (header_of octets)) ≡ true → ⊥) where
  pub table-formed : table_formed limits s.table ≡ true
  unfolding state_formed
  table-formed = (and_parts (table_formed limits s.table) (held_formed limits s.held) (is-formed limits s now octets no-2)).0

  -- the SA over which the frame came
  abbrev over : Passes (over_live_rekey (header_of octets).spi) (not_due_sas now s)
  over = some-passes (over_live_rekey (header_of octets).spi) (not_due_sas now s) (stands-over limits s now octets no-2)

  abbrev sa : Sa
  sa = over.one

  stays-there : Memᴰ sa (sas_of s.table) × (stays now sa ≡ true)
  stays-there = kept-member (stays now) sa (sas_of s.table) over.stands

  parts : (live_rekey sa ≡ true) × (named rekey_protocol (header_of octets).spi sa ≡ true)
  parts = and_parts (live_rekey sa) (named rekey_protocol (header_of octets).spi sa) over.passes

  pub some-live : any live_rekey (sas_of s.table) ≡ true
  some-live = passes-some live_rekey (sas_of s.table) sa stays-there.0 parts.0

  module _ (long : LongArrays s) where
    in_table : In sa (sas_of s.table)
    in_table = member-in sa (sas_of s.table) stays-there.0

    cut-is : sealing_part limits s ≡ take sa.encryption sa.octets
    unfolding sealing_key
    cut-is = octets-are limits s.table table-formed sa stays-there.0 parts.0 (long sa in_table)

    pub sealed-over : SealedOver s now octets (sealing_part limits s)
    unfolding named
    sealed-over =
        record {
          sa = sa;
          stands = in_table;
          live = parts.0;
          not-due = not-true (due now sa) stays-there.1;
          spi = same-eq (sa_spi sa) (header_of octets).spi
              (and_parts (eqb sa.protocol rekey_protocol) (same (sa_spi sa) (header_of octets).spi) parts.1).1;
          cut = cut-is;
        }

    -- an AES key and a salt
    pub sealing-fits : ((b : Sa) → In b (sas_of s.table) → Octets b.octets) → FitPart (sealing_part limits s)
    sealing-fits small =
        let e = part-fit limits s.table table-formed sa stays-there.0 parts.0 (long sa in_table) in
        let w = sizes-fit (length (take sa.encryption sa.octets))
        (among-is 20 28 36 (length (take sa.encryption sa.octets))
        (sym (encryption-size (length (take sa.encryption sa.octets))) ∙ e)) in
        subst FitPart (sym cut-is)
        (record { small = take-octets sa.encryption sa.octets (small sa in_table); least = w.0; key-size = w.1 })
