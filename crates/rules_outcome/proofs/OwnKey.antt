-- KEY 0 OF A REKEY over a Rekey SA that stands at the tick: "The default key of the live Rekey SA: the key wrap part of its keying octets,
-- cut as 001 section 3.4 orders."
use native.Mathlib.Omega.{arith}
use Prim.Native.Nat.{ℕ, ◌+◌, ◌-◌, ◌≤◌}
use mathlib.Core.Path.{◌≡◌, ap, sym, ◌∙◌, subst}
use mathlib.Core.Bool.{true, false, not, ◌&&◌}
use mathlib.Core.List.{List, Memᴰ}
use borrow.Author.Tests.{eqb-true}
use lib.Dec.{eqb}
use lib.ListN.{length, take, drop, replicate, length-drop}
use lib.Seq.{take-append_seam, length-take-le}
use Rattle.state_keys.specs.Limits.{Limits}
use Rattle.state_keys.specs.Algorithms.{is_wrapping_size}
use Rattle.state_keys.specs.Kinds.{value_of, wrapping_key, rekey_sizes, key_wrap_part}
use Rattle.lists.proofs.Cases.{and_parts}
use Rattle.lists.proofs.Members.{member-kept}
use Rattle.state_keys.proofs.Sizes.{rekey-parts, rekey-le}
use Rattle.state_sa.specs.Entry.{esp_protocol, rekey_protocol, is_live, sa_sized, fit_lifetime, sa_formed, live_rekey, due}
use Rattle.state_sa.specs.declared.entry.Sa.{Sa}
use Rattle.state_table.specs.Table.{sas_of, table_formed, swept, stays, found_rekey, key_wrap_part_of, default_key}
use Rattle.state_table.proofs.Kept.{formed-fit, swept-formed}
use Rattle.state_table.proofs.Finds.{rekey-found}
use Rattle.state.specs.declared.State.{State}
use Rattle.state.specs.Held.{held_formed}
use Rattle.state.specs.State.{state_formed}
use Rattle.rules_chains.specs.Chain.{In}
use Rattle.rules_chains.proofs.Members.{in-member}
use Rattle.rules_outcome.specs.Roots.{own_key_of}
use Rattle.rules_outcome.proofs.RunsLists.{all_pass}
use Rattle.rules_outcome.proofs.RunsOld.{swept-sas}
use Rattle.std.specs.Prelude.{Option, Some}
use Rattle.state_keys.specs.Kinds.{key_or_blank}

module _ (limits : Limits) (s : State) (now : ℕ) (is-formed : state_formed limits s ≡ true) (b : Sa) (m : In b (sas_of s.table))
    (live : live_rekey b ≡ true) (not-due : due now b ≡ false) where
  table_is : table_formed limits s.table ≡ true
  unfolding state_formed
  table_is = (and_parts (table_formed limits s.table) (held_formed limits s.held) is-formed).0

  -- it stands in the table as it is at the tick, and is the one found there
  stands : Memᴰ b (sas_of (swept limits now s.table))
  stands =
      subst (Memᴰ b) (sym (swept-sas limits s now table_is))
      (member-kept (stays now) b (sas_of s.table) (in-member b (sas_of s.table) m) (ap not not-due))

  the-live : found_rekey limits (swept limits now s.table) ≡ Some b
  the-live = rekey-found limits (swept limits now s.table) (swept-formed limits now s.table table_is) b stands live

  sizes : rekey_sizes b.encryption b.wrapping ≡ true
  unfolding sa_sized sa_formed live_rekey
  sizes =
      let e = all_pass sa_formed (sas_of s.table) (formed-fit limits s.table table_is).each b (in-member b (sas_of s.table) m) in
      let k = (and_parts (sa_sized b) (fit_lifetime b.lifetime) e).0 in
      let p = eqb-true b.protocol rekey_protocol (and_parts (eqb b.protocol rekey_protocol) (is_live b.condition) live).0 in
      let n : eqb b.protocol esp_protocol ≡ false = ap (λ (k : ℕ). eqb k esp_protocol) p in
      let g = and_parts (eqb b.protocol rekey_protocol)
      (rekey_sizes b.encryption b.wrapping && eqb b.count (b.encryption + b.wrapping))
      (rw n at k) in
      (and_parts (rekey_sizes b.encryption b.wrapping) (eqb b.count (b.encryption + b.wrapping)) g.1).0

  -- the octets of an SA are an array of 68
  module _ (long : 68 ≤ length b.octets) where
    abbrev part : List ℕ
    part = take b.wrapping (drop b.encryption b.octets)

    part_length : length part ≡ b.wrapping
    part_length =
        let h = rekey-le b.encryption b.wrapping sizes in
        let n = length-drop b.encryption b.octets in
        length-take-le b.wrapping (drop b.encryption b.octets) (omega (arith, h.0, h.1))

    pub own-key-of-live : own_key_of limits s now ≡ take b.wrapping (drop b.encryption b.octets)
    unfolding default_key key_wrap_part_of key_wrap_part wrapping_key
    own-key-of-live =
        let fit : is_wrapping_size (length part) ≡ true = ap is_wrapping_size part_length ∙ (rekey-parts b.encryption
        b.wrapping sizes).1 in
        ap (λ (f : Option Sa). value_of (key_or_blank (key_wrap_part_of f))) the-live
        ∙ rw (sizes, fit) (take-append_seam part (replicate (32 - length part) 0))
