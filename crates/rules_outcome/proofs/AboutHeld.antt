-- The held list, the roots and the order of judging on samples, computed on the definitions, in a file that is checked before the laws: a
-- wrong definition is refused here. RFC 9838, Appendix A.4, has the members E, G and H of a group from which F is expelled, with document
-- 02's private entries in the place of the Member bag (T-11).
use Prim.Native.Nat.{ℕ}
use mathlib.Core.Path.{◌≡◌, refl}
use mathlib.Core.Bool.{true, false}
use mathlib.Core.List.{List, [], ◌∷◌, map, flat_map}
use lib.ListN.{length, replicate}
use Rattle.lists.specs.Lists.{any, keep}
use Rattle.state_keys.specs.Limits.{Limits, limits}
use Rattle.state_keys.specs.Kinds.{wrapping_of}
use Rattle.wire_attributes.specs.Tree.{WrapKey}
use Rattle.wire_bags.specs.Bag.{group_keys}
use Rattle.wire_frames.specs.Frame.{Frame, kd}
use Rattle.state.specs.declared.State.{State}
use Rattle.state.specs.declared.held.HeldKey.{HeldKey}
use Rattle.state.specs.declared.held.Held.{Held}
use Rattle.state.specs.declared.least.Least.TheVariants.{Id}
use Rattle.state.specs.Held.{held_of}
use Rattle.state_table.specs.Table.{table_of}
use Rattle.rules_outcome.specs.Roots.{own_key_of, key_zero_value, those_not_carried, roots_of, entries_of, wrapping_size}
use Rattle.rules_outcome.specs.Holding.{from_key, path_before, held_by_path, held_before}
use Rattle.rules_outcome.specs.Answer.{RefusalCase, conditions}

-- a held key, and the same key with a fresh value
abbrev key : ℕ → HeldKey
key i = record { id = i; key = wrapping_of (replicate 16 i) }

abbrev anew : ℕ → HeldKey
anew i = record { id = i; key = wrapping_of (replicate 16 255) }

abbrev entry : ℕ → ℕ → WrapKey
entry i k = record { key_id = i; kwk_id = k; wrapped = [] }

-- a member that holds these keys, with the profile on
abbrev holding : List HeldKey → State
holding l = record { table = table_of limits []; held = record { keys = l; count = length l }; least = Id 0; profile = true }

-- a rekey with these fresh keys
abbrev rekeying : List WrapKey → Frame
rekeying l = record {
  header = record { spi = replicate 16 7; exchange = 41; message_id = 0 };
  payloads = record {
    kind = 52;
    critical = false;
    content = kd (group_keys (record { protocol = 6; spi = replicate 16 8; keys = []; fresh = l }) ∷ []);
  } ∷ [];
}

pub record HeldSamples : Type 0 where
  -- "E: 2->5->11", "a new Key Path 16->15->11" with the path written as 15, 16: "E: 15->16->11"
  pub member-e : path_before (anew 15 ∷ anew 16 ∷ []) 11 (key 2 ∷ key 5 ∷ key 11 ∷ []) ≡ anew 15 ∷ anew 16 ∷ key 11 ∷ []
  -- "G: 2->6->13", "new Key Path 15->6": "G: 15->6->13"; so H
  pub member-g : path_before (anew 15 ∷ []) 6 (key 2 ∷ key 6 ∷ key 13 ∷ []) ≡ anew 15 ∷ key 6 ∷ key 13 ∷ []
  pub member-h : path_before (anew 15 ∷ []) 6 (key 2 ∷ key 6 ∷ key 14 ∷ []) ≡ anew 15 ∷ key 6 ∷ key 14 ∷ []
  -- "and so does any held key whose ID the fresh path has": 11 behind 5 comes anew, 13 stays
  pub once : path_before (anew 11 ∷ []) 5 (key 2 ∷ key 5 ∷ key 11 ∷ key 13 ∷ []) ≡ anew 11 ∷ key 5 ∷ key 13 ∷ []
  -- "A fresh path that ends on the default key is the whole list"
  pub whole-list : path_before (anew 15 ∷ anew 16 ∷ []) 0 (key 2 ∷ key 5 ∷ key 11 ∷ []) ≡ anew 15 ∷ anew 16 ∷ []
  -- "an empty fresh path changes nothing", octet for octet: A to D
  pub nothing-changes : (h : Held) (end : ℕ) → held_by_path limits [] end h ≡ h
  -- a registration finds an empty list, any other frame the member's
  pub found : (h : Held) → (held_before limits true h ≡ held_of limits []) × (held_before limits false h ≡ h)
  -- "Chains now start from the default key or a held key not carried anew": 5 is carried, whatever its entry opens to
  pub not_carried : those_not_carried (entry 5 9 ∷ entry 16 11 ∷ []) (key 2 ∷ key 5 ∷ key 11 ∷ []) ≡ key 2 ∷ key 11 ∷ []
  pub roots : (now : ℕ) (lent : List ℕ) →
      map (λ r. r.id) (roots_of limits (holding (key 2 ∷ key 5 ∷ key 11 ∷ [])) now lent (rekeying (entry 5 9 ∷ []))) ≡ 0 ∷ 2 ∷ 11 ∷ []
  pub entries : entries_of (rekeying (entry 15 6 ∷ entry 16 11 ∷ [])) ≡ entry 15 6 ∷ entry 16 11 ∷ []
  -- "A fresh key has the size of the live Rekey SA's default key."
  pub size : (s : State) (now : ℕ) (lent : List ℕ) → wrapping_size limits s now lent (rekeying []) ≡ length (own_key_of limits s now)
  -- "Over 128 then is 7, judged after 9."
  pub order : (limits : Limits) (s : State) (now : ℕ) (lent : List ℕ) (f : Frame) →
      map (λ (c : RefusalCase). c.number) (conditions limits s now lent f) ≡ 2 ∷ 3 ∷ 4 ∷ 5 ∷ 6 ∷ 7 ∷ 8 ∷ 9 ∷ 7 ∷ []

pub held-samples : HeldSamples
unfolding path_before from_key keep any flat_map roots_of key_zero_value wrapping_size
held-samples =
    record {
      member-e = refl;
      member-g = refl;
      member-h = refl;
      once = refl;
      whole-list = refl;
      nothing-changes = λ h end. refl;
      found = λ h. (refl, refl);
      not_carried = refl;
      roots = λ now lent. refl;
      entries = refl;
      size = λ s now lent. refl;
      order = λ limits s now lent f. refl;
    }
