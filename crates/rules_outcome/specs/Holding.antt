-- THE HELD LIST AFTER A FRAME. Document 02, T-04: "After a registration the held list is now the chain that opens the Rekey SA's SA_KEY,
-- written from the key that opens it back towards the default key, which is not listed." T-11: "After acceptance the fresh path goes before
-- the held key it ends on". One definition serves every exchange, as a registration's list starts empty.
use Rattle.std.specs.Prelude.{ℕ, ◌<◌, ◌≡◌, Bool, true, false, cond, not, eqb}
use mathlib.Core.List.{List, [], ◌∷◌, ◌++◌, map, flat_map}
use Rattle.lists.specs.Lists.{any, keep}
use Rattle.state_keys.specs.Limits.{Limits}
use Rattle.state_keys.specs.Kinds.{wrapping_of}
use Rattle.wire_attributes.specs.Tree.{SaKey, WrapKey}
use Rattle.wire_frames.specs.Frame.{Frame}
use Rattle.state.specs.declared.State.{State}
use Rattle.state.specs.declared.held.HeldKey.{HeldKey}
use Rattle.state.specs.declared.held.Held.{Held}
use Rattle.state.specs.Held.{keys_of, held_of}
use Rattle.rules_refusals.specs.Contents.{row_of, announced}
use Rattle.rules_refusals.specs.Fitness.{is_rekey}
use Rattle.rules_chains.specs.Chain.{Root}
use Rattle.rules_chains.specs.Path.{KeyPath, Keys}
use Rattle.rules_outcome.specs.Roots.{roots_of, entries_of, wrapping_size, copies_of}

-- the frame announces a Rekey SA
abbrev pub new_rekey : Frame → Bool
new_rekey f = any is_rekey (announced f)

-- "the Rekey SA's SA_KEY" (document 02, T-04), "over all copies" (T-11): the copies of the key of a Rekey SA that the frame announces.
-- Numbers 4 and 6 leave a registration one at most
unfoldable pub rekey_copies : Frame → List SaKey
rekey_copies f = flat_map (copies_of f) (keep is_rekey (announced f))

-- a key with its Key ID and value, as the list holds it
abbrev pub held_from : Root → HeldKey
held_from r = record { id = r.id; key = wrapping_of r.value }

-- "held keys ahead of that one go": what is left is the held key with Key ID `i` and those behind it
unfoldable pub from_key : ℕ → List HeldKey → List HeldKey
from_key i [] = []
from_key i (k ∷ l) = cond (eqb k.id i) (k ∷ l) (from_key i l)

-- "any held key whose ID the fresh path has"
abbrev pub on_path : List HeldKey → HeldKey → Bool
on_path path k = any (λ (p : HeldKey). eqb p.id k.id) path

-- "the fresh path goes before the held key it ends on; held keys ahead of that one go, and so does any held key whose ID the fresh path
-- has; the others behind it stay. A fresh path that ends on the default key is the whole list"
unfoldable pub path_before : List HeldKey → ℕ → List HeldKey → List HeldKey
path_before path end old = path ++ cond (eqb end 0) [] (keep (λ (k : HeldKey). not (on_path path k)) (from_key end old))

-- "an empty fresh path changes nothing", octet for octet; another makes a list with blanks behind it
abbrev pub held_by_path : Limits → List HeldKey → ℕ → Held → Held
held_by_path limits [] end old = old
held_by_path limits (k ∷ path) end old = held_of limits (path_before (k ∷ path) end (keys_of old))

-- the list that a frame finds: a registration takes none over
abbrev pub held_before : Limits → Bool → Held → Held
held_before limits true h = held_of limits []
held_before limits false h = h

module _ (roots : List Root) (entries : List WrapKey) (size : ℕ) (limits : Limits) where
  -- list `h` follows list `old` by the path of these copies: its keys in their order, each with the value that every chain ending on it
  -- gives
  pub record HoldsPath (copies : List SaKey) (old h : Held) : Type 0 where
    pub ids : List ℕ
    pub end : ℕ
    pub path : KeyPath roots entries size copies ids end
    pub keys : List Root
    pub are : Keys roots entries size ids keys
    pub is : h ≡ held_by_path limits (map held_from keys) end old

  -- by whether the frame announces a Rekey SA, `copies` being those of its key. "No Rekey SA, or one opened by the default key: empty"
  -- (T-04), where the frame is a registration and finds an empty list
  abbrev pub HeldNext : Bool → List SaKey → Held → Held → Type 0
  HeldNext true copies old h = HoldsPath copies old h
  HeldNext false copies old h = h ≡ old

  -- "Over 128 then is 7, judged after 9" (T-11): the list that follows has more keys than a held list may have
  pub record OverHeld (b : Bool) (copies : List SaKey) (old : Held) : Type 0 where
    pub list : Held
    pub leaves : HeldNext b copies old list
    pub over : limits.held_keys < list.count

module _ (limits : Limits) (s : State) (now : ℕ) (lent : List ℕ) (f : Frame) where
  -- held list `h` is the one that the frame leaves
  abbrev pub HeldAfterwards : Held → Type 0
  HeldAfterwards h =
      HeldNext (roots_of limits s now lent f) (entries_of f) (wrapping_size limits s now lent f) limits (new_rekey f) (rekey_copies f)
      (held_before limits (row_of f).registers s.held) h

  -- the one that it would leave is over its limit
  abbrev pub OverHeldOf : Type 0
  OverHeldOf =
      OverHeld (roots_of limits s now lent f) (entries_of f) (wrapping_size limits s now lent f) limits (new_rekey f) (rekey_copies f)
      (held_before limits (row_of f).registers s.held)
