-- The keys of a frame that numbers 2 to 7 let pass: key 0, what is opened, and the held list after acceptance. Inner.
use Rattle.std.specs.Prelude.{ℕ, ◌≤◌, ◌≡◌, Bool, true, false, Result, Ok, Err, List}
use Rattle.fips197.specs.Key.{Key}
use Rattle.wire_attributes.specs.Tree.{SaKey, WrapKey}
use Rattle.state_keys.specs.Limits.{limits}
use Rattle.state_keys.specs.Algorithms.{is_wrapping_size}
use Rattle.state_keys.specs.Kinds.{value_of}
use Rattle.state_keys.specs.declared.kinds.WrappingKey.{WrappingKey}
use Rattle.wire_frames.specs.Frame.{Frame}
use Rattle.wire_frames.specs.declared.exchanges.Exchange.{Exchange}
use Rattle.wire_readers.specs.declared.Stretch.{Stretch}
use Rattle.state.specs.declared.State.{State}
use Rattle.state.specs.declared.held.Held.{Held}
use Rattle.rules_chains.specs.Chain.{In, Root}
use Rattle.rules_chains.specs.Refusals.{EntriesConflict}
use Rattle.rules_outcome.specs.Roots.{key_zero_value, roots_of, entries_of, wrapping_size}
use Rattle.check_judging.specs.declared.facts.Facts.{Facts}
use Rattle.rules_outcome.specs.Holding.{new_rekey, rekey_copies, HeldNext, OverHeld}
use Rattle.unwrap_conflicts.specs.inner.Values.{Decides}
use Rattle.unwrap_copies.specs.inner.Openers.{OneOpens}
use Rattle.unwrap_paths.specs.declared.held.PathHeld.{PathHeld}
use Rattle.unwrap_sas.specs.inner.Keyed.{KeyedBy}
use Rattle.unwrap_sas.specs.declared.joining.SasFault.{SasFault}
use Rattle.unwrap_sas.specs.declared.joining.SasFault.TheVariants.{KeyConflict, KeyMissing}
use Rattle.receive.specs.declared.opening.KeysFound.{KeysFound}
use Rattle.receive.specs.inner.Passing.{Passed, Bagged, reads_by, HeldTold}

-- r is key 0 of the frame f, and has a size that a wrapping key can have
pub record IsKeyZero (m : State) (now : ℕ) (lent : List ℕ) (f : Frame) (r : WrappingKey) : Type 0 where
  pub value : value_of r ≡ key_zero_value limits m now lent f
  pub size : r.count ≡ wrapping_size limits m now lent f
  pub fits : is_wrapping_size r.count ≡ true
  pub key : Key (value_of r)

module _ (roots : List Root) (entries : List WrapKey) (size : ℕ) where
  -- if the frame announces a Rekey SA, one of the copies of its key opens
  abbrev pub SomeOpener : Frame → Type 0
  SomeOpener f = new_rekey f ≡ true → (c : SaKey) × In c (rekey_copies f) × OneOpens roots entries size c

  -- what the answer says of the list that follows `old`
  pub record NextTold (b : Bool) (copies : List SaKey) (old : Held) (r : PathHeld) : Type 0 where
    pub kept : r.over ≡ false → HeldNext roots entries size limits b copies old r.held
    pub few : r.over ≡ false → r.held.count ≤ limits.held_keys
    pub beyond : r.over ≡ true → OverHeld roots entries size limits b copies old

-- a frame f of the exchange with the row e, as `Bagged` says, for the member m: `held` is its list, `zero` is key 0 of the frame, and
-- `reads` says whether fresh tree keys are read from it
pub record Openable (e : Exchange) (m : State) (now : ℕ) (lent g k : List ℕ) (bag : Stretch) (held : Held) (zero : WrappingKey)
    (reads : Bool) (f : Frame) : Type 0 where
  pub bagged : Bagged e m now lent g k bag f
  pub list : m.held ≡ held
  pub key : IsKeyZero m now lent f zero
  pub fresh : reads_by m e ≡ reads

-- r says whether number 8 holds of the entries of the frame f. If it does not hold, r has the result for its SAs, and if each has its key,
-- what is to be said of the held list after acceptance
pub record KeysOpened (m : State) (now : ℕ) (lent : List ℕ) (r : KeysFound) (f : Frame) : Type 0 where
  pub conflict : Decides r.conflict (EntriesConflict (roots_of limits m now lent f) (entries_of f) (wrapping_size limits m now lent f))
  pub keys : r.conflict ≡ false →
      KeyedBy (roots_of limits m now lent f) (entries_of f) (wrapping_size limits m now lent f) f now r.keyed
  pub held : r.conflict ≡ false → r.keyed.found ≡ Ok tt → HeldTold m now lent f r.over r.held

-- a frame that numbers 2 to 7 let pass, whose keys are opened
pub record FrameWithKeys (m : State) (now : ℕ) (lent s : List ℕ) (x : Facts) (r : KeysFound) (f : Frame) : Type 0 where
  pub passed : Passed m now lent s x f
  pub opened : KeysOpened m now lent r f

-- the number by which the keys of a frame refuse it, 0 if they do not: whether 8 holds of its entries, the result for its SAs, and whether
-- the held list after acceptance would be over its limit
abbrev pub number_of_keys : Bool → Result (Unit {0}) SasFault → Bool → ℕ
number_of_keys true y over = 8
number_of_keys false (Err KeyConflict) over = 8
number_of_keys false (Err KeyMissing) over = 9
number_of_keys false (Ok u) true = 7
number_of_keys false (Ok u) false = 0
