-- The state that follows an accepted frame, by what is known of the frame.
use Rattle.std.specs.Prelude.{ℕ, ◌≡◌, List}
use Rattle.state_keys.specs.Limits.{limits}
use Rattle.wire_frames.specs.Frame.{Frame}
use Rattle.state_sa.specs.declared.entry.Sa.{Sa}
use Rattle.state_table.specs.Table.{table_of}
use Rattle.state.specs.declared.State.{State}
use Rattle.state.specs.declared.held.Held.{Held}
use Rattle.rules_refusals.specs.Contents.{row_of, deletes_of}
use Rattle.rules_outcome.specs.Holding.{new_rekey}
use Rattle.rules_outcome.specs.After.{delay_of, initial_message_id, insert_all, old_sas, least_afterwards}
use Rattle.apply.specs.declared.next.Said.{Said}
use Rattle.apply.specs.inner.Tables.{AreDeletes}

-- x is what the frame f, of octets s, says of the member afterwards
pub record Told (s : List ℕ) (x : Said) (f : Frame) : Type 0 where
  pub delay : delay_of f ≡ x.delay
  pub rekey : new_rekey f ≡ x.rekey
  pub initial : initial_message_id f ≡ x.initial
  pub least : (row_of f).least ≡ x.least
  pub id : f.header.message_id ≡ x.id
  pub deletes : AreDeletes s x.deletes (deletes_of f)

-- r is the state that follows m after the frame f, with these new SAs and this held list
pub record Follows (m : State) (now : ℕ) (f : Frame) (new : List Sa) (held : Held) (r : State) : Type 0 where
  pub table : r.table ≡ table_of limits (insert_all new (old_sas m now f))
  pub held-is : r.held ≡ held
  pub least : r.least ≡ least_afterwards m f
  pub profile : r.profile ≡ m.profile
