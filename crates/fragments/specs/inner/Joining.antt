-- What `gather` makes of the octets and of the names.
use Rattle.std.specs.Prelude.{ℕ, ◌+◌, ◌-◌, cond, List, ◌++◌, length, take, drop}
use Rattle.fragments.specs.declared.Collection.{Collection}
use Rattle.fragments.specs.declared.Names.{Names}
use Rattle.fragments.specs.Collection.{Lead, empty_lead, has_first}

-- the first `size` octets with a piece behind the first `before` of them, and the room's rest
abbrev pub joined_octets : List ℕ → ℕ → ℕ → List ℕ → List ℕ → List ℕ
joined_octets octets size before piece room =
    take before octets ++ (piece ++ (take (size - before) (drop before octets) ++ drop (size + length piece) room))

-- the names of a fragment with the lead in the place of its own version, flags and next payload
abbrev pub led_by : Lead → Names → Names
led_by l f =
    record {
      spis = f.spis;
      id = f.id;
      number = f.number;
      total = f.total;
      version = l.version;
      flags = l.flags;
      next = l.next;
    }

-- what fragment 1 gave, where it is among the first n pieces
abbrev pub lead_in : Collection → ℕ → Lead
lead_in c n = cond (has_first (take n c.pieces)) (record { version = c.version; flags = c.flags; next = c.next }) empty_lead
