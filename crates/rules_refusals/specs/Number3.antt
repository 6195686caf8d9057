-- Number 3 is given exactly when: "rekey with Message ID below the least acceptable, or none acceptable". In GSA_INBAND_REKEY
-- it "is not judged, because IKEv2 guards its order" (document 02, T-02). Of the frame it looks at the header's exchange type x and Message
-- ID alone.
use Rattle.std.specs.Prelude.{ℕ, List, [], ◌∷◌, Bool, not, ◌&&◌}
use Rattle.state.specs.declared.State.{State}
use Rattle.state.specs.Least.{acceptable}
use Rattle.wire_frames.specs.Exchange.{exchange_of}

unfoldable pub not_acceptable : State → ℕ → ℕ → Bool
not_acceptable s x id = (exchange_of x).compares_message_id && not (acceptable id s.least)

abbrev pub number3_of_member : State → ℕ → ℕ → List Bool
number3_of_member s x id = not_acceptable s x id ∷ []
