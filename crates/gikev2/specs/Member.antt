-- The calls on a member. "Registering, rekeying, sweeping and leaving each take the member as it was and give back the next."
use Rattle.std.specs.Prelude.{ℕ, Bool, false, cond, List, eqb, take, Option, None}
use Rattle.std.specs.Option.{option_map}
use Rattle.state_keys.specs.Rooms.{sa_room}
use Rattle.state_keys.specs.Limits.{limits}
use Rattle.state_keys.specs.Kinds.{padded}
use Rattle.state_sa.specs.Entry.{rekey_protocol}
use Rattle.state_sa.specs.declared.entry.Sa.{Sa}
use Rattle.state.specs.State.{new_state, left_state, swept_state, asked_sa}
use Rattle.gikev2.specs.declared.Member.{Member}
use Rattle.gikev2.specs.declared.SaAnswer.{SaAnswer}

-- "A new member has no SA, no held key and least Message ID 0."; "their profile is switched on for a member at creation" (document 02,
-- T-11)
unfoldable pub member_with : Bool → Member
member_with profile = record { state = new_state limits profile }

-- a new member without the profile: "the program's member has it off"
abbrev pub new_member : Member
new_member = member_with false

-- "Sweeping removes exactly those due."
unfoldable pub swept_member : ℕ → Member → Member
swept_member now m = record { state = swept_state limits now m.state }

-- "Leaving gives the new member."; "Leaving keeps the profile" (document 02, T-11)
unfoldable pub left_member : Member → Member
left_member m = record { state = left_state limits m.state }

-- "the keying octets and condition of the SA with a given protocol and SPI, or none": the SA's own octets, with blanks behind them, and the
-- octet counts of the two parts of a Rekey SA; its lifetime and the tick of its start: "the question about an SA gives them too" (document
-- 02, T-07)
unfoldable pub answer_of : Sa → SaAnswer
answer_of s =
    record {
      octets = padded sa_room (take s.count s.octets);
      count = s.count;
      encryption = cond (eqb s.protocol rekey_protocol) s.encryption 0;
      wrapping = cond (eqb s.protocol rekey_protocol) s.wrapping 0;
      condition = s.condition;
      lifetime = s.lifetime;
    }

-- the answer if the member has no such SA
abbrev pub no_answer : Option SaAnswer
no_answer = None

-- the answer by what was found
unfoldable pub answered : Option Sa → Option SaAnswer
answered f = option_map answer_of f

-- the answer to the question about the SA with the protocol p and the SPI x
unfoldable pub sa_answer : ℕ → List ℕ → Member → Option SaAnswer
sa_answer p x m = answered (asked_sa limits p x m.state)
