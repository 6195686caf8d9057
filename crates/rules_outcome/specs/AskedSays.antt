-- WHAT A QUESTION FINDS after an accepted frame, of an SA that the frame announces. No contract cites this file.
use Rattle.std.specs.Prelude.{ℕ, ◌≡◌, true, List, length, take}
use Rattle.state_keys.specs.Limits.{Limits}
use Rattle.wire_policies.specs.Policy.{GroupSaPolicy}
use Rattle.wire_frames.specs.Frame.{Frame}
use Rattle.state_sa.specs.declared.entry.Condition.TheVariants.{Live}
use Rattle.state_sa.specs.declared.entry.Sa.{Sa}
use Rattle.state.specs.declared.State.{State}
use Rattle.state.specs.State.{asked_sa}
use Rattle.rules_refusals.specs.Fitness.{encryption_octets, key_wrap_octets}
use Rattle.rules_outcome.specs.Roots.{need_of}
use Rattle.rules_outcome.specs.NamedKey.{OpensUnder}
use Rattle.rules_outcome.specs.LifetimeSays.{LifetimeAs}
use Rattle.std.specs.Prelude.{Some}

module _ (limits : Limits) (s : State) (now : ℕ) (lent : List ℕ) (f : Frame) (next : State) where
  -- asked for the protocol and SPI of policy `p`, the next member finds a live SA. Every copy of its key that opens gives its octets, as
  -- many as the policy needs. Its lifetime is the policy's, from the frame's tick on. A Rekey SA has the octet counts of its policy's two
  -- parts
  pub record AskedSays (p : GroupSaPolicy) : Type 0 where
    pub keying : List ℕ
    pub opens : OpensUnder limits s now lent f p keying
    pub every : (y : List ℕ) → OpensUnder limits s now lent f p y → y ≡ keying
    pub size : length keying ≡ need_of p
    pub sa : Sa
    pub found : asked_sa limits p.protocol p.spi next ≡ Some sa
    pub protocol : sa.protocol ≡ p.protocol
    pub has : take sa.count sa.octets ≡ keying
    pub count : sa.count ≡ need_of p
    pub live : sa.condition ≡ Live
    pub lifetime : LifetimeAs now p sa.lifetime
    pub parts : p.protocol ≡ 6 → (sa.encryption ≡ encryption_octets p) × (sa.wrapping ≡ key_wrap_octets p)
