-- WHAT A MEMBER ANSWERS about an announced SA after an accepted frame: "the keying octets and condition of the SA with a given protocol
-- and SPI".
use native.Mathlib.Omega.{arith}
use Prim.Native.Nat.{ℕ}
use mathlib.Core.Path.{◌≡◌, ap, ◌∙◌}
use mathlib.Core.Bool.{true, false}
use mathlib.Core.List.{List}
use borrow.Author.Tests.{eq-eqb, ne_eqb}
use lib.Dec.{eqb}
use lib.ListN.{length}
use Rattle.state_keys.specs.Limits.{limits}
use Rattle.state_keys.specs.Kinds.{padded}
use Rattle.wire_policies.specs.Policy.{GroupSaPolicy}
use Rattle.wire_frames.specs.Frame.{Frame}
use Rattle.wire_frames.specs.Grammar.{IsFrame}
use Rattle.state_sa.specs.declared.entry.Condition.TheVariants.{Live}
use Rattle.rules_refusals.specs.Contents.{announced}
use Rattle.rules_refusals.specs.Fitness.{encryption_octets, key_wrap_octets}
use Rattle.rules_chains.specs.Chain.{In}
use Rattle.rules_outcome.specs.Roots.{need_of}
use Rattle.rules_outcome.specs.NamedKey.{OpensUnder}
use Rattle.rules_outcome.specs.LifetimeSays.{LifetimeAs}
use Rattle.rules_outcome.proofs.Asked.{asked-after}
use Rattle.gikev2.specs.declared.Member.{Member}
use Rattle.std.specs.Prelude.{Option, Some}
use Rattle.gikev2.specs.declared.SaAnswer.{SaAnswer}
use Rattle.gikev2.specs.declared.call.Answer.TheVariants as answer
use Rattle.gikev2.specs.Member.{answer_of, answered, sa_answer}
use Rattle.gikev2.specs.Receive.{Receives}

module _ (m : Member) (now : ℕ) (lent s : List ℕ) (f : Frame) (e : IsFrame m.state.profile s f) (next : Member)
    (r : Receives m now lent s answer.Accepted next) where
  -- the answer has the octets that every copy of the SA's key opens to, as many as its policy needs, live; of a Rekey SA the octet counts
  -- of its policy's two parts; its lifetime as its policy and the frame's tick give it
  pub record Answered (p : GroupSaPolicy) (reply : Option SaAnswer) : Type 0 where
    pub a : SaAnswer
    pub keying : List ℕ
    pub opens : OpensUnder limits m.state now lent f p keying
    pub every : (y : List ℕ) → OpensUnder limits m.state now lent f p y → y ≡ keying
    pub size : length keying ≡ need_of p
    pub found : reply ≡ Some a
    pub octets : a.octets ≡ padded 68 keying
    pub count : a.count ≡ need_of p
    pub condition : a.condition ≡ Live
    pub lifetime : LifetimeAs now p a.lifetime
    pub of-rekey : p.protocol ≡ 6 → (a.encryption ≡ encryption_octets p) × (a.wrapping ≡ key_wrap_octets p)
    pub of-esp : p.protocol ≡ 3 → (a.encryption ≡ 0) × (a.wrapping ≡ 0)

  pub answered-after : (p : GroupSaPolicy) → In p (announced f) → Answered p (sa_answer p.protocol p.spi next)
  unfolding answer_of answered sa_answer
  answered-after p i =
      let w = asked-after limits m.state now lent s f e next.state r.outcome p i in
      let a = w.sa in
      let rekey : p.protocol ≡ 6 → eqb a.protocol 6 ≡ true = λ q. eq-eqb a.protocol 6 (w.protocol ∙ q) in
      let esp : p.protocol ≡ 3 → eqb a.protocol 6 ≡ false =
      λ q. let z = w.protocol in ne_eqb a.protocol 6 (λ h. omega arith) in
      record {
        a = answer_of a;
        keying = w.keying;
        opens = w.opens;
        every = w.every;
        size = w.size;
        found = ap answered w.found;
        octets = ap (padded 68) w.has;
        count = w.count;
        condition = w.live;
        lifetime = w.lifetime;
        of-rekey = λ q. (rw (rekey q) (w.parts q).0, rw (rekey q) (w.parts q).1);
        of-esp = λ q. (rw (esp q), rw (esp q));
      }
