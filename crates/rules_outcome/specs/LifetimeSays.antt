-- What document 02, T-07, says of lifetimes: of an SA that a frame brings, and in every member. No contract cites this file.
use Rattle.std.specs.Prelude.{ℕ, ◌≤◌, ◌≡◌, [], ◌∷◌}
use Rattle.wire_policies.specs.Policy.{GroupSaPolicy}
use Rattle.state_sa.specs.Entry.{most_seconds}
use Rattle.state_sa.specs.declared.entry.Lifetime.{Lifetime}
use Rattle.state_sa.specs.declared.entry.Lifetime.TheVariants.{Unlimited, Limited}
use Rattle.state_sa.specs.declared.entry.Sa.{Sa}
use Rattle.state_table.specs.Table.{sas_of}
use Rattle.state.specs.declared.State.{State}
use Rattle.rules_chains.specs.Chain.{In}

-- "its lifetime (GSA_KEY_LIFETIME, ..) and the tick of its start, or "no lifetime" if the attribute is missing": the start is `now`, the
-- tick of the frame with policy `p`
pub data LifetimeAs (now : ℕ) (p : GroupSaPolicy) : Lifetime → Type 0 where
  its-seconds : (n : ℕ) → p.key_lifetimes ≡ n ∷ [] → n ≤ most_seconds → LifetimeAs now p (Limited now n)
  no-lifetime : p.key_lifetimes ≡ [] → LifetimeAs now p Unlimited

-- "at most 2,000,000 seconds", in each entry of a member
abbrev pub LifetimesFit : State → Type 0
LifetimesFit m = (a : Sa) → In a (sas_of m.table) → (start n : ℕ) → a.lifetime ≡ Limited start n → n ≤ most_seconds
