-- The facts of the policies of a GSA payload: of one policy, of all policies. Each is what a clause of numbers 4 to 7 asks of the frame's
-- policies, in the clause's own words, or what the next member state needs. Which transforms are fit depends on whether the exchange asks
-- for the controller's authentication.
use Rattle.std.specs.Prelude.{ℕ, ◌+◌, ◌<◌, ◌≤◌, ◌≡◌, Bool, true, false, not, cond, ◌&&◌, ◌||◌, length, ltb, eqb}
use mathlib.Core.List.{List, [], flat_map}
use Rattle.lists.specs.Lists.{any, count}
use Rattle.wire_attributes.specs.Place.{in_policy}
use Rattle.wire_attributes.specs.Tree.{initial_message_ids, key_lifetimes}
use Rattle.wire_attributes.specs.Layout.{attributes}
use Rattle.wire_attributes.specs.declared.tables.Place.TheVariants as place
use Rattle.wire_policies.specs.Policy.{Policy, group_sa, group_wide, GroupSaPolicy, GroupWidePolicy, SaBody, group_wide_of}
use Rattle.wire_policies.specs.Grammar.{IsSaBody}
use Rattle.wire_readers.specs.inner.Values.{is_whole, attributes_in}
use Rattle.state_sa.specs.Entry.{most_seconds}
use Rattle.rules_refusals.specs.Contents.{several, group_sa_in, wide_of}
use Rattle.rules_refusals.specs.Fitness.{ah, is_esp, is_rekey, one_group_address, transforms_fit}
use Rattle.rules_refusals.specs.Number4.{twice_in_transform}
use Rattle.check_suites.specs.inner.Adding.{once}
use Rattle.check_composition.specs.inner.Numbers.{greater, greatest}
use Rattle.check_composition.specs.declared.numbers.Numbers.{Numbers}
use Rattle.check_composition.specs.declared.PolicyFacts.{PolicyFacts}

-- ---- one policy
-- the policy has a lifetime of more seconds than allowed
abbrev pub has_long : GroupSaPolicy → Bool
has_long p = any (λ (n : ℕ). ltb most_seconds n) p.key_lifetimes

-- the first Message IDs that a Rekey policy gives its SA
abbrev pub given_by : GroupSaPolicy → List ℕ
given_by p = cond (is_rekey p) p.initial_message_ids []

abbrev pub of_sa : Bool → GroupSaPolicy → PolicyFacts
of_sa authentication p = record {
  sas = 1;
  esps = once (is_esp p);
  rekeys = once (is_rekey p);
  wides = 0;
  ah = eqb p.protocol ah;
  two_lengths = any twice_in_transform p.transforms;
  two_message_ids = several p.initial_message_ids;
  two_delays = false;
  two_lifetimes = several p.key_lifetimes;
  elsewhere = is_rekey p && not (one_group_address p.destination);
  long = has_long p;
  unfit = not (transforms_fit authentication p);
  delay = 0;
  initial = greatest (given_by p);
}

-- the facts of a group-wide policy with the deactivation delays `n`
abbrev pub wide_by : Numbers → PolicyFacts
wide_by n = record {
  sas = 0;
  esps = 0;
  rekeys = 0;
  wides = 1;
  ah = false;
  two_lengths = false;
  two_message_ids = false;
  two_delays = ltb 1 n.count;
  two_lifetimes = false;
  elsewhere = false;
  long = false;
  unfit = false;
  delay = n.greatest;
  initial = 0;
}

abbrev pub of_policy : Bool → Policy → PolicyFacts
of_policy authentication (group_sa p) = of_sa authentication p
of_policy authentication (group_wide w) =
    wide_by (record { count = length w.deactivation_delays; greatest = greatest w.deactivation_delays })

-- the Group SA policy of protocol `p` with SPI `spi` and body `x` after it
abbrev pub sa_with : ℕ → List ℕ → SaBody → GroupSaPolicy
sa_with p spi x = record {
  protocol = p;
  spi = spi;
  source = x.source;
  destination = x.destination;
  transforms = x.suite.transforms;
  initial_message_ids = initial_message_ids (in_policy p) x.suite.attributes;
  key_lifetimes = key_lifetimes (in_policy p) x.suite.attributes;
}

-- each count of `f` is at most `n`
pub record PolicyFactsAtMost (n : ℕ) (f : PolicyFacts) : Type 0 where
  pub sas : f.sas ≤ n
  pub esps : f.esps ≤ n
  pub rekeys : f.rekeys ≤ n
  pub wides : f.wides ≤ n

-- `o` are the octets after the head of a policy with first octet `first`: the attributes of a group-wide policy, or the body of a Group SA
-- policy
pub record PolicyBodyHolds (first : ℕ) (o : List ℕ) : Type 0 where
  pub wide : first ≡ 0 → is_whole (attributes place.GroupWidePolicy 0 o) ≡ true
  pub sa : (first ≡ 0 → ⊥) → (x : SaBody) × IsSaBody (in_policy first) o x

-- `r` are the facts of that policy, and each count is at most 1
pub record FactsOfPolicy (authentication : Bool) (first : ℕ) (o : List ℕ) (r : PolicyFacts) : Type 0 where
  pub wide : first ≡ 0 → r ≡ of_policy authentication (group_wide_of (attributes_in place.GroupWidePolicy o))
  pub sa : (first ≡ 0 → ⊥) → (x : SaBody) (spi : List ℕ) → IsSaBody (in_policy first) o x → r ≡ of_sa authentication (sa_with first spi x)
  pub few : PolicyFactsAtMost 1 r

-- ---- all policies
abbrev pub no_policies : PolicyFacts
no_policies = record {
  sas = 0;
  esps = 0;
  rekeys = 0;
  wides = 0;
  ah = false;
  two_lengths = false;
  two_message_ids = false;
  two_delays = false;
  two_lifetimes = false;
  elsewhere = false;
  long = false;
  unfit = false;
  delay = 0;
  initial = 0;
}

abbrev pub merge_policy_facts : PolicyFacts → PolicyFacts → PolicyFacts
merge_policy_facts a b = record {
  sas = a.sas + b.sas;
  esps = a.esps + b.esps;
  rekeys = a.rekeys + b.rekeys;
  wides = a.wides + b.wides;
  ah = a.ah || b.ah;
  two_lengths = a.two_lengths || b.two_lengths;
  two_message_ids = a.two_message_ids || b.two_message_ids;
  two_delays = a.two_delays || b.two_delays;
  two_lifetimes = a.two_lifetimes || b.two_lifetimes;
  elsewhere = a.elsewhere || b.elsewhere;
  long = a.long || b.long;
  unfit = a.unfit || b.unfit;
  delay = greater a.delay b.delay;
  initial = greater a.initial b.initial;
}

-- the counts of `a` and `b` can be added in 64 bits
pub record Added (a b : PolicyFacts) : Type 0 where
  pub sas : a.sas + b.sas < 18446744073709551616
  pub esps : a.esps + b.esps < 18446744073709551616
  pub rekeys : a.rekeys + b.rekeys < 18446744073709551616
  pub wides : a.wides + b.wides < 18446744073709551616

-- THE FACTS OF THE POLICIES `l`
abbrev pub policy_facts_of : Bool → List Policy → PolicyFacts
policy_facts_of authentication l = record {
  sas = length (flat_map group_sa_in l);
  esps = count is_esp (flat_map group_sa_in l);
  rekeys = count is_rekey (flat_map group_sa_in l);
  wides = length (flat_map wide_of l);
  ah = any (λ (p : GroupSaPolicy). eqb p.protocol ah) (flat_map group_sa_in l);
  two_lengths = any (λ (p : GroupSaPolicy). any twice_in_transform p.transforms) (flat_map group_sa_in l);
  two_message_ids = any (λ (p : GroupSaPolicy). several p.initial_message_ids) (flat_map group_sa_in l);
  two_delays = any (λ (w : GroupWidePolicy). several w.deactivation_delays) (flat_map wide_of l);
  two_lifetimes = any (λ (p : GroupSaPolicy). several p.key_lifetimes) (flat_map group_sa_in l);
  elsewhere = any (λ (p : GroupSaPolicy). is_rekey p && not (one_group_address p.destination)) (flat_map group_sa_in l);
  long = any has_long (flat_map group_sa_in l);
  unfit = any (λ (p : GroupSaPolicy). not (transforms_fit authentication p)) (flat_map group_sa_in l);
  delay = greatest (flat_map (λ (w : GroupWidePolicy). w.deactivation_delays) (flat_map wide_of l));
  initial = greatest (flat_map given_by (flat_map group_sa_in l));
}
