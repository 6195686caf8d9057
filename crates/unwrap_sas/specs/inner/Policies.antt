-- What is known of one policy of a frame, and of its copies.
use Rattle.std.specs.Prelude.{ℕ, ◌+◌, ◌≤◌, ◌<◌, ◌≡◌, Bool, true, false, List, length}
use Rattle.octets.specs.Walk.{part}
use Rattle.state_keys.specs.Limits.{limits}
use Rattle.state_keys.specs.Algorithms.{is_encryption_size}
use Rattle.state_keys.specs.Kinds.{rekey_sizes, value_of}
use Rattle.wire_attributes.specs.Place.{in_policy}
use Rattle.wire_attributes.specs.Tree.{WrapKey, key_lifetimes}
use Rattle.wire_policies.specs.Policy.{spi_size, GroupSaPolicy, SaBody}
use Rattle.wire_frames.specs.Frame.{Frame}
use Rattle.state_sa.specs.declared.entry.Lifetime.{Lifetime}
use Rattle.state_sa.specs.declared.entry.Sa.{Sa}
use Rattle.aes.specs.inner.Tables.{decipher_tables}
use Rattle.aes.specs.inner.Schedule.{ExpandsInverse, ExpandedInverse}
use Rattle.wire_bags.specs.Bag.{bags}
use Rattle.wire_readers.specs.inner.Values.{is_whole}
use Rattle.wire_policies.specs.Grammar.{IsSaBody}
use Rattle.wire_readers.specs.inner.Bags.{bags_in}
use Rattle.wire_readers.specs.declared.policy.Parts.{Parts}
use Rattle.lists.specs.Lists.{any}
use Rattle.state_keys.specs.declared.kinds.WrappingKey.{WrappingKey}
use Rattle.state.specs.declared.held.HeldKey.{HeldKey}
use Rattle.unwrap_copies.specs.inner.Known.{Agrees}
use Rattle.unwrap_lending.specs.inner.Lending.{LendsTwo}
use Rattle.unwrap_copies.specs.declared.answer.CopyFound.{CopyFound}
use Rattle.unwrap_copies.specs.declared.answer.CopyFound.TheVariants as copied
use Rattle.rules_refusals.specs.Contents.{row_of, several, bags_of}
use Rattle.rules_refusals.specs.Number4.{twice_in_transform}
use Rattle.rules_refusals.specs.Number6.{bags_named}
use Rattle.rules_refusals.specs.Fitness.{encryption_octets, key_wrap_octets, transforms_fit}
use Rattle.rules_chains.specs.Chain.{Root, CopyOpens}
use Rattle.rules_chains.specs.Refusals.{CopiesConflict, KeyOf}
use Rattle.unwrap_copies.specs.inner.Openers.{openers_of, OpenersAre, CopiesAnswer}
use Rattle.unwrap_copies.specs.declared.answer.Openers.{Openers}
use Rattle.unwrap_copies.specs.declared.answer.Copied.{Copied}
use Rattle.rules_outcome.specs.Roots.{copies_of, announced_as}
use Rattle.rules_outcome.specs.After.{lifetime_from, sa_from}
use Rattle.unwrap_sas.specs.declared.joining.One.{One}

-- ---- of one policy, by its copies
abbrev pub SaPredicate : Type 1
SaPredicate = List Root → List WrapKey → ℕ → Frame → GroupSaPolicy → Type 0

-- number 8 holds of the copies of policy a
abbrev pub IsConflict : SaPredicate
IsConflict roots entries size f a = CopiesConflict roots entries size (announced_as f a)

-- no copy of policy a opens
abbrev pub IsUnopened : SaPredicate
IsUnopened roots entries size f a = (x : List ℕ) → CopyOpens roots entries size (copies_of f a) x → ⊥

-- the copies of policy a give its key, without a conflict, `sa` is its SA from `tick` on, and `openers` lists the copies that open
pub record IsSa (tick : ℕ) (sa : Sa) (openers : Openers) (roots : List Root) (entries : List WrapKey) (size : ℕ) (f : Frame)
    (a : GroupSaPolicy) : Type 0 where
  pub x : List ℕ
  pub key : KeyOf roots entries size (announced_as f a) x
  pub fit : CopiesConflict roots entries size (announced_as f a) → ⊥
  pub is : sa ≡ sa_from tick a x
  pub opened : length (copies_of f a) ≤ limits.sa_keys → OpenersAre roots entries size (copies_of f a) (openers_of openers)

-- what each result says of policy a: number 8 holds of its copies, none of them opens, or `sa` is its SA
abbrev pub IsBy : ℕ → CopyFound → Sa → Openers → SaPredicate
IsBy tick copied.Conflict sa openers roots entries size f a = IsConflict roots entries size f a
IsBy tick copied.Nothing sa openers roots entries size f a = IsUnopened roots entries size f a
IsBy tick copied.Key sa openers roots entries size f a = IsSa tick sa openers roots entries size f a

abbrev pub IsOne : ℕ → One → SaPredicate
IsOne tick r roots entries size f a = IsBy tick r.found r.sa r.openers roots entries size f a

-- the SPI has the size of its protocol; `encryption` and `wrapping` are sizes that the two parts of its SA's keying octets can have
pub record Sized (protocol : ℕ) (spi : List ℕ) (encryption wrapping : ℕ) : Type 0 where
  pub esp : protocol ≡ 3 → (length spi ≡ 4) × (is_encryption_size encryption ≡ true) × (wrapping ≡ 0)
  pub rekey : (protocol ≡ 3 → ⊥) → (length spi ≡ 16) × (rekey_sizes encryption wrapping ≡ true)

-- policy a has this protocol and SPI, its transforms need `encryption` and `wrapping` octets, and its SA has this lifetime from `tick`
-- on
pub record PolicyGives (protocol : ℕ) (spi : List ℕ) (encryption wrapping : ℕ) (lifetime : Lifetime) (tick : ℕ) (a : GroupSaPolicy) : Type
    0 where
  pub protocol-is : a.protocol ≡ protocol
  pub spi-is : a.spi ≡ spi
  pub encryption-is : encryption_octets a ≡ encryption
  pub wrapping-is : key_wrap_octets a ≡ wrapping
  pub lifetime-is : lifetime_from tick a.key_lifetimes ≡ lifetime

-- such a policy, whose copies open to `one`
pub record IsOpened (protocol : ℕ) (spi : List ℕ) (encryption wrapping : ℕ) (lifetime : Lifetime) (tick : ℕ) (one : Copied)
    (roots : List Root) (entries : List WrapKey) (size : ℕ) (f : Frame) (a : GroupSaPolicy) : Type 0 where
  pub name : PolicyGives protocol spi encryption wrapping lifetime tick a
  pub answers : CopiesAnswer roots entries size (announced_as f a) one

-- ---- where a policy and its bag stand
-- the SPI of the policy that starts at `at` of the GSA body g and has the parts p
abbrev pub spi_at : List ℕ → ℕ → Parts → List ℕ
spi_at g at p = part g (at + 4) (at + p.body)

-- what such a policy holds after its SPI
abbrev pub body_at : List ℕ → ℕ → Parts → List ℕ
body_at g at p = part g (at + p.body) (at + p.end)

-- such a policy stands inside the GSA body
pub record PolicyStandsAt (g : List ℕ) (at : ℕ) (p : Parts) : Type 0 where
  pub head : 4 ≤ p.body
  pub order : p.body ≤ p.end
  pub inside : at + p.end ≤ length g
  pub small : length (body_at g at p) < 65536

-- the KD body is whole, the tables and the schedule are those of some key, and keys are lent
pub record OpensBy (reads : Bool) (kd tables schedule carried fresh ids block : List ℕ) : Type 0 where
  pub whole : is_whole (bags reads 0 kd) ≡ true
  pub tables-is : tables ≡ decipher_tables
  pub expanded : ExpandedInverse schedule
  pub lends : (new : List HeldKey) × (old : List HeldKey) × LendsTwo new old carried fresh ids block

-- chains end on exactly key 0 and the keys that are lent: `schedule` is that of key 0; `carried` and `fresh` lend the frame's own keys,
-- `ids` and `block` the held ones
pub record OpeningKeys (schedule carried fresh ids block : List ℕ) (roots : List Root) (entries : List WrapKey) (size : ℕ) : Type 0 where
  pub zero : WrappingKey
  pub new : List HeldKey
  pub old : List HeldKey
  pub expands : ExpandsInverse (value_of zero) schedule
  pub lends : LendsTwo new old carried fresh ids block
  pub agrees : Agrees roots entries size zero new old

-- the lifetimes of a Group SA policy of this protocol; x is what the policy holds after its SPI
abbrev pub lifetimes_of : ℕ → SaBody → List ℕ
lifetimes_of protocol x = key_lifetimes (in_policy protocol) x.suite.attributes

-- policy a has this protocol and SPI and holds x after its SPI; numbers 4 to 6 do not apply to it, and its one bag stands in the KD
-- body k
pub record Announces (reads : Bool) (k : List ℕ) (protocol : ℕ) (spi x : List ℕ) (f : Frame) (a : GroupSaPolicy) : Type 0 where
  pub protocol-is : a.protocol ≡ protocol
  pub spi-is : a.spi ≡ spi
  pub spi-size : length spi ≡ spi_size protocol
  pub body : SaBody
  pub is : IsSaBody (in_policy protocol) x body
  pub transforms : a.transforms ≡ body.suite.transforms
  pub fits : transforms_fit (row_of f).authentication a ≡ true
  pub once : any twice_in_transform a.transforms ≡ false
  pub lifetimes : a.key_lifetimes ≡ lifetimes_of protocol body
  pub lasting : several a.key_lifetimes ≡ false
  pub bags : bags_of f ≡ bags_in reads k
  pub paired : bags_named f a.protocol a.spi ≡ 1

-- such a policy, and the keys under which its copies are opened: key 0 and the keys that are lent
pub record IsAnnounced (reads : Bool) (k : List ℕ) (protocol : ℕ) (spi x : List ℕ) (schedule carried fresh ids block : List ℕ)
    (roots : List Root) (entries : List WrapKey) (size : ℕ) (f : Frame) (a : GroupSaPolicy) : Type 0 where
  pub opening : OpeningKeys schedule carried fresh ids block roots entries size
  pub stands : Announces reads k protocol spi x f a
