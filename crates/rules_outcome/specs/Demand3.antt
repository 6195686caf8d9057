-- DEMAND 3 OF A FRAME: the vocabulary of the theorem `demand-3` (proofs/Demand3.antt). No contract cites this file.
use Rattle.std.specs.Prelude.{ℕ, ◌≤◌, ◌<◌, ◌≡◌, true, not, ◌⊎◌, ◌↔◌, List, [], ◌∷◌, ◌++◌, length}
use Rattle.rfc5649.specs.Opens as rfc5649
use Rattle.ikev2_numbers.specs.Codes.{gsa_rekey}
use Rattle.lists.specs.Lists.{keep}
use Rattle.state_keys.specs.Limits.{Limits}
use Rattle.state_keys.specs.Kinds.{value_of, wrapping_of}
use Rattle.wire_policies.specs.Policy.{GroupSaPolicy}
use Rattle.wire_frames.specs.Frame.{Frame}
use Rattle.state_sa.specs.declared.entry.Sa.{Sa}
use Rattle.state_table.specs.Table.{sas_of}
use Rattle.state.specs.declared.State.{State}
use Rattle.state.specs.declared.held.HeldKey.{HeldKey}
use Rattle.state.specs.declared.held.Held.{Held}
use Rattle.state.specs.declared.least.Least.{Least}
use Rattle.state.specs.Held.{keys_of, ids_of, distinct}
use Rattle.state.specs.State.{state_formed}
use Rattle.wire_attributes.specs.Tree.{SaKey, WrapKey}
use Rattle.wire_policies.specs.Policy.{group_sa}
use Rattle.wire_bags.specs.Bag.{group_keys, GroupKeyBag}
use Rattle.rules_refusals.specs.Contents.{announced, group_bags, wrap_keys_of, fresh_keys_of}
use Rattle.rules_chains.specs.Chain.{In, Root, Chain}
use Rattle.rules_chains.specs.Path.{key_ids, start_id, NotAfter}
use Rattle.rules_outcome.specs.Roots.{own_key_of, need_of}
use Rattle.rules_outcome.specs.Holding.{on_path, OverHeldOf}
use Rattle.rules_outcome.specs.After.{sa_from}
use Rattle.rules_outcome.specs.NamedKey.{Registration, Inband, lent_root, Given, Carries, InOwnBag, fresh_roots}
use Rattle.rules_outcome.specs.NamedKey.{FreshGiven, OpensUnder}
use Rattle.rules_outcome.specs.Meets.{Meets}
use Rattle.rules_outcome.specs.Stands.{HasPolicy, HasBag, HasWrapKey, HasFreshKey}
use Rattle.rules_outcome.specs.AskedSays.{AskedSays}
use Rattle.rules_outcome.specs.RestSays.{NewRekey, NoNewRekey, LeastAs, OldSa}

-- ---- chains that open the key of a Rekey SA which the frame announces. The exchange says where they start, over which entries they go and
-- which size their keys have
module _ (roots : List Root) (entries : List WrapKey) (size : ℕ) (f : Frame) where
  -- "the chain that opens the Rekey SA's SA_KEY": it passed these entries, the last one first, and ends on the key that the SA_KEY names
  pub record OpensRekeyKey (passed : List WrapKey) : Type 0 where
    pub policy : GroupSaPolicy
    pub new : NewRekey f policy
    pub copy : SaKey
    pub own : InOwnBag f policy copy
    pub value : List ℕ
    pub chain : Chain roots entries size passed copy.kwk_id value
    pub octets : List ℕ
    pub opens : rfc5649.Opens value copy.wrapped octets

  -- the Key ID of the key with which it started
  abbrev pub starts_with : {passed : List WrapKey} → OpensRekeyKey passed → ℕ
  starts_with {passed} o = start_id o.copy.kwk_id passed

  -- such a chain is the path, and starts with key `end`
  pub record PathOf (passed : List WrapKey) (end : ℕ) : Type 0 where
    pub opens : OpensRekeyKey passed
    pub ends : starts_with opens ≡ end
    -- "If several chains do, take the one with fewest keys"
    pub fewest : (other : List WrapKey) → OpensRekeyKey other → length passed ≤ length other
    -- "among these, the smallest when their Key ID lists are compared number by number"
    pub smallest : (other : List WrapKey) → OpensRekeyKey other → length other ≡ length passed → NotAfter (key_ids passed) (key_ids other)
    -- "equal paths are chosen by the smaller Key ID they end on, the default key being 0" (document 02, T-11)
    pub lowest : (other : List WrapKey) (o : OpensRekeyKey other) → key_ids other ≡ key_ids passed → end ≤ starts_with o

-- ---- the held list after an accepted registration: document 02, T-04
module _ (lent : List ℕ) (f : Frame) where
  -- a chain from the lent default key over WRAP_KEYs
  abbrev pub OpensByWrapKeys : List WrapKey → Type 0
  OpensByWrapKeys passed = OpensRekeyKey (lent_root lent) (wrap_keys_of f) (length lent) f passed

  -- list `h` is such a chain
  pub record HeldPath (h : Held) : Type 0 where
    pub passed : List WrapKey
    pub path : PathOf (lent_root lent) (wrap_keys_of f) (length lent) f passed 0
    -- "written from the key that opens it back towards the default key, which is not listed"
    pub written : ids_of (keys_of h) ≡ key_ids passed

  pub record HeldAfter (h : Held) : Type 0 where
    -- "Demand 3 then says that the list is this path, and exists when a chain does"
    pub path : (passed : List WrapKey) → OpensByWrapKeys passed → HeldPath h
    -- "No Rekey SA, or one opened by the default key: empty". With a Rekey SA there is a chain that opens its key
    pub no-rekey-sa : NoNewRekey f → keys_of h ≡ []
    pub by-default-key : OpensByWrapKeys [] → keys_of h ≡ []
    pub opened : (p : GroupSaPolicy) → NewRekey f p → (passed : List WrapKey) × OpensByWrapKeys passed
    -- "A member's Key IDs are then distinct"
    pub once : distinct (ids_of (keys_of h)) ≡ true
    -- each "with the value that every chain ending on it gives", of the size that a wrapping key needs
    pub only : (k : HeldKey) → In k (keys_of h) → (x : List ℕ) × Given lent f k.id x
    pub value : (k : HeldKey) → In k (keys_of h) → (x : List ℕ) → Given lent f k.id x → k.key ≡ wrapping_of x
    pub octets : (k : HeldKey) → In k (keys_of h) → (x : List ℕ) → Given lent f k.id x → value_of k.key ≡ x
    pub fits : (i : ℕ) (x : List ℕ) → Given lent f i x → length x ≡ length lent

-- ---- the held list after an accepted rekey over the Rekey SA: document 02, T-11
module _ (limits : Limits) (s : State) (now : ℕ) (lent : List ℕ) (f : Frame) where
  -- a chain from key 0 or a held key not carried, over fresh tree keys
  abbrev pub OpensByFresh : List WrapKey → Type 0
  OpensByFresh passed = OpensRekeyKey (fresh_roots limits s now lent f) (fresh_keys_of f) (length (own_key_of limits s now)) f passed

  -- the keys `path` are those of the path, which ends on key `end`
  pub record FreshPath (path : List HeldKey) (end : ℕ) : Type 0 where
    pub passed : List WrapKey
    pub is : PathOf (fresh_roots limits s now lent f) (fresh_keys_of f) (length (own_key_of limits s now)) f passed end
    pub written : ids_of path ≡ key_ids passed
    -- each with the value that every chain ending on it gives
    pub only : (k : HeldKey) → In k path → (x : List ℕ) × FreshGiven limits s now lent f k.id x
    pub value : (k : HeldKey) → In k path → (x : List ℕ) → FreshGiven limits s now lent f k.id x → k.key ≡ wrapping_of x
    pub octets : (k : HeldKey) → In k path → (x : List ℕ) → FreshGiven limits s now lent f k.id x → value_of k.key ≡ x

  -- list `h` follows the list `old` that the frame found
  pub data HeldByFresh (old h : Held) : Type 0 where
    -- "an empty fresh path changes nothing"
    nothing-changes : (end : ℕ) → FreshPath [] end → h ≡ old → HeldByFresh old h
    -- "A fresh path that ends on the default key is the whole list"
    to-default-key : (path : List HeldKey) → FreshPath path 0 → 1 ≤ length path → keys_of h ≡ path → HeldByFresh old h
    -- "the fresh path goes before the held key it ends on; held keys ahead of that one go, and so does any held key whose ID the fresh path
    -- has; the others behind it stay"
    to-held-key : (path : List HeldKey) (end : ℕ) → FreshPath path end → 1 ≤ length path → (ahead : List HeldKey) (key : HeldKey)
        (behind : List HeldKey) → keys_of old ≡ ahead ++ (key ∷ behind) → key.id ≡ end → (Carries f end → ⊥) →
        keys_of h ≡ path ++ (key ∷ keep (λ (k : HeldKey). not (on_path path k)) behind) →
        HeldByFresh old h

  pub record HeldAfterRekey (old h : Held) : Type 0 where
    pub no-rekey-sa : NoNewRekey f → h ≡ old
    pub path : (p : GroupSaPolicy) → NewRekey f p → HeldByFresh old h
    -- a copy under key 0 or a held key not carried: "an empty fresh path changes nothing"
    pub by-old-key : OpensByFresh [] → h ≡ old
    pub opened : (p : GroupSaPolicy) → NewRekey f p → (passed : List WrapKey) × OpensByFresh passed
    -- "A fresh key has the size of the live Rekey SA's default key."
    pub fits : (i : ℕ) (x : List ℕ) → FreshGiven limits s now lent f i x → length x ≡ length (own_key_of limits s now)

-- announced SAs in a frame handed in at tick `now`: `Opens` says to which octets a copy of an SA's key opens
module _ (now : ℕ) (Opens : GroupSaPolicy → List ℕ → Type 0) where
  -- the SA of policy `a` stands in `l`. Every copy of its key that opens gives its octets, as many as the policy needs
  pub record NewBy (l : List Sa) (a : GroupSaPolicy) : Type 0 where
    pub octets : List ℕ
    pub opens : Opens a octets
    pub every : (y : List ℕ) → Opens a y → y ≡ octets
    pub fits : length octets ≡ need_of a
    pub stands : In (sa_from now a octets) l

  -- `b` is the SA of a policy of frame `f`. Every copy of its key that opens gives its octets, as many as the policy needs
  pub record EnteredBy (f : Frame) (b : Sa) : Type 0 where
    pub policy : GroupSaPolicy
    pub stands : In policy (announced f)
    pub octets : List ℕ
    pub opens : Opens policy octets
    pub every : (y : List ℕ) → Opens policy y → y ≡ octets
    pub fits : length octets ≡ need_of policy
    pub is : b ≡ sa_from now policy octets

module _ (limits : Limits) (s : State) (now : ℕ) (lent : List ℕ) (f : Frame) where
  -- "a copy of its key that opens under the key its KWK ID names, be it key 0, the last key of such a chain or, in a rekey, a key the
  -- member held"; "held keys, in demand 3 too, are for GSA_REKEY only" (T-02)
  abbrev pub Copy : GroupSaPolicy → Type 0
  Copy a = (x : List ℕ) × OpensUnder limits s now lent f a x

  -- the SA of policy `p` stands in the table of `next`. Every copy of its key that opens gives its octets, as many as the policy needs
  abbrev pub Standing : State → GroupSaPolicy → Type 0
  Standing next p = NewBy now (OpensUnder limits s now lent f) (sas_of next.table) p

  -- `b` is the SA of a policy of the frame, with such octets
  abbrev pub Entered : Sa → Type 0
  Entered b = EnteredBy now (OpensUnder limits s now lent f) f b

  abbrev pub EachSaOpens : Type 0
  EachSaOpens = (a : GroupSaPolicy) → In a (announced f) → Copy a

  abbrev pub OneMissing : Type 0
  OneMissing = (a : GroupSaPolicy) × In a (announced f) × (Copy a → ⊥)

  -- "is accepted exactly when each SA it announces has a copy of its key that opens under the key its KWK ID names ..; otherwise it is
  -- refused as number 9". "Over 128 then is 7, judged after 9" (document 02, T-11)
  pub record Judged9 (n : ℕ) : Type 0 where
    pub one_of_three : (n ≡ 0) ⊎ (n ≡ 9) ⊎ (n ≡ 7)
    pub accepted : (n ≡ 0) ↔ (EachSaOpens × (OverHeldOf limits s now lent f → ⊥))
    pub refused : (n ≡ 9) ↔ OneMissing
    pub over : (n ≡ 7) ↔ ((OneMissing → ⊥) × OverHeldOf limits s now lent f)

  -- "wherever the entries stand in the frame": the SAs, bags and entries that are judged are all of the frame, and no others
  pub record AllOfFrame : Type 0 where
    pub policies : (p : GroupSaPolicy) → In p (announced f) ↔ HasPolicy f (group_sa p)
    pub bags : (b : GroupKeyBag) → In b (group_bags f) ↔ HasBag f (group_keys b)
    pub entries : (e : WrapKey) → In e (wrap_keys_of f) ↔ HasWrapKey f e
    -- "in the Rekey SA's Group Key Bag" (document 02, T-11): protocol 6
    pub fresh : (e : WrapKey) → In e (fresh_keys_of f) ↔ HasFreshKey f e
    pub fresh-bags : (b : GroupKeyBag) → In b (group_bags f) → (e : WrapKey) → In e b.fresh → b.protocol ≡ 6

  -- "On acceptance"
  pub record OnAcceptance (next : State) : Type 0 where
    -- "After a registration the held list is now the chain that opens the Rekey SA's SA_KEY" (document 02, T-04), "wherever the entries
    -- stand in the frame"
    pub held : Registration f → HeldAfter lent f next.held
    -- "each of those SAs stands in the table as document 01 enters it, with the octets that every such copy opens to"
    pub stands : (p : GroupSaPolicy) → In p (announced f) → Standing next p
    -- "as document 01 enters it": what a question about it finds
    pub asked : (p : GroupSaPolicy) → In p (announced f) → AskedSays limits s now lent f next p
    -- "and the rest of the member is as that document leaves it": the table has these SAs and the old ones that are not due, an in-band
    -- rekey leaves the held list, and the least Message ID
    pub table : (b : Sa) → In b (sas_of next.table) ↔ (Entered b ⊎ OldSa f s now b)
    pub kept : Inband f → next.held ≡ s.held
    -- "Demand 3 covers such rekeys under these rules" (document 02, T-11)
    pub fresh : f.header.exchange ≡ gsa_rekey → HeldAfterRekey limits s now lent f s.held next.held
    pub least : (l : Least) → (next.least ≡ l) ↔ LeastAs f s.least l
    -- the table rises, and the table and the held list are within their limits
    pub is-formed : state_formed limits next ≡ true

  -- THE DEMAND, of the answer's number and the member afterwards
  pub record Demand3 (octets : List ℕ) (n : ℕ) (next : State) : Type 1 where
    pub all : AllOfFrame
    -- "A frame that meets none of refusals 1 to 8"
    pub judged : ((m : ℕ) → m < 9 → Meets limits s now lent octets m → ⊥) → Judged9 n
    pub after : n ≡ 0 → OnAcceptance next
