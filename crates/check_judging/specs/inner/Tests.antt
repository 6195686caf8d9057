-- Numbers 4 to 7 as lists of tests over the facts of a frame, in the order in which document 01 names them.
use Rattle.std.specs.Prelude.{ℕ, ◌+◌, List, [], ◌∷◌, Bool, not, ◌&&◌, ◌||◌, ltb}
use Rattle.lists.specs.Lists.{any}
use Rattle.state_keys.specs.Limits.{Limits}
use Rattle.state_keys.specs.Algorithms.{is_wrapping_size}
use Rattle.state_sa.specs.declared.entry.Sa.{Sa}
use Rattle.wire_frames.specs.declared.exchanges.Exchange.{Exchange}
use Rattle.check_payloads.specs.declared.PayloadFacts.{PayloadFacts}
use Rattle.check_payloads.specs.declared.deletion.Deletes.{Deletes}
use Rattle.check_composition.specs.declared.PolicyFacts.{PolicyFacts}
use Rattle.check_bagkeys.specs.declared.BagFacts.{BagFacts}
use Rattle.check_pairing.specs.inner.Names.{Name, is_unpaired, is_announced}
use Rattle.check_judging.specs.declared.facts.Facts.{Facts}
use Rattle.check_judging.specs.declared.number4.Clauses4.{Clauses4}
use Rattle.check_judging.specs.declared.number5.Clauses5.{Clauses5}
use Rattle.check_judging.specs.declared.number6.Keys.{Keys}
use Rattle.check_judging.specs.declared.number7.Clauses7.{Clauses7}

-- an unknown critical payload, a barred Member bag, a barred D, two GSA, two KD, one without the other, neither; several Rekey policies,
-- group-wide policies, Member bags; a GSA with no SA policy; Key Length, GSA_INITIAL_MESSAGE_ID, the delay twice; the Rekey destination;
-- GSA_KEY_LIFETIME twice
abbrev pub number4_of : Exchange → PayloadFacts → PolicyFacts → BagFacts → List Bool
number4_of row b p k =
    b.critical ∷ (not row.allows_member_bag && ltb 0 k.members) ∷ (not row.allows_deletes && ltb 0 b.deletes)
    ∷ ltb 1 b.gsas ∷ ltb 1 b.kds
    ∷ (ltb 0 b.gsas && not (ltb 0 b.kds)) ∷ (ltb 0 b.kds && not (ltb 0 b.gsas))
    ∷ (not (ltb 0 b.gsas) && (not (ltb 0 b.kds) && not (row.allows_deletes && ltb 0 b.deletes)))
    ∷ ltb 1 p.rekeys ∷ ltb 1 p.wides ∷ ltb 1 k.members ∷ (ltb 0 b.gsas && not (ltb 0 p.sas))
    ∷ p.two_lengths ∷ p.two_message_ids ∷ p.two_delays ∷ p.elsewhere ∷ p.two_lifetimes ∷ []

-- an AH policy, an AH bag, other transforms, D of another protocol, D with count 0, a lent key of the wrong size (`lent` octets)
abbrev pub number5_of : Exchange → ℕ → Deletes → PolicyFacts → BagFacts → List Bool
number5_of row lent d p k = p.ah ∷ k.ah ∷ p.unfit ∷ d.other ∷ d.none ∷ (row.judges_lent_key && not (is_wrapping_size lent)) ∷ []

-- the SA_KEY count, an SA_KEY with a Key ID, one of ESP with a KWK ID, a WRAP_KEY without Key ID, one under its own Key ID; a fresh key
-- without Key ID, one under its own Key ID
abbrev pub keys_by : Exchange → BagFacts → List Bool
keys_by row k = ((k.keyless || k.several) || (not row.allows_copies && k.several_of_rekey)) ∷ k.named ∷ k.esp_with_kwk_id
    ∷ k.unnamed ∷
    k.itself ∷ k.fresh_unnamed ∷ k.fresh_itself ∷ []

-- policies with the names `l` and bags with the names `m` not paired one to one, a policy's name already in the table, and the keys
abbrev pub number6_of : Exchange → BagFacts → List Name → List Name → ℕ → List Sa → List Bool
number6_of row k l m now sas = any (is_unpaired m) l ∷ any (is_unpaired l) m ∷ any (is_announced now l) sas ∷ keys_by row k

-- too many ESP policies, WRAP_KEYs, SA_KEYs in a bag or deleted SPIs, too long a lifetime, too many fresh keys, too many SAs after the
-- frame
abbrev pub number7_of : Limits → Deletes → PolicyFacts → BagFacts → ℕ → List Bool
number7_of limits d p k standing =
    ltb limits.esp_policies p.esps ∷ ltb limits.wrap_keys k.wraps ∷ k.overfull ∷ ltb limits.deleted_spis d.spis
    ∷ p.long ∷ ltb limits.fresh_keys k.fresh ∷ ltb limits.sas (standing + p.sas) ∷ []

-- ---- over the facts of a frame
abbrev pub number4_by : Exchange → Facts → List Bool
number4_by row x = number4_of row x.payloads x.policies x.bags

abbrev pub number5_by : Exchange → ℕ → Facts → List Bool
number5_by row lent x = number5_of row lent x.payloads.deletion x.policies x.bags

abbrev pub number6_by : Exchange → Facts → List Name → List Name → ℕ → List Sa → List Bool
number6_by row x l m now sas = number6_of row x.bags l m now sas

abbrev pub number7_by : Limits → Facts → ℕ → List Bool
number7_by limits x standing = number7_of limits x.payloads.deletion x.policies x.bags standing

-- ---- the clauses that the code names one by one, as such lists
abbrev pub number4_in : Clauses4 → List Bool
number4_in c =
    c.critical ∷ c.member_bag ∷ c.delete ∷ c.two_gsa ∷ c.two_kd ∷ c.gsa_alone ∷ c.kd_alone ∷ c.neither ∷ c.rekeys
    ∷ c.wides
    ∷ c.members ∷ c.no_sa ∷ c.two_lengths ∷ c.two_message_ids ∷ c.two_delays ∷ c.elsewhere ∷ c.two_lifetimes ∷ []

abbrev pub number5_in : Clauses5 → List Bool
number5_in c = c.ah_policy ∷ c.ah_bag ∷ c.unfit ∷ c.other ∷ c.none ∷ c.key ∷ []

abbrev pub keys_in : Keys → List Bool
keys_in c = c.count ∷ c.named ∷ c.esp_with_kwk_id ∷ c.unnamed ∷ c.itself ∷ c.fresh_unnamed ∷ c.fresh_itself ∷ []

abbrev pub number7_in : Clauses7 → List Bool
number7_in c = c.esps ∷ c.wraps ∷ c.overfull ∷ c.spis ∷ c.long ∷ c.fresh ∷ c.sas ∷ []
