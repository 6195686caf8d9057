-- KEY 0 OF A REKEY in a run from the new member: no premise on the octets of an SA is left, since each member of the run is blank in its
-- unused places.
use native.Mathlib.Omega.{arith}
use Prim.Native.Nat.{ℕ, ◌-◌, ◌≤◌}
use mathlib.Core.Path.{ap, sym, subst}
use mathlib.Core.Bool.{Bool}
use mathlib.Core.Logic.{⊎_elim}
use mathlib.Core.List.Memᴰ
use mathlib.Core.List.{List, [], ◌∷◌, Memᴰ}
use lib.ListN.{length, take, replicate, length-append, length-replicate}
use Rattle.state_keys.specs.Limits.{limits}
use Rattle.state_sa.specs.Blank.{ZeroPadded}
use Rattle.state_sa.specs.declared.entry.Sa.{Sa}
use Rattle.state_table.specs.Table.{sas_of}
use Rattle.state_table.specs.Blank.{AllBlank, one_more}
use Rattle.state.specs.declared.State.{State}
use Rattle.state.specs.State.{new_state}
use Rattle.state.specs.Blank.{StateBlank}
use Rattle.rules_chains.proofs.Members.{in-member}
use Rattle.rules_outcome.specs.NamedKey.{ZeroOfRekeys}
use Rattle.rules_outcome.specs.Run.{Event, Run, Throughout}
use Rattle.rules_outcome.proofs.Runs.{each_of, members-blank}
use Rattle.rules_outcome.proofs.KeyZero.{key-zero-of-rekey}

-- an SA that is blank in its unused places has 68 octets or more
blank-long : (b : Sa) → ZeroPadded b → 68 ≤ length b.octets
blank-long b k =
    let x = take b.count b.octets in
    let n = length-append x (replicate (68 - length x) 0) in
    let r = length-replicate {A = ℕ} (68 - length x) 0 in
    omega (arith, ap length k.octets, n, r)

head-blank : {s : Sa} {l : List Sa} → AllBlank (s ∷ l) → ZeroPadded s
head-blank (one_more b r) = b

rest-blank : {s : Sa} {l : List Sa} → AllBlank (s ∷ l) → AllBlank l
rest-blank (one_more b r) = r

each-blank : (l : List Sa) → AllBlank l → (b : Sa) → Memᴰ b l → ZeroPadded b
each-blank [] k b m = absurd (Memᴰ.not-nil m)
each-blank (a ∷ l) k b m =
    ⊎_elim (λ q. subst ZeroPadded (sym q) (head-blank k)) (λ i. each-blank l (rest-blank k) b i) (Memᴰ.cases_cons m)

blank-zero : (s : State) → StateBlank limits s → ZeroOfRekeys limits s
blank-zero s k now lent octets f e x no-2 =
    key-zero-of-rekey limits s now lent octets f e x no-2
    (λ b m. blank-long b (each-blank (sas_of s.table) k.table.each b (in-member b (sas_of s.table) m)))

-- THE CLAIM
pub key-zero-in-runs : (profile : Bool) {e : State} {l : List Event} (r : Run limits (new_state limits profile) l e) →
    Throughout limits (ZeroOfRekeys limits) r
key-zero-in-runs profile r = each_of limits (StateBlank limits) (ZeroOfRekeys limits) blank-zero r (members-blank profile r)
