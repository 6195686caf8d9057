use Rattle.std.proofs.Common.{sym, refl, ◌∙◌, arith, eq-eqb, ne_eqb}
use Rattle.state_keys.proofs.Sizes.{rekey-le}
use Rattle.state_sa.specs.Entry.{sa_sized}
use Rattle.state_sa.proofs.Laws.{sized-rekey}
use Rattle.state_sa.proofs.entry.Sa.is_sized.Goals as goal
use Rattle.state_sa.proofs.entry.Sa.is_sized.Goals.{then-self-ne-REKEY-via-then-self-ne-REKEY, then-self-ne-REKEY-via-else-self-ne-REKEY+then-not-are_sizes}

pub returns-then-self-eq-ESP : goal.returns-then-self-eq-ESP
unfolding sa_sized
returns-then-self-eq-ESP c = rw (eq-eqb _ _ c.if-self-eq-ESP.true) c.is_size.ensures

pub returns-then-self-ne-REKEY : goal.returns-then-self-ne-REKEY
unfolding sa_sized
returns-then-self-ne-REKEY c =
    elim c.then-self-ne-REKEY.branch [
      | then-self-ne-REKEY-via-then-self-ne-REKEY w ↦ rw (ne_eqb _ _ c.if-self-eq-ESP.false, ne_eqb _ _ w.if-self-ne-REKEY.true)
      | then-self-ne-REKEY-via-else-self-ne-REKEY+then-not-are_sizes w ↦
          rw
          (ne_eqb _ _ c.if-self-eq-ESP.false, eq-eqb _ _ w.if-self-ne-REKEY.false, sym w.are_sizes.ensures ∙ w.if-not-are_sizes.true)
    ]

pub overflow_add-result : goal.overflow_add-result
overflow_add-result c = let b = rekey-le _ _ (sym c.are_sizes.ensures ∙ c.if-not-are_sizes.false) in record { fits = omega arith }

pub returns : goal.returns
returns c =
    sized-rekey c.args.self _
    c.if-self-eq-ESP.false c.if-self-ne-REKEY.false
    (sym c.are_sizes.ensures ∙ c.if-not-are_sizes.false) refl
