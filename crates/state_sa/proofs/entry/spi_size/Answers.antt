use Rattle.std.proofs.Common.{arith, eq-eqb, ne_eqb}
use Rattle.state_sa.proofs.entry.spi_size.Goals as goal

pub returns-then-protocol-eq-ESP : goal.returns-then-protocol-eq-ESP
returns-then-protocol-eq-ESP c = let e = c.if-protocol-eq-ESP.true in (simp (eq-eqb _ _ e), omega arith)

pub returns-then-protocol-eq-REKEY : goal.returns-then-protocol-eq-REKEY
returns-then-protocol-eq-REKEY c = (simp (ne_eqb _ _ c.if-protocol-eq-ESP.false, eq-eqb _ _ c.if-protocol-eq-REKEY.true), omega arith)

pub returns : goal.returns
returns c = (simp (ne_eqb _ _ c.if-protocol-eq-ESP.false, ne_eqb _ _ c.if-protocol-eq-REKEY.false), omega arith)
