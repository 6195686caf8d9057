use mathlib.Core.Path.{sym, subst}
use Rattle.unwrap_sas.specs.inner.Policies.{IsBy}
use Rattle.unwrap_sas.proofs.Told.{of-conflict, of_none, of-key}
use Rattle.unwrap_sas.proofs.joining.one_sa.Goals as goal

pub returns-in-Conflict : goal.returns-in-Conflict
returns-in-Conflict c tick roots entries size f a o =
    let s = c.args in
    let r = c.one_without in
    subst (λ g. IsBy tick g r.result.sa r.result.openers roots entries size f a) (sym r.ensures)
    (of-conflict s.protocol s.spi.now s.encryption s.wrapping s.lifetime tick s.one roots entries size f a o
    c.in-Conflict.is)

pub returns-in-Nothing : goal.returns-in-Nothing
returns-in-Nothing c tick roots entries size f a o =
    let s = c.args in
    let r = c.one_without-in-Nothing in
    subst (λ g. IsBy tick g r.result.sa r.result.openers roots entries size f a) (sym r.ensures)
    (of_none s.protocol s.spi.now s.encryption s.wrapping s.lifetime tick s.one roots entries size f a o
    c.in-Nothing.is)

pub returns-in-Key : goal.returns-in-Key
returns-in-Key c tick roots entries size f a o =
    let s = c.args in
    of-key s.protocol s.spi.now s.encryption s.wrapping s.lifetime tick s.one roots entries size f a o
    c.in-Key.is c.sa_from-sa.result c.sa_from-sa.ensures
