use Rattle.check_bagkeys.proofs.wrapped.with_key.Goals as goal

pub returns : goal.returns
returns c =
    rw (c.be32_at-id.ensures, c.be32_at-kwk.ensures)
