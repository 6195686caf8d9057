use mathlib.Core.Path.{sym}
use Rattle.octets.proofs.Walks.{to_end}
use Rattle.wire_attributes.specs.Tree.{sa_key_of}
use Rattle.unwrap_copies.proofs.Trying.{tried-none, tried-under}
use Rattle.unwrap_copies.proofs.try_copy.Goals as goal

-- `unwrap_copies::try_copy` meets its contract.

pub returns-in-Some : goal.returns-in-Some
returns-in-Some c v new old k e =
    let s = c.args.copy.now in
    let x = k.known c.in-Some.schedule c.in-Some.is in
    tried-under v new old (sa_key_of s) c.args.need c.open_copy.result x.0 _
    (sym (to_end s 8)) (x.2 (sa_key_of s) e) (c.open_copy.ensures x.0 x.1)

pub returns-in-None : goal.returns-in-None
returns-in-None c v new old k e =
    let s = c.args.copy.now in
    tried-none v new old (sa_key_of s) c.args.need c.nothing.result
    (k.none c.in-None.is (sa_key_of s) e) c.nothing.ensures
