use mathlib.Core.Path.{◌≡◌}
use lib.ListN.{length}
use Rattle.ikev2_numbers.specs.Codes.{rekey_spi_octets}
use Rattle.lists.proofs.Lists.{length-of-map}
use Rattle.fragments.proofs.HeaderLaws.{header_is}
use borrow.Author.Rules.{rules}
use Rattle.fragments.proofs.Collection.make_header.Goals as goal

pub returns : goal.returns
returns c =
    let a = c.args in
    let l : length a.self.spis ≡ rekey_spi_octets = search (rules, length-of-map) in
    header_is a.self.spis l a.self.next a.self.version a.self.flags a.self.id a.size c.octets_of-i.ensures
    c.octets_of-z.ensures
