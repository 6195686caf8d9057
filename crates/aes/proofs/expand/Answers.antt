use Rattle.aes.proofs.Held.{encipher-boxed}
use borrow.Author.Rules.{rules}
use Rattle.aes.proofs.expand.Goals as goal

-- `aes::expand` meets its contract.

pub expand_words-words-requires : goal.expand_words-words-requires
expand_words-words-requires c = record {
  at_in_bounds = (search rules, encipher-boxed c.requires.tables_value);
  t = c.requires.t;
}
