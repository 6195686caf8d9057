use Rattle.std.proofs.Common.{rules}
use Rattle.vectors.proofs.KeySizes.{is-16, is-24, is_32}
use Rattle.vectors.proofs.random.print_sized.Goals as goal

-- `vectors::random::print_sized` is safe and ends: its keys have 16, 24 or 32 octets.

pub print_blocks-requires : goal.print_blocks-requires
print_blocks-requires g c = is-16 _ (search rules)

pub print_blocks-requires-then-kind-eq1 : goal.print_blocks-requires-then-kind-eq1
print_blocks-requires-then-kind-eq1 g c = is-24 _ (search rules)

pub print_blocks-requires-else-kind-eq1 : goal.print_blocks-requires-else-kind-eq1
print_blocks-requires-else-kind-eq1 g c = is_32 _ (search rules)
