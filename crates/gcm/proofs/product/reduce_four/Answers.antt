use Rattle.gcm.proofs.DigitLaws.{fallen-is, fallen-small}
use Rattle.gcm.proofs.product.reduce_four.Goals as goal

-- `gcm::product::reduce_four` meets its contract.

pub overflow_mul-result-4 : goal.overflow_mul-result-4
overflow_mul-result-4 c = record { fits = fallen-small c.args.d c.requires }

pub returns : goal.returns
returns c = fallen-is c.args.d c.requires
