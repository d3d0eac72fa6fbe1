use Rattle.std.proofs.Common.{arith}
use Rattle.types.proofs.lits.bits.Goals as goal

pub returns-in-Minus : goal.returns-in-Minus
returns-in-Minus c = rw c.in-Minus.is (omega arith)
