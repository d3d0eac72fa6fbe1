-- `pieces::try_write_count` meets its contract.
-- Assumes nothing.
use Rattle.std.proofs.Common.{arith}
use Rattle.std.proofs.lemmas.Fmt.{length-decimal-le}
use Rattle.pieces.proofs.try_write_count.Goals as goal

pub overflow_add-digits_of : goal.overflow_add-digits_of
overflow_add-digits_of g c = omega (arith, c.digits_of.ensures, c.ranges.number.fits, length-decimal-le 10 c.args.number (omega (arith)) (omega (arith, c.ranges.number.fits)) (omega (arith, c.ranges.number.fits)))
