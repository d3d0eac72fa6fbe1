-- `listing::bundle::little` meets its contract.
-- Assumes nothing.
use Rattle.std.proofs.Common.{arith}
use Rattle.listing.specs.Bundle.{little}
use Rattle.listing.proofs.bundle.little.Goals as goal

pub returns : goal.returns
unfolding little
returns c = omega (arith, c.from_le_bytes.ensures)
