-- `pieces::read` meets its contract.
-- Assumes nothing.
use Rattle.std.proofs.Common.{rules}
use Rattle.pieces.proofs.Filled.{piece-read}
use Rattle.pieces.proofs.read.Goals as goal

pub returns-clause-bytes : goal.returns-clause-bytes
returns-clause-bytes g c = piece-read _ _ _ c.fill.new.room c.fill-2.new.room _ _ _ _ (search rules) c.if-fill-lt4.false c.fill.ensures.bytes c.from_le_bytes-size.ensures (search rules) c.fill-2.ensures.bound c.fill-2.ensures.bytes
