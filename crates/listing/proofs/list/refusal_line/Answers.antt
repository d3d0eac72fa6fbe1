-- `listing::list::refusal_line` meets its contract.
-- Assumes nothing.
use Rattle.listing.proofs.LineWays as ways
use Rattle.listing.proofs.list.refusal_line.Goals as goal

pub returns : goal.returns
returns c = ways.refusal-line _ _ c.put_bytes.ensures (rw c.from.ensures at c.put_number.ensures) c.put_byte.ensures
