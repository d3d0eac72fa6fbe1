-- `listing::lines::put_field` meets its contract.
-- Assumes nothing.
use Rattle.listing.proofs.Written as ways
use Rattle.listing.proofs.lines.put_field.Goals as goal

pub returns : goal.returns
returns c = ways.field _ _ c.put_byte.ensures (rw c.from.ensures at c.put_number.ensures)
