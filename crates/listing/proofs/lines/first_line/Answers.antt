-- `listing::lines::first_line` meets its contract.
-- Assumes nothing.
use Rattle.listing.proofs.LineWays as ways
use Rattle.listing.proofs.lines.first_line.Goals as goal

pub returns : goal.returns
returns c = ways.first-line _ _ _ _ c.put_bytes.ensures c.put_field.ensures c.put_bytes-2.ensures c.put_field-2.ensures c.put_bytes-3.ensures c.put_field-3.ensures c.put_byte.ensures
