-- `listing::lines::node_line` meets its contract.
-- Assumes nothing.
use Rattle.listing.proofs.LineWays as ways
use Rattle.listing.proofs.lines.node_line.Goals as goal

pub returns : goal.returns
returns c = ways.node-line _ _ _ _ c.record_place.ensures (rw c.from.ensures at c.put_number.ensures) c.put_named.ensures c.put_field.ensures c.put_field-2.ensures c.put_detail.ensures c.put_byte.ensures
