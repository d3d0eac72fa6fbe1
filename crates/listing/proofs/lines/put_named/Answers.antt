-- `listing::lines::put_named` meets its contract.
-- Assumes nothing.
use Rattle.listing.proofs.Written as ways
use Rattle.listing.proofs.lines.put_named.Goals as goal

pub returns : goal.returns
returns c = ways.field _ _ c.put_byte.ensures c.put_name.ensures
