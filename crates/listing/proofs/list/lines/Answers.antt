-- `listing::list::lines` meets its contract.
-- Assumes nothing.
use Rattle.listing.specs.Listing.{listing_of}
use Rattle.listing.proofs.Pages.{and_then}
use Rattle.listing.proofs.list.lines.Goals as goal

pub returns : goal.returns
unfolding listing_of
returns c = and_then _ _ _ c.first_line.ensures (and_then _ _ _ c.node_lines.ensures c.error_lines.ensures)
