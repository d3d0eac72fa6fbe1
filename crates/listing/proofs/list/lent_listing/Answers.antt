-- `listing::list::lent_listing` meets its contract: there is always room.
-- Assumes nothing.
use Rattle.std.proofs.Common.{arith}
use Rattle.listing.proofs.Answered.{never-short}
use Rattle.listing.proofs.Room.{suffices}
use Rattle.listing.proofs.list.lent_listing.Goals as goal

pub unwrap-requires : goal.unwrap-requires
unwrap-requires c = never-short _ _ _ _ c.listing.ensures (rw c.told-out (suffices c.args.nodes.now c.args.errors.now c.args.expected.now c.args.counts c.told-nodes c.told-errors c.told-expected (record { at = c.fits-nodes }) (record { at = c.fits-errors }) (record { at = c.fits-expected }) (omega arith) (omega arith) (omega arith)))
