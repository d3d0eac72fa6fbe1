-- `listing::names::record_place` meets its contract: the places are right by one test over all of them.
-- Assumes nothing.
use Rattle.std.proofs.Common.{◌≡◌, rules}
use lib.ListN.{get_or}
use Rattle.listing.proofs.Spelled as names
use Rattle.listing.proofs.names.record_place.Goals as goal

pub returns : goal.returns
returns c = let e : c.unwrap_or.result ≡ get_or names.record_places c.args.kind 0 = search rules in rw e (names.record-named _)
