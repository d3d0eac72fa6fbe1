-- `listing::lines::put_detail` meets its contract.
-- Assumes nothing.
use Rattle.listing.proofs.LineWays as ways
use Rattle.listing.proofs.lines.put_detail.Goals as goal

pub returns-then-l-eq-INT : goal.returns-then-l-eq-INT
returns-then-l-eq-INT c = ways.detail-int _ _ c.if-l-eq-INT.true c.put_byte.ensures c.put_integer.ensures

pub returns-in-Some : goal.returns-in-Some
returns-in-Some c = ways.detail-named _ _ c.if-l-eq-INT.false _ c.in-Some.ensures c.put_named.ensures

pub returns-in_default : goal.returns-in_default
returns-in_default c = ways.detail-nothing _ _ c.if-l-eq-INT.false c.in_default.ensures
