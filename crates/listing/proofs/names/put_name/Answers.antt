-- `listing::names::put_name` meets its contract. The invariant: what is left of the name from here gives what the whole gives.
-- Assumes nothing.
use Rattle.std.proofs.Common.{sym, ◌∙◌, arith}
use Rattle.listing.proofs.Spelled as names
use Rattle.listing.proofs.Written as ways
use Rattle.listing.proofs.names.put_name.Goals as goal

pub returns-then-b-eq32 : goal.returns-then-b-eq32
returns-then-b-eq32 c = sym (c.loop-at.invariant ∙ ways.name_done _ _ (names.name-end _ c.letter-b.ensures c.if-b-eq32.true))

pub loop-at-preserved : goal.loop-at-preserved
loop-at-preserved c = c.loop-at.invariant ∙ ways.name-more _ _ (names.name-on _ c.letter-b.ensures c.if-b-eq32.false).1 c.put_byte.ensures

pub returns : goal.returns
returns c = sym (c.loop-at.invariant ∙ ways.name_done _ _ (names.name-past _ (omega arith)))
