-- `listing::walk::node_lines` meets its contract.
-- Assumes nothing.
use Rattle.std.proofs.Common.{arith}
use Rattle.listing.proofs.Walks as ways
use Rattle.listing.proofs.walk.node_lines.Goals as goal

pub returns-then-left-eq0 : goal.returns-then-left-eq0
returns-then-left-eq0 c = ways.tree-none _ _ c.within-left.ensures _ c.if-left-eq0.true

pub returns : goal.returns
returns c = ways.tree-lines _ _ c.within-left.ensures _ _ (omega arith) (ways.as-word _ _ 3 c.word_at.ensures) (ways.read-line _ _ _ _ c.label_at.ensures c.node_line.ensures) c.walk.ensures.lines
