-- `listing::walk::walk` meets its contract. The measure is how many records may still be printed.
-- Assumes nothing.
use Rattle.std.proofs.Common.{◌-◌}
use Rattle.cursor.proofs.RecordPaths.{before}
use Rattle.listing.proofs.Walks as ways
use Rattle.listing.proofs.walk.+walk.Goals as goal

pub returns-then-left-eq0-clause-lines : goal.returns-then-left-eq0-clause-lines
returns-then-left-eq0-clause-lines t c = ways.still _ (ways.rows_over c.args.nodes.now c.args.level c.args.link c.args.left c.then-left-eq0.either)

pub returns-then-left-eq0-clause-left : goal.returns-then-left-eq0-clause-left
returns-then-left-eq0-clause-left t c = ways.all_left _ (ways.rows_over c.args.nodes.now c.args.level c.args.link c.args.left c.then-left-eq0.either)

pub returns-clause-lines : goal.returns-clause-lines
returns-clause-lines t c = ways.walk-lines c.args.nodes.now c.args.level c.args.link c.args.left (c.args.link - 1) (c.args.left - 1) (before c.if-link-eq0.false) (before c.if-left-eq0.false) (ways.as-word _ _ 3 c.word_at.ensures) (ways.as-word _ _ 4 c.word_at-2.ensures) c.walk-below.ensures.left _ (ways.read-line _ _ _ _ c.label_at.ensures c.node_line.ensures) c.walk-below.ensures.lines c.walk.ensures.lines

pub returns-clause-left : goal.returns-clause-left
returns-clause-left t c = ways.walk-left c.args.nodes.now c.args.level c.args.link c.args.left (c.args.link - 1) (c.args.left - 1) (before c.if-link-eq0.false) (before c.if-left-eq0.false) (ways.as-word _ _ 3 c.word_at.ensures) (ways.as-word _ _ 4 c.word_at-2.ensures) c.walk-below.ensures.left c.walk.ensures.left
