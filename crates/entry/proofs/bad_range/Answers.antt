-- `bad_range` meets its contract.
use Rattle.std.proofs.Common.{sym, ◌∙◌}
use Rattle.entry.proofs.Paths as paths
use Rattle.entry.proofs.bad_range.Goals as goal

pub returns-then-end-start : goal.returns-then-end-start
returns-then-end-start c = sym (paths.range-empty _ _ _ _ _ c.if-end-start.true)

pub bad_start-requires : goal.bad_start-requires
bad_start-requires c = c.requires

pub returns-then-bad_start : goal.returns-then-bad_start
returns-then-bad_start c = sym (paths.range-start _ _ _ _ _ c.if-end-start.false (sym c.bad_start.ensures ∙ c.if-bad_start.true))

pub returns : goal.returns
returns c = c.bad_end.ensures ∙ sym (paths.range-end _ _ _ _ _ c.if-end-start.false (sym c.bad_start.ensures ∙ c.if-bad_start.false))
