use Rattle.std.proofs.Common.{sym, ◌∙◌}
use Rattle.cursor.proofs.Exits.{exits}
use Rattle.rules.proofs.LevelPaths as paths
use Rattle.exprs.proofs.program.program.Goals as goal

pub returns-in_err-row-clause-ended : goal.returns-in_err-row-clause-ended
returns-in_err-row-clause-ended c = exits c.exprs.new.p _ _ c.from_residual.ensures (sym (paths.program-failed _ _ _ c.start_range-from.ensures (sym c.in_err-row.ensures.ended)))

pub returns-clause-ended : goal.returns-clause-ended
returns-clause-ended c = c.append.ensures.ended ∙ sym (paths.program-on _ _ _ c.start_range-from.ensures (sym c.in_ok-row.ensures.ended) c.flagged.ensures c.max.ensures)
