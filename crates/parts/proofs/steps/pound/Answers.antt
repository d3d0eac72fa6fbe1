use Rattle.std.proofs.Common.{sym, ◌∙◌}
use Rattle.parts.proofs.StepPaths as paths
use Rattle.cursor.proofs.Exits.{exits}
use Rattle.parts.proofs.steps.pound.Goals as goal

pub returns-in_err-bump-clause-ended : goal.returns-in_err-bump-clause-ended
returns-in_err-bump-clause-ended c = exits c.bump.new.self _ _ c.from_residual.ensures (sym (paths.pound-spent _ _ _ (sym c.in_err-bump.ensures.ended)))

pub returns-clause-ended : goal.returns-clause-ended
returns-clause-ended c = c.eat.ensures.ended ∙ sym (paths.pound-is _ _ _ (sym c.in_ok-bump.ensures.ended))
