use Rattle.std.proofs.Common.{sym, ◌∙◌}
use Rattle.parts.proofs.StepPaths as paths
use Rattle.parts.proofs.steps.any_params.Goals as goal

pub returns-then-closure-clause-ended : goal.returns-then-closure-clause-ended
returns-then-closure-clause-ended c = c.closure_params.ensures.ended ∙ sym (paths.params-closure _ _ _ _ c.if-closure.true)

pub returns-else-closure-clause-ended : goal.returns-else-closure-clause-ended
returns-else-closure-clause-ended c = c.params.ensures.ended ∙ sym (paths.params-function _ _ _ _ c.if-closure.false)
