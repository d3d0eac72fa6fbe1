use Rattle.std.proofs.Common.{sym, ◌∙◌}
use Rattle.parts.proofs.StepPaths as paths
use Rattle.parts.proofs.steps.braced.Goals as goal

pub returns-then-lambda-clause-ended : goal.returns-then-lambda-clause-ended
returns-then-lambda-clause-ended c = c.check.ensures.ended ∙ sym (paths.braced-asked _ _ _ c.if-lambda.true)

pub returns-else-lambda-clause-ended : goal.returns-else-lambda-clause-ended
returns-else-lambda-clause-ended c = sym (paths.braced-not _ _ _ c.if-lambda.false)
