use Rattle.std.proofs.Common.{◌∙◌}
use Rattle.exprs.proofs.Suffixes.{picks}
use Rattle.exprs.proofs.suffix.pick_suffix.Goals as goal

pub returns-then-lambda-clause-ended : goal.returns-then-lambda-clause-ended
returns-then-lambda-clause-ended c = c.pick.ensures.ended ∙ picks _ _ _ _ c.if-lambda.true

pub returns-else-lambda-clause-ended : goal.returns-else-lambda-clause-ended
returns-else-lambda-clause-ended c = c.pick-else-lambda.ensures.ended ∙ picks _ _ _ _ c.if-lambda.false
