use Rattle.std.proofs.Common.{sym, ap, arith}
use Rattle.parts.specs.Forms.{item_rule}
use Rattle.parts.proofs.StepPaths as paths
use Rattle.parts.proofs.steps.items_end_of.Goals as goal

pub returns-in-Arguments : goal.returns-in-Arguments
returns-in-Arguments c = sym (paths.end-arguments _ (ap item_rule c.in-Arguments.is))

pub returns-in-Elements : goal.returns-in-Elements
returns-in-Elements c = let p = ap item_rule c.in-Elements.is in sym (paths.end-elements _ (λ q. absurd (omega arith)) p)

pub returns-in-Properties : goal.returns-in-Properties
returns-in-Properties c = let p = ap item_rule c.in-Properties.is in sym (paths.end-properties _ (λ q. absurd (omega arith)) (λ q. absurd (omega arith)))
