-- `break` or `continue` by a place: as its form, and past the chain as `continue`.
use Rattle.std.proofs.Common.{sym, ◌∙◌}
use Rattle.parts.proofs.NumberPaths.{leaf-past}
use Rattle.parts.proofs.steps.leaf.Goals as goal

pub returns-in-None-clause-ended : goal.returns-in-None-clause-ended
returns-in-None-clause-ended c = c.leaf_of-in-None.ensures.ended ∙ sym (leaf-past _ c.in-None.ensures _ _ _ _)
