-- The end of a meta member by a place: as its opening token's, and past the chain as that of `.`.
use Rattle.std.proofs.Common.{sym, ◌∙◌}
use Rattle.parts.proofs.NumberPaths.{meta-past}
use Rattle.parts.proofs.steps.meta_end.Goals as goal

pub returns-in-None-clause-ended : goal.returns-in-None-clause-ended
returns-in-None-clause-ended c = c.meta_end_of-in-None.ensures.ended ∙ sym (meta-past _ c.in-None.ensures _ _ _)
