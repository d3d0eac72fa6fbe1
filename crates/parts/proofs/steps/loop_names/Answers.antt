-- The names of a loop by a place: as its form's, and past the chain as those of a `for`.
use Rattle.std.proofs.Common.{sym, ◌∙◌}
use Rattle.parts.proofs.NumberPaths.{names-past}
use Rattle.parts.proofs.steps.loop_names.Goals as goal

pub returns-in-None-clause-ended : goal.returns-in-None-clause-ended
returns-in-None-clause-ended c = c.loop_names_of-in-None.ensures.ended ∙ sym (names-past _ c.in-None.ensures _ _ _)
