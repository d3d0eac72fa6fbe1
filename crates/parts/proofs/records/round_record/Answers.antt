-- The record of a loop by a place: as its form's, and past the chain as that of a `for`.
use Rattle.std.proofs.Common.{sym, ◌∙◌}
use Rattle.parts.proofs.NumberPaths.{round-past}
use Rattle.parts.proofs.records.round_record.Goals as goal

pub returns-in-None-clause-ended : goal.returns-in-None-clause-ended
returns-in-None-clause-ended c = c.round_record_of-in-None.ensures.ended ∙ sym (round-past _ c.in-None.ensures _ _ _ _ _)
