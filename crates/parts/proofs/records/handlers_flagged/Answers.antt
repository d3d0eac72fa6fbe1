use Rattle.std.proofs.Common.{sym, ◌∙◌}
use Rattle.parts.proofs.RecordPaths as paths
use Rattle.parts.proofs.records.handlers_flagged.Goals as goal

pub returns-clause-ended : goal.returns-clause-ended
returns-clause-ended c = c.reflag.ensures.ended ∙ sym (paths.handlers-on _ _ _ _ _ c.flagged-flags.ensures)
