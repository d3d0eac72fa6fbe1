use Rattle.std.proofs.Common.{sym, ◌∙◌}
use Rattle.parts.proofs.RecordPaths as paths
use Rattle.parts.proofs.records.row_record.Goals as goal

pub returns-clause-ended : goal.returns-clause-ended
returns-clause-ended c = c.close.ensures.ended ∙ sym (paths.row_on _ _ _ _ _ _ c.flagged-flags.ensures c.add-all.ensures.ended)
