use Rattle.std.proofs.Common.{sym, ◌∙◌}
use Rattle.parts.proofs.RecordPaths as paths
use Rattle.parts.proofs.records.list_record.Goals as goal

pub returns-clause-ended : goal.returns-clause-ended
returns-clause-ended c = c.close.ensures.ended ∙ sym (paths.handed c.args.p.now _ c.in_ok-kids.was ∙ paths.list_on _ _ _ _ _ c.flagged-flags.ensures)
