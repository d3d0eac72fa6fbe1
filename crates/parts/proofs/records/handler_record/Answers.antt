use Rattle.std.proofs.Common.{sym, ◌∙◌}
use Rattle.parts.proofs.RecordPaths as paths
use Rattle.types.proofs.ItemPaths.{is-ended-is-some}
use Rattle.parts.proofs.records.handler_record.Goals as goal

pub returns-clause-ended : goal.returns-clause-ended
returns-clause-ended c = c.close.ensures.ended ∙ sym (paths.handler-on _ _ _ _ (c.is_some.ensures ∙ is-ended-is-some _) _ c.flagged-flags.ensures c.add-all.ensures.ended)
