use Rattle.std.proofs.Common.{sym, ◌∙◌}
use Rattle.parts.proofs.RecordPaths as paths
use Rattle.types.proofs.ItemPaths.{is-ended-is-some}
use Rattle.parts.proofs.records.fn_record.Goals as goal

pub returns-clause-ended : goal.returns-clause-ended
returns-clause-ended c = c.close.ensures.ended ∙ sym (paths.fn-on _ _ _ _ _ _ c.add_some-one.ensures.ended c.add-two.ensures.ended c.span_of-mark.ensures (c.is_some.ensures ∙ is-ended-is-some _) c.flagged-flags.ensures)
