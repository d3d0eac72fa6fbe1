use Rattle.std.proofs.Common.{sym, ◌∙◌}
use Rattle.parts.proofs.RecordPaths as paths
use Rattle.parts.proofs.records.couple.Goals as goal

pub returns-clause-ended : goal.returns-clause-ended
returns-clause-ended c = c.close.ensures.ended ∙ sym (paths.couple-on _ _ _ _ _ _ _ c.add-one.ensures.ended c.add-two.ensures.ended)
