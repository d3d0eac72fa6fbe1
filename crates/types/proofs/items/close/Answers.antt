use Rattle.std.proofs.Common.{sym, ◌∙◌}
use Rattle.types.proofs.ItemPaths.{close-is}
use Rattle.types.proofs.items.close.Goals as goal

pub returns-clause-ended : goal.returns-clause-ended
returns-clause-ended c = c.append.ensures.ended ∙ sym (close-is _ _ _ _ _ _ _ _)
