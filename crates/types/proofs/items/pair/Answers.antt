use Rattle.std.proofs.Common.{sym, ◌∙◌}
use Rattle.types.proofs.ItemPaths.{pair-on}
use Rattle.types.proofs.items.pair.Goals as goal

pub returns-clause-ended : goal.returns-clause-ended
returns-clause-ended c = c.close.ensures.ended ∙ sym (pair-on _ _ _ _ _ _ c.add-one.ensures.ended c.add-two.ensures.ended)
