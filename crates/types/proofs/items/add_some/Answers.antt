use Rattle.std.proofs.Common.{sym, ◌∙◌}
use Rattle.types.proofs.ItemPaths.{some-none, some-on}
use Rattle.types.proofs.items.add_some.Goals as goal

pub returns-then-link-eq0-clause-ended : goal.returns-then-link-eq0-clause-ended
returns-then-link-eq0-clause-ended c = sym (some-none _ _ _ _ c.if-link-eq0.true)

pub returns-clause-ended : goal.returns-clause-ended
returns-clause-ended c = c.add.ensures.ended ∙ sym (some-on _ _ _ _ c.if-link-eq0.false)
