-- A list by its item rule's number: that rule's, and past the last number one of types.
use Rattle.std.proofs.Common.{sym, ◌∙◌, arith}
use Rattle.types.proofs.NumberPaths.{items-past}
use Rattle.types.proofs.types.type_items.Goals as goal

pub returns-in_default-clause-ended : goal.returns-in_default-clause-ended
returns-in_default-clause-ended c = c.type_items_of-in_default.ensures.ended ∙ sym (items-past _ _ _ _ _ _ (omega arith))
