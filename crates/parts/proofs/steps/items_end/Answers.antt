-- How a list ends by its item rule's number: as that rule's list, and past the last number as a table.
use Rattle.std.proofs.Common.{sym, ◌∙◌, arith}
use Rattle.parts.proofs.NumberPaths.{end-past}
use Rattle.parts.proofs.steps.items_end.Goals as goal

pub returns-in_default : goal.returns-in_default
returns-in_default c = c.items_end_of-in_default.ensures ∙ sym (end-past _ (omega arith))
