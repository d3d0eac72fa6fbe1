-- `type_cases::read` meets its contract: a way for each form.
use Rattle.std.proofs.Common.{sym, ◌∙◌, arith}
use Rattle.type_cases.proofs.Paths as paths
use Rattle.type_cases.proofs.read.Goals as goal

pub returns-in-0-clause-ended : goal.returns-in-0-clause-ended
returns-in-0-clause-ended c = c.ty.ensures.ended ∙ sym (paths.form_type _ _ _ _ c.in-0.is)

pub returns-in-1-clause-ended : goal.returns-in-1-clause-ended
returns-in-1-clause-ended c = c.type_atom.ensures.ended ∙ sym (paths.form-atom _ _ _ _ c.in-1.is)

pub returns-in_default-clause-ended : goal.returns-in_default-clause-ended
returns-in_default-clause-ended c = c.pattern.ensures.ended ∙ sym (paths.form-pattern _ _ _ _ _ (omega arith) (omega arith))
