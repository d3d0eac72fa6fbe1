use Rattle.std.proofs.Common.{sym, ◌∙◌}
use Rattle.parts.proofs.StepPaths as paths
use Rattle.parts.proofs.steps.checked_type.Goals as goal

pub returns-then-kind : goal.returns-then-kind
returns-then-kind c = sym (paths.checked-null _ _ _ c.if-kind.true)

pub returns-then-kind-2 : goal.returns-then-kind-2
returns-then-kind-2 c = sym (paths.checked-other _ _ _ c.if-kind.false c.if-kind-2.true)

pub returns-in_err-word : goal.returns-in_err-word
returns-in_err-word c = c.from_residual.ensures ∙ sym (paths.checked-strange _ _ _ c.if-kind.false c.if-kind-2.false c.in_err-word.ensures)

pub returns : goal.returns
returns c = sym (paths.checked-word _ _ _ c.if-kind.false c.if-kind-2.false c.in_ok-word.ensures c.value_type_number.ensures)
