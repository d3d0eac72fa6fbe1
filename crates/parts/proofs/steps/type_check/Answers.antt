use Rattle.std.proofs.Common.{sym, ◌∙◌}
use Rattle.parts.proofs.StepPaths as paths
use Rattle.types.proofs.TurnExits.{turn-exits}
use Rattle.parts.proofs.steps.type_check.Goals as goal

pub returns-in_default-clause-ended : goal.returns-in_default-clause-ended
returns-in_default-clause-ended c = rw c.unexpected.ensures (sym (paths.type-out _ _ _ _ _ (sym c.current_range.ensures ∙ c.in_default.is)))

pub returns-in_default-checked_type-clause-ended : goal.returns-in_default-checked_type-clause-ended
returns-in_default-checked_type-clause-ended c = rw c.unexpected-in_default-checked_type.ensures (sym (paths.type-none _ _ _ _ _ (sym c.in-Some.ensures) c.current_kind.ensures (sym c.in_default-checked_type.is ∙ c.checked_type.ensures)))

pub returns-in_err-bump-clause-ended : goal.returns-in_err-bump-clause-ended
returns-in_err-bump-clause-ended c = turn-exits (λ a. a) (λ a. a) c.bump.new.self _ _ c.from_residual.ensures (sym (paths.type-spent _ _ _ _ _ (sym c.in-Some.ensures) c.current_kind.ensures c.in-Some-checked_type.ensures (sym c.in_err-bump.ensures.ended)))

pub returns-in_err-link-clause-ended : goal.returns-in_err-link-clause-ended
returns-in_err-link-clause-ended c = turn-exits (λ a. a) (λ a. a) c.close.new.p _ _ c.from_residual-in_err-link.ensures (sym (paths.type-failed _ _ _ _ _ (sym c.in-Some.ensures) c.current_kind.ensures c.in-Some-checked_type.ensures (sym c.in_ok-bump.ensures.ended) c.link.ensures (sym c.in_err-link.ensures.ended)))

pub returns-clause-ended : goal.returns-clause-ended
returns-clause-ended c = sym (paths.type-on _ _ _ _ _ (sym c.in-Some.ensures) c.current_kind.ensures c.in-Some-checked_type.ensures (sym c.in_ok-bump.ensures.ended) c.link.ensures (sym c.in_ok-link.ensures.ended))
