-- a way for each end of each step
use Rattle.std.proofs.Common.{sym, ◌∙◌}
use Rattle.parts.proofs.ImportPaths as paths
use Rattle.types.proofs.TurnExits.{turn-exits}
use Rattle.parts.specs.Answers.{on_path}
use Rattle.parts.proofs.imports.path.Goals as goal

pub returns-in_err-name-clause-ended : goal.returns-in_err-name-clause-ended
returns-in_err-name-clause-ended c = turn-exits on_path (λ i. i) c.ident.new.p _ _ c.from_residual.ensures (sym (paths.path-failed _ _ _ _ (sym c.in_err-name.ensures.ended)))

pub returns-in_err-eat-clause-ended : goal.returns-in_err-eat-clause-ended
returns-in_err-eat-clause-ended c = turn-exits on_path (λ i. i) c.eat.new.self _ _ c.from_residual-in_err-eat.ensures (sym (paths.path-full _ _ _ _ (sym c.in_ok-name.ensures.ended) c.add-longer.ensures.ended (sym c.in_err-eat.ensures.ended)))

pub returns-then-not-branch-clause-ended : goal.returns-then-not-branch-clause-ended
returns-then-not-branch-clause-ended c = c.import_end.ensures.ended ∙ sym (paths.path-end _ _ _ _ (sym c.in_ok-name.ensures.ended) c.add-longer.ensures.ended (sym (rw c.if-not-branch.true at c.in_ok-eat.ensures.ended)))

pub returns-in_err-check-clause-ended : goal.returns-in_err-check-clause-ended
returns-in_err-check-clause-ended c = turn-exits on_path (λ i. i) c.check.new.self _ _ c.from_residual-in_err-check.ensures (sym (paths.path-lost _ _ _ _ (sym c.in_ok-name.ensures.ended) c.add-longer.ensures.ended (sym (rw c.if-not-branch.false at c.in_ok-eat.ensures.ended)) (sym c.in_err-check.ensures.ended)))

pub returns-then-branch-clause-ended : goal.returns-then-branch-clause-ended
returns-then-branch-clause-ended c = sym (paths.path-more _ _ _ _ (sym c.in_ok-name.ensures.ended) c.add-longer.ensures.ended (sym (rw c.if-not-branch.false at c.in_ok-eat.ensures.ended)) (sym (rw c.if-branch.true at c.in_ok-check.ensures.ended)))

pub returns-clause-ended : goal.returns-clause-ended
returns-clause-ended c = c.import_tail.ensures.ended ∙ sym (paths.path-tail _ _ _ _ (sym c.in_ok-name.ensures.ended) c.add-longer.ensures.ended (sym (rw c.if-not-branch.false at c.in_ok-eat.ensures.ended)) (sym (rw c.if-branch.false at c.in_ok-check.ensures.ended)))
