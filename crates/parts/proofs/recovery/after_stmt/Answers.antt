-- a way for each end of each step
use Rattle.std.proofs.Common.{sym}
use Rattle.parts.proofs.RecoveryPaths as paths
use Rattle.types.proofs.TurnExits.{turn-exits}
use Rattle.parts.proofs.recovery.after_stmt.Goals as goal

pub returns-in_err-eat-clause-ended : goal.returns-in_err-eat-clause-ended
returns-in_err-eat-clause-ended c = turn-exits (λ a. a) (λ a. a) c.eat.new.self _ _ c.from_residual.ensures (sym (paths.after-full _ _ _ _ _ _ (sym c.in_err-eat.ensures.ended)))

pub returns-then-branch-clause-ended : goal.returns-then-branch-clause-ended
returns-then-branch-clause-ended c = sym (paths.after-closed _ _ _ _ _ _ (sym (rw c.if-branch.true at c.in_ok-eat.ensures.ended)) c.add_some.ensures.ended)

pub returns-in_err-check-clause-ended : goal.returns-in_err-check-clause-ended
returns-in_err-check-clause-ended c = turn-exits (λ a. a) (λ a. a) c.check.new.self _ _ c.from_residual-in_err-check.ensures (sym (paths.after-lost _ _ _ _ _ _ (sym (rw c.if-branch.false at c.in_ok-eat.ensures.ended)) (sym c.in_err-check.ensures.ended)))

pub returns-in_err-log_error-clause-ended : goal.returns-in_err-log_error-clause-ended
returns-in_err-log_error-clause-ended c = turn-exits (λ a. a) (λ a. a) c.log_error.new.self _ _ c.from_residual-in_err-log_error.ensures (sym (paths.after-unlogged _ _ _ _ _ _ (sym (rw c.if-branch.false at c.in_ok-eat.ensures.ended)) (sym (rw c.if-branch-2.true at c.in_ok-check.ensures.ended)) c.unexpected_at-fault.ensures (sym c.in_err-log_error.ensures.ended)))

pub returns-then-branch-2-clause-ended : goal.returns-then-branch-2-clause-ended
returns-then-branch-2-clause-ended c = sym (paths.after-over _ _ _ _ _ _ (sym (rw c.if-branch.false at c.in_ok-eat.ensures.ended)) (sym (rw c.if-branch-2.true at c.in_ok-check.ensures.ended)) c.unexpected_at-fault.ensures (sym c.in_ok-log_error.ensures.ended) c.add_some-then-branch-2.ensures.ended)

pub returns-in_err-line_end-clause-ended : goal.returns-in_err-line_end-clause-ended
returns-in_err-line_end-clause-ended c = turn-exits (λ a. a) (λ a. a) c.line_end.new.p _ _ c.from_residual-in_err-line_end.ensures (sym (paths.after-broken _ _ _ _ _ _ (sym (rw c.if-branch.false at c.in_ok-eat.ensures.ended)) (sym (rw c.if-branch-2.false at c.in_ok-check.ensures.ended)) (sym c.in_err-line_end.ensures.ended)))

pub returns-in_err-eat_eol-clause-ended : goal.returns-in_err-eat_eol-clause-ended
returns-in_err-eat_eol-clause-ended c = turn-exits (λ a. a) (λ a. a) c.eat_eol.new.self _ _ c.from_residual-in_err-eat_eol.ensures (sym (paths.after-spent _ _ _ _ _ _ (sym (rw c.if-branch.false at c.in_ok-eat.ensures.ended)) (sym (rw c.if-branch-2.false at c.in_ok-check.ensures.ended)) (sym c.in_ok-line_end.ensures.ended) (sym c.in_err-eat_eol.ensures.ended)))

pub returns-clause-ended : goal.returns-clause-ended
returns-clause-ended c = sym (paths.after_more _ _ _ _ _ _ (sym (rw c.if-branch.false at c.in_ok-eat.ensures.ended)) (sym (rw c.if-branch-2.false at c.in_ok-check.ensures.ended)) (sym c.in_ok-line_end.ensures.ended) (sym c.in_ok-eat_eol.ensures.ended) c.add_some-2.ensures.ended)
