use Rattle.std.proofs.Common.{sym}
use Rattle.cursor.proofs.CheckPaths as paths
use Rattle.cursor.proofs.Exits.{exits}
use Rattle.cursor.proofs.Parser.eat.Goals as goal

pub returns-in_err-check-clause-ended : goal.returns-in_err-check-clause-ended
returns-in_err-check-clause-ended c = exits c.check.new.self _ _ c.from_residual.ensures (sym (paths.eat-failed _ _ _ _ (sym c.in_err-check.ensures.ended)))

pub returns-then-not-branch-clause-ended : goal.returns-then-not-branch-clause-ended
returns-then-not-branch-clause-ended c = sym (paths.eat-no _ _ _ _ (sym (rw c.if-not-branch.true at c.in_ok-check.ensures.ended)))

pub returns-in_err-bump-clause-ended : goal.returns-in_err-bump-clause-ended
returns-in_err-bump-clause-ended c = exits c.bump.new.self _ _ c.from_residual-in_err-bump.ensures (sym (paths.eat-spent _ _ _ _ (sym (rw c.if-not-branch.false at c.in_ok-check.ensures.ended)) (sym c.in_err-bump.ensures.ended)))

pub returns-clause-ended : goal.returns-clause-ended
returns-clause-ended c = sym (paths.eat-yes _ _ _ _ (sym (rw c.if-not-branch.false at c.in_ok-check.ensures.ended)) (sym c.in_ok-bump.ensures.ended))
