use Rattle.std.proofs.Common.{sym}
use Rattle.cursor.proofs.CheckPaths as paths
use Rattle.cursor.proofs.Exits.{exits}
use Rattle.cursor.proofs.Parser.expect.Goals as goal

pub returns-in_err-eat-clause-ended : goal.returns-in_err-eat-clause-ended
returns-in_err-eat-clause-ended c = exits c.eat.new.self _ _ c.from_residual.ensures (sym (paths.expect-failed _ _ _ _ (sym c.in_err-eat.ensures.ended)))

pub returns-then-not-branch-clause-ended : goal.returns-then-not-branch-clause-ended
returns-then-not-branch-clause-ended c = rw c.unexpected.ensures (sym (paths.expect-no _ _ _ _ (sym (rw c.if-not-branch.true at c.in_ok-eat.ensures.ended))))

pub returns-clause-ended : goal.returns-clause-ended
returns-clause-ended c = sym (paths.expect-yes _ _ _ _ (sym (rw c.if-not-branch.false at c.in_ok-eat.ensures.ended)))
