use Rattle.std.proofs.Common.{sym}
use Rattle.cursor.proofs.RecordPaths as paths
use Rattle.cursor.proofs.CheckPaths.{stored}
use Rattle.cursor.proofs.Parser.reflag.Goals as goal

pub returns-then-link-eq0-clause-ended : goal.returns-then-link-eq0-clause-ended
returns-then-link-eq0-clause-ended c = sym (paths.reflag-none _ _ _ _ c.if-link-eq0.true)

pub returns-then-place-self-clause-ended : goal.returns-then-place-self-clause-ended
returns-then-place-self-clause-ended c = sym (paths.reflag-on _ _ _ _ (paths.before c.if-link-eq0.false) (stored _ _ _))

pub returns-else-place-self-clause-ended : goal.returns-else-place-self-clause-ended
returns-else-place-self-clause-ended c = sym (paths.reflag-on _ _ _ _ (paths.before c.if-link-eq0.false) (sym (paths.put-past _ _ _ c.if-place-self.false)))
