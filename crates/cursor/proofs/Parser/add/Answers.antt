use Rattle.std.proofs.Common.{sym, refl}
use Rattle.cursor.proofs.RecordPaths as paths
use Rattle.cursor.proofs.CheckPaths.{stored}
use Rattle.cursor.proofs.Parser.add.Goals as goal

pub returns-then-kids-eq0-clause-ended : goal.returns-then-kids-eq0-clause-ended
returns-then-kids-eq0-clause-ended c = sym (paths.add-first _ _ _ _ c.if-kids-eq0.true refl)

pub returns-then-place-self-clause-ended : goal.returns-then-place-self-clause-ended
returns-then-place-self-clause-ended c = sym (paths.add-more _ _ _ _ (paths.before c.if-kids-eq0.false) refl (stored _ _ _))

pub returns-else-place-self-clause-ended : goal.returns-else-place-self-clause-ended
returns-else-place-self-clause-ended c = sym (paths.add-more _ _ _ _ (paths.before c.if-kids-eq0.false) refl (sym (paths.put-past _ _ _ c.if-place-self.false)))
