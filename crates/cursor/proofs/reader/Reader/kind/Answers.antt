use Rattle.std.proofs.Common.{sym}
use Rattle.cursor.proofs.TokenPaths as paths
use Rattle.cursor.proofs.reader.Reader.kind.Goals as goal

pub returns-then-self : goal.returns-then-self
returns-then-self c = sym (paths.kind-in _ _ c.if-self.true)

pub returns-else-self : goal.returns-else-self
returns-else-self c = sym (paths.kind-out _ _ c.if-self.false)
