use Rattle.std.proofs.Common.{refl}
use Rattle.cursor.specs.Checks.{full_at}
use Rattle.cursor.proofs.checks.is_full.Goals as goal

pub returns-then-not-roomy : goal.returns-then-not-roomy
unfolding full_at
returns-then-not-roomy c = rw c.if-not-roomy.true refl

pub returns-else-not-roomy : goal.returns-else-not-roomy
unfolding full_at
returns-else-not-roomy c = rw c.if-not-roomy.false refl
