use Rattle.std.proofs.Common.{sym, ◌∙◌}
use Rattle.cursor.proofs.ChainPaths as paths
use Rattle.cursor.proofs.checks.misses.Goals as goal

pub returns-then-not-is_in : goal.returns-then-not-is_in
returns-then-not-is_in c = c.has_room.ensures ∙ paths.miss-room _ _ _ (sym c.is_in.ensures ∙ c.if-not-is_in.true)

pub returns-else-not-is_in : goal.returns-else-not-is_in
returns-else-not-is_in c = rw c.if-not-is_in.false (paths.miss-in _ _ _ (sym c.is_in.ensures ∙ c.if-not-is_in.false))
