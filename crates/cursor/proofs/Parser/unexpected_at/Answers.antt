use Rattle.std.proofs.Common.{sym}
use Rattle.cursor.proofs.CheckPaths as paths
use Rattle.cursor.proofs.Parser.unexpected_at.Goals as goal

pub returns : goal.returns
returns c = sym (paths.unexpected-is _ _ c.current_kind.ensures (sym c.current_range.ensures) c.unwrap_or-span.ensures)
