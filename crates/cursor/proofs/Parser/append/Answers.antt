use Rattle.std.proofs.Common.{sym}
use Rattle.cursor.proofs.RecordPaths as paths
use Rattle.cursor.proofs.Parser.append.Goals as goal

pub returns-then-room-i-clause-ended : goal.returns-then-room-i-clause-ended
returns-then-room-i-clause-ended c = sym (paths.append-full _ _ _ _ c.min-room.ensures c.if-room-i.true)

pub returns-clause-ended : goal.returns-clause-ended
returns-clause-ended c = sym (paths.append-room _ _ _ _ c.min-room.ensures c.if-room-i.false (paths.written _ _ _ _))
