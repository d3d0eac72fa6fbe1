use Rattle.std.proofs.Common.{sym}
use Rattle.cursor.proofs.RecordPaths as paths
use Rattle.cursor.proofs.Parser.log_error.Goals as goal

pub returns-then-room-i-clause-ended : goal.returns-then-room-i-clause-ended
returns-then-room-i-clause-ended c = sym (paths.log-full _ _ _ c.min-room.ensures c.if-room-i.true)

pub returns-then-most-from-clause-ended : goal.returns-then-most-from-clause-ended
returns-then-most-from-clause-ended c = sym (paths.log-crowded _ _ _ c.min-room.ensures c.if-room-i.false c.list_length-count.ensures c.min-most.ensures c.if-most-from.true)

pub returns-clause-ended : goal.returns-clause-ended
returns-clause-ended c = sym (paths.log-on _ _ _ c.min-room.ensures c.if-room-i.false c.list_length-count.ensures c.min-most.ensures c.if-most-from.false (paths.error-written _ _ _ _ _) c.copy_kinds.ensures)
