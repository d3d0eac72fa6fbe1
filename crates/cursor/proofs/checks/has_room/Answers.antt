use Rattle.cursor.proofs.CheckPaths as paths
use Rattle.cursor.proofs.checks.has_room.Goals as goal

pub returns-then-more-le-LIVE_ROOM : goal.returns-then-more-le-LIVE_ROOM
returns-then-more-le-LIVE_ROOM c = paths.room-tested c.args.told c.args.more c.if-more-le-LIVE_ROOM.true

pub returns-else-more-le-LIVE_ROOM : goal.returns-else-more-le-LIVE_ROOM
returns-else-more-le-LIVE_ROOM c = paths.no-room-at-all c.args.told c.args.more c.if-more-le-LIVE_ROOM.false
