use Rattle.std.proofs.Common.{sym, ◌∙◌}
use Rattle.cursor.proofs.CheckPaths as paths
use Rattle.cursor.proofs.Parser.check.Goals as goal

pub returns-then-current_kind-kind-clause-ended : goal.returns-then-current_kind-kind-clause-ended
returns-then-current_kind-kind-clause-ended c = sym (paths.check-yes _ _ _ _ (sym c.current_kind.ensures ∙ c.if-current_kind-kind.true))

pub returns-then-told-ge-LIVE_ROOM-clause-ended : goal.returns-then-told-ge-LIVE_ROOM-clause-ended
returns-then-told-ge-LIVE_ROOM-clause-ended c = sym (paths.check-full _ _ _ _ (λ q. c.if-current_kind-kind.false (c.current_kind.ensures ∙ q)) c.if-told-ge-LIVE_ROOM.true)

pub returns-clause-ended : goal.returns-clause-ended
returns-clause-ended c = sym (paths.check-no _ _ _ _ (λ q. c.if-current_kind-kind.false (c.current_kind.ensures ∙ q)) c.if-told-ge-LIVE_ROOM.false (paths.stored _ _ _))
