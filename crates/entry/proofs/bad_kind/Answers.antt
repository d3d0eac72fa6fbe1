-- `bad_kind` meets its contract.
use Rattle.std.proofs.Common.{sym}
use Rattle.entry.proofs.Paths as paths
use Rattle.entry.proofs.bad_kind.Goals as goal

pub returns-then-kind-lt-EOF : goal.returns-then-kind-lt-EOF
returns-then-kind-lt-EOF c = sym (paths.kind-below _ c.if-kind-lt-EOF.true)

pub returns-then-kind-eq-EOF : goal.returns-then-kind-eq-EOF
returns-then-kind-eq-EOF c = sym (paths.kind-end _ c.if-kind-eq-EOF.true)

pub returns : goal.returns
returns c = sym (paths.kind-above _ c.if-kind-eq-EOF.false)
