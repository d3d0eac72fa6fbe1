use Rattle.std.proofs.Common.{drop, ◌≡◌}
use Rattle.cursor.specs.Checks.{is_in}
use Rattle.cursor.proofs.checks.is_in.Given as goal

abbrev pub invariant-loop-one : goal.invariant-loop-one
invariant-loop-one l = is_in l.kind l.chain ≡ is_in l.kind (drop l.one-index l.chain)
