use Rattle.std.proofs.Common.{length, ◌+◌, ◌≤◌}
use Rattle.int_cases.proofs.run.Given as goal

abbrev pub invariant-loop-first : goal.invariant-loop-first
invariant-loop-first g l = (l.cases + length l.rest ≤ length l.s) × (l.wrong ≤ l.cases)

abbrev pub decreases-loop-first : goal.decreases-loop-first
decreases-loop-first g l = length l.rest
