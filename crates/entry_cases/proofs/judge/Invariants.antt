use Rattle.std.proofs.Common.{◌-◌, ◌≤◌, length}
use Rattle.entry_cases.proofs.judge.Given as goal

abbrev pub invariant-loop-at : goal.invariant-loop-at
invariant-loop-at l = (l.cases ≤ l.at) × (l.wrong ≤ l.cases)

abbrev pub decreases-loop-at : goal.decreases-loop-at
decreases-loop-at l = length l.input - l.at
