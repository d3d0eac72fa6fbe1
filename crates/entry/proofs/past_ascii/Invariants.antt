use Rattle.std.proofs.Common.{◌≡◌, ◌+◌, ◌-◌, ◌≤◌}
use Rattle.entry.specs.Utf8.{ascii_run}
use lib.ListN.{length, drop}
use Rattle.entry.proofs.past_ascii.Given as goal

abbrev pub invariant-loop-at : goal.invariant-loop-at
invariant-loop-at l = (l.from + ascii_run (drop l.from l.text) ≡ l.at + ascii_run (drop l.at l.text)) × (l.at ≤ length l.text)

abbrev pub decreases-loop-at : goal.decreases-loop-at
decreases-loop-at l = length l.text - l.at

abbrev pub invariant-loop-at-2 : goal.invariant-loop-at-2
invariant-loop-at-2 l = (l.from + ascii_run (drop l.from l.text) ≡ l.at + ascii_run (drop l.at l.text)) × (l.at ≤ length l.text)

abbrev pub decreases-loop-at-2 : goal.decreases-loop-at-2
decreases-loop-at-2 l = length l.text - l.at
