use Rattle.std.proofs.Common.{◌≡◌, ◌-◌, ◌+◌, ◌≤◌, max, length}
use Rattle.entry.specs.Utf8.{tail, fits}
use lib.ListN.{drop, replicate}
use Rattle.entry.proofs.tails.Given as goal

abbrev pub invariant-loop-i : goal.invariant-loop-i
invariant-loop-i l = record {
  same : fits (replicate l.count tail) (drop l.at l.text) ≡ fits (replicate (l.count - l.i) tail) (drop (l.at + l.i) l.text);
  within : l.at + l.i ≤ max l.at (length l.text);
}
