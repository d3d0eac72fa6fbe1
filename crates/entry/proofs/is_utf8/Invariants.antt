use Rattle.std.proofs.Common.{length, drop, ◌≡◌}
use Rattle.entry.specs.Utf8.{is_utf8}
use Prim.Native.Nat.{◌≤◌, ◌-◌}
use Rattle.entry.proofs.is_utf8.Given as goal

abbrev pub invariant-loop-at : goal.invariant-loop-at
invariant-loop-at l = (is_utf8 l.text ≡ is_utf8 (drop l.at l.text)) × (l.at ≤ length l.text)

abbrev pub decreases-loop-at : goal.decreases-loop-at
decreases-loop-at l = length l.text - l.at
