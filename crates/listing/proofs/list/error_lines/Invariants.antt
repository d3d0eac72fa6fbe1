use Rattle.std.proofs.Common.{◌≡◌, ◌-◌}
use Rattle.listing.specs.Page.{emits}
use Rattle.listing.specs.Listing.{errors_from}
use Rattle.listing.proofs.list.error_lines.Given as goal

abbrev pub invariant-loop-i : goal.invariant-loop-i
invariant-loop-i l = emits (errors_from l.errors l.expected 0 l.i-end) l.initial.page ≡ emits (errors_from l.errors l.expected l.i (l.i-end - l.i)) l.page
