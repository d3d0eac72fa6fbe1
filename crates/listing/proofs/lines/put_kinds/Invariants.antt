use Rattle.std.proofs.Common.{length, drop, take, map, ◌≡◌}
use Rattle.listing.specs.Page.{emits}
use Rattle.listing.specs.Decimal.{decimal}
use Rattle.listing.specs.Lines.{fields}
use Rattle.listing.proofs.lines.put_kinds.Given as goal

abbrev pub invariant-loop-kind : goal.invariant-loop-kind
invariant-loop-kind l =
    emits (fields (map decimal (take l.count (drop l.from l.expected)))) l.initial.page
    ≡ emits (fields (map decimal (drop (length l.yielded) (take l.count (drop l.from l.expected))))) l.page
