use Rattle.std.proofs.Common.{◌≡◌, length}
use Rattle.ints.specs.Reading.{unread}
use Rattle.ints.proofs.kept.KeptIterator.next.Given as goal

abbrev pub invariant-loop-b : goal.invariant-loop-b
invariant-loop-b l = unread l.self ≡ unread l.fn.self

abbrev pub decreases-loop-b : goal.decreases-loop-b
decreases-loop-b l = length l.self.rest.now
