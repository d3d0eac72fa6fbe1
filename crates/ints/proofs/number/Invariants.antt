use Rattle.std.proofs.Common.{◌≡◌, ◌≤◌, ◌∷◌}
use Rattle.ints.specs.Reading.{unread}
use Rattle.ints.specs.Answer.{largest, number_of}
use Rattle.ints.proofs.Run.{run}
use Rattle.ints.proofs.number.Given as goal

abbrev pub invariant-loop-b : goal.invariant-loop-b
invariant-loop-b l = record {
  can : (goal.iterator-loop-b).can_next l.b-iterator;
  ends : (goal.iterator-loop-b).is_finite l.b-iterator;
  small : l.magnitude ≤ largest l.sign;
  run : number_of l.radix l.sign (l.first ∷ unread l.rest) ≡ run l.radix l.sign l.magnitude (unread l.b-iterator);
}
