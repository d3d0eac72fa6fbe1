use Rattle.std.proofs.Common.{◌≡◌}
use Rattle.parser.specs.Blank.{cleared}
use Rattle.parser.proofs.clear.Given as goal

abbrev pub invariant-loop-i : goal.invariant-loop-i
invariant-loop-i g l = cleared l.fn.blank l.i l.words ≡ cleared l.fn.blank l.fn.from l.fn.words
