use Rattle.std.proofs.Common.{length}
use Rattle.type_cases.proofs.all_cases.Given as goal

abbrev pub decreases-loop-head : goal.decreases-loop-head
decreases-loop-head g l = length l.left
