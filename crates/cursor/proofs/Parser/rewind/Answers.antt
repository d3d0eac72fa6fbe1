use Rattle.std.proofs.Common.{ap}
use Rattle.cursor.specs.declared.State.{State}
use Rattle.cursor.specs.Answers.{world_of}
use Rattle.cursor.specs.Rule.{done}
use Rattle.cursor.proofs.TokenPaths as paths
use Rattle.cursor.proofs.Parser.rewind.Goals as goal

pub returns-clause-ended : goal.returns-clause-ended
returns-clause-ended c = ap {A = State} (λ s. done s (world_of c.args.self.now) (tt {0})) (paths.rewind-is c.args.mark c.args.self.now.state c.min-live.ensures)
