use Rattle.std.proofs.Common.{ap, sym}
use Rattle.cursor.proofs.TokenPaths as paths
use Rattle.cursor.proofs.Parser.eat_trivia.Goals as goal

pub returns-clause-ended : goal.returns-clause-ended
returns-clause-ended c = sym (paths.eat-trivia-on _ _ _ (ap (λ r. r.at) (rw c.over.ensures at c.past.ensures)))
