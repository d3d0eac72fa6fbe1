use Rattle.std.proofs.Common.{ap, sym, ◌∙◌, arith}
use Rattle.cursor.proofs.TokenPaths as paths
use Rattle.cursor.proofs.Parser.bump.Goals as goal

pub returns-in_default-clause-ended : goal.returns-in_default-clause-ended
returns-in_default-clause-ended c = sym (paths.bump-end _ _ _ (sym c.current_range.ensures ∙ c.in_default.is))

pub returns-then-sheet-self-clause-ended : goal.returns-then-sheet-self-clause-ended
returns-then-sheet-self-clause-ended c = sym (paths.bump-spent _ _ _ (sym c.in-Some.ensures) c.if-sheet-self.true)

-- a token that has a range is there, so there is a place behind it
pub overflow_add-self : goal.overflow_add-self
overflow_add-self c = omega (arith, paths.range-there _ _ (sym c.in-Some.ensures))

pub returns-clause-ended : goal.returns-clause-ended
returns-clause-ended c = sym (paths.bump-on _ _ _ (sym c.in-Some.ensures) c.if-sheet-self.false (ap (λ r. r.at) (rw c.over.ensures at c.past.ensures)))
