-- `marks` meets its contract.
use Rattle.std.proofs.Common.{sym, ◌∙◌, arith}
use borrow.Author.Tests.{ne_eqb}
use Rattle.entry.proofs.Paths as paths
use Rattle.entry.proofs.marks.Goals as goal

pub returns-in-empty : goal.returns-in-empty
returns-in-empty c = sym (paths.marked-none _ _ (omega arith))

pub returns-then-first-letter : goal.returns-then-first-letter
returns-then-first-letter c = c.quotes.ensures ∙ sym (paths.marked-rest _ _ (λ e. omega arith) c.if-first-letter.true)

pub returns-else-first-letter : goal.returns-else-first-letter
returns-else-first-letter c = ne_eqb _ _ c.if-first-letter.false ∙ sym (paths.marked_other _ _ (λ e. omega arith) c.if-first-letter.false)
