-- `answer::sheet` meets its contract: each way out is its path lemma.
-- Assumes nothing.
use Rattle.std.proofs.Common.{sym, ◌∙◌, ap, ℕ, List}
use Rattle.listing.specs.Answers.{written}
use Rattle.answer.proofs.Ways.{sheet-read, sheet-refused}
use Rattle.answer.proofs.sheet.Goals as goal

pub returns-in-Ok : goal.returns-in-Ok
returns-in-Ok c = c.lent_listing.ensures ∙ ap (λ (b : List ℕ). written b c.args.out.now) (sym (sheet-read _ _ c.parse-got.new.nodes c.parse-got.new.errors c.parse-got.new.expected c.parse-got.ensures.same c.in-Ok.is))

pub returns-in-Err : goal.returns-in-Err
returns-in-Err c = c.refused.ensures ∙ ap (λ (b : List ℕ). written b c.args.out.now) (sym (sheet-refused _ _ c.parse-got.new.nodes c.parse-got.new.errors c.parse-got.new.expected c.parse-got.ensures.same c.in-Err.is c.number.ensures))
