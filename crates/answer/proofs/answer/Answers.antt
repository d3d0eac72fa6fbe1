-- `answer::answer` meets its contract: each way out is its path lemma, and what was written is the rule's.
-- Assumes nothing.
use Rattle.std.proofs.Common.{sym, ◌∙◌, ap, List, ℕ}
use Rattle.listing.specs.Answers.{written}
use Rattle.answer.proofs.Ways.{answer-sheet, answer-none}
use Rattle.answer.proofs.answer.Goals as goal

pub returns-in-Some : goal.returns-in-Some
returns-in-Some c = c.sheet.ensures ∙ ap (λ (b : List ℕ). written b c.args.out.now) (sym (answer-sheet _ c.in-Some.ensures.sheet))

pub returns-in-None : goal.returns-in-None
returns-in-None c = c.refused.ensures ∙ ap (λ (b : List ℕ). written b c.args.out.now) (sym (answer-none _ c.in-None.ensures.sheet))
