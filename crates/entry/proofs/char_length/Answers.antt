-- `char_length` meets its contract.
use Rattle.std.proofs.Common.{sym, ◌∙◌}
use Rattle.entry.proofs.Fits as fit
use Rattle.entry.proofs.char_length.Goals as goal

pub returns-then-at-text : goal.returns-then-at-text
returns-then-at-text c = c.row_length.ensures ∙ sym (fit.char-here c.args.text.now c.args.at c.if-at-text.true)

pub returns-else-at-text : goal.returns-else-at-text
returns-else-at-text c = sym (fit.char-past _ _ c.if-at-text.false)
