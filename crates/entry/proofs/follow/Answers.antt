-- `follow` meets its contract.
use Rattle.std.proofs.Common.{sym, ◌∙◌, arith}
use Rattle.entry.proofs.Fits as fit
use Rattle.entry.proofs.follow.Goals as goal

pub returns-then-not-byte_in : goal.returns-then-not-byte_in
returns-then-not-byte_in c = sym (fit.fits-first-not _ _ _ (sym c.byte_in.ensures ∙ c.if-not-byte_in.true))

pub overflow_add-at : goal.overflow_add-at
overflow_add-at c = omega (arith, fit.fits-within _ _ c.args.text.now c.args.at (sym c.byte_in.ensures ∙ c.if-not-byte_in.false))

pub returns : goal.returns
returns c = c.tails.ensures ∙ sym (fit.follow-on _ _ c.args.text.now c.args.at (sym c.byte_in.ensures ∙ c.if-not-byte_in.false))
