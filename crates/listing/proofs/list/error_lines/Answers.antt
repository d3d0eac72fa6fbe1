-- `listing::list::error_lines` meets its contract. The invariant: what is left of the errors from here gives what all give.
-- Assumes nothing.
use Rattle.std.proofs.Common.{sym, ◌∙◌, refl, arith}
use native.Mathlib.Nat.{sub-zero}
use Rattle.listing.proofs.Walks as ways
use Rattle.listing.proofs.list.error_lines.Goals as goal

pub loop-i-init : goal.loop-i-init
loop-i-init c = rw sub-zero refl

pub loop-i-preserved : goal.loop-i-preserved
loop-i-preserved c = c.loop-i.invariant ∙ ways.errors-on c.args.errors.now c.args.expected.now c.loop-i.i _ _ (omega arith) c.error_line.ensures

pub returns : goal.returns
returns c = sym (ways.errors-all _ _ _ _ c.within-i-end.ensures ∙ c.loop-i.invariant ∙ ways.errors-end c.args.errors.now c.args.expected.now c.loop-i.i _ _ (omega arith))
