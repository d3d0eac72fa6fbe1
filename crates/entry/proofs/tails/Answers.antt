-- `tails` meets its contract. The invariant: the tails left decide what all of them decide.
use Rattle.std.proofs.Common.{◌≡◌, ◌-◌, ◌+◌, sym, ◌∙◌, arith}
use Rattle.entry.proofs.Fits as fit
use Rattle.entry.proofs.tails.Goals as goal

pub overflow_add-at : goal.overflow_add-at
overflow_add-at c = omega (arith, c.loop-i.invariant.within)

pub returns-then-not-byte_in : goal.returns-then-not-byte_in
returns-then-not-byte_in c = sym (c.loop-i.invariant.same ∙ fit.tails-not c.args.text.now (c.args.at + c.loop-i.i) (c.args.count - c.loop-i.i) (omega arith) (sym c.byte_in.ensures ∙ c.if-not-byte_in.true))

pub loop-i-preserved : goal.loop-i-preserved
loop-i-preserved c =
    let tail = sym c.byte_in.ensures ∙ c.if-not-byte_in.false in
    let further : c.args.at + c.loop-i.i + 1 ≡ c.args.at + (c.loop-i.i + 1) = omega arith in
    let fewer : c.args.count - c.loop-i.i - 1 ≡ c.args.count - (c.loop-i.i + 1) = omega arith in
    record {
      same = c.loop-i.invariant.same ∙ fit.tails-more c.args.text.now (c.args.at + c.loop-i.i) (c.args.count - c.loop-i.i) (omega arith) tail ∙ rw (further, fewer);
      within = omega (arith, fit.fits-within _ _ c.args.text.now (c.args.at + c.loop-i.i) tail);
    }

pub returns : goal.returns
returns c = sym (c.loop-i.invariant.same ∙ fit.tails-none c.args.text.now _ (c.args.count - c.loop-i.i) (omega arith))
