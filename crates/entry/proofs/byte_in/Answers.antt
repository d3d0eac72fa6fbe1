-- `byte_in` meets its contract: each way out is one case of what the form says there.
use Rattle.std.proofs.Common.{◌≡◌, ◌<◌, ◌≤◌, length, get_or, sym, ◌∙◌, arith}
use Rattle.std.proofs.lemmas.Grind.{common_steps}
use borrow.Author.Tests.{lt-leb}
use Rattle.entry.proofs.Fits as fit
use Rattle.entry.proofs.byte_in.Goals as goal

pub returns-then-low-b : goal.returns-then-low-b
returns-then-low-b c =
    let h : c.args.at < length c.args.text.now = grind (arith, common_steps) in
    let b : c.in-Some.field-0.now ≡ get_or c.args.text.now c.args.at 0 = grind (arith, common_steps) in
    rw b (sym (fit.byte-from _ _ _ h (rw b at c.if-low-b.true)))

pub returns-else-low-b : goal.returns-else-low-b
returns-else-low-b c =
    let h : c.args.at < length c.args.text.now = grind (arith, common_steps) in
    let b : c.in-Some.field-0.now ≡ get_or c.args.text.now c.args.at 0 = grind (arith, common_steps) in
    lt-leb c.args.low c.in-Some.field-0.now c.if-low-b.false ∙ sym (fit.byte-below _ _ _ h (rw b at c.if-low-b.false))

pub returns-in-None : goal.returns-in-None
returns-in-None c =
    let h : length c.args.text.now ≤ c.args.at = grind (arith, common_steps) in
    sym (fit.fits-past _ _ _ _ h)
