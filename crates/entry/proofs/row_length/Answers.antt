-- `row_length` meets its contract: each arm is a row of the syntax, and the last one the first bytes of none.
use Rattle.std.proofs.Common.{sym, refl, arith}
use Rattle.entry.proofs.Fits as fit
use lib.Dec.{lit<}
use Rattle.entry.proofs.row_length.Goals as goal

pub returns-in-224 : goal.returns-in-224
returns-in-224 c = fit.by_row 3 c.whole.ensures c.follow.ensures (fit.char-row _ _ 2 refl (lit< tt) (omega arith) (omega arith))

pub returns-in-237 : goal.returns-in-237
returns-in-237 c = fit.by_row 3 c.whole-in-237.ensures c.follow-in-237.ensures (fit.char-row _ _ 4 refl (lit< tt) (omega arith) (omega arith))

pub returns-in-240 : goal.returns-in-240
returns-in-240 c = fit.by_row 4 c.whole-in-240.ensures c.follow-in-240.ensures (fit.char-row _ _ 6 refl (lit< tt) (omega arith) (omega arith))

pub returns-in-244 : goal.returns-in-244
returns-in-244 c = fit.by_row 4 c.whole-in-244.ensures c.follow-in-244.ensures (fit.char-row _ _ 8 refl (lit< tt) (omega arith) (omega arith))

pub returns-in-0-to-127 : goal.returns-in-0-to-127
returns-in-0-to-127 c = sym (fit.char-ascii _ _ (omega arith))

pub returns-in-194-to-223 : goal.returns-in-194-to-223
returns-in-194-to-223 c = fit.by_row 2 c.whole-in-194-to-223.ensures c.follow-in-194-to-223.ensures (fit.char-row _ _ 1 refl (lit< tt) (omega arith) (omega arith))

pub returns-in-225-to-236 : goal.returns-in-225-to-236
returns-in-225-to-236 c = fit.by_row 3 c.whole-in-225-to-236.ensures c.follow-in-225-to-236.ensures (fit.char-row _ _ 3 refl (lit< tt) (omega arith) (omega arith))

pub returns-in-238-to-239 : goal.returns-in-238-to-239
returns-in-238-to-239 c = fit.by_row 3 c.whole-in-238-to-239.ensures c.follow-in-238-to-239.ensures (fit.char-row _ _ 5 refl (lit< tt) (omega arith) (omega arith))

pub returns-in-241-to-243 : goal.returns-in-241-to-243
returns-in-241-to-243 c = fit.by_row 4 c.whole-in-241-to-243.ensures c.follow-in-241-to-243.ensures (fit.char-row _ _ 7 refl (lit< tt) (omega arith) (omega arith))

pub returns-in_default : goal.returns-in_default
returns-in_default c = sym (fit.char-none _ _ 0x80 0xC1 refl (omega arith) (omega arith))

pub returns-in_default-2 : goal.returns-in_default-2
returns-in_default-2 c = sym (fit.char-none _ _ 0xF5 0xFF refl (omega arith) (omega arith))
