-- `listing::page::Page::put_integer` meets its contract.
-- Assumes nothing.
use Rattle.std.proofs.Common.{arith}
use Rattle.listing.proofs.Written as ways
use Rattle.listing.proofs.page.Page.put_integer.Goals as goal

pub returns-then-bits-lt9223372036854775808 : goal.returns-then-bits-lt9223372036854775808
returns-then-bits-lt9223372036854775808 c = rw (← c.from.ensures, ← c.from-2.ensures) (ways.integer-plus _ _ c.if-bits-lt9223372036854775808.true c.put_number.ensures)

pub returns-else-bits-lt9223372036854775808 : goal.returns-else-bits-lt9223372036854775808
returns-else-bits-lt9223372036854775808 c = rw (← c.from.ensures, ← c.from-2.ensures) (ways.integer-minus _ _ c.if-bits-lt9223372036854775808.false (omega arith) c.put_byte.ensures c.put_number-else-bits-lt9223372036854775808.ensures)
