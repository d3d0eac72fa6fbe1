-- `listing::page::Page::put_number` meets its contract: the digits of the tenth, and the last one. The measure is the number.
-- Assumes nothing.
use Rattle.std.proofs.Common.{refl}
use Rattle.listing.proofs.Written as ways
use Rattle.listing.proofs.page.Page.+put_number.Goals as goal
use Rattle.listing.proofs.page.Page.+put_number.Goals.{then-n-ge10, else-n-ge10}

pub returns : goal.returns
returns t c = elim c.if-n-ge10.branch [
  | then-n-ge10 w ↦ ways.number_more c.args.self.now c.args.n refl w.if-n-ge10.true w.put_number.ensures (rw w.self-is at c.put_byte.ensures)
  | else-n-ge10 w ↦ ways.number-one c.args.self.now c.args.n refl w.if-n-ge10.false (rw w.self-is at c.put_byte.ensures)
]
