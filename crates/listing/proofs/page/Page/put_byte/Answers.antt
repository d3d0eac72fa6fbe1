-- `listing::page::Page::put_byte` meets its contract.
-- Assumes nothing.
use Rattle.listing.proofs.Pages as pages
use Rattle.listing.proofs.page.Page.put_byte.Goals as goal
use Rattle.listing.proofs.page.Page.put_byte.Goals.{then-self-2, else-self-2}

pub returns-then-self : goal.returns-then-self
returns-then-self c = pages.byte_full _ _ c.if-self.true

pub returns : goal.returns
returns c = elim c.if-self-2.branch [
  | then-self-2 w ↦ rw w.self-is (pages.byte-on _ _ c.if-self.false)
  | else-self-2 w ↦ rw w.self-is (pages.byte_past _ _ c.if-self.false w.if-self-2.false)
]
