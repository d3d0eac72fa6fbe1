-- `listing::list::refusal` meets its contract. The page still holds the buffer that was lent, so that the buffer ends as the page's.
-- Assumes nothing.
use Rattle.std.proofs.Common.{refl, rules}
use Rattle.listing.proofs.Answered as ways
use Rattle.listing.proofs.Pages.{same_buffer}
use Rattle.listing.proofs.list.refusal.Goals as goal

pub returns-then-out-measured : goal.returns-then-out-measured
returns-then-out-measured c = ways.no_room _ _ _ c.refusal_line.ensures refl refl c.if-out-measured.true

pub returns : goal.returns
returns c =
    let same = same_buffer _ _ c.refusal_line-2.ensures in
    let bytes = ways.with-room _ _ _ c.refusal_line.ensures refl refl _ c.if-out-measured.false c.refusal_line-2.ensures refl refl refl in
    search rules
