-- `listing::page::Page::put_bytes` meets its contract. The invariant: what is left of the word from here gives what the whole gives.
-- Assumes nothing.
use Rattle.std.proofs.Common.{sym, ◌∙◌, arith}
use Rattle.listing.proofs.Pages as pages
use Rattle.listing.proofs.page.Page.put_bytes.Goals as goal

pub loop-b-preserved : goal.loop-b-preserved
loop-b-preserved c = c.loop-b.invariant ∙ pages.word_on c.args.word.now c.loop-b.b-index _ (omega arith) c.put_byte.ensures

pub returns : goal.returns
returns c = sym (c.loop-b.invariant ∙ pages.word_end c.args.word.now c.loop-b.b-index _ (omega arith))
