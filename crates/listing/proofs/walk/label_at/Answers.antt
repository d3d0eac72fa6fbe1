-- `listing::walk::label_at` meets its contract.
-- Assumes nothing.
use Rattle.listing.proofs.Walks as ways
use Rattle.listing.proofs.walk.label_at.Goals as goal

pub returns : goal.returns
returns c = ways.label-words _ _ c.word_at.ensures c.word_at-2.ensures c.word_at-3.ensures c.word_at-4.ensures c.word_at-5.ensures c.word_at-6.ensures
