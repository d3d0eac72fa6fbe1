-- `listing::lines::error_line` meets its contract.
-- Assumes nothing.
use Rattle.listing.proofs.LineWays as ways
use Rattle.listing.proofs.lines.error_line.Goals as goal

pub returns : goal.returns
returns c = ways.error-line _ _ _ _ c.word_at.ensures c.word_at-2.ensures c.word_at-3.ensures c.word_at-4.ensures c.word_at-5.ensures c.word_at-6.ensures
    c.put_bytes.ensures c.put_found.ensures c.put_field.ensures c.put_field-2.ensures c.put_kinds.ensures c.put_byte.ensures
