-- `listing::lines::put_found` meets its contract.
-- Assumes nothing.
use Rattle.listing.proofs.LineWays as ways
use Rattle.listing.proofs.lines.put_found.Goals as goal
use Rattle.listing.proofs.lines.put_found.Goals.{then-class-eq-FAULTY_INT, else-class-eq-FAULTY_INT}

pub returns : goal.returns
returns c = elim c.if-class-eq-FAULTY_INT.branch [
  | then-class-eq-FAULTY_INT w ↦ ways.found-int _ _ _ w.if-class-eq-FAULTY_INT.true w.put_bytes.ensures (rw w.page-is at c.put_field.ensures)
  | else-class-eq-FAULTY_INT w ↦ ways.found-kind _ _ _ w.if-class-eq-FAULTY_INT.false (rw w.page-is at c.put_field.ensures)
]
