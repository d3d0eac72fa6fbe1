-- `pieces::fill` meets its contract. The invariant: what stands in front of the room is what was taken from the reader.
-- Assumes nothing.
use Rattle.std.proofs.Common.{◌-◌, length, rules, subst, sym}
use Rattle.std.specs.Io.KnownBytes.{Consumes}
use Rattle.std.proofs.KnownBytes.{Consumes-trans}
use Rattle.pieces.proofs.Filled.{take-filled}
use Rattle.pieces.proofs.fill.Goals as goal

pub loop-done-preserved : goal.loop-done-preserved
loop-done-preserved g c =
    let joined = take-filled c.loop-done.done (length c.loop-done.room - c.loop-done.done) c.in-Ok.n c.loop-done.room c.read.new.buf c.loop-done.invariant.0 c.in-Ok.ensures.bound.0 in
    (search rules, subst (Consumes _ _) (sym joined) (Consumes-trans _ _ _ _ _ c.loop-done.invariant.1 c.in-Ok.ensures.bytes.0))
