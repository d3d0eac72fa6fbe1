-- An atom by a place: as its form, and past the chain no name.
use Rattle.std.proofs.Common.{sym}
use Rattle.parts.proofs.NumberPaths.{atom-past}
use Rattle.parts.proofs.records.atom_expr.Goals as goal

pub returns-in-None : goal.returns-in-None
returns-in-None c = sym (atom-past _ c.in-None.ensures _)
