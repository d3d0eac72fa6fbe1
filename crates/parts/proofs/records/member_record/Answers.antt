-- The record of a member by a place: as its opening token's, and past the chain that of `[x]`, meta or not.
use Rattle.std.proofs.Common.{arith}
use Rattle.parts.proofs.RecordPaths.{kind-none}
use Rattle.parts.proofs.records.member_record.Goals as goal

pub returns-in-None-clause-ended : goal.returns-in-None-clause-ended
returns-in-None-clause-ended c = let h = c.in-None.ensures in rw (kind-none c.args.which c.args.meta (omega (arith, h))) c.member_record_of-in-None.ensures.ended
