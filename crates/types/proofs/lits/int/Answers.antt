use Rattle.std.proofs.Common.{sym}
use Rattle.types.proofs.LitPaths as paths
use Rattle.types.proofs.lits.int.Goals as goal

pub returns-in-Ok : goal.returns-in-Ok
returns-in-Ok c = sym (paths.int-value _ _ c.in-Ok.ensures c.bits-value.ensures)

pub returns-in-Err : goal.returns-in-Err
returns-in-Err c = sym (paths.int-fault _ _ c.in-Err.ensures c.fault_number.ensures)
