-- `answer::refused` meets its contract: there is always room.
-- Assumes nothing.
use Rattle.std.proofs.Common.{arith}
use Rattle.answer.proofs.Ways.{refusal-fits}
use Rattle.answer.proofs.refused.Goals as goal

pub unwrap-requires : goal.unwrap-requires
unwrap-requires c = refusal-fits _ c.args.out.now _ c.args.number (omega arith) c.told-out c.refusal.ensures
