use Rattle.std.proofs.Common.{sym}
use Rattle.parts.proofs.RecordPaths as paths
use Rattle.types.proofs.TurnExits.{turn-exits}
use Rattle.parts.proofs.records.call_record.Goals as goal

pub returns-in_err-link-clause-ended : goal.returns-in_err-link-clause-ended
returns-in_err-link-clause-ended c = turn-exits (λ a. a) (λ a. a) c.close.new.p _ _ c.from_residual.ensures (sym (paths.call-failed _ _ _ _ _ c.flagged-flags.ensures c.add_some-all.ensures.ended (sym c.in_err-link.ensures.ended)))

pub returns-clause-ended : goal.returns-clause-ended
returns-clause-ended c = sym (paths.call-on _ _ _ _ _ c.flagged-flags.ensures c.add_some-all.ensures.ended (sym c.in_ok-link.ensures.ended))
