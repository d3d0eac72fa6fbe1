-- a way for a statement that was read, for a refusal, and for each end of logging and skipping
use Rattle.std.proofs.Common.{sym, ap, ◌∙◌, refl}
use Rattle.parts.proofs.RecoveryPaths as paths
use Rattle.cursor.proofs.Exits.{exits}
use Rattle.cursor.specs.Answers.{ended}
use Rattle.parts.proofs.recovery.recovered.Goals as goal

pub returns-in-Ok-clause-ended : goal.returns-in-Ok-clause-ended
returns-in-Ok-clause-ended c = let q = ap (ended c.args.p.now) c.in-Ok.is in q ∙ sym (paths.recovering-node _ _ _ q)

pub returns-in-Err-Refused-clause-ended : goal.returns-in-Err-Refused-clause-ended
returns-in-Err-Refused-clause-ended c = let q = ap (ended c.args.p.now) (paths.told-apart c.in-Err-Refused.is (rw c.in-Err-Refused.is at c.in-Err-Refused.field-0-is)) in q ∙ sym (paths.recovering-refused _ _ _ q)

pub returns-in_err-log_error-in-Err-Fault-clause-ended : goal.returns-in_err-log_error-in-Err-Fault-clause-ended
returns-in_err-log_error-in-Err-Fault-clause-ended c = exits c.log_error.new.self _ _ c.from_residual.ensures (sym (paths.recovering-full _ _ _ (ap (ended c.args.p.now) (paths.told-apart c.in-Err-Fault.is (rw c.in-Err-Fault.is at c.in-Err-Fault.field-0-is))) refl (sym c.in_err-log_error-in-Err-Fault.ensures.ended)))

pub returns-in_err-skip-in-Err-Fault-clause-ended : goal.returns-in_err-skip-in-Err-Fault-clause-ended
returns-in_err-skip-in-Err-Fault-clause-ended c = exits c.skip.new.p _ _ c.from_residual-in_err-skip-in-Err-Fault.ensures (sym (paths.recovering-on _ _ _ (ap (ended c.args.p.now) (paths.told-apart c.in-Err-Fault.is (rw c.in-Err-Fault.is at c.in-Err-Fault.field-0-is))) refl (sym c.in_ok-log_error-in-Err-Fault.ensures.ended) ∙ paths.skipped-failed _ _ _ _ (sym c.in_err-skip-in-Err-Fault.ensures.ended)))

pub returns-in_ok-skip-in-Err-Fault-clause-ended : goal.returns-in_ok-skip-in-Err-Fault-clause-ended
returns-in_ok-skip-in-Err-Fault-clause-ended c = sym (paths.recovering-on _ _ _ (ap (ended c.args.p.now) (paths.told-apart c.in-Err-Fault.is (rw c.in-Err-Fault.is at c.in-Err-Fault.field-0-is))) refl (sym c.in_ok-log_error-in-Err-Fault.ensures.ended) ∙ paths.skipped-on _ _ _ _ (sym c.in_ok-skip-in-Err-Fault.ensures.ended))
