-- where the end of the line is missing, it ends as the logging does
use Rattle.std.proofs.Common.{sym, ap, ◌∙◌, refl}
use Rattle.parts.proofs.RecoveryPaths as paths
use Rattle.cursor.specs.Answers.{ended}
use Rattle.parts.proofs.recovery.line_end.Goals as goal

pub returns-in-Ok-clause-ended : goal.returns-in-Ok-clause-ended
returns-in-Ok-clause-ended c = let q = ap (ended c.expect-said.new.self) c.in-Ok.is in q ∙ sym (paths.line-there _ _ _ (sym c.expect-said.ensures.ended ∙ q))

pub returns-in-Err-Refused-clause-ended : goal.returns-in-Err-Refused-clause-ended
returns-in-Err-Refused-clause-ended c = let q = ap (ended c.expect-said.new.self) (paths.told-apart c.in-Err-Refused.is (rw c.in-Err-Refused.is at c.in-Err-Refused.field-0-is)) in q ∙ sym (paths.line_refused _ _ _ (sym c.expect-said.ensures.ended ∙ q))

pub returns-in-Err-Fault-clause-ended : goal.returns-in-Err-Fault-clause-ended
returns-in-Err-Fault-clause-ended c = sym (paths.line-missing _ _ _ _ (sym c.expect-said.ensures.ended ∙ ap (ended c.expect-said.new.self) (paths.told-apart c.in-Err-Fault.is (rw c.in-Err-Fault.is at c.in-Err-Fault.field-0-is))) refl c.log_error.ensures.ended)
