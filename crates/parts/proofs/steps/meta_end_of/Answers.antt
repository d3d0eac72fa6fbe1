use Rattle.std.proofs.Common.{sym, ap, arith}
use Rattle.parts.specs.Forms.{opens}
use Rattle.parts.proofs.StepPaths as paths
use Rattle.cursor.proofs.Exits.{exits}
use Rattle.parts.proofs.steps.meta_end_of.Goals as goal

pub returns-in_err-expect-in-Bracket-clause-ended : goal.returns-in_err-expect-in-Bracket-clause-ended
returns-in_err-expect-in-Bracket-clause-ended c = let p = ap opens c.in-Bracket.is in exits c.expect.new.self _ _ c.from_residual.ensures (sym (paths.meta-open _ _ _ _ (omega arith) (sym c.in_err-expect-in-Bracket.ensures.ended)))

pub returns-in_ok-expect-in-Bracket-clause-ended : goal.returns-in_ok-expect-in-Bracket-clause-ended
returns-in_ok-expect-in-Bracket-clause-ended c = let p = ap opens c.in-Bracket.is in sym (paths.meta-closed _ _ _ _ (omega arith) (sym c.in_ok-expect-in-Bracket.ensures.ended))

pub returns-in-Dot-clause-ended : goal.returns-in-Dot-clause-ended
returns-in-Dot-clause-ended c = let p = ap opens c.in-Dot.is in sym (paths.meta-bare _ _ _ _ (omega arith))

pub returns-in-DoubleColon-clause-ended : goal.returns-in-DoubleColon-clause-ended
returns-in-DoubleColon-clause-ended c = let p = ap opens c.in-DoubleColon.is in sym (paths.meta-bare _ _ _ _ (omega arith))
