use Rattle.std.proofs.Common.{sym}
use Rattle.parts.proofs.StepPaths as paths
use Rattle.cursor.proofs.Exits.{exits}
use Rattle.parts.proofs.steps.lit_key.Goals as goal

pub returns-in_err-link-clause-ended : goal.returns-in_err-link-clause-ended
returns-in_err-link-clause-ended c = exits c.lit.new.p _ _ c.from_residual.ensures (sym (paths.lit-key-failed _ _ _ (sym c.in_err-link.ensures.ended)))

pub returns-in_err-expect-clause-ended : goal.returns-in_err-expect-clause-ended
returns-in_err-expect-clause-ended c = exits c.expect.new.self _ _ c.from_residual-in_err-expect.ensures (sym (paths.lit-key-bare _ _ _ (sym c.in_ok-link.ensures.ended) (sym c.in_err-expect.ensures.ended)))

pub returns-clause-ended : goal.returns-clause-ended
returns-clause-ended c = sym (paths.lit-key-on _ _ _ (sym c.in_ok-link.ensures.ended) (sym c.in_ok-expect.ensures.ended))
