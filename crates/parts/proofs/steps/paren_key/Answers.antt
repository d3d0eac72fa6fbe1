use Rattle.std.proofs.Common.{sym, ◌∙◌}
use Rattle.parts.proofs.StepPaths as paths
use Rattle.cursor.proofs.Exits.{exits}
use Rattle.parts.proofs.steps.paren_key.Goals as goal

pub returns-in_err-expect-clause-ended : goal.returns-in_err-expect-clause-ended
returns-in_err-expect-clause-ended c = exits c.expect.new.self _ _ c.from_residual.ensures (sym (paths.paren-key-open _ _ _ _ _ (sym c.in_err-expect.ensures.ended)))

pub returns-in_err-expect-2-clause-ended : goal.returns-in_err-expect-2-clause-ended
returns-in_err-expect-2-clause-ended c = exits c.expect-2.new.self _ _ c.from_residual-in_err-expect-2.ensures (sym (paths.paren-key-bare _ _ _ _ _ (sym c.in_ok-expect.ensures.ended) (sym c.in_err-expect-2.ensures.ended)))

pub returns-clause-ended : goal.returns-clause-ended
returns-clause-ended c = c.append.ensures.ended ∙ sym (paths.paren-key-on _ _ _ _ _ (sym c.in_ok-expect.ensures.ended) (sym c.in_ok-expect-2.ensures.ended))
