use Rattle.std.proofs.Common.{sym, ◌∙◌}
use Rattle.types.proofs.LitPaths as paths
use Rattle.cursor.proofs.Exits.{exits}
use Rattle.types.proofs.lits.ident.Goals as goal

pub returns-in_default-clause-ended : goal.returns-in_default-clause-ended
returns-in_default-clause-ended c = rw c.unexpected.ensures (sym (paths.ident-out _ _ _ (sym c.current_range.ensures ∙ c.in_default.is)))

pub returns-in_err-expect-clause-ended : goal.returns-in_err-expect-clause-ended
returns-in_err-expect-clause-ended c = exits c.expect.new.self _ _ c.from_residual.ensures (sym (paths.ident-failed _ _ _ (sym c.in-Some.ensures) (sym c.in_err-expect.ensures.ended)))

pub returns-clause-ended : goal.returns-clause-ended
returns-clause-ended c = c.append.ensures.ended ∙ sym (paths.ident-on _ _ _ (sym c.in-Some.ensures) (sym c.in_ok-expect.ensures.ended))
