use Rattle.std.proofs.Common.{sym, ◌∙◌}
use Rattle.types.proofs.LitPaths as paths
use Rattle.cursor.proofs.Exits.{exits}
use Rattle.types.proofs.lits.lit.Goals as goal

pub returns-in_default-clause-ended : goal.returns-in_default-clause-ended
returns-in_default-clause-ended c = rw c.unexpected.ensures (sym (paths.lit-out _ _ _ (sym c.current_range.ensures ∙ c.in_default.is)))

pub returns-in-Faulty-clause-ended : goal.returns-in-Faulty-clause-ended
returns-in-Faulty-clause-ended c = sym (paths.lit-faulty _ _ _ (sym c.in-Some.ensures) c.current_kind.ensures c.in-Faulty.ensures)

pub returns-in-Nothing-clause-ended : goal.returns-in-Nothing-clause-ended
returns-in-Nothing-clause-ended c = rw c.unexpected-in-Nothing.ensures (sym (paths.lit-none _ _ _ (sym c.in-Some.ensures) c.current_kind.ensures c.in-Nothing.ensures))

pub returns-in_err-bump-clause-ended : goal.returns-in_err-bump-clause-ended
returns-in_err-bump-clause-ended c = exits c.bump.new.self _ _ c.from_residual.ensures (sym (paths.lit-spent _ _ _ (sym c.in-Some.ensures) c.current_kind.ensures c.in-Value.ensures (sym c.in_err-bump.ensures.ended)))

pub returns-clause-ended : goal.returns-clause-ended
returns-clause-ended c = c.append.ensures.ended ∙ sym (paths.lit-on _ _ _ (sym c.in-Some.ensures) c.current_kind.ensures c.in-Value.ensures (sym c.in_ok-bump.ensures.ended))
