use Rattle.std.proofs.Common.{sym, ◌∙◌}
use Rattle.types.proofs.TypePaths as paths
use Rattle.cursor.proofs.Exits.{exits}
use Rattle.types.proofs.types.params.Goals as goal

pub returns-in_err-expect-clause-ended : goal.returns-in_err-expect-clause-ended
returns-in_err-expect-clause-ended c = exits c.expect.new.self _ _ c.from_residual.ensures (sym (paths.params-shut _ _ _ _ _ (sym c.in_err-expect.ensures.ended)))

pub returns-clause-ended : goal.returns-clause-ended
returns-clause-ended c = c.type_items_of.ensures.ended ∙ sym (paths.params-on _ _ _ _ _ (sym c.in_ok-expect.ensures.ended))
