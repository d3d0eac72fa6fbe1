use Rattle.std.proofs.Common.{sym}
use Rattle.types.proofs.ItemPaths as paths
use Rattle.cursor.proofs.Exits.{exits}
use Rattle.types.proofs.items.after_last.Goals as goal

pub returns-in_err-eat_eol-clause-ended : goal.returns-in_err-eat_eol-clause-ended
returns-in_err-eat_eol-clause-ended c = exits c.eat_eol.new.self _ _ c.from_residual.ensures (sym (paths.last-spent _ _ _ _ _ (sym c.in_err-eat_eol.ensures.ended)))

pub returns-in_err-expect-clause-ended : goal.returns-in_err-expect-clause-ended
returns-in_err-expect-clause-ended c = exits c.expect.new.self _ _ c.from_residual-in_err-expect.ensures (sym (paths.last-open _ _ _ _ _ (sym c.in_ok-eat_eol.ensures.ended) (sym c.in_err-expect.ensures.ended)))

pub returns-clause-ended : goal.returns-clause-ended
returns-clause-ended c = sym (paths.last_on _ _ _ _ _ (sym c.in_ok-eat_eol.ensures.ended) (sym c.in_ok-expect.ensures.ended))
