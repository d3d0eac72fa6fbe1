use Rattle.std.proofs.Common.{sym}
use Rattle.cursor.proofs.Exits.{exits}
use Rattle.exprs.proofs.Suffixes.{none-on, none-failed}
use Rattle.exprs.proofs.suffix.no_suffix.Goals as goal

pub returns-in_err-pick_suffix-clause-ended : goal.returns-in_err-pick_suffix-clause-ended
returns-in_err-pick_suffix-clause-ended c = exits c.pick_suffix.new.p _ _ c.from_residual.ensures (sym (none-failed _ _ _ _ _ (sym c.in_err-pick_suffix.ensures.ended)))

pub returns-clause-ended : goal.returns-clause-ended
returns-clause-ended c = sym (none-on _ _ _ _ _ (sym c.in_ok-pick_suffix.ensures.ended))
