-- each step may fail, and the last one builds the records
use Rattle.std.proofs.Common.{sym, ◌∙◌}
use Rattle.parts.proofs.EffectPaths as paths
use Rattle.cursor.proofs.Exits.{exits}
use Rattle.parts.proofs.effects.effect_stmt.Goals as goal

pub returns-in_err-expect-clause-ended : goal.returns-in_err-expect-clause-ended
returns-in_err-expect-clause-ended c = exits c.expect.new.self _ _ c.from_residual.ensures (sym (paths.stmt-shut _ _ _ _ _ _ c.start_range-inside.ensures (sym c.in_err-expect.ensures.ended)))

pub returns-in_err-name-clause-ended : goal.returns-in_err-name-clause-ended
returns-in_err-name-clause-ended c = exits c.ident.new.p _ _ c.from_residual-in_err-name.ensures (sym (paths.stmt-nameless _ _ _ _ _ _ c.start_range-inside.ensures (sym c.in_ok-expect.ensures.ended) (sym c.in_err-name.ensures.ended)))

pub returns-in_err-items-clause-ended : goal.returns-in_err-items-clause-ended
returns-in_err-items-clause-ended c = exits c.params.new.p _ _ c.from_residual-in_err-items.ensures (sym (paths.stmt-failed _ _ _ _ _ _ c.start_range-inside.ensures (sym c.in_ok-expect.ensures.ended) (sym c.in_ok-name.ensures.ended) (sym c.in_err-items.ensures.ended)))

pub returns-in_err-link-clause-ended : goal.returns-in_err-link-clause-ended
returns-in_err-link-clause-ended c = exits c.returns.new.p _ _ c.from_residual-in_err-link.ensures (sym (paths.stmt-lost _ _ _ _ _ _ c.start_range-inside.ensures (sym c.in_ok-expect.ensures.ended) (sym c.in_ok-name.ensures.ended) (sym c.in_ok-items.ensures.ended) (sym c.in_err-link.ensures.ended)))

pub returns-clause-ended : goal.returns-clause-ended
returns-clause-ended c = c.effect_record.ensures.ended ∙ sym (paths.stmt-on _ _ _ _ _ _ c.start_range-inside.ensures (sym c.in_ok-expect.ensures.ended) (sym c.in_ok-name.ensures.ended) (sym c.in_ok-items.ensures.ended) (sym c.in_ok-link.ensures.ended))
