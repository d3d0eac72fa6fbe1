-- its own record alone, or one more over it
use Rattle.std.proofs.Common.{sym, ◌∙◌}
use Rattle.parts.proofs.RecordPaths as paths
use Rattle.cursor.proofs.Exits.{exits}
use Rattle.parts.proofs.records.block_record.Goals as goal

pub returns-in_err-link-clause-ended : goal.returns-in_err-link-clause-ended
returns-in_err-link-clause-ended c = exits c.close.new.p _ _ c.from_residual.ensures (sym (paths.block-failed _ _ _ _ _ _ c.flagged-flags.ensures (sym c.in_err-link.ensures.ended)))

pub returns-then-wrap-eq0-clause-ended : goal.returns-then-wrap-eq0-clause-ended
returns-then-wrap-eq0-clause-ended c = sym (paths.block-alone _ _ _ _ _ _ _ c.flagged-flags.ensures c.if-wrap-eq0.true c.in_ok-link.ensures.ended)

pub returns-clause-ended : goal.returns-clause-ended
returns-clause-ended c = c.close-2.ensures.ended ∙ sym (paths.block-wrapped _ _ _ _ _ _ c.flagged-flags.ensures c.if-wrap-eq0.false (sym c.in_ok-link.ensures.ended))
