-- the effect, then the statement over its name and it
use Rattle.std.proofs.Common.{sym, ◌∙◌}
use Rattle.parts.proofs.EffectPaths as paths
use Rattle.types.proofs.ItemPaths.{is-ended-is-some}
use Rattle.cursor.proofs.Exits.{exits}
use Rattle.parts.proofs.effects.effect_record.Goals as goal

pub returns-in_err-effect-clause-ended : goal.returns-in_err-effect-clause-ended
returns-in_err-effect-clause-ended c = exits c.close.new.p _ _ c.from_residual.ensures (sym (paths.record-failed _ _ _ _ _ _ _ _ c.add_some-kids.ensures.ended (c.is_some.ensures ∙ is-ended-is-some _) c.flagged-flags.ensures (sym c.in_err-effect.ensures.ended)))

pub returns-clause-ended : goal.returns-clause-ended
returns-clause-ended c = c.close-2.ensures.ended ∙ sym (paths.record-on _ _ _ _ _ _ _ _ c.add_some-kids.ensures.ended (c.is_some.ensures ∙ is-ended-is-some _) c.flagged-flags.ensures (sym c.in_ok-effect.ensures.ended) c.add-one.ensures.ended c.add-two.ensures.ended c.span_of-mark.ensures (c.is_some-2.ensures ∙ is-ended-is-some _) c.flagged-told.ensures)
