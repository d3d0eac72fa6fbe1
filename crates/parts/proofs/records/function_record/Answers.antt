-- as a closure or as a function
use Rattle.std.proofs.Common.{sym, ◌∙◌}
use Rattle.parts.proofs.RecordPaths as paths
use Rattle.types.proofs.ItemPaths.{is-ended-is-some}
use Rattle.parts.proofs.records.function_record.Goals as goal

pub returns-then-closure-clause-ended : goal.returns-then-closure-clause-ended
returns-then-closure-clause-ended c = c.close.ensures.ended ∙ sym (paths.closure-on _ _ _ _ (c.is_some.ensures ∙ is-ended-is-some _) _ _ _ c.flagged-flags.ensures c.add_some-one.ensures.ended c.add-two.ensures.ended c.if-closure.true)

pub returns-clause-ended : goal.returns-clause-ended
returns-clause-ended c = c.close-2.ensures.ended ∙ sym (paths.function-on _ _ _ _ (c.is_some.ensures ∙ is-ended-is-some _) _ _ _ c.flagged-flags.ensures c.add_some-one.ensures.ended c.add-two.ensures.ended c.if-closure.false)
