use Rattle.std.proofs.Common.{sym, ◌∙◌}
use Rattle.parts.proofs.RecordPaths as paths
use Rattle.types.proofs.ItemPaths.{is-ended-is-some}
use Rattle.types.proofs.TurnExits.{turn-exits}
use Rattle.parts.proofs.records.member_record_of.Goals as goal

pub returns-in_err-member-clause-ended : goal.returns-in_err-member-clause-ended
returns-in_err-member-clause-ended c = turn-exits (λ a. a) (λ a. a) c.close.new.p _ _ c.from_residual.ensures (sym (paths.member-failed _ _ _ _ _ _ _ c.link.ensures c.add-one.ensures.ended c.add_some-all.ensures.ended c.span_of-mark.ensures c.member_at.ensures (c.is_some.ensures ∙ is-ended-is-some _) c.flagged-flags.ensures (sym c.in_err-member.ensures.ended)))

pub returns-clause-ended : goal.returns-clause-ended
returns-clause-ended c = sym (paths.member-on _ _ _ _ _ _ _ c.link.ensures c.add-one.ensures.ended c.add_some-all.ensures.ended c.span_of-mark.ensures c.member_at.ensures (c.is_some.ensures ∙ is-ended-is-some _) c.flagged-flags.ensures (sym c.in_ok-member.ensures.ended) c.member_of.ensures)
