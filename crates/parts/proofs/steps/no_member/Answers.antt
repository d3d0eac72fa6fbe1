use Rattle.std.proofs.Common.{sym, ◌∙◌}
use Rattle.parts.proofs.StepPaths as paths
use Rattle.types.proofs.ItemPaths.{is-ended-is-some}
use Rattle.parts.proofs.steps.no_member.Goals as goal

pub returns-then-is_some : goal.returns-then-is_some
returns-then-is_some c = rw c.unexpected.ensures (sym (paths.member-lost _ _ _ _ _ (c.is_some.ensures ∙ is-ended-is-some _) c.if-is_some.true))

pub returns : goal.returns
returns c = sym (paths.member-stop _ _ _ _ _ (c.is_some.ensures ∙ is-ended-is-some _) c.if-is_some.false)
