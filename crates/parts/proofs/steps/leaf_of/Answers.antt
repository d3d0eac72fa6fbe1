use Rattle.std.proofs.Common.{rules, sym, ap, ◌∙◌}
use Rattle.parts.proofs.StepPaths as paths
use Rattle.cursor.proofs.Exits.{exits}
use Rattle.parts.specs.declared.forms.Form.TheVariants as forms
use Rattle.parts.specs.Forms.{place}
use Rattle.parts.proofs.FormPlaces.{one-place}
use Rattle.parts.proofs.steps.leaf_of.Goals as goal

pub returns-in_err-bump-clause-ended : goal.returns-in_err-bump-clause-ended
returns-in_err-bump-clause-ended c = exits c.bump.new.self _ _ c.from_residual.ensures (sym (paths.leaf-spent _ _ _ _ _ (sym c.in_err-bump.ensures.ended)))

pub returns-in-Break-clause-ended : goal.returns-in-Break-clause-ended
returns-in-Break-clause-ended c = c.close.ensures.ended ∙ sym (paths.leaf-break _ _ _ _ _ (sym c.in_ok-bump.ensures.ended) (ap place c.in-Break.is))

pub returns-in_default : goal.returns-in_default
returns-in_default c = record { ended = c.close-in_default.ensures.ended ∙ sym (paths.leaf-continue _ _ _ _ _ (sym c.in_ok-bump.ensures.ended) (λ q. c.in_default.not-Break (one-place _ forms.Break q))); lent = search rules }
