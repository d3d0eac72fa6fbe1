-- as `while` or as `for`
use Rattle.std.proofs.Common.{rules, sym, ap, ◌∙◌}
use Rattle.parts.proofs.RecordPaths as paths
use Rattle.parts.specs.declared.forms.Form.TheVariants as forms
use Rattle.parts.specs.Forms.{place}
use Rattle.parts.proofs.FormPlaces.{one-place}
use Rattle.parts.proofs.records.round_record_of.Goals as goal

pub returns-in-While-clause-ended : goal.returns-in-While-clause-ended
returns-in-While-clause-ended c = c.close.ensures.ended ∙ sym (paths.round-while _ _ _ _ _ _ (ap place c.in-While.is))

pub returns-in_default : goal.returns-in_default
returns-in_default c = record { ended = c.close-in_default.ensures.ended ∙ sym (paths.round-for _ _ _ _ _ _ (λ q. c.in_default.not-While (one-place _ forms.While q)) c.flagged-flags.ensures); lent = search rules }
