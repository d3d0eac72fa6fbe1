use Rattle.std.proofs.Common.{rules, sym, ap}
use Rattle.parts.proofs.StepPaths as paths
use Rattle.cursor.proofs.Exits.{exits}
use Rattle.parts.specs.declared.forms.Form.TheVariants as forms
use Rattle.parts.specs.Forms.{place}
use Rattle.parts.proofs.FormPlaces.{one-place}
use Rattle.parts.proofs.steps.loop_names_of.Goals as goal

pub returns-in-While-clause-ended : goal.returns-in-While-clause-ended
returns-in-While-clause-ended c = sym (paths.loop-while _ _ _ _ (ap place c.in-While.is))

pub returns-in_err-kids-in_default : goal.returns-in_err-kids-in_default
returns-in_err-kids-in_default c = record { ended = exits c.names.new.p _ _ c.from_residual.ensures (sym (paths.loop-lost _ _ _ _ (λ q. c.in_default.not-While (one-place _ forms.While q)) (sym c.in_err-kids-in_default.ensures.ended))); lent = search rules }

pub returns-in_err-expect-in_default : goal.returns-in_err-expect-in_default
returns-in_err-expect-in_default c = record { ended = exits c.expect.new.self _ _ c.from_residual-in_err-expect-in_default.ensures (sym (paths.loop-bare _ _ _ _ (λ q. c.in_default.not-While (one-place _ forms.While q)) (sym c.in_ok-kids-in_default.ensures.ended) (sym c.in_err-expect-in_default.ensures.ended))); lent = search rules }

pub returns-in_ok-expect-in_default : goal.returns-in_ok-expect-in_default
returns-in_ok-expect-in_default c = record { ended = sym (paths.loop-on _ _ _ _ (λ q. c.in_default.not-While (one-place _ forms.While q)) (sym c.in_ok-kids-in_default.ensures.ended) (sym c.in_ok-expect-in_default.ensures.ended)); lent = search rules }
