-- a turn of its loop is a turn of the rule
use Rattle.std.proofs.Common.{rules, sym, ◌∙◌}
use Rattle.parts.proofs.StepPaths as paths
use Rattle.parts.proofs.StepTakes.{names-take}
use Rattle.cursor.proofs.Loops as loops
use Rattle.cursor.proofs.Exits.{exits}
use Rattle.parts.proofs.steps.names.Goals as goal

pub returns-in_err-link-clause-ended : goal.returns-in_err-link-clause-ended
returns-in_err-link-clause-ended c = exits c.ident.new.p _ _ c.from_residual.ensures (sym (paths.names-are _ _ _ ∙ c.loop-link.invariant.rest ∙ loops.loop-failed _ _ (paths.name-failed _ _ _ _ (sym c.in_err-link.ensures.ended))))

pub returns-in_err-eat-clause-ended : goal.returns-in_err-eat-clause-ended
returns-in_err-eat-clause-ended c = exits c.eat.new.self _ _ c.from_residual-in_err-eat.ensures (sym (paths.names-are _ _ _ ∙ c.loop-link.invariant.rest ∙ loops.loop-failed _ _ (paths.name-full _ _ _ _ (sym c.in_ok-link.ensures.ended) c.add-kids.ensures.ended (sym c.in_err-eat.ensures.ended))))

pub returns-then-not-branch-clause-ended : goal.returns-then-not-branch-clause-ended
returns-then-not-branch-clause-ended c = sym (paths.names-are _ _ _ ∙ c.loop-link.invariant.rest ∙ loops.loop-stop _ _ (paths.name-stop _ _ _ _ (sym c.in_ok-link.ensures.ended) c.add-kids.ensures.ended (sym (rw c.if-not-branch.true at c.in_ok-eat.ensures.ended))))

pub loop-link-smaller : goal.loop-link-smaller
loop-link-smaller c = loops.loop-less _ _ (names-take _) (paths.name-more _ _ _ _ (sym c.in_ok-link.ensures.ended) c.add-kids.ensures.ended (sym (rw c.if-not-branch.false at c.in_ok-eat.ensures.ended)))

pub loop-link-preserved : goal.loop-link-preserved
loop-link-preserved c = record { rest = c.loop-link.invariant.rest ∙ loops.loop-more _ _ (names-take _) (paths.name-more _ _ _ _ (sym c.in_ok-link.ensures.ended) c.add-kids.ensures.ended (sym (rw c.if-not-branch.false at c.in_ok-eat.ensures.ended))); lent = search rules }
