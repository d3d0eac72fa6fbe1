-- a turn of its loop is a turn of the rule
use Rattle.std.proofs.Common.{rules, sym, ◌∙◌}
use Rattle.parts.proofs.RecoveryPaths as paths
use Rattle.parts.proofs.SkipTakes.{skip-takes}
use Rattle.cursor.proofs.Loops as loops
use Rattle.cursor.proofs.Exits.{exits}
use Rattle.parts.proofs.recovery.skip.Goals as goal

pub returns-in_err-pick-clause-ended : goal.returns-in_err-pick-clause-ended
returns-in_err-pick-clause-ended c = exits c.pick.new.self _ _ c.from_residual.ensures (sym (paths.skip_is _ _ _ _ ∙ c.loop-p.invariant.rest ∙ loops.loop-failed _ _ (paths.skip-full _ _ _ _ (sym c.in_err-pick.ensures.ended))))

pub returns-then-branch-lt3-clause-ended : goal.returns-then-branch-lt3-clause-ended
returns-then-branch-lt3-clause-ended c = sym (paths.skip_is _ _ _ _ ∙ c.loop-p.invariant.rest ∙ loops.loop-stop _ _ (paths.skip-here _ _ _ _ (sym c.in_ok-pick.ensures.ended) c.if-branch-lt3.true))

pub loop-p-smaller : goal.loop-p-smaller
loop-p-smaller c = loops.loop-less _ _ (skip-takes _ _) (paths.skip-more _ _ _ _ (sym c.in_ok-pick.ensures.ended) c.if-branch-lt3.false (sym c.in_ok-bump.ensures.ended))

pub loop-p-preserved : goal.loop-p-preserved
loop-p-preserved c = record { rest = c.loop-p.invariant.rest ∙ loops.loop-more _ _ (skip-takes _ _) (paths.skip-more _ _ _ _ (sym c.in_ok-pick.ensures.ended) c.if-branch-lt3.false (sym c.in_ok-bump.ensures.ended)); lent = search rules }

pub returns-in_err-bump-clause-ended : goal.returns-in_err-bump-clause-ended
returns-in_err-bump-clause-ended c = exits c.bump.new.self _ _ c.from_residual-in_err-bump.ensures (sym (paths.skip_is _ _ _ _ ∙ c.loop-p.invariant.rest ∙ loops.loop-failed _ _ (paths.skip-spent _ _ _ _ (sym c.in_ok-pick.ensures.ended) c.if-branch-lt3.false (sym c.in_err-bump.ensures.ended))))
