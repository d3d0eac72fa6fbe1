-- a turn of its loop is a turn of the path
use Rattle.std.proofs.Common.{rules, sym, ◌∙◌}
use Rattle.parts.proofs.ImportPaths as paths
use Rattle.parts.proofs.ImportTakes.{path-takes}
use Rattle.cursor.proofs.Loops as loops
use Rattle.cursor.proofs.Exits.{exits}
use Rattle.parts.proofs.imports.import_stmt.Goals as goal

pub returns-in_err-bump-clause-ended : goal.returns-in_err-bump-clause-ended
returns-in_err-bump-clause-ended c = exits c.bump.new.self _ _ c.from_residual.ensures (sym (paths.import-spent _ _ _ _ (sym c.in_err-bump.ensures.ended)))

pub returns-in_err-longer-clause-ended : goal.returns-in_err-longer-clause-ended
returns-in_err-longer-clause-ended c = exits c.path.new.p _ _ c.from_residual-in_err-longer.ensures (sym (paths.import-failed _ _ _ _ (sym c.in_ok-bump.ensures.ended) (c.loop-longer.invariant.rest ∙ loops.loop-failed _ _ (sym c.in_err-longer.ensures.ended))))

pub loop-longer-smaller : goal.loop-longer-smaller
loop-longer-smaller c = loops.loop-less _ _ (path-takes _) (sym (rw c.in-Continue.is at c.in_ok-longer.ensures.ended))

pub loop-longer-preserved : goal.loop-longer-preserved
loop-longer-preserved c = record { rest = c.loop-longer.invariant.rest ∙ loops.loop-more _ _ (path-takes _) (sym (rw c.in-Continue.is at c.in_ok-longer.ensures.ended)); lent = search rules }

pub returns-in-Break-clause-ended : goal.returns-in-Break-clause-ended
returns-in-Break-clause-ended c = c.close.ensures.ended ∙ sym (paths.import-on _ _ _ _ (sym c.in_ok-bump.ensures.ended) (c.loop-longer.invariant.rest ∙ loops.loop-stop _ _ (sym (rw c.in-Break.is at c.in_ok-longer.ensures.ended))) c.flagged-flags.ensures)
