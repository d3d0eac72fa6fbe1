-- a way for each end of each step
use Rattle.std.proofs.Common.{sym, arith}
use Rattle.parts.proofs.ImportPaths as paths
use Rattle.types.proofs.TurnExits.{turn-exits}
use Rattle.parts.specs.Answers.{on_path}
use Rattle.parts.proofs.imports.import_end.Goals as goal

pub returns-in_err-pick-clause-ended : goal.returns-in_err-pick-clause-ended
returns-in_err-pick-clause-ended c = turn-exits on_path (λ i. i) c.pick.new.self _ _ c.from_residual.ensures (sym (paths.end-full _ _ _ _ (sym c.in_err-pick.ensures.ended)))

pub returns-in-0-clause-ended : goal.returns-in-0-clause-ended
returns-in-0-clause-ended c = sym (paths.end-plain _ _ _ _ (sym c.in_ok-pick.ensures.ended) c.in-0.is c.simple.ensures)

pub returns-in_err-bump-in-1-clause-ended : goal.returns-in_err-bump-in-1-clause-ended
returns-in_err-bump-in-1-clause-ended c = turn-exits on_path (λ i. i) c.bump.new.self _ _ c.from_residual-in_err-bump-in-1.ensures (sym (paths.end-spent _ _ _ _ (sym c.in_ok-pick.ensures.ended) (omega arith) (omega arith) (sym c.in_err-bump-in-1.ensures.ended)))

pub returns-in_err-alias-in-1-clause-ended : goal.returns-in_err-alias-in-1-clause-ended
returns-in_err-alias-in-1-clause-ended c = turn-exits on_path (λ i. i) c.ident.new.p _ _ c.from_residual-in_err-alias-in-1.ensures (sym (paths.end-lost _ _ _ _ (sym c.in_ok-pick.ensures.ended) (omega arith) (omega arith) (sym c.in_ok-bump-in-1.ensures.ended) (sym c.in_err-alias-in-1.ensures.ended)))

pub returns-in_ok-alias-in-1-clause-ended : goal.returns-in_ok-alias-in-1-clause-ended
returns-in_ok-alias-in-1-clause-ended c = sym (paths.end-alias _ _ _ _ (sym c.in_ok-pick.ensures.ended) (omega arith) (omega arith) (sym c.in_ok-bump-in-1.ensures.ended) (sym c.in_ok-alias-in-1.ensures.ended) c.add-longer.ensures.ended c.simple-in-1.ensures)

pub returns-in_default-clause-ended : goal.returns-in_default-clause-ended
returns-in_default-clause-ended c = rw c.unexpected.ensures (sym (paths.end-other _ _ _ _ (sym c.in_ok-pick.ensures.ended) (omega arith) (omega arith)))
