-- a way for each end of each step
use Rattle.std.proofs.Common.{sym, arith}
use Rattle.parts.proofs.ImportPaths as paths
use Rattle.types.proofs.TurnExits.{turn-exits}
use Rattle.parts.specs.Answers.{on_path}
use Rattle.parts.proofs.imports.import_tail.Goals as goal

pub returns-in_err-pick-clause-ended : goal.returns-in_err-pick-clause-ended
returns-in_err-pick-clause-ended c = turn-exits on_path (λ i. i) c.pick.new.self _ _ c.from_residual.ensures (sym (paths.tail-full _ _ _ _ (sym c.in_err-pick.ensures.ended)))

pub returns-in_err-bump-in-0-clause-ended : goal.returns-in_err-bump-in-0-clause-ended
returns-in_err-bump-in-0-clause-ended c = turn-exits on_path (λ i. i) c.bump.new.self _ _ c.from_residual-in_err-bump-in-0.ensures (sym (paths.tail-spent _ _ _ _ (sym c.in_ok-pick.ensures.ended) (omega arith) (sym c.in_err-bump-in-0.ensures.ended)))

pub returns-in_err-items-in-0-clause-ended : goal.returns-in_err-items-in-0-clause-ended
returns-in_err-items-in-0-clause-ended c = turn-exits on_path (λ i. i) c.import_items.new.p _ _ c.from_residual-in_err-items-in-0.ensures (sym (paths.tail-failed _ _ _ _ (sym c.in_ok-pick.ensures.ended) (omega arith) (sym c.in_ok-bump-in-0.ensures.ended) (omega arith) (sym c.in_err-items-in-0.ensures.ended)))

pub returns-in_ok-items-in-0-clause-ended : goal.returns-in_ok-items-in-0-clause-ended
returns-in_ok-items-in-0-clause-ended c = sym (paths.tail-items _ _ _ _ (sym c.in_ok-pick.ensures.ended) (omega arith) (sym c.in_ok-bump-in-0.ensures.ended) (omega arith) (sym c.in_ok-items-in-0.ensures.ended))

pub returns-in_err-bump-in-1-clause-ended : goal.returns-in_err-bump-in-1-clause-ended
returns-in_err-bump-in-1-clause-ended c = turn-exits on_path (λ i. i) c.bump-in-1.new.self _ _ c.from_residual-in_err-bump-in-1.ensures (sym (paths.tail-spent _ _ _ _ (sym c.in_ok-pick.ensures.ended) (omega arith) (sym c.in_err-bump-in-1.ensures.ended)))

pub returns-in_ok-bump-in-1-clause-ended : goal.returns-in_ok-bump-in-1-clause-ended
returns-in_ok-bump-in-1-clause-ended c = sym (paths.tail-glob _ _ _ _ (sym c.in_ok-pick.ensures.ended) (omega arith) (sym c.in_ok-bump-in-1.ensures.ended) c.in-1.is)

pub returns-in_default-clause-ended : goal.returns-in_default-clause-ended
returns-in_default-clause-ended c = rw c.unexpected.ensures (sym (paths.tail-other _ _ _ _ (sym c.in_ok-pick.ensures.ended) (omega arith)))
