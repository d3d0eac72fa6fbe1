-- a way for each end of each step
use Rattle.std.proofs.Common.{sym, ◌∙◌}
use Rattle.parts.proofs.ImportPaths as paths
use Rattle.cursor.proofs.Exits.{exits}
use Rattle.parts.proofs.imports.import_item.Goals as goal

pub returns-in_err-name-clause-ended : goal.returns-in_err-name-clause-ended
returns-in_err-name-clause-ended c = exits c.ident.new.p _ _ c.from_residual.ensures (sym (paths.item-failed _ _ _ c.start_range-from.ensures (sym c.in_err-name.ensures.ended)))

pub returns-in_err-eat-clause-ended : goal.returns-in_err-eat-clause-ended
returns-in_err-eat-clause-ended c = exits c.eat.new.self _ _ c.from_residual-in_err-eat.ensures (sym (paths.item-full _ _ _ c.start_range-from.ensures (sym c.in_ok-name.ensures.ended) (sym c.in_err-eat.ensures.ended)))

pub returns-then-not-branch-clause-ended : goal.returns-then-not-branch-clause-ended
returns-then-not-branch-clause-ended c = c.close.ensures.ended ∙ sym (paths.item-plain _ _ _ c.start_range-from.ensures (sym c.in_ok-name.ensures.ended) (sym (rw c.if-not-branch.true at c.in_ok-eat.ensures.ended)))

pub returns-in_err-alias-clause-ended : goal.returns-in_err-alias-clause-ended
returns-in_err-alias-clause-ended c = exits c.ident-2.new.p _ _ c.from_residual-in_err-alias.ensures (sym (paths.item-lost _ _ _ c.start_range-from.ensures (sym c.in_ok-name.ensures.ended) (sym (rw c.if-not-branch.false at c.in_ok-eat.ensures.ended)) (sym c.in_err-alias.ensures.ended)))

pub returns-clause-ended : goal.returns-clause-ended
returns-clause-ended c = c.close-2.ensures.ended ∙ sym (paths.item-alias _ _ _ c.start_range-from.ensures (sym c.in_ok-name.ensures.ended) (sym (rw c.if-not-branch.false at c.in_ok-eat.ensures.ended)) (sym c.in_ok-alias.ensures.ended) c.add-one.ensures.ended c.add-two.ensures.ended c.flagged-flags.ensures)
