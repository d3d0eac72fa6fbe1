-- The cycle of the rules on patterns, as that of the types: ten for each level left, and the member's rank within one.
use Rattle.std.proofs.Common.{rules, sym, ◌∙◌, arith}
use Rattle.types.proofs.PatternPaths as paths
use Rattle.types.proofs.PatternKeeps as keeps
use Rattle.types.proofs.ItemPaths as items
use Rattle.cursor.proofs.Loops as loops
use Rattle.cursor.proofs.Exits.{exits}
use Rattle.types.specs.Items.{so}
use Rattle.types.proofs.patterns.+patterns.Goals as goal

pub pattern-returns-then-depth-eq0-clause-ended : goal.pattern-returns-then-depth-eq0-clause-ended
pattern-returns-then-depth-eq0-clause-ended t c = sym (paths.patterns-none _ _ _ _ c.if-depth-eq0.true)

pub pattern-returns-in_err-pick-clause-ended : goal.pattern-returns-in_err-pick-clause-ended
pattern-returns-in_err-pick-clause-ended t c = exits c.pick.new.self _ _ c.from_residual.ensures (sym (paths.patterns-full _ _ _ c.start_range-from.ensures _ c.if-depth-eq0.false (sym c.in_err-pick.ensures.ended)))

pub pattern-returns-in-0-clause-ended : goal.pattern-returns-in-0-clause-ended
pattern-returns-in-0-clause-ended t c = c.ident.ensures.ended ∙ sym (paths.patterns-on _ _ _ c.start_range-from.ensures _ c.if-depth-eq0.false (sym c.in_ok-pick.ensures.ended) ∙ paths.by-ident _ _ _ _ _ _ c.in-0.is)

pub pattern-returns-in-1-clause-ended : goal.pattern-returns-in-1-clause-ended
pattern-returns-in-1-clause-ended t c = c.pattern_row.ensures.ended ∙ sym (paths.patterns-on _ _ _ c.start_range-from.ensures _ c.if-depth-eq0.false (sym c.in_ok-pick.ensures.ended) ∙ paths.by-table _ _ _ _ _ _ c.in-1.is)

pub pattern-returns-in-2-clause-ended : goal.pattern-returns-in-2-clause-ended
pattern-returns-in-2-clause-ended t c = c.pattern_row-in-2.ensures.ended ∙ sym (paths.patterns-on _ _ _ c.start_range-from.ensures _ c.if-depth-eq0.false (sym c.in_ok-pick.ensures.ended) ∙ paths.by-list _ _ _ _ _ _ c.in-2.is)

pub pattern-returns-in_default-clause-ended : goal.pattern-returns-in_default-clause-ended
pattern-returns-in_default-clause-ended t c = c.lit.ensures.ended ∙ sym (paths.patterns-on _ _ _ c.start_range-from.ensures _ c.if-depth-eq0.false (sym c.in_ok-pick.ensures.ended) ∙ paths.by-lit _ _ _ _ _ _ (omega arith) (omega arith) (omega arith))

pub pattern_item-returns-in-Pairs-clause-ended : goal.pattern_item-returns-in-Pairs-clause-ended
pattern_item-returns-in-Pairs-clause-ended t c = c.table_pattern_pair.ensures.ended ∙ sym (paths.item-pair _ _ _ _ c.in-Pairs.is)

pub pattern_item-returns-in-Patterns-clause-ended : goal.pattern_item-returns-in-Patterns-clause-ended
pattern_item-returns-in-Patterns-clause-ended t c = c.pattern.ensures.ended ∙ sym (paths.item-pattern _ _ _ _ c.in-Patterns.is)

pub pattern_items-returns-in_err-eat_eol-clause-ended : goal.pattern_items-returns-in_err-eat_eol-clause-ended
pattern_items-returns-in_err-eat_eol-clause-ended t c = exits c.eat_eol.new.self _ _ c.from_residual.ensures (sym (paths.items-spent _ _ _ _ _ _ (sym c.in_err-eat_eol.ensures.ended)))

pub pattern_items-returns-in_err-eat-clause-ended : goal.pattern_items-returns-in_err-eat-clause-ended
pattern_items-returns-in_err-eat-clause-ended t c = exits c.eat.new.self _ _ c.from_residual-in_err-eat.ensures (sym (paths.items-begin _ _ _ _ _ _ c.end-end.ensures (sym c.in_ok-eat_eol.ensures.ended) ∙ c.loop-p.invariant.rest ∙ loops.loop-failed _ _ (items.turn-failed _ _ _ _ _ _ _ _ (sym c.in_err-eat.ensures.ended))))

pub pattern_items-returns-then-branch-clause-ended : goal.pattern_items-returns-then-branch-clause-ended
pattern_items-returns-then-branch-clause-ended t c = sym (paths.items-begin _ _ _ _ _ _ c.end-end.ensures (sym c.in_ok-eat_eol.ensures.ended) ∙ c.loop-p.invariant.rest ∙ loops.loop-stop _ _ (items.turn-ended _ _ _ _ _ _ _ _ (sym (rw c.if-branch.true at c.in_ok-eat.ensures.ended))))

pub pattern_items-returns-in_err-check-clause-ended : goal.pattern_items-returns-in_err-check-clause-ended
pattern_items-returns-in_err-check-clause-ended t c = exits c.check.new.self _ _ c.from_residual-in_err-check.ensures (sym (paths.items-begin _ _ _ _ _ _ c.end-end.ensures (sym c.in_ok-eat_eol.ensures.ended) ∙ c.loop-p.invariant.rest ∙ loops.loop-failed _ _ (items.turn-full _ _ _ _ _ _ _ _ (sym (rw c.if-branch.false at c.in_ok-eat.ensures.ended)) (sym c.in_err-check.ensures.ended))))

pub pattern_items-returns-then-branch-2-clause-ended : goal.pattern_items-returns-then-branch-2-clause-ended
pattern_items-returns-then-branch-2-clause-ended t c = sym (paths.items-begin _ _ _ _ _ _ c.end-end.ensures (sym c.in_ok-eat_eol.ensures.ended) ∙ c.loop-p.invariant.rest ∙ items.turned-last _ _ _ _ _ _ _ _ _ (sym (rw c.if-branch.false at c.in_ok-eat.ensures.ended)) (sym (rw c.if-branch-2.true at c.in_ok-check.ensures.ended)) (c.pattern_last.ensures.ended ∙ paths.ended_is _ _ _ _ _ c.end-end.ensures))

pub pattern_items-returns-in_err-link-clause-ended : goal.pattern_items-returns-in_err-link-clause-ended
pattern_items-returns-in_err-link-clause-ended t c = exits c.pattern_item.new.p _ _ c.from_residual-in_err-link.ensures (sym (paths.items-begin _ _ _ _ _ _ c.end-end.ensures (sym c.in_ok-eat_eol.ensures.ended) ∙ c.loop-p.invariant.rest ∙ loops.loop-failed _ _ (items.turn-item-failed _ _ _ _ _ _ _ _ (sym (rw c.if-branch.false at c.in_ok-eat.ensures.ended)) (sym (rw c.if-branch-2.false at c.in_ok-check.ensures.ended)) (sym c.in_err-link.ensures.ended))))

pub pattern_items-returns-in_err-longer-clause-ended : goal.pattern_items-returns-in_err-longer-clause-ended
pattern_items-returns-in_err-longer-clause-ended t c = exits c.after_item.new.p _ _ c.from_residual-in_err-longer.ensures (sym (paths.items-begin _ _ _ _ _ _ c.end-end.ensures (sym c.in_ok-eat_eol.ensures.ended) ∙ c.loop-p.invariant.rest ∙ loops.loop-failed _ _ (items.turn-item _ _ _ _ _ (so c.loop-p.row) _ _ (sym (rw c.if-branch.false at c.in_ok-eat.ensures.ended)) (sym (rw c.if-branch-2.false at c.in_ok-check.ensures.ended)) (sym c.in_ok-link.ensures.ended) ∙ sym c.in_err-longer.ensures.ended)))

pub pattern_items-loop-p-smaller : goal.pattern_items-loop-p-smaller
pattern_items-loop-p-smaller t c = loops.loop-less _ _ (keeps.pattern-items-take _ _ _ _) (items.turn-item _ _ _ _ _ (so c.loop-p.row) _ _ (sym (rw c.if-branch.false at c.in_ok-eat.ensures.ended)) (sym (rw c.if-branch-2.false at c.in_ok-check.ensures.ended)) (sym c.in_ok-link.ensures.ended) ∙ sym (rw c.in-Continue.is at c.in_ok-longer.ensures.ended))

pub pattern_items-loop-p-preserved : goal.pattern_items-loop-p-preserved
pattern_items-loop-p-preserved t c = record {
  rest = c.loop-p.invariant.rest ∙ loops.loop-more _ _ (keeps.pattern-items-take _ _ _ _) (items.turn-item _ _ _ _ _ (so c.loop-p.row) _ _ (sym (rw c.if-branch.false at c.in_ok-eat.ensures.ended)) (sym (rw c.if-branch-2.false at c.in_ok-check.ensures.ended)) (sym c.in_ok-link.ensures.ended) ∙ sym (rw c.in-Continue.is at c.in_ok-longer.ensures.ended));
  lent = search rules;
}

pub pattern_items-returns-in-Break-clause-ended : goal.pattern_items-returns-in-Break-clause-ended
pattern_items-returns-in-Break-clause-ended t c = sym (paths.items-begin _ _ _ _ _ _ c.end-end.ensures (sym c.in_ok-eat_eol.ensures.ended) ∙ c.loop-p.invariant.rest ∙ loops.loop-stop _ _ (items.turn-item _ _ _ _ _ (so c.loop-p.row) _ _ (sym (rw c.if-branch.false at c.in_ok-eat.ensures.ended)) (sym (rw c.if-branch-2.false at c.in_ok-check.ensures.ended)) (sym c.in_ok-link.ensures.ended) ∙ sym (rw c.in-Break.is at c.in_ok-longer.ensures.ended)))

pub pattern_row-returns-in_err-bump-clause-ended : goal.pattern_row-returns-in_err-bump-clause-ended
pattern_row-returns-in_err-bump-clause-ended t c = exits c.bump.new.self _ _ c.from_residual.ensures (sym (paths.row-spent _ _ _ _ _ _ _ (sym c.in_err-bump.ensures.ended)))

pub pattern_row-returns-in_err-items-clause-ended : goal.pattern_row-returns-in_err-items-clause-ended
pattern_row-returns-in_err-items-clause-ended t c = exits c.pattern_items.new.p _ _ c.from_residual-in_err-items.ensures (sym (paths.row-failed _ _ _ _ _ _ _ (sym c.in_ok-bump.ensures.ended) (sym c.in_err-items.ensures.ended)))

pub pattern_row-returns-clause-ended : goal.pattern_row-returns-clause-ended
pattern_row-returns-clause-ended t c = c.close.ensures.ended ∙ sym (paths.row_on _ _ _ _ _ _ _ (sym c.in_ok-bump.ensures.ended) (sym c.in_ok-items.ensures.ended) c.span_of-dots.ensures (c.is_some.ensures ∙ items.is-ended-is-some _) c.flagged-flags.ensures)

pub table_pattern_pair-returns-in_err-key-clause-ended : goal.table_pattern_pair-returns-in_err-key-clause-ended
table_pattern_pair-returns-in_err-key-clause-ended t c = exits c.lit.new.p _ _ c.from_residual.ensures (sym (paths.pair-failed _ _ _ _ c.start_range-from.ensures (sym c.in_err-key.ensures.ended)))

pub table_pattern_pair-returns-in_err-expect-clause-ended : goal.table_pattern_pair-returns-in_err-expect-clause-ended
table_pattern_pair-returns-in_err-expect-clause-ended t c = exits c.expect.new.self _ _ c.from_residual-in_err-expect.ensures (sym (paths.pair-open _ _ _ _ c.start_range-from.ensures (sym c.in_ok-key.ensures.ended) (sym c.in_err-expect.ensures.ended)))

pub table_pattern_pair-returns-in_err-value-clause-ended : goal.table_pattern_pair-returns-in_err-value-clause-ended
table_pattern_pair-returns-in_err-value-clause-ended t c = exits c.pattern.new.p _ _ c.from_residual-in_err-value.ensures (sym (paths.pair-lost _ _ _ _ c.start_range-from.ensures (sym c.in_ok-key.ensures.ended) (sym c.in_ok-expect.ensures.ended) (sym c.in_err-value.ensures.ended)))

pub table_pattern_pair-returns-clause-ended : goal.table_pattern_pair-returns-clause-ended
table_pattern_pair-returns-clause-ended t c = c.pair.ensures.ended ∙ sym (paths.pair-on _ _ _ _ c.start_range-from.ensures (sym c.in_ok-key.ensures.ended) (sym c.in_ok-expect.ensures.ended) (sym c.in_ok-value.ensures.ended))
