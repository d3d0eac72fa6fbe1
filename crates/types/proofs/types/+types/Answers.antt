-- The cycle of the rules on types. Each way out is closed by its path lemma, from what the callees ensure and the arms taken. Depth is used up
-- by `type_atom` alone, so the measure is ten for each level and the member's rank within one.
use Rattle.std.proofs.Common.{rules, sym, ◌∙◌, arith}
use Rattle.types.proofs.TypePaths as paths
use Rattle.types.proofs.TypeKeeps as keeps
use Rattle.types.proofs.ItemPaths as items
use Rattle.cursor.proofs.Loops as loops
use Rattle.cursor.proofs.Exits.{exits}
use Rattle.types.specs.Items.{so}
use Rattle.types.proofs.types.+types.Goals as goal

pub named_type-returns-then-atom-clause-ended : goal.named_type-returns-then-atom-clause-ended
named_type-returns-then-atom-clause-ended t c = c.type_atom.ensures.ended ∙ sym (paths.named-atom _ _ _ _ c.if-atom.true)

pub named_type-returns-clause-ended : goal.named_type-returns-clause-ended
named_type-returns-clause-ended t c = c.ty.ensures.ended ∙ sym (paths.named-type _ _ _ _ c.if-atom.false)

pub returns-returns-in_err-eat-clause-ended : goal.returns-returns-in_err-eat-clause-ended
returns-returns-in_err-eat-clause-ended t c = exits c.eat.new.self _ _ c.from_residual.ensures (sym (paths.returns-failed _ _ _ _ (sym c.in_err-eat.ensures.ended)))

pub returns-returns-then-not-branch-clause-ended : goal.returns-returns-then-not-branch-clause-ended
returns-returns-then-not-branch-clause-ended t c = sym (paths.returns-none _ _ _ _ (sym (rw c.if-not-branch.true at c.in_ok-eat.ensures.ended)))

pub returns-returns-clause-ended : goal.returns-returns-clause-ended
returns-returns-clause-ended t c = c.ty.ensures.ended ∙ sym (paths.returns-some _ _ _ _ (sym (rw c.if-not-branch.false at c.in_ok-eat.ensures.ended)))

pub table_ty_other-returns-in_err-expect-clause-ended : goal.table_ty_other-returns-in_err-expect-clause-ended
table_ty_other-returns-in_err-expect-clause-ended t c = exits c.expect.new.self _ _ c.from_residual.ensures (sym (paths.other-shut _ _ _ _ c.start_range-from.ensures (sym c.in_err-expect.ensures.ended)))

pub table_ty_other-returns-in_err-key-clause-ended : goal.table_ty_other-returns-in_err-key-clause-ended
table_ty_other-returns-in_err-key-clause-ended t c = exits c.ty.new.p _ _ c.from_residual-in_err-key.ensures (sym (paths.other-failed _ _ _ _ c.start_range-from.ensures (sym c.in_ok-expect.ensures.ended) (sym c.in_err-key.ensures.ended)))

pub table_ty_other-returns-in_err-expect-2-clause-ended : goal.table_ty_other-returns-in_err-expect-2-clause-ended
table_ty_other-returns-in_err-expect-2-clause-ended t c = exits c.expect-2.new.self _ _ c.from_residual-in_err-expect-2.ensures (sym (paths.other-open _ _ _ _ c.start_range-from.ensures (sym c.in_ok-expect.ensures.ended) (sym c.in_ok-key.ensures.ended) (sym c.in_err-expect-2.ensures.ended)))

pub table_ty_other-returns-in_err-expect-3-clause-ended : goal.table_ty_other-returns-in_err-expect-3-clause-ended
table_ty_other-returns-in_err-expect-3-clause-ended t c = exits c.expect-3.new.self _ _ c.from_residual-in_err-expect-3.ensures (sym (paths.other-bare _ _ _ _ c.start_range-from.ensures (sym c.in_ok-expect.ensures.ended) (sym c.in_ok-key.ensures.ended) (sym c.in_ok-expect-2.ensures.ended) (sym c.in_err-expect-3.ensures.ended)))

pub table_ty_other-returns-in_err-value-clause-ended : goal.table_ty_other-returns-in_err-value-clause-ended
table_ty_other-returns-in_err-value-clause-ended t c = exits c.ty-2.new.p _ _ c.from_residual-in_err-value.ensures (sym (paths.other-lost _ _ _ _ c.start_range-from.ensures (sym c.in_ok-expect.ensures.ended) (sym c.in_ok-key.ensures.ended) (sym c.in_ok-expect-2.ensures.ended) (sym c.in_ok-expect-3.ensures.ended) (sym c.in_err-value.ensures.ended)))

pub table_ty_other-returns-clause-ended : goal.table_ty_other-returns-clause-ended
table_ty_other-returns-clause-ended t c = c.pair.ensures.ended ∙ sym (paths.other-on _ _ _ _ c.start_range-from.ensures (sym c.in_ok-expect.ensures.ended) (sym c.in_ok-key.ensures.ended) (sym c.in_ok-expect-2.ensures.ended) (sym c.in_ok-expect-3.ensures.ended) (sym c.in_ok-value.ensures.ended))

pub table_ty_pair-returns-in_err-key-clause-ended : goal.table_ty_pair-returns-in_err-key-clause-ended
table_ty_pair-returns-in_err-key-clause-ended t c = exits c.ident.new.p _ _ c.from_residual.ensures (sym (paths.key-failed _ _ _ _ c.start_range-from.ensures (sym c.in_err-key.ensures.ended)))

pub table_ty_pair-returns-in_err-expect-clause-ended : goal.table_ty_pair-returns-in_err-expect-clause-ended
table_ty_pair-returns-in_err-expect-clause-ended t c = exits c.expect.new.self _ _ c.from_residual-in_err-expect.ensures (sym (paths.key-open _ _ _ _ c.start_range-from.ensures (sym c.in_ok-key.ensures.ended) (sym c.in_err-expect.ensures.ended)))

pub table_ty_pair-returns-in_err-value-clause-ended : goal.table_ty_pair-returns-in_err-value-clause-ended
table_ty_pair-returns-in_err-value-clause-ended t c = exits c.ty.new.p _ _ c.from_residual-in_err-value.ensures (sym (paths.key-lost _ _ _ _ c.start_range-from.ensures (sym c.in_ok-key.ensures.ended) (sym c.in_ok-expect.ensures.ended) (sym c.in_err-value.ensures.ended)))

pub table_ty_pair-returns-clause-ended : goal.table_ty_pair-returns-clause-ended
table_ty_pair-returns-clause-ended t c = c.pair.ensures.ended ∙ sym (paths.key-on _ _ _ _ c.start_range-from.ensures (sym c.in_ok-key.ensures.ended) (sym c.in_ok-expect.ensures.ended) (sym c.in_ok-value.ensures.ended))

pub ty-returns-in_err-first-clause-ended : goal.ty-returns-in_err-first-clause-ended
ty-returns-in_err-first-clause-ended t c = exits c.type_atom.new.p _ _ c.from_residual.ensures (sym (paths.type-failed _ _ _ _ c.start_range-from.ensures (sym c.in_err-first.ensures.ended)))

pub ty-returns-in_err-check-clause-ended : goal.ty-returns-in_err-check-clause-ended
ty-returns-in_err-check-clause-ended t c = exits c.check.new.self _ _ c.from_residual-in_err-check.ensures (sym (paths.type-full _ _ _ _ c.start_range-from.ensures (sym c.in_ok-first.ensures.ended) (sym c.in_err-check.ensures.ended)))

pub ty-returns-then-not-branch-clause-ended : goal.ty-returns-then-not-branch-clause-ended
ty-returns-then-not-branch-clause-ended t c = sym (paths.type-single _ _ _ _ c.start_range-from.ensures (sym c.in_ok-first.ensures.ended) (sym (rw c.if-not-branch.true at c.in_ok-check.ensures.ended)))

pub ty-returns-clause-ended : goal.ty-returns-clause-ended
ty-returns-clause-ended t c = c.union_of.ensures.ended ∙ sym (paths.type-union _ _ _ _ c.start_range-from.ensures (sym c.in_ok-first.ensures.ended) (sym (rw c.if-not-branch.false at c.in_ok-check.ensures.ended)))

pub type_atom-returns-then-depth-eq0-clause-ended : goal.type_atom-returns-then-depth-eq0-clause-ended
type_atom-returns-then-depth-eq0-clause-ended t c = sym (paths.atoms-none _ _ _ _ c.if-depth-eq0.true)

pub type_atom-returns-in_err-pick-clause-ended : goal.type_atom-returns-in_err-pick-clause-ended
type_atom-returns-in_err-pick-clause-ended t c = exits c.pick.new.self _ _ c.from_residual.ensures (sym (paths.atoms-full _ _ _ c.start_range-from.ensures _ c.if-depth-eq0.false (sym c.in_err-pick.ensures.ended)))

pub type_atom-returns-in-0-clause-ended : goal.type_atom-returns-in-0-clause-ended
type_atom-returns-in-0-clause-ended t c = c.type_paren.ensures.ended ∙ sym (paths.atoms-on _ _ _ c.start_range-from.ensures _ c.if-depth-eq0.false (sym c.in_ok-pick.ensures.ended) ∙ paths.by-paren _ _ _ _ _ _ c.in-0.is)

pub type_atom-returns-in-1-clause-ended : goal.type_atom-returns-in-1-clause-ended
type_atom-returns-in-1-clause-ended t c = c.ident.ensures.ended ∙ sym (paths.atoms-on _ _ _ c.start_range-from.ensures _ c.if-depth-eq0.false (sym c.in_ok-pick.ensures.ended) ∙ paths.by-ident _ _ _ _ _ _ c.in-1.is)

pub type_atom-returns-in-2-clause-ended : goal.type_atom-returns-in-2-clause-ended
type_atom-returns-in-2-clause-ended t c = c.type_table.ensures.ended ∙ sym (paths.atoms-on _ _ _ c.start_range-from.ensures _ c.if-depth-eq0.false (sym c.in_ok-pick.ensures.ended) ∙ paths.by-table _ _ _ _ _ _ c.in-2.is)

pub type_atom-returns-in-3-clause-ended : goal.type_atom-returns-in-3-clause-ended
type_atom-returns-in-3-clause-ended t c = c.type_function.ensures.ended ∙ sym (paths.atoms-on _ _ _ c.start_range-from.ensures _ c.if-depth-eq0.false (sym c.in_ok-pick.ensures.ended) ∙ paths.by-function _ _ _ _ _ _ c.in-3.is)

pub type_atom-returns-in_default-clause-ended : goal.type_atom-returns-in_default-clause-ended
type_atom-returns-in_default-clause-ended t c = c.lit.ensures.ended ∙ sym (paths.atoms-on _ _ _ c.start_range-from.ensures _ c.if-depth-eq0.false (sym c.in_ok-pick.ensures.ended) ∙ paths.by-lit _ _ _ _ _ _ (omega arith) (omega arith) (omega arith) (omega arith))

pub type_function-returns-in_err-bump-clause-ended : goal.type_function-returns-in_err-bump-clause-ended
type_function-returns-in_err-bump-clause-ended t c = exits c.bump.new.self _ _ c.from_residual.ensures (sym (paths.function-spent _ _ _ _ _ (sym c.in_err-bump.ensures.ended)))

pub type_function-returns-in_err-items-clause-ended : goal.type_function-returns-in_err-items-clause-ended
type_function-returns-in_err-items-clause-ended t c = exits c.type_items_of.new.p _ _ c.from_residual-in_err-items.ensures (sym (paths.function-failed _ _ _ _ _ (sym c.in_ok-bump.ensures.ended) (sym c.in_err-items.ensures.ended)))

pub type_function-returns-in_err-link-clause-ended : goal.type_function-returns-in_err-link-clause-ended
type_function-returns-in_err-link-clause-ended t c = exits c.returns.new.p _ _ c.from_residual-in_err-link.ensures (sym (paths.function-lost _ _ _ _ _ (sym c.in_ok-bump.ensures.ended) (sym c.in_ok-items.ensures.ended) (sym c.in_err-link.ensures.ended)))

pub type_function-returns-clause-ended : goal.type_function-returns-clause-ended
type_function-returns-clause-ended t c = c.close.ensures.ended ∙ sym (paths.function-on _ _ _ _ _ (sym c.in_ok-bump.ensures.ended) (sym c.in_ok-items.ensures.ended) (sym c.in_ok-link.ensures.ended) c.add_some-kids.ensures.ended (c.is_some.ensures ∙ items.is-ended-is-some _) c.flagged-flags.ensures)

pub type_item-returns-in-TypedIdents-clause-ended : goal.type_item-returns-in-TypedIdents-clause-ended
type_item-returns-in-TypedIdents-clause-ended t c = c.typed_ident.ensures.ended ∙ sym (paths.item-typed _ _ _ _ c.in-TypedIdents.is)

pub type_item-returns-in-AtomTypedIdents-clause-ended : goal.type_item-returns-in-AtomTypedIdents-clause-ended
type_item-returns-in-AtomTypedIdents-clause-ended t c = c.typed_ident-in-AtomTypedIdents.ensures.ended ∙ sym (paths.item-atom _ _ _ _ c.in-AtomTypedIdents.is)

pub type_item-returns-in-TableTyPairs-clause-ended : goal.type_item-returns-in-TableTyPairs-clause-ended
type_item-returns-in-TableTyPairs-clause-ended t c = c.table_ty_pair.ensures.ended ∙ sym (paths.item-pair _ _ _ _ c.in-TableTyPairs.is)

pub type_item-returns-in-Types-clause-ended : goal.type_item-returns-in-Types-clause-ended
type_item-returns-in-Types-clause-ended t c = c.ty.ensures.ended ∙ sym (paths.item-type _ _ _ _ c.in-Types.is)

pub type_items_of-returns-in_err-eat_eol-clause-ended : goal.type_items_of-returns-in_err-eat_eol-clause-ended
type_items_of-returns-in_err-eat_eol-clause-ended t c = exits c.eat_eol.new.self _ _ c.from_residual.ensures (sym (paths.items-spent _ _ _ _ _ _ (sym c.in_err-eat_eol.ensures.ended)))

pub type_items_of-returns-in_err-eat-clause-ended : goal.type_items_of-returns-in_err-eat-clause-ended
type_items_of-returns-in_err-eat-clause-ended t c = exits c.eat.new.self _ _ c.from_residual-in_err-eat.ensures (sym (paths.items-begin _ _ _ _ _ _ c.end-end.ensures (sym c.in_ok-eat_eol.ensures.ended) ∙ c.loop-p.invariant.rest ∙ loops.loop-failed _ _ (items.turn-failed _ _ _ _ _ _ _ _ (sym c.in_err-eat.ensures.ended))))

pub type_items_of-returns-then-branch-clause-ended : goal.type_items_of-returns-then-branch-clause-ended
type_items_of-returns-then-branch-clause-ended t c = sym (paths.items-begin _ _ _ _ _ _ c.end-end.ensures (sym c.in_ok-eat_eol.ensures.ended) ∙ c.loop-p.invariant.rest ∙ loops.loop-stop _ _ (items.turn-ended _ _ _ _ _ _ _ _ (sym (rw c.if-branch.true at c.in_ok-eat.ensures.ended))))

pub type_items_of-returns-in_err-check-clause-ended : goal.type_items_of-returns-in_err-check-clause-ended
type_items_of-returns-in_err-check-clause-ended t c = exits c.check.new.self _ _ c.from_residual-in_err-check.ensures (sym (paths.items-begin _ _ _ _ _ _ c.end-end.ensures (sym c.in_ok-eat_eol.ensures.ended) ∙ c.loop-p.invariant.rest ∙ loops.loop-failed _ _ (items.turn-full _ _ _ _ _ _ _ _ (sym (rw c.if-branch.false at c.in_ok-eat.ensures.ended)) (paths.check-as _ _ _ c.last_kind.ensures (sym c.in_err-check.ensures.ended)))))

pub type_items_of-returns-then-branch-2-clause-ended : goal.type_items_of-returns-then-branch-2-clause-ended
type_items_of-returns-then-branch-2-clause-ended t c = sym (paths.items-begin _ _ _ _ _ _ c.end-end.ensures (sym c.in_ok-eat_eol.ensures.ended) ∙ c.loop-p.invariant.rest ∙ items.turned-last _ _ _ _ _ _ _ _ _ (sym (rw c.if-branch.false at c.in_ok-eat.ensures.ended)) (paths.check-as _ _ _ c.last_kind.ensures (sym (rw c.if-branch-2.true at c.in_ok-check.ensures.ended))) (c.type_last.ensures.ended ∙ paths.last-is _ _ _ _ _ _ c.end-end.ensures))

pub type_items_of-returns-in_err-link-clause-ended : goal.type_items_of-returns-in_err-link-clause-ended
type_items_of-returns-in_err-link-clause-ended t c = exits c.type_item.new.p _ _ c.from_residual-in_err-link.ensures (sym (paths.items-begin _ _ _ _ _ _ c.end-end.ensures (sym c.in_ok-eat_eol.ensures.ended) ∙ c.loop-p.invariant.rest ∙ loops.loop-failed _ _ (items.turn-item-failed _ _ _ _ _ _ _ _ (sym (rw c.if-branch.false at c.in_ok-eat.ensures.ended)) (paths.check-as _ _ _ c.last_kind.ensures (sym (rw c.if-branch-2.false at c.in_ok-check.ensures.ended))) (sym c.in_err-link.ensures.ended))))

pub type_items_of-returns-in_err-longer-clause-ended : goal.type_items_of-returns-in_err-longer-clause-ended
type_items_of-returns-in_err-longer-clause-ended t c = exits c.after_item.new.p _ _ c.from_residual-in_err-longer.ensures (sym (paths.items-begin _ _ _ _ _ _ c.end-end.ensures (sym c.in_ok-eat_eol.ensures.ended) ∙ c.loop-p.invariant.rest ∙ loops.loop-failed _ _ (items.turn-item _ _ _ _ _ (so c.loop-p.row) _ _ (sym (rw c.if-branch.false at c.in_ok-eat.ensures.ended)) (paths.check-as _ _ _ c.last_kind.ensures (sym (rw c.if-branch-2.false at c.in_ok-check.ensures.ended))) (sym c.in_ok-link.ensures.ended) ∙ sym c.in_err-longer.ensures.ended)))

pub type_items_of-loop-p-smaller : goal.type_items_of-loop-p-smaller
type_items_of-loop-p-smaller t c = loops.loop-less _ _ (keeps.type-items-take _ _ _ _) (items.turn-item _ _ _ _ _ (so c.loop-p.row) _ _ (sym (rw c.if-branch.false at c.in_ok-eat.ensures.ended)) (paths.check-as _ _ _ c.last_kind.ensures (sym (rw c.if-branch-2.false at c.in_ok-check.ensures.ended))) (sym c.in_ok-link.ensures.ended) ∙ sym (rw c.in-Continue.is at c.in_ok-longer.ensures.ended))

pub type_items_of-loop-p-preserved : goal.type_items_of-loop-p-preserved
type_items_of-loop-p-preserved t c = record {
  rest = c.loop-p.invariant.rest ∙ loops.loop-more _ _ (keeps.type-items-take _ _ _ _) (items.turn-item _ _ _ _ _ (so c.loop-p.row) _ _ (sym (rw c.if-branch.false at c.in_ok-eat.ensures.ended)) (paths.check-as _ _ _ c.last_kind.ensures (sym (rw c.if-branch-2.false at c.in_ok-check.ensures.ended))) (sym c.in_ok-link.ensures.ended) ∙ sym (rw c.in-Continue.is at c.in_ok-longer.ensures.ended));
  lent = search rules;
}

pub type_items_of-returns-in-Break-clause-ended : goal.type_items_of-returns-in-Break-clause-ended
type_items_of-returns-in-Break-clause-ended t c = sym (paths.items-begin _ _ _ _ _ _ c.end-end.ensures (sym c.in_ok-eat_eol.ensures.ended) ∙ c.loop-p.invariant.rest ∙ loops.loop-stop _ _ (items.turn-item _ _ _ _ _ (so c.loop-p.row) _ _ (sym (rw c.if-branch.false at c.in_ok-eat.ensures.ended)) (paths.check-as _ _ _ c.last_kind.ensures (sym (rw c.if-branch-2.false at c.in_ok-check.ensures.ended))) (sym c.in_ok-link.ensures.ended) ∙ sym (rw c.in-Break.is at c.in_ok-longer.ensures.ended)))

pub type_last-returns-in_err-link-clause-ended : goal.type_last-returns-in_err-link-clause-ended
type_last-returns-in_err-link-clause-ended t c = exits c.type_last_item.new.p _ _ c.from_residual.ensures (sym (paths.last-failed _ _ _ _ _ _ (sym c.in_err-link.ensures.ended)))

pub type_last-returns-clause-ended : goal.type_last-returns-clause-ended
type_last-returns-clause-ended t c = c.after_last.ensures.ended ∙ sym (paths.last_on _ _ _ _ _ _ (sym c.in_ok-link.ensures.ended) c.add-longer.ensures.ended c.end.ensures)

pub type_last_item-returns-in-TableTyPairs-clause-ended : goal.type_last_item-returns-in-TableTyPairs-clause-ended
type_last_item-returns-in-TableTyPairs-clause-ended t c = c.table_ty_other.ensures.ended ∙ sym (paths.last-other _ _ _ _ c.in-TableTyPairs.is)

pub type_last_item-returns-in_err-expect-in_default : goal.type_last_item-returns-in_err-expect-in_default
type_last_item-returns-in_err-expect-in_default t c = record {
  ended = exits c.expect.new.self _ _ c.from_residual.ensures (sym (paths.last-shut _ _ _ _ c.in_default.not-TableTyPairs (sym c.in_err-expect-in_default.ensures.ended)));
  lent = search rules;
}

pub type_last_item-returns-in_ok-expect-in_default : goal.type_last_item-returns-in_ok-expect-in_default
type_last_item-returns-in_ok-expect-in_default t c = record {
  ended = c.type_item.ensures.ended ∙ sym (paths.last-dots _ _ _ _ c.in_default.not-TableTyPairs (sym c.in_ok-expect-in_default.ensures.ended));
  lent = search rules;
}

pub type_paren-returns-in_err-bump-clause-ended : goal.type_paren-returns-in_err-bump-clause-ended
type_paren-returns-in_err-bump-clause-ended t c = exits c.bump.new.self _ _ c.from_residual.ensures (sym (paths.paren-spent _ _ _ _ _ (sym c.in_err-bump.ensures.ended)))

pub type_paren-returns-in_err-link-clause-ended : goal.type_paren-returns-in_err-link-clause-ended
type_paren-returns-in_err-link-clause-ended t c = exits c.ty.new.p _ _ c.from_residual-in_err-link.ensures (sym (paths.paren-failed _ _ _ _ _ (sym c.in_ok-bump.ensures.ended) (sym c.in_err-link.ensures.ended)))

pub type_paren-returns-in_err-expect-clause-ended : goal.type_paren-returns-in_err-expect-clause-ended
type_paren-returns-in_err-expect-clause-ended t c = exits c.expect.new.self _ _ c.from_residual-in_err-expect.ensures (sym (paths.paren-open _ _ _ _ _ (sym c.in_ok-bump.ensures.ended) (sym c.in_ok-link.ensures.ended) (sym c.in_err-expect.ensures.ended)))

pub type_paren-returns-clause-ended : goal.type_paren-returns-clause-ended
type_paren-returns-clause-ended t c = c.close.ensures.ended ∙ sym (paths.paren-on _ _ _ _ _ (sym c.in_ok-bump.ensures.ended) (sym c.in_ok-link.ensures.ended) (sym c.in_ok-expect.ensures.ended) c.add-kids.ensures.ended)

pub type_table-returns-in_err-bump-clause-ended : goal.type_table-returns-in_err-bump-clause-ended
type_table-returns-in_err-bump-clause-ended t c = exits c.bump.new.self _ _ c.from_residual.ensures (sym (paths.table-spent _ _ _ _ _ (sym c.in_err-bump.ensures.ended)))

pub type_table-returns-in_err-items-clause-ended : goal.type_table-returns-in_err-items-clause-ended
type_table-returns-in_err-items-clause-ended t c = exits c.type_items_of.new.p _ _ c.from_residual-in_err-items.ensures (sym (paths.table-failed _ _ _ _ _ (sym c.in_ok-bump.ensures.ended) (sym c.in_err-items.ensures.ended)))

pub type_table-returns-clause-ended : goal.type_table-returns-clause-ended
type_table-returns-clause-ended t c = c.close.ensures.ended ∙ sym (paths.table_on _ _ _ _ _ (sym c.in_ok-bump.ensures.ended) (sym c.in_ok-items.ensures.ended) (c.is_some.ensures ∙ items.is-ended-is-some _) c.flagged-flags.ensures)

pub typed_ident-returns-in_err-name-clause-ended : goal.typed_ident-returns-in_err-name-clause-ended
typed_ident-returns-in_err-name-clause-ended t c = exits c.ident.new.p _ _ c.from_residual.ensures (sym (paths.typed-failed _ _ _ _ c.start_range-from.ensures (sym c.in_err-name.ensures.ended)))

pub typed_ident-returns-in_err-eat-clause-ended : goal.typed_ident-returns-in_err-eat-clause-ended
typed_ident-returns-in_err-eat-clause-ended t c = exits c.eat.new.self _ _ c.from_residual-in_err-eat.ensures (sym (paths.typed-full _ _ _ _ c.start_range-from.ensures (sym c.in_ok-name.ensures.ended) (sym c.in_err-eat.ensures.ended)))

pub typed_ident-returns-then-not-branch-clause-ended : goal.typed_ident-returns-then-not-branch-clause-ended
typed_ident-returns-then-not-branch-clause-ended t c = sym (paths.typed-bare _ _ _ _ c.start_range-from.ensures (sym c.in_ok-name.ensures.ended) (sym (rw c.if-not-branch.true at c.in_ok-eat.ensures.ended)))

pub typed_ident-returns-in_err-typed-clause-ended : goal.typed_ident-returns-in_err-typed-clause-ended
typed_ident-returns-in_err-typed-clause-ended t c = exits c.named_type.new.p _ _ c.from_residual-in_err-typed.ensures (sym (paths.typed-lost _ _ _ _ c.start_range-from.ensures (sym c.in_ok-name.ensures.ended) (sym (rw c.if-not-branch.false at c.in_ok-eat.ensures.ended)) (sym c.in_err-typed.ensures.ended)))

pub typed_ident-returns-clause-ended : goal.typed_ident-returns-clause-ended
typed_ident-returns-clause-ended t c = c.pair.ensures.ended ∙ sym (paths.typed-on _ _ _ _ c.start_range-from.ensures (sym c.in_ok-name.ensures.ended) (sym (rw c.if-not-branch.false at c.in_ok-eat.ensures.ended)) (sym c.in_ok-typed.ensures.ended))

pub union_of-returns-in_err-eat-clause-ended : goal.union_of-returns-in_err-eat-clause-ended
union_of-returns-in_err-eat-clause-ended t c = exits c.eat.new.self _ _ c.from_residual.ensures (sym (paths.union-failed _ _ _ _ _ _ c.add-kids.ensures.ended (c.loop-p.invariant.rest ∙ loops.loop-failed _ _ (paths.bar-failed _ _ _ _ _ (sym c.in_err-eat.ensures.ended)))))

pub union_of-returns-clause-ended : goal.union_of-returns-clause-ended
union_of-returns-clause-ended t c = c.close.ensures.ended ∙ sym (paths.union-on _ _ _ _ _ _ c.add-kids.ensures.ended (c.loop-p.invariant.rest ∙ loops.loop-stop _ _ (paths.bar-stop _ _ _ _ _ (sym (rw c.if-branch.false at c.in_ok-eat.ensures.ended)))) c.flagged-flags.ensures)

pub union_of-loop-p-smaller : goal.union_of-loop-p-smaller
union_of-loop-p-smaller t c = loops.loop-less _ _ (keeps.union-takes _ _) (paths.part-more _ _ _ _ _ (sym (rw c.if-branch.true at c.in_ok-eat.ensures.ended)) (sym c.in_ok-link.ensures.ended) c.add-kids-in-loop-p.ensures.ended)

pub union_of-loop-p-preserved : goal.union_of-loop-p-preserved
union_of-loop-p-preserved t c = record {
  rest = c.loop-p.invariant.rest ∙ loops.loop-more _ _ (keeps.union-takes _ _) (paths.part-more _ _ _ _ _ (sym (rw c.if-branch.true at c.in_ok-eat.ensures.ended)) (sym c.in_ok-link.ensures.ended) c.add-kids-in-loop-p.ensures.ended);
  lent = search rules;
}

pub union_of-returns-in_err-link-clause-ended : goal.union_of-returns-in_err-link-clause-ended
union_of-returns-in_err-link-clause-ended t c = exits c.type_atom.new.p _ _ c.from_residual-in_err-link.ensures (sym (paths.union-failed _ _ _ _ _ _ c.add-kids.ensures.ended (c.loop-p.invariant.rest ∙ loops.loop-failed _ _ (paths.part-failed _ _ _ _ _ (sym (rw c.if-branch.true at c.in_ok-eat.ensures.ended)) (sym c.in_err-link.ensures.ended)))))
