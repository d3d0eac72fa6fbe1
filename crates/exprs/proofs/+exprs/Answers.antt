-- The cycle of the rules on expressions, blocks and statements. Each way out is closed by its path lemma, from what the callees ensure and the
-- arms taken. Depth is used up by `exprs` and `prec` alone, so the measure is twenty for each level and the member's rank within one.
use Rattle.std.proofs.Common.{rules, ◌≡◌, ℕ, ◌∷◌, [], sym, ◌∙◌, refl, arith, ap, inl, inr}
use types.Run.{OneOf}
use denote.Enum.Declared.{tag_of}
use Rattle.rules.proofs.StatementPaths as st
use Rattle.rules.proofs.LevelPaths as lv
use Rattle.parts.proofs.AttemptPaths as attempts
use Rattle.parts.proofs.UntilPaths as until
use Rattle.rules.proofs.PrimaryPaths as pm
use Rattle.rules.proofs.PrecedencePaths as pc
use Rattle.rules.proofs.TablePaths as tb
use Rattle.rules.proofs.AtomPaths as ao
use Rattle.rules.proofs.Takes as takes
use Rattle.rules.proofs.BodyTakes as btakes
use Rattle.cursor.proofs.Loops as turning
use Rattle.cursor.proofs.Exits.{exits}
use Rattle.types.proofs.TurnExits.{turn-exits}
use Rattle.types.specs.Items.{so}
use Rattle.parts.specs.Forms.{place, opens, item_rule}
use Rattle.parts.specs.declared.forms.Form.TheVariants as forms
use Rattle.parts.proofs.FormPlaces.{one-place}
use Rattle.parts.specs.declared.values.Expr.{Expr}
use Rattle.parts.specs.declared.values.Called.{Called}
use Rattle.parts.specs.declared.values.Expr.TheVariants as exprs
use Rattle.parts.specs.contracts.values.Expr as told
use Rattle.exprs.specs.Suffix.{is_suffix}
use Rattle.exprs.proofs.Suffixes as sf
use Rattle.exprs.proofs.Forms.{by-group, by-anon, by-loops, by-leaf, by-lit, no-name-past, opens-small, nothing}
use Rattle.exprs.proofs.+exprs.Goals as goal
use Rattle.exprs.proofs.+exprs.Goals.{statements::stmt-then-branch+in-Err+in_ok-undone-in-Err, statements::stmt-else-branch}

-- an expression that is no plain name, or no call, is one of the others
no-name : (x : Expr) → ((a : ℕ) → x ≡ exprs.Name a → ⊥) → OneOf (1 ∷ 2 ∷ 3 ∷ []) (tag_of told.the_type x)
no-name (exprs.Name a) none = absurd (none a refl)
no-name (exprs.NameMember a) none = inl refl
no-name (exprs.Call a b) none = inr (inl refl)
no-name (exprs.Other a) none = inr (inr refl)

no-call : (x : Expr) → ((a : ℕ) (b : Called) → x ≡ exprs.Call a b → ⊥) → OneOf (0 ∷ 1 ∷ 3 ∷ []) (tag_of told.the_type x)
no-call (exprs.Name a) none = inl refl
no-call (exprs.NameMember a) none = inr (inl refl)
no-call (exprs.Call a b) none = absurd (none a b refl)
no-call (exprs.Other a) none = inr (inr refl)

pub assignments::assign-returns-in_err-x-clause-ended : goal.assignments::assign-returns-in_err-x-clause-ended
assignments::assign-returns-in_err-x-clause-ended t c = exits c.prec.new.p _ _ c.from_residual.ensures (sym (st.assign-failed _ _ _ _ (sym c.in_err-x.ensures.ended)))

pub assignments::assign-returns-in_err-which-clause-ended : goal.assignments::assign-returns-in_err-which-clause-ended
assignments::assign-returns-in_err-which-clause-ended t c = exits c.pick.new.self _ _ c.from_residual-in_err-which.ensures (sym (st.assign-full _ _ _ _ (sym c.in_ok-x.ensures.ended) (sym c.in_err-which.ensures.ended)))

pub assignments::assign-returns-in-0-clause-ended : goal.assignments::assign-returns-in-0-clause-ended
assignments::assign-returns-in-0-clause-ended t c = c.multi.ensures.ended ∙ sym (st.assign-multi _ _ _ _ (sym c.in_ok-x.ensures.ended) (sym c.in_ok-which.ensures.ended) c.in-0.is)

pub assignments::assign-returns-in-1-clause-ended : goal.assignments::assign-returns-in-1-clause-ended
assignments::assign-returns-in-1-clause-ended t c = c.typed_assign.ensures.ended ∙ sym (st.assign-typed _ _ _ _ (sym c.in_ok-x.ensures.ended) (sym c.in_ok-which.ensures.ended) (omega arith) c.in-1.is)

pub assignments::assign-returns-in-2-to-7-clause-ended : goal.assignments::assign-returns-in-2-to-7-clause-ended
assignments::assign-returns-in-2-to-7-clause-ended t c = c.set.ensures.ended ∙ sym (st.assign-set _ _ _ _ (sym c.in_ok-x.ensures.ended) (sym c.in_ok-which.ensures.ended) (omega arith) (omega arith) (omega arith))

pub assignments::assign-returns-in_default-clause-ended : goal.assignments::assign-returns-in_default-clause-ended
assignments::assign-returns-in_default-clause-ended t c = sym (st.assign-none _ _ _ _ (sym c.in_ok-x.ensures.ended) (sym c.in_ok-which.ensures.ended) (omega arith) (omega arith) (omega arith) c.link.ensures)

pub assignments::lefts-returns-in_err-comma-clause-ended : goal.assignments::lefts-returns-in_err-comma-clause-ended
assignments::lefts-returns-in_err-comma-clause-ended t c = exits c.eat_range.new.self _ _ c.from_residual.ensures (sym (st.lefts-is _ _ _ _ ∙ c.loop-comma.invariant.rest ∙ turning.loop-failed _ _ (st.left-full _ _ _ _ (sym c.in_err-comma.ensures.ended))))

pub assignments::lefts-returns-clause-ended : goal.assignments::lefts-returns-clause-ended
assignments::lefts-returns-clause-ended t c = sym (st.lefts-is _ _ _ _ ∙ c.loop-comma.invariant.rest ∙ turning.loop-stop _ _ (st.left-stop _ _ _ _ (sym (rw c.in_default.is at c.in_ok-comma.ensures.ended))))

pub assignments::lefts-returns-in_err-x-clause-ended : goal.assignments::lefts-returns-in_err-x-clause-ended
assignments::lefts-returns-in_err-x-clause-ended t c = exits c.prec.new.p _ _ c.from_residual-in_err-x.ensures (sym (st.lefts-is _ _ _ _ ∙ c.loop-comma.invariant.rest ∙ turning.loop-failed _ _ (st.left-failed _ _ _ _ (sym (rw c.in-Some.is at c.in_ok-comma.ensures.ended)) (sym c.in_err-x.ensures.ended))))

pub assignments::lefts-returns-in_default-assign_left-clause-ended : goal.assignments::lefts-returns-in_default-assign_left-clause-ended
assignments::lefts-returns-in_default-assign_left-clause-ended t c = sym (st.lefts-is _ _ _ _ ∙ c.loop-comma.invariant.rest ∙ turning.loop-failed _ _ (st.left-wrong _ _ _ _ (sym (rw c.in-Some.is at c.in_ok-comma.ensures.ended)) (sym c.in_ok-x.ensures.ended) (sym c.in_default-assign_left.is ∙ c.assign_left.ensures) c.alone.ensures))

pub assignments::lefts-loop-comma-smaller : goal.assignments::lefts-loop-comma-smaller
assignments::lefts-loop-comma-smaller t c = turning.loop-less _ _ (takes.left-turn-takes _ _) (st.left-more _ _ _ _ (sym (rw c.in-Some.is at c.in_ok-comma.ensures.ended)) (sym c.in_ok-x.ensures.ended) c.in-Some-assign_left.ensures c.add-kids.ensures.ended)

pub assignments::lefts-loop-comma-preserved : goal.assignments::lefts-loop-comma-preserved
assignments::lefts-loop-comma-preserved t c = record {
  rest = c.loop-comma.invariant.rest ∙ turning.loop-more _ _ (takes.left-turn-takes _ _) (st.left-more _ _ _ _ (sym (rw c.in-Some.is at c.in_ok-comma.ensures.ended)) (sym c.in_ok-x.ensures.ended) c.in-Some-assign_left.ensures c.add-kids.ensures.ended);
  lent = search rules;
}

pub assignments::multi-returns-in_default-clause-ended : goal.assignments::multi-returns-in_default-clause-ended
assignments::multi-returns-in_default-clause-ended t c = rw c.unexpected.ensures (sym (st.multi-nothing _ _ _ _ _ (sym c.in_default.is ∙ c.assign_left.ensures)))

pub assignments::multi-returns-in_err-kids-clause-ended : goal.assignments::multi-returns-in_err-kids-clause-ended
assignments::multi-returns-in_err-kids-clause-ended t c = exits c.lefts.new.p _ _ c.from_residual.ensures (sym (st.multi-failed _ _ _ _ _ c.in-Some.ensures (sym c.in_err-kids.ensures.ended)))

pub assignments::multi-returns-in_err-expect-clause-ended : goal.assignments::multi-returns-in_err-expect-clause-ended
assignments::multi-returns-in_err-expect-clause-ended t c = exits c.expect.new.self _ _ c.from_residual-in_err-expect.ensures (sym (st.multi-open _ _ _ _ _ c.in-Some.ensures (sym c.in_ok-kids.ensures.ended) (sym c.in_err-expect.ensures.ended)))

pub assignments::multi-returns-in_err-value-clause-ended : goal.assignments::multi-returns-in_err-value-clause-ended
assignments::multi-returns-in_err-value-clause-ended t c = exits c.expr.new.p _ _ c.from_residual-in_err-value.ensures (sym (st.multi-lost _ _ _ _ _ c.in-Some.ensures (sym c.in_ok-kids.ensures.ended) (sym c.in_ok-expect.ensures.ended) (sym c.in_err-value.ensures.ended)))

pub assignments::multi-returns-in_err-check-clause-ended : goal.assignments::multi-returns-in_err-check-clause-ended
assignments::multi-returns-in_err-check-clause-ended t c = exits c.check.new.self _ _ c.from_residual-in_err-check.ensures (sym (st.multi-full _ _ _ _ _ c.in-Some.ensures (sym c.in_ok-kids.ensures.ended) (sym c.in_ok-expect.ensures.ended) (sym c.in_ok-value.ensures.ended) (sym c.in_err-check.ensures.ended)))

pub assignments::multi-returns-then-branch-clause-ended : goal.assignments::multi-returns-then-branch-clause-ended
assignments::multi-returns-then-branch-clause-ended t c = c.rights.ensures.ended ∙ sym (st.multi-several _ _ _ _ _ c.in-Some.ensures (sym c.in_ok-kids.ensures.ended) (sym c.in_ok-expect.ensures.ended) (sym c.in_ok-value.ensures.ended) (sym (rw c.if-branch.true at c.in_ok-check.ensures.ended)))

pub assignments::multi-returns-clause-ended : goal.assignments::multi-returns-clause-ended
assignments::multi-returns-clause-ended t c = c.row_record.ensures.ended ∙ sym (st.multi-one _ _ _ _ _ c.in-Some.ensures (sym c.in_ok-kids.ensures.ended) (sym c.in_ok-expect.ensures.ended) (sym c.in_ok-value.ensures.ended) (sym (rw c.if-branch.false at c.in_ok-check.ensures.ended)))

pub assignments::right-returns-in_err-value-clause-ended : goal.assignments::right-returns-in_err-value-clause-ended
assignments::right-returns-in_err-value-clause-ended t c = exits c.expr.new.p _ _ c.from_residual.ensures (sym (st.right-failed _ _ _ _ _ _ _ (sym c.in_err-value.ensures.ended)))

pub assignments::right-returns-clause-ended : goal.assignments::right-returns-clause-ended
assignments::right-returns-clause-ended t c = c.couple.ensures.ended ∙ sym (st.right-on _ _ _ _ _ _ _ (sym c.in_ok-value.ensures.ended))

pub assignments::rights-returns-in_err-expect-clause-ended : goal.assignments::rights-returns-in_err-expect-clause-ended
assignments::rights-returns-in_err-expect-clause-ended t c = exits c.expect.new.self _ _ c.from_residual.ensures (sym (st.rights-failed _ _ c.args.lefts _ _ _ c.add-kids.ensures.ended (c.loop-kids.invariant.rest ∙ turning.loop-failed _ _ (st.right-bare _ _ _ _ _ c.loop-kids-test.true (sym c.in_err-expect.ensures.ended)))))

pub assignments::rights-returns-in_err-link-clause-ended : goal.assignments::rights-returns-in_err-link-clause-ended
assignments::rights-returns-in_err-link-clause-ended t c = exits c.expr.new.p _ _ c.from_residual-in_err-link.ensures (sym (st.rights-failed _ _ c.args.lefts _ _ _ c.add-kids.ensures.ended (c.loop-kids.invariant.rest ∙ turning.loop-failed _ _ (st.right-lost _ _ _ _ _ c.loop-kids-test.true (sym c.in_ok-expect.ensures.ended) (sym c.in_err-link.ensures.ended)))))

pub assignments::rights-loop-kids-smaller : goal.assignments::rights-loop-kids-smaller
assignments::rights-loop-kids-smaller t c = turning.loop-less _ _ (takes.right-turn-takes _ _ _) (st.right-more _ _ _ _ _ c.loop-kids-test.true (sym c.in_ok-expect.ensures.ended) (sym c.in_ok-link.ensures.ended) c.add-kids-in-loop-kids.ensures.ended)

pub assignments::rights-loop-kids-preserved : goal.assignments::rights-loop-kids-preserved
assignments::rights-loop-kids-preserved t c = record {
  rest = c.loop-kids.invariant.rest ∙ turning.loop-more _ _ (takes.right-turn-takes _ _ _) (st.right-more _ _ _ _ _ c.loop-kids-test.true (sym c.in_ok-expect.ensures.ended) (sym c.in_ok-link.ensures.ended) c.add-kids-in-loop-kids.ensures.ended);
  lent = search rules;
}

pub assignments::rights-returns-clause-ended : goal.assignments::rights-returns-clause-ended
assignments::rights-returns-clause-ended t c = c.close.ensures.ended ∙ sym (st.rights-on _ _ c.args.lefts _ _ _ c.add-kids.ensures.ended (c.loop-kids.invariant.rest ∙ turning.loop-stop _ _ (st.right-stop _ _ _ _ _ c.loop-kids-test.false)) c.flagged-flags.ensures)

pub assignments::set-returns-in_default-clause-ended : goal.assignments::set-returns-in_default-clause-ended
assignments::set-returns-in_default-clause-ended t c = rw c.unexpected.ensures (sym (st.set-nothing _ _ _ _ _ _ (sym c.in_default.is ∙ c.assign_left.ensures)))

pub assignments::set-returns-in_err-bump-clause-ended : goal.assignments::set-returns-in_err-bump-clause-ended
assignments::set-returns-in_err-bump-clause-ended t c = exits c.bump.new.self _ _ c.from_residual.ensures (sym (st.set-spent _ _ _ _ _ _ c.in-Some.ensures (sym c.in_err-bump.ensures.ended)))

pub assignments::set-returns-then-sign-eq-ASSIGN-clause-ended : goal.assignments::set-returns-then-sign-eq-ASSIGN-clause-ended
assignments::set-returns-then-sign-eq-ASSIGN-clause-ended t c = c.right.ensures.ended ∙ sym (st.set-plain _ _ _ _ _ _ c.in-Some.ensures (sym c.in_ok-bump.ensures.ended) c.if-sign-eq-ASSIGN.true)

pub assignments::set-returns-clause-ended : goal.assignments::set-returns-clause-ended
assignments::set-returns-clause-ended t c = c.right-2.ensures.ended ∙ sym (st.set-op _ _ _ _ _ _ c.in-Some.ensures (sym c.in_ok-bump.ensures.ended) c.if-sign-eq-ASSIGN.false c.operator_of.ensures)

pub assignments::typed_assign-returns-in_default : goal.assignments::typed_assign-returns-in_default
assignments::typed_assign-returns-in_default t c = record {
  ended = rw c.unexpected.ensures (sym (st.typed_wrong _ _ _ _ _ (no-name _ c.in_default.not-Name)));
  lent = search rules;
}

pub assignments::typed_assign-returns-in_err-bump-clause-ended : goal.assignments::typed_assign-returns-in_err-bump-clause-ended
assignments::typed_assign-returns-in_err-bump-clause-ended t c = exits c.bump.new.self _ _ c.from_residual.ensures (sym (st.typed-spent _ _ _ _ _ c.in-Name.is (sym c.in_err-bump.ensures.ended)))

pub assignments::typed_assign-returns-in_err-link-clause-ended : goal.assignments::typed_assign-returns-in_err-link-clause-ended
assignments::typed_assign-returns-in_err-link-clause-ended t c = exits c.ty.new.p _ _ c.from_residual-in_err-link.ensures (sym (st.typed-failed _ _ _ _ _ c.in-Name.is (sym c.in_ok-bump.ensures.ended) (sym c.in_err-link.ensures.ended)))

pub assignments::typed_assign-returns-in_err-to-clause-ended : goal.assignments::typed_assign-returns-in_err-to-clause-ended
assignments::typed_assign-returns-in_err-to-clause-ended t c = exits c.pair.new.p _ _ c.from_residual-in_err-to.ensures (sym (st.typed-full _ _ _ _ _ c.in-Name.is (sym c.in_ok-bump.ensures.ended) (sym c.in_ok-link.ensures.ended) (sym c.in_err-to.ensures.ended)))

pub assignments::typed_assign-returns-in_err-expect-clause-ended : goal.assignments::typed_assign-returns-in_err-expect-clause-ended
assignments::typed_assign-returns-in_err-expect-clause-ended t c = exits c.expect.new.self _ _ c.from_residual-in_err-expect.ensures (sym (st.typed-open _ _ _ _ _ c.in-Name.is (sym c.in_ok-bump.ensures.ended) (sym c.in_ok-link.ensures.ended) (sym c.in_ok-to.ensures.ended) (sym c.in_err-expect.ensures.ended)))

pub assignments::typed_assign-returns-clause-ended : goal.assignments::typed_assign-returns-clause-ended
assignments::typed_assign-returns-clause-ended t c = c.right.ensures.ended ∙ sym (st.typed-on _ _ _ _ _ c.in-Name.is (sym c.in_ok-bump.ensures.ended) (sym c.in_ok-link.ensures.ended) (sym c.in_ok-to.ensures.ended) (sym c.in_ok-expect.ensures.ended))

pub atoms::anon-returns-in-VBar-clause-ended : goal.atoms::anon-returns-in-VBar-clause-ended
atoms::anon-returns-in-VBar-clause-ended t c = c.nameless.ensures.ended ∙ sym (ao.anon-closure _ _ _ _ _ (ap place c.in-VBar.is) c.function-shut.ensures.ended)

pub atoms::anon-returns-in_err-bump-in-Fn-clause-ended : goal.atoms::anon-returns-in_err-bump-in-Fn-clause-ended
atoms::anon-returns-in_err-bump-in-Fn-clause-ended t c = let p = ap place c.in-Fn.is in exits c.bump.new.self _ _ c.from_residual.ensures (sym (ao.anon-spent _ _ _ _ _ (omega arith) (sym c.in_err-bump-in-Fn.ensures.ended)))

pub atoms::anon-returns-in_ok-bump-in-Fn-clause-ended : goal.atoms::anon-returns-in_ok-bump-in-Fn-clause-ended
atoms::anon-returns-in_ok-bump-in-Fn-clause-ended t c = let p = ap place c.in-Fn.is in c.nameless-in-Fn.ensures.ended ∙ sym (ao.anon-fn _ _ _ _ _ (omega arith) (sym c.in_ok-bump-in-Fn.ensures.ended) p c.function-plain.ensures.ended)

pub atoms::anon-returns-in_err-bump-in_default : goal.atoms::anon-returns-in_err-bump-in_default
atoms::anon-returns-in_err-bump-in_default t c = record {
  ended = exits c.bump-in_default.new.self _ _ c.from_residual-in_err-bump-in_default.ensures (sym (ao.anon-spent _ _ _ _ _ (λ q. c.in_default.not-VBar (one-place _ forms.VBar q)) (sym c.in_err-bump-in_default.ensures.ended)));
  lent = search rules;
}

pub atoms::anon-returns-in_err-body-in_default : goal.atoms::anon-returns-in_err-body-in_default
atoms::anon-returns-in_err-body-in_default t c = record {
  ended = exits c.block.new.p _ _ c.from_residual-in_err-body-in_default.ensures (sym (ao.anon-failed _ _ _ _ _ (λ q. c.in_default.not-VBar (one-place _ forms.VBar q)) (sym c.in_ok-bump-in_default.ensures.ended) (λ q. c.in_default.not-Fn (one-place _ forms.Fn q)) (sym c.in_err-body-in_default.ensures.ended)));
  lent = search rules;
}

pub atoms::anon-returns-in_ok-body-in_default : goal.atoms::anon-returns-in_ok-body-in_default
atoms::anon-returns-in_ok-body-in_default t c = record {
  ended = c.nameless-in_default.ensures.ended ∙ sym (ao.anon-do _ _ _ _ _ (λ q. c.in_default.not-VBar (one-place _ forms.VBar q)) (sym c.in_ok-bump-in_default.ensures.ended) (λ q. c.in_default.not-Fn (one-place _ forms.Fn q)) (sym c.in_ok-body-in_default.ensures.ended) c.close-done.ensures.ended);
  lent = search rules;
}

pub atoms::atom-returns-in_err-place-clause-ended : goal.atoms::atom-returns-in_err-place-clause-ended
atoms::atom-returns-in_err-place-clause-ended t c = exits c.pick.new.self _ _ c.from_residual.ensures (sym (ao.atom-full _ _ _ c.start_range-from.ensures (sym c.in_err-place.ensures.ended)))

pub atoms::atom-returns-in_err-link-clause-ended : goal.atoms::atom-returns-in_err-link-clause-ended
atoms::atom-returns-in_err-link-clause-ended t c = exits c.lit.new.p _ _ c.from_residual-in_err-link.ensures (sym (ao.atom-failed _ _ _ c.start_range-from.ensures (sym c.in_ok-place.ensures.ended) (by-lit _ _ _ _ _ (rw c.in_default.is at c.at.ensures) ∙ (sym c.in_err-link.ensures.ended))))

pub atoms::atom-returns-in_default-clause-ended : goal.atoms::atom-returns-in_default-clause-ended
atoms::atom-returns-in_default-clause-ended t c = sym (ao.atom-on _ _ _ c.start_range-from.ensures (sym c.in_ok-place.ensures.ended) (by-lit _ _ _ _ _ (rw c.in_default.is at c.at.ensures) ∙ (sym c.in_ok-link.ensures.ended)) (no-name-past _ _ (rw c.in_default.is at c.at.ensures)))

pub atoms::atom-returns-in_err-link-2-clause-ended : goal.atoms::atom-returns-in_err-link-2-clause-ended
atoms::atom-returns-in_err-link-2-clause-ended t c = exits c.form.new.p _ _ c.from_residual-in_err-link-2.ensures (sym (ao.atom-failed _ _ _ c.start_range-from.ensures (sym (rw c.in-Some.ensures at c.in_ok-place.ensures.ended)) (sym c.in_err-link-2.ensures.ended)))

pub atoms::atom-returns-clause-ended : goal.atoms::atom-returns-clause-ended
atoms::atom-returns-clause-ended t c = sym (ao.atom-on _ _ _ c.start_range-from.ensures (sym (rw c.in-Some.ensures at c.in_ok-place.ensures.ended)) (sym c.in_ok-link-2.ensures.ended) c.atom_expr_of.ensures)

pub atoms::form-returns-in-OpenParen-clause-ended : goal.atoms::form-returns-in-OpenParen-clause-ended
atoms::form-returns-in-OpenParen-clause-ended t c = c.group.ensures.ended ∙ sym (by-group _ _ _ _ _ c.in-OpenParen.is)

pub atoms::form-returns-in-Ident-clause-ended : goal.atoms::form-returns-in-Ident-clause-ended
atoms::form-returns-in-Ident-clause-ended t c = c.ident.ensures.ended ∙ sym (ao.form-ident _ _ _ _ _ (ap place c.in-Ident.is))

pub atoms::form-returns-in-OpenBrace-clause-ended : goal.atoms::form-returns-in-OpenBrace-clause-ended
atoms::form-returns-in-OpenBrace-clause-ended t c = c.brace.ensures.ended ∙ sym (ao.form-brace _ _ _ _ _ (ap place c.in-OpenBrace.is))

pub atoms::form-returns-in-Fn-clause-ended : goal.atoms::form-returns-in-Fn-clause-ended
atoms::form-returns-in-Fn-clause-ended t c = c.anon.ensures.ended ∙ sym (by-anon _ _ _ _ _ c.in-Fn.is)

pub atoms::form-returns-in-If-clause-ended : goal.atoms::form-returns-in-If-clause-ended
atoms::form-returns-in-If-clause-ended t c = c.if_expr.ensures.ended ∙ sym (ao.form-if _ _ _ _ _ (ap place c.in-If.is))

pub atoms::form-returns-in-Match-clause-ended : goal.atoms::form-returns-in-Match-clause-ended
atoms::form-returns-in-Match-clause-ended t c = c.match_expr.ensures.ended ∙ sym (ao.form-cases _ _ _ _ _ (ap place c.in-Match.is))

pub atoms::form-returns-in-Loop-clause-ended : goal.atoms::form-returns-in-Loop-clause-ended
atoms::form-returns-in-Loop-clause-ended t c = c.loops.ensures.ended ∙ sym (by-loops _ _ _ _ _ c.in-Loop.is)

pub atoms::form-returns-in-Break-clause-ended : goal.atoms::form-returns-in-Break-clause-ended
atoms::form-returns-in-Break-clause-ended t c = c.leaf_of.ensures.ended ∙ sym (by-leaf _ _ _ _ _ c.in-Break.is)

pub atoms::group-returns-in_err-bump-clause-ended : goal.atoms::group-returns-in_err-bump-clause-ended
atoms::group-returns-in_err-bump-clause-ended t c = exits c.bump.new.self _ _ c.from_residual.ensures (sym (ao.group-spent _ _ _ _ _ (sym c.in_err-bump.ensures.ended)))

pub atoms::group-returns-in-OpenBracket-clause-ended : goal.atoms::group-returns-in-OpenBracket-clause-ended
atoms::group-returns-in-OpenBracket-clause-ended t c = c.list_record.ensures.ended ∙ sym (ao.group-list _ _ _ _ _ (sym c.in_ok-bump.ensures.ended) (ap place c.in-OpenBracket.is) c.items-listed.ensures.ended)

pub atoms::group-returns-in_err-link-in-Return-clause-ended : goal.atoms::group-returns-in_err-link-in-Return-clause-ended
atoms::group-returns-in_err-link-in-Return-clause-ended t c = let p = ap place c.in-Return.is in exits c.expr.new.p _ _ c.from_residual-in_err-link-in-Return.ensures (sym (ao.group-failed _ _ _ _ _ (sym c.in_ok-bump.ensures.ended) (omega arith) (sym c.in_err-link-in-Return.ensures.ended)))

pub atoms::group-returns-in_ok-link-in-Return-clause-ended : goal.atoms::group-returns-in_ok-link-in-Return-clause-ended
atoms::group-returns-in_ok-link-in-Return-clause-ended t c = let p = ap place c.in-Return.is in c.close.ensures.ended ∙ sym (ao.group-return _ _ _ _ _ (sym c.in_ok-bump.ensures.ended) (omega arith) (sym c.in_ok-link-in-Return.ensures.ended) p)

pub atoms::group-returns-in_err-link-in_default : goal.atoms::group-returns-in_err-link-in_default
atoms::group-returns-in_err-link-in_default t c = record {
  ended = exits c.expr-in_default.new.p _ _ c.from_residual-in_err-link-in_default.ensures (sym (ao.group-failed _ _ _ _ _ (sym c.in_ok-bump.ensures.ended) (λ q. c.in_default.not-OpenBracket (one-place _ forms.OpenBracket q)) (sym c.in_err-link-in_default.ensures.ended)));
  lent = search rules;
}

pub atoms::group-returns-in_err-expect-in_default : goal.atoms::group-returns-in_err-expect-in_default
atoms::group-returns-in_err-expect-in_default t c = record {
  ended = exits c.expect.new.self _ _ c.from_residual-in_err-expect-in_default.ensures (sym (ao.group-open _ _ _ _ _ (sym c.in_ok-bump.ensures.ended) (λ q. c.in_default.not-OpenBracket (one-place _ forms.OpenBracket q)) (sym c.in_ok-link-in_default.ensures.ended) (λ q. c.in_default.not-Return (one-place _ forms.Return q)) (sym c.in_err-expect-in_default.ensures.ended)));
  lent = search rules;
}

pub atoms::group-returns-in_ok-expect-in_default : goal.atoms::group-returns-in_ok-expect-in_default
atoms::group-returns-in_ok-expect-in_default t c = record {
  ended = c.close-in_default.ensures.ended ∙ sym (ao.group-paren _ _ _ _ _ (sym c.in_ok-bump.ensures.ended) (λ q. c.in_default.not-OpenBracket (one-place _ forms.OpenBracket q)) (sym c.in_ok-link-in_default.ensures.ended) (λ q. c.in_default.not-Return (one-place _ forms.Return q)) (sym c.in_ok-expect-in_default.ensures.ended));
  lent = search rules;
}

pub atoms::if_expr-returns-in_err-bump-clause-ended : goal.atoms::if_expr-returns-in_err-bump-clause-ended
atoms::if_expr-returns-in_err-bump-clause-ended t c = exits c.bump.new.self _ _ c.from_residual.ensures (sym (ao.if-spent _ _ _ _ (sym c.in_err-bump.ensures.ended)))

pub atoms::if_expr-returns-in_err-kids-clause-ended : goal.atoms::if_expr-returns-in_err-kids-clause-ended
atoms::if_expr-returns-in_err-kids-clause-ended t c = exits c.expr_and_block.new.p _ _ c.from_residual-in_err-kids.ensures (sym (ao.if-failed _ _ _ _ (sym c.in_ok-bump.ensures.ended) (sym c.in_err-kids.ensures.ended)))

pub atoms::if_expr-returns-in_err-eat-clause-ended : goal.atoms::if_expr-returns-in_err-eat-clause-ended
atoms::if_expr-returns-in_err-eat-clause-ended t c = exits c.eat.new.self _ _ c.from_residual-in_err-eat.ensures (sym (ao.if-full _ _ _ _ (sym c.in_ok-bump.ensures.ended) (sym c.in_ok-kids.ensures.ended) (sym c.in_err-eat.ensures.ended)))

pub atoms::if_expr-returns-then-not-branch-clause-ended : goal.atoms::if_expr-returns-then-not-branch-clause-ended
atoms::if_expr-returns-then-not-branch-clause-ended t c = c.if_record.ensures.ended ∙ sym (ao.if-bare _ _ _ _ (sym c.in_ok-bump.ensures.ended) (sym c.in_ok-kids.ensures.ended) (sym (rw c.if-not-branch.true at c.in_ok-eat.ensures.ended)))

pub atoms::if_expr-returns-in_err-check-clause-ended : goal.atoms::if_expr-returns-in_err-check-clause-ended
atoms::if_expr-returns-in_err-check-clause-ended t c = exits c.check.new.self _ _ c.from_residual-in_err-check.ensures (sym (ao.if-lost _ _ _ _ (sym c.in_ok-bump.ensures.ended) (sym c.in_ok-kids.ensures.ended) (sym (rw c.if-not-branch.false at c.in_ok-eat.ensures.ended)) (sym c.in_err-check.ensures.ended)))

pub atoms::if_expr-returns-then-branch-clause-ended : goal.atoms::if_expr-returns-then-branch-clause-ended
atoms::if_expr-returns-then-branch-clause-ended t c = c.if_record-then-branch.ensures.ended ∙ sym (ao.if-again _ _ _ _ (sym c.in_ok-bump.ensures.ended) (sym c.in_ok-kids.ensures.ended) (sym (rw c.if-not-branch.false at c.in_ok-eat.ensures.ended)) (sym (rw c.if-branch.true at c.in_ok-check.ensures.ended)) c.expr-next.ensures.ended)

pub atoms::if_expr-returns-clause-ended : goal.atoms::if_expr-returns-clause-ended
atoms::if_expr-returns-clause-ended t c = c.if_record-2.ensures.ended ∙ sym (ao.if-else _ _ _ _ (sym c.in_ok-bump.ensures.ended) (sym c.in_ok-kids.ensures.ended) (sym (rw c.if-not-branch.false at c.in_ok-eat.ensures.ended)) (sym (rw c.if-branch.false at c.in_ok-check.ensures.ended)) c.block-last.ensures.ended)

pub atoms::loops-returns-in_err-bump-clause-ended : goal.atoms::loops-returns-in_err-bump-clause-ended
atoms::loops-returns-in_err-bump-clause-ended t c = exits c.bump.new.self _ _ c.from_residual.ensures (sym (ao.loops-spent _ _ _ _ _ (sym c.in_err-bump.ensures.ended)))

pub atoms::loops-returns-in-Loop-clause-ended : goal.atoms::loops-returns-in-Loop-clause-ended
atoms::loops-returns-in-Loop-clause-ended t c = c.loop_record.ensures.ended ∙ sym (ao.loops-loop _ _ _ _ _ (sym c.in_ok-bump.ensures.ended) (ap place c.in-Loop.is) c.block-body.ensures.ended)

pub atoms::loops-returns-in_err-names-in_default : goal.atoms::loops-returns-in_err-names-in_default
atoms::loops-returns-in_err-names-in_default t c = record {
  ended = exits c.loop_names_of.new.p _ _ c.from_residual-in_err-names-in_default.ensures (sym (ao.loops-bare _ _ _ _ _ (sym c.in_ok-bump.ensures.ended) (λ q. c.in_default.not-Loop (one-place _ forms.Loop q)) (sym c.in_err-names-in_default.ensures.ended)));
  lent = search rules;
}

pub atoms::loops-returns-in_err-kids-in_default : goal.atoms::loops-returns-in_err-kids-in_default
atoms::loops-returns-in_err-kids-in_default t c = record {
  ended = exits c.expr_and_block.new.p _ _ c.from_residual-in_err-kids-in_default.ensures (sym (ao.loops-failed _ _ _ _ _ (sym c.in_ok-bump.ensures.ended) (λ q. c.in_default.not-Loop (one-place _ forms.Loop q)) (sym c.in_ok-names-in_default.ensures.ended) (sym c.in_err-kids-in_default.ensures.ended)));
  lent = search rules;
}

pub atoms::loops-returns-in_ok-kids-in_default : goal.atoms::loops-returns-in_ok-kids-in_default
atoms::loops-returns-in_ok-kids-in_default t c = record {
  ended = c.round_record_of.ensures.ended ∙ sym (ao.loops-on _ _ _ _ _ (sym c.in_ok-bump.ensures.ended) (λ q. c.in_default.not-Loop (one-place _ forms.Loop q)) (sym c.in_ok-names-in_default.ensures.ended) (sym c.in_ok-kids-in_default.ensures.ended));
  lent = search rules;
}

pub atoms::match_case-returns-in_err-row-clause-ended : goal.atoms::match_case-returns-in_err-row-clause-ended
atoms::match_case-returns-in_err-row-clause-ended t c = exits c.case_patterns.new.p _ _ c.from_residual.ensures (sym (ao.case-failed _ _ _ c.start_range-from.ensures (sym c.in_err-row.ensures.ended)))

pub atoms::match_case-returns-in_err-expect-clause-ended : goal.atoms::match_case-returns-in_err-expect-clause-ended
atoms::match_case-returns-in_err-expect-clause-ended t c = exits c.expect.new.self _ _ c.from_residual-in_err-expect.ensures (sym (ao.case_open _ _ _ c.start_range-from.ensures (sym c.in_ok-row.ensures.ended) (sym c.in_err-expect.ensures.ended)))

pub atoms::match_case-returns-in_err-link-clause-ended : goal.atoms::match_case-returns-in_err-link-clause-ended
atoms::match_case-returns-in_err-link-clause-ended t c = exits c.expr.new.p _ _ c.from_residual-in_err-link.ensures (sym (ao.case-lost _ _ _ c.start_range-from.ensures (sym c.in_ok-row.ensures.ended) (sym c.in_ok-expect.ensures.ended) (sym c.in_err-link.ensures.ended)))

pub atoms::match_case-returns-clause-ended : goal.atoms::match_case-returns-clause-ended
atoms::match_case-returns-clause-ended t c = c.row_record.ensures.ended ∙ sym (ao.case-on _ _ _ c.start_range-from.ensures (sym c.in_ok-row.ensures.ended) (sym c.in_ok-expect.ensures.ended) (sym c.in_ok-link.ensures.ended))

pub atoms::match_expr-returns-in_err-bump-clause-ended : goal.atoms::match_expr-returns-in_err-bump-clause-ended
atoms::match_expr-returns-in_err-bump-clause-ended t c = exits c.bump.new.self _ _ c.from_residual.ensures (sym (ao.cases-spent _ _ _ _ (sym c.in_err-bump.ensures.ended)))

pub atoms::match_expr-returns-in_err-link-clause-ended : goal.atoms::match_expr-returns-in_err-link-clause-ended
atoms::match_expr-returns-in_err-link-clause-ended t c = exits c.expr.new.p _ _ c.from_residual-in_err-link.ensures (sym (ao.cases-failed _ _ _ _ (sym c.in_ok-bump.ensures.ended) (sym c.in_err-link.ensures.ended)))

pub atoms::match_expr-returns-in_err-expect-clause-ended : goal.atoms::match_expr-returns-in_err-expect-clause-ended
atoms::match_expr-returns-in_err-expect-clause-ended t c = exits c.expect.new.self _ _ c.from_residual-in_err-expect.ensures (sym (ao.cases-open _ _ _ _ (sym c.in_ok-bump.ensures.ended) (sym c.in_ok-link.ensures.ended) (sym c.in_err-expect.ensures.ended)))

pub atoms::match_expr-returns-in_err-eat-clause-ended : goal.atoms::match_expr-returns-in_err-eat-clause-ended
atoms::match_expr-returns-in_err-eat-clause-ended t c = exits c.eat.new.self _ _ c.from_residual-in_err-eat.ensures (sym (ao.cases-lost _ _ _ _ (sym c.in_ok-bump.ensures.ended) (sym c.in_ok-link.ensures.ended) (sym c.in_ok-expect.ensures.ended) (c.loop-p.invariant.rest ∙ turning.loop-failed _ _ (ao.turn-failed _ _ _ _ (sym c.in_err-eat.ensures.ended)))))

pub atoms::match_expr-returns-clause-ended : goal.atoms::match_expr-returns-clause-ended
atoms::match_expr-returns-clause-ended t c = c.close.ensures.ended ∙ sym (ao.cases-on _ _ _ _ (sym c.in_ok-bump.ensures.ended) (sym c.in_ok-link.ensures.ended) (sym c.in_ok-expect.ensures.ended) (c.loop-p.invariant.rest ∙ turning.loop-stop _ _ (ao.turn-closed _ _ _ _ (sym (rw c.if-not-branch.false at c.in_ok-eat.ensures.ended)))) c.flagged-flags.ensures)

pub atoms::match_expr-returns-in_err-eat_eol-clause-ended : goal.atoms::match_expr-returns-in_err-eat_eol-clause-ended
atoms::match_expr-returns-in_err-eat_eol-clause-ended t c = exits c.eat_eol.new.self _ _ c.from_residual-in_err-eat_eol.ensures (sym (ao.cases-lost _ _ _ _ (sym c.in_ok-bump.ensures.ended) (sym c.in_ok-link.ensures.ended) (sym c.in_ok-expect.ensures.ended) (c.loop-p.invariant.rest ∙ turning.loop-failed _ _ (ao.turn-spent _ _ _ _ (sym (rw c.if-not-branch.true at c.in_ok-eat.ensures.ended)) (sym c.in_err-eat_eol.ensures.ended)))))

pub atoms::match_expr-returns-in_err-one-clause-ended : goal.atoms::match_expr-returns-in_err-one-clause-ended
atoms::match_expr-returns-in_err-one-clause-ended t c = exits c.match_case.new.p _ _ c.from_residual-in_err-one.ensures (sym (ao.cases-lost _ _ _ _ (sym c.in_ok-bump.ensures.ended) (sym c.in_ok-link.ensures.ended) (sym c.in_ok-expect.ensures.ended) (c.loop-p.invariant.rest ∙ turning.loop-failed _ _ (ao.turn-lost _ _ _ _ (sym (rw c.if-not-branch.true at c.in_ok-eat.ensures.ended)) (sym c.in_ok-eat_eol.ensures.ended) (sym c.in_err-one.ensures.ended)))))

pub atoms::match_expr-returns-in_err-eat_eol-2-clause-ended : goal.atoms::match_expr-returns-in_err-eat_eol-2-clause-ended
atoms::match_expr-returns-in_err-eat_eol-2-clause-ended t c = exits c.eat_eol-in-loop-p.new.self _ _ c.from_residual-in_err-eat_eol-2.ensures (sym (ao.cases-lost _ _ _ _ (sym c.in_ok-bump.ensures.ended) (sym c.in_ok-link.ensures.ended) (sym c.in_ok-expect.ensures.ended) (c.loop-p.invariant.rest ∙ turning.loop-failed _ _ (ao.turn-over _ _ _ _ (sym (rw c.if-not-branch.true at c.in_ok-eat.ensures.ended)) (sym c.in_ok-eat_eol.ensures.ended) (sym c.in_ok-one.ensures.ended) (sym c.in_err-eat_eol-2.ensures.ended)))))

pub atoms::match_expr-loop-p-smaller : goal.atoms::match_expr-loop-p-smaller
atoms::match_expr-loop-p-smaller t c = turning.loop-less _ _ (takes.case-turn-takes _ _) (ao.turn_more _ _ _ _ (sym (rw c.if-not-branch.true at c.in_ok-eat.ensures.ended)) (sym c.in_ok-eat_eol.ensures.ended) (sym c.in_ok-one.ensures.ended) (sym c.in_ok-eat_eol-2.ensures.ended) c.add-row.ensures.ended)

pub atoms::match_expr-loop-p-preserved : goal.atoms::match_expr-loop-p-preserved
atoms::match_expr-loop-p-preserved t c = record {
  rest = c.loop-p.invariant.rest ∙ turning.loop-more _ _ (takes.case-turn-takes _ _) (ao.turn_more _ _ _ _ (sym (rw c.if-not-branch.true at c.in_ok-eat.ensures.ended)) (sym c.in_ok-eat_eol.ensures.ended) (sym c.in_ok-one.ensures.ended) (sym c.in_ok-eat_eol-2.ensures.ended) c.add-row.ensures.ended);
  lent = search rules;
}

pub exprs::block-returns-in_err-expect-clause-ended : goal.exprs::block-returns-in_err-expect-clause-ended
exprs::block-returns-in_err-expect-clause-ended t c = exits c.expect.new.self _ _ c.from_residual.ensures (sym (st.block-shut _ _ _ _ (sym c.in_err-expect.ensures.ended)))

pub exprs::block-returns-in_err-row-clause-ended : goal.exprs::block-returns-in_err-row-clause-ended
exprs::block-returns-in_err-row-clause-ended t c = exits c.exprs.new.p _ _ c.from_residual-in_err-row.ensures (sym (st.block-failed _ _ _ _ (sym c.in_ok-expect.ensures.ended) c.start_range-from.ensures (sym c.in_err-row.ensures.ended)))

pub exprs::block-returns-clause-ended : goal.exprs::block-returns-clause-ended
exprs::block-returns-clause-ended t c = c.block_record.ensures.ended ∙ sym (st.block_on _ _ _ _ (sym c.in_ok-expect.ensures.ended) c.start_range-from.ensures (sym c.in_ok-row.ensures.ended))

pub exprs::expr-returns-in_err-x-clause-ended : goal.exprs::expr-returns-in_err-x-clause-ended
exprs::expr-returns-in_err-x-clause-ended t c = exits c.prec.new.p _ _ c.from_residual.ensures (sym (st.expr-failed _ _ _ _ (sym c.in_err-x.ensures.ended)))

pub exprs::expr-returns-clause-ended : goal.exprs::expr-returns-clause-ended
exprs::expr-returns-clause-ended t c = sym (st.expr-on _ _ _ _ (sym c.in_ok-x.ensures.ended) c.link.ensures)

pub exprs::expr_and_block-returns-in_err-link-clause-ended : goal.exprs::expr_and_block-returns-in_err-link-clause-ended
exprs::expr_and_block-returns-in_err-link-clause-ended t c = exits c.expr.new.p _ _ c.from_residual.ensures (sym (st.test-failed _ _ _ _ (sym c.in_err-link.ensures.ended)))

pub exprs::expr_and_block-returns-in_err-body-clause-ended : goal.exprs::expr_and_block-returns-in_err-body-clause-ended
exprs::expr_and_block-returns-in_err-body-clause-ended t c = exits c.block.new.p _ _ c.from_residual-in_err-body.ensures (sym (st.tested-failed _ _ _ _ (sym c.in_ok-link.ensures.ended) (sym c.in_err-body.ensures.ended)))

pub exprs::expr_and_block-returns-clause-ended : goal.exprs::expr_and_block-returns-clause-ended
exprs::expr_and_block-returns-clause-ended t c = sym (st.tested-on _ _ _ _ (sym c.in_ok-link.ensures.ended) (sym c.in_ok-body.ensures.ended) c.add-one.ensures.ended c.add.ensures.ended)

pub exprs::exprs-returns-then-depth-eq0-clause-ended : goal.exprs::exprs-returns-then-depth-eq0-clause-ended
exprs::exprs-returns-then-depth-eq0-clause-ended t c = sym (lv.body-none _ _ _ _ c.if-depth-eq0.true _)

pub exprs::exprs-returns-in_err-eat_eol-clause-ended : goal.exprs::exprs-returns-in_err-eat_eol-clause-ended
exprs::exprs-returns-in_err-eat_eol-clause-ended t c = exits c.eat_eol.new.self _ _ c.from_residual.ensures (sym (lv.body-spent _ _ _ _ _ c.if-depth-eq0.false (sym c.in_err-eat_eol.ensures.ended)))

pub exprs::exprs-returns-in_err-eat-clause-ended : goal.exprs::exprs-returns-in_err-eat-clause-ended
exprs::exprs-returns-in_err-eat-clause-ended t c = exits c.eat.new.self _ _ c.from_residual-in_err-eat.ensures (sym (lv.body-begin _ _ _ _ _ c.if-depth-eq0.false (sym c.in_ok-eat_eol.ensures.ended) ∙ c.loop-mark.invariant.rest ∙ turning.loop-failed _ _ (lv.body-full _ _ _ _ _ (sym c.in_err-eat.ensures.ended))))

pub exprs::exprs-returns-then-branch-clause-ended : goal.exprs::exprs-returns-then-branch-clause-ended
exprs::exprs-returns-then-branch-clause-ended t c = sym (lv.body-begin _ _ _ _ _ c.if-depth-eq0.false (sym c.in_ok-eat_eol.ensures.ended) ∙ c.loop-mark.invariant.rest ∙ turning.loop-stop _ _ (lv.body_ended _ _ _ _ _ (sym (rw c.if-branch.true at c.in_ok-eat.ensures.ended))))

pub exprs::exprs-returns-in_err-link-clause-ended : goal.exprs::exprs-returns-in_err-link-clause-ended
exprs::exprs-returns-in_err-link-clause-ended t c = exits c.recovered.new.p _ _ c.from_residual-in_err-link.ensures (sym (lv.body-begin _ _ _ _ _ c.if-depth-eq0.false (sym c.in_ok-eat_eol.ensures.ended) ∙ c.loop-mark.invariant.rest ∙ turning.loop-failed _ _ (lv.body-failed _ _ _ _ _ (sym (rw c.if-branch.false at c.in_ok-eat.ensures.ended)) (lv.stmt-or-is _ _ _ _ c.stmt-said.ensures.ended ∙ (sym c.in_err-link.ensures.ended)))))

pub exprs::exprs-returns-in_err-longer-clause-ended : goal.exprs::exprs-returns-in_err-longer-clause-ended
exprs::exprs-returns-in_err-longer-clause-ended t c = exits c.after_stmt.new.p _ _ c.from_residual-in_err-longer.ensures (sym (lv.body-begin _ _ _ _ _ c.if-depth-eq0.false (sym c.in_ok-eat_eol.ensures.ended) ∙ c.loop-mark.invariant.rest ∙ turning.loop-failed _ _ (lv.body-on _ _ _ _ _ (sym (rw c.if-branch.false at c.in_ok-eat.ensures.ended)) (lv.stmt-or-is _ _ _ _ c.stmt-said.ensures.ended ∙ (sym c.in_ok-link.ensures.ended)) ∙ (sym c.in_err-longer.ensures.ended))))

pub exprs::exprs-loop-mark-smaller : goal.exprs::exprs-loop-mark-smaller
exprs::exprs-loop-mark-smaller t c = turning.loop-less _ _ (btakes.body-turn-takes _ _ _) (lv.body-on _ _ _ _ _ (sym (rw c.if-branch.false at c.in_ok-eat.ensures.ended)) (lv.stmt-or-is _ _ _ _ c.stmt-said.ensures.ended ∙ (sym c.in_ok-link.ensures.ended)) ∙ sym (rw c.in-Continue.is at c.in_ok-longer.ensures.ended))

pub exprs::exprs-loop-mark-preserved : goal.exprs::exprs-loop-mark-preserved
exprs::exprs-loop-mark-preserved t c = record {
  rest = c.loop-mark.invariant.rest ∙ turning.loop-more _ _ (btakes.body-turn-takes _ _ _) (lv.body-on _ _ _ _ _ (sym (rw c.if-branch.false at c.in_ok-eat.ensures.ended)) (lv.stmt-or-is _ _ _ _ c.stmt-said.ensures.ended ∙ (sym c.in_ok-link.ensures.ended)) ∙ sym (rw c.in-Continue.is at c.in_ok-longer.ensures.ended));
  lent = search rules;
}

pub exprs::exprs-returns-in-Break-clause-ended : goal.exprs::exprs-returns-in-Break-clause-ended
exprs::exprs-returns-in-Break-clause-ended t c = sym (lv.body-begin _ _ _ _ _ c.if-depth-eq0.false (sym c.in_ok-eat_eol.ensures.ended) ∙ c.loop-mark.invariant.rest ∙ turning.loop-stop _ _ (lv.body-on _ _ _ _ _ (sym (rw c.if-branch.false at c.in_ok-eat.ensures.ended)) (lv.stmt-or-is _ _ _ _ c.stmt-said.ensures.ended ∙ (sym c.in_ok-link.ensures.ended)) ∙ sym (rw c.in-Break.is at c.in_ok-longer.ensures.ended)))

pub exprs::handler-returns-in_err-expect-clause-ended : goal.exprs::handler-returns-in_err-expect-clause-ended
exprs::handler-returns-in_err-expect-clause-ended t c = exits c.expect.new.self _ _ c.from_residual.ensures (sym (pc.handler-open _ _ _ c.start_range-from.ensures (sym c.in_err-expect.ensures.ended)))

pub exprs::handler-returns-in_err-name-clause-ended : goal.exprs::handler-returns-in_err-name-clause-ended
exprs::handler-returns-in_err-name-clause-ended t c = exits c.ident.new.p _ _ c.from_residual-in_err-name.ensures (sym (pc.handler-bare _ _ _ c.start_range-from.ensures (sym c.in_ok-expect.ensures.ended) (sym c.in_err-name.ensures.ended)))

pub exprs::handler-returns-in_err-items-clause-ended : goal.exprs::handler-returns-in_err-items-clause-ended
exprs::handler-returns-in_err-items-clause-ended t c = exits c.params.new.p _ _ c.from_residual-in_err-items.ensures (sym (pc.handler-failed _ _ _ c.start_range-from.ensures (sym c.in_ok-expect.ensures.ended) (sym c.in_ok-name.ensures.ended) (sym c.in_err-items.ensures.ended)))

pub exprs::handler-returns-in_err-body-clause-ended : goal.exprs::handler-returns-in_err-body-clause-ended
exprs::handler-returns-in_err-body-clause-ended t c = exits c.block.new.p _ _ c.from_residual-in_err-body.ensures (sym (pc.handler-lost _ _ _ c.start_range-from.ensures (sym c.in_ok-expect.ensures.ended) (sym c.in_ok-name.ensures.ended) (sym c.in_ok-items.ensures.ended) (sym c.in_err-body.ensures.ended)))

pub exprs::handler-returns-clause-ended : goal.exprs::handler-returns-clause-ended
exprs::handler-returns-clause-ended t c = c.handler_record.ensures.ended ∙ sym (pc.handler-on _ _ _ c.start_range-from.ensures (sym c.in_ok-expect.ensures.ended) (sym c.in_ok-name.ensures.ended) (sym c.in_ok-items.ensures.ended) (sym c.in_ok-body.ensures.ended))

pub exprs::infix-returns-in_default-clause-ended : goal.exprs::infix-returns-in_default-clause-ended
exprs::infix-returns-in_default-clause-ended t c = sym (pc.infix-none _ _ _ _ _ _ _ c.current_kind-kind.ensures (sym c.bin_op.ensures ∙ c.in_default.is))

pub exprs::infix-returns-then-level-min-clause-ended : goal.exprs::infix-returns-then-level-min-clause-ended
exprs::infix-returns-then-level-min-clause-ended t c = sym (pc.infix-low _ _ _ _ _ _ _ c.current_kind-kind.ensures (sym c.in-Some.ensures) c.precedence-level.ensures c.if-level-min.true)

pub exprs::infix-returns-in_err-bump-clause-ended : goal.exprs::infix-returns-in_err-bump-clause-ended
exprs::infix-returns-in_err-bump-clause-ended t c = turn-exits (λ a. a) (λ a. a) c.bump.new.self _ _ c.from_residual.ensures (sym (pc.infix-spent _ _ _ _ _ _ _ c.current_kind-kind.ensures (sym c.in-Some.ensures) c.precedence-level.ensures c.if-level-min.false (sym c.in_err-bump.ensures.ended)))

pub exprs::infix-returns-then-kind-clause-ended : goal.exprs::infix-returns-then-kind-clause-ended
exprs::infix-returns-then-kind-clause-ended t c = c.type_check.ensures.ended ∙ sym (pc.infix-is _ _ _ _ _ _ _ c.current_kind-kind.ensures (sym c.in-Some.ensures) c.precedence-level.ensures c.if-level-min.false (sym c.in_ok-bump.ensures.ended) c.if-kind.true)

pub exprs::infix-overflow_add-level : goal.exprs::infix-overflow_add-level
exprs::infix-overflow_add-level t c = omega (arith, c.precedence-level.ensures, pc.level-small c.in-Some.op)

pub exprs::infix-returns-in_err-right-clause-ended : goal.exprs::infix-returns-in_err-right-clause-ended
exprs::infix-returns-in_err-right-clause-ended t c = turn-exits (λ a. a) (λ a. a) c.prec.new.p _ _ c.from_residual-in_err-right.ensures (sym (pc.infix-failed _ _ _ _ _ _ _ c.current_kind-kind.ensures (sym c.in-Some.ensures) c.precedence-level.ensures c.if-level-min.false (sym c.in_ok-bump.ensures.ended) c.if-kind.false (sym c.in_err-right.ensures.ended)))

pub exprs::infix-returns-in_err-link-clause-ended : goal.exprs::infix-returns-in_err-link-clause-ended
exprs::infix-returns-in_err-link-clause-ended t c = turn-exits (λ a. a) (λ a. a) c.couple.new.p _ _ c.from_residual-in_err-link.ensures (sym (pc.infix-lost _ _ _ _ _ _ _ c.current_kind-kind.ensures (sym c.in-Some.ensures) c.precedence-level.ensures c.if-level-min.false (sym c.in_ok-bump.ensures.ended) c.if-kind.false (sym c.in_ok-right.ensures.ended) c.link.ensures c.link-2.ensures (sym c.in_err-link.ensures.ended)))

pub exprs::infix-returns-clause-ended : goal.exprs::infix-returns-clause-ended
exprs::infix-returns-clause-ended t c = sym (pc.infix-on _ _ _ _ _ _ _ c.current_kind-kind.ensures (sym c.in-Some.ensures) c.precedence-level.ensures c.if-level-min.false (sym c.in_ok-bump.ensures.ended) c.if-kind.false (sym c.in_ok-right.ensures.ended) c.link.ensures c.link-2.ensures (sym c.in_ok-link.ensures.ended))

pub exprs::prec-returns-then-depth-eq0-clause-ended : goal.exprs::prec-returns-then-depth-eq0-clause-ended
exprs::prec-returns-then-depth-eq0-clause-ended t c = sym (lv.prec-none _ _ _ _ c.if-depth-eq0.true _ _)

pub exprs::prec-returns-in_err-x-clause-ended : goal.exprs::prec-returns-in_err-x-clause-ended
exprs::prec-returns-in_err-x-clause-ended t c = exits c.unary.new.p _ _ c.from_residual.ensures (sym (lv.prec-failed _ _ _ _ _ c.start_range-from.ensures _ c.if-depth-eq0.false (sym c.in_err-x.ensures.ended)))

pub exprs::prec-returns-then-is_none-clause-ended : goal.exprs::prec-returns-then-is_none-clause-ended
exprs::prec-returns-then-is_none-clause-ended t c = sym (lv.prec-begin _ _ _ _ _ c.start_range-from.ensures _ c.if-depth-eq0.false (sym c.in_ok-x.ensures.ended) ∙ turning.loop-stop _ _ (pc.infix-none _ _ _ _ _ _ _ c.current_kind.ensures (sym c.bin_op.ensures ∙ nothing _ c.is_none.ensures c.if-is_none.true)))

pub exprs::prec-loop-longer-smaller : goal.exprs::prec-loop-longer-smaller
exprs::prec-loop-longer-smaller t c = turning.loop-less _ _ (takes.infix-turn-takes _ _ _ _ _) (sym (rw c.in-Continue.is at c.in_ok-longer.ensures.ended))

pub exprs::prec-loop-longer-preserved : goal.exprs::prec-loop-longer-preserved
exprs::prec-loop-longer-preserved t c = record {
  rest = c.loop-longer.invariant.rest ∙ turning.loop-more _ _ (takes.infix-turn-takes _ _ _ _ _) (sym (rw c.in-Continue.is at c.in_ok-longer.ensures.ended));
  lent = search rules;
}

pub exprs::prec-returns-in-Break-clause-ended : goal.exprs::prec-returns-in-Break-clause-ended
exprs::prec-returns-in-Break-clause-ended t c = sym (lv.prec-begin _ _ _ _ _ c.start_range-from.ensures _ c.if-depth-eq0.false (sym c.in_ok-x.ensures.ended) ∙ c.loop-longer.invariant.rest ∙ turning.loop-stop _ _ (sym (rw c.in-Break.is at c.in_ok-longer.ensures.ended)))

pub exprs::prec-returns-in_err-longer-clause-ended : goal.exprs::prec-returns-in_err-longer-clause-ended
exprs::prec-returns-in_err-longer-clause-ended t c = exits c.infix.new.p _ _ c.from_residual-in_err-longer.ensures (sym (lv.prec-begin _ _ _ _ _ c.start_range-from.ensures _ c.if-depth-eq0.false (sym c.in_ok-x.ensures.ended) ∙ c.loop-longer.invariant.rest ∙ turning.loop-failed _ _ (sym c.in_err-longer.ensures.ended)))

pub exprs::tried-returns-in_err-bump-clause-ended : goal.exprs::tried-returns-in_err-bump-clause-ended
exprs::tried-returns-in_err-bump-clause-ended t c = exits c.bump.new.self _ _ c.from_residual.ensures (sym (pc.tried-spent _ _ _ _ (sym c.in_err-bump.ensures.ended)))

pub exprs::tried-returns-in_err-x-clause-ended : goal.exprs::tried-returns-in_err-x-clause-ended
exprs::tried-returns-in_err-x-clause-ended t c = exits c.primary.new.p _ _ c.from_residual-in_err-x.ensures (sym (pc.tried-failed _ _ _ _ (sym c.in_ok-bump.ensures.ended) (sym c.in_err-x.ensures.ended)))

pub exprs::tried-returns-in_default : goal.exprs::tried-returns-in_default
exprs::tried-returns-in_default t c = record {
  ended = sym (pc.tried_other _ _ _ _ (sym c.in_ok-bump.ensures.ended) (sym c.in_ok-x.ensures.ended) (no-call _ c.in_default.not-Call) c.current_range-here.ensures c.span_of.ensures c.alone.ensures);
  lent = search rules;
}

pub exprs::tried-returns-in_err-one-clause-ended : goal.exprs::tried-returns-in_err-one-clause-ended
exprs::tried-returns-in_err-one-clause-ended t c = exits c.handler.new.p _ _ c.from_residual-in_err-one.ensures (sym (pc.tried-lost _ _ _ _ (sym c.in_ok-bump.ensures.ended) (sym c.in_ok-x.ensures.ended) c.in-Call.is (c.loop-one.invariant.rest ∙ turning.loop-failed _ _ (pc.turn-failed _ _ _ _ (sym c.in_err-one.ensures.ended)))))

pub exprs::tried-returns-in_err-check-clause-ended : goal.exprs::tried-returns-in_err-check-clause-ended
exprs::tried-returns-in_err-check-clause-ended t c = exits c.check.new.self _ _ c.from_residual-in_err-check.ensures (sym (pc.tried-lost _ _ _ _ (sym c.in_ok-bump.ensures.ended) (sym c.in_ok-x.ensures.ended) c.in-Call.is (c.loop-one.invariant.rest ∙ turning.loop-failed _ _ (pc.turn-full _ _ _ _ (sym c.in_ok-one.ensures.ended) c.add-kids.ensures.ended (sym c.in_err-check.ensures.ended)))))

pub exprs::tried-returns-then-not-branch-clause-ended : goal.exprs::tried-returns-then-not-branch-clause-ended
exprs::tried-returns-then-not-branch-clause-ended t c = sym (pc.tried-on _ _ _ _ (sym c.in_ok-bump.ensures.ended) (sym c.in_ok-x.ensures.ended) c.in-Call.is (c.loop-one.invariant.rest ∙ turning.loop-stop _ _ (pc.turn-stop _ _ _ _ (sym c.in_ok-one.ensures.ended) c.add-kids.ensures.ended (sym (rw c.if-not-branch.true at c.in_ok-check.ensures.ended)))) c.handlers_flagged.ensures.ended)

pub exprs::tried-loop-one-smaller : goal.exprs::tried-loop-one-smaller
exprs::tried-loop-one-smaller t c = turning.loop-less _ _ (takes.handler-turn-takes _ _) (pc.turn_more _ _ _ _ (sym c.in_ok-one.ensures.ended) c.add-kids.ensures.ended (sym (rw c.if-not-branch.false at c.in_ok-check.ensures.ended)))

pub exprs::tried-loop-one-preserved : goal.exprs::tried-loop-one-preserved
exprs::tried-loop-one-preserved t c = record {
  rest = c.loop-one.invariant.rest ∙ turning.loop-more _ _ (takes.handler-turn-takes _ _) (pc.turn_more _ _ _ _ (sym c.in_ok-one.ensures.ended) c.add-kids.ensures.ended (sym (rw c.if-not-branch.false at c.in_ok-check.ensures.ended)));
  lent = search rules;
}

pub exprs::unary-returns-in_err-pick-clause-ended : goal.exprs::unary-returns-in_err-pick-clause-ended
exprs::unary-returns-in_err-pick-clause-ended t c = exits c.pick.new.self _ _ c.from_residual.ensures (sym (pc.unary-full _ _ _ _ c.start_range-from.ensures (sym c.in_err-pick.ensures.ended)))

pub exprs::unary-returns-in-2-clause-ended : goal.exprs::unary-returns-in-2-clause-ended
exprs::unary-returns-in-2-clause-ended t c = c.tried.ensures.ended ∙ sym (pc.unary-try _ _ _ _ c.start_range-from.ensures (sym c.in_ok-pick.ensures.ended) c.in-2.is)

pub exprs::unary-returns-in_default-clause-ended : goal.exprs::unary-returns-in_default-clause-ended
exprs::unary-returns-in_default-clause-ended t c = c.primary-in_default.ensures.ended ∙ sym (pc.unary-plain _ _ _ _ c.start_range-from.ensures (sym c.in_ok-pick.ensures.ended) (omega arith) (omega arith))

pub exprs::unary-returns-in_err-bump-in-0-clause-ended : goal.exprs::unary-returns-in_err-bump-in-0-clause-ended
exprs::unary-returns-in_err-bump-in-0-clause-ended t c = exits c.bump.new.self _ _ c.from_residual-in_err-bump-in-0.ensures (sym (pc.unary-spent _ _ _ _ c.start_range-from.ensures (sym c.in_ok-pick.ensures.ended) (omega arith) (omega arith) (sym c.in_err-bump-in-0.ensures.ended)))

pub exprs::unary-returns-in_err-x-in-0-clause-ended : goal.exprs::unary-returns-in_err-x-in-0-clause-ended
exprs::unary-returns-in_err-x-in-0-clause-ended t c = exits c.primary.new.p _ _ c.from_residual-in_err-x-in-0.ensures (sym (pc.unary-failed _ _ _ _ c.start_range-from.ensures (sym c.in_ok-pick.ensures.ended) (omega arith) (omega arith) (sym c.in_ok-bump-in-0.ensures.ended) (sym c.in_err-x-in-0.ensures.ended)))

pub exprs::unary-returns-in_err-link-in-0-clause-ended : goal.exprs::unary-returns-in_err-link-in-0-clause-ended
exprs::unary-returns-in_err-link-in-0-clause-ended t c = exits c.close.new.p _ _ c.from_residual-in_err-link-in-0.ensures (sym (pc.unary-lost _ _ _ _ c.start_range-from.ensures (sym c.in_ok-pick.ensures.ended) (omega arith) (omega arith) (sym c.in_ok-bump-in-0.ensures.ended) (sym c.in_ok-x-in-0.ensures.ended) c.current_kind-kind.ensures c.link.ensures (sym c.in_err-link-in-0.ensures.ended)))

pub exprs::unary-returns-in_ok-link-in-0-clause-ended : goal.exprs::unary-returns-in_ok-link-in-0-clause-ended
exprs::unary-returns-in_ok-link-in-0-clause-ended t c = sym (pc.unary-on _ _ _ _ c.start_range-from.ensures (sym c.in_ok-pick.ensures.ended) (omega arith) (omega arith) (sym c.in_ok-bump-in-0.ensures.ended) (sym c.in_ok-x-in-0.ensures.ended) c.current_kind-kind.ensures c.link.ensures (sym c.in_ok-link-in-0.ensures.ended))

pub primary::access-returns-in_err-safe-clause-ended : goal.primary::access-returns-in_err-safe-clause-ended
primary::access-returns-in_err-safe-clause-ended t c = turn-exits (λ a. a) (λ a. a) c.question.new.p _ _ c.from_residual.ensures (sym (pm.access-failed _ _ _ _ _ (sym c.in_err-safe.ensures.ended)))

pub primary::access-returns-in_err-place-clause-ended : goal.primary::access-returns-in_err-place-clause-ended
primary::access-returns-in_err-place-clause-ended t c = turn-exits (λ a. a) (λ a. a) c.pick.new.self _ _ c.from_residual-in_err-place.ensures (sym (pm.access-full _ _ _ _ _ (sym c.in_ok-safe.ensures.ended) (sym c.in_err-place.ensures.ended)))

pub primary::access-returns-in_default-clause-ended : goal.primary::access-returns-in_default-clause-ended
primary::access-returns-in_default-clause-ended t c = let h = rw c.in_default.is at c.at.ensures in c.no_member.ensures ∙ sym (pm.access-none _ _ _ _ _ (sym c.in_ok-safe.ensures.ended) (sym c.in_ok-place.ensures.ended) (omega arith))

pub primary::access-returns-in_err-meta-clause-ended : goal.primary::access-returns-in_err-meta-clause-ended
primary::access-returns-in_err-meta-clause-ended t c = turn-exits (λ a. a) (λ a. a) c.pound.new.p _ _ c.from_residual-in_err-meta.ensures (sym (pm.access-spent _ _ _ _ _ (sym c.in_ok-safe.ensures.ended) (sym (rw c.in-Some.ensures at c.in_ok-place.ensures.ended)) (opens-small _) (sym c.in_err-meta.ensures.ended)))

pub primary::access-returns-in_err-link-clause-ended : goal.primary::access-returns-in_err-link-clause-ended
primary::access-returns-in_err-link-clause-ended t c = turn-exits (λ a. a) (λ a. a) c.member_property.new.p _ _ c.from_residual-in_err-link.ensures (sym (pm.access-lost _ _ _ _ _ (sym c.in_ok-safe.ensures.ended) (sym (rw c.in-Some.ensures at c.in_ok-place.ensures.ended)) (opens-small _) (sym c.in_ok-meta.ensures.ended) (sym c.in_err-link.ensures.ended)))

pub primary::access-returns-clause-ended : goal.primary::access-returns-clause-ended
primary::access-returns-clause-ended t c = c.member_record_of.ensures.ended ∙ sym (pm.access-on _ _ _ _ _ (sym c.in_ok-safe.ensures.ended) (sym (rw c.in-Some.ensures at c.in_ok-place.ensures.ended)) (opens-small _) (sym c.in_ok-meta.ensures.ended) (sym c.in_ok-link.ensures.ended))

pub primary::call-returns-in_err-items-clause-ended : goal.primary::call-returns-in_err-items-clause-ended
primary::call-returns-in_err-items-clause-ended t c = turn-exits (λ a. a) (λ a. a) c.items.new.p _ _ c.from_residual.ensures (sym (pm.call-failed _ _ _ _ _ _ c.link-link.ensures (sym c.in_err-items.ensures.ended)))

pub primary::call-returns-in_err-braced-clause-ended : goal.primary::call-returns-in_err-braced-clause-ended
primary::call-returns-in_err-braced-clause-ended t c = turn-exits (λ a. a) (λ a. a) c.braced.new.p _ _ c.from_residual-in_err-braced.ensures (sym (pm.call-full _ _ _ _ _ _ c.link-link.ensures (sym c.in_ok-items.ensures.ended) (sym c.in_err-braced.ensures.ended)))

pub primary::call-returns-then-not-branch-clause-ended : goal.primary::call-returns-then-not-branch-clause-ended
primary::call-returns-then-not-branch-clause-ended t c = c.call_record.ensures.ended ∙ sym (pm.call-bare _ _ _ _ _ _ c.link-link.ensures (sym c.in_ok-items.ensures.ended) (sym (rw c.if-not-branch.true at c.in_ok-braced.ensures.ended)))

pub primary::call-returns-in_err-closure-clause-ended : goal.primary::call-returns-in_err-closure-clause-ended
primary::call-returns-in_err-closure-clause-ended t c = turn-exits (λ a. a) (λ a. a) c.block.new.p _ _ c.from_residual-in_err-closure.ensures (sym (pm.call-lost _ _ _ _ _ _ c.link-link.ensures (sym c.in_ok-items.ensures.ended) (sym (rw c.if-not-branch.false at c.in_ok-braced.ensures.ended)) (sym c.in_err-closure.ensures.ended)))

pub primary::call-returns-clause-ended : goal.primary::call-returns-clause-ended
primary::call-returns-clause-ended t c = c.call_record-2.ensures.ended ∙ sym (pm.call-on _ _ _ _ _ _ c.link-link.ensures (sym c.in_ok-items.ensures.ended) (sym (rw c.if-not-branch.false at c.in_ok-braced.ensures.ended)) (sym c.in_ok-closure.ensures.ended))

pub primary::member_property-returns-then-meta-clause-ended : goal.primary::member_property-returns-then-meta-clause-ended
primary::member_property-returns-then-meta-clause-ended t c = c.meta_end_of.ensures.ended ∙ sym (pm.property-meta _ _ _ _ c.if-meta.true)

pub primary::member_property-returns-in_err-link-in-Bracket-clause-ended : goal.primary::member_property-returns-in_err-link-in-Bracket-clause-ended
primary::member_property-returns-in_err-link-in-Bracket-clause-ended t c = let p = ap opens c.in-Bracket.is in exits c.expr.new.p _ _ c.from_residual.ensures (sym (pm.property-failed _ _ _ _ c.if-meta.false (omega arith) (sym c.in_err-link-in-Bracket.ensures.ended)))

pub primary::member_property-returns-in_err-expect-in-Bracket-clause-ended : goal.primary::member_property-returns-in_err-expect-in-Bracket-clause-ended
primary::member_property-returns-in_err-expect-in-Bracket-clause-ended t c = let p = ap opens c.in-Bracket.is in exits c.expect.new.self _ _ c.from_residual-in_err-expect-in-Bracket.ensures (sym (pm.property-open _ _ _ _ c.if-meta.false (omega arith) (sym c.in_ok-link-in-Bracket.ensures.ended) (sym c.in_err-expect-in-Bracket.ensures.ended)))

pub primary::member_property-returns-in_ok-expect-in-Bracket-clause-ended : goal.primary::member_property-returns-in_ok-expect-in-Bracket-clause-ended
primary::member_property-returns-in_ok-expect-in-Bracket-clause-ended t c = let p = ap opens c.in-Bracket.is in sym (pm.property-on _ _ _ _ c.if-meta.false (omega arith) (sym c.in_ok-link-in-Bracket.ensures.ended) (sym c.in_ok-expect-in-Bracket.ensures.ended))

pub primary::member_property-returns-in-Dot-clause-ended : goal.primary::member_property-returns-in-Dot-clause-ended
primary::member_property-returns-in-Dot-clause-ended t c = let p = ap opens c.in-Dot.is in c.ident.ensures.ended ∙ sym (pm.property-name _ _ _ _ c.if-meta.false (omega arith))

pub primary::member_property-returns-in-DoubleColon-clause-ended : goal.primary::member_property-returns-in-DoubleColon-clause-ended
primary::member_property-returns-in-DoubleColon-clause-ended t c = let p = ap opens c.in-DoubleColon.is in c.ident-in-DoubleColon.ensures.ended ∙ sym (pm.property-name _ _ _ _ c.if-meta.false (omega arith))

pub primary::postfix-returns-in_err-eat-clause-ended : goal.primary::postfix-returns-in_err-eat-clause-ended
primary::postfix-returns-in_err-eat-clause-ended t c = turn-exits (λ a. a) (λ a. a) c.eat.new.self _ _ c.from_residual.ensures (sym (pm.suffix-failed _ _ _ _ _ _ (sym c.in_err-eat.ensures.ended)))

pub primary::postfix-returns-then-branch-clause-ended : goal.primary::postfix-returns-then-branch-clause-ended
primary::postfix-returns-then-branch-clause-ended t c = c.call.ensures.ended ∙ sym (pm.suffix-call _ _ _ _ _ _ (sym (rw c.if-branch.true at c.in_ok-eat.ensures.ended)))

pub primary::postfix-returns-in_err-braced-clause-ended : goal.primary::postfix-returns-in_err-braced-clause-ended
primary::postfix-returns-in_err-braced-clause-ended t c = turn-exits (λ a. a) (λ a. a) c.braced.new.p _ _ c.from_residual-in_err-braced.ensures (sym (pm.suffix-full _ _ _ _ _ _ (sym (rw c.if-branch.false at c.in_ok-eat.ensures.ended)) (sym c.in_err-braced.ensures.ended)))

pub primary::postfix-returns-then-not-branch-clause-ended : goal.primary::postfix-returns-then-not-branch-clause-ended
primary::postfix-returns-then-not-branch-clause-ended t c = c.access.ensures.ended ∙ sym (pm.suffix-access _ _ _ _ _ _ (sym (rw c.if-branch.false at c.in_ok-eat.ensures.ended)) (sym (rw c.if-not-branch.true at c.in_ok-braced.ensures.ended)))

pub primary::postfix-returns-in_err-closure-clause-ended : goal.primary::postfix-returns-in_err-closure-clause-ended
primary::postfix-returns-in_err-closure-clause-ended t c = turn-exits (λ a. a) (λ a. a) c.block.new.p _ _ c.from_residual-in_err-closure.ensures (sym (pm.suffix-lost _ _ _ _ _ _ (sym (rw c.if-branch.false at c.in_ok-eat.ensures.ended)) (sym (rw c.if-not-branch.false at c.in_ok-braced.ensures.ended)) (sym c.in_err-closure.ensures.ended)))

pub primary::postfix-returns-clause-ended : goal.primary::postfix-returns-clause-ended
primary::postfix-returns-clause-ended t c = c.call_record.ensures.ended ∙ sym (pm.suffix-lambda _ _ _ _ _ _ (sym (rw c.if-branch.false at c.in_ok-eat.ensures.ended)) (sym (rw c.if-not-branch.false at c.in_ok-braced.ensures.ended)) c.link-link.ensures (sym c.in_ok-closure.ensures.ended))

pub primary::primary-returns-in_err-x-clause-ended : goal.primary::primary-returns-in_err-x-clause-ended
primary::primary-returns-in_err-x-clause-ended t c = exits c.atom.new.p _ _ c.from_residual.ensures (sym (ao.primary-failed _ _ _ c.start_range-from.ensures _ (sym c.in_err-x.ensures.ended)))

pub primary::primary-returns-then-not-is_suffix-clause-ended : goal.primary::primary-returns-then-not-is_suffix-clause-ended
primary::primary-returns-then-not-is_suffix-clause-ended t c = c.no_suffix.ensures.ended ∙ sf.unsuffixed _ _ _ _ _ _ (sym (ap is_suffix c.current_kind.ensures) ∙ sym c.is_suffix.ensures ∙ c.if-not-is_suffix.true) ∙ sym (ao.primary-on _ _ _ c.start_range-from.ensures _ (sym c.in_ok-x.ensures.ended))

pub primary::primary-loop-longer-smaller : goal.primary::primary-loop-longer-smaller
primary::primary-loop-longer-smaller t c = turning.loop-less _ _ (takes.postfix-turn-takes _ _ _ _) (sym (rw c.in-Continue.is at c.in_ok-longer.ensures.ended))

pub primary::primary-loop-longer-preserved : goal.primary::primary-loop-longer-preserved
primary::primary-loop-longer-preserved t c = record {
  rest = c.loop-longer.invariant.rest ∙ turning.loop-more _ _ (takes.postfix-turn-takes _ _ _ _) (sym (rw c.in-Continue.is at c.in_ok-longer.ensures.ended));
  lent = search rules;
}

pub primary::primary-returns-in-Break-clause-ended : goal.primary::primary-returns-in-Break-clause-ended
primary::primary-returns-in-Break-clause-ended t c = sym (ao.primary-on _ _ _ c.start_range-from.ensures _ (sym c.in_ok-x.ensures.ended) ∙ c.loop-longer.invariant.rest ∙ turning.loop-stop _ _ (sym (rw c.in-Break.is at c.in_ok-longer.ensures.ended)))

pub primary::primary-returns-in_err-longer-clause-ended : goal.primary::primary-returns-in_err-longer-clause-ended
primary::primary-returns-in_err-longer-clause-ended t c = exits c.postfix.new.p _ _ c.from_residual-in_err-longer.ensures (sym (ao.primary-on _ _ _ c.start_range-from.ensures _ (sym c.in_ok-x.ensures.ended) ∙ c.loop-longer.invariant.rest ∙ turning.loop-failed _ _ (sym c.in_err-longer.ensures.ended)))

pub statements::function-returns-in_err-items-clause-ended : goal.statements::function-returns-in_err-items-clause-ended
statements::function-returns-in_err-items-clause-ended t c = exits c.any_params.new.p _ _ c.from_residual.ensures (sym (st.function-shut _ _ _ _ _ (sym c.in_err-items.ensures.ended)))

pub statements::function-returns-in_err-link-clause-ended : goal.statements::function-returns-in_err-link-clause-ended
statements::function-returns-in_err-link-clause-ended t c = exits c.returns.new.p _ _ c.from_residual-in_err-link.ensures (sym (st.function-untyped _ _ _ _ _ (sym c.in_ok-items.ensures.ended) (sym c.in_err-link.ensures.ended)))

pub statements::function-returns-in_err-body-clause-ended : goal.statements::function-returns-in_err-body-clause-ended
statements::function-returns-in_err-body-clause-ended t c = exits c.block.new.p _ _ c.from_residual-in_err-body.ensures (sym (st.function-failed _ _ _ _ _ (sym c.in_ok-items.ensures.ended) (sym c.in_ok-link.ensures.ended) (sym c.in_err-body.ensures.ended)))

pub statements::function-returns-clause-ended : goal.statements::function-returns-clause-ended
statements::function-returns-clause-ended t c = c.function_record.ensures.ended ∙ sym (st.function-on _ _ _ _ _ (sym c.in_ok-items.ensures.ended) (sym c.in_ok-link.ensures.ended) (sym c.in_ok-body.ensures.ended))

pub statements::glo-returns-in_err-bump-clause-ended : goal.statements::glo-returns-in_err-bump-clause-ended
statements::glo-returns-in_err-bump-clause-ended t c = exits c.bump.new.self _ _ c.from_residual.ensures (sym (st.glo-spent _ _ _ _ (sym c.in_err-bump.ensures.ended)))

pub statements::glo-returns-in_err-pick-clause-ended : goal.statements::glo-returns-in_err-pick-clause-ended
statements::glo-returns-in_err-pick-clause-ended t c = exits c.pick.new.self _ _ c.from_residual-in_err-pick.ensures (sym (st.glo-full _ _ _ _ (sym c.in_ok-bump.ensures.ended) (sym c.in_err-pick.ensures.ended)))

pub statements::glo-returns-in-0-clause-ended : goal.statements::glo-returns-in-0-clause-ended
statements::glo-returns-in-0-clause-ended t c = c.named_function.ensures.ended ∙ sym (st.glo-fn _ _ _ _ (sym c.in_ok-bump.ensures.ended) c.current_range-here.ensures (sym c.in_ok-pick.ensures.ended) c.in-0.is)

pub statements::glo-returns-in-1-clause-ended : goal.statements::glo-returns-in-1-clause-ended
statements::glo-returns-in-1-clause-ended t c = c.effect_stmt.ensures.ended ∙ sym (st.glo-effect _ _ _ _ (sym c.in_ok-bump.ensures.ended) c.current_range-here.ensures (sym c.in_ok-pick.ensures.ended) (omega arith) c.in-1.is)

pub statements::glo-returns-in_err-name-in_default-clause-ended : goal.statements::glo-returns-in_err-name-in_default-clause-ended
statements::glo-returns-in_err-name-in_default-clause-ended t c = exits c.typed_ident.new.p _ _ c.from_residual-in_err-name-in_default.ensures (sym (st.glo-lost _ _ _ _ (sym c.in_ok-bump.ensures.ended) c.current_range-here.ensures (sym c.in_ok-pick.ensures.ended) (omega arith) (omega arith) (sym c.in_err-name-in_default.ensures.ended)))

pub statements::glo-returns-in_err-expect-in_default-clause-ended : goal.statements::glo-returns-in_err-expect-in_default-clause-ended
statements::glo-returns-in_err-expect-in_default-clause-ended t c = exits c.expect.new.self _ _ c.from_residual-in_err-expect-in_default.ensures (sym (st.glo-open _ _ _ _ (sym c.in_ok-bump.ensures.ended) c.current_range-here.ensures (sym c.in_ok-pick.ensures.ended) (omega arith) (omega arith) (sym c.in_ok-name-in_default.ensures.ended) (sym c.in_err-expect-in_default.ensures.ended)))

pub statements::glo-returns-in_ok-expect-in_default-clause-ended : goal.statements::glo-returns-in_ok-expect-in_default-clause-ended
statements::glo-returns-in_ok-expect-in_default-clause-ended t c = c.right.ensures.ended ∙ sym (st.glo-assign _ _ _ _ (sym c.in_ok-bump.ensures.ended) c.current_range-here.ensures (sym c.in_ok-pick.ensures.ended) (omega arith) (omega arith) (sym c.in_ok-name-in_default.ensures.ended) (sym c.in_ok-expect-in_default.ensures.ended))

pub statements::named_function-returns-in_err-expect-clause-ended : goal.statements::named_function-returns-in_err-expect-clause-ended
statements::named_function-returns-in_err-expect-clause-ended t c = exits c.expect.new.self _ _ c.from_residual.ensures (sym (st.fn-shut _ _ _ _ _ (sym c.in_err-expect.ensures.ended)))

pub statements::named_function-returns-in_err-name-clause-ended : goal.statements::named_function-returns-in_err-name-clause-ended
statements::named_function-returns-in_err-name-clause-ended t c = exits c.ident.new.p _ _ c.from_residual-in_err-name.ensures (sym (st.fn-nameless _ _ _ _ _ (sym c.in_ok-expect.ensures.ended) (sym c.in_err-name.ensures.ended)))

pub statements::named_function-returns-in_err-link-clause-ended : goal.statements::named_function-returns-in_err-link-clause-ended
statements::named_function-returns-in_err-link-clause-ended t c = exits c.function.new.p _ _ c.from_residual-in_err-link.ensures (sym (st.fn-failed _ _ _ _ _ (sym c.in_ok-expect.ensures.ended) (sym c.in_ok-name.ensures.ended) (sym c.in_err-link.ensures.ended)))

pub statements::named_function-returns-clause-ended : goal.statements::named_function-returns-clause-ended
statements::named_function-returns-clause-ended t c = c.fn_record.ensures.ended ∙ sym (st.fn-on _ _ _ _ _ (sym c.in_ok-expect.ensures.ended) (sym c.in_ok-name.ensures.ended) (sym c.in_ok-link.ensures.ended))

pub statements::plain-returns-in_err-pick-clause-ended : goal.statements::plain-returns-in_err-pick-clause-ended
statements::plain-returns-in_err-pick-clause-ended t c = exits c.pick.new.self _ _ c.from_residual.ensures (sym (st.plain-full _ _ _ c.start_range-from.ensures (sym c.in_err-pick.ensures.ended)))

pub statements::plain-returns-in-0-clause-ended : goal.statements::plain-returns-in-0-clause-ended
statements::plain-returns-in-0-clause-ended t c = c.import_stmt.ensures.ended ∙ sym (st.plain-import _ _ _ c.start_range-from.ensures (sym c.in_ok-pick.ensures.ended) c.in-0.is)

pub statements::plain-returns-in-1-clause-ended : goal.statements::plain-returns-in-1-clause-ended
statements::plain-returns-in-1-clause-ended t c = c.effect_stmt.ensures.ended ∙ sym (st.plain-effect _ _ _ c.start_range-from.ensures (sym c.in_ok-pick.ensures.ended) (omega arith) c.in-1.is)

pub statements::plain-returns-in-2-clause-ended : goal.statements::plain-returns-in-2-clause-ended
statements::plain-returns-in-2-clause-ended t c = c.glo.ensures.ended ∙ sym (st.plain-glo _ _ _ c.start_range-from.ensures (sym c.in_ok-pick.ensures.ended) (omega arith) (omega arith) c.in-2.is)

pub statements::plain-returns-in_default-clause-ended : goal.statements::plain-returns-in_default-clause-ended
statements::plain-returns-in_default-clause-ended t c = c.assign.ensures.ended ∙ sym (st.plain-assign _ _ _ c.start_range-from.ensures (sym c.in_ok-pick.ensures.ended) (omega arith) (omega arith) (omega arith))

pub statements::stmt-returns-in_err-check-clause-ended : goal.statements::stmt-returns-in_err-check-clause-ended
statements::stmt-returns-in_err-check-clause-ended t c = exits c.check.new.self _ _ c.from_residual.ensures (sym (st.stmt-full _ _ _ (sym c.in_err-check.ensures.ended)))

pub statements::stmt-returns-in-Ok-clause-ended : goal.statements::stmt-returns-in-Ok-clause-ended
statements::stmt-returns-in-Ok-clause-ended t c = sym (st.stmt-tried _ _ _ (sym (rw c.if-branch.true at c.in_ok-check.ensures.ended)) ∙ attempts.kept _ _ _ _ _ (st.function-stmt-is _ _ _ c.start_range-from.ensures ∙ sym c.in-Ok.ensures.ended))

pub statements::stmt-returns-in_err-undone-in-Err-clause-ended : goal.statements::stmt-returns-in_err-undone-in-Err-clause-ended
statements::stmt-returns-in_err-undone-in-Err-clause-ended t c = exits c.undone.new.p _ _ c.from_residual-in_err-undone-in-Err.ensures (sym (st.stmt-tried _ _ _ (sym (rw c.if-branch.true at c.in_ok-check.ensures.ended)) ∙ attempts.lost _ _ _ _ _ (st.function-stmt-is _ _ _ c.start_range-from.ensures ∙ sym c.in-Err.ensures.ended) (sym c.in_err-undone-in-Err.ensures.ended)))

-- the two ways to a plain statement meet: w has what each of them did, in order, and then what the parser is as they meet
pub statements::stmt-returns-clause-ended : goal.statements::stmt-returns-clause-ended
statements::stmt-returns-clause-ended t c =
    c.plain.ensures.ended ∙ sym (elim c.if-branch.branch [
      | statements::stmt-then-branch+in-Err+in_ok-undone-in-Err w ↦ st.met _ _ _ (st.stmt-tried _ _ _ (sym (rw w.if-branch.true at c.in_ok-check.ensures.ended)) ∙ attempts.starts-over _ _ _ _ _ (st.function-stmt-is _ _ _ w.start_range-from.ensures ∙ sym w.in-Err.ensures.ended) (sym w.in_ok-undone-in-Err.ensures.ended)) w.p-is
      | statements::stmt-else-branch w ↦ st.met _ _ _ (st.stmt-plain _ _ _ (sym (rw w.if-branch.false at c.in_ok-check.ensures.ended))) w.p-is
    ])

pub tables::brace-returns-in_err-bump-clause-ended : goal.tables::brace-returns-in_err-bump-clause-ended
tables::brace-returns-in_err-bump-clause-ended t c = exits c.bump.new.self _ _ c.from_residual.ensures (sym (tb.brace-spent _ _ _ _ (sym c.in_err-bump.ensures.ended)))

pub tables::brace-returns-in_err-eat_eol-clause-ended : goal.tables::brace-returns-in_err-eat_eol-clause-ended
tables::brace-returns-in_err-eat_eol-clause-ended t c = exits c.eat_eol.new.self _ _ c.from_residual-in_err-eat_eol.ensures (sym (tb.brace-lost _ _ _ _ (sym c.in_ok-bump.ensures.ended) (sym c.in_err-eat_eol.ensures.ended)))

pub tables::brace-returns-in_err-eat-clause-ended : goal.tables::brace-returns-in_err-eat-clause-ended
tables::brace-returns-in_err-eat-clause-ended t c = exits c.eat.new.self _ _ c.from_residual-in_err-eat.ensures (sym (tb.brace-full _ _ _ _ (sym c.in_ok-bump.ensures.ended) (sym c.in_ok-eat_eol.ensures.ended) (sym c.in_err-eat.ensures.ended)))

pub tables::brace-returns-then-branch-clause-ended : goal.tables::brace-returns-then-branch-clause-ended
tables::brace-returns-then-branch-clause-ended t c = c.close.ensures.ended ∙ sym (tb.brace-empty _ _ _ _ (sym c.in_ok-bump.ensures.ended) (sym c.in_ok-eat_eol.ensures.ended) (sym (rw c.if-branch.true at c.in_ok-eat.ensures.ended)))

pub tables::brace-returns-in-Ok-clause-ended : goal.tables::brace-returns-in-Ok-clause-ended
tables::brace-returns-in-Ok-clause-ended t c = c.table.ensures.ended ∙ sym (tb.brace-table _ _ _ _ (sym c.in_ok-bump.ensures.ended) (sym c.in_ok-eat_eol.ensures.ended) (sym (rw c.if-branch.false at c.in_ok-eat.ensures.ended)) c.start_range-inside.ensures (sym c.in-Ok.ensures.ended))

pub tables::brace-returns-in_err-undone-in-Err-clause-ended : goal.tables::brace-returns-in_err-undone-in-Err-clause-ended
tables::brace-returns-in_err-undone-in-Err-clause-ended t c = exits c.undone.new.p _ _ c.from_residual-in_err-undone-in-Err.ensures (sym (tb.brace-refused _ _ _ _ (sym c.in_ok-bump.ensures.ended) (sym c.in_ok-eat_eol.ensures.ended) (sym (rw c.if-branch.false at c.in_ok-eat.ensures.ended)) c.start_range-inside.ensures (sym c.in-Err.ensures.ended) (sym c.in_err-undone-in-Err.ensures.ended)))

pub tables::brace-returns-in_err-row-in-Err-clause-ended : goal.tables::brace-returns-in_err-row-in-Err-clause-ended
tables::brace-returns-in_err-row-in-Err-clause-ended t c = exits c.exprs.new.p _ _ c.from_residual-in_err-row-in-Err.ensures (sym (tb.brace-failed _ _ _ _ (sym c.in_ok-bump.ensures.ended) (sym c.in_ok-eat_eol.ensures.ended) (sym (rw c.if-branch.false at c.in_ok-eat.ensures.ended)) c.start_range-inside.ensures (sym c.in-Err.ensures.ended) (sym c.in_ok-undone-in-Err.ensures.ended) (sym c.in_err-row-in-Err.ensures.ended)))

pub tables::brace-returns-in_ok-row-in-Err-clause-ended : goal.tables::brace-returns-in_ok-row-in-Err-clause-ended
tables::brace-returns-in_ok-row-in-Err-clause-ended t c = c.block_record.ensures.ended ∙ sym (tb.brace-block _ _ _ _ (sym c.in_ok-bump.ensures.ended) (sym c.in_ok-eat_eol.ensures.ended) (sym (rw c.if-branch.false at c.in_ok-eat.ensures.ended)) c.start_range-inside.ensures (sym c.in-Err.ensures.ended) (sym c.in_ok-undone-in-Err.ensures.ended) (sym c.in_ok-row-in-Err.ensures.ended))

pub tables::item-returns-in-Arguments-clause-ended : goal.tables::item-returns-in-Arguments-clause-ended
tables::item-returns-in-Arguments-clause-ended t c = let p = ap item_rule c.in-Arguments.is in c.expr.ensures.ended ∙ sym (tb.item-expr _ _ _ _ (omega arith))

pub tables::item-returns-in-Elements-clause-ended : goal.tables::item-returns-in-Elements-clause-ended
tables::item-returns-in-Elements-clause-ended t c = let p = ap item_rule c.in-Elements.is in c.expr-in-Elements.ensures.ended ∙ sym (tb.item-expr _ _ _ _ (omega arith))

pub tables::item-returns-in_err-name-in-Properties-clause-ended : goal.tables::item-returns-in_err-name-in-Properties-clause-ended
tables::item-returns-in_err-name-in-Properties-clause-ended t c = exits c.key.new.p _ _ c.from_residual.ensures (sym (tb.item-property _ _ _ _ (ap item_rule c.in-Properties.is) ∙ tb.property-failed _ _ _ c.start_range-from.ensures (sym c.in_err-name-in-Properties.ensures.ended)))

pub tables::item-returns-in_err-value-in-Properties-clause-ended : goal.tables::item-returns-in_err-value-in-Properties-clause-ended
tables::item-returns-in_err-value-in-Properties-clause-ended t c = exits c.expr-in-Properties.new.p _ _ c.from_residual-in_err-value-in-Properties.ensures (sym (tb.item-property _ _ _ _ (ap item_rule c.in-Properties.is) ∙ tb.property-lost _ _ _ c.start_range-from.ensures (sym c.in_ok-name-in-Properties.ensures.ended) (sym c.in_err-value-in-Properties.ensures.ended)))

pub tables::item-returns-in_ok-value-in-Properties-clause-ended : goal.tables::item-returns-in_ok-value-in-Properties-clause-ended
tables::item-returns-in_ok-value-in-Properties-clause-ended t c = c.pair.ensures.ended ∙ sym (tb.item-property _ _ _ _ (ap item_rule c.in-Properties.is) ∙ tb.property-on _ _ _ c.start_range-from.ensures (sym c.in_ok-name-in-Properties.ensures.ended) (sym c.in_ok-value-in-Properties.ensures.ended))

pub tables::items-returns-in_err-eat_eol-clause-ended : goal.tables::items-returns-in_err-eat_eol-clause-ended
tables::items-returns-in_err-eat_eol-clause-ended t c = exits c.eat_eol.new.self _ _ c.from_residual.ensures (sym (tb.items-spent _ _ _ _ _ (sym c.in_err-eat_eol.ensures.ended)))

pub tables::items-returns-in_err-eat-clause-ended : goal.tables::items-returns-in_err-eat-clause-ended
tables::items-returns-in_err-eat-clause-ended t c = exits c.eat.new.self _ _ c.from_residual-in_err-eat.ensures (sym (tb.items-begin _ _ _ _ _ c.items_end_of-end.ensures (sym c.in_ok-eat_eol.ensures.ended) ∙ c.loop-p.invariant.rest ∙ turning.loop-failed _ _ (until.until-full _ _ _ _ _ _ (sym c.in_err-eat.ensures.ended))))

pub tables::items-returns-then-branch-clause-ended : goal.tables::items-returns-then-branch-clause-ended
tables::items-returns-then-branch-clause-ended t c = sym (tb.items-begin _ _ _ _ _ c.items_end_of-end.ensures (sym c.in_ok-eat_eol.ensures.ended) ∙ c.loop-p.invariant.rest ∙ turning.loop-stop _ _ (until.until-ended _ _ _ _ _ _ (sym (rw c.if-branch.true at c.in_ok-eat.ensures.ended))))

pub tables::items-returns-in_err-link-clause-ended : goal.tables::items-returns-in_err-link-clause-ended
tables::items-returns-in_err-link-clause-ended t c = exits c.item.new.p _ _ c.from_residual-in_err-link.ensures (sym (tb.items-begin _ _ _ _ _ c.items_end_of-end.ensures (sym c.in_ok-eat_eol.ensures.ended) ∙ c.loop-p.invariant.rest ∙ turning.loop-failed _ _ (until.until-failed _ _ _ _ _ _ (sym (rw c.if-branch.false at c.in_ok-eat.ensures.ended)) (sym c.in_err-link.ensures.ended))))

pub tables::items-returns-in_err-longer-clause-ended : goal.tables::items-returns-in_err-longer-clause-ended
tables::items-returns-in_err-longer-clause-ended t c = exits c.after_item.new.p _ _ c.from_residual-in_err-longer.ensures (sym (tb.items-begin _ _ _ _ _ c.items_end_of-end.ensures (sym c.in_ok-eat_eol.ensures.ended) ∙ c.loop-p.invariant.rest ∙ turning.loop-failed _ _ (until.until-item _ _ _ (so c.loop-p.row) _ _ (sym (rw c.if-branch.false at c.in_ok-eat.ensures.ended)) (sym c.in_ok-link.ensures.ended) ∙ (sym c.in_err-longer.ensures.ended))))

pub tables::items-loop-p-smaller : goal.tables::items-loop-p-smaller
tables::items-loop-p-smaller t c = turning.loop-less _ _ (takes.until-turn-takes _ _ _ _) (until.until-item _ _ _ (so c.loop-p.row) _ _ (sym (rw c.if-branch.false at c.in_ok-eat.ensures.ended)) (sym c.in_ok-link.ensures.ended) ∙ sym (rw c.in-Continue.is at c.in_ok-longer.ensures.ended))

pub tables::items-loop-p-preserved : goal.tables::items-loop-p-preserved
tables::items-loop-p-preserved t c = record {
  rest = c.loop-p.invariant.rest ∙ turning.loop-more _ _ (takes.until-turn-takes _ _ _ _) (until.until-item _ _ _ (so c.loop-p.row) _ _ (sym (rw c.if-branch.false at c.in_ok-eat.ensures.ended)) (sym c.in_ok-link.ensures.ended) ∙ sym (rw c.in-Continue.is at c.in_ok-longer.ensures.ended));
  lent = search rules;
}

pub tables::items-returns-in-Break-clause-ended : goal.tables::items-returns-in-Break-clause-ended
tables::items-returns-in-Break-clause-ended t c = sym (tb.items-begin _ _ _ _ _ c.items_end_of-end.ensures (sym c.in_ok-eat_eol.ensures.ended) ∙ c.loop-p.invariant.rest ∙ turning.loop-stop _ _ (until.until-item _ _ _ (so c.loop-p.row) _ _ (sym (rw c.if-branch.false at c.in_ok-eat.ensures.ended)) (sym c.in_ok-link.ensures.ended) ∙ sym (rw c.in-Break.is at c.in_ok-longer.ensures.ended)))

pub tables::key-returns-in_err-eat-clause-ended : goal.tables::key-returns-in_err-eat-clause-ended
tables::key-returns-in_err-eat-clause-ended t c = exits c.eat.new.self _ _ c.from_residual.ensures (sym (tb.key-full _ _ _ c.start_range-from.ensures (sym c.in_err-eat.ensures.ended)))

pub tables::key-returns-then-not-branch-clause-ended : goal.tables::key-returns-then-not-branch-clause-ended
tables::key-returns-then-not-branch-clause-ended t c = c.lit_key.ensures.ended ∙ sym (tb.key-lit _ _ _ c.start_range-from.ensures (sym (rw c.if-not-branch.true at c.in_ok-eat.ensures.ended)))

pub tables::key-returns-in_err-link-clause-ended : goal.tables::key-returns-in_err-link-clause-ended
tables::key-returns-in_err-link-clause-ended t c = exits c.expr.new.p _ _ c.from_residual-in_err-link.ensures (sym (tb.key-failed _ _ _ c.start_range-from.ensures (sym (rw c.if-not-branch.false at c.in_ok-eat.ensures.ended)) (sym c.in_err-link.ensures.ended)))

pub tables::key-returns-clause-ended : goal.tables::key-returns-clause-ended
tables::key-returns-clause-ended t c = c.paren_key.ensures.ended ∙ sym (tb.key-paren _ _ _ c.start_range-from.ensures (sym (rw c.if-not-branch.false at c.in_ok-eat.ensures.ended)) (sym c.in_ok-link.ensures.ended))

pub tables::table-returns-in_err-value-clause-ended : goal.tables::table-returns-in_err-value-clause-ended
tables::table-returns-in_err-value-clause-ended t c = exits c.expr.new.p _ _ c.from_residual.ensures (sym (tb.table-failed _ _ _ _ _ _ (sym c.in_err-value.ensures.ended)))

pub tables::table-returns-in_err-link-clause-ended : goal.tables::table-returns-in_err-link-clause-ended
tables::table-returns-in_err-link-clause-ended t c = exits c.pair.new.p _ _ c.from_residual-in_err-link.ensures (sym (tb.table-full _ _ _ _ _ _ (sym c.in_ok-value.ensures.ended) (sym c.in_err-link.ensures.ended)))

pub tables::table-returns-in_err-eat_eol-clause-ended : goal.tables::table-returns-in_err-eat_eol-clause-ended
tables::table-returns-in_err-eat_eol-clause-ended t c = exits c.eat_eol.new.self _ _ c.from_residual-in_err-eat_eol.ensures (sym (tb.table-spent _ _ _ _ _ _ (sym c.in_ok-value.ensures.ended) (sym c.in_ok-link.ensures.ended) (sym c.in_err-eat_eol.ensures.ended)))

pub tables::table-returns-in_err-eat-clause-ended : goal.tables::table-returns-in_err-eat-clause-ended
tables::table-returns-in_err-eat-clause-ended t c = exits c.eat.new.self _ _ c.from_residual-in_err-eat.ensures (sym (tb.table-lost _ _ _ _ _ _ (sym c.in_ok-value.ensures.ended) (sym c.in_ok-link.ensures.ended) (sym c.in_ok-eat_eol.ensures.ended) (sym c.in_err-eat.ensures.ended)))

pub tables::table-returns-then-branch-clause-ended : goal.tables::table-returns-then-branch-clause-ended
tables::table-returns-then-branch-clause-ended t c = c.close.ensures.ended ∙ sym (tb.table-single _ _ _ _ _ _ (sym c.in_ok-value.ensures.ended) (sym c.in_ok-link.ensures.ended) (sym c.in_ok-eat_eol.ensures.ended) (sym (rw c.if-branch.true at c.in_ok-eat.ensures.ended)))

pub tables::table-returns-in_err-expect-clause-ended : goal.tables::table-returns-in_err-expect-clause-ended
tables::table-returns-in_err-expect-clause-ended t c = exits c.expect.new.self _ _ c.from_residual-in_err-expect.ensures (sym (tb.table-open _ _ _ _ _ _ (sym c.in_ok-value.ensures.ended) (sym c.in_ok-link.ensures.ended) (sym c.in_ok-eat_eol.ensures.ended) (sym (rw c.if-branch.false at c.in_ok-eat.ensures.ended)) (sym c.in_err-expect.ensures.ended)))

pub tables::table-returns-clause-ended : goal.tables::table-returns-clause-ended
tables::table-returns-clause-ended t c = c.list_record.ensures.ended ∙ sym (tb.table_on _ _ _ _ _ _ (sym c.in_ok-value.ensures.ended) (sym c.in_ok-link.ensures.ended) (sym c.in_ok-eat_eol.ensures.ended) (sym (rw c.if-branch.false at c.in_ok-eat.ensures.ended)) (sym c.in_ok-expect.ensures.ended) c.items-listed.ensures.ended)
