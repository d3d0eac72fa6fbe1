-- a turn of its loop is a turn of the list
use Rattle.std.proofs.Common.{rules, sym, ◌∙◌}
use Rattle.parts.proofs.ImportPaths as paths
use Rattle.parts.proofs.ImportTakes.{import-items-keep}
use Rattle.parts.proofs.UntilPaths as lists
use Rattle.cursor.proofs.Loops as loops
use Rattle.cursor.proofs.Exits.{exits}
use Rattle.types.specs.Items.{so}
use Rattle.parts.proofs.imports.import_items.Goals as goal

pub returns-in_err-eat_eol-clause-ended : goal.returns-in_err-eat_eol-clause-ended
returns-in_err-eat_eol-clause-ended c = exits c.eat_eol.new.self _ _ c.from_residual.ensures (sym (paths.items-are _ _ _ _ ∙ lists.until-spent _ _ _ _ _ _ (sym c.in_err-eat_eol.ensures.ended)))

pub returns-in_err-eat-clause-ended : goal.returns-in_err-eat-clause-ended
returns-in_err-eat-clause-ended c = exits c.eat.new.self _ _ c.from_residual-in_err-eat.ensures (sym (paths.items-are _ _ _ _ ∙ lists.until-on _ _ _ _ _ _ (sym c.in_ok-eat_eol.ensures.ended) ∙ c.loop-p.invariant.rest ∙ loops.loop-failed _ _ (lists.until-full _ _ _ _ _ _ (sym c.in_err-eat.ensures.ended))))

pub returns-then-branch-clause-ended : goal.returns-then-branch-clause-ended
returns-then-branch-clause-ended c = sym (paths.items-are _ _ _ _ ∙ lists.until-on _ _ _ _ _ _ (sym c.in_ok-eat_eol.ensures.ended) ∙ c.loop-p.invariant.rest ∙ loops.loop-stop _ _ (lists.until-ended _ _ _ _ _ _ (sym (rw c.if-branch.true at c.in_ok-eat.ensures.ended))))

pub returns-in_err-link-clause-ended : goal.returns-in_err-link-clause-ended
returns-in_err-link-clause-ended c = exits c.import_item.new.p _ _ c.from_residual-in_err-link.ensures (sym (paths.items-are _ _ _ _ ∙ lists.until-on _ _ _ _ _ _ (sym c.in_ok-eat_eol.ensures.ended) ∙ c.loop-p.invariant.rest ∙ loops.loop-failed _ _ (lists.until-failed _ _ _ _ _ _ (sym (rw c.if-branch.false at c.in_ok-eat.ensures.ended)) (sym c.in_err-link.ensures.ended))))

pub returns-in_err-longer-clause-ended : goal.returns-in_err-longer-clause-ended
returns-in_err-longer-clause-ended c = exits c.after_item.new.p _ _ c.from_residual-in_err-longer.ensures (sym (paths.items-are _ _ _ _ ∙ lists.until-on _ _ _ _ _ _ (sym c.in_ok-eat_eol.ensures.ended) ∙ c.loop-p.invariant.rest ∙ loops.loop-failed _ _ (lists.until-item _ _ _ (so c.loop-p.row) _ _ (sym (rw c.if-branch.false at c.in_ok-eat.ensures.ended)) (sym c.in_ok-link.ensures.ended) ∙ (sym c.in_err-longer.ensures.ended))))

pub loop-p-smaller : goal.loop-p-smaller
loop-p-smaller c = loops.loop-less _ _ (lists.until-takes _ _ _ (import-items-keep _)) (lists.until-item _ _ _ (so c.loop-p.row) _ _ (sym (rw c.if-branch.false at c.in_ok-eat.ensures.ended)) (sym c.in_ok-link.ensures.ended) ∙ sym (rw c.in-Continue.is at c.in_ok-longer.ensures.ended))

pub loop-p-preserved : goal.loop-p-preserved
loop-p-preserved c = record { rest = c.loop-p.invariant.rest ∙ loops.loop-more _ _ (lists.until-takes _ _ _ (import-items-keep _)) (lists.until-item _ _ _ (so c.loop-p.row) _ _ (sym (rw c.if-branch.false at c.in_ok-eat.ensures.ended)) (sym c.in_ok-link.ensures.ended) ∙ sym (rw c.in-Continue.is at c.in_ok-longer.ensures.ended)); lent = search rules }

pub returns-in-Break-clause-ended : goal.returns-in-Break-clause-ended
returns-in-Break-clause-ended c = sym (paths.items-are _ _ _ _ ∙ lists.until-on _ _ _ _ _ _ (sym c.in_ok-eat_eol.ensures.ended) ∙ c.loop-p.invariant.rest ∙ loops.loop-stop _ _ (lists.until-item _ _ _ (so c.loop-p.row) _ _ (sym (rw c.if-branch.false at c.in_ok-eat.ensures.ended)) (sym c.in_ok-link.ensures.ended) ∙ sym (rw c.in-Break.is at c.in_ok-longer.ensures.ended)))
