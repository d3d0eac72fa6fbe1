use Rattle.std.proofs.Common.{sym}
use Rattle.types.proofs.ItemPaths as paths
use Rattle.types.proofs.TurnExits.{turn-exits}
use Rattle.types.specs.Items.{so}
use Rattle.types.proofs.items.after_item.Goals as goal

pub returns-in_err-eat_eol-clause-ended : goal.returns-in_err-eat_eol-clause-ended
returns-in_err-eat_eol-clause-ended c = turn-exits so so c.eat_eol.new.self _ _ c.from_residual.ensures (sym (paths.after-spent _ _ _ _ _ _ c.add-longer.ensures.ended (sym c.in_err-eat_eol.ensures.ended)))

pub returns-in_err-eat-clause-ended : goal.returns-in_err-eat-clause-ended
returns-in_err-eat-clause-ended c = turn-exits so so c.eat.new.self _ _ c.from_residual-in_err-eat.ensures (sym (paths.after-full _ _ _ _ _ _ c.add-longer.ensures.ended (sym c.in_ok-eat_eol.ensures.ended) (sym c.in_err-eat.ensures.ended)))

pub returns-then-branch-clause-ended : goal.returns-then-branch-clause-ended
returns-then-branch-clause-ended c = sym (paths.after-ended _ _ _ _ _ _ c.add-longer.ensures.ended (sym c.in_ok-eat_eol.ensures.ended) (sym (rw c.if-branch.true at c.in_ok-eat.ensures.ended)))

pub returns-in_err-expect-clause-ended : goal.returns-in_err-expect-clause-ended
returns-in_err-expect-clause-ended c = turn-exits so so c.expect.new.self _ _ c.from_residual-in_err-expect.ensures (sym (paths.after_open _ _ _ _ _ _ c.add-longer.ensures.ended (sym c.in_ok-eat_eol.ensures.ended) (sym (rw c.if-branch.false at c.in_ok-eat.ensures.ended)) (sym c.in_err-expect.ensures.ended)))

pub returns-in_err-eat_eol-2-clause-ended : goal.returns-in_err-eat_eol-2-clause-ended
returns-in_err-eat_eol-2-clause-ended c = turn-exits so so c.eat_eol-2.new.self _ _ c.from_residual-in_err-eat_eol-2.ensures (sym (paths.after-lost _ _ _ _ _ _ c.add-longer.ensures.ended (sym c.in_ok-eat_eol.ensures.ended) (sym (rw c.if-branch.false at c.in_ok-eat.ensures.ended)) (sym c.in_ok-expect.ensures.ended) (sym c.in_err-eat_eol-2.ensures.ended)))

pub returns-clause-ended : goal.returns-clause-ended
returns-clause-ended c = sym (paths.after_more _ _ _ _ _ _ c.add-longer.ensures.ended (sym c.in_ok-eat_eol.ensures.ended) (sym (rw c.if-branch.false at c.in_ok-eat.ensures.ended)) (sym c.in_ok-expect.ensures.ended) (sym c.in_ok-eat_eol-2.ensures.ended))
