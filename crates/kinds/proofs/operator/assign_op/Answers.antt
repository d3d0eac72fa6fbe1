-- `kinds::operator::assign_op` meets its contract: each arm at its kind, and the last one by one test over all kinds.
-- Assumes nothing.
use Rattle.std.proofs.Common.{◌≡◌, ℕ, ◌≤◌, sym, ap, ◌∙◌, [], ◌∷◌, None, arith}
use borrow.Author.Rules.{rules}
use Rattle.kinds.specs.Operators.{compound_of}
use Rattle.kinds.proofs.Rest.{rest, past, arm}
use Rattle.kinds.proofs.operator.assign_op.Goals as goal

past-kinds : (k : ℕ) → 79 ≤ k → compound_of k ≡ None
unfolding compound_of
past-kinds k h = rw (past k h)

pub returns-in_default : goal.returns-in_default
returns-in_default c = let h = c.in_default.ensures in sym (past-kinds c.args.kind (omega (arith, h)))

pub returns-in-43 : goal.returns-in-43
unfolding compound_of
returns-in-43 c = arm compound_of c.in-Ok.ensures.1 c.in-43.is

pub returns-in-44 : goal.returns-in-44
unfolding compound_of
returns-in-44 c = arm compound_of c.in-Ok.ensures.1 c.in-44.is

pub returns-in-45 : goal.returns-in-45
unfolding compound_of
returns-in-45 c = arm compound_of c.in-Ok.ensures.1 c.in-45.is

pub returns-in-46 : goal.returns-in-46
unfolding compound_of
returns-in-46 c = arm compound_of c.in-Ok.ensures.1 c.in-46.is

pub returns-in-47 : goal.returns-in-47
unfolding compound_of
returns-in-47 c = arm compound_of c.in-Ok.ensures.1 c.in-47.is

-- the keys, the last arm's first
pub returns-in_default-kind : goal.returns-in_default-kind
unfolding compound_of
returns-in_default-kind c = sym (rest compound_of (47 ∷ 46 ∷ 45 ∷ 44 ∷ 43 ∷ []) tt past-kinds c.in-Ok.kind (search rules)) ∙ ap compound_of c.in-Ok.ensures.1
