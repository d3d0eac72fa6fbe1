-- `kinds::operator::bin_op` meets its contract: each arm at its kind, and the last one by one test over all kinds.
-- Assumes nothing.
use Rattle.std.proofs.Common.{◌≡◌, ℕ, ◌≤◌, sym, ap, ◌∙◌, [], ◌∷◌, None, arith}
use borrow.Author.Rules.{rules}
use Rattle.kinds.specs.Operators.{binary_of}
use Rattle.kinds.proofs.Rest.{rest, past, arm}
use Rattle.kinds.proofs.operator.bin_op.Goals as goal

past-kinds : (k : ℕ) → 79 ≤ k → binary_of k ≡ None
unfolding binary_of
past-kinds k h = rw (past k h)

pub returns-in_default : goal.returns-in_default
returns-in_default c = let h = c.in_default.ensures in sym (past-kinds c.args.kind (omega (arith, h)))

pub returns-in-64 : goal.returns-in-64
unfolding binary_of
returns-in-64 c = arm binary_of c.in-Ok.ensures.1 c.in-64.is

pub returns-in-65 : goal.returns-in-65
unfolding binary_of
returns-in-65 c = arm binary_of c.in-Ok.ensures.1 c.in-65.is

pub returns-in-66 : goal.returns-in-66
unfolding binary_of
returns-in-66 c = arm binary_of c.in-Ok.ensures.1 c.in-66.is

pub returns-in-67 : goal.returns-in-67
unfolding binary_of
returns-in-67 c = arm binary_of c.in-Ok.ensures.1 c.in-67.is

pub returns-in-68 : goal.returns-in-68
unfolding binary_of
returns-in-68 c = arm binary_of c.in-Ok.ensures.1 c.in-68.is

pub returns-in-25 : goal.returns-in-25
unfolding binary_of
returns-in-25 c = arm binary_of c.in-Ok.ensures.1 c.in-25.is

pub returns-in-26 : goal.returns-in-26
unfolding binary_of
returns-in-26 c = arm binary_of c.in-Ok.ensures.1 c.in-26.is

pub returns-in-39 : goal.returns-in-39
unfolding binary_of
returns-in-39 c = arm binary_of c.in-Ok.ensures.1 c.in-39.is

pub returns-in-40 : goal.returns-in-40
unfolding binary_of
returns-in-40 c = arm binary_of c.in-Ok.ensures.1 c.in-40.is

pub returns-in-61 : goal.returns-in-61
unfolding binary_of
returns-in-61 c = arm binary_of c.in-Ok.ensures.1 c.in-61.is

pub returns-in-41 : goal.returns-in-41
unfolding binary_of
returns-in-41 c = arm binary_of c.in-Ok.ensures.1 c.in-41.is

pub returns-in-62 : goal.returns-in-62
unfolding binary_of
returns-in-62 c = arm binary_of c.in-Ok.ensures.1 c.in-62.is

pub returns-in-42 : goal.returns-in-42
unfolding binary_of
returns-in-42 c = arm binary_of c.in-Ok.ensures.1 c.in-42.is

pub returns-in-23 : goal.returns-in-23
unfolding binary_of
returns-in-23 c = arm binary_of c.in-Ok.ensures.1 c.in-23.is

-- the keys, the last arm's first
pub returns-in_default-kind : goal.returns-in_default-kind
unfolding binary_of
returns-in_default-kind c = sym (rest binary_of (23 ∷ 42 ∷ 62 ∷ 41 ∷ 61 ∷ 40 ∷ 39 ∷ 26 ∷ 25 ∷ 68 ∷ 67 ∷ 66 ∷ 65 ∷ 64 ∷ []) tt past-kinds c.in-Ok.kind (search rules)) ∙ ap binary_of c.in-Ok.ensures.1
