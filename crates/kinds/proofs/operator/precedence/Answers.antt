-- `kinds::operator::precedence` meets its contract: the level of an operator's kind is the operator's own.
-- Assumes nothing.
use Rattle.std.proofs.Common.{◌≡◌, refl, ap, ◌∙◌}
use Rattle.kinds.specs.declared.operator.BinOp.{BinOp}
use Rattle.kinds.specs.declared.operator.BinOp.TheVariants.{Add, Sub, Mul, Div, Rem, And, Or, Eq, Ne, Lt, Le, Gt, Ge, Is}
use Rattle.kinds.specs.Operators.{binary_of, level_of, op_kind, precedence_of}
use Rattle.kinds.proofs.operator.precedence.Goals as goal

own : (op : BinOp) → level_of (op_kind op) ≡ precedence_of op
unfolding level_of binary_of
own Add = refl
own Sub = refl
own Mul = refl
own Div = refl
own Rem = refl
own And = refl
own Or = refl
own Eq = refl
own Ne = refl
own Lt = refl
own Le = refl
own Gt = refl
own Ge = refl
own Is = refl

pub returns : goal.returns
returns c = c.level.ensures ∙ ap level_of c.op_kind.ensures ∙ own c.args.op
