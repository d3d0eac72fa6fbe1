-- The binary operators, after operator.rs and the two places of parser.rs that go from a token kind to an operator.
use Rattle.std.specs.Prelude.{ℕ, List, [], ◌∷◌, Option, Some, None}
use Prim.Native.String.{String}
use lib.Text.{eqt}
use Rattle.kinds.specs.declared.operator.BinOp.{BinOp}
use Rattle.kinds.specs.declared.operator.BinOp.TheVariants.{
  Add,
  Sub,
  Mul,
  Div,
  Rem,
  And,
  Or,
  Eq,
  Ne,
  Lt,
  Le,
  Gt,
  Ge,
  Is,
}
use Rattle.kinds.specs.Spelling.{whether}
use Rattle.kinds.specs.Kinds.{kind_name, kind_number}

-- the token kinds that stand between two operands, each with its operator: the match of parse_expr_precedence
abbrev pub binary : List (String × BinOp)
binary =
    ("Add", Add)
    ∷ ("Sub", Sub)
    ∷ ("Mul", Mul)
    ∷ ("Div", Div)
    ∷ ("Rem", Rem)
    ∷ ("And", And)
    ∷ ("Or", Or)
    ∷ ("Eq", Eq)
    ∷ ("NotEq", Ne)
    ∷ ("Lt", Lt)
    ∷ ("LtEq", Le)
    ∷ ("Gt", Gt)
    ∷ ("GtEq", Ge)
    ∷ ("Is", Is)
    ∷ []

-- the compound assignments, each with its operator: the match of the statement rule
abbrev pub compound : List (String × BinOp)
compound =
    ("AddAssign", Add)
    ∷ ("SubAssign", Sub)
    ∷ ("MulAssign", Mul)
    ∷ ("DivAssign", Div)
    ∷ ("RemAssign", Rem)
    ∷ []

-- the operator that stands beside a name
abbrev pub beside : String → List (String × BinOp) → Option BinOp
beside s [] = None
beside s (p ∷ ps) = whether (eqt s p.0) (Some p.1) (beside s ps)

unfoldable pub binary_of : ℕ → Option BinOp
binary_of k = beside (kind_name k) binary

unfoldable pub compound_of : ℕ → Option BinOp
compound_of k = beside (kind_name k) compound

-- levels: * / % 5; + - 4; comparisons and `is` 3; and 2; or 1
abbrev pub precedence_of : BinOp → ℕ
precedence_of Add = 4
precedence_of Sub = 4
precedence_of Mul = 5
precedence_of Div = 5
precedence_of Rem = 5
precedence_of And = 2
precedence_of Or = 1
precedence_of Eq = 3
precedence_of Ne = 3
precedence_of Lt = 3
precedence_of Le = 3
precedence_of Gt = 3
precedence_of Ge = 3
precedence_of Is = 3

-- the level of a token kind: that of the operator which it stands for, and 0 where it stands for none
abbrev pub level_by : Option BinOp → ℕ
level_by (Some op) = precedence_of op
level_by None = 0

unfoldable pub level_of : ℕ → ℕ
level_of k = level_by (binary_of k)

-- the number of the token kind that an operator is written with
abbrev pub op_kind : BinOp → ℕ
op_kind Add = kind_number "Add"
op_kind Sub = kind_number "Sub"
op_kind Mul = kind_number "Mul"
op_kind Div = kind_number "Div"
op_kind Rem = kind_number "Rem"
op_kind And = kind_number "And"
op_kind Or = kind_number "Or"
op_kind Eq = kind_number "Eq"
op_kind Ne = kind_number "NotEq"
op_kind Lt = kind_number "Lt"
op_kind Le = kind_number "LtEq"
op_kind Gt = kind_number "Gt"
op_kind Ge = kind_number "GtEq"
op_kind Is = kind_number "Is"

-- the operator's case, as operator.rs spells it
abbrev pub case_of : BinOp → String
case_of Add = "Add"
case_of Sub = "Sub"
case_of Mul = "Mul"
case_of Div = "Div"
case_of Rem = "Rem"
case_of And = "And"
case_of Or = "Or"
case_of Eq = "Eq"
case_of Ne = "Ne"
case_of Lt = "Lt"
case_of Le = "Le"
case_of Gt = "Gt"
case_of Ge = "Ge"
case_of Is = "Is"
