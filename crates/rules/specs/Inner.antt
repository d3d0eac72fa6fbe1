-- What every rule on expressions is handed, and the expression itself.
use Rattle.std.specs.Prelude.{ℕ, Bool}
use Rattle.cursor.specs.declared.Kids.{Kids}
use Rattle.cursor.specs.Sheet.{Sheet}
use Rattle.cursor.specs.Rule.{Rule, ◌>>=◌, give}
use Rattle.parts.specs.declared.values.Expr.{Expr}
use Rattle.parts.specs.Values.{link_of}

-- the sheet, and the four rules that use up a level, with the levels that are left: statements up to a kind (parse_exprs), an expression from
-- a level of operators on, with or without trailing lambdas (parse_expr_precedence), a type atom and a pattern
pub record Inner : Type 0 where
  pub sheet : Sheet
  pub exprs : ℕ → Rule Kids
  pub prec : ℕ → Bool → Rule Expr
  pub type_atom : Rule ℕ
  pub pattern : Rule ℕ

-- parse_expr_with_option; parse_expr is the same with true. Its answer is the link alone
unfoldable pub expr : Inner → Bool → Rule ℕ
expr r lambda = do
  x ← r.prec 1 lambda
  give (link_of x)
