-- Levels of operators, unary forms and `try`: parse_expr_precedence and parse_expr_unary.
use Rattle.std.specs.Prelude.{ℕ, ◌+◌, List, [], ◌∷◌, Bool, ltb, eqb, Some, None, Option}
use Rattle.kinds.specs.Number as kind
use Rattle.kinds.specs.declared.operator.BinOp.{BinOp}
use Rattle.kinds.specs.Operators.{binary_of, precedence_of}
use Rattle.cursor.specs.declared.Kids.{Kids}
use Rattle.cursor.specs.declared.Span.{Span}
use Rattle.cursor.specs.Node as node
use Rattle.cursor.specs.Sheet.{kind_at, range_at}
use Rattle.cursor.specs.Rule.{Rule, ◌>>=◌, ◌>>◌, give, if_so, Next, more, stop, Turn, iterate}
use Rattle.cursor.specs.Tokens.{bump}
use Rattle.cursor.specs.Checks.{check, expect, Case, ◌⇒◌, choose}
use Rattle.cursor.specs.Records.{add}
use Rattle.types.specs.Lits.{ident}
use Rattle.types.specs.Items.{start, close}
use Rattle.types.specs.Types.{params}
use Rattle.types.specs.Patterns.{span_of}
use Rattle.parts.specs.declared.values.Expr.{Expr}
use Rattle.parts.specs.declared.values.Expr.TheVariants as exprs
use Rattle.parts.specs.Values.{link_of, row_of}
use Rattle.rules.specs.Inner.{Inner}
use Rattle.parts.specs.When.{when, fail_with}
use Rattle.parts.specs.Records.{couple, handler_record, handlers_flagged}
use Rattle.parts.specs.Steps.{alone, type_check}
use Rattle.rules.specs.Blocks.{block}
use Rattle.rules.specs.Atoms.{primary}

module _ (r : Inner) where
  -- a handler of a `try`
  unfoldable pub handler : Rule ℕ
  handler = do
    from ← start r.sheet
    expect r.sheet kind.With
    name ← ident r.sheet
    i ← params r.sheet r.type_atom (row_of name)
    body ← block r node.None
    handler_record from i body

  -- handlers in a row, as long as another `with` stands behind one
  unfoldable pub handler_turn : Turn Kids
  handler_turn kids = do
    link ← handler
    longer ← add kids link
    again ← check r.sheet kind.With
    if_so (give (more longer)) (give (stop longer)) again

  -- `try` needs a final Call: its handlers join that Call's record
  unfoldable pub tried_by : Span → Expr → Rule Expr
  tried_by here (exprs.Name link) = fail_with (alone kind.Try here)
  tried_by here (exprs.NameMember link) = fail_with (alone kind.Try here)
  tried_by here (exprs.Call link called) = do
    kids ← iterate r.sheet handler_turn called.kids
    handlers_flagged link called kids.count
    give (exprs.Other link)
  tried_by here (exprs.Other link) = fail_with (alone kind.Try here)

  unfoldable pub tried : Bool → Rule Expr
  tried lambda s w = (do
    bump r.sheet
    x ← primary r lambda
    tried_by (span_of (range_at r.sheet.tokens s.at)) x) s w

  -- `not` and `-` take a primary; their token's kind is the operator's
  unfoldable pub unary_op : ℕ → Bool → Rule Expr
  unary_op from lambda s w = (do
    bump r.sheet
    x ← primary r lambda
    link ← close node.Unary from (kind_at r.sheet.tokens s.at) 0 0 (link_of x)
    give (exprs.Other link)) s w

  -- parse_expr_unary
  abbrev pub unary_cases : ℕ → Bool → List (Case Expr)
  unary_cases from lambda =
      kind.Not ⇒ unary_op from lambda
      ∷ kind.Sub ⇒ unary_op from lambda
      ∷ kind.Try ⇒ tried lambda
      ∷ []

  unfoldable pub unary : Bool → Rule Expr
  unary lambda = do
    from ← start r.sheet
    choose r.sheet (unary_cases from lambda) (primary r lambda)

  -- behind an operator: a right operand that starts one level higher; behind `is` one token
  unfoldable pub operated : ℕ → Bool → Expr → ℕ → ℕ → Rule (Next Expr)
  operated from lambda x k level = when (eqb k kind.Is) (type_check r.sheet from x) (do
    y ← r.prec (level + 1) lambda
    link ← couple node.Binary from k (link_of x) (link_of y)
    give (more (exprs.Other link)))

  unfoldable pub infix_by : ℕ → ℕ → Bool → Expr → ℕ → Option BinOp → Rule (Next Expr)
  infix_by from min lambda x k (Some op) = when (ltb (precedence_of op) min) (give (stop x)) (do
    bump r.sheet
    operated from lambda x k (precedence_of op))
  infix_by from min lambda x k None = give (stop x)

  -- one operator more, of this level or a higher one
  unfoldable pub infix_turn : ℕ → ℕ → Bool → Turn Expr
  infix_turn from min lambda x s w = infix_by from min lambda x (kind_at r.sheet.tokens s.at) (binary_of (kind_at r.sheet.tokens s.at)) s w

  -- parse_expr_precedence
  unfoldable pub precedence : ℕ → Bool → Rule Expr
  precedence min lambda = do
    from ← start r.sheet
    x ← unary lambda
    iterate r.sheet (infix_turn from min lambda) x
