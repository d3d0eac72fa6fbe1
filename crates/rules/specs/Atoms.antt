-- Atoms: parse_expr_atom and parse_match_case.
use Rattle.std.specs.Prelude.{ℕ, List, [], ◌∷◌, Bool, true, false, None}
use Rattle.kinds.specs.Number as kind
use Rattle.cursor.specs.declared.Kids.{Kids}
use Rattle.cursor.specs.Node as node
use Rattle.cursor.specs.Rule.{Rule, ◌>>=◌, ◌>>◌, give, if_so, more, stop, Turn, iterate}
use Rattle.cursor.specs.Tokens.{bump, eat_eol}
use Rattle.cursor.specs.Checks.{check, eat, expect, Case, ◌⇒◌, choose}
use Rattle.cursor.specs.Records.{no_link, add, no_kids, flagged}
use Rattle.types.specs.Lits.{lit, ident}
use Rattle.types.specs.Items.{start, close, over}
use Rattle.parts.specs.declared.values.Expr.{Expr}
use Rattle.parts.specs.declared.values.Expr.TheVariants as exprs
use Rattle.parts.specs.Values.{row_of}
use Rattle.rules.specs.Inner.{Inner, expr}
use Rattle.parts.specs.Records.{row_record, list_record, fn_record, if_record}
use Rattle.parts.specs.Steps.{Elements, names, case_patterns}
use Rattle.rules.specs.Blocks.{block, expr_and_block}
use Rattle.rules.specs.Functions.{function}
use Rattle.rules.specs.Tables.{items_of, brace}
use Rattle.rules.specs.Primary.{primary_of}

module _ (r : Inner) where
  -- an expression in parentheses, a list, `return` with its argument
  unfoldable pub paren_expr : ℕ → Rule ℕ
  paren_expr from = do
    bump r.sheet
    link ← expr r true
    expect r.sheet kind.CloseParen
    over node.Paren from link

  unfoldable pub list_expr : ℕ → Rule ℕ
  list_expr from = do
    bump r.sheet
    i ← items_of r Elements no_kids
    list_record node.List from i

  unfoldable pub return_expr : ℕ → Rule ℕ
  return_expr from = do
    bump r.sheet
    link ← expr r true
    over node.Return from link

  -- a function without a name, a closure and `do`, each as the function of the expression Fn
  unfoldable pub fn_expr : ℕ → Rule ℕ
  fn_expr from = do
    bump r.sheet
    f ← function r from false
    fn_record from None no_link f

  unfoldable pub closure_expr : ℕ → Rule ℕ
  closure_expr from = do
    f ← function r from true
    fn_record from None no_link f

  unfoldable pub do_expr : ℕ → Rule ℕ
  do_expr from = do
    bump r.sheet
    body ← block r node.None
    f ← over node.Do from body
    fn_record from None no_link f

  -- what stands behind `else`: another `if`, where trailing lambdas are taken again, or a block
  unfoldable pub alternate : Rule ℕ
  alternate = do
    again ← check r.sheet kind.If
    if_so (expr r true) (block r node.ExprBlock) again

  unfoldable pub if_expr : ℕ → Rule ℕ
  if_expr from = do
    bump r.sheet
    kids ← expr_and_block r no_kids
    other ← eat r.sheet kind.Else
    if_so (do
      a ← alternate
      if_record from kids a)
        (if_record from kids no_link) other

  -- parse_match_case
  unfoldable pub match_case : Rule ℕ
  match_case = do
    from ← start r.sheet
    row ← case_patterns r.sheet r.pattern
    expect r.sheet kind.FatArrow
    link ← expr r true
    row_record node.MatchCase from row link

  -- one case more; Eols stand around cases, and none before a brace that closes at once
  unfoldable pub case_turn : Turn Kids
  case_turn kids = do
    closed ← eat r.sheet kind.CloseBrace
    if_so (give (stop kids))
        (do
          eat_eol r.sheet
          c ← match_case
          eat_eol r.sheet
          longer ← add kids c
          give (more longer)) closed

  unfoldable pub match_expr : ℕ → Rule ℕ
  match_expr from = do
    bump r.sheet
    link ← expr r false
    expect r.sheet kind.OpenBrace
    row ← iterate r.sheet case_turn (row_of link)
    close node.Match from 0 0 (flagged row.count 0 false false) row.first

  -- `loop`, `while` and `for`
  unfoldable pub loop_expr : ℕ → Rule ℕ
  loop_expr from = do
    bump r.sheet
    body ← block r node.None
    over node.Loop from body

  unfoldable pub while_expr : ℕ → Rule ℕ
  while_expr from = do
    bump r.sheet
    kids ← expr_and_block r no_kids
    over node.While from kids.first

  unfoldable pub for_expr : ℕ → Rule ℕ
  for_expr from = do
    bump r.sheet
    row ← names r.sheet
    expect r.sheet kind.In
    kids ← expr_and_block r row
    close node.For from 0 0 (flagged row.count 0 false false) kids.first

  -- `break` and `continue`
  unfoldable pub break_expr : ℕ → Rule ℕ
  break_expr from = do
    bump r.sheet
    over node.Break from no_link

  unfoldable pub continue_expr : ℕ → Rule ℕ
  continue_expr from = do
    bump r.sheet
    over node.Continue from no_link

  -- an atom that is a plain name, and one that is not
  abbrev pub name : Rule ℕ → Rule Expr
  name read = do
    link ← read
    give (exprs.Name link)

  abbrev pub other : Rule ℕ → Rule Expr
  other read = do
    link ← read
    give (exprs.Other link)

  -- parse_expr_atom: the forms of an atom, each by the kind that it begins with; otherwise a literal
  abbrev pub atom_cases : ℕ → List (Case Expr)
  atom_cases from =
      kind.OpenParen ⇒ other (paren_expr from)
      ∷ kind.Ident ⇒ name (ident r.sheet)
      ∷ kind.OpenBrace ⇒ other (brace r from)
      ∷ kind.OpenBracket ⇒ other (list_expr from)
      ∷ kind.Fn ⇒ other (fn_expr from)
      ∷ kind.VBar ⇒ other (closure_expr from)
      ∷ kind.Do ⇒ other (do_expr from)
      ∷ kind.If ⇒ other (if_expr from)
      ∷ kind.Match ⇒ other (match_expr from)
      ∷ kind.Loop ⇒ other (loop_expr from)
      ∷ kind.While ⇒ other (while_expr from)
      ∷ kind.For ⇒ other (for_expr from)
      ∷ kind.Break ⇒ other (break_expr from)
      ∷ kind.Continue ⇒ other (continue_expr from)
      ∷ kind.Return ⇒ other (return_expr from)
      ∷ []

  unfoldable pub atom : Rule Expr
  atom = do
    from ← start r.sheet
    choose r.sheet (atom_cases from) (other (lit r.sheet))

  -- parse_expr_primary
  unfoldable pub primary : Bool → Rule Expr
  primary lambda = primary_of r atom lambda
