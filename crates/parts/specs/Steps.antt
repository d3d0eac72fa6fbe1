-- Steps of expressions that read no expression themselves: parameters, a table's keys, the names of a `for`, a case's patterns, what stands behind `is`, `?` and `#`, `break` and `continue`.
use Rattle.std.specs.Prelude.{ℕ, List, Bool, true, false, ltb, eqb, Option, Some, None}
use Rattle.kinds.specs.Number as kind
use Rattle.kinds.specs.Text.{part}
use Rattle.kinds.specs.declared.operator.BinOp.{BinOp}
use Rattle.kinds.specs.Operators.{compound_of, op_kind}
use Rattle.kinds.specs.declared.types.ValueType.{ValueType}
use Rattle.kinds.specs.TypeWords.{type_word, type_number}
use Rattle.cursor.specs.declared.Kids.{Kids}
use Rattle.cursor.specs.declared.Fault.{Fault}
use Rattle.cursor.specs.declared.Span.{Span}
use Rattle.cursor.specs.Sheet.{Sheet, kind_at, range_at, Ranged}
use Rattle.cursor.specs.Node as node
use Rattle.cursor.specs.Layout.{UNEXPECTED}
use Rattle.cursor.specs.Rule.{Rule, ◌>>=◌, ◌>>◌, give, if_so, Next, more, stop, Turn, iterate}
use Rattle.cursor.specs.Tokens.{bump}
use Rattle.cursor.specs.Checks.{check, eat, expect, unexpected}
use Rattle.cursor.specs.Records.{no_link, append, add, no_kids}
use Rattle.types.specs.declared.items.Items.{Items}
use Rattle.types.specs.Lits.{lit, ident}
use Rattle.types.specs.Items.{close, over, is_ended}
use Rattle.types.specs.Types.{params, closure_params}
use Rattle.parts.specs.declared.values.Expr.{Expr}
use Rattle.parts.specs.declared.values.Expr.TheVariants as exprs
use Rattle.parts.specs.Forms as forms
use Rattle.parts.specs.Values.{link_of}
use Rattle.parts.specs.When.{when}

-- an error that lists no expected kinds
abbrev pub alone : ℕ → Span → Fault
alone k span = record { class = UNEXPECTED; found = k; span = span; listed = false }

-- an operator as a record keeps it: the token kind that it is written with
abbrev pub no_operator : ℕ
no_operator = 0

abbrev pub kept : Option BinOp → ℕ
kept (Some op) = op_kind op
kept None = no_operator

-- the operator of a compound assignment, by the kind of its sign
abbrev pub operator_of : ℕ → ℕ
operator_of sign = kept (compound_of sign)

-- the item rules of expressions' lists, by the names and numbers that the code tells them by: the arguments of a call, the elements of a list, the properties of
-- a table
abbrev pub Arguments : ℕ
Arguments = 0

abbrev pub Elements : ℕ
Elements = 1

abbrev pub Properties : ℕ
Properties = 2

-- how a list of each ends
unfoldable pub items_end : ℕ → ℕ
items_end rule = elim (eqb rule Arguments) as (λ _. ℕ) [ true ↦ kind.CloseParen | false ↦ elim (eqb rule Elements) as (λ _. ℕ) [ true ↦ kind.CloseBracket | false ↦ kind.CloseBrace ] ]

-- the type that a token names after `is`: null by its kind, the others by the bytes of their word
abbrev pub checked_by : Option ValueType → Option ℕ
checked_by (Some v) = Some (type_number v)
checked_by None = None

unfoldable pub checked_type : List ℕ → ℕ → Span → Option ℕ
checked_type text k r = elim (eqb k kind.Null) as (λ _. Option ℕ) [
  | true ↦ Some 0
  | false ↦ elim (eqb k kind.Ident) as (λ _. Option ℕ) [ true ↦ checked_by (type_word (part text r.start r.end)) | false ↦ None ]
]

module _ (e : Sheet) where
  -- the parameters of a function or of a closure
  unfoldable pub any_params : Rule ℕ → Bool → Rule Items
  any_params atom closure = when closure (closure_params e atom no_kids) (params e atom no_kids)

  -- does a trailing lambda stand here? Where none is allowed nothing is asked
  unfoldable pub braced : Bool → Rule Bool
  braced lambda = when lambda (check e kind.OpenBrace) (give false)

  -- no member stands here: an error after `?`, and otherwise the end of the expression
  unfoldable pub no_member : Ranged → Expr → Rule (Next Expr)
  no_member safe x = when (is_ended safe) (unexpected e) (give (stop x))

  -- a member's opening token, and whether a `#` stands behind it
  unfoldable pub pound : Rule Bool
  pound = do
    bump e
    eat e kind.Pound

  -- for the code, by the place of the opening token: behind the `#` of a meta member, the bracket's end, where it is one; it has no property
  unfoldable pub meta_end : ℕ → Rule ℕ
  meta_end which = when (ltb 0 which) (give no_link) (do
    expect e kind.CloseBracket
    give no_link)

  -- a literal as a table's key, and its colon
  unfoldable pub lit_key : Rule ℕ
  lit_key = do
    link ← lit e
    expect e kind.Colon
    give link

  -- the record of a key in parentheses: it ends before the colon and is built behind it
  unfoldable pub paren_key_at : ℕ → ℕ → Rule ℕ
  paren_key_at from link s w = (do
    expect e kind.Colon
    append (record { kind = node.Paren; start = from; end = s.prev; one = 0; two = 0; flags = 0 }) link) s w

  -- an expression in parentheses as a table's key, from behind the expression on, and its colon
  unfoldable pub paren_key : ℕ → ℕ → Rule ℕ
  paren_key from link = do
    expect e kind.CloseParen
    paren_key_at from link

  -- `break` and `continue`, by the name of the form
  unfoldable pub leaf : ℕ → ℕ → Rule ℕ
  leaf from which = do
    bump e
    when (eqb which forms.Break) (over node.Break from no_link) (over node.Continue from no_link)

  -- parse_items, for names
  unfoldable pub name_turn : Turn Kids
  name_turn kids = do
    link ← ident e
    longer ← add kids link
    comma ← eat e kind.Comma
    if_so (give (more longer)) (give (stop longer)) comma

  unfoldable pub names : Rule Kids
  names = iterate e name_turn no_kids

  -- the names of a `for` and its `in`; `while` has none
  unfoldable pub loop_names : ℕ → Rule Kids
  loop_names which = when (eqb which forms.While) (give no_kids) (do
    kids ← names
    expect e kind.In
    give kids)

  -- the patterns of a case, between bars
  unfoldable pub pattern_turn : Rule ℕ → Turn Kids
  pattern_turn pattern kids = do
    link ← pattern
    longer ← add kids link
    bar ← eat e kind.VBar
    if_so (give (more longer)) (give (stop longer)) bar

  unfoldable pub case_patterns : Rule ℕ → Rule Kids
  case_patterns pattern = iterate e (pattern_turn pattern) no_kids

  -- behind `is`: one token that names a type, and the record over what stands before it
  unfoldable pub type_checked : ℕ → Expr → Span → Option ℕ → Rule (Next Expr)
  type_checked from x r (Some n) = do
    bump e
    link ← close node.TypeCheck from n r.start 0 (link_of x)
    give (more (exprs.Other link))
  type_checked from x r None = unexpected e

  unfoldable pub type_check_at : ℕ → Expr → ℕ → Ranged → Rule (Next Expr)
  type_check_at from x k (Some r) = type_checked from x r (checked_type e.text k r)
  type_check_at from x k None = unexpected e

  unfoldable pub type_check : ℕ → Expr → Rule (Next Expr)
  type_check from x s w = type_check_at from x (kind_at e.tokens s.at) (range_at e.tokens s.at) s w
