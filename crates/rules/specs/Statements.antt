-- Statements: parse_stmt, with its assignments.
use Rattle.std.specs.Prelude.{ℕ, List, [], ◌∷◌, true, false, ltb, eqb, Some, None, Option}
use Rattle.kinds.specs.Number as kind
use Rattle.cursor.specs.declared.Kids.{Kids}
use Rattle.cursor.specs.Sheet.{Ranged, range_at}
use Rattle.cursor.specs.Node as node
use Rattle.cursor.specs.Rule.{Rule, ◌>>=◌, ◌>>◌, give, if_so, Next, more, stop, Turn, iterate}
use Rattle.cursor.specs.Tokens.{bump}
use Rattle.cursor.specs.Checks.{check, expect, eat_range, Case, ◌⇒◌, choose, unexpected}
use Rattle.cursor.specs.Records.{add, flagged}
use Rattle.cursor.specs.Attempts.{try_parse}
use Rattle.types.specs.Items.{start, close, pair}
use Rattle.types.specs.Types.{type, named, typed_ident}
use Rattle.parts.specs.declared.values.Expr.{Expr}
use Rattle.parts.specs.declared.values.Expr.TheVariants as exprs
use Rattle.parts.specs.Values.{link_of, to_assign_left, row_with, uncounted}
use Rattle.rules.specs.Inner.{Inner, expr}
use Rattle.parts.specs.When.{when, fail_with}
use Rattle.parts.specs.Records.{couple, row_record}
use Rattle.parts.specs.Steps.{alone, no_operator, operator_of}
use Rattle.rules.specs.Functions.{named_function}
use Rattle.parts.specs.Effects.{effect_stmt}
use Rattle.parts.specs.Imports.{import_stmt}

module _ (r : Inner) where
  -- the right side of an assignment, behind its sign
  unfoldable pub right : ℕ → ℕ → ℕ → ℕ → Rule ℕ
  right from k op link = do
    value ← expr r true
    couple k from op link value

  -- an assignment, with an operator or without, whose sign of this kind stands here; what may not be assigned to is an error
  unfoldable pub set_to : ℕ → ℕ → Option ℕ → Rule ℕ
  set_to from sign (Some link) = do
    bump r.sheet
    when (eqb sign kind.Assign) (right from node.Assign no_operator link) (right from node.AssignOp (operator_of sign) link)
  set_to from sign None = unexpected r.sheet

  unfoldable pub set : ℕ → ℕ → Expr → Rule ℕ
  set from sign x = set_to from sign (to_assign_left x)

  -- an assignment to a name with a type: a Colon after anything but a plain name is an error
  unfoldable pub typed_assign : ℕ → Expr → Rule ℕ
  typed_assign from (exprs.Name name) = do
    bump r.sheet
    t ← type r.sheet r.type_atom
    link ← pair node.TypedIdent from name t
    expect r.sheet kind.Assign
    right from node.Assign no_operator link
  typed_assign from (exprs.NameMember link) = unexpected r.sheet
  typed_assign from (exprs.Call link called) = unexpected r.sheet
  typed_assign from (exprs.Other link) = unexpected r.sheet

  -- one left side more behind its comma; an error for one that may not be assigned to is at that comma and lists nothing
  unfoldable pub left_of : Ranged → Kids → Rule (Next Kids)
  left_of None kids = give (stop kids)
  left_of (Some comma) kids = do
    x ← r.prec 1 true
    joined (to_assign_left x)
    where
      joined : Option ℕ → Rule (Next Kids)
      joined (Some link) = do
        longer ← add kids link
        give (more longer)
      joined None = fail_with (alone kind.Comma comma)

  unfoldable pub left_turn : Turn Kids
  left_turn kids = do
    comma ← eat_range r.sheet kind.Comma
    left_of comma kids

  unfoldable pub lefts : Kids → Rule Kids
  lefts first = iterate r.sheet left_turn first

  -- one right side more behind its comma, as long as there are fewer than left sides
  unfoldable pub right_turn : ℕ → Turn Kids
  right_turn n kids = when (ltb kids.count n) (do
    expect r.sheet kind.Comma
    link ← expr r true
    longer ← add kids link
    give (more longer)) (give (stop kids))

  -- as many right sides as left ones
  unfoldable pub rights : ℕ → Kids → ℕ → Rule ℕ
  rights from left value = do
    begun ← add (uncounted left) value
    kids ← iterate r.sheet (right_turn left.count) begun
    close node.AssignMulti from 0 0 (flagged left.count kids.count false false) kids.first

  -- an assignment to several, of one value or of as many
  unfoldable pub multi_to : ℕ → Option ℕ → Rule ℕ
  multi_to from (Some one) = do
    kids ← lefts (row_with one)
    expect r.sheet kind.Assign
    value ← expr r true
    several ← check r.sheet kind.Comma
    if_so (rights from kids value) (row_record node.AssignUnpack from kids value) several
  multi_to from None = unexpected r.sheet

  unfoldable pub multi : ℕ → Expr → Rule ℕ
  multi from x = multi_to from (to_assign_left x)

  -- an expression, or the assignment that it begins, by the sign behind it
  abbrev pub sign_cases : ℕ → Expr → List (Case ℕ)
  sign_cases from x =
      kind.Comma ⇒ multi from x
      ∷ kind.Colon ⇒ typed_assign from x
      ∷ kind.Assign ⇒ set from kind.Assign x
      ∷ kind.AddAssign ⇒ set from kind.AddAssign x
      ∷ kind.SubAssign ⇒ set from kind.SubAssign x
      ∷ kind.MulAssign ⇒ set from kind.MulAssign x
      ∷ kind.DivAssign ⇒ set from kind.DivAssign x
      ∷ kind.RemAssign ⇒ set from kind.RemAssign x
      ∷ []

  unfoldable pub assign : ℕ → Rule ℕ
  assign from = do
    x ← r.prec 1 true
    choose r.sheet (sign_cases from x) (give (link_of x))

  -- behind `glo`: a function, an effect, or an assignment to a name
  unfoldable pub glo_assign : ℕ → Rule ℕ
  glo_assign from = do
    left ← typed_ident r.sheet (named r.sheet r.type_atom false)
    expect r.sheet kind.Assign
    right from node.GloAssign no_operator left

  abbrev pub glo_cases : ℕ → Ranged → List (Case ℕ)
  glo_cases from here =
      kind.Fn ⇒ named_function r from here
      ∷ kind.Effect ⇒ effect_stmt r.sheet r.type_atom from here
      ∷ []

  unfoldable pub glo : ℕ → Rule ℕ
  glo from s w = (do
    bump r.sheet
    choose r.sheet (glo_cases from (range_at r.sheet.tokens s.at)) (glo_assign from)) s w

  -- a statement that is no named function
  abbrev pub stmt_cases : ℕ → List (Case ℕ)
  stmt_cases from =
      kind.Import ⇒ import_stmt r.sheet from
      ∷ kind.Effect ⇒ effect_stmt r.sheet r.type_atom from None
      ∷ kind.Glo ⇒ glo from
      ∷ []

  unfoldable pub plain : Rule ℕ
  plain = do
    from ← start r.sheet
    choose r.sheet (stmt_cases from) (assign from)

  -- parse_function_stmt
  unfoldable pub function_stmt : Rule ℕ
  function_stmt = do
    from ← start r.sheet
    named_function r from None

  -- parse_stmt: a statement at `fn` is attempted as a named function, then read as any other
  unfoldable pub stmt : Rule ℕ
  stmt = do
    here ← check r.sheet kind.Fn
    if_so (try_parse function_stmt give plain) plain here
