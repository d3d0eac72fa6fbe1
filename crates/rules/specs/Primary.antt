-- Calls and members: parse_expr_primary. The atom's rule is handed over.
use Rattle.std.specs.Prelude.{ℕ, List, [], ◌∷◌, Bool, true}
use Rattle.kinds.specs.Number as kind
use Rattle.cursor.specs.Sheet.{Ranged}
use Rattle.cursor.specs.Node as node
use Rattle.cursor.specs.Rule.{Rule, ◌>>=◌, ◌>>◌, give, if_so, Next, Turn, iterate}
use Rattle.cursor.specs.Tokens.{bump}
use Rattle.cursor.specs.Checks.{eat, expect, eat_range, Case, ◌⇒◌, choose}
use Rattle.cursor.specs.Records.{no_link}
use Rattle.types.specs.Lits.{ident}
use Rattle.types.specs.Items.{start}
use Rattle.parts.specs.declared.values.Expr.{Expr}
use Rattle.parts.specs.Members as members
use Rattle.parts.specs.Values.{link_of, row_of}
use Rattle.rules.specs.Inner.{Inner, expr}
use Rattle.parts.specs.Records.{call_record, member_record}
use Rattle.parts.specs.Steps.{Arguments, braced, no_member}
use Rattle.rules.specs.Blocks.{block}
use Rattle.rules.specs.Tables.{items_of}

module _ (r : Inner) where
  -- the macro member_expr, from the opening token on: the member's kind with a property and with `#`, how the property is read, and what closes it
  abbrev pub member_expr : ℕ → Ranged → Expr → ℕ → ℕ → Rule ℕ → Rule Unit → Rule (Next Expr)
  member_expr from safe x named meta property closing = do
    bump r.sheet
    pound ← eat r.sheet kind.Pound
    if_so (do
      closing
      member_record from safe meta x no_link)
        (do
          link ← property
          closing
          member_record from safe named x link) pound

  unfoldable pub bracket_member : ℕ → Ranged → Expr → Rule (Next Expr)
  bracket_member from safe x = member_expr from safe x members.Bracket members.BracketMeta (expr r true) (expect r.sheet kind.CloseBracket)

  unfoldable pub dot_member : ℕ → Ranged → Expr → Rule (Next Expr)
  dot_member from safe x = member_expr from safe x members.Dot members.DotMeta (ident r.sheet) (give tt)

  unfoldable pub double_colon_member : ℕ → Ranged → Expr → Rule (Next Expr)
  double_colon_member from safe x = member_expr from safe x members.DoubleColon members.DoubleColonMeta (ident r.sheet) (give tt)

  -- a member, where one stands here; a `?` needs one
  abbrev pub member_cases : ℕ → Ranged → Expr → List (Case (Next Expr))
  member_cases from safe x =
      kind.OpenBracket ⇒ bracket_member from safe x
      ∷ kind.Dot ⇒ dot_member from safe x
      ∷ kind.DoubleColon ⇒ double_colon_member from safe x
      ∷ []

  unfoldable pub access : ℕ → Expr → Rule (Next Expr)
  access from x = do
    safe ← eat_range r.sheet kind.Question
    choose r.sheet (member_cases from safe x) (no_member r.sheet safe x)

  -- a call from behind its opening parenthesis on, with a trailing lambda where one is allowed and stands there
  unfoldable pub call : ℕ → Bool → Expr → Rule (Next Expr)
  call from lambda x = do
    i ← items_of r Arguments (row_of (link_of x))
    trailing ← braced r.sheet lambda
    if_so (do
      closure ← block r node.Closure
      call_record from i.kids closure)
        (call_record from i.kids no_link) trailing

  -- one call or member more, where one stands here
  unfoldable pub postfix_turn : ℕ → Bool → Turn Expr
  postfix_turn from lambda x = do
    opened ← eat r.sheet kind.OpenParen
    if_so (call from lambda x)
        (do
          trailing ← braced r.sheet lambda
          if_so (do
            closure ← block r node.Closure
            call_record from (row_of (link_of x)) closure)
              (access from x) trailing) opened

  unfoldable pub primary_of : Rule Expr → Bool → Rule Expr
  primary_of atom lambda = do
    from ← start r.sheet
    x ← atom
    iterate r.sheet (postfix_turn from lambda) x
