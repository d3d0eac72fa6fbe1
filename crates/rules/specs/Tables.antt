-- Lists of items by the name of their rule, and what `{` opens where an expression may begin: parse_table_key_and_colon, parse_table_property.
use Rattle.std.specs.Prelude.{ℕ, true, eqb}
use Rattle.kinds.specs.Number as kind
use Rattle.cursor.specs.declared.Kids.{Kids}
use Rattle.cursor.specs.Node as node
use Rattle.cursor.specs.Rule.{Rule, ◌>>=◌, ◌>>◌, if_so}
use Rattle.cursor.specs.Tokens.{bump, eat_eol}
use Rattle.cursor.specs.Checks.{eat, expect}
use Rattle.cursor.specs.Records.{no_link}
use Rattle.cursor.specs.Attempts.{try_parse}
use Rattle.types.specs.declared.items.Items.{Items}
use Rattle.types.specs.Items.{start, close, over, pair}
use Rattle.parts.specs.Values.{row_with}
use Rattle.parts.specs.Until.{items_until}
use Rattle.rules.specs.Inner.{Inner, expr}
use Rattle.parts.specs.When.{when}
use Rattle.parts.specs.Records.{list_record, block_record}
use Rattle.parts.specs.Steps.{Properties, items_end, lit_key, paren_key}

module _ (r : Inner) where
  -- parse_table_key_and_colon: a literal or an expression in parentheses
  unfoldable pub key : Rule ℕ
  key = do
    from ← start r.sheet
    opened ← eat r.sheet kind.OpenParen
    if_so (do
      link ← expr r true
      paren_key r.sheet from link)
        (lit_key r.sheet) opened

  -- parse_table_property
  unfoldable pub property : Rule ℕ
  property = do
    from ← start r.sheet
    name ← key
    value ← expr r true
    pair node.TableProperty from name value

  -- an item by the name of its rule: an argument and an element are expressions
  unfoldable pub item : ℕ → Rule ℕ
  item rule = when (eqb rule Properties) property (expr r true)

  unfoldable pub items_of : ℕ → Kids → Rule Items
  items_of rule kids = items_until r.sheet (item rule) (items_end rule) kids

  -- a table from behind its first key and colon on
  unfoldable pub table : ℕ → ℕ → ℕ → Rule ℕ
  table from inside first = do
    value ← expr r true
    link ← pair node.TableProperty inside first value
    eat_eol r.sheet
    closed ← eat r.sheet kind.CloseBrace
    if_so (close node.Table from 0 0 1 link)
        (do
          expect r.sheet kind.Comma
          i ← items_of Properties (row_with link)
          list_record node.Table from i) closed

  -- a block where an expression may begin: its record starts behind the brace and Eols, the expression's at the brace
  unfoldable pub brace_block : ℕ → ℕ → Rule ℕ
  brace_block from inside = do
    row ← r.exprs kind.CloseBrace
    block_record inside node.ExprBlock from row

  -- a key and its colon are attempted; where there is none it is a block
  unfoldable pub table_or_block : ℕ → Rule ℕ
  table_or_block from = do
    inside ← start r.sheet
    try_parse key (table from inside) (brace_block from inside)

  -- `{` where an expression may begin: `{`, Eols, `}` is a table
  unfoldable pub brace : ℕ → Rule ℕ
  brace from = do
    bump r.sheet
    eat_eol r.sheet
    closed ← eat r.sheet kind.CloseBrace
    if_so (over node.Table from no_link) (table_or_block from) closed
