-- Blocks: parse_block and parse_expr_and_block.
use Rattle.std.specs.Prelude.{ℕ, false}
use Rattle.kinds.specs.Number as kind
use Rattle.cursor.specs.declared.Kids.{Kids}
use Rattle.cursor.specs.Node as node
use Rattle.cursor.specs.Rule.{Rule, ◌>>=◌, ◌>>◌}
use Rattle.cursor.specs.Checks.{expect}
use Rattle.cursor.specs.Records.{add}
use Rattle.types.specs.Items.{start}
use Rattle.rules.specs.Inner.{Inner, expr}
use Rattle.parts.specs.Records.{block_record}

module _ (r : Inner) where
  -- parse_block; perhaps with a record of another kind and of the same range over it: the Closure of a trailing lambda, the Expr of an else block
  unfoldable pub block : ℕ → Rule ℕ
  block wrap = do
    expect r.sheet kind.OpenBrace
    from ← start r.sheet
    row ← r.exprs kind.CloseBrace
    block_record from wrap from row

  -- parse_expr_and_block: no trailing lambda is taken; both join a row
  unfoldable pub expr_and_block : Kids → Rule Kids
  expr_and_block kids = do
    link ← expr r false
    body ← block node.None
    one ← add kids link
    add one body
