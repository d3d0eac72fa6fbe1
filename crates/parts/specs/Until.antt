-- Lists of items without a last one: parse_items_until. The item rule and the kind that ends the list are handed over.
use Rattle.std.specs.Prelude.{ℕ}
use Rattle.cursor.specs.declared.Kids.{Kids}
use Rattle.cursor.specs.Sheet.{Sheet}
use Rattle.cursor.specs.Rule.{Rule, ◌>>=◌, ◌>>◌, give, if_so, stop, Turn, iterate}
use Rattle.cursor.specs.Tokens.{eat_eol}
use Rattle.cursor.specs.Checks.{eat}
use Rattle.types.specs.declared.items.Items.{Items}
use Rattle.types.specs.Items.{so, one_item}

module _ (e : Sheet) (item : Rule ℕ) (end : ℕ) where
  -- parse_items_until
  unfoldable pub until_turn : Turn Items
  until_turn i = do
    ended ← eat e end
    if_so (give (stop i)) (one_item e item end i) ended

  unfoldable pub items_until : Kids → Rule Items
  items_until kids = do
    eat_eol e
    iterate e until_turn (so kids)
