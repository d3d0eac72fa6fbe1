-- Lists of items: parse_items_until_with_last. The item rule, the kind that starts the last item, the rule for it and the kind that ends
-- the list are handed over.
use Rattle.std.specs.Prelude.{ℕ, zero, suc, Bool, true, false, Some, None}
use Rattle.kinds.specs.Number as kind
use Rattle.cursor.specs.declared.Kids.{Kids}
use Rattle.cursor.specs.Sheet.{Sheet, range_at, Ranged}
use Rattle.cursor.specs.Rule.{done, Rule, ◌>>=◌, ◌>>◌, give, if_so, Next, more, stop, Turn, iterate}
use Rattle.cursor.specs.Tokens.{start_of, eat_eol}
use Rattle.cursor.specs.Checks.{check, eat, expect}
use Rattle.cursor.specs.Records.{append, add, no_kids}
use Rattle.types.specs.declared.items.Items.{Items}

-- where a value starts that begins here
unfoldable pub start : Sheet → Rule ℕ
start e s w = done s w (start_of (range_at e.tokens s.at))

-- the record of a value that ends here: its kind, its start, two words, its flags and the link to its first child
unfoldable pub close : ℕ → ℕ → ℕ → ℕ → ℕ → ℕ → Rule ℕ
close k from one two flags first s w = append (record { kind = k; start = from; end = s.prev; one = one; two = two; flags = flags }) first s w

-- a record that has nothing of its own but its kind and range, over the children from a link on
abbrev pub over : ℕ → ℕ → ℕ → Rule ℕ
over k from first = close k from 0 0 0 first

-- a record over two children
unfoldable pub pair : ℕ → ℕ → ℕ → ℕ → Rule ℕ
pair k from a b = do
  one ← add no_kids a
  two ← add one b
  over k from two.first

-- one more child, where there is one
unfoldable pub add_some : Kids → ℕ → Rule Kids
add_some kids zero = give kids
add_some kids (suc i) = add kids (suc i)

-- is there a last item?
abbrev pub is_ended : Ranged → Bool
is_ended (Some r) = true
is_ended None = false

-- a row of items so far, with no last item
abbrev pub so : Kids → Items
so kids = record { kids = kids; ended = None }

-- after an item: it joins the row; then Eols, and the end or a comma and Eols
unfoldable pub after_item : Sheet → ℕ → Kids → ℕ → Rule (Next Items)
after_item e end kids r = do
  longer ← add kids r
  eat_eol e
  ended ← eat e end
  if_so (give (stop (so longer)))
      (do
        expect e kind.Comma
        eat_eol e
        give (more (so longer))) ended

unfoldable pub one_item : Sheet → Rule ℕ → ℕ → Items → Rule (Next Items)
one_item e item end i = do
  r ← item
  after_item e end i.kids r

-- after the last item only Eols and the end
unfoldable pub after_last : Sheet → ℕ → Items → Rule Items
after_last e end i = do
  eat_eol e
  expect e end
  give i

unfoldable pub last_item : Sheet → (Items → Rule Items) → ℕ → Items → Rule Items
last_item e last end i = do
  j ← last i
  after_last e end j

unfoldable pub item_turn : Sheet → Rule ℕ → ℕ → (Items → Rule Items) → ℕ → Turn Items
item_turn e item last_kind last end i = do
  ended ← eat e end
  if_so (give (stop i))
      (do
        lastly ← check e last_kind
        if_so (do
          j ← last_item e last end i
          give (stop j))
            (one_item e item end i) lastly) ended

unfoldable pub items_until_with_last : Sheet → Rule ℕ → ℕ → (Items → Rule Items) → ℕ → Kids → Rule Items
items_until_with_last e item last_kind last end kids = do
  eat_eol e
  iterate e (item_turn e item last_kind last end) (so kids)
