-- Patterns: parse_pattern.
use Rattle.std.specs.Prelude.{unwrap_or, ℕ, zero, suc, List, [], ◌∷◌, false, Some}
use Rattle.kinds.specs.Number as kind
use Rattle.cursor.specs.declared.Kids.{Kids}
use Rattle.cursor.specs.declared.Span.{Span}
use Rattle.cursor.specs.Sheet.{Sheet, range_at, Ranged}
use Rattle.cursor.specs.Node as node
use Rattle.cursor.specs.Rule.{Rule, ◌>>=◌, ◌>>◌, give, refuse}
use Rattle.cursor.specs.Tokens.{bump}
use Rattle.cursor.specs.Checks.{expect, Case, ◌⇒◌, choose}
use Rattle.cursor.specs.Records.{no_kids, flagged}
use Rattle.types.specs.declared.items.Items.{Items}
use Rattle.types.specs.Lits.{lit, ident}
use Rattle.types.specs.ItemRules as items
use Rattle.types.specs.Items.{start, close, pair, is_ended, so, last_item, items_until_with_last}

-- a range, or the empty one at 0 where there is none
abbrev pub span_of : Ranged → Span
span_of r = unwrap_or r (record { start = 0; end = 0 })

-- what goes with Pairs, and what with Patterns
abbrev pub pairs_or : {A : Type 0} → ℕ → A → A → A
pairs_or zero a b = a
pairs_or (suc n) a b = b

-- how a list of each item rule ends
unfoldable pub pattern_end : ℕ → ℕ
pattern_end rule = pairs_or rule kind.CloseBrace kind.CloseBracket

module _ (e : Sheet) where
  -- the `...` of a pattern: its range is words of its owner
  unfoldable pub pattern_last : Items → Rule Items
  pattern_last i s w = (do
    bump e
    give (record { kids = i.kids; ended = Some (span_of (range_at e.tokens s.at)) })) s w

  -- a pair of a table pattern
  unfoldable pub table_pattern_pair : Rule ℕ → Rule ℕ
  table_pattern_pair inner = do
    from ← start e
    key ← lit e
    expect e kind.Colon
    value ← inner
    pair node.TablePatternPair from key value

  -- an item by the name of its rule
  unfoldable pub pattern_item : Rule ℕ → ℕ → Rule ℕ
  pattern_item inner rule s w = pairs_or rule (table_pattern_pair inner s w) (inner s w)

  unfoldable pub pattern_items : Rule ℕ → ℕ → Kids → Rule Items
  pattern_items inner rule kids = items_until_with_last e (pattern_item inner rule) kind.Ellipsis pattern_last (pattern_end rule) kids

  -- the last item, and the end of the list
  unfoldable pub pattern_ended : ℕ → Kids → Rule Items
  pattern_ended rule kids = last_item e pattern_last (pattern_end rule) (so kids)

  -- a table or a list pattern
  unfoldable pub pattern_row : Rule ℕ → ℕ → ℕ → ℕ → Rule ℕ
  pattern_row inner from rule record-kind = do
    bump e
    i ← pattern_items inner rule no_kids
    close record-kind from (span_of i.ended).start (span_of i.ended).end (flagged i.kids.count 0 (is_ended i.ended) false) i.kids.first

  -- parse_pattern, over the patterns one level further in; its ways by the kind that each begins with
  abbrev pub pattern_cases : Rule ℕ → ℕ → List (Case ℕ)
  pattern_cases inner from =
      kind.Ident ⇒ ident e
      ∷ kind.OpenBrace ⇒ pattern_row inner from items.Pairs node.PatternTable
      ∷ kind.OpenBracket ⇒ pattern_row inner from items.Patterns node.PatternList
      ∷ []

  unfoldable pub pattern : Rule ℕ → Rule ℕ
  pattern inner = do
    from ← start e
    choose e (pattern_cases inner from) (lit e)

  -- patterns with so many levels left: 9 where none is
  unfoldable pub patterns : ℕ → Rule ℕ
  patterns zero = refuse 9
  patterns (suc d) = pattern (patterns d)
