use Rattle.std.proofs.Common.{ℕ, ◌≡◌, ◌+◌, ◌-◌, ◌*◌}
use Rattle.kinds.specs.Number as kind
use Rattle.cursor.specs.declared.Sheet.{Sheet}
use Rattle.cursor.specs.Sheet.{count}
use Rattle.cursor.specs.Rule.{Turn, iterate}
use Rattle.cursor.specs.Answers.{sheet_of, run, SameErrors}
use Rattle.types.specs.declared.items.Items.{Items}
use Rattle.types.specs.Items.{so, item_turn}
use Rattle.types.specs.ItemRules.{pattern_rule}
use Rattle.types.specs.Patterns.{pattern_item, pattern_last, patterns}
use Rattle.types.proofs.patterns.+patterns.Given as goal

abbrev pub decreases-pattern : goal.decreases-pattern
decreases-pattern l = 10 * l.depth

abbrev pub decreases-table_pattern_pair : goal.decreases-table_pattern_pair
decreases-table_pattern_pair l = 10 * l.depth + 1

abbrev pub decreases-pattern_item : goal.decreases-pattern_item
decreases-pattern_item l = 10 * l.depth + 2

abbrev pub decreases-pattern_items : goal.decreases-pattern_items
decreases-pattern_items l = 10 * l.depth + 3

abbrev pub decreases-pattern_row : goal.decreases-pattern_row
decreases-pattern_row l = 10 * l.depth + 4

-- a turn of the loop of a list
abbrev turn : Sheet → ℕ → ℕ → ℕ → Turn Items
turn e depth rule end = item_turn (sheet_of e) (pattern_item (sheet_of e) (patterns (sheet_of e) depth) rule) kind.Ellipsis (pattern_last (sheet_of e)) end

-- going on from here gives what going on from the start gives
abbrev pub invariant-pattern_items-loop-p : goal.invariant-pattern_items-loop-p
invariant-pattern_items-loop-p l = record {
  rest : run (iterate (sheet_of l.sheet) (turn l.sheet l.depth (pattern_rule l.rule) l.end) (so l.initial.row)) l.initial.p ≡ run (iterate (sheet_of l.sheet) (turn l.sheet l.depth (pattern_rule l.rule) l.end) (so l.row)) l.p;
  lent : SameErrors l.initial.p l.p;
}

abbrev pub decreases-pattern_items-loop-p : goal.decreases-pattern_items-loop-p
decreases-pattern_items-loop-p l = count l.sheet.tokens.now - l.p.state.at
