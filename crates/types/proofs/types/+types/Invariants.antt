use Rattle.std.proofs.Common.{ℕ, ◌≡◌, ◌+◌, ◌-◌, ◌*◌}
use Rattle.cursor.specs.declared.Sheet.{Sheet}
use Rattle.cursor.specs.declared.Kids.{Kids}
use Rattle.cursor.specs.Sheet.{count}
use Rattle.cursor.specs.Rule.{Turn, iterate}
use Rattle.cursor.specs.Answers.{sheet_of, run, SameErrors}
use Rattle.types.specs.declared.items.Items.{Items}
use Rattle.types.specs.Items.{so, item_turn}
use Rattle.types.specs.ItemRules.{type_rule}
use Rattle.types.specs.Types.{union_turn, type_item, type_last_kind, type_last, atoms}
use Rattle.types.proofs.types.+types.Given as goal

abbrev pub decreases-type_atom : goal.decreases-type_atom
decreases-type_atom l = 10 * l.depth

abbrev pub decreases-union_of : goal.decreases-union_of
decreases-union_of l = 10 * l.depth + 1

abbrev pub decreases-ty : goal.decreases-ty
decreases-ty l = 10 * l.depth + 2

abbrev pub decreases-returns : goal.decreases-returns
decreases-returns l = 10 * l.depth + 3

abbrev pub decreases-named_type : goal.decreases-named_type
decreases-named_type l = 10 * l.depth + 3

abbrev pub decreases-table_ty_pair : goal.decreases-table_ty_pair
decreases-table_ty_pair l = 10 * l.depth + 3

abbrev pub decreases-table_ty_other : goal.decreases-table_ty_other
decreases-table_ty_other l = 10 * l.depth + 3

abbrev pub decreases-type_paren : goal.decreases-type_paren
decreases-type_paren l = 10 * l.depth + 3

abbrev pub decreases-typed_ident : goal.decreases-typed_ident
decreases-typed_ident l = 10 * l.depth + 4

abbrev pub decreases-type_item : goal.decreases-type_item
decreases-type_item l = 10 * l.depth + 5

abbrev pub decreases-type_last_item : goal.decreases-type_last_item
decreases-type_last_item l = 10 * l.depth + 6

abbrev pub decreases-type_last : goal.decreases-type_last
decreases-type_last l = 10 * l.depth + 7

abbrev pub decreases-type_items_of : goal.decreases-type_items_of
decreases-type_items_of l = 10 * l.depth + 8

abbrev pub decreases-type_table : goal.decreases-type_table
decreases-type_table l = 10 * l.depth + 9

abbrev pub decreases-type_function : goal.decreases-type_function
decreases-type_function l = 10 * l.depth + 9

-- a turn of the loop of a list, and one of a union's
abbrev turn : Sheet → ℕ → ℕ → ℕ → Turn Items
turn e depth rule end = item_turn (sheet_of e) (type_item (sheet_of e) (atoms (sheet_of e) depth) rule) (type_last_kind rule) (type_last (sheet_of e) (atoms (sheet_of e) depth) rule) end

abbrev part : Sheet → ℕ → Turn Kids
part e depth = union_turn (sheet_of e) (atoms (sheet_of e) depth)

-- going on from here gives what going on from the start gives
abbrev pub invariant-type_items_of-loop-p : goal.invariant-type_items_of-loop-p
invariant-type_items_of-loop-p l = record {
  rest : run (iterate (sheet_of l.sheet) (turn l.sheet l.depth (type_rule l.rule) l.end) (so l.initial.row)) l.initial.p ≡ run (iterate (sheet_of l.sheet) (turn l.sheet l.depth (type_rule l.rule) l.end) (so l.row)) l.p;
  lent : SameErrors l.initial.p l.p;
}

abbrev pub decreases-type_items_of-loop-p : goal.decreases-type_items_of-loop-p
decreases-type_items_of-loop-p l = count l.sheet.tokens.now - l.p.state.at

abbrev pub invariant-union_of-loop-p : goal.invariant-union_of-loop-p
invariant-union_of-loop-p l = record {
  rest : run (iterate (sheet_of l.sheet) (part l.sheet l.depth) l.initial.kids) l.initial.p ≡ run (iterate (sheet_of l.sheet) (part l.sheet l.depth) l.kids) l.p;
  lent : SameErrors l.initial.p l.p;
}

abbrev pub decreases-union_of-loop-p : goal.decreases-union_of-loop-p
decreases-union_of-loop-p l = count l.sheet.tokens.now - l.p.state.at
