use Rattle.std.proofs.Common.{◌≡◌, ◌-◌}
use Rattle.kinds.specs.Number as kind
use Rattle.cursor.specs.declared.Sheet.{Sheet}
use Rattle.cursor.specs.Sheet.{count}
use Rattle.cursor.specs.Rule.{Turn, iterate}
use Rattle.cursor.specs.Answers.{sheet_of, run, SameErrors}
use Rattle.types.specs.declared.items.Items.{Items}
use Rattle.types.specs.Items.{so}
use Rattle.parts.specs.Until.{until_turn}
use Rattle.parts.specs.Imports.{import_item}
use Rattle.parts.proofs.imports.import_items.Given as goal

abbrev turn : Sheet → Turn Items
turn e = until_turn (sheet_of e) (import_item (sheet_of e)) kind.CloseBrace

-- going on from here gives what going on from the start gives
abbrev pub invariant-loop-p : goal.invariant-loop-p
invariant-loop-p l = record {
  rest : run (iterate (sheet_of l.sheet) (turn l.sheet) (so l.initial.row)) l.initial.p ≡ run (iterate (sheet_of l.sheet) (turn l.sheet) (so l.row)) l.p;
  lent : SameErrors l.initial.p l.p;
}

abbrev pub decreases-loop-p : goal.decreases-loop-p
decreases-loop-p l = count l.sheet.tokens.now - l.p.state.at
