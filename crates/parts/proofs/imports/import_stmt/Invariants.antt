use Rattle.std.proofs.Common.{◌≡◌, ◌-◌}
use Rattle.cursor.specs.Sheet.{count}
use Rattle.cursor.specs.Rule.{iterate}
use Rattle.cursor.specs.Answers.{sheet_of, run, SameErrors}
use Rattle.parts.specs.Answers.{on_path}
use Rattle.parts.specs.Imports.{path_turn}
use Rattle.parts.proofs.imports.import_stmt.Given as goal

-- going on from here gives what going on from the start gives
abbrev pub invariant-loop-longer : goal.invariant-loop-longer
invariant-loop-longer l = record {
  rest : run (iterate (sheet_of l.sheet) (path_turn (sheet_of l.sheet)) (on_path l.initial.kids)) l.initial.p ≡ run (iterate (sheet_of l.sheet) (path_turn (sheet_of l.sheet)) (on_path l.kids)) l.p;
  lent : SameErrors l.initial.p l.p;
}

abbrev pub decreases-loop-longer : goal.decreases-loop-longer
decreases-loop-longer l = count l.sheet.tokens.now - l.p.state.at
