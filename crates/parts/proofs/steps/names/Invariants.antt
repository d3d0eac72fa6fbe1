use Rattle.std.proofs.Common.{◌≡◌, ◌-◌}
use Rattle.cursor.specs.Sheet.{count}
use Rattle.cursor.specs.Rule.{iterate}
use Rattle.cursor.specs.Answers.{sheet_of, run, SameErrors}
use Rattle.parts.specs.Steps.{name_turn}
use Rattle.parts.proofs.steps.names.Given as goal

-- going on from here gives what going on from the start gives
abbrev pub invariant-loop-link : goal.invariant-loop-link
invariant-loop-link l = record {
  rest : run (iterate (sheet_of l.sheet) (name_turn (sheet_of l.sheet)) l.initial.kids) l.initial.p ≡ run (iterate (sheet_of l.sheet) (name_turn (sheet_of l.sheet)) l.kids) l.p;
  lent : SameErrors l.initial.p l.p;
}

abbrev pub decreases-loop-link : goal.decreases-loop-link
decreases-loop-link l = count l.sheet.tokens.now - l.p.state.at
