use Rattle.std.proofs.Common.{◌≡◌, ◌-◌}
use Rattle.cursor.specs.Sheet.{count}
use Rattle.cursor.specs.Rule.{iterate}
use Rattle.cursor.specs.Answers.{sheet_of, run, SameErrors}
use Rattle.types.specs.Patterns.{patterns}
use Rattle.parts.specs.Steps.{pattern_turn}
use Rattle.parts.proofs.steps.case_patterns.Given as goal

-- going on from here gives what going on from the start gives
abbrev pub invariant-loop-link : goal.invariant-loop-link
invariant-loop-link l = record {
  rest : run (iterate (sheet_of l.sheet) (pattern_turn (sheet_of l.sheet) (patterns (sheet_of l.sheet) l.depth)) l.initial.kids) l.initial.p ≡ run (iterate (sheet_of l.sheet) (pattern_turn (sheet_of l.sheet) (patterns (sheet_of l.sheet) l.depth)) l.kids) l.p;
  lent : SameErrors l.initial.p l.p;
}

abbrev pub decreases-loop-link : goal.decreases-loop-link
decreases-loop-link l = count l.sheet.tokens.now - l.p.state.at
