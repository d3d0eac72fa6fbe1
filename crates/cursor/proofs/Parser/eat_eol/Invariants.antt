use Rattle.std.proofs.Common.{◌≡◌, ◌-◌}
use Rattle.cursor.specs.Sheet.{count}
use Rattle.cursor.specs.Rule.{iterate}
use Rattle.cursor.specs.Tokens.{eol_turn}
use Rattle.cursor.specs.Answers.{sheet_of, run, SameBuffers}
use Rattle.cursor.proofs.Parser.eat_eol.Given as goal

-- going on from here gives what going on from the start gives
abbrev pub invariant-loop-mark : goal.invariant-loop-mark
invariant-loop-mark l = record {
  rest : run (iterate (sheet_of l.sheet) (eol_turn (sheet_of l.sheet)) tt) l.initial.self ≡ run (iterate (sheet_of l.sheet) (eol_turn (sheet_of l.sheet)) tt) l.self;
  lent : SameBuffers l.initial.self l.self;
}

abbrev pub decreases-loop-mark : goal.decreases-loop-mark
decreases-loop-mark l = count l.sheet.tokens.now - l.self.state.at
