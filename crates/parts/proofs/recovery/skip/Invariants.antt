use Rattle.std.proofs.Common.{◌≡◌, ◌-◌}
use Rattle.cursor.specs.Sheet.{count}
use Rattle.cursor.specs.Rule.{iterate}
use Rattle.cursor.specs.Answers.{sheet_of, run, SameRecords}
use Rattle.parts.specs.Recovery.{skip_turn}
use Rattle.parts.proofs.recovery.skip.Given as goal

-- going on from here gives what going on from the start gives
abbrev pub invariant-loop-p : goal.invariant-loop-p
invariant-loop-p l = record {
  rest : run (iterate (sheet_of l.sheet) (skip_turn (sheet_of l.sheet) l.end) tt) l.initial.p ≡ run (iterate (sheet_of l.sheet) (skip_turn (sheet_of l.sheet) l.end) tt) l.p;
  lent : SameRecords l.initial.p l.p;
}

abbrev pub decreases-loop-p : goal.decreases-loop-p
decreases-loop-p l = count l.sheet.tokens.now - l.p.state.at
