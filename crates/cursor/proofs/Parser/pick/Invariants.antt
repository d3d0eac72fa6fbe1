use Rattle.std.proofs.Common.{length, drop, ◌≡◌, ◌+◌, ◌≤◌}
use Rattle.cursor.specs.Sheet.{kind_at}
use Rattle.cursor.specs.Checks.{live_room, pick_from}
use Rattle.cursor.specs.Answers.{sheet_of, run, SameRecords}
use Rattle.cursor.proofs.Parser.pick.Given as goal

-- going on from here gives what going on from the start gives, the kind that stands here is the one found, and there is room for the kinds left
abbrev pub invariant-loop-kind : goal.invariant-loop-kind
invariant-loop-kind l = record {
  here : l.found ≡ kind_at l.sheet.tokens.now l.self.state.at;
  room : l.self.state.live + length l.chain ≤ live_room + l.kind-index;
  rest : run (pick_from (sheet_of l.sheet) l.chain 0) l.initial.self ≡ run (pick_from (sheet_of l.sheet) (drop l.kind-index l.chain) l.kind-index) l.self;
  lent : SameRecords l.initial.self l.self;
}
