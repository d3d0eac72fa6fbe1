use Rattle.std.proofs.Common.{length, drop, true, ◌≡◌, ◌+◌, ◌≤◌}
use Rattle.cursor.specs.Sheet.{kind_at}
use Rattle.cursor.specs.Checks.{live_room, pick_from}
use Rattle.cursor.specs.Answers.{sheet_of, run, SameRecords}
use Rattle.cursor.proofs.Parser.seek.Given as goal

-- going on from here gives what going on from the start gives, the kind that stands here is the one found, and where the list is roomy it has room for the kinds left
abbrev pub invariant-loop-place : goal.invariant-loop-place
invariant-loop-place l = record {
  here : l.found ≡ kind_at l.sheet.tokens.now l.self.state.at;
  room : l.roomy ≡ true → l.self.state.live + length l.chain ≤ live_room + l.place;
  rest : run (pick_from (sheet_of l.sheet) l.chain 0) l.initial.self ≡ run (pick_from (sheet_of l.sheet) (drop l.place l.chain) l.place) l.self;
  lent : SameRecords l.initial.self l.self;
}
