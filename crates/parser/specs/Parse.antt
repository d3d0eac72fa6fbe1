-- parse: the entry check, the program's rule on blank buffers, and what is left of it past the counts.
use Rattle.std.specs.Prelude.{ℕ, List, replicate, Ok, Err}
use Rattle.cursor.specs.Checks.{live_room}
use Rattle.cursor.specs.Sheet.{Sheet, sheet}
use Rattle.cursor.specs.Rule.{world, begin}
use Rattle.entry.specs.Check.{refusal_number, entry_of}
use Rattle.rules.specs.Levels.{levels, program}
use Rattle.parser.specs.Blank.{blank}
use Rattle.parser.specs.Outcome.{Outcome, unread}
use Rattle.parser.specs.Finish.{finished}

-- how deep a sheet may nest
abbrev pub depth : ℕ
depth = 64

-- what is read, with an allowance of readings
abbrev pub allowed : List ℕ → List ℕ → ℕ → Sheet
allowed text tokens allowance = sheet text tokens (record { allowance = allowance })

-- a sheet that passed the entry check, read with this allowance into these buffers
unfoldable pub reading : List ℕ → List ℕ → ℕ → List ℕ → List ℕ → List ℕ → Outcome
reading text tokens allowance n e x = finished n e x (program (levels (allowed text tokens allowance) depth) begin (world n e x (replicate live_room 0)))

-- parse: refusals 1 to 6 leave the buffers as they are; any other sheet is read into blank buffers, so that what they held does not matter
unfoldable pub parse : List ℕ → List ℕ → ℕ → List ℕ → List ℕ → List ℕ → Outcome
parse text tokens allowance n e x = elim (entry_of text tokens) as (λ _. Outcome) [
  | Ok _ ↦ reading text tokens allowance (blank n) (blank e) (blank x)
  | Err r ↦ unread (refusal_number r) n e x
]
