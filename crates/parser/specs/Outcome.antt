-- What a reading comes to, as the document tells it: the answer's number, the four counts, and every word of the three buffers.
use Rattle.std.specs.Prelude.{ℕ, List, [], ◌∷◌, get_or, Result, Ok, Err}
use Rattle.cursor.specs.Answers as cut
use Rattle.entry.specs.Check.{refusal_number}
use Rattle.parser.specs.declared.Told.{Told}
use Rattle.parser.specs.declared.Reading.{Reading}
use Rattle.parser.specs.declared.Refusal.{Refusal}
use Rattle.parser.specs.declared.Refusal.TheVariants.{Unfit, CutOff}

pub record Outcome : Type 0 where
  pub number : ℕ
  pub reads : ℕ
  pub nodes : ℕ
  pub errors : ℕ
  pub expected : ℕ
  pub records : List ℕ
  pub faults : List ℕ
  pub kinds : List ℕ

-- counts of zero, and these words: what a refusal comes to
abbrev pub unread : ℕ → List ℕ → List ℕ → List ℕ → Outcome
unread number n e x = record { number = number; reads = 0; nodes = 0; errors = 0; expected = 0; records = n; faults = e; kinds = x }

-- the document's number of a refusal
abbrev pub number : Refusal → ℕ
number (Unfit r) = refusal_number r
number (CutOff r) = cut.number r

-- an answer and what it leaves in the buffers: 0 for a reading with its counts, otherwise the refusal's number
abbrev pub told : Result Reading Refusal → List ℕ → List ℕ → List ℕ → Outcome
told (Ok r) n e x = record { number = 0; reads = r.reads; nodes = r.nodes; errors = r.errors; expected = r.expected; records = n; faults = e; kinds = x }
told (Err r) n e x = unread (number r) n e x

-- the same of a number and counts apart
abbrev pub apart : Told → List ℕ → List ℕ → List ℕ → Outcome
apart t n e x = record { number = t.number; reads = t.reading.reads; nodes = t.reading.nodes; errors = t.reading.errors; expected = t.reading.expected; records = n; faults = e; kinds = x }

-- what a caller in C is handed: the number, and what the four words for the counts and the three buffers then hold
pub record Handed : Type 0 where
  pub number : ℕ
  pub counts : List ℕ
  pub records : List ℕ
  pub faults : List ℕ
  pub kinds : List ℕ

abbrev pub handed : ℕ → List ℕ → List ℕ → List ℕ → List ℕ → Handed
handed number c n e x = record { number = number; counts = c; records = n; faults = e; kinds = x }

-- the four counts, as they are handed over: readings, node records, errors, expected kinds
abbrev pub four_counts : Outcome → List ℕ
four_counts o = o.reads ∷ o.nodes ∷ o.errors ∷ o.expected ∷ []

-- an outcome handed over
abbrev pub handing : Outcome → Handed
handing o = handed o.number (four_counts o) o.records o.faults o.kinds

-- the outcome that a caller reads off what it is handed
abbrev pub received : Handed → Outcome
received h = record { number = h.number; reads = get_or h.counts 0 0; nodes = get_or h.counts 1 0; errors = get_or h.counts 2 0; expected = get_or h.counts 3 0; records = h.records; faults = h.faults; kinds = h.kinds }
