-- What the end of the program's rule comes to.
use Rattle.std.specs.Prelude.{ℕ, ◌*◌, List}
use Rattle.cursor.specs.declared.State.{State}
use Rattle.cursor.specs.declared.Stop.{Stop}
use Rattle.cursor.specs.declared.Stop.TheVariants as stops
use Rattle.cursor.specs.Layout.{node_words, error_words}
use Rattle.cursor.specs.Rule.{fault, refused, Out, done, failed}
use Rattle.parser.specs.Blank.{up_to}
use Rattle.parser.specs.Outcome.{Outcome, unread}

-- an end that is no error of the sheet's own
abbrev pub IsRefusal : Stop → Type 0
IsRefusal (stops.Fault f) = ⊥
IsRefusal (stops.Refused r) = Unit {0}

-- a reading that is done: its counts, and the buffers with nothing past them
abbrev pub trimmed : State → List ℕ → List ℕ → List ℕ → Outcome
trimmed s n e x = record { number = 0; reads = s.reads; nodes = s.nodes; errors = s.errors; expected = s.wanted; records = up_to (node_words * s.nodes) n; faults = up_to (error_words * s.errors) e; kinds = up_to s.wanted x }

-- no number of the document: for an end that never comes (Theorems, `never-faults`)
abbrev pub never : ℕ
never = 255

-- how the program's rule ended that began on these buffers: done, or refused with the buffers as it found them
unfoldable pub finished : List ℕ → List ℕ → List ℕ → Out ℕ → Outcome
finished n e x (done s w link) = trimmed s w.nodes w.errors w.expected
finished n e x (failed (refused k)) = unread k n e x
finished n e x (failed (fault s w f)) = unread never n e x
