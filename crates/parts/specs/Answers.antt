-- What the answers of this crate are as ends of rules.
use Rattle.std.specs.Prelude.{false, Result}
use Rattle.std.specs.declared.ops.ControlFlow.{ControlFlow}
use Rattle.cursor.specs.declared.Kids.{Kids}
use Rattle.cursor.specs.Rule.{Next}
use Rattle.cursor.specs.Answers.{turned}
use Rattle.parts.specs.declared.imports.Imported.{Imported}

-- a turn whose answer is the loop's value, whether it goes on or stops
abbrev pub as_turn : {A E : Type 0} → Result (ControlFlow A A) E → Result (Next A) E
as_turn = turned (λ a. a) (λ a. a)

-- a path so far, with nothing imported yet
abbrev pub on_path : Kids → Imported
on_path kids = record { kids = kids; names = 0; items = 0; one = false; two = false }

-- a turn along a path: it goes on with the row of the names, or stops with what the import names
abbrev pub along : {E : Type 0} → Result (ControlFlow Imported Kids) E → Result (Next Imported) E
along = turned on_path (λ i. i)
