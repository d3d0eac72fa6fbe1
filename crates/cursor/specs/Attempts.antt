-- Attempts and recovery: what the Rust does by `try_parse`, and where a statement fails.
use Rattle.cursor.specs.declared.State.{State}
use Rattle.cursor.specs.Rule.{Rule, or_else, ◌>>◌}
use Rattle.cursor.specs.Tokens.{rewind}
use Rattle.cursor.specs.Records.{log}

-- an attempt is undone exactly when it gave no node: the other rule then starts over from its mark. Otherwise node, errors and place stay
unfoldable pub try_parse : {A B : Type 0} → Rule A → (A → Rule B) → Rule B → Rule B
try_parse r k back s w = or_else (r s w) (λ s1 w1 a. k a s1 w1) (λ s1 w1 f. back (rewind s s1) w1)

-- a state with the node records given back that were built since a mark; errors that were logged stay
abbrev pub unbuilt : State → State → State
unbuilt mark s = record { at = s.at; prev = s.prev; reads = s.reads; nodes = mark.nodes; errors = s.errors; wanted = s.wanted; live = s.live }

-- where a rule fails its error is logged, its node records are given back, and the other rule goes on from there
unfoldable pub recover : {A B : Type 0} → Rule A → (A → Rule B) → Rule B → Rule B
recover r k back s w = or_else (r s w) (λ s1 w1 a. k a s1 w1) (λ s1 w1 f. (log f >> back) (unbuilt s s1) w1)
