-- What becomes of a buffer that a listing is written into.
use Rattle.std.specs.Prelude.{ℕ, List, ◌++◌, Option, Some, None, true, false, leb, length, drop}

-- so many bytes at its start and the buffer with them; or it is too short, and what it holds
pub data Outcome : Type 0 where
  wrote : ℕ → List ℕ → Outcome
  short : List ℕ → Outcome

abbrev pub as_listed : Option ℕ → List ℕ → Outcome
as_listed (Some n) out = wrote n out
as_listed None out = short out

-- the bytes stand at the buffer's start and all behind them is as it was; a buffer too short is left as it was
unfoldable pub written : List ℕ → List ℕ → Outcome
written b out = elim (leb (length b) (length out)) as (λ _. Outcome) [
  | true ↦ wrote (length b) (b ++ drop (length b) out)
  | false ↦ short out
]
