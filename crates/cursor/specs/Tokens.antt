-- Where the reading stands in the token list.
use Rattle.std.specs.Prelude.{ℕ, zero, suc, ◌+◌, ◌-◌, min, true, false, List, ◌==◌, nat_lt, Some, None}
use Rattle.kinds.specs.Number as kind
use Rattle.kinds.specs.Kinds.{is_trivia}
use Rattle.cursor.specs.declared.State.{State}
use Rattle.cursor.specs.declared.Span.{Span}
use Rattle.cursor.specs.Sheet.{Sheet, count, kind_at, range_at, Ranged}
use Rattle.cursor.specs.Rule.{refused, Out, done, failed, Rule, ◌>>◌, give, Next, more, stop, Turn, iterate}

-- the first place from i on whose token is no trivia, among at most so many
unfoldable pub past_from : List ℕ → ℕ → ℕ → ℕ
past_from tokens zero i = i
past_from tokens (suc k) i = elim (is_trivia (kind_at tokens i)) as (λ _. ℕ) [ true ↦ past_from tokens k (i + 1) | false ↦ i ]

-- the first place from i on whose token is no trivia
unfoldable pub past_trivia : List ℕ → ℕ → ℕ
past_trivia tokens i = past_from tokens (count tokens - i) i

-- where a range starts and ends; 0 where there is none
abbrev pub start_of : Ranged → ℕ
start_of (Some r) = r.start
start_of None = 0

abbrev pub end_of : Ranged → ℕ
end_of (Some r) = r.end
end_of None = 0

-- past the trivia here
unfoldable pub eat_trivia : Sheet → Rule Unit
eat_trivia e s w = done (record { at = past_trivia e.tokens s.at; prev = s.prev; reads = s.reads; nodes = s.nodes; errors = s.errors; wanted = s.wanted; live = s.live }) w tt

-- over the token here and the trivia behind it: one reading, and the live list is empty. At the end it is emptied and nothing else
unfoldable pub bump : Sheet → Rule Unit
bump e s w = elim (nat_lt s.at (count e.tokens)) as (λ _. Out Unit) [
  | true ↦ elim (nat_lt s.reads e.limits.allowance) as (λ _. Out Unit) [
    | true ↦ done (record { at = past_trivia e.tokens (s.at + 1); prev = end_of (range_at e.tokens s.at); reads = s.reads + 1; nodes = s.nodes; errors = s.errors; wanted = s.wanted; live = 0 }) w tt
    | false ↦ failed (refused 10)
  ]
  | false ↦ done (record { at = s.at; prev = s.prev; reads = s.reads; nodes = s.nodes; errors = s.errors; wanted = s.wanted; live = 0 }) w tt
]

-- takes an Eol, if one stands here; it is not an expected kind where none does
unfoldable pub eol_turn : Sheet → Turn Unit
eol_turn e a s w = elim (kind_at e.tokens s.at == kind.Eol) as (λ _. Out (Next Unit)) [
  | true ↦ (do
    bump e
    give (more tt)) s w
  | false ↦ done s w (stop tt)
]

-- past all Eols here, and the trivia before and between them
unfoldable pub eat_eol : Sheet → Rule Unit
eat_eol e = do
  eat_trivia e
  iterate e (eol_turn e) tt

-- from a start to the end of the last token read
abbrev pub end_range : State → ℕ → Span
end_range s start = record { start = start; end = s.prev }

-- back to a mark: the place, the end before it and all that was built or logged since; the live list is cut to its old length where it
-- is longer, so that what was put there since can survive; the readings stay
unfoldable pub rewind : State → State → State
rewind mark s = record { at = mark.at; prev = mark.prev; reads = s.reads; nodes = mark.nodes; errors = mark.errors; wanted = mark.wanted; live = min mark.live s.live }
