-- What does not change while a sheet is read: its text, its tokens and the caller's limits; and what the tokens say.
use Rattle.std.specs.Prelude.{ℕ, ◌+◌, ◌*◌, ◌/◌, true, false, List, length, nat_lt, slice_index, slice_index_or, Option, Some, None}
use Rattle.kinds.specs.Number as kind
use Rattle.cursor.specs.declared.Limits.{Limits}
use Rattle.cursor.specs.declared.Span.{Span}

-- a range, if there is one
abbrev pub Ranged : Type 0
Ranged = Option Span

pub record Sheet : Type 0 where
  pub text : List ℕ
  pub tokens : List ℕ
  pub limits : Limits

abbrev pub sheet : List ℕ → List ℕ → Limits → Sheet
sheet text tokens limits = record { text = text; tokens = tokens; limits = limits }

-- how many tokens there are: the whole ones, of three words each
unfoldable pub count : List ℕ → ℕ
count tokens = length tokens / 3

-- the kind of the token at a place; Eof past the end
unfoldable pub kind_at : List ℕ → ℕ → ℕ
kind_at tokens i = elim (nat_lt i (count tokens)) as (λ _. ℕ) [ true ↦ slice_index_or tokens (i * 3) 0 | false ↦ kind.Eof ]

-- the range of the token at a place; none past the end
unfoldable pub range_at : List ℕ → ℕ → Ranged
range_at tokens i = elim (nat_lt i (count tokens)) as (λ _. Ranged) [
  | true ↦ Some (record { start = slice_index tokens (i * 3 + 1); end = slice_index tokens (i * 3 + 2) })
  | false ↦ None
]
