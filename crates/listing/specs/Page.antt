-- Bytes written one after the other: what the buffer holds, and where the next one goes.
use Rattle.std.specs.Prelude.{ℕ, ◌+◌, List, [], ◌∷◌, true, false, ltb}
use Rattle.cursor.specs.Buffer.{put}
use Rattle.listing.specs.declared.page.Page.{Page}

-- one byte: below the room it goes to its place, where the buffer has one, and the next one goes behind it
unfoldable pub emit : ℕ → Page → Page
emit b p = elim (ltb p.at p.room) as (λ _. Page) [
  | true ↦ record p { out = record p.out { now = put p.out.now p.at b }; at = p.at + 1 }
  | false ↦ p
]

unfoldable pub emits : List ℕ → Page → Page
emits [] p = p
emits (b ∷ bs) p = emits bs (emit b p)
