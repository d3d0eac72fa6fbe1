-- Tests of what stands here, and the live list of the kinds that were expected.
use Rattle.std.specs.Prelude.{unwrap_or, ℕ, ◌+◌, Bool, true, false, not, ◌&&◌, ◌||◌, List, [], ◌∷◌, length, ◌==◌, nat_le, nat_lt, None}
use Rattle.cursor.specs.declared.State.{State}
use Rattle.cursor.specs.declared.Fault.{Fault}
use Rattle.cursor.specs.declared.Span.{Span}
use Rattle.cursor.specs.Sheet.{Sheet, kind_at, range_at, Ranged}
use Rattle.cursor.specs.Layout.{UNEXPECTED}
use Rattle.cursor.specs.Rule.{fault, refused, Out, done, failed, Rule, ◌>>=◌, ◌>>◌, give, if_so}
use Rattle.cursor.specs.Buffer.{put}
use Rattle.cursor.specs.Tokens.{bump}

-- the longest live list
abbrev pub live_room : ℕ
live_room = 1024

-- whether the live list has room for so many kinds more, behind those told
unfoldable pub room_for : ℕ → ℕ → Bool
room_for told more = nat_le (told + more) live_room

-- whether it is full, where it is not known to have room
unfoldable pub full_at : Bool → ℕ → Bool
full_at true told = false
full_at false told = nat_le live_room told

-- is a kind one of these?
abbrev pub is_in : ℕ → List ℕ → Bool
is_in k [] = false
is_in k (a ∷ ks) = k == a || is_in k ks

-- whether none of these kinds was found, and the live list has room for all of them
unfoldable pub misses : ℕ → ℕ → List ℕ → Bool
misses found told ks = not (is_in found ks) && room_for told (length ks)

-- one more expected kind, repeats kept; 11 where the live list would pass its room
unfoldable pub want : ℕ → Rule Unit
want k s w = elim (nat_lt s.live live_room) as (λ _. Out Unit) [
  | true ↦ done (record { at = s.at; prev = s.prev; reads = s.reads; nodes = s.nodes; errors = s.errors; wanted = s.wanted; live = s.live + 1 })
      (record { nodes = w.nodes; errors = w.errors; expected = w.expected; live = put w.live s.live k }) tt
  | false ↦ failed (refused 11)
]

-- is the current token of this kind? Where not, the kind was expected
unfoldable pub check : Sheet → ℕ → Rule Bool
check e k s w = elim (kind_at e.tokens s.at == k) as (λ _. Out Bool) [
  | true ↦ done s w true
  | false ↦ (do
    want k
    give false) s w
]

-- takes a token of this kind if it stands here
unfoldable pub eat : Sheet → ℕ → Rule Bool
eat e k = do
  here ← check e k
  if_so (do
    bump e
    give true)
      (give false) here

-- the range of the current token, or the empty one at the end of the last token read
abbrev pub found_at : Ranged → ℕ → Span
found_at r prev = unwrap_or r (record { start = prev; end = prev })

-- the error of an unexpected token: the live list is what was expected
unfoldable pub unexpected_at : Sheet → State → Fault
unexpected_at e s = record { class = UNEXPECTED; found = kind_at e.tokens s.at; span = found_at (range_at e.tokens s.at) s.prev; listed = true }

unfoldable pub unexpected : {A : Type 0} → Sheet → Rule A
unexpected e s w = failed (fault s w (unexpected_at e s))

-- a token of this kind has to stand here, and is taken
unfoldable pub expect : Sheet → ℕ → Rule Unit
expect e k = do
  here ← eat e k
  if_so (give tt) (unexpected e) here

-- takes a token of this kind if it stands here, and answers its range
unfoldable pub eat_range : Sheet → ℕ → Rule Ranged
eat_range e k s w = (do
  here ← check e k
  if_so (do
    bump e
    give (range_at e.tokens s.at))
      (give None) here) s w

-- one way of a chain of checks: the kind that has to stand here, and the rule for it
infix 68 ◌⇒◌
pub data Case (A : Type 0) : Type 0 where
  ◌⇒◌ : ℕ → Rule A → Case A

-- a chain of checks, the Rust's `if self.check(A) { .. } else if self.check(B) { .. } else { .. }`: the rule of the first kind that stands here, and where
-- none does the other one
unfoldable pub choose : {A : Type 0} → Sheet → List (Case A) → Rule A → Rule A
choose e [] other = other
choose e ((k ⇒ r) ∷ cases) other = do
  here ← check e k
  if_so r (choose e cases other) here

-- what the code's `pick` answers, which goes through such a chain at once: the place of the first kind that stands here, from i on; where none does, the chain's
-- length. No rule goes by it; that a rule by kinds and the code's way by places are the same is `chosen` (proofs/Chosen.antt)
unfoldable pub pick_from : Sheet → List ℕ → ℕ → Rule ℕ
pick_from e [] i = give i
pick_from e (k ∷ ks) i = do
  here ← check e k
  if_so (give i) (pick_from e ks (i + 1)) here

abbrev pub pick : Sheet → List ℕ → Rule ℕ
pick e ks = pick_from e ks 0
