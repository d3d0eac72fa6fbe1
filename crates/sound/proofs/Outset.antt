-- Where the reading of a sheet begins: before its first token, past the trivia that it opens with.
use mathlib.Core.Path.{◌≡◌, refl}
use mathlib.Core.List.{List, [], ◌∷◌}
use mathlib.Core.Bool.{false}
use Prim.Native.Nat.{ℕ, zero, suc, ◌-◌, ◌/◌}
use native.Mathlib.Omega.{arith}
use lib.ListN.{length}
use borrow.Author.Tests.{lt-ltb}
use Rattle.kinds.specs.Number as kind
use Rattle.kinds.specs.Kinds.{is_trivia}
use Rattle.cursor.specs.declared.State.{State}
use Rattle.cursor.specs.Sheet.{Sheet, count, kind_at, range_at}
use Rattle.cursor.specs.Rule.{World, bind, ◌>>=◌}
use Rattle.cursor.specs.Tokens.{past_from, past_trivia, start_of, eat_trivia, eat_eol}
use Rattle.types.specs.Items.{start}
use Rattle.rules.specs.Exprs.{exprs}
use Rattle.rules.specs.Levels.{knot, levels, program_record, program}
use Rattle.grammar.specs.Places.{tokens_of, before, opening}
use Rattle.sound.proofs.Links.{view-settle, calm-settle, place_at}

-- where a reading begins: before the first token, with nothing read, built or logged
abbrev pub outset : State
outset = record { at = 0; prev = 0; reads = 0; nodes = 0; errors = 0; wanted = 0; live = 0 }

-- at no trivia there is none to pass
calm-past : (ws : List ℕ) (i : ℕ) → is_trivia (kind_at ws i) ≡ false → past_trivia ws i ≡ i
unfolding past_trivia past_from
calm-past ws i h = go (count ws - i)
  where
    go : (n : ℕ) → past_from ws n i ≡ i
    go zero = refl
    go (suc n) = rw (h, past_from) refl

-- a sheet starts where its first token does
opening-is : (ws : List ℕ) → start_of (range_at ws 0) ≡ opening ws
unfolding opening tokens_of range_at count
opening-is [] = refl
opening-is (k ∷ []) = refl
opening-is (k ∷ a ∷ []) = refl
opening-is (k ∷ a ∷ b ∷ ws) = rw (lt-ltb 0 (length (k ∷ a ∷ b ∷ ws) / 3) (omega arith), range_at) refl

module _ (e : Sheet) where
  -- past the trivia that a sheet opens with
  abbrev pub settled_at : State → State
  settled_at s = record { at = past_trivia e.tokens s.at; prev = s.prev; reads = s.reads; nodes = s.nodes; errors = s.errors; wanted = s.wanted; live = s.live }

  -- statements begin with passing trivia, so it is no matter that some were passed before
  body-settles : (d end : ℕ) (s : State) (w : World) → exprs (levels e d) end s w ≡ exprs (levels e d) end (settled_at s) w
  unfolding exprs eat_eol eat_trivia
  body-settles d end s w = rw (calm-past e.tokens (past_trivia e.tokens s.at) (calm-settle e.tokens s.at)) refl

  settles : (d end : ℕ) (s : State) (w : World) → (levels e d).exprs end s w ≡ (levels e d).exprs end (settled_at s) w
  unfolding knot
  settles zero end s w = refl
  settles (suc d) end s w = body-settles d end s w

  pub program-is : (d : ℕ) (w : World) → program (levels e d) outset w ≡ ((levels e d).exprs kind.Eof >>= (λ row. program_record (opening e.tokens) row)) (settled_at outset) w
  unfolding program start
  program-is d w = (λ i. bind (settles d kind.Eof outset w i) (λ s1 w1 row. program_record (opening-is e.tokens i) row s1 w1))

  pub first-place : place_at e.tokens (settled_at outset) ≡ before e.tokens
  unfolding before
  first-place = λ i. record { prev = 0; rest = view-settle e.tokens 0 i }
