-- Every record of a sheet that follows the grammar says truly which children it has, where the tokens are fewer than 2^15.
use Rattle.std.specs.Prelude.{Ok}
use Prim.Native.Nat.{ℕ, ◌*◌, ◌/◌, ◌^◌, ◌<◌, ◌≤◌}
use native.Mathlib.Omega.{arith}
use borrow.Author.Tests.{ltb-true}
use mathlib.Core.Path.{◌≡◌, refl}
use mathlib.Core.List.{List, [], ◌∷◌}
use mathlib.Core.Bool.{Bool, true, false}
use lib.ListN.{length}
use Rattle.kinds.specs.Kinds.{is_trivia}
use Rattle.entry.specs.Check.{max_tokens, entry_of}
use Rattle.entry.proofs.Sound.{fit-sheet}
use Rattle.grammar.specs.Places.{Token, tokens_of, significant, before}
use Rattle.grammar.specs.Builders.{blank}
use Rattle.grammar.specs.Follows.{Follows, tree_of}
use Rattle.lengths.specs.Sorts as sort
use Rattle.lengths.specs.Children.{one, find, row_of}
use Rattle.lengths.specs.Told.{Told, Counted}
use Rattle.lengths.proofs.Rows.{none_yet, told-counted}
use Rattle.lengths.proofs.Room.{Room, short}
use Rattle.lengths.proofs.Nodes.{rowed}
use Rattle.lengths.proofs.Tells.{tells}

-- the tokens that are no trivia are at most those that the words spell, three words each
spelt : (ws : List ℕ) → 3 * length (tokens_of ws) ≤ length ws
unfolding tokens_of
spelt [] = omega arith
spelt (k ∷ []) = omega arith
spelt (k ∷ a ∷ []) = omega arith
spelt (k ∷ a ∷ b ∷ ws) = let i = spelt ws in omega (arith, i)

seen : (ts : List Token) → length (significant ts) ≤ length ts
unfolding significant
seen [] = omega arith
seen (t ∷ ts) = go (is_trivia t.kind) (seen ts)
  where
    go : (b : Bool) → length (significant ts) ≤ length ts → length {A = Token} (elim b as (λ _. List Token) [ true ↦ significant ts | false ↦ t ∷ significant ts ]) ≤ length (t ∷ ts)
    go true h = omega (arith, h)
    go false h = omega (arith, h)

module _ {text tokens : List ℕ} (f : Follows text tokens) where
  -- for any bound on the tokens that is below 2^15
  module _ (bound : ℕ) (small : bound < 2 ^ 15) (few : length tokens / 3 ≤ bound) where
    room : Room 0 (before tokens)
    unfolding before
    room = record { fits = let a = spelt tokens in let b = seen (tokens_of tokens) in omega (arith, a, b, small, few) }

    pub told : Told (one sort.Program ∷ []) (tree_of f)
    unfolding tree_of row_of find
    told = rowed sort.program (short f.body tt 0 blank room) refl (tells f.body tt room 0 blank none_yet)

    pub told-children : Counted (tree_of f)
    told-children = told-counted told

  -- past the entry check, which lets 4,096 tokens through
  module _ (fit : entry_of text tokens ≡ Ok tt) where
    pub fit-told : Told (one sort.Program ∷ []) (tree_of f)
    fit-told = told max_tokens (ltb-true _ _ refl) (fit-sheet text tokens fit).few

    pub fit-children : Counted (tree_of f)
    fit-children = told-counted fit-told

  -- at the limit of a later request
  module _ (few : length tokens / 3 ≤ 16384) where
    pub told-16384 : Told (one sort.Program ∷ []) (tree_of f)
    told-16384 = told 16384 (ltb-true _ _ refl) few

    pub children-16384 : Counted (tree_of f)
    children-16384 = told-counted told-16384
