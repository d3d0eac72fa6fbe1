-- Left sides of an assignment are no more than the tokens, so where those are few a word keeps their count.
use Prim.Native.Nat.{ℕ, ◌*◌, ◌<◌, ◌≤◌}
use mathlib.Core.Path.{◌≡◌, sym}
use mathlib.Core.List.{List, [], ◌∷◌}
use mathlib.Core.Bool.{Bool, true, false}
use native.Mathlib.Omega.{arith}
use lib.ListN.{length, drop, length-drop}
use Rattle.kinds.specs.Number as kind
use Rattle.kinds.specs.Kinds.{is_trivia}
use Rattle.grammar.specs.Places.{Token, tokens_of, significant, Place, kind_in, kind_of, past, after, Tok}
use Rattle.grammar.specs.Symbols.{Lefts}
use Rattle.grammar.specs.Derives.{Derives, no-left, a-left}
use Rattle.sound.proofs.Links.{view}
use Rattle.sound.proofs.Ahead.{ahead, fewer}

-- a token that is no end of input is taken
pub taken : {k : ℕ} {p q : Place} → (k ≡ kind.Eof → ⊥) → Tok k p q → length q.rest < length p.rest
unfolding kind_of after
taken {k} {p} n t = rw (← t.next) (go p.prev p.rest t.here)
  where
    go : (m : ℕ) (ts : List Token) → kind_in ts ≡ k → length (past m ts).rest < length ts
    go m [] h = absurd (n (sym h))
    go m (t ∷ ts) h = omega arith

pub lefts-few : {text : List ℕ} {n : ℕ} {p q : Place} → Derives text (Lefts n) p q → n ≤ length p.rest
lefts-few (no-left h) = omega arith
lefts-few (a-left a d f e) =
    let i = taken (λ q. omega (arith, q)) a in
    let j = fewer (ahead d) in
    let k = lefts-few e in
    omega (arith, i, j, k)

-- the tokens that are seen are three words each
tokens-short : (ws : List ℕ) → 3 * length (tokens_of ws) ≤ length ws
unfolding tokens_of
tokens-short [] = omega arith
tokens-short (k ∷ []) = omega arith
tokens-short (k ∷ a ∷ []) = omega arith
tokens-short (k ∷ a ∷ b ∷ ws) = let i = tokens-short ws in omega (arith, i)

seen-short : (ts : List Token) → length (significant ts) ≤ length ts
unfolding significant
seen-short [] = omega arith
seen-short (t ∷ ts) = go (is_trivia t.kind) (seen-short ts)
  where
    go : (b : Bool) → length (significant ts) ≤ length ts → length {A = Token} (elim b as (λ _. List Token) [ true ↦ significant ts | false ↦ t ∷ significant ts ]) ≤ length (t ∷ ts)
    go true h = omega (arith, h)
    go false h = omega (arith, h)

pub view-short : (ws : List ℕ) (i : ℕ) → 3 * length (view ws i) ≤ length ws
view-short ws i =
    let a = seen-short (drop i (tokens_of ws)) in
    let b = length-drop i (tokens_of ws) in
    let c = tokens-short ws in
    omega (arith, a, b, c)
