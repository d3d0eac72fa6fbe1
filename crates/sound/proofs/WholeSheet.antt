-- Where no token is an Eof, what ends with the end of input leaves no token.
use Prim.Native.Nat.{ℕ, zero, suc, ◌+◌, ◌/◌, ◌<◌, ◌≤◌}
use mathlib.Core.Path.{◌≡◌, refl, sym, ap, ◌∙◌}
use mathlib.Core.List.{List, [], ◌∷◌}
use mathlib.Core.Bool.{Bool, true, false}
use native.Mathlib.Omega.{arith}
use native.Mathlib.Decide.{dec_lt}
use lib.ListN.{length, drop}
use Rattle.kinds.specs.Number as kind
use Rattle.kinds.specs.Kinds.{is_trivia}
use Rattle.cursor.specs.Sheet.{count, kind_at}
use Rattle.grammar.specs.Places.{Token, tokens_of, significant, Place, kind_in, past, kind_of, after, Tok, before}
use Rattle.grammar.specs.Symbols.{Exprs, Stmts}
use Rattle.grammar.specs.Derives.{Derives, exprs-of, no-stmt, last-stmt, a-line}
use Rattle.sound.proofs.Links.{token-at, token-past, in-range}
use Rattle.sound.proofs.Ahead.{Ahead, ◌▹◌, stays, over, ahead}

-- no token is an Eof
data Endless : List Token → Type 0 where
  endless-none : Endless []
  endless-more : {t : Token} {ts : List Token} → (t.kind ≡ kind.Eof → ⊥) → Endless ts → Endless (t ∷ ts)

endless-drop : (n : ℕ) {ts : List Token} → Endless ts → Endless (drop n ts)
endless-drop zero h = h
endless-drop (suc n) endless-none = endless-none
endless-drop (suc n) (endless-more h r) = endless-drop n r

endless-seen : {ts : List Token} → Endless ts → Endless (significant ts)
unfolding significant
endless-seen endless-none = endless-none
endless-seen (endless-more {t = t} {ts = ts} h r) = go (is_trivia t.kind) (endless-seen r)
  where
    go : (b : Bool) → Endless (significant ts) → Endless (elim b as (λ _. List Token) [ true ↦ significant ts | false ↦ t ∷ significant ts ])
    go true x = x
    go false x = endless-more h x

-- the same by the words, as the rules look at them
module _ (ws : List ℕ) (none_is : (i : ℕ) → i < count ws → kind_at ws i ≡ kind.Eof → ⊥) where
  endless-from : (n i : ℕ) → length ws / 3 ≤ i + n → Endless (drop i (tokens_of ws))
  unfolding count
  endless-from zero i h = rw (token-past ws i (omega (arith, h))) endless-none
  endless-from (suc n) i h = go (dec_lt i (length ws / 3)) (endless-from n (suc i) (omega (arith, h)))
    where
      go : Dec (i < length ws / 3) → Endless (drop (suc i) (tokens_of ws)) → Endless (drop i (tokens_of ws))
      go (yes l) r = rw (token-at ws i l) (endless-more (λ q. none_is i l (in-range ws i l ∙ q)) r)
      go (no l) r = rw (token-past ws i (omega (arith, l))) endless-none

  tokens-endless : Endless (tokens_of ws)
  tokens-endless = endless-from (length ws / 3) 0 (omega arith)

-- statements end with a token of the kind that ends them
record Closing (end : ℕ) (p q : Place) : Type 0 where
  last : Place
  comes : Ahead p last
  takes : Tok end last q

closing : {text : List ℕ} {end : ℕ} {p q : Place} → Derives text (Stmts end) p q → Closing end p q
closing {p = p} (no-stmt t) = record { last = p; comes = stays; takes = t }
closing (last-stmt {q = q} d t) = record { last = q; comes = ahead d; takes = t }
closing (a-line d a b e) = let r = closing e in record { last = r.last; comes = ahead d ▹ over a ▹ ahead b ▹ r.comes; takes = r.takes }

body-closing : {text : List ℕ} {end : ℕ} {p q : Place} → Derives text (Exprs end) p q → Closing end p q
body-closing (exprs-of a d) = let r = closing d in record { last = r.last; comes = ahead a ▹ r.comes; takes = r.takes }

nothing_left : {p q : Place} → Endless p.rest → Tok kind.Eof p q → q.rest ≡ []
unfolding kind_of after
nothing_left {p} h t = ap (λ z. z.rest) (sym t.next) ∙ go p.prev h t.here
  where
    go : {ts : List Token} (n : ℕ) → Endless ts → kind_in ts ≡ kind.Eof → (past n ts).rest ≡ []
    go n endless-none k = refl
    go n (endless-more h r) k = absurd (h k)

pub whole-sheet : {text : List ℕ} {q : Place} (ws : List ℕ) → ((i : ℕ) → i < count ws → kind_at ws i ≡ kind.Eof → ⊥) → Derives text (Exprs kind.Eof) (before ws) q → q.rest ≡ []
unfolding before
whole-sheet ws none_is d =
    let r = body-closing d in
    nothing_left (rw r.comes.left (endless-drop r.comes.by (endless-seen (tokens-endless ws none_is)))) r.takes
