-- Which tokens are words: what a token list loses of its words where one token is taken, and that trivia are none.
use Prim.Native.Nat.{ℕ, ◌<◌, ◌≤◌}
use native.Mathlib.Omega.{arith}
use mathlib.Core.Path.{◌≡◌, refl, sym, ap, ◌∙◌}
use mathlib.Core.List.{List, [], ◌∷◌, ◌++◌}
use mathlib.Core.Bool.{Bool, true, false, true≢false}
use lib.Dec.{eqb}
use borrow.Author.Tests.{eqb-true}
use Rattle.kinds.specs.Kinds.{is_trivia}
use Rattle.kinds.specs.Operators.{binary_of, level_of}
use Rattle.grammar.specs.Places.{Token, Place, kind_in, span_in, past, kind_of, span_of, start_of, after, Tok, significant}
use Rattle.grammar.specs.Derives.{Compound}
use Rattle.grammar.specs.Derives as by
use Rattle.grammar.specs.Words.{among, word_kinds, range, given, token_words}

-- so that the trees and words there are checked first

-- a kind that is no word
abbrev pub NoWord : ℕ → Type 0
NoWord k = among k word_kinds ≡ false

-- a function has this value at each of these
abbrev Each : {A : Type 0} → (ℕ → A) → A → List ℕ → Type 0
Each f a [] = Unit {0}
Each f a (j ∷ js) = (f j ≡ a) × Each f a js

-- where it has another value, that number is none of these
differs : {A : Type 0} (f : ℕ → A) (a : A) (k : ℕ) (ks : List ℕ) → Each f a ks → (f k ≡ a → ⊥) → among k ks ≡ false
unfolding among
differs f a k [] same other = refl
differs f a k (j ∷ js) same other = go (eqb k j) refl (differs f a k js same.1 other)
  where
    go : (b : Bool) → eqb k j ≡ b → among k js ≡ false → elim b as (λ _. Bool) [ true ↦ true | false ↦ among k js ] ≡ false
    go true q e = absurd (other (ap f (eqb-true k j q) ∙ same.0))
    go false q e = e

-- operators and trivia are no words, nor are the signs of compound assignments
pub operator-quiet : {n : ℕ} (k : ℕ) → 0 < n → n ≤ level_of k → NoWord k
unfolding level_of binary_of
operator-quiet k i l = differs level_of 0 k word_kinds (refl, (refl, (refl, (refl, (refl, (refl, (refl, (refl, (refl, tt))))))))) (λ q. omega (arith, i, l, q))

trivia-quiet : (k : ℕ) → is_trivia k ≡ true → NoWord k
unfolding is_trivia
trivia-quiet k t = differs is_trivia false k word_kinds (refl, (refl, (refl, (refl, (refl, (refl, (refl, (refl, (refl, tt))))))))) (λ q. true≢false (sym t ∙ q))

pub compound-quiet : {k op : ℕ} → Compound k op → NoWord k
unfolding among
compound-quiet by.adding = refl
compound-quiet by.subtracting = refl
compound-quiet by.multiplying = refl
compound-quiet by.dividing = refl
compound-quiet by.remaining = refl

-- past a token that is no word, and past one that is
quiet-in : (n : ℕ) (ts : List Token) → NoWord (kind_in ts) → token_words (past n ts).rest ≡ token_words ts
unfolding token_words
quiet-in n [] e = refl
quiet-in n (t ∷ ts) e = ap (λ b. given b (range t.start t.end) ++ token_words ts) (sym e)

word-in : (n : ℕ) (ts : List Token) → among (kind_in ts) word_kinds ≡ true → token_words ts ≡ range (span_in ts).start (past n ts).prev ∷ token_words (past n ts).rest
unfolding token_words among
word-in n [] e = absurd (true≢false (sym e))
word-in n (t ∷ ts) e = ap (λ b. given b (range t.start t.end) ++ token_words ts) e

pub quiet-token : {k : ℕ} {p q : Place} → NoWord k → Tok k p q → token_words q.rest ≡ token_words p.rest
unfolding kind_of after
quiet-token {p = p} e t = ap (λ z. token_words z.rest) (sym t.next) ∙ quiet-in p.prev p.rest (ap (λ j. among j word_kinds) t.here ∙ e)

pub word-token : (p q : Place) → among (kind_of p) word_kinds ≡ true → after p ≡ q → token_words p.rest ≡ range (start_of p) q.prev ∷ token_words q.rest
unfolding kind_of span_of after
word-token p q e f = word-in p.prev p.rest e ∙ ap (λ z. range (start_of p) z.prev ∷ token_words z.rest) f

-- the range of a word ends where the place behind it says
end-in : (n : ℕ) (ts : List Token) → among (kind_in ts) word_kinds ≡ true → (span_in ts).end ≡ (past n ts).prev
unfolding among
end-in n [] e = absurd (true≢false (sym e))
end-in n (t ∷ ts) e = refl

pub word_end : (p q : Place) → among (kind_of p) word_kinds ≡ true → after p ≡ q → (span_of p).end ≡ q.prev
unfolding kind_of span_of after
word_end p q e f = end-in p.prev p.rest e ∙ ap (λ z. z.prev) f

-- trivia are no words
pub significant-words : (ts : List Token) → token_words (significant ts) ≡ token_words ts
unfolding token_words significant
significant-words [] = refl
significant-words (t ∷ ts) = go (is_trivia t.kind) refl (significant-words ts)
  where
    go : (b : Bool) → is_trivia t.kind ≡ b → token_words (significant ts) ≡ token_words ts
        → token_words (elim b as (λ _. List Token) [ true ↦ significant ts | false ↦ t ∷ significant ts ]) ≡ given (among t.kind word_kinds) (range t.start t.end) ++ token_words ts
    go true q e = e ∙ ap (λ b. given b (range t.start t.end) ++ token_words ts) (sym (trivia-quiet t.kind q))
    go false q e = ap (λ l. given (among t.kind word_kinds) (range t.start t.end) ++ l) e
