-- Where the rules stand in the list of words, as a place of the grammar: what they see there is what the grammar sees, and `bump` goes to the
-- place after it.
use Prim.Native.Nat.{ℕ, zero, suc, ◌+◌, ◌-◌, ◌*◌, ◌/◌, ◌<◌, ◌≤◌}
use mathlib.Core.Path.{◌≡◌, refl, sym, ap, ◌∙◌}
use mathlib.Core.List.{List, [], ◌∷◌}
use mathlib.Core.Bool.{Bool, true, false, true≢false}
use native.Mathlib.Omega.{arith}
use native.Mathlib.Numerals.{add-one}
use lib.ListN.{length, get_or, drop}
use lib.Dec.{ltb}
use borrow.Author.Tests.{ltb-true, ltb-false, lt-ltb, le-ltb}
use Rattle.kinds.specs.Number as kind
use Rattle.kinds.specs.Kinds.{is_trivia}
use Rattle.cursor.specs.declared.State.{State}
use Rattle.cursor.specs.Sheet.{count, kind_at, range_at}
use Rattle.cursor.specs.Tokens.{past_from, past_trivia, start_of, end_of}
use Rattle.grammar.specs.Places.{Token, tokens_of, significant, Place, kind_in, span_in, kind_of, span_of, after}

-- the token that three words spell
abbrev pub token_at : List ℕ → ℕ → Token
token_at ws i = record { kind = get_or ws (i * 3) 0; start = get_or ws (i * 3 + 1) 0; end = get_or ws (i * 3 + 2) 0 }

three : (i n : ℕ) → suc i < suc (suc (suc n)) / 3 → i < n / 3
three i n h = omega arith

shift : (k a b : ℕ) (ws : List ℕ) (i : ℕ) → token_at (k ∷ a ∷ b ∷ ws) (suc i) ≡ token_at ws i
shift k a b ws i = rw (one, two, zeroth) refl
  where
    zeroth : suc i * 3 ≡ suc (suc (suc (i * 3)))
    zeroth = omega arith

    one : suc i * 3 + 1 ≡ suc (suc (suc (i * 3 + 1)))
    one = omega arith

    two : suc i * 3 + 2 ≡ suc (suc (suc (i * 3 + 2)))
    two = omega arith

pub token-at : (ws : List ℕ) (i : ℕ) → i < length ws / 3 → drop i (tokens_of ws) ≡ token_at ws i ∷ drop (suc i) (tokens_of ws)
unfolding tokens_of
token-at [] i h = absurd (omega arith)
token-at (k ∷ []) i h = absurd (omega arith)
token-at (k ∷ a ∷ []) i h = absurd (omega arith)
token-at (k ∷ a ∷ b ∷ ws) zero h = refl
token-at (k ∷ a ∷ b ∷ ws) (suc i) h = rw (shift k a b ws i) (token-at ws i (three i (length ws) h))

pub token-past : (ws : List ℕ) (i : ℕ) → length ws / 3 ≤ i → drop i (tokens_of ws) ≡ []
unfolding tokens_of
token-past [] zero h = refl
token-past [] (suc i) h = refl
token-past (k ∷ []) zero h = refl
token-past (k ∷ []) (suc i) h = refl
token-past (k ∷ a ∷ []) zero h = refl
token-past (k ∷ a ∷ []) (suc i) h = refl
token-past (k ∷ a ∷ b ∷ ws) zero h = absurd (omega arith)
token-past (k ∷ a ∷ b ∷ ws) (suc i) h = token-past ws i (omega arith)

module _ (ws : List ℕ) where
  -- the tokens that are no trivia from place i on
  abbrev pub view : ℕ → List Token
  view i = significant (drop i (tokens_of ws))

  pub in-range : (i : ℕ) → i < length ws / 3 → kind_at ws i ≡ get_or ws (i * 3) 0
  unfolding kind_at count
  in-range i h = rw (lt-ltb _ _ h, kind_at) refl

  out_of_range : (i : ℕ) → length ws / 3 ≤ i → kind_at ws i ≡ kind.Eof
  unfolding kind_at count
  out_of_range i h = rw (le-ltb _ _ h, kind_at) refl

  pub view-trivia : (i : ℕ) → i < length ws / 3 → is_trivia (kind_at ws i) ≡ true → view i ≡ view (suc i)
  unfolding significant
  view-trivia i h e = rw (token-at ws i h, significant) (rw (ap is_trivia (sym (in-range i h)) ∙ e, significant) refl)

  pub view-token : (i : ℕ) → i < length ws / 3 → is_trivia (kind_at ws i) ≡ false → view i ≡ token_at ws i ∷ view (suc i)
  unfolding significant
  view-token i h e = rw (token-at ws i h, significant) (rw (ap is_trivia (sym (in-range i h)) ∙ e, significant) refl)

  pub view-past : (i : ℕ) → length ws / 3 ≤ i → view i ≡ []
  unfolding significant
  view-past i h = rw (token-past ws i h) refl

  -- what is trivia is no end of input
  trivia-in : (i : ℕ) → is_trivia (kind_at ws i) ≡ true → i < length ws / 3
  unfolding is_trivia
  trivia-in i e = go (ltb i (length ws / 3)) refl
    where
      go : (b : Bool) → ltb i (length ws / 3) ≡ b → i < length ws / 3
      go true q = ltb-true _ _ q
      go false q = absurd (true≢false (sym e ∙ ap is_trivia (out_of_range i (ltb-false _ _ q))))

  past-from : (n i : ℕ) → view (past_from ws n i) ≡ view i
  unfolding past_from
  past-from zero i = refl
  past-from (suc n) i = go (is_trivia (kind_at ws i)) refl (past-from n (i + 1))
    where
      go : (b : Bool) → is_trivia (kind_at ws i) ≡ b → view (past_from ws n (i + 1)) ≡ view (i + 1) → view (past_from ws (suc n) i) ≡ view i
      go true e f = rw (e, past_from) (f ∙ ap view (add-one i) ∙ sym (view-trivia i (trivia-in i e) e))
      go false e f = rw (e, past_from) refl

  -- past trivia the same tokens stand
  pub view-settle : (i : ℕ) → view (past_trivia ws i) ≡ view i
  unfolding past_trivia
  view-settle i = past-from _ i

  calm-from : (n i : ℕ) → length ws / 3 ≤ i + n → is_trivia (kind_at ws (past_from ws n i)) ≡ false
  unfolding past_from is_trivia
  calm-from zero i h = ap is_trivia (out_of_range i (omega arith))
  calm-from (suc n) i h = go (is_trivia (kind_at ws i)) refl (calm-from n (i + 1) (omega arith))
    where
      go : (b : Bool) → is_trivia (kind_at ws i) ≡ b → is_trivia (kind_at ws (past_from ws n (i + 1))) ≡ false → is_trivia (kind_at ws (past_from ws (suc n) i)) ≡ false
      go true e f = rw (e, past_from) f
      go false e f = rw (e, past_from) e

  -- past trivia none stands
  pub calm-settle : (i : ℕ) → is_trivia (kind_at ws (past_trivia ws i)) ≡ false
  unfolding past_trivia count
  calm-settle i = calm-from (length ws / 3 - i) i (omega arith)

  -- where the rules stand, as a place
  abbrev pub place_at : State → Place
  place_at s = record { prev = s.prev; rest = view s.at }

  -- the rules stand at no trivia
  pub record Settled (s : State) : Type 0 where
    pub settled : is_trivia (kind_at ws s.at) ≡ false

  module _ (s : State) (calm : Settled s) where
    pub kind-place : kind_of (place_at s) ≡ kind_at ws s.at
    unfolding kind_of
    kind-place = go (ltb s.at (length ws / 3)) refl
      where
        go : (b : Bool) → ltb s.at (length ws / 3) ≡ b → kind_of (place_at s) ≡ kind_at ws s.at
        go true q = ap kind_in (view-token _ (ltb-true _ _ q) calm.settled) ∙ sym (in-range _ (ltb-true _ _ q))
        go false q = ap kind_in (view-past _ (ltb-false _ _ q)) ∙ sym (out_of_range _ (ltb-false _ _ q))

    -- `bump` leads to the place after this one
    pub after-place : s.at < length ws / 3 → after (place_at s) ≡ record { prev = end_of (range_at ws s.at); rest = view (past_trivia ws (s.at + 1)) }
    unfolding after range_at count
    after-place h = rw (lt-ltb _ _ h, range_at) (rw (view-token _ h calm.settled) (rw (view-settle (s.at + 1), add-one s.at) refl))

    -- a value that begins here starts where the rules say
    pub start-place : (span_of (place_at s)).start ≡ start_of (range_at ws s.at)
    unfolding span_of range_at count
    start-place = go (ltb s.at (length ws / 3)) refl
      where
        go : (b : Bool) → ltb s.at (length ws / 3) ≡ b → (span_of (place_at s)).start ≡ start_of (range_at ws s.at)
        go true q = rw (q, range_at) (ap (λ x. (span_in x).start) (view-token _ (ltb-true _ _ q) calm.settled))
        go false q = rw (q, range_at) (ap (λ x. (span_in x).start) (view-past _ (ltb-false _ _ q)))
