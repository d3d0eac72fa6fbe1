-- In a text that is UTF-8 the boundaries are the places where no tail stands, so both say the same of the tokens.
use Prim.Native.Nat.{ℕ, zero, suc, ◌≤◌, zero-le}
use native.Mathlib.Omega.{arith}
use mathlib.Core.Path.{◌≡◌, refl, sym}
use mathlib.Core.Bool.{Bool, true, false, cond, not, ◌&&◌, ◌||◌, false≢true}
use mathlib.Core.List.{List, [], ◌∷◌}
use lib.ListN.{length, drop, replicate}
use lib.Dec.{leb, ltb, eqb-suc-zero}
use borrow.Author.Tests.{leb-true, leb-false, ltb-false}
use Rattle.entry.specs.Utf8.{Form, tail, forms, holds, fits, first_fit, char_length, arrives, boundary, is_utf8, no_tail}
use Rattle.entry.specs.Check.{bad_range, token_fault, tokens_fault}
use Rattle.kinds.proofs.Logic.{both, neither}
use Rattle.entry.proofs.Forms.{holds-in, gap}

-- the bytes of a form after its first are tails
tails : Form → Bool
tails [] = true
tails (r ∷ f) = leb 0x80 r.low && leb r.high 0xBF && tails f

all-tails : List Form → Bool
all-tails [] = true
all-tails ([] ∷ fs) = false
all-tails ((r ∷ f) ∷ fs) = tails f && all-tails fs

fits-tails : (f : Form) (t : List ℕ) → tails f ≡ true → fits f t ≡ true → fits (replicate (length f) tail) t ≡ true
unfolding fits tails
fits-tails [] t a e = refl
fits-tails (r ∷ f) [] a e = e
fits-tails (r ∷ f) (b ∷ t) a e =
    let h = both (holds r b) (fits f t) e in
    let i = both (leb r.low b) (leb b r.high) h.0 in
    let j = both (leb 0x80 r.low && leb r.high 0xBF) (tails f) a in
    let k = both (leb 0x80 r.low) (leb r.high 0xBF) j.0 in
    let p = leb-true r.low b i.0 in
    let q = leb-true b r.high i.1 in
    let u = leb-true 0x80 r.low k.0 in
    let v = leb-true r.high 0xBF k.1 in
    rw (holds-in tail b (omega arith) (omega arith)) (fits-tails f t j.1 h.1)

-- after the first byte of a character come its tails
first-tails : (fs : List Form) (b : ℕ) (t : List ℕ) (n : ℕ) → all-tails fs ≡ true → first_fit fs (b ∷ t) ≡ suc n → fits (replicate n tail) t ≡ true
unfolding all-tails first_fit fits
first-tails [] b t n a e = absurd (omega arith)
first-tails ([] ∷ fs) b t n a e = absurd (false≢true a)
first-tails ((r ∷ f) ∷ fs) b t n a e = go (first-tails fs b t n h.1) (holds r b && fits f t) refl e
  where
    h : (tails f ≡ true) × (all-tails fs ≡ true)
    h = both (tails f) (all-tails fs) a

    go : (first_fit fs (b ∷ t) ≡ suc n → fits (replicate n tail) t ≡ true)
        → (x : Bool) → holds r b && fits f t ≡ x → cond x (suc (length f)) (first_fit fs (b ∷ t)) ≡ suc n → fits (replicate n tail) t ≡ true
    go later true s q = let z : n ≡ length f = omega arith in rw z (fits-tails f t h.0 (both (holds r b) (fits f t) s).1)
    go later false s q = later q

-- a tail starts no character
tail-starts-none : (b : ℕ) (t : List ℕ) → holds tail b ≡ true → char_length (b ∷ t) ≡ 0
tail-starts-none b t e =
    let h = both (leb 0x80 b) (leb b 0xBF) e in
    gap 0x80 0xBF b (leb-true _ _ h.0) (leb-true _ _ h.1) t forms refl

-- the same with `n` bytes of a character owed, all of them tails
places : (t : List ℕ) (n k : ℕ) → arrives n t (length t) ≡ true → fits (replicate n tail) t ≡ true → k ≤ length t → arrives n t k ≡ not (fits (tail ∷ []) (drop k t))
unfolding arrives fits all-tails tails
places [] n zero a f p = a
places [] n (suc k) a f p = absurd (omega arith)
places (b ∷ t) zero zero a f p = go (holds tail b) refl
  where
    go : (x : Bool) → holds tail b ≡ x → true ≡ not (x && true)
    go true e = absurd (false≢true (rw (tail-starts-none b t e, arrives) at a))
    go false e = refl
places (b ∷ t) zero (suc k) a f p = go (λ n. places t n k) (char_length (b ∷ t)) refl a
  where
    go : ((n : ℕ) → arrives n t (length t) ≡ true → fits (replicate n tail) t ≡ true → k ≤ length t → arrives n t k ≡ not (fits (tail ∷ []) (drop k t)))
        → (c : ℕ) → char_length (b ∷ t) ≡ c
        → (elim c as (λ _. Bool) [ zero ↦ false | suc n ↦ arrives n t (length t) ]) ≡ true
        → (elim c as (λ _. Bool) [ zero ↦ false | suc n ↦ arrives n t k ]) ≡ not (fits (tail ∷ []) (drop k t))
    go later zero e q = absurd (false≢true q)
    go later (suc n) e q = later n q (first-tails forms b t n refl e) (omega arith)
places (b ∷ t) (suc n) zero a f p = rw (eqb-suc-zero n, (both (holds tail b) (fits (replicate n tail) t) f).0)
places (b ∷ t) (suc n) (suc k) a f p = places t n k a (both (holds tail b) (fits (replicate n tail) t) f).1 (omega arith)

pub boundary-no-tail : (t : List ℕ) → is_utf8 t ≡ true → (k : ℕ) → k ≤ length t → boundary t k ≡ no_tail t k
unfolding no_tail fits
boundary-no-tail t e k p = places t 0 k e refl p

-- no tail stands at its start
pub first-place : (t : List ℕ) → is_utf8 t ≡ true → no_tail t 0 ≡ true
unfolding arrives
first-place t e = sym (boundary-no-tail t e 0 zero-le)

-- two ways to tell the places of a text say the same of its tokens, where they agree within the text
module _ (text : List ℕ) (at by : ℕ → Bool) (same : (k : ℕ) → k ≤ length text → at k ≡ by k) where
  range_same : (last start end : ℕ) → bad_range at (length text) last start end ≡ bad_range by (length text) last start end
  unfolding bad_range
  range_same last start end = go (leb end start || ltb (length text) end) refl
    where
      go : (x : Bool) → (leb end start || ltb (length text) end) ≡ x
          → (x || ltb start last || not (at start) || not (at end)) ≡ (x || ltb start last || not (by start) || not (by end))
      go true e = refl
      go false e =
          let h = neither (leb end start) (ltb (length text) end) e in
          let p = leb-false end start h.0 in
          let q = ltb-false (length text) end h.1 in
          rw (same start (omega arith), same end q)

  pub tokens-same : (last : ℕ) (ws : List ℕ) → tokens_fault at text last ws ≡ tokens_fault by text last ws
  unfolding tokens_fault token_fault
  tokens-same last [] = refl
  tokens-same last (k ∷ []) = refl
  tokens-same last (k ∷ s ∷ []) = refl
  tokens-same last (k ∷ s ∷ e ∷ ws) = rw (range_same last s e, tokens-same e ws)
