-- What a form says of a place in a text, byte by byte: each way through `byte_in`, `follow` and `char_length`.
use Prim.Native.Nat.{ℕ, zero, suc, ◌+◌, ◌-◌, ◌<◌, ◌≤◌, zero-le}
use native.Mathlib.Omega.{arith}
use native.Mathlib.Numerals.{add-one, sub-one}
use mathlib.Core.Path.{◌≡◌, refl, sym, ap, ◌∙◌}
use mathlib.Core.Bool.{Bool, true, false, cond, not, ◌&&◌, false≢true, true≢false}
use mathlib.Core.List.{List, [], ◌∷◌}
use lib.ListN.{length, get_or, drop, replicate, drop_of_length-le}
use lib.Seq.{drop-cons, drop-drop}
use lib.Dec.{leb, ltb, lit<}
use borrow.Author.Tests.{ltb-true, ltb-false, le-leb, lt-leb}
use Rattle.entry.specs.Utf8.{Range, Form, tail, forms, holds, fits, first_fit, char_length, no_tail}
use Rattle.entry.proofs.Forms.{holds-in, holds-above, apart, parted, gap, only, nth}

module _ (r : Range) (f : Form) (t : List ℕ) (k : ℕ) where
  pub fits-past : length t ≤ k → fits (r ∷ f) (drop k t) ≡ false
  unfolding fits
  fits-past p = rw (drop_of_length-le t p)

  pub fits-within : fits (r ∷ f) (drop k t) ≡ true → k < length t
  fits-within e = go (ltb k (length t)) refl
    where
      go : (x : Bool) → ltb k (length t) ≡ x → k < length t
      go true h = ltb-true _ _ h
      go false h = absurd (true≢false (sym e ∙ fits-past (ltb-false _ _ h)))

  pub fits-here : k < length t → fits (r ∷ f) (drop k t) ≡ holds r (get_or t k 0) && fits f (drop (k + 1) t)
  unfolding fits
  fits-here p = rw (drop-cons t k 0 p, add-one)

module _ (r : Range) (t : List ℕ) (k : ℕ) (p : k < length t) where
  pub byte-here : fits (r ∷ []) (drop k t) ≡ leb r.low (get_or t k 0) && leb (get_or t k 0) r.high
  unfolding fits
  byte-here = fits-here r [] t k p ∙ and-true (leb r.low (get_or t k 0) && leb (get_or t k 0) r.high)
    where
      and-true : (x : Bool) → x && true ≡ x
      and-true true = refl
      and-true false = refl

  pub byte-below : get_or t k 0 < r.low → fits (r ∷ []) (drop k t) ≡ false
  byte-below q = byte-here ∙ rw (lt-leb _ _ q)

  -- and above it
  pub byte_above : r.high < get_or t k 0 → fits (r ∷ []) (drop k t) ≡ false
  byte_above q = fits-here r [] t k p ∙ rw (holds-above r _ q)

  pub byte-from : r.low ≤ get_or t k 0 → fits (r ∷ []) (drop k t) ≡ leb (get_or t k 0) r.high
  byte-from q = byte-here ∙ rw (le-leb _ _ q)

-- what the first byte alone says of a longer form
module _ (r : Range) (f : Form) where
  pub fits-first-not : (t : List ℕ) → fits (r ∷ []) t ≡ false → fits (r ∷ f) t ≡ false
  unfolding fits
  fits-first-not [] e = refl
  fits-first-not (b ∷ t) e = go (holds r b) e
    where
      go : (x : Bool) → x && true ≡ false → x && fits f t ≡ false
      go true h = absurd (true≢false h)
      go false h = refl

  fits-first : (t : List ℕ) → fits (r ∷ []) t ≡ true → fits (r ∷ f) t ≡ fits f (drop 1 t)
  unfolding fits
  fits-first [] e = absurd (false≢true e)
  fits-first (b ∷ t) e = go (holds r b) e
    where
      go : (x : Bool) → x && true ≡ true → x && fits f t ≡ fits f t
      go true h = refl
      go false h = absurd (false≢true h)

-- the first byte is as the form says: the rest of the form decides, one place on
pub follow-on : (r : Range) (f : Form) (t : List ℕ) (k : ℕ) → fits (r ∷ []) (drop k t) ≡ true → fits (r ∷ f) (drop k t) ≡ fits f (drop (k + 1) t)
follow-on r f t k e = fits-first r f (drop k t) e ∙ rw (drop-drop 1 k t)

-- the loop of `tails`, with `n` of them left
module _ (t : List ℕ) (k : ℕ) where
  pub tails-none : (n : ℕ) → n ≤ 0 → fits (replicate n tail) (drop k t) ≡ true
  unfolding fits
  tails-none zero z = refl
  tails-none (suc n) z = absurd (omega arith)

  pub tails-not : (n : ℕ) → 0 < n → fits (tail ∷ []) (drop k t) ≡ false → fits (replicate n tail) (drop k t) ≡ false
  tails-not zero z e = absurd (omega arith)
  tails-not (suc n) z e = fits-first-not tail (replicate n tail) (drop k t) e

  pub tails-more : (n : ℕ) → 0 < n → fits (tail ∷ []) (drop k t) ≡ true → fits (replicate n tail) (drop k t) ≡ fits (replicate (n - 1) tail) (drop (k + 1) t)
  tails-more zero z e = absurd (omega arith)
  tails-more (suc n) z e = follow-on tail (replicate n tail) t k e ∙ rw sub-one

-- too few bytes are left for a form
pub fits-short : (f : Form) (t : List ℕ) → length t < length f → fits f t ≡ false
unfolding fits
fits-short [] t h = absurd (omega arith)
fits-short (r ∷ f) [] h = refl
fits-short (r ∷ f) (b ∷ t) h = go (holds r b) (fits-short f t (omega arith))
  where
    go : (x : Bool) → fits f t ≡ false → x && fits f t ≡ false
    go true e = e
    go false e = refl

-- the character that starts with `b`: by row `i` of the syntax, counted from 0, where `b` is in its first range, and none where `b` is in no row's
module _ (b : ℕ) (t : List ℕ) where
  pub char-row : (i : ℕ) {r : Range} {f : Form} → get_or forms i [] ≡ r ∷ f → i < length forms → r.low ≤ b → b ≤ r.high
      → char_length (b ∷ t) ≡ cond (fits f t) (suc (length f)) 0
  unfolding parted
  char-row i {r} {f} e h p q = only b t (r ∷ f) forms (rw e at (nth forms i h)) refl (holds-in r b p q)

  pub char-ascii : b ≤ 0x7F → char_length (b ∷ t) ≡ 1
  unfolding fits
  char-ascii q = char-row 0 refl (lit< tt) zero-le q

  pub char-none : (low high : ℕ) → apart low high forms ≡ true → low ≤ b → b ≤ high → char_length (b ∷ t) ≡ 0
  char-none low high a p q = gap low high b p q t forms a

-- the character at a place
module _ (t : List ℕ) (k : ℕ) where
  pub char-past : length t ≤ k → char_length (drop k t) ≡ 0
  unfolding first_fit fits
  char-past p = rw (drop_of_length-le t p)

  pub char-here : k < length t → char_length (drop k t) ≡ char_length (get_or t k 0 ∷ drop (k + 1) t)
  char-here p = rw (drop-cons t k 0 p, add-one)

-- the answer that `row_length` gives by a row, from what its callees ensure
pub by_row : (n : ℕ) {r : ℕ} {x y : Bool} {l : ℕ} → r ≡ cond x n 0 → x ≡ y → l ≡ cond y n 0 → r ≡ l
by_row n p q e = p ∙ rw q (sym e)

pub no-tail : (t : List ℕ) (k : ℕ) {r : Bool} → r ≡ fits (tail ∷ []) (drop k t) → not r ≡ no_tail t k
unfolding no_tail
no-tail t k e = ap not e
