-- Walking a text character by character: a turn of the loop of `is_utf8`, and its ends.
use Prim.Native.Nat.{ℕ, zero, suc, ◌+◌, ◌-◌, ◌<◌, ◌≤◌, zero-le}
use native.Mathlib.Omega.{arith}
use mathlib.Core.Path.{◌≡◌, refl, sym, ◌∙◌}
use mathlib.Core.Bool.{Bool, true, false, cond, false≢true}
use mathlib.Core.List.{List, [], ◌∷◌}
use lib.ListN.{length, drop, length-drop, drop_of_length-le}
use lib.Seq.{drop-cons, drop-drop}
use Rattle.entry.specs.Utf8.{Form, forms, holds, fits, first_fit, char_length, arrives, is_utf8}
use Rattle.kinds.proofs.Logic.{both}

-- a character lies within the text
pub fits-length : (f : Form) (t : List ℕ) → fits f t ≡ true → length f ≤ length t
unfolding fits
fits-length [] t e = zero-le
fits-length (r ∷ f) [] e = absurd (false≢true e)
fits-length (r ∷ f) (b ∷ t) e = let h = fits-length f t (both (holds r b) (fits f t) e).1 in omega arith

first-length : (fs : List Form) (t : List ℕ) → first_fit fs t ≤ length t
unfolding first_fit
first-length [] t = zero-le
first-length (f ∷ fs) t = go (first-length fs t) (fits f t) refl
  where
    go : first_fit fs t ≤ length t → (x : Bool) → fits f t ≡ x → cond x (length f) (first_fit fs t) ≤ length t
    go h true e = fits-length f t e
    go h false e = h

pub char-within : (t : List ℕ) → char_length t ≤ length t
char-within = first-length forms

-- what is owed of a character is passed over
pub arrives-skip : (n : ℕ) (t : List ℕ) (k : ℕ) → n ≤ length t → n ≤ k → arrives n t k ≡ arrives 0 (drop n t) (k - n)
unfolding arrives
arrives-skip zero t k p q = let e : k - 0 ≡ k = omega arith in rw e
arrives-skip (suc n) [] k p q = absurd (omega arith)
arrives-skip (suc n) (b ∷ t) zero p q = absurd (omega arith)
arrives-skip (suc n) (b ∷ t) (suc k) p q =
    let e : suc k - suc n ≡ k - n = omega arith in
    rw e (arrives-skip n t k (omega arith) (omega arith))

module _ (b : ℕ) (t : List ℕ) where
  pub utf8-cons : (n : ℕ) → char_length (b ∷ t) ≡ suc n → is_utf8 (b ∷ t) ≡ is_utf8 (drop n t)
  unfolding arrives
  utf8-cons n e =
      let h = char-within (b ∷ t) in
      rw (e, arrives) (arrives-skip n t (length t) (omega arith) (omega arith) ∙ rw (length-drop n t))

  pub utf8-not : char_length (b ∷ t) ≡ 0 → is_utf8 (b ∷ t) ≡ false
  unfolding arrives
  utf8-not e = rw (e, arrives)

-- the loop of `is_utf8` at place `k`
module _ (t : List ℕ) (k : ℕ) where
  pub utf8-end : length t ≤ k → is_utf8 (drop k t) ≡ true
  unfolding arrives
  utf8-end p = rw (drop_of_length-le t p)

  pub utf8-bad : k < length t → char_length (drop k t) ≡ 0 → is_utf8 (drop k t) ≡ false
  utf8-bad p e = rw (drop-cons t k 0 p) (utf8-not _ _ (rw (drop-cons t k 0 p) at e))

  pub utf8-step : (n : ℕ) → k < length t → (n ≡ 0 → ⊥) → n ≡ char_length (drop k t) → is_utf8 (drop k t) ≡ is_utf8 (drop (k + n) t)
  utf8-step zero p z e = absurd (z refl)
  utf8-step (suc n) p z e =
      let s : suc k + n ≡ k + suc n = omega arith in
      rw (drop-cons t k 0 p) (utf8-cons _ _ n (sym (rw (drop-cons t k 0 p) at e)) ∙ rw (drop-drop n (suc k) t, s))

  pub char-room : (n : ℕ) → k ≤ length t → n ≡ char_length (drop k t) → k + n ≤ length t
  char-room n p e = let h = char-within (drop k t) in let l = length-drop k t in omega arith
