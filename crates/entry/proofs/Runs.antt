-- Runs of one-byte characters: the loops of `past_ascii`, and that what they pass over is whole characters.
use Prim.Native.Nat.{ℕ, zero, suc, ◌+◌, ◌<◌, ◌≤◌, zero-le}
use native.Mathlib.Omega.{arith}
use mathlib.Core.Path.{◌≡◌, refl, sym, ◌∙◌}
use mathlib.Core.Bool.{Bool, true, false, cond}
use mathlib.Core.List.{List, [], ◌∷◌}
use lib.ListN.{length, get_or, drop, replicate, length-drop, length-replicate, drop_of_length-le}
use lib.Dec.{leb}
use lib.Seq.{drop-cons}
use native.Mathlib.Numerals.{add-one}
use borrow.Author.Tests.{leb-true}
use Rattle.entry.specs.Utf8.{Form, ascii, holds, fits, ascii_run, is_utf8}
use Rattle.kinds.proofs.Logic.{both}
use Rattle.entry.proofs.Forms.{holds-in, holds-above}
use Rattle.entry.proofs.Fits.{fits-within, fits-here, fits-short, char-ascii, char-here}
use Rattle.entry.proofs.Walk.{fits-length, utf8-step}

-- at place `k`
module _ (t : List ℕ) (k : ℕ) where
  pub run_past : length t ≤ k → ascii_run (drop k t) ≡ 0
  unfolding ascii_run
  run_past p = rw (drop_of_length-le t p)

  pub run-stops : k < length t → 0x7F < get_or t k 0 → ascii_run (drop k t) ≡ 0
  unfolding ascii_run
  run-stops p q = rw (drop-cons t k 0 p, holds-above ascii _ q)

  pub run_on : k < length t → get_or t k 0 ≤ 0x7F → ascii_run (drop k t) ≡ suc (ascii_run (drop (k + 1) t))
  unfolding ascii_run
  run_on p q = rw (drop-cons t k 0 p, add-one, holds-in ascii _ zero-le q)

  -- too few bytes are left for a run of so many
  pub run_short : (n : ℕ) → length t < k + n → 0 < n → fits (replicate n ascii) (drop k t) ≡ false
  run_short n h z = let l = length-drop k t in let m = length-replicate n ascii in fits-short (replicate n ascii) (drop k t) (omega arith)

  pub run_room : (f : Form) → fits f (drop k t) ≡ true → k ≤ length t → k + length f ≤ length t
  run_room f e p = let h = fits-length f (drop k t) e in let l = length-drop k t in omega arith

  utf8-ascii : k < length t → get_or t k 0 ≤ 0x7F → is_utf8 (drop k t) ≡ is_utf8 (drop (k + 1) t)
  utf8-ascii p q = utf8-step t k 1 p (λ e. omega (arith, e)) (sym (char-here t k p ∙ char-ascii _ _ q))

-- the first byte of a run, and that the rest is one
module _ (t : List ℕ) (n k : ℕ) (e : fits (replicate (suc n) ascii) (drop k t) ≡ true) where
  within : k < length t
  within = fits-within ascii (replicate n ascii) t k e

  here : (holds ascii (get_or t k 0) ≡ true) × (fits (replicate n ascii) (drop (k + 1) t) ≡ true)
  here = both (holds ascii (get_or t k 0)) (fits (replicate n ascii) (drop (k + 1) t)) (sym (fits-here ascii (replicate n ascii) t k within) ∙ e)

  first : get_or t k 0 ≤ 0x7F
  first = leb-true (get_or t k 0) 0x7F (both (leb 0x00 (get_or t k 0)) (leb (get_or t k 0) 0x7F) here.0).1

-- a run of `n` is passed over
module _ (t : List ℕ) where
  pub run_more : (n k : ℕ) → fits (replicate n ascii) (drop k t) ≡ true → ascii_run (drop k t) ≡ n + ascii_run (drop (k + n) t)
  run_more zero k e = let s : k + 0 ≡ k = omega arith in rw s (omega arith)
  run_more (suc n) k e =
      let s : k + 1 + n ≡ k + suc n = omega arith in
      let h = run_on t k (within t n k e) (first t n k e) in
      let i = run_more n (k + 1) (here t n k e).1 in
      rw (sym s) (omega (arith, h, i))

  pub utf8-run : (n k : ℕ) → fits (replicate n ascii) (drop k t) ≡ true → is_utf8 (drop k t) ≡ is_utf8 (drop (k + n) t)
  utf8-run zero k e = let s : k + 0 ≡ k = omega arith in rw s
  utf8-run (suc n) k e =
      let s : k + 1 + n ≡ k + suc n = omega arith in
      utf8-ascii t k (within t n k e) (first t n k e) ∙ (utf8-run n (k + 1) (here t n k e).1 ∙ rw s)

-- the run that a text begins with is one
run_fits : (t : List ℕ) → fits (replicate (ascii_run t) ascii) t ≡ true
unfolding ascii_run fits
run_fits [] = refl
run_fits (b ∷ t) = go (holds ascii b) refl (run_fits t)
  where
    go : (x : Bool) → holds ascii b ≡ x → fits (replicate (ascii_run t) ascii) t ≡ true → fits (replicate (cond x (suc (ascii_run t)) 0) ascii) (b ∷ t) ≡ true
    go true e h = rw e h
    go false e h = refl

-- what `past_ascii` found, place `j`: it leaves what is to be judged as it is, and stays in the text
module _ (t : List ℕ) (k j : ℕ) (e : j ≡ k + ascii_run (drop k t)) where
  pub utf8-past : is_utf8 (drop k t) ≡ is_utf8 (drop j t)
  utf8-past = rw e (utf8-run t (ascii_run (drop k t)) k (run_fits (drop k t)))

  pub past_room : k ≤ length t → j ≤ length t
  past_room p =
      let h = run_room t k (replicate (ascii_run (drop k t)) ascii) (run_fits (drop k t)) p in
      let m = length-replicate (ascii_run (drop k t)) ascii in
      omega arith
