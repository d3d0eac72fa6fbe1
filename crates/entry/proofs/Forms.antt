-- The rows of UTF-8's syntax: a first byte belongs to one of them at most, and what that row says decides.
use Prim.Native.Nat.{ℕ, zero, suc, ◌<◌, ◌≤◌}
use native.Mathlib.Omega.{arith}
use mathlib.Core.Path.{◌≡◌, refl, sym, ◌∙◌}
use mathlib.Core.Bool.{Bool, true, false, cond, ◌&&◌, ◌||◌, false≢true}
use mathlib.Core.Logic.{⊎_elim}
use mathlib.Core.List.{List, [], ◌∷◌, Memᴰ}
use lib.ListN.{length, get_or}
use lib.Dec.{leb, ltb}
use borrow.Author.Tests.{ltb-true, leb-true, le-leb, lt-leb}
use Rattle.entry.specs.Utf8.{Range, Form, holds, fits, first_fit}
use Rattle.kinds.proofs.Logic.{both, either}

pub holds-in : (r : Range) (b : ℕ) → r.low ≤ b → b ≤ r.high → holds r b ≡ true
holds-in r b p q = rw (le-leb _ _ p) (le-leb _ _ q)

pub holds-below : (r : Range) (b : ℕ) → b < r.low → holds r b ≡ false
holds-below r b p = rw (lt-leb _ _ p)

pub holds-above : (r : Range) (b : ℕ) → r.high < b → holds r b ≡ false
holds-above r b p = go (leb r.low b)
  where
    go : (a : Bool) → a && leb b r.high ≡ false
    go true = lt-leb _ _ p
    go false = refl

-- no form starts with a byte from low to high
abbrev pub apart : ℕ → ℕ → List Form → Bool
apart low high [] = true
apart low high ([] ∷ fs) = false
apart low high ((r ∷ f) ∷ fs) = (ltb r.high low || ltb high r.low) && apart low high fs

module _ (low high b : ℕ) (p : low ≤ b) (q : b ≤ high) where
  misses : (r : Range) → ltb r.high low || ltb high r.low ≡ true → holds r b ≡ false
  misses r e = ⊎_elim (λ x. holds-above r b (omega (arith, ltb-true r.high low x))) (λ x. holds-below r b (omega (arith, ltb-true high r.low x)))
      (either (ltb r.high low) (ltb high r.low) e)

  pub gap : (t : List ℕ) (fs : List Form) → apart low high fs ≡ true → first_fit fs (b ∷ t) ≡ 0
  unfolding first_fit fits
  gap t [] e = refl
  gap t ([] ∷ fs) e = absurd (false≢true e)
  gap t ((r ∷ f) ∷ fs) e =
      let h = both (ltb r.high low || ltb high r.low) (apart low high fs) e in
      rw (misses r h.0) (gap t fs h.1)

-- the first bytes of no two forms meet
unfoldable pub parted : List Form → Bool
parted [] = true
parted ([] ∷ fs) = false
parted ((r ∷ f) ∷ fs) = apart r.low r.high fs && parted fs

-- whether a byte starts a form, and the form after that byte
abbrev pub starts : Form → ℕ → Bool
starts [] b = false
starts (r ∷ f) b = holds r b

abbrev pub rest : Form → Form
rest [] = []
rest (r ∷ f) = f

module _ (low high b : ℕ) (p : low ≤ b) (q : b ≤ high) where
  none-starts : (g : Form) (fs : List Form) → Memᴰ g fs → apart low high fs ≡ true → starts g b ≡ true → ⊥
  none-starts g fs (Memᴰ.head {x = []} e) a s = false≢true a
  none-starts g fs (Memᴰ.head {x = r ∷ f} {xs = gs} e) a s =
      let h = both (ltb r.high low || ltb high r.low) (apart low high gs) a in
      false≢true (sym (misses low high b p q r h.0) ∙ rw e at s)
  none-starts g fs (Memᴰ.tail {x = []} m) a s = false≢true a
  none-starts g fs (Memᴰ.tail {x = r ∷ f} {xs = gs} m) a s =
      none-starts g gs m (both (ltb r.high low || ltb high r.low) (apart low high gs) a).1 s

module _ (b : ℕ) (t : List ℕ) where
  only-first : (g : Form) (fs : List Form) → parted (g ∷ fs) ≡ true → starts g b ≡ true → first_fit (g ∷ fs) (b ∷ t) ≡ cond (fits (rest g) t) (length g) 0
  unfolding parted first_fit fits
  only-first [] fs o s = absurd (false≢true o)
  only-first (r ∷ f) fs o s =
      let h = both (leb r.low b) (leb b r.high) s in
      rw (s, gap r.low r.high b (leb-true _ _ h.0) (leb-true _ _ h.1) t fs (both _ _ o).0)

  -- where a byte starts a form of the list, that form alone decides
  pub only : (g : Form) (fs : List Form) → Memᴰ g fs → parted fs ≡ true → starts g b ≡ true → first_fit fs (b ∷ t) ≡ cond (fits (rest g) t) (length g) 0
  unfolding parted first_fit fits
  only g fs (Memᴰ.head {x = x} {xs = gs} e) o s = rw e (only-first x gs o (rw e at s))
  only g fs (Memᴰ.tail {x = []} m) o s = absurd (false≢true o)
  only g fs (Memᴰ.tail {x = r ∷ f} {xs = gs} m) o s = go (only g gs m (both (apart r.low r.high gs) (parted gs) o).1 s) (holds r b) refl
    where
      h : (apart r.low r.high gs ≡ true) × (parted gs ≡ true)
      h = both (apart r.low r.high gs) (parted gs) o

      go : first_fit gs (b ∷ t) ≡ cond (fits (rest g) t) (length g) 0 → (x : Bool) → holds r b ≡ x → first_fit ((r ∷ f) ∷ gs) (b ∷ t) ≡ cond (fits (rest g) t) (length g) 0
      go later true e =
          let i = both (leb r.low b) (leb b r.high) e in
          absurd (none-starts r.low r.high b (leb-true _ _ i.0) (leb-true _ _ i.1) g gs m h.0 s)
      go later false e = rw e later

-- the form at a place of the list
pub nth : (fs : List Form) (k : ℕ) → k < length fs → Memᴰ (get_or fs k []) fs
nth [] k p = absurd (omega arith)
nth (f ∷ fs) zero p = Memᴰ.head refl
nth (f ∷ fs) (suc k) p = Memᴰ.tail (nth fs k (omega arith))
