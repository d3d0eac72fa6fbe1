-- What clearing a buffer from a place on comes to.
use mathlib.Core.Path.{◌≡◌, refl, sym, ap}
use mathlib.Core.List.{List, [], ◌∷◌}
use Prim.Native.Nat.{ℕ, zero, suc, ◌+◌, ◌<◌, ◌≤◌}
use native.Mathlib.Omega.{arith}
use lib.ListN.{length, get_or, set}
use Rattle.parser.specs.Blank.{up_to, blank, cleared}

-- one word more that is cleared by hand
pub cleared-next : {A : Type 0} (b : A) (xs : List A) (i : ℕ) → cleared b (i + 1) (set xs i b) ≡ cleared b i xs
unfolding cleared
cleared-next b [] i = refl
cleared-next b (a ∷ xs) zero = refl
cleared-next {A} b (a ∷ xs) (suc i) = let e : suc i + 1 ≡ suc (i + 1) = omega arith in rw e (ap {B = List A} (λ r. a ∷ r) (cleared-next b xs i))

-- nothing lies past the end
pub cleared-all : {A : Type 0} (b : A) (xs : List A) (i : ℕ) → length xs ≤ i → cleared b i xs ≡ xs
unfolding cleared
cleared-all b [] i h = refl
cleared-all b (a ∷ xs) zero h = absurd (omega (arith, h))
cleared-all {A} b (a ∷ xs) (suc i) h = ap {B = List A} (λ r. a ∷ r) (cleared-all b xs i (omega (arith, h)))

pub cleared-long : {A : Type 0} (b : A) (k : ℕ) (xs : List A) → length (cleared b k xs) ≡ length xs
unfolding cleared
cleared-long b k [] = refl
cleared-long b zero (a ∷ xs) = ap suc (cleared-long b zero xs)
cleared-long b (suc k) (a ∷ xs) = ap suc (cleared-long b k xs)

-- cleared from its start on
pub up-to-none : (xs : List ℕ) → up_to 0 xs ≡ blank xs
unfolding cleared
up-to-none [] = refl
up-to-none (a ∷ xs) = ap {B = List ℕ} (λ r. 0 ∷ r) (up-to-none xs)

-- buffers of one length that agree below a place are the same where they are cleared from there on
pub up-to-same : (k : ℕ) (xs ys : List ℕ) → length ys ≡ length xs → ((i : ℕ) → i < k → get_or ys i 0 ≡ get_or xs i 0) → up_to k xs ≡ up_to k ys
unfolding cleared
up-to-same k [] [] l h = refl
up-to-same k [] (b ∷ ys) l h = absurd (omega (arith, l))
up-to-same k (a ∷ xs) [] l h = absurd (omega (arith, l))
up-to-same zero (a ∷ xs) (b ∷ ys) l h = ap {B = List ℕ} (λ r. 0 ∷ r) (up-to-same zero xs ys (omega (arith, l)) (λ i p. absurd (omega (arith, p))))
up-to-same (suc k) (a ∷ xs) (b ∷ ys) l h = λ j. sym (h 0 (omega arith)) j ∷ up-to-same k xs ys (omega (arith, l)) (λ i p. h (suc i) (omega (arith, p))) j
