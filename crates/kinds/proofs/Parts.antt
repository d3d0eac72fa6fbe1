-- When two byte strings are the same.
-- Assumes nothing.
use Prim.Native.Nat.{ℕ}
use mathlib.Core.Bool.{Bool, true, false, ◌&&◌}
use mathlib.Core.List.{List, [], ◌∷◌}
use mathlib.Core.Path.{◌≡◌, refl}
use lib.Dec.{eqb}
use lib.Pointwise.{pointwise}
use borrow.Author.Tests.{eqb-true, eq-eqb}
use Rattle.kinds.specs.Spelling.{whether, equal}

-- `equal` holds of the same byte strings and of no others
pub equal-same : (a b : List ℕ) → equal a b ≡ true → a ≡ b
unfolding equal
equal-same [] [] e = refl
equal-same [] (y ∷ b) e = cc
equal-same (x ∷ a) [] e = cc
equal-same (x ∷ a) (y ∷ b) e = go (eqb x y) refl e (equal-same a b)
  where
    go : (t : Bool) → eqb x y ≡ t → whether t (equal a b) false ≡ true → (equal a b ≡ true → a ≡ b) → x ∷ a ≡ y ∷ b
    go true h g rest = let p : x ≡ y = eqb-true x y h in let q : a ≡ b = rest g in cc
    go false h g rest = cc

pub same-equal : (a : List ℕ) → equal a a ≡ true
unfolding equal
same-equal [] = refl
same-equal (x ∷ a) = rw (eq-eqb x x refl) (same-equal a)

-- `==` of two slices asks for just that
pub equal-pointwise : (a b : List ℕ) → pointwise eqb a b ≡ equal a b
unfolding equal
equal-pointwise [] [] = refl
equal-pointwise [] (y ∷ b) = refl
equal-pointwise (x ∷ a) [] = refl
equal-pointwise (x ∷ a) (y ∷ b) = by_first (eqb x y) (equal-pointwise a b)
  where
    by_first : (t : Bool) → pointwise eqb a b ≡ equal a b → t && pointwise eqb a b ≡ whether t (equal a b) false
    by_first true rest = rest
    by_first false rest = refl
