-- Room for a list: fewer than 2^15 items, with one for each token that is still to come.
use Prim.Native.Nat.{ℕ, ◌+◌, ◌^◌, ◌<◌}
use native.Mathlib.Omega.{arith}
use mathlib.Core.Path.{◌≡◌}
use mathlib.Core.List.{List}
use lib.ListN.{length}
use Rattle.grammar.specs.Places.{Place}
use Rattle.grammar.specs.Symbols.{Sym, Lefts, Rights}
use Rattle.grammar.specs.Derives.{Derives}
use Rattle.grammar.specs.Derives as by
use Rattle.grammar.specs.Builders.{Shape, blank, more}
use Rattle.grammar.specs.Shape.{shape}
use Rattle.lengths.proofs.Taken.{Takes}
use Rattle.lengths.proofs.Symbols.{Closed}
use Rattle.lengths.proofs.Few.{few-items}

-- of left and right sides there are as many as their symbols say
pub lefts-count : {text : List ℕ} {n : ℕ} {p q : Place} (d : Derives text (Lefts n) p q) (x : ℕ) (so : Shape) → (shape d x so).count ≡ so.count + n
unfolding shape
lefts-count (by.no-left h) x so = omega arith
lefts-count (by.a-left a d f e) x so = let i = lefts-count e x (more so (shape d 0 blank)) in omega (arith, i)

pub rights-count : {text : List ℕ} {n : ℕ} {p q : Place} (d : Derives text (Rights n) p q) (x : ℕ) (so : Shape) → (shape d x so).count ≡ so.count + n
unfolding shape
rights-count by.no-right x so = omega arith
rights-count (by.a-right a d e) x so = let i = rights-count e x (more so (shape d 0 blank)) in omega (arith, i)

-- there is room for a list of so many items, with one for each token from a place on
pub record Room (n : ℕ) (p : Place) : Type 0 where
  pub fits : n + length p.rest < 2 ^ 15

infixl 4 ◌⊳◌
pub ◌⊳◌ : {n m : ℕ} {p q : Place} → Room n p → Takes m p q → Room n q
x ⊳ y = record { fits = omega (arith, x.fits, y.taken) }

pub grown : {n : ℕ} {p q : Place} → Room n p → Takes 1 p q → Room (n + 1) q
grown x y = record { fits = omega (arith, x.fits, y.taken) }

pub below : {n : ℕ} {p : Place} → Room n p → n < 2 ^ 15
below x = omega (arith, x.fits)

-- a list that begins where there is room for it has fewer than 2^15 items
pub short : {text : List ℕ} {y : Sym} {p q : Place} (d : Derives text y p q) → Closed y → (x : ℕ) (so : Shape) → Room so.count p → (shape d x so).count < 2 ^ 15
short d c x so h = let i = (few-items d c x so).few in omega (arith, i, h.fits)
