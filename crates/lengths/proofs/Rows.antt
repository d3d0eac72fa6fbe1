-- Rows that are told, put together: one behind the other, one more of the last sort, of a wider sort.
use Rattle.std.specs.Prelude.{None}
use Prim.Native.Nat.{ℕ, suc, ◌+◌}
use native.Mathlib.Omega.{arith}
use native.Mathlib.Numerals.{add-one}
use mathlib.Core.Path.{◌≡◌, refl}
use mathlib.Core.List.{List, [], ◌∷◌, ◌++◌}
use Rattle.cursor.specs.Sheet.{Ranged}
use Rattle.cursor.specs.Tree.{Trees, none, join}
use Rattle.lengths.specs.Sorts.{Sort, Of}
use Rattle.lengths.specs.Children.{Part, each, one, total, children}
use Rattle.lengths.specs.Told.{Told, no_more, no_more_of, one_of, width, Counted, counted_none, counted-node}

-- so that the children counted there are checked first

-- a row of one
abbrev pub Single : Sort → Trees → Type 0
Single s t = Told (one s ∷ []) t

-- none of a sort yet
pub none_yet : {s : Sort} → Told (each 0 s ∷ []) none
none_yet = no_more_of no_more

-- one row behind another
infixr 5 ◌▹◌
pub ◌▹◌ : {ps qs : List Part} {a b : Trees} → Told ps a → Told qs b → Told (ps ++ qs) (join a b)
unfolding join
no_more ▹ y = y
no_more_of x ▹ y = no_more_of (x ▹ y)
one_of o r k x ▹ y = one_of o r k (x ▹ y)

-- parts that are empty, behind a row
pub empty-behind : {ps qs : List Part} {a : Trees} → Told ps a → Told qs none → Told (ps ++ qs) a
empty-behind no_more y = y
empty-behind (no_more_of x) y = no_more_of (empty-behind x y)
empty-behind (one_of o r k x) y = one_of o r k (empty-behind x y)

-- a list that no last item ends
pub unended : {s : Sort} {n : ℕ} {t : Trees} {r : Ranged} (last : Ranged → List Part) → r ≡ None → Told (each n s ∷ []) t → Told (last None) none → Told (each n s ∷ last r) t
unended last e x y = rw e (empty-behind x y)

-- one more of the same sort
pub longer : {s : Sort} {n : ℕ} {a b : Trees} → Told (each n s ∷ []) a → Single s b → Told (each (n + 1) s ∷ []) (join a b)
unfolding join
longer {n = n} x y = rw (add-one n) (go x y)
  where
    go : {s : Sort} {n : ℕ} {a b : Trees} → Told (each n s ∷ []) a → Single s b → Told (each (suc n) s ∷ []) (join a b)
    go (no_more_of no_more) y = y
    go (one_of o r k x) y = one_of o r k (go x y)

-- the same of a wider sort
pub wider : {s t : Sort} {n : ℕ} {ps : List Part} {a : Trees} → ((k : ℕ) → Of s k → Of t k) → Told (each n s ∷ ps) a → Told (each n t ∷ ps) a
wider f (no_more_of x) = no_more_of x
wider f (one_of o r k x) = one_of (f _ o) r k (wider f x)

-- as many as the parts say
pub told-width : {ps : List Part} {t : Trees} → Told ps t → width t ≡ total ps
unfolding width total
told-width no_more = refl
told-width (no_more_of x) = let e = told-width x in omega (arith, e)
told-width (one_of o r k x) = let e = told-width x in omega (arith, e)

pub told-counted : {ps : List Part} {t : Trees} → Told ps t → Counted t
unfolding children
told-counted no_more = counted_none
told-counted (no_more_of x) = told-counted x
told-counted (one_of o r k x) = counted-node (told-width k) (told-counted k) (told-counted x)
