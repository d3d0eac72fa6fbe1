-- The meaning of the node buffer: the tree that its records spell, wherever they lie.
use Rattle.std.specs.Prelude.{ℕ, zero, suc, ◌+◌, List, length, slice_index}
use Rattle.cursor.specs.declared.Label.{Label}
use Rattle.cursor.specs.Layout.{KIND, START, END, FIRST, NEXT, ONE, TWO, FLAGS, cell}

-- trees in a row: none, or the first one's label and children, and the trees after it
pub data Trees : Type 0 where
  none : Trees
  node : Label → Trees → Trees → Trees

unfoldable pub join : Trees → Trees → Trees
join none us = us
join (node l ks ts) us = node l ks (join ts us)

-- a row of one
abbrev pub tree : Label → Trees → Trees
tree l ks = node l ks none

-- how many records a row of trees has
unfoldable pub size : Trees → ℕ
size none = 0
size (node l ks ts) = suc (size ks + size ts)

-- word k of record i
unfoldable pub word : List ℕ → ℕ → ℕ → ℕ
word xs i k = slice_index xs (cell i k)

-- what record i says besides its links
unfoldable pub label : List ℕ → ℕ → Label
label xs i = record { kind = word xs i KIND; start = word xs i START; end = word xs i END; one = word xs i ONE; two = word xs i TWO; flags = word xs i FLAGS }

-- the trees from a link on, to a depth and length of at most so many records: total on any contents, whatever the links say
unfoldable pub trees : ℕ → List ℕ → ℕ → Trees
trees zero xs link = none
trees (suc k) xs zero = none
trees (suc k) xs (suc i) = node (label xs i) (trees k xs (word xs i FIRST)) (trees k xs (word xs i NEXT))

-- the tree whose root is record i
unfoldable pub meaning : List ℕ → ℕ → Trees
meaning xs i = tree (label xs i) (trees (length xs) xs (word xs i FIRST))
