-- The listing of a reading.
use Rattle.std.specs.Prelude.{ℕ, zero, suc, ◌+◌, ◌-◌, ◌/◌, min, List, [], ◌∷◌, ◌++◌, length, take}
use Rattle.cursor.specs.declared.Label.{Label}
use Rattle.cursor.specs.Layout.{node_words, error_words}
use Rattle.cursor.specs.Tree.{Trees, none, node, trees, meaning}
use Rattle.listing.specs.declared.list.Counts.{Counts}
use Rattle.listing.specs.Lines.{node_line, error_line, first_line, refusal_line}

-- the nodes of a row of trees with their levels, a parent before its children, in token order
unfoldable pub rows : ℕ → Trees → List (ℕ × Label)
rows level none = []
rows level (node l kids after) = (level, l) ∷ (rows (level + 1) kids ++ rows level after)

unfoldable pub row_lines : List (ℕ × Label) → List ℕ
row_lines [] = []
row_lines (r ∷ rs) = node_line r.0 r.1 ++ row_lines rs

-- the first nodes from a link on, so many at most
unfoldable pub rows_from : List ℕ → ℕ → ℕ → ℕ → List (ℕ × Label)
rows_from nodes link level left = take left (rows level (trees left nodes link))

-- the tree that the buffer means, whose root is the last of so many records. No more nodes are printed than there are records, which
-- cuts off no node of a tree that was read, and ends a listing whose links lead round
unfoldable pub node_lines : List ℕ → ℕ → List ℕ
node_lines nodes count = row_lines (take (min count (length nodes / node_words)) (rows 0 (meaning nodes (count - 1))))

-- k errors from the i-th on
unfoldable pub errors_from : List ℕ → List ℕ → ℕ → ℕ → List ℕ
errors_from errors expected i zero = []
errors_from errors expected i (suc k) = error_line errors expected i ++ errors_from errors expected (i + 1) k

unfoldable pub error_lines : List ℕ → List ℕ → ℕ → List ℕ
error_lines errors expected count = errors_from errors expected 0 (min count (length errors / error_words))

unfoldable pub listing_of : List ℕ → List ℕ → List ℕ → Counts → List ℕ
listing_of nodes errors expected c = first_line c.reads c.nodes c.errors ++ (node_lines nodes c.nodes ++ error_lines errors expected c.errors)

abbrev pub refusal_of : ℕ → List ℕ
refusal_of number = refusal_line number
