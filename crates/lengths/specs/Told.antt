-- Trees whose records say truly how many children they have, and which.
use Rattle.std.specs.Prelude.{ℕ, suc, ◌≡◌, List, [], ◌∷◌}
use Rattle.cursor.specs.declared.Label.{Label}
use Rattle.cursor.specs.Tree.{Trees, none, node}
use Rattle.lengths.specs.Flags.{unpack}
use Rattle.lengths.specs.Sorts.{Sort, Of}
use Rattle.lengths.specs.Children.{Part, each, row_of, children}

-- Trees in a row are those of these parts, so many of each sort, in order; FLAGS of each record taken apart is what its kind's row names of
-- it, and its children are, all the way down, the parts that the row says
pub data Told : List Part → Trees → Type 0 where
  no_more : Told [] none
  no_more_of : {s : Sort} {ps : List Part} {ts : Trees} → Told ps ts → Told (each 0 s ∷ ps) ts
  one_of : {s : Sort} {n : ℕ} {ps : List Part} {l : Label} {ks ts : Trees}
      → Of s l.kind
      → (row_of l.kind (unpack l.flags)).names ≡ unpack l.flags
      → Told (row_of l.kind (unpack l.flags)).parts ks
      → Told (each n s ∷ ps) ts
      → Told (each (suc n) s ∷ ps) (node l ks ts)

-- how many trees a row has
unfoldable pub width : Trees → ℕ
width none = 0
width (node l ks ts) = suc (width ts)

-- every record has as many children as its kind and its FLAGS say
pub data Counted : Trees → Type 0 where
  counted_none : Counted none
  counted-node : {l : Label} {ks ts : Trees} → width ks ≡ children l.kind (unpack l.flags) → Counted ks → Counted ts → Counted (node l ks ts)
