-- Of a tree that was read, whose records are all of the reading's, every node is printed: the listing is that of the tree that was built.
-- Assumes nothing.
use mathlib.Core.Path.{◌≡◌, refl, ap}
use mathlib.Core.List.{List}
use Prim.Native.Nat.{ℕ, ◌+◌, ◌-◌, ◌*◌, ◌/◌, ◌≤◌, min}
use native.Mathlib.Omega.{arith}
use lib.ListN.{length, length-append}
use lib.Seq.{take_all}
use Rattle.cursor.specs.declared.Label.{Label}
use Rattle.cursor.specs.Tree.{Trees, none, node, tree, size, meaning}
use Rattle.cursor.proofs.Finished.{Built}
use Rattle.cursor.proofs.Meaning.{built-meaning, built-size}
use Rattle.listing.specs.Listing.{rows, row_lines, node_lines}

-- a line for each node
pub rows-size : (level : ℕ) (ts : Trees) → length (rows level ts) ≡ size ts
unfolding rows size
rows-size level none = refl
rows-size level (node l ks ts) =
    let a = rows-size (level + 1) ks in
    let b = rows-size level ts in
    let e = length-append (rows (level + 1) ks) (rows level ts) in
    omega arith

pub finished : {xs : List ℕ} {n last : ℕ} {l : Label} {ks : Trees} → Built xs 0 n (n - 1) last l ks → 8 * n ≤ length xs → node_lines xs n ≡ row_lines (rows 0 (tree l ks))
unfolding node_lines size
finished {xs} {n} {last} {l} {ks} b h =
    let s = built-size b in
    let m : meaning xs (n - 1) ≡ tree l ks = built-meaning b (omega arith) in
    let r = rows-size 0 (tree l ks) in
    let k : min n (length xs / 8) ≡ n = omega arith in
    ap row_lines (rw (k, m) (take_all n (rows 0 (tree l ks)) (omega arith)))
