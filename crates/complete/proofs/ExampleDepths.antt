-- The depth of sheets whose derivations crate grammar has, each counted by hand from the four functions that the document names: how many levels the
-- deepest token stands below the statements of the program, which are the first level themselves.
use Prim.Native.Nat.{ℕ}
use mathlib.Core.Path.{◌≡◌, refl}
use mathlib.Core.List.{List}
use Rattle.grammar.proofs.Examples.{alone, product, empty-table, number-block, nothing, braced, nested, group-table, nameless}
use Rattle.complete.specs.Depth.{need}

-- no statement
pub nothing-levels : (text : List ℕ) → need (nothing text).body ≡ 0
unfolding nothing need
nothing-levels text = refl

-- a is int * b: an expression, and in it the right operand
pub product-levels : need product.body ≡ 2
unfolding product alone need
product-levels = refl

-- { }: an expression
pub empty-table-levels : (text : List ℕ) → need (empty-table text).body ≡ 1
unfolding empty-table alone need
empty-table-levels text = refl

-- {1}: an expression, the statements of its block, an expression
pub number-block-levels : need number-block.body ≡ 3
unfolding number-block alone need
number-block-levels = refl

-- {(x): 1}: an expression, in it the key's
pub group-table-levels : need group-table.body ≡ 2
unfolding group-table alone need
group-table-levels = refl

-- fn () {}: an expression, the statements of its block
pub nameless-levels : (text : List ℕ) → need (nameless text).body ≡ 2
unfolding nameless alone need
nameless-levels text = refl

-- {({(x)})}: an expression, statements, an expression, its group's, statements, an expression, its group's
pub nested-levels : (text : List ℕ) → need (nested text).body ≡ 7
unfolding nested braced alone need
nested-levels text = refl
