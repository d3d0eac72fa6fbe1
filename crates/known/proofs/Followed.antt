-- Which of the known sheets follow the grammar: those that are read with no error, and no others; and the sums over their marks, which are the
-- document's readings.
use Prim.Native.Nat.{ℕ}
use mathlib.Core.Path.{◌≡◌, refl, sym, ap, ◌∙◌}
use mathlib.Core.List.{List, map}
use native.Mathlib.Omega.{arith}
use lib.ListN.{replicate, length-replicate, get_or}
use Rattle.grammar.specs.Follows.{Follows}
use Rattle.marks.specs.Marks.{marks, readings}
use Rattle.parser.specs.Parse.{parse}
use Rattle.parser.specs.Demands.{Demands}
use Rattle.parser.proofs.Contract.{demanded}
use Rattle.known.specs.Known.{
  Seen,
  seen,
  Row,
  words,
  empty,
  check-then-product,
  empty-braces,
  number-block,
  group-block,
  group-table,
  nested-blocks,
  nameless-function,
  lone-parenthesis,
  import-alone,
  broken-body,
  table,
  parsed,
  allowance,
  node_room,
  error_room,
  expected_room,
}
use Rattle.known.proofs.Table.{known}

abbrev InGrammar : Row → Type 0
InGrammar row = Follows row.text (words row.tokens)

-- the lister's buffers, blank
abbrev blank : ℕ → List ℕ
blank k = replicate k 0

abbrev read : Row → Seen
read row = parsed (blank node_room) (blank error_room) (blank expected_room) row

-- what the table says of the row at a place
at : (i : ℕ) → get_or (map read table) i (read empty) ≡ get_or (map (λ row. row.outcome) table) i (read empty)
at i = ap (λ rows. get_or rows i (read empty)) (known (blank node_room) (blank error_room) (blank expected_room) (length-replicate {A = ℕ} node_room 0) (length-replicate {A = ℕ} error_room 0) (length-replicate {A = ℕ} expected_room 0))

module _ (row : Row) (is : read row ≡ row.outcome) (answered : row.outcome.number ≡ 0) where
  is_read : (parse row.text (words row.tokens) allowance (blank node_room) (blank error_room) (blank expected_room)).number ≡ 0
  unfolding seen
  is_read = ap (λ s. s.number) is ∙ answered

  is-counted : (parse row.text (words row.tokens) allowance (blank node_room) (blank error_room) (blank expected_room)).errors ≡ row.outcome.errors
  unfolding seen
  is-counted = ap (λ s. s.errors) is

  held : Demands row.text (words row.tokens) allowance (blank node_room) (parse row.text (words row.tokens) allowance (blank node_room) (blank error_room) (blank expected_room))
  held = demanded _ _ _ _ _ _

  -- a derivation, by soundness
  follows : row.outcome.errors ≡ 0 → InGrammar row
  follows h = (held.judged is_read).0 (is-counted ∙ h)

  -- the readings of any derivation, off the grammar
  summed : (f : InGrammar row) → readings (marks f.body) ≡ row.outcome.reads
  unfolding seen
  summed f = sym (held.summed (record { read = is_read; flawless = (held.judged is_read).1 f }) f) ∙ ap (λ s. s.reads) is

  -- none, by completeness
  follows-not : row.outcome.errors ≡ 1 → InGrammar row → ⊥
  follows-not h f = let z = sym (is-counted ∙ h) ∙ (held.judged is_read).1 f in omega (arith, z)

pub empty-follows : InGrammar empty
empty-follows = follows empty (at 0) refl refl

pub empty-sum : (f : InGrammar empty) → readings (marks f.body) ≡ 0
empty-sum = summed empty (at 0) refl

pub check-then-product-follows : InGrammar check-then-product
check-then-product-follows = follows check-then-product (at 1) refl refl

pub check-then-product-sum : (f : InGrammar check-then-product) → readings (marks f.body) ≡ 5
check-then-product-sum = summed check-then-product (at 1) refl

pub empty-braces-follows : InGrammar empty-braces
empty-braces-follows = follows empty-braces (at 2) refl refl

pub empty-braces-sum : (f : InGrammar empty-braces) → readings (marks f.body) ≡ 3
empty-braces-sum = summed empty-braces (at 2) refl

pub number-block-follows : InGrammar number-block
number-block-follows = follows number-block (at 3) refl refl

pub number-block-sum : (f : InGrammar number-block) → readings (marks f.body) ≡ 4
number-block-sum = summed number-block (at 3) refl

pub group-block-follows : InGrammar group-block
group-block-follows = follows group-block (at 4) refl refl

pub group-block-sum : (f : InGrammar group-block) → readings (marks f.body) ≡ 8
group-block-sum = summed group-block (at 4) refl

pub group-table-follows : InGrammar group-table
group-table-follows = follows group-table (at 5) refl refl

pub group-table-sum : (f : InGrammar group-table) → readings (marks f.body) ≡ 7
group-table-sum = summed group-table (at 5) refl

pub nested-blocks-follows : InGrammar nested-blocks
nested-blocks-follows = follows nested-blocks (at 6) refl refl

pub nested-blocks-sum : (f : InGrammar nested-blocks) → readings (marks f.body) ≡ 22
nested-blocks-sum = summed nested-blocks (at 6) refl

pub nameless-function-follows : InGrammar nameless-function
nameless-function-follows = follows nameless-function (at 7) refl refl

pub nameless-function-sum : (f : InGrammar nameless-function) → readings (marks f.body) ≡ 6
nameless-function-sum = summed nameless-function (at 7) refl

pub lone-parenthesis-does-not : InGrammar lone-parenthesis → ⊥
lone-parenthesis-does-not = follows-not lone-parenthesis (at 8) refl refl

pub import-alone-does-not : InGrammar import-alone → ⊥
import-alone-does-not = follows-not import-alone (at 9) refl refl

pub broken-body-does-not : InGrammar broken-body → ⊥
broken-body-does-not = follows-not broken-body (at 10) refl refl
