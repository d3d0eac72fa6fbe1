-- The marks of sheets whose derivations crate grammar has: each sum is the number of readings that the table of known outcomes
-- (crates/known/specs/Known.antt) has for the sheet. At the end two sheets more. Sums and Lengths name this file, so that a wrong mark is
-- met here first, as a wrong sum; all sums see through `again`, so that they are computed whatever the marks are.
use Prim.Native.Nat.{ℕ}
use mathlib.Core.Path.{◌≡◌, refl}
use mathlib.Core.List.{List, [], ◌∷◌}
use borrow.Author.Tests.{ltb-true}
use Rattle.kinds.specs.Number as kind
use Rattle.kinds.specs.Kinds.{is_trivia}
use Rattle.kinds.specs.Operators.{binary_of, level_of}
use Rattle.grammar.specs.Places.{kind_of, after, tokens_of, significant, before}
use Rattle.grammar.specs.Derives as by
use Rattle.grammar.specs.Follows.{Follows}
use Rattle.grammar.specs.Words.{among}
use Rattle.grammar.proofs.Tests.{takes, other, free}
use Rattle.grammar.proofs.Examples.{alone, product, empty-table, number-block, nothing, braced, nested, group-table, nameless}
use Rattle.marks.specs.Marks.{again, marks_at, marks, readings}

nothing-reads : (text : List ℕ) → readings (marks (nothing text).body) ≡ 0
unfolding nothing marks_at again readings before tokens_of significant after
nothing-reads text = refl

product-reads : readings (marks product.body) ≡ 5
unfolding product alone marks_at again readings before tokens_of significant is_trivia after
product-reads = refl

empty-table-reads : (text : List ℕ) → readings (marks (empty-table text).body) ≡ 3
unfolding empty-table alone marks_at again readings before tokens_of significant is_trivia after
empty-table-reads text = refl

number-block-reads : readings (marks number-block.body) ≡ 4
unfolding number-block alone marks_at again readings before tokens_of significant is_trivia after
number-block-reads = refl

group-table-reads : readings (marks group-table.body) ≡ 7
unfolding group-table alone marks_at again readings before tokens_of significant is_trivia after
group-table-reads = refl

nested-marks : (text : List ℕ) → marks (nested text).body ≡ 0 ∷ 1 ∷ 1 ∷ 2 ∷ 2 ∷ 2 ∷ 1 ∷ 1 ∷ 0 ∷ []
unfolding nested braced alone marks_at again before tokens_of significant is_trivia after
nested-marks text = refl

nested-reads : (text : List ℕ) → readings (marks (nested text).body) ≡ 22
unfolding nested braced alone marks_at again readings before tokens_of significant is_trivia after
nested-reads text = refl

nameless-reads : (text : List ℕ) → readings (marks (nameless text).body) ≡ 6
unfolding nameless alone marks_at again readings before tokens_of significant is_trivia after
nameless-reads text = refl

-- fn f() {}
abbrev named-tokens : List ℕ
named-tokens =
    kind.Fn ∷ 0 ∷ 2
    ∷ kind.Whitespace ∷ 2 ∷ 3
    ∷ kind.Ident ∷ 3 ∷ 4
    ∷ kind.OpenParen ∷ 4 ∷ 5
    ∷ kind.CloseParen ∷ 5 ∷ 6
    ∷ kind.Whitespace ∷ 6 ∷ 7
    ∷ kind.OpenBrace ∷ 7 ∷ 8
    ∷ kind.CloseBrace ∷ 8 ∷ 9
    ∷ []

unfoldable named : (text : List ℕ) → Follows text named-tokens
unfolding before tokens_of significant is_trivia kind_of after
named text = record {
  end = _;
  body =
      by.exprs-of (by.no-eol (other refl)) (by.last-stmt (by.fn-stmt (takes refl refl) (by.an-ident (takes refl refl))
      (by.function_of (by.params_of (takes refl refl) (by.until-of (by.no-eol (other refl)) (by.items-end (takes refl refl)))) (by.no-type (other refl))
      (by.block_of (takes refl refl) (by.exprs-of (by.no-eol (other refl)) (by.no-stmt (takes refl refl)))))) (takes refl refl));
  whole = refl;
}

-- a name is found at the first try
named-reads : (text : List ℕ) → readings (marks (named text).body) ≡ 6
unfolding named marks_at again readings before tokens_of significant is_trivia after
named-reads text = refl

-- {(x)()}
abbrev call-tokens : List ℕ
call-tokens =
    kind.OpenBrace ∷ 0 ∷ 1
    ∷ kind.OpenParen ∷ 1 ∷ 2
    ∷ kind.Ident ∷ 2 ∷ 3
    ∷ kind.CloseParen ∷ 3 ∷ 4
    ∷ kind.OpenParen ∷ 4 ∷ 5
    ∷ kind.CloseParen ∷ 5 ∷ 6
    ∷ kind.CloseBrace ∷ 6 ∷ 7
    ∷ []

unfoldable group-called : (text : List ℕ) → Follows text call-tokens
unfolding before tokens_of significant is_trivia kind_of after among level_of binary_of
group-called text = record {
  end = _;
  body =
      by.exprs-of (by.no-eol (other refl)) (by.last-stmt (by.expr-stmt (alone (braced (takes refl refl) (other refl) (other refl)
      (by.prec-of (by.no-unary (by.primary-of (by.paren-expr (takes refl refl) (by.expr-of (alone (by.name (by.an-ident (takes refl refl))) (free refl) (other refl) (ltb-true _ _ refl))) (takes refl refl))
      (by.call (takes refl refl) (by.until-of (by.no-eol (other refl)) (by.items-end (takes refl refl))) (by.no-brace (other refl)) (by.no-post (free refl) (by.no-brace (other refl))))))
      (by.no-op (ltb-true _ _ refl))) (free refl) (takes refl refl)) (free refl) (other refl) (ltb-true _ _ refl))
      (free refl)) (takes refl refl));
  whole = refl;
}

-- the group is tried as a key; the call behind it is read once
group-called-marks : (text : List ℕ) → marks (group-called text).body ≡ 0 ∷ 1 ∷ 1 ∷ 1 ∷ 0 ∷ 0 ∷ 0 ∷ []
unfolding group-called braced alone marks_at again before tokens_of significant is_trivia after
group-called-marks text = refl

group-called-reads : (text : List ℕ) → readings (marks (group-called text).body) ≡ 10
unfolding group-called braced alone marks_at again readings before tokens_of significant is_trivia after
group-called-reads text = refl
