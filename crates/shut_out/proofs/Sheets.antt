-- Small sheets past the entry check that follow the grammar, and buffers just long enough for their trees.
use Rattle.std.specs.Prelude.{Ok}
use Prim.Native.Nat.{ℕ, ◌*◌}
use mathlib.Core.Path.{◌≡◌, refl}
use mathlib.Core.List.{List, [], ◌∷◌}
use borrow.Author.Tests.{ltb-true}
use lib.ListN.{replicate}
use Rattle.kinds.specs.Number as kind
use Rattle.kinds.specs.Spelling.{bytes}
use Rattle.kinds.specs.Kinds.{is_trivia}
use Rattle.kinds.specs.Operators.{binary_of, level_of}
use Rattle.entry.specs.Check.{entry_of}
use Rattle.grammar.specs.Places.{kind_of, after, tokens_of, significant, before}
use Rattle.grammar.specs.Derives.{no-eol, an-ident, exprs-of, last-stmt, a-line, expr-stmt, name}
use Rattle.grammar.specs.Follows.{Follows}
use Rattle.grammar.specs.Words.{among}
use Rattle.grammar.proofs.Tests.{takes, other, free}
use Rattle.grammar.proofs.Examples.{alone, product-text, product-tokens, braces, number-tokens, nested-tokens, key-tokens, function-tokens}
use Rattle.known.proofs.Opened.{of-kinds, of_entry}

-- room for so many node records
abbrev pub room : ℕ → List ℕ
room n = replicate (n * 8) 0

-- a
-- b
abbrev pub two-text : List ℕ
two-text = 97 ∷ 10 ∷ 98 ∷ []

abbrev pub two-tokens : List ℕ
two-tokens = kind.Ident ∷ 0 ∷ 1 ∷ kind.Eol ∷ 1 ∷ 2 ∷ kind.Ident ∷ 2 ∷ 3 ∷ []

unfoldable pub two : Follows two-text two-tokens
unfolding before tokens_of significant is_trivia kind_of after among level_of binary_of
two = record {
  end = _;
  body =
      exprs-of (no-eol (other refl)) (a-line (expr-stmt (alone (name (an-ident (takes refl refl))) (free refl) (other refl) (ltb-true _ _ refl)) (free refl)) (takes refl refl) (no-eol (other refl))
      (last-stmt (expr-stmt (alone (name (an-ident (takes refl refl))) (free refl) (other refl) (ltb-true _ _ refl)) (free refl)) (takes refl refl)));
  whole = refl;
}

-- the texts of the sheets that crate grammar derives from their tokens alone
abbrev pub braces-text : List ℕ
braces-text = 123 ∷ 10 ∷ 125 ∷ []

abbrev pub nested-text : List ℕ
nested-text = bytes "{({(x)})}"

abbrev pub function-text : List ℕ
function-text = bytes "fn () {}"

-- all of them pass the entry check
pub nothing-fit : entry_of [] [] ≡ Ok tt
unfolding of-kinds of_entry
nothing-fit = refl

pub two-fit : entry_of two-text two-tokens ≡ Ok tt
unfolding of-kinds of_entry
two-fit = refl

pub product-fit : entry_of product-text product-tokens ≡ Ok tt
unfolding of-kinds of_entry
product-fit = refl

pub braces-fit : entry_of braces-text braces ≡ Ok tt
unfolding of-kinds of_entry
braces-fit = refl

pub number-fit : entry_of (bytes "{1}") number-tokens ≡ Ok tt
unfolding of-kinds of_entry
number-fit = refl

pub key-fit : entry_of (bytes "{(x): 1}") key-tokens ≡ Ok tt
unfolding of-kinds of_entry
key-fit = refl

pub nested-fit : entry_of nested-text nested-tokens ≡ Ok tt
unfolding of-kinds of_entry
nested-fit = refl

pub function-fit : entry_of function-text function-tokens ≡ Ok tt
unfolding of-kinds of_entry
function-fit = refl
