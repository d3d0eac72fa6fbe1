-- What is read off the derivations of Examples: that each tree is the one which the table of known outcomes has for the sheet
-- (crates/known/specs/Known.antt; that crate is over the parser, so its trees are written out again here), and the words.
use Prim.Native.Nat.{ℕ}
use mathlib.Core.Path.{◌≡◌, refl}
use mathlib.Core.List.{List, [], ◌∷◌}
use Rattle.kinds.specs.Number as kind
use Rattle.kinds.specs.Kinds.{is_trivia}
use Rattle.ints.specs.Spelling.{kept, radix_by, radix_of, after_prefix, sign_by, digit_of, value_of}
use Rattle.ints.specs.Answer.{judged, first_of, number_of, afterwards, from_str_radix, int_of}
use Rattle.cursor.specs.declared.Label.{Label}
use Rattle.cursor.specs.Node as record_of
use Rattle.cursor.specs.Tree.{Trees, none, node, tree, join}
use Rattle.types.specs.Lits.{literal, int_literal}
use Rattle.grammar.specs.Places.{kind_of, span_of, after, tokens_of, significant, before, opening}
use Rattle.grammar.specs.Shape.{shape}
use Rattle.grammar.specs.Follows.{tree_of}
use Rattle.grammar.specs.Words.{among, range, token_words, own_word, words}
use Rattle.grammar.specs.Words as word
use Rattle.grammar.proofs.Examples.{alone, product-tokens, product, empty-table, number-block, nothing, braced, nested, group-table, nameless}

-- a record: its kind, start and end, two words and flags
abbrev says : ℕ → ℕ → ℕ → ℕ → ℕ → ℕ → Label
says k start end one two flags = record { kind = k; start = start; end = end; one = one; two = two; flags = flags }

abbrev leaf : Label → Trees
leaf l = tree l none

product-tree : tree_of product ≡ tree (says record_of.Program 0 12 0 0 1) (tree (says record_of.Binary 0 12 kind.Mul 0 0) (node (says record_of.TypeCheck 0 8 2 5 0) (leaf (says record_of.Ident 0 1 0 0 0)) (leaf (says record_of.Ident 11 12 0 0 0))))
unfolding product alone shape tree_of before opening tokens_of significant is_trivia kind_of span_of after join
product-tree = refl

empty-table-tree : (text : List ℕ) → tree_of (empty-table text) ≡ tree (says record_of.Program 0 3 0 0 1) (leaf (says record_of.Table 0 3 0 0 0))
unfolding empty-table alone shape tree_of before opening tokens_of significant is_trivia kind_of span_of after join
empty-table-tree text = refl

number-block-tree : tree_of number-block ≡ tree (says record_of.Program 0 3 0 0 1) (tree (says record_of.ExprBlock 0 3 0 0 0) (tree (says record_of.Block 1 3 0 0 1) (leaf (says record_of.Int 1 2 1 0 0))))
unfolding number-block alone shape tree_of before opening tokens_of significant is_trivia kind_of span_of after join literal int_literal kept radix_by radix_of after_prefix sign_by digit_of value_of judged first_of number_of afterwards from_str_radix int_of
number-block-tree = refl

nothing-tree : (text : List ℕ) → tree_of (nothing text) ≡ leaf (says record_of.Program 0 0 0 0 0)
unfolding nothing shape tree_of before opening tokens_of significant after
nothing-tree text = refl

nested-tree : (text : List ℕ) → tree_of (nested text) ≡ tree (says record_of.Program 0 9 0 0 1) (tree (says record_of.ExprBlock 0 9 0 0 0) (tree (says record_of.Block 1 9 0 0 1) (tree (says record_of.Paren 1 8 0 0 0) (tree (says record_of.ExprBlock 2 7 0 0 0) (tree (says record_of.Block 3 7 0 0 1) (tree (says record_of.Paren 3 6 0 0 0) (leaf (says record_of.Ident 4 5 0 0 0))))))))
unfolding nested braced alone shape tree_of before opening tokens_of significant is_trivia kind_of span_of after join
nested-tree text = refl

group-table-tree : tree_of group-table ≡ tree (says record_of.Program 0 8 0 0 1) (tree (says record_of.Table 0 8 0 0 1) (tree (says record_of.TableProperty 1 7 0 0 0) (node (says record_of.Paren 1 4 0 0 0) (leaf (says record_of.Ident 2 3 0 0 0)) (leaf (says record_of.Int 6 7 1 0 0)))))
unfolding group-table alone shape tree_of before opening tokens_of significant is_trivia kind_of span_of after join literal int_literal kept radix_by radix_of after_prefix sign_by digit_of value_of judged first_of number_of afterwards from_str_radix int_of
group-table-tree = refl

nameless-tree : (text : List ℕ) → tree_of (nameless text) ≡ tree (says record_of.Program 0 8 0 0 1) (tree (says record_of.Fn 0 8 0 0 0) (tree (says record_of.Function 0 8 0 0 0) (leaf (says record_of.Block 7 8 0 0 0))))
unfolding nameless alone shape tree_of before opening tokens_of significant is_trivia kind_of span_of after join
nameless-tree text = refl

-- the words of a tree and of its tokens: the type word stands between the names
product-words : words (tree_of product) ≡ range 0 1 ∷ range 5 8 ∷ range 11 12 ∷ []
unfolding product alone shape tree_of before opening tokens_of significant is_trivia kind_of span_of after join words own_word word.type_word among
product-words = refl

product-token-words : token_words (tokens_of product-tokens) ≡ range 0 1 ∷ range 5 8 ∷ range 11 12 ∷ []
unfolding token_words tokens_of among
product-token-words = refl
