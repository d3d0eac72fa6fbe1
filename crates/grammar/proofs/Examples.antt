-- Sheets of the table of known outcomes (crates/known/specs/Known.antt) that follow the grammar: their derivations. At the end one that does
-- not.
use Prim.Native.Nat.{ℕ, ◌<◌}
use mathlib.Core.Path.{◌≡◌, refl, sym, ◌∙◌}
use mathlib.Core.List.{List, [], ◌∷◌}
use mathlib.Core.Bool.{true, false}
use borrow.Author.Tests.{eqb-false, leb-true, ltb-true}
use Rattle.kinds.specs.Number as kind
use Rattle.kinds.specs.Spelling.{bytes, equal}
use Rattle.kinds.specs.Kinds.{is_trivia}
use Rattle.kinds.specs.Operators.{binary_of, level_of}
use Rattle.kinds.specs.TypeWords.{type_word}
use Rattle.ints.specs.Spelling.{kept, radix_by, radix_of, after_prefix, sign_by, digit_of, value_of}
use Rattle.ints.specs.Answer.{judged, first_of, number_of, afterwards, from_str_radix, int_of}
use Rattle.types.specs.Lits.{literal, int_literal}
use Rattle.parts.specs.Steps.{checked_type}
use Rattle.grammar.specs.Places.{Place, kind_of, span_of, after, Tok, Not, Free, tokens_of, significant, before}
use Rattle.grammar.specs.Symbols.{Form, Other, Exprs, Stmts, Atom, Prec}
use Rattle.grammar.specs.Derives.{
  signs,
  openers,
  no-brace,
  Derives,
  no-eol,
  an-eol,
  until-of,
  items-end,
  items-final,
  a-literal,
  an-ident,
  no-type,
  params_of,
  exprs-of,
  no-stmt,
  last-stmt,
  a-line,
  block_of,
  function_of,
  expr-stmt,
  expr-of,
  prec-of,
  no-op,
  binary,
  type-check,
  no-unary,
  primary-of,
  no-post,
  paren-expr,
  name,
  table,
  block-expr,
  atom-literal,
  fn-expr,
  property,
  paren-key,
}
use Rattle.grammar.specs.Follows.{Follows}
use Rattle.grammar.specs.Words.{among}
use Rattle.grammar.proofs.Tests.{takes, other, free}
use Rattle.grammar.proofs.FirstKinds.{stmts, apart}
use Rattle.grammar.proofs.Starts.{starts}

-- an atom with nothing behind it that could join it
unfoldable pub alone : {text : List ℕ} {n : ℕ} {f : Form} {p q : Place} → Derives text (Atom f) p q → Free openers q → Not kind.OpenBrace q → level_of (kind_of q) < n → Derives text (Prec n true f) p q
alone d a b c = prec-of (no-unary (primary-of d (no-post a (no-brace b)))) (no-op c)

-- a is int * b
abbrev pub product-text : List ℕ
product-text = bytes "a is int * b"

abbrev pub product-tokens : List ℕ
product-tokens =
    kind.Ident ∷ 0 ∷ 1
    ∷ kind.Whitespace ∷ 1 ∷ 2
    ∷ kind.Is ∷ 2 ∷ 4
    ∷ kind.Whitespace ∷ 4 ∷ 5
    ∷ kind.Ident ∷ 5 ∷ 8
    ∷ kind.Whitespace ∷ 8 ∷ 9
    ∷ kind.Mul ∷ 9 ∷ 10
    ∷ kind.Whitespace ∷ 10 ∷ 11
    ∷ kind.Ident ∷ 11 ∷ 12
    ∷ []

-- `is` has a level of 1 or more and its type word is no operand, so that the product's left side is the whole check
unfoldable pub product : Follows product-text product-tokens
unfolding before tokens_of significant is_trivia kind_of span_of after among level_of binary_of checked_type type_word equal
product = record {
  end = _;
  body =
      exprs-of (no-eol (other refl)) (last-stmt (expr-stmt (prec-of (no-unary (primary-of (name (an-ident (takes refl refl))) (no-post (free refl) (no-brace (other refl)))))
      (type-check (leb-true _ _ refl) (takes refl refl) refl refl
      (binary {k = kind.Mul} (leb-true _ _ refl) (eqb-false _ _ refl) (takes refl refl) (alone (name (an-ident (takes refl refl))) (free refl) (other refl) (ltb-true _ _ refl)) (no-op (ltb-true _ _ refl)))))
      (free refl)) (takes refl refl));
  whole = refl;
}

-- a*b+c
abbrev pub sum-tokens : List ℕ
sum-tokens = kind.Ident ∷ 0 ∷ 1 ∷ kind.Mul ∷ 1 ∷ 2 ∷ kind.Ident ∷ 2 ∷ 3 ∷ kind.Add ∷ 3 ∷ 4 ∷ kind.Ident ∷ 4 ∷ 5 ∷ []

-- a right operand has operators above its own operator's level alone, so that the sum's left side is the product
unfoldable pub sum : (text : List ℕ) → Follows text sum-tokens
unfolding before tokens_of significant is_trivia kind_of after among level_of binary_of
sum text = record {
  end = _;
  body =
      exprs-of (no-eol (other refl)) (last-stmt (expr-stmt (prec-of (no-unary (primary-of (name (an-ident (takes refl refl))) (no-post (free refl) (no-brace (other refl)))))
      (binary {k = kind.Mul} (leb-true _ _ refl) (eqb-false _ _ refl) (takes refl refl) (alone (name (an-ident (takes refl refl))) (free refl) (other refl) (ltb-true _ _ refl))
      (binary {k = kind.Add} (leb-true _ _ refl) (eqb-false _ _ refl) (takes refl refl) (alone (name (an-ident (takes refl refl))) (free refl) (other refl) (ltb-true _ _ refl)) (no-op (ltb-true _ _ refl)))))
      (free refl)) (takes refl refl));
  whole = refl;
}

-- {
-- }
abbrev pub braces : List ℕ
braces = kind.OpenBrace ∷ 0 ∷ 1 ∷ kind.Eol ∷ 1 ∷ 2 ∷ kind.CloseBrace ∷ 2 ∷ 3 ∷ []

unfoldable pub empty-table : (text : List ℕ) → Follows text braces
unfolding before tokens_of significant is_trivia kind_of after among level_of binary_of
empty-table text = record {
  end = _;
  body =
      exprs-of (no-eol (other refl)) (last-stmt (expr-stmt (alone (table (takes refl refl) (until-of (an-eol (takes refl refl) (no-eol (other refl))) (items-end (takes refl refl)))) (free refl) (other refl) (ltb-true _ _ refl))
      (free refl)) (takes refl refl));
  whole = refl;
}

-- {1}
abbrev pub number-tokens : List ℕ
number-tokens = kind.OpenBrace ∷ 0 ∷ 1 ∷ kind.Int ∷ 1 ∷ 2 ∷ kind.CloseBrace ∷ 2 ∷ 3 ∷ []

-- the 1 is no key, since no Colon follows it
unfoldable pub number-block : Follows (bytes "{1}") number-tokens
unfolding before tokens_of significant is_trivia kind_of span_of after among level_of binary_of literal int_literal kept radix_by radix_of after_prefix sign_by digit_of value_of judged first_of number_of afterwards from_str_radix int_of
number-block = record {
  end = _;
  body =
      exprs-of (no-eol (other refl)) (last-stmt (expr-stmt (alone (block-expr (takes refl refl) (no-eol (other refl)) (other refl)
      (exprs-of (no-eol (other refl)) (last-stmt (expr-stmt (alone (atom-literal (a-literal refl refl)) (free refl) (other refl) (ltb-true _ _ refl)) (free refl)) (takes refl refl)))) (free refl) (other refl) (ltb-true _ _ refl))
      (free refl)) (takes refl refl));
  whole = refl;
}

-- the empty sheet
unfoldable pub nothing : (text : List ℕ) → Follows text []
unfolding before tokens_of significant kind_of after
nothing text = record { end = _; body = exprs-of (no-eol (other refl)) (no-stmt (takes refl refl)); whole = refl }

-- {({(x)})}
abbrev pub nested-tokens : List ℕ
nested-tokens =
    kind.OpenBrace ∷ 0 ∷ 1
    ∷ kind.OpenParen ∷ 1 ∷ 2
    ∷ kind.OpenBrace ∷ 2 ∷ 3
    ∷ kind.OpenParen ∷ 3 ∷ 4
    ∷ kind.Ident ∷ 4 ∷ 5
    ∷ kind.CloseParen ∷ 5 ∷ 6
    ∷ kind.CloseBrace ∷ 6 ∷ 7
    ∷ kind.CloseParen ∷ 7 ∷ 8
    ∷ kind.CloseBrace ∷ 8 ∷ 9
    ∷ []

-- a block of one expression
unfoldable pub braced : {text : List ℕ} {f : Form} {p q r s : Place} → Tok kind.OpenBrace p q → Not kind.Eol q → Not kind.CloseBrace q → Derives text (Prec 1 true f) q r → Free signs r → Tok kind.CloseBrace r s → Derives text (Atom Other) p s
braced a b c d e g = block-expr a (no-eol b) c (exprs-of (no-eol b) (last-stmt (expr-stmt d e) g))

unfoldable pub nested : (text : List ℕ) → Follows text nested-tokens
unfolding before tokens_of significant is_trivia kind_of after among level_of binary_of
nested text = record {
  end = _;
  body =
      exprs-of (no-eol (other refl)) (last-stmt (expr-stmt (alone (braced (takes refl refl) (other refl) (other refl)
      (alone (paren-expr (takes refl refl) (expr-of (alone (braced (takes refl refl) (other refl) (other refl)
      (alone (paren-expr (takes refl refl) (expr-of (alone (name (an-ident (takes refl refl))) (free refl) (other refl) (ltb-true _ _ refl))) (takes refl refl)) (free refl) (other refl) (ltb-true _ _ refl)) (free refl) (takes refl refl)) (free refl) (other refl) (ltb-true _ _ refl))) (takes refl refl)) (free refl) (other refl) (ltb-true _ _ refl)) (free refl) (takes refl refl)) (free refl) (other refl) (ltb-true _ _ refl))
      (free refl)) (takes refl refl));
  whole = refl;
}

-- {(x): 1}
abbrev pub key-tokens : List ℕ
key-tokens =
    kind.OpenBrace ∷ 0 ∷ 1
    ∷ kind.OpenParen ∷ 1 ∷ 2
    ∷ kind.Ident ∷ 2 ∷ 3
    ∷ kind.CloseParen ∷ 3 ∷ 4
    ∷ kind.Colon ∷ 4 ∷ 5
    ∷ kind.Whitespace ∷ 5 ∷ 6
    ∷ kind.Int ∷ 6 ∷ 7
    ∷ kind.CloseBrace ∷ 7 ∷ 8
    ∷ []

-- the key's record ends before the colon
unfoldable pub group-table : Follows (bytes "{(x): 1}") key-tokens
unfolding before tokens_of significant is_trivia kind_of span_of after among level_of binary_of literal int_literal kept radix_by radix_of after_prefix sign_by digit_of value_of judged first_of number_of afterwards from_str_radix int_of
group-table = record {
  end = _;
  body =
      exprs-of (no-eol (other refl)) (last-stmt (expr-stmt (alone (table (takes refl refl) (until-of (no-eol (other refl)) (items-final
      (property (paren-key (takes refl refl) (expr-of (alone (name (an-ident (takes refl refl))) (free refl) (other refl) (ltb-true _ _ refl))) (takes refl refl) (takes refl refl))
      (expr-of (alone (atom-literal (a-literal refl refl)) (free refl) (other refl) (ltb-true _ _ refl)))) (no-eol (other refl)) (takes refl refl)))) (free refl) (other refl) (ltb-true _ _ refl))
      (free refl)) (takes refl refl));
  whole = refl;
}

-- fn () {}
abbrev pub function-tokens : List ℕ
function-tokens =
    kind.Fn ∷ 0 ∷ 2
    ∷ kind.Whitespace ∷ 2 ∷ 3
    ∷ kind.OpenParen ∷ 3 ∷ 4
    ∷ kind.CloseParen ∷ 4 ∷ 5
    ∷ kind.Whitespace ∷ 5 ∷ 6
    ∷ kind.OpenBrace ∷ 6 ∷ 7
    ∷ kind.CloseBrace ∷ 7 ∷ 8
    ∷ []

-- a function's block is a block, though nothing stands in it
unfoldable pub nameless : (text : List ℕ) → Follows text function-tokens
unfolding before tokens_of significant is_trivia kind_of after among level_of binary_of
nameless text = record {
  end = _;
  body =
      exprs-of (no-eol (other refl)) (last-stmt (expr-stmt (alone (fn-expr (takes refl refl) (function_of (params_of (takes refl refl) (until-of (no-eol (other refl)) (items-end (takes refl refl))))
      (no-type (other refl)) (block_of (takes refl refl) (exprs-of (no-eol (other refl)) (no-stmt (takes refl refl)))))) (free refl) (other refl) (ltb-true _ _ refl))
      (free refl)) (takes refl refl));
  whole = refl;
}

-- a sheet that begins with a token which begins no statement does not follow the grammar; `)` is one
module _ {text : List ℕ} {p q : Place} (k : ℕ) (here : kind_of p ≡ k) (not_end : k ≡ kind.Eof → ⊥) (none-starts : among k stmts ≡ false) where
  no-stmts : Derives text (Stmts kind.Eof) p q → ⊥
  no-stmts (no-stmt a) = not_end (sym here ∙ a.here)
  no-stmts (last-stmt d a) = (apart k (starts d) none-starts).differs here
  no-stmts (a-line d a b e) = (apart k (starts d) none-starts).differs here

unfollowed : {text : List ℕ} {p q : Place} (k : ℕ) → kind_of p ≡ k → (k ≡ kind.Eof → ⊥) → (k ≡ kind.Eol → ⊥) → among k stmts ≡ false → Derives text (Exprs kind.Eof) p q → ⊥
unfollowed k here not_end not-eol none-starts (exprs-of (no-eol a) d) = no-stmts k here not_end none-starts d
unfollowed k here not_end not-eol none-starts (exprs-of (an-eol a b) d) = not-eol (sym here ∙ a.here)

parenthesis : (text : List ℕ) → Follows text (kind.CloseParen ∷ 0 ∷ 1 ∷ []) → ⊥
unfolding before tokens_of significant is_trivia kind_of among
parenthesis text f = unfollowed kind.CloseParen refl (eqb-false _ _ refl) (eqb-false _ _ refl) refl f.body
