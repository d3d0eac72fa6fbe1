-- The sheets with known outcomes, those that the document marks P, in its order. What the document leaves open of a row is taken from parser.rs
-- and from the answer of the original (oracle/), for the last row from the oracle's answer by the document's rule for attempts; nothing is
-- taken from what our rules compute.
use Rattle.std.specs.Prelude.{ℕ, zero, suc, ◌-◌, ◌*◌, ◌^◌, ◌≡◌, List, [], ◌∷◌, ◌++◌, map, length, take, drop}
use Rattle.kinds.specs.Number as kind
use Rattle.kinds.specs.Spelling.{bytes}
use Rattle.cursor.specs.declared.Label.{Label}
use Rattle.cursor.specs.Layout.{node_words, error_words}
use Rattle.cursor.specs.Node as record_of
use Rattle.cursor.specs.Tree.{Trees, none, node, tree, meaning}
use Rattle.parser.specs.Outcome.{Outcome}
use Rattle.parser.specs.Parse.{parse}

-- a token: its kind, its start and its end
abbrev pub Token : Type 0
Token = ℕ × ℕ × ℕ

-- the words of tokens, three each
abbrev pub words : List Token → List ℕ
words [] = []
words (t ∷ ts) = t.0 ∷ t.1 ∷ t.2 ∷ words ts

-- what a caller sees of an outcome: the number, the four counts, the tree whose root is the last record, the words of the errors, the kinds
-- that they list, and what else the buffers hold past the counts
pub record Seen : Type 0 where
  pub number : ℕ
  pub reads : ℕ
  pub nodes : ℕ
  pub errors : ℕ
  pub expected : ℕ
  pub tree : Trees
  pub faults : List ℕ
  pub kinds : List ℕ
  pub stray : List ℕ

-- the words that are not 0
abbrev pub others : List ℕ → List ℕ
others [] = []
others (zero ∷ xs) = others xs
others (suc a ∷ xs) = suc a ∷ others xs

-- the words past the first k that are not 0
abbrev pub past : ℕ → List ℕ → List ℕ
past k xs = others (drop k xs)

-- what is to be seen of an outcome. The tree is the node buffer's meaning at its last record, wherever its records lie
unfoldable pub seen : Outcome → Seen
seen o = record {
  number = o.number;
  reads = o.reads;
  nodes = o.nodes;
  errors = o.errors;
  expected = o.expected;
  tree = meaning o.records (o.nodes - 1);
  faults = take (error_words * o.errors) o.faults;
  kinds = take o.expected o.kinds;
  stray = past (node_words * o.nodes) o.records ++ past (error_words * o.errors) o.faults ++ past o.expected o.kinds;
}

-- what the lister allows and lends: readings, and the words of 1,024 node records, the words of 16 error records, and 1,024 expected kinds
abbrev pub allowance : ℕ
allowance = 100000

abbrev pub node_room : ℕ
node_room = node_words * 1024

abbrev pub error_room : ℕ
error_room = error_words * 16

abbrev pub expected_room : ℕ
expected_room = 1024

-- a sheet and what is to be seen of its outcome
pub record Row : Type 0 where
  pub text : List ℕ
  pub tokens : List Token
  pub outcome : Seen

-- a record: its kind, start and end, and ONE, TWO and FLAGS
abbrev pub says : ℕ → ℕ → ℕ → ℕ → ℕ → ℕ → Label
says k start end one two flags = record { kind = k; start = start; end = end; one = one; two = two; flags = flags }

-- a record with nothing but its range
abbrev pub plain : ℕ → ℕ → ℕ → Label
plain k start end = says k start end 0 0 0

-- a record over a list of n
abbrev pub over : ℕ → ℕ → ℕ → ℕ → Label
over k start end n = says k start end 0 0 n

-- a row of one record with no child
abbrev pub leaf : Label → Trees
leaf l = tree l none

-- read without an error: readings, node records and the tree
abbrev pub good : ℕ → ℕ → Trees → Seen
good reads nodes t = record { number = 0; reads = reads; nodes = nodes; errors = 0; expected = 0; tree = t; faults = []; kinds = []; stray = [] }

-- read with one error, an unexpected token: readings, node records and the tree; the kind found, its range, and the kinds expected
abbrev pub flawed : ℕ → ℕ → Trees → ℕ → ℕ → ℕ → List ℕ → Seen
flawed reads nodes t found start end kinds = record { number = 0; reads = reads; nodes = nodes; errors = 1; expected = length kinds; tree = t; faults = 0 ∷ found ∷ start ∷ end ∷ 0 ∷ length kinds ∷ []; kinds = kinds; stray = [] }

-- the empty sheet: an empty Program from 0 to 0
abbrev pub empty : Row
empty = record { text = []; tokens = []; outcome = good 0 1 (leaf (over record_of.Program 0 0 0)) }

-- a is int * b
-- ONE of a TypeCheck is the place of int among the type words, null's being 0; TWO is where the word starts
abbrev pub check-then-product : Row
check-then-product = record {
  text = bytes "a is int * b";
  tokens =
      (kind.Ident, 0, 1)
      ∷ (kind.Whitespace, 1, 2)
      ∷ (kind.Is, 2, 4)
      ∷ (kind.Whitespace, 4, 5)
      ∷ (kind.Ident, 5, 8)
      ∷ (kind.Whitespace, 8, 9)
      ∷ (kind.Mul, 9, 10)
      ∷ (kind.Whitespace, 10, 11)
      ∷ (kind.Ident, 11, 12)
      ∷ [];
  outcome =
      good 5 5
      (tree (over record_of.Program 0 12 1)
      (tree (says record_of.Binary 0 12 kind.Mul 0 0)
      (node (says record_of.TypeCheck 0 8 2 5 0) (leaf (plain record_of.Ident 0 1)) (leaf (plain record_of.Ident 11 12)))));
}

-- {
-- }
abbrev pub empty-braces : Row
empty-braces = record {
  text = bytes "{" ++ 10 ∷ bytes "}";
  tokens = (kind.OpenBrace, 0, 1) ∷ (kind.Eol, 1, 2) ∷ (kind.CloseBrace, 2, 3) ∷ [];
  outcome = good 3 2 (tree (over record_of.Program 0 3 1) (leaf (over record_of.Table 0 3 0)));
}

-- {1}
-- A Block starts behind its brace, unlike the expression that it is
abbrev pub number-block : Row
number-block = record {
  text = bytes "{1}";
  tokens = (kind.OpenBrace, 0, 1) ∷ (kind.Int, 1, 2) ∷ (kind.CloseBrace, 2, 3) ∷ [];
  outcome =
      good 4 4
      (tree (over record_of.Program 0 3 1)
      (tree (plain record_of.ExprBlock 0 3) (tree (over record_of.Block 1 3 1) (leaf (says record_of.Int 1 2 1 0 0)))));
}

-- {(x)}
abbrev pub group-block : Row
group-block = record {
  text = bytes "{(x)}";
  tokens =
      (kind.OpenBrace, 0, 1)
      ∷ (kind.OpenParen, 1, 2)
      ∷ (kind.Ident, 2, 3)
      ∷ (kind.CloseParen, 3, 4)
      ∷ (kind.CloseBrace, 4, 5)
      ∷ [];
  outcome =
      good 8 5
      (tree (over record_of.Program 0 5 1)
      (tree (plain record_of.ExprBlock 0 5)
      (tree (over record_of.Block 1 5 1) (tree (plain record_of.Paren 1 4) (leaf (plain record_of.Ident 2 3))))));
}

-- {(x): 1}
abbrev pub group-table : Row
group-table = record {
  text = bytes "{(x): 1}";
  tokens =
      (kind.OpenBrace, 0, 1)
      ∷ (kind.OpenParen, 1, 2)
      ∷ (kind.Ident, 2, 3)
      ∷ (kind.CloseParen, 3, 4)
      ∷ (kind.Colon, 4, 5)
      ∷ (kind.Whitespace, 5, 6)
      ∷ (kind.Int, 6, 7)
      ∷ (kind.CloseBrace, 7, 8)
      ∷ [];
  outcome =
      good 7 6
      (tree (over record_of.Program 0 8 1)
      (tree (over record_of.Table 0 8 1)
      (tree (plain record_of.TableProperty 1 7)
      (node (plain record_of.Paren 1 4) (leaf (plain record_of.Ident 2 3)) (leaf (says record_of.Int 6 7 1 0 0))))));
}

-- {({(x)})}
abbrev pub nested-blocks : Row
nested-blocks = record {
  text = bytes "{({(x)})}";
  tokens =
      (kind.OpenBrace, 0, 1)
      ∷ (kind.OpenParen, 1, 2)
      ∷ (kind.OpenBrace, 2, 3)
      ∷ (kind.OpenParen, 3, 4)
      ∷ (kind.Ident, 4, 5)
      ∷ (kind.CloseParen, 5, 6)
      ∷ (kind.CloseBrace, 6, 7)
      ∷ (kind.CloseParen, 7, 8)
      ∷ (kind.CloseBrace, 8, 9)
      ∷ [];
  outcome =
      good 22 8
      (tree (over record_of.Program 0 9 1)
      (tree (plain record_of.ExprBlock 0 9)
      (tree (over record_of.Block 1 9 1)
      (tree (plain record_of.Paren 1 8)
      (tree (plain record_of.ExprBlock 2 7)
      (tree (over record_of.Block 3 7 1) (tree (plain record_of.Paren 3 6) (leaf (plain record_of.Ident 4 5)))))))));
}

-- fn () {}
abbrev pub nameless-function : Row
nameless-function = record {
  text = bytes "fn () {}";
  tokens =
      (kind.Fn, 0, 2)
      ∷ (kind.Whitespace, 2, 3)
      ∷ (kind.OpenParen, 3, 4)
      ∷ (kind.CloseParen, 4, 5)
      ∷ (kind.Whitespace, 5, 6)
      ∷ (kind.OpenBrace, 6, 7)
      ∷ (kind.CloseBrace, 7, 8)
      ∷ [];
  outcome =
      good 6 4
      (tree (over record_of.Program 0 8 1)
      (tree (plain record_of.Fn 0 8) (tree (over record_of.Function 0 8 0) (leaf (over record_of.Block 7 8 0)))));
}

-- what a statement may start with, in the order in which it is asked for
abbrev pub starts : List ℕ
starts = 29 ∷ 21 ∷ 31 ∷ 20 ∷ 24 ∷ 65 ∷ 27 ∷ 50 ∷ 4 ∷ 52 ∷ 54 ∷ 29 ∷ 63 ∷ 30 ∷ 10 ∷ 12 ∷ 13 ∷ 14 ∷ 15 ∷ 17 ∷ 18 ∷ 19 ∷ []

-- )
-- The token is skipped, which is one reading
abbrev pub lone-parenthesis : Row
lone-parenthesis = record {
  text = bytes ")";
  tokens = (kind.CloseParen, 0, 1) ∷ [];
  outcome = flawed 1 1 (leaf (over record_of.Program 0 1 0)) 51 0 1 (70 ∷ starts);
}

-- import a
-- The statement gives its records back, so that the program is empty
abbrev pub import-alone : Row
import-alone = record {
  text = bytes "import a";
  tokens = (kind.Import, 0, 6) ∷ (kind.Whitespace, 6, 7) ∷ (kind.Ident, 7, 8) ∷ [];
  outcome = flawed 2 1 (leaf (over record_of.Program 0 8 0)) 70 8 8 (36 ∷ 69 ∷ 22 ∷ []);
}

-- fn f () {+}
-- The function is kept, with an empty block; the second flag of a Fn says that it has a name. Expected is what `)` expects, with the
-- block's end in the place of Eof
abbrev pub broken-body : Row
broken-body = record {
  text = bytes "fn f () {+}";
  tokens =
      (kind.Fn, 0, 2)
      ∷ (kind.Whitespace, 2, 3)
      ∷ (kind.Ident, 3, 4)
      ∷ (kind.Whitespace, 4, 5)
      ∷ (kind.OpenParen, 5, 6)
      ∷ (kind.CloseParen, 6, 7)
      ∷ (kind.Whitespace, 7, 8)
      ∷ (kind.OpenBrace, 8, 9)
      ∷ (kind.Add, 9, 10)
      ∷ (kind.CloseBrace, 10, 11)
      ∷ [];
  outcome =
      flawed 7 5
      (tree (over record_of.Program 0 11 1)
      (tree (says record_of.Fn 0 11 0 0 (2 ^ 31))
      (node (plain record_of.Ident 3 4) none (tree (over record_of.Function 0 11 0) (leaf (over record_of.Block 9 11 0)))))) 64 9 10 (53 ∷ starts);
}

-- the table
abbrev pub table : List Row
table =
    empty
    ∷ check-then-product
    ∷ empty-braces
    ∷ number-block
    ∷ group-block
    ∷ group-table
    ∷ nested-blocks
    ∷ nameless-function
    ∷ lone-parenthesis
    ∷ import-alone
    ∷ broken-body
    ∷ []

-- what is to be seen of a row's sheet, parsed into these buffers
abbrev pub parsed : List ℕ → List ℕ → List ℕ → Row → Seen
parsed n e x row = seen (parse row.text (words row.tokens) allowance n e x)

-- the claim: of every row, `parse` comes to what it says, in buffers of the lister's lengths, whatever they held
abbrev pub Known : Type 0
Known = (n e x : List ℕ) → length n ≡ node_room → length e ≡ error_room → length x ≡ expected_room → map (parsed n e x) table ≡ map (λ row. row.outcome) table
