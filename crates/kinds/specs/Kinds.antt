-- The kinds of token: their names, their numbers, and which of them are trivia.
use Rattle.std.specs.Prelude.{ℕ, zero, suc, Bool, true, false, List, [], ◌∷◌, get_or}
use Prim.Native.String.{String}
use lib.Text.{eqt}
use Rattle.kinds.specs.Spelling.{whether}

-- the kinds in the order in which token.rs declares them: a kind's number is its place here, counted from 0
abbrev pub order : List String
order =
    "LineComment"
    ∷ "BlockComment"
    ∷ "Whitespace"
    ∷ "EscapedNewline"
    ∷ "Ident"
    ∷ "Int"
    ∷ "Float"
    ∷ "Str"
    ∷ "RawStr"
    ∷ "ByteStr"
    ∷ "If"
    ∷ "Else"
    ∷ "Match"
    ∷ "Loop"
    ∷ "While"
    ∷ "For"
    ∷ "In"
    ∷ "Break"
    ∷ "Continue"
    ∷ "Return"
    ∷ "Glo"
    ∷ "Import"
    ∷ "As"
    ∷ "Is"
    ∷ "Not"
    ∷ "And"
    ∷ "Or"
    ∷ "Try"
    ∷ "With"
    ∷ "Fn"
    ∷ "Do"
    ∷ "Effect"
    ∷ "Null"
    ∷ "True"
    ∷ "False"
    ∷ "Ellipsis"
    ∷ "DoubleColon"
    ∷ "Arrow"
    ∷ "FatArrow"
    ∷ "Eq"
    ∷ "NotEq"
    ∷ "LtEq"
    ∷ "GtEq"
    ∷ "AddAssign"
    ∷ "SubAssign"
    ∷ "MulAssign"
    ∷ "DivAssign"
    ∷ "RemAssign"
    ∷ "Comma"
    ∷ "Dot"
    ∷ "OpenParen"
    ∷ "CloseParen"
    ∷ "OpenBrace"
    ∷ "CloseBrace"
    ∷ "OpenBracket"
    ∷ "CloseBracket"
    ∷ "Pound"
    ∷ "Question"
    ∷ "Exclamation"
    ∷ "Colon"
    ∷ "Assign"
    ∷ "Lt"
    ∷ "Gt"
    ∷ "VBar"
    ∷ "Add"
    ∷ "Sub"
    ∷ "Mul"
    ∷ "Div"
    ∷ "Rem"
    ∷ "Eol"
    ∷ "Eof"
    ∷ "Unknown"
    ∷ "UnterminatedBlockComment"
    ∷ "EmptyInt"
    ∷ "EmptyExponentFloat"
    ∷ "NonDecimalFloat"
    ∷ "UnterminatedStr"
    ∷ "UnterminatedRawStr"
    ∷ "UnterminatedByteStr"
    ∷ []

-- the name of the kind with a number; no kind has the empty one
abbrev pub kind_name : ℕ → String
kind_name k = get_or order k ""

-- how many stand before a name in a list
abbrev pub place_in : String → List String → ℕ
place_in s [] = zero
place_in s (t ∷ ts) = whether (eqt s t) zero (suc (place_in s ts))

-- the number of the kind with a name
abbrev pub kind_number : String → ℕ
kind_number s = place_in s order

abbrev pub among : String → List String → Bool
among s [] = false
among s (t ∷ ts) = whether (eqt s t) true (among s ts)

-- the kinds that is_trivia of token.rs lists
abbrev pub trivia : List String
trivia = "LineComment" ∷ "BlockComment" ∷ "Whitespace" ∷ "EscapedNewline" ∷ []

unfoldable pub is_trivia : ℕ → Bool
is_trivia k = among (kind_name k) trivia
