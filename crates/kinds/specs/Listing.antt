-- How the lister spells what a token becomes: the Rust's case of it.
use Rattle.std.specs.Prelude.{ℕ, zero, suc, ◌+◌, List, [], ◌∷◌, eqb, drop, Option, Some, None}
use Prim.Native.String.{String, ◌++◌, len}
use lib.Text.{eqt}
use Rattle.kinds.specs.declared.operator.BinOp.{BinOp}
use Rattle.kinds.specs.Spelling.{bytes, whether}
use Rattle.kinds.specs.Kinds.{kind_name}
use Rattle.kinds.specs.Operators.{binary, compound, beside, case_of}

-- the kinds that become a name, a literal or `not`, each with its case: Ident; LitKind's; UnOp's
abbrev pub leaves : List (String × String)
leaves =
    ("Ident", "Ident")
    ∷ ("Int", "Int")
    ∷ ("Float", "Float")
    ∷ ("Str", "Str")
    ∷ ("RawStr", "Str")
    ∷ ("ByteStr", "Bytes")
    ∷ ("Null", "Null")
    ∷ ("True", "Bool")
    ∷ ("False", "Bool")
    ∷ ("Not", "Not")
    ∷ []

-- the case of an operator, or else the other answer
abbrev pub operator_or : Option BinOp → String → String
operator_or (Some op) s = case_of op
operator_or None s = s

abbrev pub leaf_or : String → List (String × String) → String → String
leaf_or s [] other = other
leaf_or s (p ∷ ps) other = whether (eqt s p.0) p.1 (leaf_or s ps other)

-- the listing name of a token kind, empty where it has none
abbrev pub listed : String → String
listed s = leaf_or s leaves (operator_or (beside s binary) (operator_or (beside s compound) ""))

unfoldable pub listing_name : ℕ → String
listing_name k = listed (kind_name k)

-- every listing name, in the order in which they are kept; the empty one first
abbrev pub names : List String
names =
    ""
    ∷ "Ident"
    ∷ "Int"
    ∷ "Float"
    ∷ "Str"
    ∷ "Bytes"
    ∷ "Null"
    ∷ "Bool"
    ∷ "Not"
    ∷ "Add"
    ∷ "Sub"
    ∷ "Mul"
    ∷ "Div"
    ∷ "Rem"
    ∷ "And"
    ∷ "Or"
    ∷ "Eq"
    ∷ "Ne"
    ∷ "Lt"
    ∷ "Le"
    ∷ "Gt"
    ∷ "Ge"
    ∷ "Is"
    ∷ "Table"
    ∷ "Function"
    ∷ "Effect"
    ∷ "UserData"
    ∷ []

-- names in a row, each with a space behind it
abbrev pub spaced : List String → String
spaced [] = ""
spaced (s ∷ ss) = s ++ (" " ++ spaced ss)

-- the bytes of all names
unfoldable pub name_bytes : List ℕ
name_bytes = bytes (spaced names)

-- where a name starts in that row
abbrev pub start_in : String → List String → ℕ
start_in s [] = zero
start_in s (t ∷ ts) = whether (eqt s t) zero (suc (len t) + start_in s ts)

abbrev pub place_of : String → ℕ
place_of s = start_in s names

unfoldable pub name_place : ℕ → ℕ
name_place k = place_of (listing_name k)

-- what stands before the first space
abbrev pub up_to_space : List ℕ → List ℕ
up_to_space [] = []
up_to_space (b ∷ rest) = whether (eqb b 32) [] (b ∷ up_to_space rest)

-- the name that starts at a place of the row
unfoldable pub name_at : ℕ → List ℕ
name_at place = up_to_space (drop place name_bytes)
