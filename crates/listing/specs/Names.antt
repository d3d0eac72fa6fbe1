-- How the lister spells record kinds, operators and checked types: the Rust's cases, docs/LAYOUT.md's column 'listed as'.
use Rattle.std.specs.Prelude.{ℕ, List, [], ◌∷◌, ◌++◌, Option, Some, None, eqb, get_or, drop}
use Prim.Native.String.{String}
use Rattle.kinds.specs.Number as kind
use Rattle.kinds.specs.Spelling.{bytes, whether}
use Rattle.kinds.specs.Listing.{listing_name, spaced, name_bytes, up_to_space}
use Rattle.kinds.specs.TypeWords.{type_names}
use Rattle.cursor.specs.Node as node

-- the names of the record kinds, from 0, which is no record, to 52
abbrev pub record_names : List String
record_names =
    ""
    ∷ "Null"
    ∷ "Bool"
    ∷ "Int"
    ∷ "Float"
    ∷ "Str"
    ∷ "Bytes"
    ∷ "Ident"
    ∷ "Paren"
    ∷ "Block"
    ∷ "Fn"
    ∷ "Effect"
    ∷ "Table"
    ∷ "List"
    ∷ "Unary"
    ∷ "Binary"
    ∷ "TypeCheck"
    ∷ "Member"
    ∷ "Call"
    ∷ "If"
    ∷ "Match"
    ∷ "Loop"
    ∷ "While"
    ∷ "For"
    ∷ "Break"
    ∷ "Continue"
    ∷ "Return"
    ∷ "Import"
    ∷ "GloAssign"
    ∷ "Assign"
    ∷ "AssignOp"
    ∷ "AssignUnpack"
    ∷ "AssignMulti"
    ∷ "Program"
    ∷ "Block"
    ∷ "Function"
    ∷ "Closure"
    ∷ "Do"
    ∷ "Effect"
    ∷ "EffectHandler"
    ∷ "TypedIdent"
    ∷ "TableProperty"
    ∷ "MatchCase"
    ∷ "ImportItem"
    ∷ "Table"
    ∷ "List"
    ∷ "TablePatternPair"
    ∷ "Paren"
    ∷ "Table"
    ∷ "Function"
    ∷ "Union"
    ∷ "TableTyPair"
    ∷ "TableTyOther"
    ∷ []

-- a number that no record kind has, as a damaged buffer can hold, has an empty name
unfoldable pub record_name : ℕ → List ℕ
record_name k = bytes (get_or record_names k "")

-- UnOp's cases, by the operator's token kind
unfoldable pub unary_name : ℕ → List ℕ
unary_name op = whether (eqb op kind.Not) (bytes "Not") (whether (eqb op kind.Sub) (bytes "Neg") [])

-- BinOp's cases, by the operator's token kind
unfoldable pub binary_name : ℕ → List ℕ
binary_name op = bytes (listing_name op)

-- ValueType's cases, by the type's number
unfoldable pub type_name : ℕ → List ℕ
type_name n = bytes (get_or type_names n "")

-- the name that a record of a kind, with a word of its own, has as its detail: the operator or the checked type; others have none
unfoldable pub detail_name : ℕ → ℕ → List (List ℕ)
detail_name k one =
    whether (eqb k node.Unary) (unary_name one ∷ [])
    (whether (eqb k node.Binary) (binary_name one ∷ [])
    (whether (eqb k node.AssignOp) (binary_name one ∷ [])
    (whether (eqb k node.TypeCheck) (type_name one ∷ [])
    [])))

-- the names that the token kinds lack, in the order in which they are kept
abbrev pub other_names : List String
other_names =
    "Paren"
    ∷ "Block"
    ∷ "Fn"
    ∷ "List"
    ∷ "Unary"
    ∷ "Binary"
    ∷ "TypeCheck"
    ∷ "Member"
    ∷ "Call"
    ∷ "If"
    ∷ "Match"
    ∷ "Loop"
    ∷ "While"
    ∷ "For"
    ∷ "Break"
    ∷ "Continue"
    ∷ "Return"
    ∷ "Import"
    ∷ "GloAssign"
    ∷ "Assign"
    ∷ "AssignOp"
    ∷ "AssignUnpack"
    ∷ "AssignMulti"
    ∷ "Program"
    ∷ "Closure"
    ∷ "Do"
    ∷ "EffectHandler"
    ∷ "TypedIdent"
    ∷ "TableProperty"
    ∷ "MatchCase"
    ∷ "ImportItem"
    ∷ "TablePatternPair"
    ∷ "Union"
    ∷ "TableTyPair"
    ∷ "TableTyOther"
    ∷ "Neg"
    ∷ []

unfoldable pub other_bytes : List ℕ
other_bytes = bytes (spaced other_names)

-- the bytes of all names, each with a space behind it: those of the token kinds and types, and the others
unfoldable pub letters : List ℕ
letters = name_bytes ++ other_bytes

-- the name that starts at a place
unfoldable pub name_from : ℕ → List ℕ
name_from place = up_to_space (drop place letters)

abbrev pub word_of : Option ℕ → List (List ℕ)
word_of (Some place) = name_from place ∷ []
word_of None = []
