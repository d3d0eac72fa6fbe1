-- The types of values and the words for them after `is`.
use Rattle.std.specs.Prelude.{ℕ, List, [], ◌∷◌, get_or, Option, Some, None}
use Prim.Native.String.{String}
use Rattle.kinds.specs.declared.types.ValueType.{ValueType}
use Rattle.kinds.specs.declared.types.ValueType.TheVariants.{
  Null,
  Bool,
  Int,
  Float,
  Str,
  Bytes,
  Table,
  Function,
  Effect,
  UserData,
}
use Rattle.kinds.specs.Spelling.{bytes, whether, equal}
use Rattle.kinds.specs.Listing.{place_of}

-- the nine words, each with its type: the match of parse_expr_precedence, where null is told by its kind
abbrev pub words : List (String × ValueType)
words =
    ("bool", Bool)
    ∷ ("int", Int)
    ∷ ("float", Float)
    ∷ ("str", Str)
    ∷ ("bytes", Bytes)
    ∷ ("table", Table)
    ∷ ("function", Function)
    ∷ ("effect", Effect)
    ∷ ("userdata", UserData)
    ∷ []

-- the type whose word has just these bytes
abbrev pub word_in : List ℕ → List (String × ValueType) → Option ValueType
word_in b [] = None
word_in b (p ∷ ps) = whether (equal b (bytes p.0)) (Some p.1) (word_in b ps)

unfoldable pub type_word : List ℕ → Option ValueType
type_word b = word_in b words

-- the types in ValueType's order, counted from 0
abbrev pub type_number : ValueType → ℕ
type_number Null = 0
type_number Bool = 1
type_number Int = 2
type_number Float = 3
type_number Str = 4
type_number Bytes = 5
type_number Table = 6
type_number Function = 7
type_number Effect = 8
type_number UserData = 9

-- their listing names, in the same order
abbrev pub type_names : List String
type_names = "Null" ∷ "Bool" ∷ "Int" ∷ "Float" ∷ "Str" ∷ "Bytes" ∷ "Table" ∷ "Function" ∷ "Effect" ∷ "UserData" ∷ []

-- where the listing name of the type with a number starts among the names, 0 (the empty name) where no type has it
unfoldable pub type_name_place : ℕ → ℕ
type_name_place n = place_of (get_or type_names n "")
