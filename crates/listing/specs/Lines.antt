-- The lines of a listing. Fields stand one space apart, and a line ends in a newline.
use Rattle.std.specs.Prelude.{ℕ, ◌+◌, ◌*◌, ◌^◌, List, [], ◌∷◌, ◌++◌, map, eqb, get_or, take, drop}
use Rattle.kinds.specs.Spelling.{bytes, whether}
use Rattle.cursor.specs.declared.Label.{Label}
use Rattle.cursor.specs.Node as node
use Rattle.cursor.specs.Layout.{CLASS, FAULTY_INT, FOUND, ERROR_START, ERROR_END, KINDS_FROM, KINDS_COUNT, error_cell}
use Rattle.listing.specs.Decimal.{decimal, integer}
use Rattle.listing.specs.Names.{record_name, detail_name}

-- further fields of a line, each after a space
unfoldable pub fields : List (List ℕ) → List ℕ
fields [] = []
fields (f ∷ fs) = 32 ∷ (f ++ fields fs)

-- a line: its first field, the others, a newline
abbrev pub line : List ℕ → List (List ℕ) → List ℕ
line f fs = f ++ (fields fs ++ (10 ∷ []))

-- an integer's value, an operator or a checked type; others have no detail
unfoldable pub detail : Label → List (List ℕ)
detail l = whether (eqb l.kind node.Int) (integer (l.one + 2 ^ 32 * l.two) ∷ []) (detail_name l.kind l.one)

-- level, kind, start, end, detail
unfoldable pub node_line : ℕ → Label → List ℕ
node_line level l = line (decimal level) (record_name l.kind ∷ decimal l.start ∷ decimal l.end ∷ detail l)

-- the token kind that was found, or `int` and an integer's fault
unfoldable pub found : ℕ → ℕ → List (List ℕ)
found class what = whether (eqb class FAULTY_INT) (bytes "int" ∷ decimal what ∷ []) (decimal what ∷ [])

-- word k of error record i
abbrev pub error_word : List ℕ → ℕ → ℕ → ℕ
error_word errors i k = get_or errors (error_cell i k) 0

-- the kinds that error record i lists, as many as the expected buffer has
abbrev pub kinds_of : List ℕ → List ℕ → ℕ → List ℕ
kinds_of errors expected i = take (error_word errors i KINDS_COUNT) (drop (error_word errors i KINDS_FROM) expected)

-- `error`, what was found, start, end, expected kinds
unfoldable pub error_line : List ℕ → List ℕ → ℕ → List ℕ
error_line errors expected i =
    line (bytes "error")
    (found (error_word errors i CLASS) (error_word errors i FOUND) ++ (decimal (error_word errors i ERROR_START) ∷ decimal (error_word errors i ERROR_END) ∷ map decimal (kinds_of errors expected i)))

-- answer, readings, node records, errors
unfoldable pub first_line : ℕ → ℕ → ℕ → List ℕ
first_line reads nodes errors = line (bytes "read") (bytes "0" ∷ bytes "reads" ∷ decimal reads ∷ bytes "nodes" ∷ decimal nodes ∷ bytes "errors" ∷ decimal errors ∷ [])

-- `refused` and the number
unfoldable pub refusal_line : ℕ → List ℕ
refusal_line number = line (bytes "refused") (decimal number ∷ [])
