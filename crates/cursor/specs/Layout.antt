-- The places of the words in a record. docs/LAYOUT.md says what each record kind keeps in them.
use Rattle.std.specs.Prelude.{ℕ, ◌+◌, ◌*◌}

-- a node record: kind, start, end, the link to its first child, the link to the next child of its parent, two words of its own, flags.
-- A link is 0 for none, otherwise the record's index and 1
abbrev pub node_words : ℕ
node_words = 8

abbrev pub KIND : ℕ
KIND = 0

abbrev pub START : ℕ
START = 1

abbrev pub END : ℕ
END = 2

abbrev pub FIRST : ℕ
FIRST = 3

abbrev pub NEXT : ℕ
NEXT = 4

abbrev pub ONE : ℕ
ONE = 5

abbrev pub TWO : ℕ
TWO = 6

abbrev pub FLAGS : ℕ
FLAGS = 7

-- where a word of a record stands in the buffer
abbrev pub cell : ℕ → ℕ → ℕ
cell i k = node_words * i + k

-- an error record: class, what was found, start, end, the place of its first expected kind in the expected buffer, how many there are
abbrev pub error_words : ℕ
error_words = 6

abbrev pub CLASS : ℕ
CLASS = 0

-- what CLASS says: an unexpected token, or an integer with a fault
abbrev pub UNEXPECTED : ℕ
UNEXPECTED = 0

abbrev pub FAULTY_INT : ℕ
FAULTY_INT = 1

abbrev pub FOUND : ℕ
FOUND = 1

abbrev pub ERROR_START : ℕ
ERROR_START = 2

abbrev pub ERROR_END : ℕ
ERROR_END = 3

abbrev pub KINDS_FROM : ℕ
KINDS_FROM = 4

abbrev pub KINDS_COUNT : ℕ
KINDS_COUNT = 5

-- where a word of an error record stands in its buffer
abbrev pub error_cell : ℕ → ℕ → ℕ
error_cell i k = error_words * i + k

-- the most records of each sort, and the most expected kinds that 64 errors can list
abbrev pub node_limit : ℕ
node_limit = 8192

abbrev pub error_limit : ℕ
error_limit = 64

abbrev pub expected_limit : ℕ
expected_limit = 65536
