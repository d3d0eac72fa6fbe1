-- What the contracts of a stream of pieces cite. Assumes nothing.
use Rattle.std.specs.Prelude.{ℕ, ◌+◌, ◌*◌, ◌/◌, ◌%◌, ◌≤◌, List, [], ◌∷◌, ◌++◌, Option, Some, None, codes, length}
use Rattle.std.specs.Fmt.{decimal}
use Rattle.std.specs.Io.KnownBytes.{Consumes}

-- the number that four bytes spell, the lowest first
abbrev pub spelled : ℕ → ℕ → ℕ → ℕ → ℕ
spelled a b c d = a + 256 * b + 65536 * c + 16777216 * d

-- the four bytes that spell a number below 2^32
abbrev pub four_bytes : ℕ → List ℕ
four_bytes n = n % 256 ∷ n / 256 % 256 ∷ n / 65536 % 256 ∷ n / 16777216 % 256 ∷ []

-- a piece is no longer than the room for it
abbrev pub Fits : Option ℕ → ℕ → Type 0
Fits (Some n) room = n ≤ room
Fits None room = Unit {0}

-- what was read is four bytes and, no longer than they spell, the bytes of a piece
abbrev pub IsPiece : Option (List ℕ) → Option (List ℕ) → List ℕ → Type 0
IsPiece before after piece = (a b c d : ℕ) × (length piece ≤ spelled a b c d) × Consumes before after (a ∷ b ∷ c ∷ d ∷ piece)

-- the last piece: a number in decimal, and what it counts
abbrev pub count_line : ℕ → List ℕ
count_line n = decimal n ++ codes " sheets\n"
