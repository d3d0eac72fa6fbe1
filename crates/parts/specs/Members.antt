-- Rust's MemberKind as docs/LAYOUT.md numbers it: `[x]`, `.x` and `::x`, and the same with `#` for the property, which has no record.
use Rattle.std.specs.Prelude.{ℕ, [], ◌∷◌, Bool, true, false, get_or}

abbrev pub Bracket : ℕ
Bracket = 0

abbrev pub Dot : ℕ
Dot = 1

abbrev pub DoubleColon : ℕ
DoubleColon = 2

abbrev pub BracketMeta : ℕ
BracketMeta = 3

abbrev pub DotMeta : ℕ
DotMeta = 4

abbrev pub DoubleColonMeta : ℕ
DoubleColonMeta = 5

-- for the code, by the place of the opening token among `[`, `.` and `::`, and by whether a `#` stands behind it
abbrev pub member_at : ℕ → Bool → ℕ
member_at which false = get_or (Bracket ∷ Dot ∷ DoubleColon ∷ []) which 0
member_at which true = get_or (BracketMeta ∷ DotMeta ∷ DoubleColonMeta ∷ []) which 0
