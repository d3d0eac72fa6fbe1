-- A row of bytes as one number.
use Rattle.std.specs.Prelude.{ℕ, ◌+◌, ◌*◌, List, [], ◌∷◌}

-- the number that bytes spell, the lowest first
unfoldable pub little : List ℕ → ℕ
little [] = 0
little (b ∷ t) = b + 0x100 * little t
