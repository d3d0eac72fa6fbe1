-- What one entry of the table over the kinds says.
use Rattle.std.specs.Prelude.{ℕ, ◌/◌, ◌%◌, Bool, true, false, ◌≡◌}
use Rattle.kinds.specs.Kinds.{is_trivia}
use Rattle.kinds.specs.Operators.{level_of}
use Rattle.kinds.specs.Listing.{name_place}

abbrev pub flag : Bool → ℕ
flag true = 1
flag false = 0

-- the entry of a kind: its lowest digit of four bits is the trivia flag, the next one the level, the rest the place of the name
pub record Row (kind entry : ℕ) : Type 0 where
  pub trivia : entry % 16 ≡ flag (is_trivia kind)
  pub level : entry / 16 % 16 ≡ level_of kind
  pub name : entry / 256 ≡ name_place kind
