-- A FLAGS word taken apart, in the words of docs/LAYOUT.md: it is n + 2^15·m + 2^30·one + 2^31·two.
use Rattle.std.specs.Prelude.{ℕ, ◌/◌, ◌%◌, ◌^◌, Bool, eqb}

-- the lengths of two lists, of 15 bits each, and two flags
pub record Flags : Type 0 where
  pub n : ℕ
  pub m : ℕ
  pub one : Bool
  pub two : Bool

unfoldable pub unpack : ℕ → Flags
unpack w = record { n = w % 2 ^ 15; m = w / 2 ^ 15 % 2 ^ 15; one = eqb (w / 2 ^ 30 % 2) 1; two = eqb (w / 2 ^ 31 % 2) 1 }

-- the four put down beside each other
abbrev pub flags : ℕ → ℕ → Bool → Bool → Flags
flags n m one two = record { n = n; m = m; one = one; two = two }
