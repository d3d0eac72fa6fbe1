-- What an answer means, and what a spelling means, each said without the other.
use Rattle.std.specs.Prelude.{ℕ, ◌<◌, ◌≡◌, List, map, length, get_or, ℤ, pos, neg_ℤ, Result, Ok, Err}
use Rattle.ints.specs.Spelling.{kept, radix_of, after_prefix, sign_by, after_sign, digit_of, value_of}
use Rattle.ints.specs.Answer.{fault_number}
use Rattle.ints.specs.declared.Sign.{Sign}
use Rattle.ints.specs.declared.Sign.TheVariants.{Absent, Plus, Minus}
use Rattle.ints.specs.declared.IntFault.{IntFault}
use Rattle.ints.specs.declared.Int.{Int}

-- a magnitude with its sign, as a whole number
abbrev pub signed : Sign → ℕ → ℤ
signed Absent n = pos n
signed Plus n = pos n
signed Minus n = neg_ℤ (pos n)

-- an answer is a whole number, or a fault by its number
pub data Meaning : Type 0 where
  number : ℤ → Meaning
  fault : ℕ → Meaning

abbrev pub meant : Result Int IntFault → Meaning
meant (Ok x) = number (signed x.sign x.magnitude)
meant (Err f) = fault (fault_number f)

-- what stands after underscores, prefix and sign are taken away
abbrev pub sign_of : List ℕ → Sign
sign_of bytes = sign_by (get_or (after_prefix (kept bytes)) 0 0)

abbrev pub digits_of : List ℕ → List ℕ
digits_of bytes = after_sign (sign_of bytes) (after_prefix (kept bytes))

-- the magnitude that a spelling has, however large
abbrev pub magnitude_of : List ℕ → ℕ
magnitude_of bytes = value_of (radix_of (kept bytes)) (map digit_of (digits_of bytes))

-- The bytes spell the whole number z: there are digits, all of the radix, and z is their sum with the sign.
pub record Spells (bytes : List ℕ) (z : ℤ) : Type 0 where
  pub some : 0 < length (digits_of bytes)
  pub digits : (i : ℕ) → i < length (digits_of bytes) → digit_of (get_or (digits_of bytes) i 0) < radix_of (kept bytes)
  pub sum : z ≡ signed (sign_of bytes) (magnitude_of bytes)
