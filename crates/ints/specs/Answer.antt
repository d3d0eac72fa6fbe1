-- What a spelling is answered with.
use Rattle.std.specs.Prelude.{ℕ, zero, suc, ◌-◌, ◌^◌, List, [], ◌∷◌, map, true, false, length, get_or, take, leb, ltb, Result, Ok, Err}
use Rattle.ints.specs.Spelling.{kept, radix_of, after_prefix, sign_by, after_sign, digit_of, value_of}
use Rattle.ints.specs.declared.Sign.{Sign}
use Rattle.ints.specs.declared.Sign.TheVariants.{Absent, Plus, Minus}
use Rattle.ints.specs.declared.IntFault.{IntFault}
use Rattle.ints.specs.declared.IntFault.TheVariants.{Empty, InvalidDigit, TooLarge, TooSmall}
use Rattle.ints.specs.declared.Int.{Int}

-- The largest magnitude that an i64 has with this sign: i64::MIN is one further from 0 than i64::MAX.
abbrev pub largest : Sign → ℕ
largest Absent = 2 ^ 63 - 1
largest Plus = 2 ^ 63 - 1
largest Minus = 2 ^ 63

-- what a larger magnitude is: above i64::MAX or below i64::MIN
abbrev pub beyond : Sign → IntFault
beyond Absent = TooLarge
beyond Plus = TooLarge
beyond Minus = TooSmall

-- what is found at a place
pub data Found : Type 0 where
  right : Found
  wrong : IntFault → Found

-- A place is judged by its digit and by the number that the digits up to and including it spell: no digit of the radix, or no number of
-- i64's. An invalid digit comes before overflow at the same byte.
unfoldable pub judged : ℕ → Sign → ℕ → ℕ → Found
judged radix sign digit value = elim (ltb digit radix) as (λ _. Found) [
  | true ↦ elim (leb value (largest sign)) as (λ _. Found) [ true ↦ right | false ↦ wrong (beyond sign) ]
  | false ↦ wrong InvalidDigit
]

abbrev pub found_at : ℕ → Sign → List ℕ → ℕ → Found
found_at radix sign bytes i = judged radix sign (digit_of (get_or bytes i 0)) (value_of radix (map digit_of (take (suc i) bytes)))

-- "the first fault from the left": the first of the n places from i on that is wrong, right where none is
unfoldable pub first_of : (ℕ → Found) → ℕ → ℕ → Found
first_of at i zero = right
first_of at i (suc n) = elim (at i) as (λ _. Found) [ right ↦ first_of at (suc i) n | wrong f ↦ wrong f ]

abbrev pub as_int : Sign → ℕ → Int
as_int sign magnitude = record { sign = sign; magnitude = magnitude }

-- a fault where one was found, else the value with its sign
abbrev pub answered : Sign → ℕ → Found → Result Int IntFault
answered sign magnitude right = Ok (as_int sign magnitude)
answered sign magnitude (wrong f) = Err f

-- the bytes after the sign, as a number
unfoldable pub number_of : ℕ → Sign → List ℕ → Result Int IntFault
number_of radix sign bytes = answered sign (value_of radix (map digit_of bytes)) (first_of (found_at radix sign bytes) 0 (length bytes))

-- "a sign alone is an invalid digit"
unfoldable pub afterwards : ℕ → Sign → List ℕ → Result Int IntFault
afterwards radix sign [] = Err InvalidDigit
afterwards radix sign (b ∷ bs) = number_of radix sign (b ∷ bs)

-- `i64::from_str_radix`: nothing at all is Empty; then an optional sign, then digits
unfoldable pub from_str_radix : ℕ → List ℕ → Result Int IntFault
from_str_radix radix [] = Err Empty
from_str_radix radix (b ∷ bs) = afterwards radix (sign_by b) (after_sign (sign_by b) (b ∷ bs))

-- an Int token's answer: underscores dropped, the prefix taken, then from_str_radix
unfoldable pub int_of : List ℕ → Result Int IntFault
int_of bytes = from_str_radix (radix_of (kept bytes)) (after_prefix (kept bytes))

-- the faults' numbers, in the order of the document: "empty, invalid digit, too large, too small"
abbrev pub fault_number : IntFault → ℕ
fault_number Empty = 0
fault_number InvalidDigit = 1
fault_number TooLarge = 2
fault_number TooSmall = 3
