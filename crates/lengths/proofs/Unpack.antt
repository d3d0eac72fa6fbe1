-- A FLAGS word taken apart gives what it was put together from, where both lengths have 15 bits.
use Prim.Native.Nat.{ℕ, ◌+◌, ◌*◌, ◌/◌, ◌%◌, ◌^◌, ◌<◌}
use native.Mathlib.Omega.{arith}
use mathlib.Core.Path.{◌≡◌, refl}
use mathlib.Core.Bool.{Bool, true, false}
use lib.Dec.{eqb}
use borrow.Author.Tests.{eq-eqb, ne_eqb}
use Rattle.cursor.specs.Records.{word32, flagged}
use Rattle.lengths.specs.Flags.{unpack, flags}

-- computed: the flags of a Call of three arguments with a trailing lambda and two handlers
call_flags : unpack (flagged 3 2 true false) ≡ flags 3 2 true false
unfolding unpack
call_flags = refl

-- the longest lists that there is room for, and one that is too long, which would be read as another list's length
longest : unpack (flagged 32767 32767 true true) ≡ flags 32767 32767 true true
unfolding unpack
longest = refl

too_long : unpack (flagged 32768 0 false false) ≡ flags 0 1 false false
unfolding unpack
too_long = refl

module _ (n m : ℕ) (few : n < 2 ^ 15) (few' : m < 2 ^ 15) where
  low : (one two : Bool) → flagged n m one two % 2 ^ 15 ≡ n
  low true true = omega (arith, few, few')
  low true false = omega (arith, few, few')
  low false true = omega (arith, few, few')
  low false false = omega (arith, few, few')

  high : (one two : Bool) → flagged n m one two / 2 ^ 15 % 2 ^ 15 ≡ m
  high true true = omega (arith, few, few')
  high true false = omega (arith, few, few')
  high false true = omega (arith, few, few')
  high false false = omega (arith, few, few')

  first : (one two : Bool) → eqb (flagged n m one two / 2 ^ 30 % 2) 1 ≡ one
  first true true = eq-eqb (flagged n m true true / 2 ^ 30 % 2) 1 (omega (arith, few, few'))
  first true false = eq-eqb (flagged n m true false / 2 ^ 30 % 2) 1 (omega (arith, few, few'))
  first false true = ne_eqb (flagged n m false true / 2 ^ 30 % 2) 1 (λ e. omega (arith, few, few', e))
  first false false = ne_eqb (flagged n m false false / 2 ^ 30 % 2) 1 (λ e. omega (arith, few, few', e))

  second : (one two : Bool) → eqb (flagged n m one two / 2 ^ 31 % 2) 1 ≡ two
  second true true = eq-eqb (flagged n m true true / 2 ^ 31 % 2) 1 (omega (arith, few, few'))
  second true false = ne_eqb (flagged n m true false / 2 ^ 31 % 2) 1 (λ e. omega (arith, few, few', e))
  second false true = eq-eqb (flagged n m false true / 2 ^ 31 % 2) 1 (omega (arith, few, few'))
  second false false = ne_eqb (flagged n m false false / 2 ^ 31 % 2) 1 (λ e. omega (arith, few, few', e))

  pub unpacked : (one two : Bool) → unpack (flagged n m one two) ≡ flags n m one two
  unfolding unpack
  unpacked one two = rw (low one two, high one two, first one two, second one two)

-- handlers join the flags of a Call that stands already
pub handlers-flagged : (n m : ℕ) → n < 2 ^ 15 → m < 2 ^ 15 → (one : Bool) → word32 (flagged n 0 one false + 2 ^ 15 * m) ≡ flagged n m one false
handlers-flagged n m few few' true = omega (arith, few, few')
handlers-flagged n m few few' false = omega (arith, few, few')

pub handled-unpacked : (n m : ℕ) → n < 2 ^ 15 → m < 2 ^ 15 → (one : Bool) → unpack (word32 (flagged n 0 one false + 2 ^ 15 * m)) ≡ flags n m one false
handled-unpacked n m few few' one = rw (handlers-flagged n m few few' one) (unpacked n m few few' one false)
