-- Worked examples, computed from the definitions alone.
use Prim.Native.Nat.{ℕ, ◌-◌, ◌^◌}
use Prim.Native.Char.{code}
use Prim.Native.String.{[] as no_more, ◌∷◌ as ◌then◌, String}
use mathlib.Core.Path.{◌≡◌, refl}
use mathlib.Core.List.{List, [], ◌∷◌, map}
use Rattle.std.specs.Prelude.{Result, Ok, Err}
use Rattle.ints.specs.Spelling.{kept, radix_by, radix_of, after_prefix, sign_by, digit_of, value_of}
use Rattle.ints.specs.Answer.{as_int, judged, first_of, number_of, afterwards, from_str_radix, int_of}
use Rattle.ints.specs.declared.Sign.TheVariants.{Absent, Plus, Minus}
use Rattle.ints.specs.declared.IntFault.TheVariants.{Empty, InvalidDigit, TooLarge, TooSmall}
use Rattle.ints.specs.declared.Int.{Int}
use Rattle.ints.specs.declared.IntFault.{IntFault}

-- the bytes of a text of ASCII characters
abbrev bytes : String → List ℕ
bytes no_more = []
bytes (c then s) = code c ∷ bytes s

pub examples : List (String × Result Int IntFault)
examples =
    ("9223372036854775807", Ok (as_int Absent (2 ^ 63 - 1))) ∷
    ("9223372036854775808", Err TooLarge) ∷
    ("-9223372036854775808", Ok (as_int Minus (2 ^ 63))) ∷
    ("-9223372036854775809", Err TooSmall) ∷
    ("+0_7", Ok (as_int Plus 7)) ∷
    ("0x-1", Ok (as_int Minus 1)) ∷
    ("0_x1", Ok (as_int Absent 1)) ∷
    ("0b102", Err InvalidDigit) ∷
    ("0xfF", Ok (as_int Absent 255)) ∷
    ("0o", Err Empty) ∷
    ("__", Err Empty) ∷
    ("+", Err InvalidDigit) ∷
    ("-0x1", Err InvalidDigit) ∷
    -- both faults at one byte: the digit is the fault
    ("9223372036854775807g", Err InvalidDigit) ∷
    ("9223372036854775808g", Err TooLarge) ∷
    []

pub examples-hold : map (λ x. int_of (bytes x.0)) examples ≡ map (λ x. x.1) examples
unfolding examples int_of kept radix_by radix_of after_prefix from_str_radix sign_by afterwards number_of first_of judged digit_of value_of
examples-hold = refl

-- a byte above 127
pub above-ascii : int_of (195 ∷ 169 ∷ []) ≡ Err InvalidDigit
unfolding int_of kept radix_by radix_of after_prefix from_str_radix sign_by afterwards number_of first_of judged digit_of value_of
above-ascii = refl
