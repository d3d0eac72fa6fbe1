-- How an integer is spelled: the last rule of the document and Rust's documentation of `i64::from_str_radix`.
-- A spelling is a list of bytes; nothing is assumed of it.
use Rattle.std.specs.Prelude.{ℕ, ◌+◌, ◌-◌, ◌*◌, ◌^◌, List, [], ◌∷◌, Bool, true, false, ◌&&◌, length, get_or, drop, eqb, leb, Option, Some, None, unwrap_or}
use Rattle.ints.specs.declared.Sign.{Sign}
use Rattle.ints.specs.declared.Sign.TheVariants.{Absent, Plus, Minus}

-- "drop underscores": every byte but `_`, in order
unfoldable pub kept : List ℕ → List ℕ
kept [] = []
kept (b ∷ bs) = elim (eqb b 95) as (λ _. List ℕ) [ true ↦ kept bs | false ↦ b ∷ kept bs ]

-- the radix that the byte after a leading 0 names: x 16, o 8, b 2; any other byte names none
unfoldable pub radix_by : ℕ → Option ℕ
radix_by b = elim (eqb b 120) as (λ _. Option ℕ) [
  | true ↦ Some 16
  | false ↦ elim (eqb b 111) as (λ _. Option ℕ) [ true ↦ Some 8 | false ↦ elim (eqb b 98) as (λ _. Option ℕ) [ true ↦ Some 2 | false ↦ None ] ]
]

-- "take the prefix 0x, 0o or 0b": the radix that it names, where there is one
abbrev pub prefix_radix : List ℕ → Option ℕ
prefix_radix s = elim (eqb (get_or s 0 0) 48) as (λ _. Option ℕ) [ true ↦ radix_by (get_or s 1 0) | false ↦ None ]

-- the radix, 10 where there is no prefix
unfoldable pub radix_of : List ℕ → ℕ
radix_of s = unwrap_or (prefix_radix s) 10

-- what follows the prefix
unfoldable pub after_prefix : List ℕ → List ℕ
after_prefix s = elim (prefix_radix s) as (λ _. List ℕ) [ None ↦ s | Some radix ↦ drop 2 s ]

-- "an optional sign": what the first byte says of it
unfoldable pub sign_by : ℕ → Sign
sign_by b = elim (eqb b 43) as (λ _. Sign) [ true ↦ Plus | false ↦ elim (eqb b 45) as (λ _. Sign) [ true ↦ Minus | false ↦ Absent ] ]

-- what follows the sign
abbrev pub after_sign : Sign → List ℕ → List ℕ
after_sign Absent s = s
after_sign Plus s = drop 1 s
after_sign Minus s = drop 1 s

abbrev pub within : ℕ → ℕ → ℕ → Bool
within low high b = leb low b && leb b high

-- A byte as a digit, by Rust's list: 0-9 as they stand, a-z and A-Z as 10 to 35. No other byte is a digit of any radix, those above 127
-- among them: they get 36, which is not below any.
unfoldable pub digit_of : ℕ → ℕ
digit_of b = elim (within 48 57 b) as (λ _. ℕ) [
  | true ↦ b - 48
  | false ↦ elim (within 97 122 b) as (λ _. ℕ) [ true ↦ b - 87 | false ↦ elim (within 65 90 b) as (λ _. ℕ) [ true ↦ b - 55 | false ↦ 36 ] ]
]

-- The whole number that digits spell, the highest first: the sum of each digit times the radix to the power of its place from the right.
unfoldable pub value_of : ℕ → List ℕ → ℕ
value_of radix [] = 0
value_of radix (d ∷ ds) = d * radix ^ length ds + value_of radix ds
