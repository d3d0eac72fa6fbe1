-- Numbers in decimal.
use Rattle.std.specs.Prelude.{ℕ, zero, suc, ◌+◌, ◌-◌, ◌*◌, ◌/◌, ◌%◌, ◌^◌, ◌≤◌, List, [], ◌∷◌, ◌++◌, map, true, false, ◌≡◌, ltb}

-- the number that digits in ASCII spell, the highest first, after others that spell v
abbrev pub value_from : ℕ → List ℕ → ℕ
value_from v [] = v
value_from v (b ∷ bs) = value_from (10 * v + (b - 48)) bs

abbrev pub value : List ℕ → ℕ
value bs = value_from 0 bs

-- each is a digit, '0' to '9'
abbrev pub Digits : List ℕ → Type 0
Digits [] = Unit {0}
Digits (b ∷ bs) = (48 ≤ b) × (b ≤ 57) × Digits bs

-- at least one, and the first of several is not '0'
abbrev pub Leads : List ℕ → Type 0
Leads [] = ⊥
Leads (b ∷ []) = Unit {0}
Leads (b ∷ c ∷ bs) = b ≡ 48 → ⊥

-- what it is to be a number in decimal
pub record Spells (n : ℕ) (bs : List ℕ) : Type 0 where
  pub worth : value bs ≡ n
  pub each : Digits bs
  pub leads : Leads bs

-- the digits of a number: itself, or those of its tenth and the last one; after at most k more
unfoldable pub digits_in : ℕ → ℕ → List ℕ
digits_in zero n = n % 10 ∷ []
digits_in (suc k) n = elim (ltb n 10) as (λ _. List ℕ) [ true ↦ n % 10 ∷ [] | false ↦ digits_in k (n / 10) ++ (n % 10 ∷ []) ]

-- the digits of a number
unfoldable pub digits : ℕ → List ℕ
digits n = digits_in n n

-- in ASCII: the only bytes that spell the number (proofs/Spelling.antt)
unfoldable pub decimal : ℕ → List ℕ
decimal n = map (λ d. 48 + d) (digits n)

-- the integer that 64 bits mean in two's complement, with its sign
unfoldable pub integer : ℕ → List ℕ
integer bits = elim (ltb bits (2 ^ 63)) as (λ _. List ℕ) [ true ↦ decimal bits | false ↦ 45 ∷ decimal (2 ^ 64 - bits) ]
