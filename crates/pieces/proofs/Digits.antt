-- How many digits a number has, by the powers of ten that it lies between.
-- Assumes nothing.
use Rattle.std.proofs.Common.{◌≡◌, ℕ, zero, suc, ◌+◌, ◌*◌, ◌/◌, ◌%◌, ◌^◌, ◌≤◌, ◌<◌, List, [], ◌∷◌, ◌++◌, length, arith, length-append}
use Rattle.std.specs.Fmt.{decimal}
use Rattle.std.proofs.lemmas.Fmt.{decimal_by_steps, decimal_digit, length-decimal-le}

ten_pos : (k : ℕ) → 0 < 10 ^ k
ten_pos zero = omega arith
ten_pos (suc k) = omega (arith, ten_pos k)

-- a number that is no smaller than a power of ten has more digits than the power
pub digits-above : (k n : ℕ) → 10 ^ k ≤ n → n < 2 ^ 64 → k < length (decimal n)
digits-above k n least small = decimal_by_steps (λ m ds. (j : ℕ) → 10 ^ j ≤ m → j < length ds) one more n small k least
  where
    one : (m : ℕ) → m < 10 → (j : ℕ) → 10 ^ j ≤ m → j < length ((48 + m) ∷ [])
    one m l zero a = omega arith
    one m l (suc j) a = absurd (omega (arith, ten_pos j))

    more : (m : ℕ) (ds : List ℕ) → 10 ≤ m → ((j : ℕ) → 10 ^ j ≤ m / 10 → j < length ds) → (j : ℕ) → 10 ^ j ≤ m → j < length (ds ++ ((48 + m % 10) ∷ []))
    more m ds l h zero a = omega (arith, length-append ds ((48 + m % 10) ∷ []))
    more m ds l h (suc j) a = omega (arith, length-append ds ((48 + m % 10) ∷ []), h j (omega arith))

pub digits-between : (k n : ℕ) → 10 ^ k ≤ n → n < 10 * 10 ^ k → n < 2 ^ 64 → k + 1 ≡ length (decimal n)
digits-between k n least most small = omega (arith, digits-above k n least small, length-decimal-le (suc k) n (omega arith) (omega arith) small)

pub one-digit : (n : ℕ) → n < 10 → 1 ≡ length (decimal n)
one-digit n small = rw (decimal_digit n small)
