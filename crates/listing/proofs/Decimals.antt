-- A number's digits, one at a time, and an integer's by its sign.
-- Assumes nothing.
use mathlib.Core.Path.{◌≡◌, refl, sym, ap, ◌∙◌}
use mathlib.Core.List.{List, [], ◌∷◌, ◌++◌, map-append}
use mathlib.Core.Bool.{Bool, true, false}
use Prim.Native.Nat.{ℕ, zero, suc, ◌+◌, ◌-◌, ◌/◌, ◌%◌, ◌^◌, ◌<◌, ◌≤◌}
use native.Mathlib.Omega.{arith}
use native.Mathlib.Nat.{div-lt_self}
use lib.Dec.{ltb}
use borrow.Author.Tests.{lt-ltb, le-ltb, ltb-false}
use Rattle.listing.specs.Decimal.{digits_in, digits, decimal, integer}

-- any bound on the number of digits that is large enough gives the same ones
pub enough : (k j n : ℕ) → n ≤ k → n ≤ j → digits_in k n ≡ digits_in j n
unfolding digits_in
enough zero zero n p q = refl
enough zero (suc j) n p q = let h : n < 10 = omega arith in sym (rw (lt-ltb n 10 h, digits_in))
enough (suc k) zero n p q = let h : n < 10 = omega arith in rw (lt-ltb n 10 h, digits_in)
enough (suc k) (suc j) n p q = by (ltb n 10) refl (λ g h. enough k j (n / 10) g h)
  where
    by : (b : Bool) → ltb n 10 ≡ b → (n / 10 ≤ k → n / 10 ≤ j → digits_in k (n / 10) ≡ digits_in j (n / 10)) → digits_in (suc k) n ≡ digits_in (suc j) n
    by true e less = rw (e, digits_in)
    by false e less =
        let g = ltb-false n 10 e in
        let h : n / 10 < n = div-lt_self (omega arith) (omega arith) in
        rw (e, digits_in) (ap (λ (ds : List ℕ). ds ++ (n % 10 ∷ [])) (less (omega arith) (omega arith)))

pub digits-one : (n : ℕ) → n < 10 → digits n ≡ n % 10 ∷ []
unfolding digits digits_in
digits-one n h = enough n (suc n) n (omega arith) (omega arith) ∙ rw (lt-ltb n 10 h, digits_in)

pub digits_more : (n : ℕ) → 10 ≤ n → digits n ≡ digits (n / 10) ++ (n % 10 ∷ [])
unfolding digits digits_in
digits_more n h =
    let g : n / 10 < n = div-lt_self (omega arith) (omega arith) in
    enough n (suc (n - 1)) n (omega arith) (omega arith) ∙ rw (le-ltb n 10 h, digits_in) (ap (λ (ds : List ℕ). ds ++ (n % 10 ∷ [])) (enough (n - 1) (n / 10) (n / 10) (omega arith) (omega arith)))

pub decimal-one : (n : ℕ) → n < 10 → decimal n ≡ (48 + n % 10) ∷ []
unfolding decimal
decimal-one n h = rw (digits-one n h)

pub decimal-more : (n : ℕ) → 10 ≤ n → decimal n ≡ decimal (n / 10) ++ ((48 + n % 10) ∷ [])
unfolding decimal
decimal-more n h = rw (digits_more n h) (map-append (λ d. 48 + d) (digits (n / 10)) (n % 10 ∷ []))

pub integer-small : (bits : ℕ) → bits < 2 ^ 63 → integer bits ≡ decimal bits
unfolding integer
integer-small bits h = rw (lt-ltb bits (2 ^ 63) h, integer)

pub integer-large : (bits : ℕ) → 2 ^ 63 ≤ bits → integer bits ≡ 45 ∷ decimal (2 ^ 64 - bits)
unfolding integer
integer-large bits h = rw (le-ltb bits (2 ^ 63) h, integer)
