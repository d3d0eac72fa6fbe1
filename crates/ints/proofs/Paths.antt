-- Each way through the definitions of a spelling, as an equation.
use Prim.Native.Nat.{ℕ, ◌-◌, ◌<◌, ◌≤◌}
use mathlib.Core.Path.{◌≡◌, refl}
use mathlib.Core.List.{List, [], ◌∷◌}
use mathlib.Core.Bool.{Bool, true, false, ◌&&◌}
use native.Mathlib.Decide.{dec_lt}
use lib.Dec.{leb, eqb}
use lib.ListN.{length, get_or, drop}
use borrow.Author.Tests.{le-leb, lt-leb, le-ltb, lt-ltb, ne_eqb}
use native.Mathlib.Omega.{arith}
use Rattle.std.specs.Char.{digit_value}
use Rattle.std.specs.Prelude.{Err, Option, Some, None, unwrap_or}
use Rattle.ints.specs.Spelling.{kept, radix_by, prefix_radix, radix_of, after_prefix, sign_by, within, digit_of}
use Rattle.ints.specs.Answer.{number_of, afterwards, from_str_radix, int_of}
use Rattle.ints.specs.declared.Sign.{Sign}
use Rattle.ints.specs.declared.Sign.TheVariants.{Absent, Plus, Minus}
use Rattle.ints.specs.declared.IntFault.TheVariants.{Empty, InvalidDigit}

-- digits
module _ (low high b : ℕ) where
  pub inside : low ≤ b → b ≤ high → within low high b ≡ true
  inside p q = rw (le-leb _ _ p) (le-leb _ _ q)

  pub below : b < low → within low high b ≡ false
  below p = rw (lt-leb _ _ p)

  pub above : high < b → within low high b ≡ false
  above p = rw (lt-leb _ _ p) (neither (leb low b))
    where
      neither : (t : Bool) → t && false ≡ false
      neither true = refl
      neither false = refl

module _ (b : ℕ) where
  pub digit-decimal : 48 ≤ b → b ≤ 57 → digit_of b ≡ b - 48
  unfolding digit_of
  digit-decimal p q = rw (inside 48 57 b p q, digit_of)

  pub digit-lower : 97 ≤ b → b ≤ 122 → digit_of b ≡ b - 87
  unfolding digit_of
  digit-lower p q = rw (above 48 57 b (omega arith), digit_of) (rw (inside 97 122 b p q))

  pub digit-upper : 65 ≤ b → b ≤ 90 → digit_of b ≡ b - 55
  unfolding digit_of
  digit-upper p q = rw (above 48 57 b (omega arith), digit_of) (rw (below 97 122 b (omega arith)) (rw (inside 65 90 b p q)))

  pub digit-none : within 48 57 b ≡ false → within 97 122 b ≡ false → within 65 90 b ≡ false → digit_of b ≡ 36
  unfolding digit_of
  digit-none p q r = rw (p, digit_of) (rw q (rw r))

-- std's value of a character as a digit is the same
pub digit-value : (b : ℕ) → digit_value b ≡ digit_of b
digit-value b = by_place (dec_lt b 48) (dec_lt b 58) (dec_lt b 65) (dec_lt b 91) (dec_lt b 97) (dec_lt b 123)
  where
    by_place : Dec (b < 48) → Dec (b < 58) → Dec (b < 65) → Dec (b < 91) → Dec (b < 97) → Dec (b < 123) → digit_value b ≡ digit_of b
    by_place (yes h) b58 b65 b91 b97 b123 = rw (digit-none b (below 48 57 b h) (below 97 122 b (omega arith)) (below 65 90 b (omega arith)), lt-ltb b 48 h)
    by_place (no g) (yes h) b65 b91 b97 b123 = let l : 48 ≤ b = omega arith in rw (digit-decimal b l (omega arith), le-ltb b 48 l, lt-ltb b 58 h)
    by_place (no g) (no i) (yes h) b91 b97 b123 =
        let l : 58 ≤ b = omega arith in
        rw (digit-none b (above 48 57 b (omega arith)) (below 97 122 b (omega arith)) (below 65 90 b h), le-ltb b 48 (omega arith), le-ltb b 58 l, lt-ltb b 65 h)
    by_place (no g) (no i) (no j) (yes h) b97 b123 =
        let l : 65 ≤ b = omega arith in
        rw (digit-upper b l (omega arith), le-ltb b 48 (omega arith), le-ltb b 58 (omega arith), le-ltb b 65 l, lt-ltb b 91 h)
    by_place (no g) (no i) (no j) (no k) (yes h) b123 =
        let l : 91 ≤ b = omega arith in
        rw (digit-none b (above 48 57 b (omega arith)) (below 97 122 b h) (above 65 90 b (omega arith)), le-ltb b 48 (omega arith), le-ltb b 58 (omega arith), le-ltb b 65 (omega arith), le-ltb b 91 l, lt-ltb b 97 h)
    by_place (no g) (no i) (no j) (no k) (no m) (yes h) =
        let l : 97 ≤ b = omega arith in
        rw (digit-lower b l (omega arith), le-ltb b 48 (omega arith), le-ltb b 58 (omega arith), le-ltb b 65 (omega arith), le-ltb b 91 (omega arith), le-ltb b 97 l, lt-ltb b 123 h)
    by_place (no g) (no i) (no j) (no k) (no m) (no n) =
        let l : 123 ≤ b = omega arith in
        rw (digit-none b (above 48 57 b (omega arith)) (above 97 122 b (omega arith)) (above 65 90 b (omega arith)), le-ltb b 48 (omega arith), le-ltb b 58 (omega arith), le-ltb b 65 (omega arith), le-ltb b 91 (omega arith), le-ltb b 97 (omega arith), le-ltb b 123 l)

-- underscores, where the bytes are a first one and the rest
module _ {s : List ℕ} {b : ℕ} {rest : List ℕ} (is : s ≡ b ∷ rest) where
  pub kept-skips : b ≡ 95 → kept s ≡ kept rest
  unfolding kept
  kept-skips p = rw (is, kept) (rw p)

  pub kept-takes : (b ≡ 95 → ⊥) → kept s ≡ b ∷ kept rest
  unfolding kept
  kept-takes p = rw (is, kept) (rw (ne_eqb _ _ p))

pub kept-ends : (s : List ℕ) → length s ≡ 0 → kept s ≡ []
unfolding kept
kept-ends [] p = refl
kept-ends (b ∷ s) p = absurd (omega arith)

-- signs, and what follows them
module _ (radix : ℕ) {b : ℕ} (bs : List ℕ) where
  pub from-plus : b ≡ 43 → from_str_radix radix (b ∷ bs) ≡ afterwards radix Plus bs
  unfolding from_str_radix sign_by
  from-plus p = rw (p, from_str_radix)

  pub from-minus : b ≡ 45 → from_str_radix radix (b ∷ bs) ≡ afterwards radix Minus bs
  unfolding from_str_radix sign_by
  from-minus p = rw (p, from_str_radix)

  pub from-digits : (b ≡ 43 → ⊥) → (b ≡ 45 → ⊥) → from_str_radix radix (b ∷ bs) ≡ number_of radix Absent (b ∷ bs)
  unfolding from_str_radix sign_by afterwards
  from-digits p q = rw (ne_eqb _ _ p, from_str_radix, sign_by) (rw (ne_eqb _ _ q))

pub from_nothing : (radix : ℕ) → from_str_radix radix [] ≡ Err Empty
unfolding from_str_radix
from_nothing radix = refl

pub after_nothing : (radix : ℕ) (sign : Sign) → afterwards radix sign [] ≡ Err InvalidDigit
unfolding afterwards
after_nothing radix sign = refl

pub after-some : (radix : ℕ) (sign : Sign) (b : ℕ) (bs : List ℕ) → afterwards radix sign (b ∷ bs) ≡ number_of radix sign (b ∷ bs)
unfolding afterwards
after-some radix sign b bs = refl

-- a 0 alone is no prefix
pub prefix-zero : {b : ℕ} → b ≡ 48 → prefix_radix (b ∷ []) ≡ None
unfolding radix_by
prefix-zero p = rw p

-- what a prefix makes of the answer, where the bytes are known
module _ (s : List ℕ) {bytes : List ℕ} (is : kept s ≡ bytes) where
  pub int-of-none : prefix_radix bytes ≡ None → int_of s ≡ from_str_radix 10 bytes
  unfolding int_of radix_of after_prefix
  int-of-none p = rw (is, int_of) (rw (p, radix_of, after_prefix))

  pub int-of-some : {radix : ℕ} → prefix_radix bytes ≡ Some radix → int_of s ≡ from_str_radix radix (drop 2 bytes)
  unfolding int_of radix_of after_prefix
  int-of-some p = rw (is, int_of) (rw (p, radix_of, after_prefix))

abbrev pub Usable : ℕ → Type 0
Usable radix = (1 < radix) × (radix ≤ 16)

-- every radix that a prefix names
pub named-usable : (s : List ℕ) {radix : ℕ} → prefix_radix s ≡ Some radix → Usable radix
unfolding radix_by
named-usable s p = by_zero (eqb (get_or s 0 0) 48) (get_or s 1 0) p
  where
    chosen : (x o b : Bool) {radix : ℕ} → elim x as (λ _. Option ℕ) [ true ↦ Some 16 | false ↦ elim o as (λ _. Option ℕ) [ true ↦ Some 8 | false ↦ elim b as (λ _. Option ℕ) [ true ↦ Some 2 | false ↦ None ] ] ] ≡ Some radix → Usable radix
    chosen true o b {radix} e = let h : 16 ≡ radix = cc in omega arith
    chosen false true b {radix} e = let h : 8 ≡ radix = cc in omega arith
    chosen false false true {radix} e = let h : 2 ≡ radix = cc in omega arith
    chosen false false false e = cc

    by_zero : (z : Bool) (c : ℕ) {radix : ℕ} → elim z as (λ _. Option ℕ) [ true ↦ radix_by c | false ↦ None ] ≡ Some radix → Usable radix
    by_zero true c e = chosen (eqb c 120) (eqb c 111) (eqb c 98) e
    by_zero false c e = cc

pub radix-usable : (s : List ℕ) → Usable (radix_of s)
unfolding radix_of
radix-usable s = by_prefix (prefix_radix s) refl
  where
    by_prefix : (r : Option ℕ) → prefix_radix s ≡ r → Usable (unwrap_or r 10)
    by_prefix None e = omega arith
    by_prefix (Some radix) e = named-usable s e
