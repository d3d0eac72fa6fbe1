-- Bytes as one number: its highest bits tell whether each of them is a character by itself.
use Prim.Native.Nat.{ℕ, zero, suc, ◌+◌, ◌-◌, ◌*◌, ◌^◌, ◌<◌, ◌≤◌, zero-le}
use native.Mathlib.Omega.{arith}
use native.Mathlib.Numerals.{add-one}
use mathlib.Core.Path.{◌≡◌, refl, sym, ap, ◌∙◌}
use mathlib.Core.Bool.{Bool, true, false, ◌&&◌}
use mathlib.Core.List.{List}
use lib.ListN.{length, get_or, take, drop, replicate}
use lib.Seq.{drop-cons}
use lib.Bits.{bit_and, and_block, and_shifted, and_comm, and_zero_r}
use lib.Dec.{ltb, eqb, lit<}
use borrow.Author.Tests.{ltb-true, ltb-false, ne_eqb}
use Rattle.std.specs.Prelude.{slice_index}
use Rattle.std.specs.Int.{from_le_bytes}
use Rattle.std.proofs.Common.{w64}
use native.Mathlib.Nat.{add-zero}
use Rattle.entry.specs.Utf8.{ascii, holds, fits}
use Rattle.entry.specs.Little.{little}
use Rattle.entry.proofs.Forms.{holds-in, holds-above}
use Rattle.entry.proofs.Fits.{fits-here}

-- one byte more, at place `k`; `j` is the next place
pub little-more : (t : List ℕ) (n k j : ℕ) → j ≡ k + 1 → k < length t → little (take (suc n) (drop k t)) ≡ get_or t k 0 + 0x100 * little (take n (drop j t))
unfolding little
little-more t n k j e p = rw (drop-cons t k 0 p, e, add-one)

pub little-eight : (t : List ℕ) (k : ℕ) → k + 8 ≤ length t
    → little (take 8 (drop k t))
    ≡ get_or t k 0 + 0x100 * get_or t (k + 1) 0 + 0x10000 * get_or t (k + 2) 0 + 0x1000000 * get_or t (k + 3) 0
    + 0x100000000 * get_or t (k + 4) 0 + 0x10000000000 * get_or t (k + 5) 0 + 0x1000000000000 * get_or t (k + 6) 0 + 0x100000000000000 * get_or t (k + 7) 0
unfolding little
little-eight t k p =
    let a = little-more t 7 k (k + 1) refl (omega arith) in
    let b = little-more t 6 (k + 1) (k + 2) (omega arith) (omega arith) in
    let c = little-more t 5 (k + 2) (k + 3) (omega arith) (omega arith) in
    let d = little-more t 4 (k + 3) (k + 4) (omega arith) (omega arith) in
    let e = little-more t 3 (k + 4) (k + 5) (omega arith) (omega arith) in
    let f = little-more t 2 (k + 5) (k + 6) (omega arith) (omega arith) in
    let g = little-more t 1 (k + 6) (k + 7) (omega arith) (omega arith) in
    let h = little-more t 0 (k + 7) (k + 8) (omega arith) (omega arith) in
    omega (arith, a, b, c, d, e, f, g, h)

-- std's number of eight bytes is the same
pub little-read : (t : List ℕ) (k : ℕ) (bytes : List ℕ) → k + 8 ≤ length t → ((i : ℕ) → i < 8 → slice_index bytes i ≡ get_or t (k + i) 0) → from_le_bytes w64 bytes ≡ little (take 8 (drop k t))
little-read t k bytes p e =
    let here : slice_index bytes 0 ≡ get_or t k 0 = rw add-zero at (e 0 (lit< tt)) in
    omega (arith, little-eight t k p, here, e 1 (lit< tt), e 2 (lit< tt), e 3 (lit< tt), e 4 (lit< tt), e 5 (lit< tt), e 6 (lit< tt), e 7 (lit< tt))

-- the highest bits of so many bytes
abbrev pub highs : ℕ → ℕ
highs zero = 0
highs (suc n) = 0x80 + 0x100 * highs n

-- the highest bit of one byte
high-clear : (b : ℕ) → b < 0x80 → bit_and b 0x80 ≡ 0
high-clear b p = and_comm b 0x80 ∙ and_shifted 1 7 b p

high-set : (b : ℕ) → 0x80 ≤ b → b < 0x100 → bit_and b 0x80 ≡ 0x80
high-set b p q =
    let e : b ≡ 1 * 2 ^ 7 + (b - 0x80) = omega arith in
    rw e (and_block 7 1 1 (b - 0x80) 0 (omega arith) (omega arith) ∙ rw (and_zero_r (b - 0x80)))

eqb-shifted : (n : ℕ) → eqb (n * 2 ^ 8 + 0) 0 ≡ eqb n 0
eqb-shifted zero = refl
eqb-shifted (suc n) = ne_eqb (suc n * 2 ^ 8 + 0) 0 (λ e. omega (arith, e)) ∙ sym (ne_eqb (suc n) 0 (λ e. omega (arith, e)))

-- a byte, and the others above it
high-first : (b l m : ℕ) → b < 0x100 → eqb (bit_and (b + 0x100 * l) (0x80 + 0x100 * m)) 0 ≡ holds ascii b && eqb (bit_and l m) 0
high-first b l m p = go (ltb b 0x80) refl
  where
    parts : bit_and (b + 0x100 * l) (0x80 + 0x100 * m) ≡ bit_and l m * 2 ^ 8 + bit_and b 0x80
    parts =
        let e : b + 0x100 * l ≡ l * 2 ^ 8 + b = omega arith in
        let f : 0x80 + 0x100 * m ≡ m * 2 ^ 8 + 0x80 = omega arith in
        rw (e, f) (and_block 8 l m b 0x80 p (lit< tt))

    go : (x : Bool) → ltb b 0x80 ≡ x → eqb (bit_and (b + 0x100 * l) (0x80 + 0x100 * m)) 0 ≡ holds ascii b && eqb (bit_and l m) 0
    go true e =
        let h = ltb-true _ _ e in
        rw (parts, high-clear b h, holds-in ascii b zero-le (omega arith)) (eqb-shifted (bit_and l m))
    go false e =
        let h = ltb-false _ _ e in
        rw (parts, high-set b h p, holds-above ascii b (omega arith)) (ne_eqb (bit_and l m * 2 ^ 8 + 0x80) 0 (λ z. omega (arith, z)))

module _ (t : List ℕ) (bytes : (i : ℕ) → get_or t i 0 < 0x100) where
  pub high_bits : (n k : ℕ) → k + n ≤ length t → eqb (bit_and (little (take n (drop k t))) (highs n)) 0 ≡ fits (replicate n ascii) (drop k t)
  unfolding little fits
  high_bits zero k p = refl
  high_bits (suc n) k p =
      rw (little-more t n k (k + 1) refl (omega arith), fits-here ascii (replicate n ascii) t k (omega arith))
      (high-first (get_or t k 0) _ _ (bytes k) ∙ ap (λ x. holds ascii (get_or t k 0) && x) (high_bits n (k + 1) (omega arith)))
