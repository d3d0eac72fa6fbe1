-- The number read digit by digit, each time the number so far times the radix and the digit, is the number that the definition gives.
use Prim.Native.Nat.{ℕ, suc, ◌+◌, ◌-◌, ◌*◌, ◌^◌, ◌<◌, ◌≤◌}
use mathlib.Core.Path.{◌≡◌, refl, sym, ap, ◌∙◌}
use mathlib.Core.List.{List, [], ◌∷◌, ◌++◌, map, append-nil, append_assoc}
use native.Mathlib.Decide.{dec_le, dec_lt}
use native.Mathlib.Numerals.{add-one}
use native.Mathlib.Nat.{add-mul, mul_assoc, mul_comm, pow-zero, pow-succ', mul-one, add-zero, zero-add, zero-mul, mul-le-mul_left}
use lib.Dec.{leb}
use mathlib.Core.Bool.{Bool, true, false, not}
use lib.ListN.{length, take, length-append}
use lib.Seq.{get_or-append_seam}
use borrow.Author.Tests.{lt-ltb, le-ltb, le-leb, lt-leb, leb-true, leb-false, not-true, not-false}
use native.Mathlib.Omega.{arith}
use Rattle.std.specs.Prelude.{Result, Ok, Err}
use Rattle.ints.specs.Spelling.{digit_of, value_of}
use Rattle.ints.specs.Reading.{grown}
use Rattle.ints.specs.Answer.{as_int, largest, beyond, Found, right, wrong, judged, found_at, first_of, answered, number_of}
use Rattle.ints.specs.declared.Sign.{Sign}
use Rattle.ints.specs.declared.IntFault.{IntFault}
use Rattle.ints.specs.declared.IntFault.TheVariants.{InvalidDigit}
use Rattle.ints.specs.declared.Int.{Int}

-- one more digit: the sum shifts by one place
pub value-snoc : (radix : ℕ) (ds : List ℕ) (d : ℕ) → value_of radix (ds ++ (d ∷ [])) ≡ value_of radix ds * radix + d
unfolding value_of
value-snoc radix [] d = simp (pow-zero, mul-one, add-zero, zero-mul, zero-add)
value-snoc radix (e ∷ es) d =
    let longer : length (es ++ (d ∷ [])) ≡ suc (length es) = simp length-append (add-one _) in
    let shifted : e * radix ^ suc (length es) ≡ e * radix ^ length es * radix = simp (pow-succ', mul_comm radix, mul_assoc) in
    rw (longer, shifted, value-snoc radix es d, add-mul) (omega arith)

-- each way that a place is judged
module _ (radix : ℕ) (sign : Sign) (digit value : ℕ) where
  pub judged-none : radix ≤ digit → judged radix sign digit value ≡ wrong InvalidDigit
  unfolding judged
  judged-none p = rw (le-ltb _ _ p, judged)

  pub judged-beyond : digit < radix → largest sign < value → judged radix sign digit value ≡ wrong (beyond sign)
  unfolding judged
  judged-beyond p q = rw (lt-ltb _ _ p, judged) (rw (lt-leb _ _ q))

  pub judged-right : digit < radix → value ≤ largest sign → judged radix sign digit value ≡ right
  unfolding judged
  judged-right p q = rw (lt-ltb _ _ p, judged) (rw (le-leb _ _ q))

map_snoc : (done : List ℕ) (b : ℕ) → map digit_of (done ++ (b ∷ [])) ≡ map digit_of done ++ (digit_of b ∷ [])
map_snoc [] b = refl
map_snoc (x ∷ done) b = ap (λ l. digit_of x ∷ l) (map_snoc done b)

take_done : (done : List ℕ) (b : ℕ) (bs : List ℕ) → take (suc (length done)) (done ++ (b ∷ bs)) ≡ done ++ (b ∷ [])
take_done [] b bs = refl
take_done (x ∷ done) b bs = ap (λ l. x ∷ l) (take_done done b bs)

module _ (radix : ℕ) (sign : Sign) where
  -- each way that one more digit goes
  pub grown-wrong : (size b : ℕ) {f : IntFault} → judged radix sign (digit_of b) (size * radix + digit_of b) ≡ wrong f → grown radix sign size b ≡ Err f
  unfolding grown
  grown-wrong size b p = rw (p, grown)

  pub grown-right : (size b : ℕ) → judged radix sign (digit_of b) (size * radix + digit_of b) ≡ right → grown radix sign size b ≡ Ok (size * radix + digit_of b)
  unfolding grown
  grown-right size b p = rw (p, grown)

  -- a number that grows stays one that i64 has with the sign
  pub grown-small : (size b : ℕ) {more : ℕ} → grown radix sign size b ≡ Ok more → more ≤ largest sign
  grown-small size b {more} p = by-place (dec_lt (digit_of b) radix) (dec_le (size * radix + digit_of b) (largest sign))
    where
      by-place : Dec (digit_of b < radix) → Dec (size * radix + digit_of b ≤ largest sign) → more ≤ largest sign
      by-place (yes d) (yes v) = let e = grown-right size b (judged-right radix sign _ _ d v) in let same : size * radix + digit_of b ≡ more = cc in omega arith
      by-place (no d) v = let e = grown-wrong size b (judged-none radix sign _ (size * radix + digit_of b) (omega arith)) in let z : ◌≡◌ {A = ℕ} 0 1 = cc in omega arith
      by-place (yes d) (no v) = let e = grown-wrong size b (judged-beyond radix sign _ _ d (omega arith)) in let z : ◌≡◌ {A = ℕ} 0 1 = cc in omega arith

  -- reading on with the number so far
  unfoldable pub run : ℕ → List ℕ → Result Int IntFault
  run size [] = Ok (as_int sign size)
  run size (b ∷ bs) = elim (grown radix sign size b) as (λ _. Result Int IntFault) [ Ok more ↦ run more bs | Err f ↦ Err f ]

  pub run_end : (size : ℕ) → run size [] ≡ Ok (as_int sign size)
  unfolding run
  run_end size = refl

  pub run-stops : (size b : ℕ) (bs : List ℕ) {f : IntFault} → grown radix sign size b ≡ Err f → run size (b ∷ bs) ≡ Err f
  unfolding run
  run-stops size b bs p = rw (p, run)

  pub run-on : (size b : ℕ) (bs : List ℕ) {more : ℕ} → grown radix sign size b ≡ Ok more → run size (b ∷ bs) ≡ run more bs
  unfolding run
  run-on size b bs p = rw (p, run)

  pub run-wrong : (size b : ℕ) (bs : List ℕ) {f : IntFault} → judged radix sign (digit_of b) (size * radix + digit_of b) ≡ wrong f → run size (b ∷ bs) ≡ Err f
  run-wrong size b bs p = run-stops size b bs (grown-wrong size b p)

  pub run-right : (size b : ℕ) (bs : List ℕ) → judged radix sign (digit_of b) (size * radix + digit_of b) ≡ right → run size (b ∷ bs) ≡ run (size * radix + digit_of b) bs
  run-right size b bs p = run-on size b bs (grown-right size b p)

  -- the definition's answer from the place after `done` on
  rest : List ℕ → List ℕ → Result Int IntFault
  rest done bs = answered sign (value_of radix (map digit_of (done ++ bs))) (first_of (found_at radix sign (done ++ bs)) (length done) (length bs))

  module _ (done : List ℕ) (b : ℕ) (bs : List ℕ) where
    value-more : value_of radix (map digit_of (done ++ (b ∷ []))) ≡ value_of radix (map digit_of done) * radix + digit_of b
    value-more = rw (map_snoc done b) (value-snoc radix _ _)

    found-next : found_at radix sign (done ++ (b ∷ bs)) (length done) ≡ judged radix sign (digit_of b) (value_of radix (map digit_of done) * radix + digit_of b)
    found-next = rw (get_or-append_seam done b bs 0, take_done done b bs, value-more)

    rest-wrong : {f : IntFault} → judged radix sign (digit_of b) (value_of radix (map digit_of done) * radix + digit_of b) ≡ wrong f → rest done (b ∷ bs) ≡ Err f
    unfolding rest first_of
    rest-wrong p = rw (found-next ∙ p, first_of)

    rest-right : judged radix sign (digit_of b) (value_of radix (map digit_of done) * radix + digit_of b) ≡ right → rest done (b ∷ bs) ≡ rest (done ++ (b ∷ [])) bs
    unfolding rest first_of
    rest-right p = rw (found-next ∙ p, first_of) (rw (append_assoc done (b ∷ []) bs, length-append done (b ∷ []), add-one))

    run-next : (j : Found) → judged radix sign (digit_of b) (value_of radix (map digit_of done) * radix + digit_of b) ≡ j
        → run (value_of radix (map digit_of (done ++ (b ∷ [])))) bs ≡ rest (done ++ (b ∷ [])) bs
        → run (value_of radix (map digit_of done)) (b ∷ bs) ≡ rest done (b ∷ bs)
    run-next right p later = run-right _ b bs p ∙ (rw (← value-more) later) ∙ sym (rest-right p)
    run-next (wrong f) p later = run-wrong _ b bs p ∙ sym (rest-wrong p)

  run-rest : (done bs : List ℕ) → run (value_of radix (map digit_of done)) bs ≡ rest done bs
  unfolding run rest first_of
  run-rest done [] = rw (append-nil done)
  run-rest done (b ∷ bs) = run-next done b bs _ refl (run-rest (done ++ (b ∷ [])) bs)

  pub run-all : (bs : List ℕ) → number_of radix sign bs ≡ run 0 bs
  unfolding number_of rest value_of
  run-all bs = sym (run-rest [] bs)

-- whether a product is within a limit: by a bound, and as the code's test of it says (`has_room`)
module _ (limit radix size : ℕ) where
  pub room_small : radix ≤ 16 → 2 ^ 63 - 1 ≤ limit → size < 2 ^ 59 → true ≡ leb (size * radix) limit
  room_small p q r = sym (le-leb (size * radix) limit (omega (arith, mul-le-mul_left size p)))

  pub there-is-room : {t : Bool} → t ≡ leb (size * radix) limit → not t ≡ false → size * radix ≤ limit
  there-is-room {t} p q = leb-true (size * radix) limit (sym p ∙ not-false t q)

  pub there-is-none : {t : Bool} → t ≡ leb (size * radix) limit → not t ≡ true → limit < size * radix
  there-is-none {t} p q = leb-false (size * radix) limit (sym p ∙ not-true t q)
