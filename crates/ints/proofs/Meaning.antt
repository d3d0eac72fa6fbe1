-- What is known of every answer: it is a number exactly where the bytes spell one that i64 has, and it is that number; and a fault is that of
-- the first place from the left that is wrong.
use Prim.Native.Nat.{ℕ, zero, suc, ◌+◌, ◌*◌, ◌^◌, ◌<◌, ◌≤◌}
use mathlib.Core.Path.{◌≡◌, refl, sym, ap, ◌∙◌}
use mathlib.Core.List.{List, [], ◌∷◌, ◌++◌, map}
use native.Mathlib.Decide.{dec_le, dec_lt}
use native.Mathlib.Nat.{add-zero, add-suc, suc-add, add-mul, mul_assoc, zero-mul, zero-add, one-le-pow, le-mul_of_pos_right}
use native.Mathlib.Omega.{arith}
use lib.Pow.{pow-add}
use lib.ListN.{length, get_or, take, drop, length-append, take-append-drop}
use lib.Seq.{take-length}
use lib.IntN.{ℤ}
use Rattle.std.specs.Prelude.{Result, Ok, Err}
use Rattle.ints.specs.Spelling.{kept, radix_of, after_prefix, sign_by, after_sign, digit_of, value_of}
use Rattle.ints.specs.Answer.{as_int, largest, Found, right, wrong, judged, found_at, first_of, answered, number_of, afterwards, from_str_radix, int_of}
use Rattle.ints.specs.Meaning.{signed, number, meant, sign_of, magnitude_of, Spells}
use Rattle.ints.specs.declared.Sign.{Sign}
use Rattle.ints.specs.declared.Sign.TheVariants.{Absent, Plus, Minus}
use Rattle.ints.specs.declared.Int.{Int}
use Rattle.ints.specs.declared.IntFault.{IntFault}
use Rattle.ints.proofs.Paths.{radix-usable}
use Rattle.ints.proofs.Run as runs

-- the search over places
module _ (at : ℕ → Found) where
  next-right : (f later : Found) → elim f as (λ _. Found) [ right ↦ later | wrong x ↦ wrong x ] ≡ right → (f ≡ right) × (later ≡ right)
  next-right right later p = (refl, p)
  next-right (wrong x) later p = absurd (let z : ◌≡◌ {A = ℕ} 0 1 = cc in omega arith)

  pub right-everywhere : (i n : ℕ) → first_of at i n ≡ right → (k : ℕ) → k < n → at (i + k) ≡ right
  unfolding first_of
  right-everywhere i zero p k h = absurd (omega arith)
  right-everywhere i (suc n) p zero h = rw add-zero (next-right (at i) (first_of at (suc i) n) p).0
  right-everywhere i (suc n) p (suc k) h = rw (add-suc, ← suc-add) (right-everywhere (suc i) n (next-right (at i) (first_of at (suc i) n) p).1 k (omega arith))

  pub nowhere-wrong : (i n : ℕ) → ((k : ℕ) → k < n → at (i + k) ≡ right) → first_of at i n ≡ right
  unfolding first_of
  nowhere-wrong i zero h = refl
  nowhere-wrong i (suc n) h = rw (rw add-zero at (h 0 (omega arith)), first_of) (nowhere-wrong (suc i) n (λ k l. rw (suc-add, ← add-suc) (h (suc k) (omega arith))))

  -- the first place from the left that is wrong, and the fault there
  pub record First (i n : ℕ) (f : IntFault) : Type 0 where
    pub place : ℕ
    pub among : place < n
    pub there : at (i + place) ≡ wrong f
    pub earlier : (k : ℕ) → k < place → at (i + k) ≡ right

  later_first : {i n : ℕ} {f : IntFault} → at i ≡ right → First (suc i) n f → First i (suc n) f
  later_first {i} {n} {f} e x =
      record { place = suc x.place; among = omega arith; there = rw (add-suc, ← suc-add) x.there; earlier = before }
    where
      before : (k : ℕ) → k < suc x.place → at (i + k) ≡ right
      before zero l = rw add-zero e
      before (suc k) l = rw (add-suc, ← suc-add) (x.earlier k (omega arith))

  by_first : {i n : ℕ} {f : IntFault} (g : Found) → at i ≡ g → elim g as (λ _. Found) [ right ↦ first_of at (suc i) n | wrong x ↦ wrong x ] ≡ wrong f
      → (first_of at (suc i) n ≡ wrong f → First (suc i) n f) → First i (suc n) f
  by_first right e q later = later_first e (later q)
  by_first (wrong x) e q later = record { place = 0; among = omega arith; there = rw add-zero (e ∙ q); earlier = λ k l. absurd (omega arith) }

  pub first-wrong : (i n : ℕ) (f : IntFault) → first_of at i n ≡ wrong f → First i n f
  unfolding first_of
  first-wrong i zero f p = absurd (let z : ◌≡◌ {A = ℕ} 0 1 = cc in omega arith)
  first-wrong i (suc n) f p = by_first (at i) refl p (first-wrong (suc i) n f)

-- a place that is right has a digit of the radix, and spells no more than the largest
pub judged-known : (radix : ℕ) (sign : Sign) (digit value : ℕ) → judged radix sign digit value ≡ right → (digit < radix) × (value ≤ largest sign)
judged-known radix sign digit value p = by-digit (dec_lt digit radix) (dec_le value (largest sign))
  where
    by-digit : Dec (digit < radix) → Dec (value ≤ largest sign) → (digit < radix) × (value ≤ largest sign)
    by-digit (yes d) (yes v) = (d, v)
    by-digit (no d) v = absurd (let q = runs.judged-none radix sign digit value (omega arith) in let z : ◌≡◌ {A = ℕ} 0 1 = cc in omega arith)
    by-digit (yes d) (no v) = absurd (let q = runs.judged-beyond radix sign digit value d (omega arith) in let z : ◌≡◌ {A = ℕ} 0 1 = cc in omega arith)

-- digits that follow only make a number larger
value-append : (radix : ℕ) (xs ys : List ℕ) → value_of radix (xs ++ ys) ≡ value_of radix xs * radix ^ length ys + value_of radix ys
unfolding value_of
value-append radix [] ys = simp (zero-mul, zero-add)
value-append radix (x ∷ xs) ys =
    let here : x * radix ^ length (xs ++ ys) ≡ x * radix ^ length xs * radix ^ length ys = simp (length-append, pow-add, mul_assoc) in
    rw (here, value-append radix xs ys, add-mul) (omega arith)

map-append : (xs ys : List ℕ) → map digit_of (xs ++ ys) ≡ map digit_of xs ++ map digit_of ys
map-append [] ys = refl
map-append (x ∷ xs) ys = ap (λ l. digit_of x ∷ l) (map-append xs ys)

prefix-smaller : (radix : ℕ) → 0 < radix → (n : ℕ) (bs : List ℕ) → value_of radix (map digit_of (take n bs)) ≤ value_of radix (map digit_of bs)
prefix-smaller radix some n bs =
    let front = map digit_of (take n bs) in
    let back = map digit_of (drop n bs) in
    let whole : value_of radix (map digit_of bs) ≡ value_of radix front * radix ^ length back + value_of radix back =
    ap (λ l. value_of radix (map digit_of l)) (sym (take-append-drop n bs)) ∙ ap (value_of radix) (map-append (take n bs) (drop n bs)) ∙ value-append radix front back in
    omega (arith, whole, le-mul_of_pos_right {m = radix ^ length back} (value_of radix front) (one-le-pow (length back) radix some))

-- a number, from digits
module _ (radix : ℕ) (sign : Sign) (bs : List ℕ) where
  abbrev Digits : Type 0
  Digits = (i : ℕ) → i < length bs → digit_of (get_or bs i 0) < radix

  pub number-some : 0 < radix → Digits → value_of radix (map digit_of bs) ≤ largest sign → number_of radix sign bs ≡ Ok (as_int sign (value_of radix (map digit_of bs)))
  unfolding number_of
  number-some some digits small =
      ap (answered sign (value_of radix (map digit_of bs))) (nowhere-wrong (found_at radix sign bs) 0 (length bs) (λ k l. rw zero-add (runs.judged-right _ _ _ _ (digits k l) (omega (arith, prefix-smaller radix some (suc k) bs)))))

  pub record Known (g : Sign) (n : ℕ) : Type 0 where
    pub sign-is : g ≡ sign
    pub value-is : n ≡ value_of radix (map digit_of bs)
    pub digits : Digits
    pub small : 0 < length bs → n ≤ largest sign

  known-right : {g : Sign} {n : ℕ} → first_of (found_at radix sign bs) 0 (length bs) ≡ right → ◌≡◌ {A = Result Int IntFault} (Ok (as_int sign (value_of radix (map digit_of bs)))) (Ok (as_int g n)) → Known g n
  known-right {g} {n} p q = record {
    sign-is = sym (ap (λ x. x.sign) same);
    value-is = value;
    digits = λ i l. (judged-known _ _ _ _ (rw zero-add at (everywhere i l))).0;
    small = λ l. rw value (last (length bs) refl l);
  }
    where
      same : as_int sign (value_of radix (map digit_of bs)) ≡ as_int g n
      same = cc

      value : n ≡ value_of radix (map digit_of bs)
      value = sym (ap (λ x. x.magnitude) same)

      everywhere : (k : ℕ) → k < length bs → found_at radix sign bs (0 + k) ≡ right
      everywhere = right-everywhere (found_at radix sign bs) 0 (length bs) p

      last : (m : ℕ) → length bs ≡ m → 0 < m → value_of radix (map digit_of bs) ≤ largest sign
      last zero e l = absurd (omega arith)
      last (suc m) e l = rw (take-length bs) at (rw (← e) at (judged-known _ _ _ _ (rw zero-add at (everywhere m (omega arith)))).1)

  by-found : {g : Sign} {n : ℕ} (f : Found) → first_of (found_at radix sign bs) 0 (length bs) ≡ f → answered sign (value_of radix (map digit_of bs)) f ≡ Ok (as_int g n) → Known g n
  by-found right p q = known-right p q
  by-found (wrong x) p q = absurd (let z : ◌≡◌ {A = ℕ} 0 1 = cc in omega arith)

  pub number-known : {g : Sign} {n : ℕ} → number_of radix sign bs ≡ Ok (as_int g n) → Known g n
  unfolding number_of
  number-known q = by-found _ refl q

-- what follows a sign, and what stands before it
module _ (radix : ℕ) where
  after-known : (sign : Sign) {g : Sign} {n : ℕ} (bs : List ℕ) → afterwards radix sign bs ≡ Ok (as_int g n) → (0 < length bs) × (number_of radix sign bs ≡ Ok (as_int g n))
  unfolding afterwards
  after-known sign [] p = absurd (let z : ◌≡◌ {A = ℕ} 0 1 = cc in omega arith)
  after-known sign (b ∷ bs) p = (omega arith, p)

  from-known : {g : Sign} {n : ℕ} (u : List ℕ) → from_str_radix radix u ≡ Ok (as_int g n)
      → (0 < length (after_sign (sign_by (get_or u 0 0)) u)) × (number_of radix (sign_by (get_or u 0 0)) (after_sign (sign_by (get_or u 0 0)) u) ≡ Ok (as_int g n))
  unfolding from_str_radix
  from-known [] p = absurd (let z : ◌≡◌ {A = ℕ} 0 1 = cc in omega arith)
  from-known (b ∷ bs) p = after-known (sign_by b) (after_sign (sign_by b) (b ∷ bs)) p

  after-some : (sign : Sign) (bs : List ℕ) → 0 < length bs → afterwards radix sign bs ≡ number_of radix sign bs
  unfolding afterwards
  after-some sign [] l = absurd (omega arith)
  after-some sign (b ∷ bs) l = refl

  from_some : (u : List ℕ) → 0 < length (after_sign (sign_by (get_or u 0 0)) u) → from_str_radix radix u ≡ number_of radix (sign_by (get_or u 0 0)) (after_sign (sign_by (get_or u 0 0)) u)
  unfolding from_str_radix sign_by
  from_some [] l = absurd (omega arith)
  from_some (b ∷ bs) l = after-some (sign_by b) (after_sign (sign_by b) (b ∷ bs)) l

module _ (bytes : List ℕ) where
  radix-some : 0 < radix_of (kept bytes)
  radix-some = omega (arith, (radix-usable (kept bytes)).0)

  -- A spelling whose number i64 has is answered with that number.
  pub spelled-answered : {z : ℤ} → Spells bytes z → magnitude_of bytes ≤ largest (sign_of bytes) → int_of bytes ≡ Ok (as_int (sign_of bytes) (magnitude_of bytes))
  unfolding int_of
  spelled-answered s small = from_some (radix_of (kept bytes)) (after_prefix (kept bytes)) s.some ∙ number-some _ _ _ radix-some s.digits small

  -- An answer with a value is the number that the bytes spell, and i64 has it.
  pub record Answered (sign : Sign) (n : ℕ) : Type 0 where
    pub spells : Spells bytes (signed sign n)
    pub sign-is : sign ≡ sign_of bytes
    pub magnitude-is : n ≡ magnitude_of bytes
    pub in-range : n ≤ largest sign

  pub answered-spelled : {sign : Sign} {n : ℕ} → int_of bytes ≡ Ok (as_int sign n) → Answered sign n
  unfolding int_of
  answered-spelled {sign} {n} p =
      let some = (from-known (radix_of (kept bytes)) (after_prefix (kept bytes)) p).0 in
      let known = number-known _ _ _ (from-known (radix_of (kept bytes)) (after_prefix (kept bytes)) p).1 in
      record {
        spells = record { some = some; digits = known.digits; sum = rw (known.sign-is, known.value-is) };
        sign-is = known.sign-is;
        magnitude-is = known.value-is;
        in-range = rw known.sign-is (known.small some);
      }

  -- At most 2^63, and 2^63 only with a minus.
  pub magnitude-bounds : {sign : Sign} {n : ℕ} → int_of bytes ≡ Ok (as_int sign n) → (n ≤ 2 ^ 63) × (n ≡ 2 ^ 63 → sign ≡ Minus)
  magnitude-bounds {sign} {n} p = by_sign sign (answered-spelled p).in-range
    where
      by_sign : (g : Sign) → n ≤ largest g → (n ≤ 2 ^ 63) × (n ≡ 2 ^ 63 → g ≡ Minus)
      by_sign Absent l = (omega arith, λ e. absurd (omega arith))
      by_sign Plus l = (omega arith, λ e. absurd (omega arith))
      by_sign Minus l = (l, λ _. refl)

  -- What the answer means is what the bytes spell.
  pub meant-spelled : {z : ℤ} → Spells bytes z → magnitude_of bytes ≤ largest (sign_of bytes) → meant (int_of bytes) ≡ number z
  meant-spelled s small = ap meant (spelled-answered s small) ∙ ap number (sym s.sum)

-- Two different values never share an answer: spellings that are answered alike, one of them with a value, spell the same whole number.
pub values-apart : (one other : List ℕ) {y z : ℤ} → Spells one y → Spells other z → magnitude_of one ≤ largest (sign_of one) → int_of one ≡ int_of other → y ≡ z
values-apart one other {y} {z} s t small same =
    let known = answered-spelled other (sym same ∙ spelled-answered one s small) in
    s.sum ∙ known.spells.sum ∙ sym t.sum

-- A fault after the sign is that of the first place from the left that is wrong.
pub fault-first : (radix : ℕ) (sign : Sign) (bs : List ℕ) (f : IntFault) → number_of radix sign bs ≡ Err f → First (found_at radix sign bs) 0 (length bs) f
unfolding number_of
fault-first radix sign bs f p = first-wrong _ 0 (length bs) f (by-found' (first_of (found_at radix sign bs) 0 (length bs)) p)
  where
    by-found' : (x : Found) → answered sign (value_of radix (map digit_of bs)) x ≡ Err f → x ≡ wrong f
    by-found' right q = absurd (let z : ◌≡◌ {A = ℕ} 0 1 = cc in omega arith)
    by-found' (wrong g) q = cc
