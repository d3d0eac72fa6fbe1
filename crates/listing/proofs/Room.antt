-- How long a listing can be: its lines are bounded, and so are their numbers.
-- Assumes nothing.
use mathlib.Core.Path.{◌≡◌, refl}
use mathlib.Core.Bool.{Bool, true, false}
use mathlib.Core.List.{List, [], ◌∷◌, ◌++◌, map}
use Prim.Native.Nat.{ℕ, zero, suc, ◌+◌, ◌-◌, ◌*◌, ◌/◌, ◌%◌, ◌^◌, ◌<◌, ◌≤◌, min}
use native.Mathlib.Decide.{dec_lt}
use native.Mathlib.Nat.{pow-succ', mul-suc, mul-le-mul_left}
use native.Mathlib.Omega.{arith}
use lib.Dec.{T, leb, leb→le, ltb, eqb}
use lib.ListN.{length, get_or, take, drop, length-append, length-take, length-drop, get_or-eq_default}
use borrow.Author.Tests.{ltb-true, ltb-false}
use Rattle.kinds.specs.Spelling.{bytes, whether}
use Rattle.kinds.specs.Listing.{listing_name}
use Rattle.kinds.specs.TypeWords.{type_names}
use Rattle.kinds.proofs.Every.{every, at}
use Rattle.kinds.proofs.Rest.{past}
use Rattle.cursor.specs.declared.Label.{Label}
use Rattle.cursor.specs.Layout.{FIRST, NEXT, CLASS, FOUND, ERROR_START, ERROR_END, KINDS_FROM, KINDS_COUNT, error_cell}
use Rattle.cursor.specs.Tree.{word, label, trees, meaning}
use Rattle.listing.specs.declared.list.Counts.{Counts}
use Rattle.listing.specs.Decimal.{decimal, integer}
use Rattle.listing.specs.Names.{record_names, record_name, unary_name, binary_name, type_name, detail_name}
use Rattle.listing.specs.Lines.{fields, detail, node_line, found, error_word, kinds_of, error_line, first_line}
use Rattle.listing.specs.Listing.{rows, row_lines, node_lines, errors_from, error_lines, listing_of}
use Rattle.listing.proofs.Decimals.{decimal-one, decimal-more}
use Rattle.listing.proofs.Written.{fields-append}

-- a number below a power of ten has so many digits at most
pub decimal-length : (k n : ℕ) → n < 10 ^ suc k → length (decimal n) ≤ suc k
decimal-length zero n h = rw (decimal-one n h) (omega arith)
decimal-length (suc k) n h = by (ltb n 10) refl (decimal-length k (n / 10))
  where
    by : (b : Bool) → ltb n 10 ≡ b → (n / 10 < 10 ^ suc k → length (decimal (n / 10)) ≤ suc k) → length (decimal n) ≤ suc (suc k)
    by true e less = let g = ltb-true n 10 e in rw (decimal-one n g) (omega arith)
    by false e less =
        let g = ltb-false n 10 e in
        let p = pow-succ' 10 (suc k) in
        let q = less (omega arith) in
        let s = length-append (decimal (n / 10)) ((48 + n % 10) ∷ []) in
        rw (decimal-more n g) (omega arith)

-- a test at each number below a bound
short-below : (n most : ℕ) (f : ℕ → List ℕ) → T (every n (λ k. leb (length (f k)) most)) → (k : ℕ) → k < n → length (f k) ≤ most
short-below n most f t k h = leb→le (length (f k)) most (at n (λ k. leb (length (f k)) most) t k h)

pub record-short : (k : ℕ) → length (record_name k) ≤ 16
unfolding record_name
record-short k = elim (dec_lt k 53) [
  | yes h ↦ short-below 53 16 record_name tt k h
  | no h ↦ rw (get_or-eq_default record_names "" {n = k} (omega arith)) (omega arith)
]

pub binary-short : (k : ℕ) → length (binary_name k) ≤ 16
unfolding binary_name listing_name
binary-short k = elim (dec_lt k 79) [
  | yes h ↦ short-below 79 16 binary_name tt k h
  | no h ↦ rw (past k (omega arith)) (omega arith)
]

pub type-short : (k : ℕ) → length (type_name k) ≤ 16
unfolding type_name
type-short k = elim (dec_lt k 10) [
  | yes h ↦ short-below 10 16 type_name tt k h
  | no h ↦ rw (get_or-eq_default type_names "" {n = k} (omega arith)) (omega arith)
]

-- what holds of both holds of the one that is chosen
either : {A : Type 0} (P : A → Type 0) (b : Bool) (x y : A) → P x → P y → P (whether b x y)
either P true x y p q = p
either P false x y p q = q

pub unary-short : (k : ℕ) → length (unary_name k) ≤ 16
unfolding unary_name
unary-short k =
    either (λ (l : List ℕ). length l ≤ 16) (eqb k 24) (bytes "Not") _ (omega arith)
    (either (λ (l : List ℕ). length l ≤ 16) (eqb k 65) (bytes "Neg") [] (omega arith) (omega arith))

pub integer-short : (bits : ℕ) → bits < 2 ^ 64 → length (integer bits) ≤ 21
unfolding integer
integer-short bits h = by (ltb bits (2 ^ 63)) refl
  where
    by : (b : Bool) → ltb bits (2 ^ 63) ≡ b → length (integer bits) ≤ 21
    by true e = let d = decimal-length 19 bits (omega arith) in rw (e, integer) (omega arith)
    by false e = let d = decimal-length 19 (2 ^ 64 - bits) (omega arith) in rw (e, integer) (omega arith)

abbrev OneField : List (List ℕ) → Type 0
OneField fs = length (fields fs) ≤ 22

one_field : (f : List ℕ) → length f ≤ 21 → OneField (f ∷ [])
unfolding fields
one_field f h = let e = length-append f [] in omega arith

no_field : OneField []
unfolding fields
no_field = omega arith

-- the numbers of a label are words
pub record Small (l : Label) : Type 0 where
  pub start : l.start < 2 ^ 32
  pub end : l.end < 2 ^ 32
  pub one : l.one < 2 ^ 32
  pub two : l.two < 2 ^ 32

pub detail-short : (l : Label) → Small l → OneField (detail l)
unfolding detail detail_name
detail-short l s =
    let int = integer-short (l.one + 2 ^ 32 * l.two) (omega (arith, s.one, s.two)) in
    let u = unary-short l.one in
    let b = binary-short l.one in
    let t = type-short l.one in
    either OneField (eqb l.kind 3) _ _ (one_field (integer (l.one + 2 ^ 32 * l.two)) int)
    (either OneField (eqb l.kind 14) _ _ (one_field (unary_name l.one) (omega arith))
    (either OneField (eqb l.kind 15) _ _ (one_field (binary_name l.one) (omega arith))
    (either OneField (eqb l.kind 30) _ _ (one_field (binary_name l.one) (omega arith))
    (either OneField (eqb l.kind 16) _ _ (one_field (type_name l.one) (omega arith)) no_field))))

pub node-length : (level : ℕ) (l : Label) → level < 10 ^ 10 → Small l → length (node_line level l) ≤ 72
unfolding node_line fields
node-length level l h s =
    let a = decimal-length 9 level h in
    let k = record-short l.kind in
    let b = decimal-length 9 l.start (omega (arith, s.start)) in
    let c = decimal-length 9 l.end (omega (arith, s.end)) in
    let d = detail-short l s in
    simp length-append (omega arith)

-- levels below a bound, and labels of words
abbrev pub Fine : ℕ → List (ℕ × Label) → Type 0
Fine m [] = Unit {0}
Fine m (r ∷ rs) = (r.0 < m) × Small r.1 × Fine m rs

fine-append : (m : ℕ) (a b : List (ℕ × Label)) → Fine m a → Fine m b → Fine m (a ++ b)
fine-append m [] b p q = q
fine-append m (r ∷ a) b p q = (p.0, p.1, fine-append m a b p.2 q)

fine-take : (m n : ℕ) (a : List (ℕ × Label)) → Fine m a → Fine m (take n a)
fine-take m zero a p = tt
fine-take m (suc n) [] p = tt
fine-take m (suc n) (r ∷ a) p = (p.0, p.1, fine-take m n a p.2)

-- a buffer of words
pub record Words (xs : List ℕ) : Type 0 where
  pub at : (i : ℕ) → get_or xs i 0 < 2 ^ 32

small-label : (xs : List ℕ) (i : ℕ) → Words xs → Small (label xs i)
unfolding label word
small-label xs i w = record { start = w.at _; end = w.at _; one = w.at _; two = w.at _ }

fine-rows : (k : ℕ) (xs : List ℕ) (link level m : ℕ) → Words xs → level + k ≤ m → Fine m (rows level (trees k xs link))
unfolding rows trees
fine-rows zero xs link level m w h = tt
fine-rows (suc k) xs zero level m w h = tt
fine-rows (suc k) xs (suc i) level m w h = (omega arith, small-label xs i w, fine-append m (rows (level + 1) (trees k xs (word xs i FIRST))) (rows level (trees k xs (word xs i NEXT))) (fine-rows k xs (word xs i FIRST) (level + 1) m w (omega arith)) (fine-rows k xs (word xs i NEXT) level m w (omega arith)))

lines-length : (m : ℕ) (rs : List (ℕ × Label)) → m ≤ 10 ^ 10 → Fine m rs → length (row_lines rs) ≤ 72 * length rs
unfolding row_lines
lines-length m [] h f = omega arith
lines-length m (r ∷ rs) h f =
    let a = node-length r.0 r.1 (omega (arith, f.0)) f.1 in
    let b = lines-length m rs h f.2 in
    let e = length-append (node_line r.0 r.1) (row_lines rs) in
    omega arith

fine-meaning : (xs : List ℕ) (i : ℕ) → Words xs → Fine (suc (length xs)) (rows 0 (meaning xs i))
unfolding rows meaning
fine-meaning xs i w = (omega arith, small-label xs i w, fine-append (suc (length xs)) (rows 1 (trees (length xs) xs (word xs i FIRST))) [] (fine-rows (length xs) xs (word xs i FIRST) 1 (suc (length xs)) w (omega arith)) tt)

pub nodes-length : (xs : List ℕ) (count : ℕ) → Words xs → length xs < 10 ^ 10 → length (node_lines xs count) ≤ 72 * (length xs / 8)
unfolding node_lines
nodes-length xs count w h =
    let all : List (ℕ × Label) = rows 0 (meaning xs (count - 1)) in
    let m : ℕ = min count (length xs / 8) in
    let a = lines-length (suc (length xs)) (take m all) (omega arith) (fine-take (suc (length xs)) m all (fine-meaning xs (count - 1) w)) in
    let b = length-take m all in
    omega arith

-- a buffer of bytes
pub record Bytes (xs : List ℕ) : Type 0 where
  pub at : (i : ℕ) → get_or xs i 0 < 256

abbrev Each : List ℕ → Type 0
Each [] = Unit {0}
Each (x ∷ xs) = (x < 256) × Each xs

each : (xs : List ℕ) → ((i : ℕ) → get_or xs i 0 < 256) → Each xs
each [] b = tt
each (x ∷ xs) b = (b 0, each xs (λ i. b (suc i)))

each-drop : (n : ℕ) (xs : List ℕ) → Each xs → Each (drop n xs)
each-drop zero xs e = e
each-drop (suc n) [] e = tt
each-drop (suc n) (x ∷ xs) e = each-drop n xs e.1

each_take : (n : ℕ) (xs : List ℕ) → Each xs → Each (take n xs)
each_take zero xs e = tt
each_take (suc n) [] e = tt
each_take (suc n) (x ∷ xs) e = (e.0, each_take n xs e.1)

kinds-length : (ks : List ℕ) → Each ks → length (fields (map decimal ks)) ≤ 4 * length ks
unfolding fields
kinds-length [] e = omega arith
kinds-length (k ∷ ks) e =
    let a = decimal-length 2 k (omega (arith, e.0)) in
    let b = kinds-length ks e.1 in
    let c = length-append (decimal k) (fields (map decimal ks)) in
    omega arith

found-length : (class what : ℕ) → what < 2 ^ 32 → length (fields (found class what)) ≤ 15
unfolding found fields
found-length class what h =
    let a = decimal-length 9 what (omega arith) in
    let b = length-append (decimal what) [] in
    either (λ (fs : List (List ℕ)). length (fields fs) ≤ 15) (eqb class 1) (bytes "int" ∷ decimal what ∷ []) (decimal what ∷ []) (omega arith) (omega arith)

two-length : (x y : List ℕ) (fs : List (List ℕ)) → length (fields (x ∷ y ∷ fs)) ≡ 2 + length x + length y + length (fields fs)
unfolding fields
two-length x y fs = simp length-append (omega arith)

pub error-length : (errors expected : List ℕ) (i : ℕ) → Words errors → Bytes expected → length (error_line errors expected i) ≤ 43 + 4 * length expected
unfolding error_line
error-length errors expected i w b =
    let f = found-length (error_word errors i CLASS) (error_word errors i FOUND) (w.at _) in
    let s = decimal-length 9 (error_word errors i ERROR_START) (omega (arith, w.at (error_cell i ERROR_START))) in
    let e = decimal-length 9 (error_word errors i ERROR_END) (omega (arith, w.at (error_cell i ERROR_END))) in
    let ks : List ℕ = kinds_of errors expected i in
    let k = kinds-length ks (each_take (error_word errors i KINDS_COUNT) _ (each-drop (error_word errors i KINDS_FROM) expected (each expected b.at))) in
    let t = length-take (error_word errors i KINDS_COUNT) (drop (error_word errors i KINDS_FROM) expected) in
    let d = length-drop (error_word errors i KINDS_FROM) expected in
    let r = two-length (decimal (error_word errors i ERROR_START)) (decimal (error_word errors i ERROR_END)) (map decimal ks) in
    simp (fields-append, length-append) (omega arith)

pub errors-length : (errors expected : List ℕ) (i k : ℕ) → Words errors → Bytes expected → length (errors_from errors expected i k) ≤ (43 + 4 * length expected) * k
unfolding errors_from
errors-length errors expected i zero w b = omega arith
errors-length errors expected i (suc k) w b =
    let a = error-length errors expected i w b in
    let r = errors-length errors expected (i + 1) k w b in
    let e = length-append (error_line errors expected i) (errors_from errors expected (i + 1) k) in
    let m = mul-suc (43 + 4 * length expected) k in
    omega arith

pub first-length : (reads nodes errors : ℕ) → reads < 2 ^ 32 → nodes < 2 ^ 32 → errors < 2 ^ 32 → length (first_line reads nodes errors) ≤ 60
unfolding first_line fields
first-length reads nodes errors p q r =
    let a = decimal-length 9 reads (omega arith) in
    let b = decimal-length 9 nodes (omega arith) in
    let c = decimal-length 9 errors (omega arith) in
    simp length-append (omega arith)

-- what the lister lends: 1,024 node records, 16 error records and 1,024 expected kinds. 262,144 bytes are enough for any contents
pub suffices :
    (nodes errors expected : List ℕ) (c : Counts) → length nodes ≡ 8192 → length errors ≡ 96 → length expected ≡ 1024 → Words nodes → Words errors → Bytes expected →
    c.reads < 2 ^ 32 → c.nodes < 2 ^ 32 → c.errors < 2 ^ 32 → length (listing_of nodes errors expected c) ≤ 262144
unfolding listing_of error_lines
suffices nodes errors expected c n e x wn we bx p q r =
    let f = first-length c.reads c.nodes c.errors p q r in
    let a = nodes-length nodes c.nodes wn (omega arith) in
    let k : ℕ = min c.errors (length errors / 6) in
    let b = errors-length errors expected 0 k we bx in
    let g : (43 + 4 * length expected) * k ≤ (43 + 4 * length expected) * 16 = mul-le-mul_left (43 + 4 * length expected) (omega arith) in
    simp length-append (omega arith)
