-- The first nodes of a row of trees, as the walk prints them; and that how far the reading of the links goes does not matter beyond that.
-- Assumes nothing.
use mathlib.Core.Path.{◌≡◌, refl, sym, ap, ◌∙◌}
use mathlib.Core.Logic.{◌⊎◌, inl, inr}
use mathlib.Core.List.{List, [], ◌∷◌, ◌++◌, append_assoc, append-nil}
use Prim.Native.Nat.{ℕ, zero, suc, ◌+◌, ◌-◌, ◌*◌, ◌/◌, ◌<◌, ◌≤◌, min}
use native.Mathlib.Omega.{arith}
use lib.ListN.{length, get_or, take, length-take, length-append}
use Rattle.cursor.specs.declared.Label.{Label}
use Rattle.cursor.specs.Layout.{FIRST, NEXT}
use Rattle.cursor.specs.Tree.{word, label, trees, meaning}
use Rattle.listing.specs.declared.page.Page.{Page}
use Rattle.listing.specs.Page.{emits}
use Rattle.listing.specs.Lines.{node_line, error_line}
use Rattle.listing.specs.Listing.{rows, row_lines, rows_from, node_lines, errors_from, error_lines}
use Rattle.listing.proofs.Pages.{and_then}

-- the first ones of two lists in a row
pub take-join : {A : Type 0} (n : ℕ) (a b : List A) → take n (a ++ b) ≡ take n a ++ take (n - length a) b
take-join zero a b = let e : 0 - length a ≡ 0 = omega arith in sym (rw e)
take-join (suc n) [] b = let e : suc n - 0 ≡ suc n = omega arith in sym (rw e)
take-join (suc n) (x ∷ a) b = let e : suc n - suc (length a) ≡ n - length a = omega arith in rw e (ap (λ l. x ∷ l) (take-join n a b))

-- what is left of n after the first n of a list, or after the whole
pub left-take : {A : Type 0} (n : ℕ) (a : List A) → n - length (take n a) ≡ n - length a
left-take n a = let e = length-take n a in omega arith

-- the first n nodes are the same however many steps, n at least, the links are followed
abbrev Agree : ℕ → List ℕ → Type 0
Agree k xs = (j n link level : ℕ) → n ≤ k → n ≤ j → take n (rows level (trees k xs link)) ≡ take n (rows level (trees j xs link))

agree-more : (k : ℕ) (xs : List ℕ) → Agree k xs → Agree (suc k) xs
unfolding rows trees
agree-more k xs less j zero link level p q = refl
agree-more k xs less zero (suc n) link level p q = absurd (omega arith)
agree-more k xs less (suc j) (suc n) zero level p q = refl
agree-more k xs less (suc j) (suc n) (suc i) level p q =
    let ak : List (ℕ × Label) = rows (level + 1) (trees k xs (word xs i FIRST)) in
    let aj : List (ℕ × Label) = rows (level + 1) (trees j xs (word xs i FIRST)) in
    let bk : List (ℕ × Label) = rows level (trees k xs (word xs i NEXT)) in
    let bj : List (ℕ × Label) = rows level (trees j xs (word xs i NEXT)) in
    let a : take n ak ≡ take n aj = less j n (word xs i FIRST) (level + 1) (omega arith) (omega arith) in
    let e : n - length ak ≡ n - length aj = sym (left-take n ak) ∙ ap (λ l. n - length l) a ∙ left-take n aj in
    let b : take (n - length aj) bk ≡ take (n - length aj) bj = less j (n - length aj) (word xs i NEXT) level (omega arith) (omega arith) in
    ap (λ l. (level, label xs i) ∷ l) (take-join n ak bk ∙ rw (a, e, b) (sym (take-join n aj bj)))

pub agree : (k : ℕ) (xs : List ℕ) → Agree k xs
agree zero xs = λ j n link level p q. let e : n ≡ 0 = omega arith in rw e
agree (suc k) xs = agree-more k xs (agree k xs)

module _ (xs : List ℕ) (level : ℕ) where
  -- nothing may be printed, or there is nothing
  pub rows_none : (link left : ℕ) → left ≡ 0 → rows_from xs link level left ≡ []
  unfolding rows_from
  rows_none link left e = rw e

  pub rows_end : (link left : ℕ) → link ≡ 0 → rows_from xs link level left ≡ []
  unfolding rows_from rows trees
  rows_end link zero e = refl
  rows_end link (suc left) e = rw e

  pub rows_over : (link left : ℕ) → (left ≡ 0) ⊎ (¬ (left ≡ 0) × (link ≡ 0)) → rows_from xs link level left ≡ []
  rows_over link left (inl e) = rows_none link left e
  rows_over link left (inr e) = rows_end link left e.1

  -- a node, those below it, and those after it
  pub rows_on : (i m : ℕ) → rows_from xs (suc i) level (suc m) ≡ (level, label xs i) ∷ (rows_from xs (word xs i FIRST) (level + 1) m ++ rows_from xs (word xs i NEXT) level (m - length (rows_from xs (word xs i FIRST) (level + 1) m)))
  unfolding rows_from rows trees
  rows_on i m =
      let a : List (ℕ × Label) = rows (level + 1) (trees m xs (word xs i FIRST)) in
      let b : List (ℕ × Label) = rows level (trees m xs (word xs i NEXT)) in
      ap (λ l. (level, label xs i) ∷ l) (take-join m a b ∙ rw (left-take m a) (ap (λ l. take m a ++ l) (agree m xs (m - length a) (m - length a) (word xs i NEXT) level (omega arith) (omega arith))))

pub lines-append : (a b : List (ℕ × Label)) → row_lines (a ++ b) ≡ row_lines a ++ row_lines b
unfolding row_lines
lines-append [] b = refl
lines-append (r ∷ a) b = rw (lines-append a b, append_assoc (node_line r.0 r.1) (row_lines a) (row_lines b))

-- a label is its words
pub label-words :
    (xs : List ℕ) (i : ℕ) {kind start end one two flags : ℕ} →
    kind ≡ get_or xs (8 * i + 0) 0 → start ≡ get_or xs (8 * i + 1) 0 → end ≡ get_or xs (8 * i + 2) 0 → one ≡ get_or xs (8 * i + 5) 0 → two ≡ get_or xs (8 * i + 6) 0 → flags ≡ get_or xs (8 * i + 7) 0 →
    record { kind = kind; start = start; end = end; one = one; two = two; flags = flags } ≡ label xs i
unfolding label word
label-words xs i a b c d e f = λ j. record { kind = a j; start = b j; end = c j; one = d j; two = e j; flags = f j }

-- a link that was read
pub as-word : (xs : List ℕ) (i k : ℕ) {n : ℕ} → n ≡ get_or xs (8 * i + k) 0 → n ≡ word xs i k
unfolding word
as-word xs i k e = e

-- nothing is printed
pub still : (p : Page) {rs : List (ℕ × Label)} → rs ≡ [] → p ≡ emits (row_lines rs) p
unfolding row_lines emits
still p e = sym (rw e)

pub all_left : (left : ℕ) {rs : List (ℕ × Label)} → rs ≡ [] → left ≡ left - length rs
all_left left e = rw e (omega arith)

-- a node's line, those below it, those after it
module _ (xs : List ℕ) (level link left i m : ℕ) (l : link ≡ suc i) (h : left ≡ suc m) {first next rest : ℕ} (a : first ≡ word xs i FIRST) (b : next ≡ word xs i NEXT) (r : rest ≡ m - length (rows_from xs first (level + 1) m)) where
  rows_split : rows_from xs link level left ≡ (level, label xs i) ∷ (rows_from xs first (level + 1) m ++ rows_from xs next level rest)
  rows_split = rw (l, h, r, a, b) (rows_on xs level i m)

  pub walk-lines : (p : Page) {p1 p2 p3 : Page} → p1 ≡ emits (node_line level (label xs i)) p → p2 ≡ emits (row_lines (rows_from xs first (level + 1) m)) p1 → p3 ≡ emits (row_lines (rows_from xs next level rest)) p2 → p3 ≡ emits (row_lines (rows_from xs link level left)) p
  unfolding row_lines
  walk-lines p e f g = rw (rows_split, lines-append (rows_from xs first (level + 1) m) (rows_from xs next level rest)) (and_then (node_line level (label xs i)) _ p e (and_then (row_lines (rows_from xs first (level + 1) m)) _ _ f g))

  pub walk-left : {end : ℕ} → end ≡ rest - length (rows_from xs next level rest) → end ≡ left - length (rows_from xs link level left)
  walk-left e =
      let s = ap length rows_split in
      let t = length-append (rows_from xs first (level + 1) m) (rows_from xs next level rest) in
      omega arith

-- the whole tree, from its root
module _ (xs : List ℕ) (count : ℕ) {left : ℕ} (e : left ≡ min count (length xs / 8)) where
  pub tree-none : (p : Page) → left ≡ 0 → p ≡ emits (node_lines xs count) p
  unfolding node_lines row_lines emits
  tree-none p h = sym (rw (sym e ∙ h))

  tree-rows : (m : ℕ) → left ≡ suc m → take (min count (length xs / 8)) (rows 0 (meaning xs (count - 1))) ≡ (0, label xs (count - 1)) ∷ rows_from xs (word xs (count - 1) FIRST) 1 m
  unfolding rows meaning rows_from
  tree-rows m h =
      let i : ℕ = count - 1 in
      let g : m ≤ length xs = omega arith in
      rw (sym e ∙ h, append-nil (rows 1 (trees (length xs) xs (word xs i FIRST)))) (ap (λ l. (0, label xs i) ∷ l) (agree (length xs) xs m m (word xs i FIRST) 1 g (omega arith)))

  pub tree-lines : (m : ℕ) (p : Page) {first : ℕ} {p1 p2 : Page} → left ≡ suc m → first ≡ word xs (count - 1) FIRST → p1 ≡ emits (node_line 0 (label xs (count - 1))) p → p2 ≡ emits (row_lines (rows_from xs first 1 m)) p1 → p2 ≡ emits (node_lines xs count) p
  unfolding node_lines row_lines
  tree-lines m p {first} h a f g = rw (tree-rows m h, ← a) (and_then (node_line 0 (label xs (count - 1))) (row_lines (rows_from xs first 1 m)) p f g)

-- the label that was read, as a node's line has it
pub read-line : (xs : List ℕ) (i level : ℕ) (p : Page) {l : Label} {q : Page} → l ≡ label xs i → q ≡ emits (node_line level l) p → q ≡ emits (node_line level (label xs i)) p
read-line xs i level p e f = rw (← e) f

-- one error more, and no more
module _ (errors expected : List ℕ) (i end : ℕ) (p : Page) where
  pub errors-on : {q : Page} → i < end → q ≡ emits (error_line errors expected i) p → emits (errors_from errors expected i (end - i)) p ≡ emits (errors_from errors expected (i + 1) (end - (i + 1))) q
  unfolding errors_from
  errors-on h e = let k : end - i ≡ suc (end - (i + 1)) = omega arith in rw k (sym (and_then (error_line errors expected i) _ p e refl))

  pub errors-end : end ≤ i → emits (errors_from errors expected i (end - i)) p ≡ p
  unfolding errors_from emits
  errors-end h = let k : end - i ≡ 0 = omega arith in rw k

pub errors-all : (errors expected : List ℕ) (count : ℕ) (p : Page) {end : ℕ} → end ≡ min count (length errors / 6) → emits (error_lines errors expected count) p ≡ emits (errors_from errors expected 0 end) p
unfolding error_lines
errors-all errors expected count p e = rw e
