-- Finished trees in the node buffer, and rows of them: which records they take, and what a write elsewhere leaves of them.
use Rattle.std.proofs.Common.{◌≡◌, ℕ, zero, suc, ◌*◌, ◌<◌, ◌≤◌, List, refl, ◌∙◌, arith}
use Rattle.cursor.specs.declared.Label.{Label}
use Rattle.cursor.specs.Layout.{node_words, KIND, START, END, FIRST, NEXT, ONE, TWO, FLAGS, cell}
use Rattle.cursor.specs.Tree.{Trees, none, join, tree, word, label}

-- the link behind the child that a link leads to; behind no child, the first link itself
abbrev pub after : List ℕ → ℕ → ℕ → ℕ
after xs first zero = first
after xs first (suc i) = word xs i NEXT

-- the place of that link; behind no child there is none in the row
abbrev pub behind : ℕ → ℕ
behind zero = 0
behind (suc i) = cell i NEXT

mutual
  -- a finished tree: root, link to its last child, label, children. Its records are those from lo up to hi: the children that were there before
  -- the root was written lie below it, the late ones above it. What stands behind the root is left open
  pub data Built (xs : List ℕ) : ℕ → ℕ → ℕ → ℕ → Label → Trees → Type 0 where
    built : {lo hi root first mid last : ℕ} {l : Label} {early late kids : Trees} → label xs root ≡ l → word xs root FIRST ≡ first → Row xs first lo root 0 mid early → Row xs first (suc root) hi mid last late → after xs first last ≡ 0 → kids ≡ join early late → Built xs lo hi root last l kids

  -- finished trees in a row that starts with the link `first`: those behind the child at the link m (0: all) up to the child at the link n, on
  -- the records from lo up to hi. What stands behind the last one is left open
  pub data Row (xs : List ℕ) : ℕ → ℕ → ℕ → ℕ → ℕ → Trees → Type 0 where
    nil : {first lo hi m : ℕ} → lo ≡ hi → Row xs first lo hi m m none
    snoc : {first lo mid hi m n root last : ℕ} {l : Label} {ts ks us : Trees} → Row xs first lo mid m n ts → after xs first n ≡ suc root → Built xs mid hi root last l ks → us ≡ join ts (tree l ks) → Row xs first lo hi m (suc root) us

-- a root lies among its tree's records
mutual
  pub built_in : {xs : List ℕ} {lo hi root last : ℕ} {l : Label} {ks : Trees} → Built xs lo hi root last l ks → (lo ≤ root) × (root < hi)
  built_in (built e q a b z u) = (row-le a, row-le b)

  pub row-le : {xs : List ℕ} {first lo hi m n : ℕ} {ts : Trees} → Row xs first lo hi m n ts → lo ≤ hi
  row-le (nil h) = omega arith
  row-le (snoc a q b u) = omega (arith, row-le a, built_in b)

pub built-label : {xs : List ℕ} {lo hi root last : ℕ} {l : Label} {ks : Trees} → Built xs lo hi root last l ks → label xs root ≡ l
built-label (built e q a b z u) = e

-- the last child of a row lies among its records
pub row_last : {xs : List ℕ} {first lo hi n : ℕ} {ts : Trees} → Row xs first lo hi 0 (suc n) ts → (lo ≤ n) × (n < hi)
row_last (snoc a q b u) = let i = row-le a in let j = built_in b in omega arith

-- the two buffers have the same words in the records from lo up to hi, but for the one at x
pub record Agree (xs ys : List ℕ) (lo hi x : ℕ) : Type 0 where
  pub at : (i k : ℕ) → lo ≤ i → i < hi → k < node_words → (cell i k ≡ x → ⊥) → word ys i k ≡ word xs i k

-- where x lies at or above some of the records, or below some, they agree throughout
pub agree-below : {xs ys : List ℕ} {lo hi x : ℕ} → Agree xs ys lo hi x → (top : ℕ) → top ≤ hi → node_words * top ≤ x → (y : ℕ) → Agree xs ys lo top y
agree-below g top p q y = record { at = λ i k a b c _. g.at i k a (omega arith) c (omega arith) }

pub agree-above : {xs ys : List ℕ} {lo hi x : ℕ} → Agree xs ys lo hi x → (low : ℕ) → lo ≤ low → x < node_words * low → (y : ℕ) → Agree xs ys low hi y
agree-above g low p q y = record { at = λ i k a b c _. g.at i k (omega arith) b c (omega arith) }

-- a label is its words
pub label_same : (xs ys : List ℕ) (i : ℕ) → ((k : ℕ) → k < node_words → (k ≡ FIRST → ⊥) → (k ≡ NEXT → ⊥) → word ys i k ≡ word xs i k) → label ys i ≡ label xs i
unfolding label
label_same xs ys i h = λ j. record { kind = at KIND (omega arith) (omega arith) (omega arith) j; start = at START (omega arith) (omega arith) (omega arith) j; end = at END (omega arith) (omega arith) (omega arith) j; one = at ONE (omega arith) (omega arith) (omega arith) j; two = at TWO (omega arith) (omega arith) (omega arith) j; flags = at FLAGS (omega arith) (omega arith) (omega arith) j }
  where
    at : (k : ℕ) → k < node_words → (k ≡ FIRST → ⊥) → (k ≡ NEXT → ⊥) → word ys i k ≡ word xs i k
    at = h

-- another next link leaves a label as it was
pub label-keep : {xs ys : List ℕ} {lo hi root : ℕ} → Agree xs ys lo hi (cell root NEXT) → lo ≤ root → root < hi → label ys root ≡ label xs root
label-keep {root = root} g p q = label_same _ _ root (λ k c _ n. g.at root k p q c (omega arith))

-- what stands behind a row stays where none of its words changed
pub row-end : {xs ys : List ℕ} {first lo hi m n x : ℕ} {ts : Trees} → Row xs first lo hi m n ts → Agree xs ys lo hi x → node_words * hi ≤ x → after ys first m ≡ after xs first m → after ys first n ≡ after xs first n
row-end (nil h) g o e = e
row-end (snoc {root = root} a q b u) g o e = let i = built_in b in let j = row-le a in g.at root NEXT (omega arith) (omega arith) (omega arith) (omega arith)

mutual
  -- a tree stays one where nothing but a word of its root changed, its first link excepted; its label is what that record says now
  pub built-but : {xs ys : List ℕ} {lo hi root last : ℕ} {l l' : Label} {ks : Trees} (k : ℕ) → k < node_words → (k ≡ FIRST → ⊥) → Built xs lo hi root last l ks → Agree xs ys lo hi (cell root k) → label ys root ≡ l' → Built ys lo hi root last l' ks
  built-but {xs} {ys} k p n (built {lo = lo} {hi = hi} {root = root} e q a b z u) g e' =
      let i = row-le a in
      let j = row-le b in
      let ga : (y : ℕ) → Agree xs ys lo root y = agree-below g root (omega arith) (omega arith) in
      let gb : (y : ℕ) → Agree xs ys (suc root) hi y = agree-above g (suc root) (omega arith) (omega arith) in
      let ea = row-end a (ga (node_words * root)) (omega arith) refl in
      built e' (g.at root FIRST (omega arith) (omega arith) (omega arith) (omega arith) ∙ q) (row_keep a (ga _) refl) (row_keep b (gb _) ea) (row-end b (gb (node_words * hi)) (omega arith) ea ∙ z) u

  -- a row stays where nothing but the link behind its last child changed
  pub row_keep : {xs ys : List ℕ} {first lo hi m n : ℕ} {ts : Trees} → Row xs first lo hi m n ts → Agree xs ys lo hi (behind n) → after ys first m ≡ after xs first m → Row ys first lo hi m n ts
  row_keep (nil h) g e = nil h
  row_keep {xs} {ys} (snoc {lo = lo} {mid = mid} {hi = hi} {root = root} a q b u) g e =
      let i = built_in b in
      let j = row-le a in
      let ga : (y : ℕ) → Agree xs ys lo mid y = agree-below g mid (omega arith) (omega arith) in
      let gb : Agree xs ys mid hi (cell root NEXT) = record { at = λ i k p q s n. g.at i k (omega arith) q s n } in
      snoc (row_keep a (ga _) e) (row-end a (ga (node_words * mid)) (omega arith) e ∙ q) (built-but NEXT (omega arith) (omega arith) b gb (label-keep gb i.0 i.1 ∙ built-label b)) u

-- a tree stays as it is where nothing but the link behind its root changed
pub built-keep : {xs ys : List ℕ} {lo hi root last : ℕ} {l : Label} {ks : Trees} → Built xs lo hi root last l ks → Agree xs ys lo hi (cell root NEXT) → Built ys lo hi root last l ks
built-keep b g = let i = built_in b in built-but NEXT (omega arith) (omega arith) b g (label-keep g i.0 i.1 ∙ built-label b)
