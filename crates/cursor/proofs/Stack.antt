-- What has been built and not yet taken into a parent: a stack of finished trees and of rows, each on records of its own, the latest on top.
-- The number beside the buffer is the count of records. A rule is stated over any stack, so that no rule speaks of what others left there.
use Rattle.std.proofs.Common.{◌≡◌, ℕ, suc, ◌+◌, ◌*◌, ◌<◌, ◌≤◌, List, [], ◌∷◌, length, refl, ◌∙◌, le_refl, arith}
use Rattle.cursor.specs.declared.Label.{Label}
use Rattle.cursor.specs.Layout.{node_words, NEXT}
use Rattle.cursor.specs.Buffer.{put}
use Rattle.cursor.specs.Records.{write}
use Rattle.cursor.specs.Tree.{Trees, tree, size, word, label, trees, meaning}
use Rattle.cursor.proofs.Finished.{after, Built, Row, built_in, built-label, built-keep, row-le, row-end, row_keep, Agree, agree-below}
use Rattle.cursor.proofs.Writes.{put-length, put-below, write-agree, write-length}
use Rattle.cursor.proofs.Meaning.{built-meaning, built-size, row-meaning, row-size}
use Rattle.cursor.specs.Visits.{uses}
use Rattle.cursor.proofs.Once.{built-once}

-- what one entry is, lo being the count when it was begun: a finished tree, with the links to its root and to its last child; a row under
-- construction, with the links to its first and its last child; or what a buffer held below the count
pub data Entry : Type 0 where
  whole : (lo root last : ℕ) → Label → Trees → Entry
  row : (lo first last : ℕ) → Trees → Entry
  kept : (was : List ℕ) → (lo : ℕ) → Entry

abbrev pub low : Entry → ℕ
low (whole lo root last l ks) = lo
low (row lo first last ts) = lo
low (kept was lo) = lo

-- nothing is linked yet behind a tree or behind a row's last child, and the buffer has room for all the records
pub data Stack (xs : List ℕ) : ℕ → List Entry → Type 0 where
  bottom : {hi : ℕ} → node_words * hi ≤ length xs → Stack xs hi []
  push-whole : {lo hi root last : ℕ} {l : Label} {ks : Trees} {es : List Entry} → Stack xs lo es → Built xs lo hi root last l ks → word xs root NEXT ≡ 0 → node_words * hi ≤ length xs → Stack xs hi (whole lo (suc root) last l ks ∷ es)
  push_row : {lo hi first last : ℕ} {ts : Trees} {es : List Entry} → Stack xs lo es → Row xs first lo hi 0 last ts → after xs first last ≡ 0 → node_words * hi ≤ length xs → Stack xs hi (row lo first last ts ∷ es)
  push_kept : {hi : ℕ} {was : List ℕ} {es : List Entry} → Stack xs hi es → Agree was xs 0 hi (node_words * hi) → Stack xs hi (kept was hi ∷ es)

-- where the records of the top entry are given back, the rest is left
pub pop : {xs : List ℕ} {hi : ℕ} {e : Entry} {es : List Entry} → Stack xs hi (e ∷ es) → Stack xs (low e) es
pop (push-whole s b z r) = s
pop (push_row s b z r) = s
pop (push_kept s a) = s

pub room : {xs : List ℕ} {hi : ℕ} {es : List Entry} → Stack xs hi es → node_words * hi ≤ length xs
room (bottom r) = r
room (push-whole s b z r) = r
room (push_row s b z r) = r
room (push_kept s a) = room s

-- an entry was begun at a count that is not above the one now
pub low-le : {xs : List ℕ} {hi : ℕ} {e : Entry} {es : List Entry} → Stack xs hi (e ∷ es) → low e ≤ hi
low-le (push-whole s b z r) = let i = built_in b in omega arith
low-le (push_row s b z r) = row-le b
low-le (push_kept {hi = hi} s a) = le_refl hi

-- a finished tree on top: the record that its link leads to, and what is known of it
pub record Topped (xs : List ℕ) (lo hi link last : ℕ) (l : Label) (ks : Trees) : Type 0 where
  pub root : ℕ
  pub is : link ≡ suc root
  pub tree-of : Built xs lo hi root last l ks

pub top : {xs : List ℕ} {lo hi link last : ℕ} {l : Label} {ks : Trees} {es : List Entry} → Stack xs hi (whole lo link last l ks ∷ es) → Topped xs lo hi link last l ks
top (push-whole {root = root} s b z r) = record { root = root; is = refl; tree-of = b }

-- its link is none but a link
pub link-some : {xs : List ℕ} {lo hi link last : ℕ} {l : Label} {ks : Trees} {es : List Entry} → Stack xs hi (whole lo link last l ks ∷ es) → 0 < link
link-some (push-whole s b z r) = omega arith

-- its record's label, its meaning, and that each record from lo up to the count belongs to it, exactly once
pub whole-label : {xs : List ℕ} {lo hi i last : ℕ} {l : Label} {ks : Trees} {es : List Entry} → Stack xs hi (whole lo (suc i) last l ks ∷ es) → label xs i ≡ l
whole-label (push-whole s b z r) = built-label b

pub whole-meaning : {xs : List ℕ} {lo hi i last : ℕ} {l : Label} {ks : Trees} {es : List Entry} → Stack xs hi (whole lo (suc i) last l ks ∷ es) → meaning xs i ≡ tree l ks
whole-meaning (push-whole s b z r) = built-meaning b (omega arith)

pub whole-size : {xs : List ℕ} {lo hi link last : ℕ} {l : Label} {ks : Trees} {es : List Entry} → Stack xs hi (whole lo link last l ks ∷ es) → hi ≡ lo + size (tree l ks)
unfolding size
whole-size (push-whole s b z r) = let h = built-size b in omega arith

pub whole-once : {xs : List ℕ} {lo hi i last : ℕ} {l : Label} {ks : Trees} {es : List Entry} → Stack xs hi (whole lo (suc i) last l ks ∷ es) → (j : ℕ) → lo ≤ j → j < hi → uses xs i j ≡ 1
whole-once (push-whole s b z r) j p q = built-once b (omega arith) j p q

-- the same of a row
pub row-trees : {xs : List ℕ} {lo hi first last : ℕ} {ts : Trees} {es : List Entry} → Stack xs hi (row lo first last ts ∷ es) → (j : ℕ) → hi < lo + j → trees j xs first ≡ ts
row-trees (push_row s b z r) j h = let i = row-le b in row-meaning b z j (omega arith)

pub row_count : {xs : List ℕ} {lo hi first last : ℕ} {ts : Trees} {es : List Entry} → Stack xs hi (row lo first last ts ∷ es) → hi ≡ lo + size ts
row_count (push_row s b z r) = row-size b

-- what changes nothing below the count leaves the stack
pub keep : {xs ys : List ℕ} {hi x : ℕ} {es : List Entry} → Stack xs hi es → Agree xs ys 0 hi x → node_words * hi ≤ x → length ys ≡ length xs → Stack ys hi es
keep (bottom {hi = hi} r) g o e = bottom {hi = hi} (omega arith)
keep (push_kept s a) g o e = push_kept (keep s g o e) (record { at = λ i k p q c n. g.at i k p q c (omega arith) ∙ a.at i k p q c n })
keep (push-whole {lo = lo} {root = root} s b z t) g o e =
    let i = built_in b in
    push-whole (keep s (agree-below g lo (omega arith) (omega arith) (node_words * lo)) (omega arith) e) (built-keep b (record { at = λ i k p q c n. g.at i k (omega arith) q c (omega arith) })) (g.at root NEXT (omega arith) (omega arith) (omega arith) (omega arith) ∙ z) (omega arith)
keep {xs} {ys} (push_row {lo = lo} {hi = hi} s b z t) g o e =
    let i = row-le b in
    let h : (y : ℕ) → Agree xs ys lo hi y = λ y. record { at = λ i k p q c n. g.at i k (omega arith) q c (omega arith) } in
    push_row (keep s (agree-below g lo (omega arith) (omega arith) (node_words * lo)) (omega arith) e) (row_keep b (h _) refl) (row-end b (h (node_words * hi)) (omega arith) refl ∙ z) (omega arith)

-- so does a word written at or above it, and a record written there
pub keep-put : {xs : List ℕ} {hi : ℕ} {es : List Entry} (x a : ℕ) → Stack xs hi es → node_words * hi ≤ x → Stack (put xs x a) hi es
keep-put {xs} {hi} x a s h = keep s (put-below xs x a 0 hi {y = node_words * hi} h) (omega arith) (put-length xs x a)

pub keep-write : {xs : List ℕ} {hi : ℕ} {es : List Entry} (n : ℕ) (l : Label) (first : ℕ) → Stack xs hi es → hi ≤ n → Stack (write xs n l first) hi es
keep-write {xs} {hi} n l first s h = keep s (write-agree xs n l first 0 hi (node_words * hi) h) (omega arith) (write-length xs n l first)

-- remember what the buffer holds below the count; it still does while the entry is there; and forget it
pub remember : {xs : List ℕ} {hi : ℕ} {es : List Entry} → Stack xs hi es → Stack xs hi (kept xs hi ∷ es)
remember s = push_kept s (record { at = λ i k p q c n. refl })

pub same-below : {xs was : List ℕ} {hi lo : ℕ} {es : List Entry} → Stack xs hi (kept was lo ∷ es) → (i k : ℕ) → i < lo → k < node_words → word xs i k ≡ word was i k
same-below (push_kept s a) i k p q = a.at i k (omega arith) p q (omega arith)

pub forget : {xs was : List ℕ} {hi lo : ℕ} {e : Entry} {es : List Entry} → Stack xs hi (e ∷ kept was lo ∷ es) → Stack xs hi (e ∷ es)
forget (push-whole (push_kept s a) b z r) = push-whole s b z r
forget (push_row (push_kept s a) b z r) = push_row s b z r
forget (push_kept (push_kept s a) b) = push_kept s b
