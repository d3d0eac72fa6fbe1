-- How the stack grows: what each write into the node buffer makes of the entries on top.
use Rattle.std.proofs.Common.{◌≡◌, ℕ, suc, ◌*◌, ◌<◌, ◌≤◌, List, ◌∷◌, length, refl, ap, ◌∙◌, arith}
use Rattle.cursor.specs.declared.Label.{Label}
use Rattle.cursor.specs.Layout.{node_words, KIND, START, END, FIRST, NEXT, ONE, TWO, FLAGS, cell}
use Rattle.cursor.specs.Buffer.{put}
use Rattle.cursor.specs.Records.{write}
use Rattle.cursor.specs.Tree.{Trees, none, join, tree, word, label}
use Rattle.cursor.proofs.Finished.{nil, snoc, built_in, built-but, row-le, row_last}
use Rattle.cursor.proofs.Writes.{put_other, put_same, put-length, put-agree, write-length, write_word}
use Rattle.cursor.proofs.Laws.{over, single, grow, last-in, late}
use Rattle.cursor.proofs.Stack.{Entry, whole, row, Stack, push-whole, push_row, room, whole-label, keep-put, keep-write}

-- begin a row
pub begin : {xs : List ℕ} {hi : ℕ} {es : List Entry} → Stack xs hi es → Stack xs hi (row hi 0 0 none ∷ es)
begin {hi = hi} s = push_row s (nil {hi = hi} refl) refl (room s)

-- a finished tree is a row of one
pub as_row : {xs : List ℕ} {lo hi root last : ℕ} {l : Label} {ks : Trees} {es : List Entry} → Stack xs hi (whole lo root last l ks ∷ es) → Stack xs hi (row lo root root (tree l ks) ∷ es)
as_row (push-whole s b z r) = push_row s (single b) z r

-- a record over a row: a finished tree, with the row's last child as its own. A leaf is a record over a row that was only begun
pub wrap : {xs : List ℕ} {lo n first last : ℕ} {ks : Trees} {es : List Entry} (l : Label) → Stack xs n (row lo first last ks ∷ es) → node_words * suc n ≤ length xs → Stack (write xs n l first) (suc n) (whole lo (suc n) last l ks ∷ es)
wrap {xs} {lo} {n} {first} l (push_row s b z t) h =
    push-whole (keep-write n l first s (row-le b)) (over xs l b z h) (write_word xs n l first h NEXT (omega arith)) (rw write-length h)

-- the first in a row: nothing is written
pub link-first : {xs : List ℕ} {lo mid hi first root last : ℕ} {l : Label} {ts ks : Trees} {es : List Entry} → Stack xs hi (whole mid root last l ks ∷ row lo first 0 ts ∷ es) → Stack xs hi (row lo root root (join ts (tree l ks)) ∷ es)
link-first (push-whole (push_row s (nil p) y t) b z u) = push_row s (snoc (nil p) refl b refl) z u

-- one more in a row that has one: its link is written behind the last
pub link-next : {xs : List ℕ} {lo mid hi first n root last : ℕ} {l : Label} {ts ks : Trees} {es : List Entry} → Stack xs hi (whole mid root last l ks ∷ row lo first (suc n) ts ∷ es) → Stack (put xs (cell n NEXT) root) hi (row lo first root (join ts (tree l ks)) ∷ es)
link-next {xs} (push-whole {root = root} (push_row s a y t) b z u) =
    let i = row_last a in
    let j = built_in b in
    push_row (keep-put _ _ s (omega arith)) (grow xs a b t) (put_other xs _ _ root NEXT (omega arith) ∙ z) (rw put-length u)

-- a late child: its link is written behind the last child of the finished tree below it
pub link-late : {xs : List ℕ} {lo mid hi root n child last : ℕ} {l l' : Label} {ks ks' : Trees} {es : List Entry} → Stack xs hi (whole mid child last l' ks' ∷ whole lo root (suc n) l ks ∷ es) → Stack (put xs (cell n NEXT) child) hi (whole lo root child l (join ks (tree l' ks')) ∷ es)
link-late {xs} (push-whole (push-whole {root = root} s a y t) b z u) =
    let i = last-in a in
    push-whole (keep-put _ _ s (omega arith)) (late xs a b z t) (put_other xs _ _ root NEXT (omega arith) ∙ y) (rw put-length u)

-- another label: a word of the root that is no link is written anew
pub change : {xs : List ℕ} {lo hi i last : ℕ} {l l' : Label} {ks : Trees} {es : List Entry} (k a : ℕ) → k < node_words → (k ≡ FIRST → ⊥) → (k ≡ NEXT → ⊥) → Stack xs hi (whole lo (suc i) last l ks ∷ es) → label (put xs (cell i k) a) i ≡ l' → Stack (put xs (cell i k) a) hi (whole lo (suc i) last l' ks ∷ es)
change {xs} {lo} {hi} {i} k a c p q (push-whole s b z t) e =
    let j = built_in b in
    push-whole (keep-put _ a s (omega arith)) (built-but k c p b (put-agree xs _ a lo hi) e) (put_other xs _ a i NEXT (omega arith) ∙ z) (rw put-length t)

-- each word of a finished tree's root is in the buffer
root_in : {xs : List ℕ} {lo hi i last : ℕ} {l : Label} {ks : Trees} {es : List Entry} (k : ℕ) → k < node_words → Stack xs hi (whole lo (suc i) last l ks ∷ es) → cell i k < length xs
root_in k h (push-whole s b z t) = let j = built_in b in omega arith

-- a label with other flags
abbrev pub flagged : Label → ℕ → Label
flagged l flags = record { kind = l.kind; start = l.start; end = l.end; one = l.one; two = l.two; flags = flags }

-- other flags
pub change-flags : {xs : List ℕ} {lo hi i last : ℕ} {l : Label} {ks : Trees} {es : List Entry} (flags : ℕ) → Stack xs hi (whole lo (suc i) last l ks ∷ es) → Stack (put xs (cell i FLAGS) flags) hi (whole lo (suc i) last (flagged l flags) ks ∷ es)
unfolding label
change-flags {xs} {i = i} flags s = change FLAGS flags (omega arith) (omega arith) (omega arith) s (anew ∙ ap (λ x. flagged x flags) (whole-label s))
  where
    other : (k : ℕ) → (k ≡ FLAGS → ⊥) → word (put xs (cell i FLAGS) flags) i k ≡ word xs i k
    other k n = put_other xs (cell i FLAGS) flags i k (omega arith)

    anew : label (put xs (cell i FLAGS) flags) i ≡ flagged (label xs i) flags
    anew = λ j. record { kind = other KIND (omega arith) j; start = other START (omega arith) j; end = other END (omega arith) j; one = other ONE (omega arith) j; two = other TWO (omega arith) j; flags = put_same xs flags i FLAGS (root_in FLAGS (omega arith) s) j }
