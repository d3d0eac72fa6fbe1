-- How finished trees and rows come about: a record over a row, one more in a row, a late child.
use Rattle.std.proofs.Common.{◌≡◌, ℕ, suc, ◌*◌, ◌<◌, ◌≤◌, List, length, sym, refl, ap, ◌∙◌, arith}
use Rattle.cursor.specs.declared.Label.{Label}
use Rattle.cursor.specs.Layout.{node_words, FIRST, NEXT, cell}
use Rattle.cursor.specs.Buffer.{put}
use Rattle.cursor.specs.Records.{write}
use Rattle.cursor.specs.Tree.{Trees, none, node, join, tree, word}
use Rattle.cursor.proofs.Finished.{after, Built, built, Row, nil, snoc, built_in, row-le, row_last, label_same, row-end, row_keep, built-keep}
use Rattle.cursor.proofs.Writes.{put_other, put_same, put-agree, put-below, put-above, write-agree, write_word, write-label}

pub join-none : (t : Trees) → join t none ≡ t
unfolding join
join-none none = refl
join-none (node l ks ts) = ap (λ x. node l ks x) (join-none ts)

pub join-assoc : (t u v : Trees) → join (join t u) v ≡ join t (join u v)
unfolding join
join-assoc none u v = refl
join-assoc (node l ks ts) u v = ap (λ x. node l ks x) (join-assoc ts u v)

-- a record written over a row, whose first link it takes: a finished tree
pub over : (xs : List ℕ) {first lo n last : ℕ} {ks : Trees} (l : Label) → Row xs first lo n 0 last ks → after xs first last ≡ 0 → node_words * suc n ≤ length xs → Built (write xs n l first) lo (suc n) n last l ks
over xs {first} {lo} {n} {last} {ks} l a z room =
    built (write-label xs n l first room) (write_word xs n l first room FIRST (omega arith)) (row_keep a (write-agree xs n l first lo n _ (omega arith)) refl) (nil {hi = suc n} refl)
    (row-end a (write-agree xs n l first lo n (node_words * n) (omega arith)) (omega arith) refl ∙ z) (sym (join-none ks))

-- a finished tree alone is a row
pub single : {xs : List ℕ} {lo hi root last : ℕ} {l : Label} {ks : Trees} → Built xs lo hi root last l ks → Row xs (suc root) lo hi 0 (suc root) (tree l ks)
unfolding join
single {lo = lo} b = snoc (nil {hi = lo} refl) refl b refl

-- one more in a row: linked behind the last child, the next tree belongs to it
pub grow : (xs : List ℕ) {first lo mid hi n root last : ℕ} {l : Label} {ts ks : Trees} → Row xs first lo mid 0 (suc n) ts → Built xs mid hi root last l ks → node_words * mid ≤ length xs → Row (put xs (cell n NEXT) (suc root)) first lo hi 0 (suc root) (join ts (tree l ks))
grow xs {lo = lo} {mid = mid} {hi = hi} {n = n} {root = root} a b room =
    let i = row_last a in
    snoc (row_keep a (put-agree xs _ _ lo mid) refl) (put_same xs _ n NEXT (omega arith)) (built-keep b (put-above xs (cell n NEXT) (suc root) mid hi (omega arith))) refl

-- the last child of a finished tree is one of its records, and not its root
pub last-in : {xs : List ℕ} {lo hi root n : ℕ} {l : Label} {ks : Trees} → Built xs lo hi root (suc n) l ks → (lo ≤ n) × (n < hi) × (n ≡ root → ⊥)
last-in (built e q a (snoc b y d u) z v) = let ia = row-le a in let ib = row-le b in let id = built_in d in omega arith
last-in (built e q (snoc a y b u) (nil s) z v) = let ia = row-le a in let ib = built_in b in omega arith

-- a late child: linked behind the last child of a finished tree, the next tree is its last child
pub late : (xs : List ℕ) {lo mid hi root n child last : ℕ} {l l' : Label} {ks ks' : Trees} → Built xs lo mid root (suc n) l ks → Built xs mid hi child last l' ks' → word xs child NEXT ≡ 0 → node_words * mid ≤ length xs
    → Built (put xs (cell n NEXT) (suc child)) lo hi root (suc child) l (join ks (tree l' ks'))
unfolding join
-- behind a late one
late xs {lo} {mid} {hi} {root} {n} {child} {l' = l'} {ks' = ks'} (built {early = early} {late = later} e q a (snoc b y d u) z v) x o room =
    let ia = row-le a in
    let ib = row-le b in
    let id = built_in d in
    let ix = built_in x in
    built (label_same xs _ root (λ k p _ _. put_other xs _ _ root k (omega arith)) ∙ e) (put_other xs _ _ root FIRST (omega arith) ∙ q) (row_keep a (put-below xs (cell n NEXT) (suc child) lo root (omega arith)) refl)
    (snoc (row_keep (snoc b y d u) (put-agree xs _ _ _ _) (row-end a (put-below xs (cell n NEXT) (suc child) lo root {y = node_words * root} (omega arith)) (omega arith) refl)) (put_same xs _ n NEXT (omega arith)) (built-keep x (put-above xs (cell n NEXT) (suc child) mid hi (omega arith))) refl)
    (put_other xs _ _ child NEXT (omega arith) ∙ o) (ap (λ t. join t (tree l' ks')) v ∙ join-assoc early later _)
-- behind the last of those that were there before the root
late xs {lo} {mid} {hi} {root} {n} {child} {l' = l'} {ks' = ks'} (built {early = early} e q (snoc a y b u) (nil s) z v) x o room =
    let ia = row-le a in
    let ib = built_in b in
    let ix = built_in x in
    built (label_same xs _ root (λ k p _ _. put_other xs _ _ root k (omega arith)) ∙ e) (put_other xs _ _ root FIRST (omega arith) ∙ q) (row_keep (snoc a y b u) (put-agree xs _ _ _ _) refl)
    (snoc (nil s) (put_same xs _ n NEXT (omega arith)) (built-keep x (put-above xs (cell n NEXT) (suc child) mid hi (omega arith))) refl)
    (put_other xs _ _ child NEXT (omega arith) ∙ o) (ap (λ t. join t (tree l' ks')) v ∙ join-assoc early none _)
