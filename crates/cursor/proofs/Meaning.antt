-- What a finished tree means: the very tree that it was built as, with as many records as it took.
use Rattle.std.proofs.Common.{◌≡◌, ℕ, zero, suc, ◌+◌, ◌-◌, ◌<◌, ◌≤◌, List, length, sym, refl, ap, ◌∙◌, arith}
use Rattle.cursor.specs.declared.Label.{Label}
use Rattle.cursor.specs.Layout.{FIRST, NEXT}
use Rattle.cursor.specs.Tree.{Trees, none, node, join, tree, size, word, label, trees, meaning}
use Rattle.cursor.proofs.Finished.{after, Built, built, Row, nil, snoc, built_in, built-label, row-le}
use Rattle.cursor.proofs.Laws.{join-none, join-assoc}

-- the trees from a link on, wherever the reading may take at least so many steps
record Reads (xs : List ℕ) (k link : ℕ) (ts : Trees) : Type 0 where
  at : (j : ℕ) → k ≤ j → trees j xs link ≡ ts

reads_none : (xs : List ℕ) {link : ℕ} → link ≡ 0 → Reads xs 1 link none
unfolding trees
reads_none xs {link} e = record { at = go }
  where
    go : (j : ℕ) → 1 ≤ j → trees j xs link ≡ none
    go zero h = absurd (omega arith)
    go (suc j) h = rw e refl

reads-node : (xs : List ℕ) (k m i : ℕ) {l : Label} {ks us : Trees} → label xs i ≡ l → Reads xs m (word xs i FIRST) ks → Reads xs k (word xs i NEXT) us → 1 ≤ k → 1 ≤ m → Reads xs (k + m) (suc i) (node l ks us)
unfolding trees
reads-node xs k m i {l} {ks} {us} e x y p q = record { at = go }
  where
    go : (j : ℕ) → k + m ≤ j → trees j xs (suc i) ≡ node l ks us
    go zero h = absurd (omega arith)
    go (suc j) h = rw (e, x.at j (omega arith), y.at j (omega arith)) refl

-- as many steps as there are records are enough; for a row one more, to find its end
mutual
  unfolding join

  built-reads : {xs : List ℕ} {lo hi root last : ℕ} {l : Label} {ks : Trees} → Built xs lo hi root last l ks → Reads xs (hi - lo) (word xs root FIRST) ks
  built-reads {xs} (built {early = early} {late = later} e q a b z u) =
      let ia = row-le a in
      let ib = row-le b in
      let x = row_reads a (row_reads b (reads_none xs z) (omega arith)) (omega arith) in
      record { at = λ j h. rw (q, u) (x.at j (omega arith) ∙ ap (λ t. join early t) (join-none later)) }

  row_reads : {xs : List ℕ} {first lo hi m n k : ℕ} {ts us : Trees} → Row xs first lo hi m n ts → Reads xs k (after xs first n) us → 1 ≤ k → Reads xs (k + (hi - lo)) (after xs first m) (join ts us)
  row_reads (nil h) x p = record { at = λ j o. x.at j (omega arith) }
  row_reads {xs} {k = k} {us = us} (snoc {mid = mid} {hi = hi} {root = root} {l = l} {ts = ts} {ks = ks} a q b u) x p =
      let ia = row-le a in
      let ib = built_in b in
      let y = reads-node xs k (hi - mid) root (built-label b) (built-reads b) x p (omega arith) in
      let v = row_reads a (rw (← q) at y) (omega arith) in
      record { at = λ j o. rw u (v.at j (omega arith) ∙ sym (join-assoc ts (tree l ks) us)) }

-- the buffer means the tree
pub built-meaning : {xs : List ℕ} {lo hi root last : ℕ} {l : Label} {ks : Trees} → Built xs lo hi root last l ks → hi ≤ length xs → meaning xs root ≡ tree l ks
unfolding meaning
built-meaning {xs} b h = rw (built-label b, (built-reads b).at (length xs) (omega arith)) refl

-- and from a row's first link on, the row
pub row-meaning : {xs : List ℕ} {first lo hi last : ℕ} {ts : Trees} → Row xs first lo hi 0 last ts → after xs first last ≡ 0 → (j : ℕ) → hi - lo < j → trees j xs first ≡ ts
row-meaning {xs} {ts = ts} a z j h = (row_reads a (reads_none xs z) (omega arith)).at j (omega arith) ∙ join-none ts

-- as many records as the tree has
pub size-join : (t u : Trees) → size (join t u) ≡ size t + size u
unfolding size join
size-join none u = omega arith
size-join (node l ks ts) u = let e = size-join ts u in omega arith

mutual
  unfolding size

  pub built-size : {xs : List ℕ} {lo hi root last : ℕ} {l : Label} {ks : Trees} → Built xs lo hi root last l ks → hi ≡ lo + suc (size ks)
  built-size (built {early = early} {late = later} e q a b z u) = let x = row-size a in let y = row-size b in let v = ap size u ∙ size-join early later in omega arith

  pub row-size : {xs : List ℕ} {first lo hi m n : ℕ} {ts : Trees} → Row xs first lo hi m n ts → hi ≡ lo + size ts
  row-size (nil h) = omega arith
  row-size (snoc {l = l} {ts = ts} {ks = ks} a q b u) = let x = row-size a in let y = built-size b in let v = ap size u ∙ size-join ts (tree l ks) in omega arith
