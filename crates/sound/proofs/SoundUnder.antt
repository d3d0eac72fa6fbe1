-- One more in a row, while another tree stands on the stack above it: a body is read before what stands before it joins the row.
use mathlib.Core.Path.{◌∙◌}
use mathlib.Core.List.{List, ◌∷◌}
use Prim.Native.Nat.{ℕ, zero, suc, ◌<◌}
use native.Mathlib.Omega.{arith}
use Rattle.cursor.specs.declared.Kids.{Kids}
use Rattle.cursor.specs.declared.Label.{Label}
use Rattle.cursor.specs.Layout.{NEXT, cell}
use Rattle.cursor.specs.Tree.{Trees, join, tree}
use Rattle.cursor.proofs.Finished.{built_in, built-keep, row_last}
use Rattle.cursor.proofs.Writes.{put_other, put-length, put-above}
use Rattle.cursor.proofs.RecordPaths.{linked, first_of, added}
use Rattle.cursor.proofs.Stack.{Entry, whole, row, Stack, push-whole, push_row}
use Rattle.cursor.proofs.Grows.{link-first, link-next}

-- the last child of the row lies below the tree behind it
row_below : {xs : List ℕ} {n lo mid first link last j : ℕ} {l : Label} {ts ks : Trees} {es : List Entry} → Stack xs n (whole mid link last l ks ∷ row lo first (suc j) ts ∷ es) → j < n
row_below (push-whole (push_row s a y t) b z r) = let i = row_last a in let j = built_in b in omega (arith, i, j)

under : {xs : List ℕ} {n lo mid high top last over first link : ℕ} {l i : Label} {ts ks js : Trees} {es : List Entry} (m : ℕ) → Stack xs n (whole high top over i js ∷ whole mid link last l ks ∷ row lo first m ts ∷ es)
    → Stack (linked xs m link) n (whole high top over i js ∷ row lo (first_of m first link) link (join ts (tree l ks)) ∷ es)
under zero (push-whole s b z r) = push-whole (link-first s) b z r
under {xs} {n} {link = link} (suc j) (push-whole {lo = low} {root = root} s b z r) =
    let h = row_below s in
    let i = built_in b in
    push-whole (link-next s) (built-keep b (put-above xs (cell j NEXT) link low n (omega (arith, h)))) (put_other xs (cell j NEXT) link root NEXT (omega (arith, h, i)) ∙ z) (rw put-length r)

pub joined-under : {xs : List ℕ} {n lo mid high top last over : ℕ} {l i : Label} {ts ks js : Trees} {es : List Entry} (k : Kids) (link : ℕ) → Stack xs n (whole high top over i js ∷ whole mid link last l ks ∷ row lo k.first k.last ts ∷ es)
    → Stack (linked xs k.last link) n (whole high top over i js ∷ row lo (added k link).first link (join ts (tree l ks)) ∷ es)
joined-under k link st = under k.last st
