-- The rules on records as steps: what is owed of what goes on from them, the stack after being known.
use Rattle.std.proofs.Common.{ℕ, ◌+◌, ◌<◌, List, ◌∷◌, refl, arith}
use native.Mathlib.Decide.{dec_lt}
use Rattle.cursor.specs.declared.State.{State}
use Rattle.cursor.specs.declared.Fault.{Fault}
use Rattle.cursor.specs.declared.Kids.{Kids}
use Rattle.cursor.specs.declared.Label.{Label}
use Rattle.cursor.specs.Rule.{World, Out, bind}
use Rattle.cursor.specs.Records.{with_nodes, append, add, reflag}
use Rattle.cursor.specs.Tree.{Trees, join, tree}
use Rattle.cursor.proofs.Ends.{Ends, well, cut, then}
use Rattle.cursor.proofs.Stack.{Entry, whole, row, Stack}
use Rattle.cursor.proofs.Grows.{flagged}
use Rattle.cursor.proofs.RecordPaths.{room_for, counted, append-full, added}
use Rattle.cursor.proofs.Stacked.{append-stack, add-stack, add-late, reflag-stack}

module _ {P : State → World → ℕ → Type 0} {F : State → World → Fault → Type 0} where
  -- a record over a row, as the last step
  pub appends : (l : Label) (first : ℕ) (s : State) (w : World) {lo last : ℕ} {ks : Trees} {es : List Entry} → Stack w.nodes s.nodes (row lo first last ks ∷ es)
      → ((xs : List ℕ) → Stack xs (s.nodes + 1) (whole lo (s.nodes + 1) last l ks ∷ es) → P (counted s) (with_nodes w xs) (s.nodes + 1)) → Ends P F (append l first s w)
  appends l first s w st p = by (dec_lt s.nodes (room_for w))
    where
      by : Dec (s.nodes < room_for w) → Ends P F (append l first s w)
      by (yes h) = let x = append-stack l first s w st h in rw x.is (well (p _ x.stack))
      by (no h) = rw (append-full l first s w refl (omega arith)) cut

module _ {B : Type 0} {Q : State → World → B → Type 0} {F : State → World → Fault → Type 0} where
  -- a record over a row, and what goes on from it
  pub append-then : (l : Label) (first : ℕ) (s : State) (w : World) (κ : State → World → ℕ → Out B) {lo last : ℕ} {ks : Trees} {es : List Entry} → Stack w.nodes s.nodes (row lo first last ks ∷ es)
      → ((xs : List ℕ) → Stack xs (s.nodes + 1) (whole lo (s.nodes + 1) last l ks ∷ es) → Ends Q F (κ (counted s) (with_nodes w xs) (s.nodes + 1))) → Ends Q F (bind (append l first s w) κ)
  append-then l first s w κ st q = then (appends {P = λ s1 w1 a. Ends Q F (κ s1 w1 a)} {F = F} l first s w st q) (λ s1 w1 f x. x) (λ s1 w1 a x. x)

  -- one more in a row, and what goes on from it
  pub add-then : (k : Kids) (link : ℕ) (s : State) (w : World) (κ : State → World → Kids → Out B) {lo mid last : ℕ} {l : Label} {ts ks : Trees} {es : List Entry} → Stack w.nodes s.nodes (whole mid link last l ks ∷ row lo k.first k.last ts ∷ es)
      → ((xs : List ℕ) → Stack xs s.nodes (row lo (added k link).first link (join ts (tree l ks)) ∷ es) → Ends Q F (κ s (with_nodes w xs) (added k link))) → Ends Q F (bind (add k link s w) κ)
  add-then k link s w κ st q = let x = add-stack k link s w st in rw x.is (q _ x.stack)

  -- a late child, and what goes on from it
  pub add-late-then : (k : Kids) (link : ℕ) (s : State) (w : World) (κ : State → World → Kids → Out B) {lo mid root last : ℕ} {l l' : Label} {ks ks' : Trees} {es : List Entry} → 0 < k.last → Stack w.nodes s.nodes (whole mid link last l' ks' ∷ whole lo root k.last l ks ∷ es)
      → ((xs : List ℕ) → Stack xs s.nodes (whole lo root link l (join ks (tree l' ks')) ∷ es) → Ends Q F (κ s (with_nodes w xs) (added k link))) → Ends Q F (bind (add k link s w) κ)
  add-late-then k link s w κ h st q = let x = add-late k link s w h st in rw x.is (q _ x.stack)

  -- a changed label, and what goes on from it
  pub reflag-then : (link flags : ℕ) (s : State) (w : World) (κ : State → World → Unit → Out B) {lo last : ℕ} {l : Label} {ks : Trees} {es : List Entry} → Stack w.nodes s.nodes (whole lo link last l ks ∷ es)
      → ((xs : List ℕ) → Stack xs s.nodes (whole lo link last (flagged l flags) ks ∷ es) → Ends Q F (κ s (with_nodes w xs) tt)) → Ends Q F (bind (reflag link flags s w) κ)
  reflag-then link flags s w κ st q = let x = reflag-stack link flags s w st in rw x.is (q _ x.stack)
