-- The rules on records over the stack: from the stack before, how the rule ends and the stack after.
use Rattle.std.proofs.Common.{◌≡◌, ℕ, zero, suc, ◌+◌, ◌<◌, List, ◌∷◌, sym, refl, subst, add-one, arith}
use Rattle.cursor.specs.declared.State.{State}
use Rattle.cursor.specs.declared.Kids.{Kids}
use Rattle.cursor.specs.declared.Label.{Label}
use Rattle.cursor.specs.Layout.{FLAGS, cell}
use Rattle.cursor.specs.Rule.{World, Out, done}
use Rattle.cursor.specs.Buffer.{put}
use Rattle.cursor.specs.Records.{write, with_nodes, append, add, reflag}
use Rattle.cursor.specs.Tree.{Trees, join, tree}
use Rattle.cursor.proofs.RecordPaths.{room_for, counted, append-room, linked, first_of, added, add_is, reflag-on}
use Rattle.cursor.proofs.Stack.{Entry, whole, row, Stack, link-some}
use Rattle.cursor.proofs.Grows.{wrap, link-first, link-next, link-late, flagged, change-flags}

-- a rule is done, and this is the stack then
pub record Leaves {A : Type 0} (o : Out A) (s : State) (w : World) (a : A) (es : List Entry) : Type 0 where
  pub is : o ≡ done s w a
  pub stack : Stack w.nodes s.nodes es

module _ (l : Label) (first : ℕ) (s : State) (w : World) where
  abbrev pub with_record : World
  with_record = with_nodes w (write w.nodes s.nodes l first)

  -- a record over a row
  pub append-stack : {lo last : ℕ} {ks : Trees} {es : List Entry} → Stack w.nodes s.nodes (row lo first last ks ∷ es) → s.nodes < room_for w
      → Leaves (append l first s w) (counted s) with_record (s.nodes + 1) (whole lo (s.nodes + 1) last l ks ∷ es)
  append-stack {lo} {last} {ks} {es} st h = record {
    is = append-room l first s w refl h refl;
    stack = subst (λ n. Stack with_record.nodes n (whole lo n last l ks ∷ es)) (sym (add-one s.nodes)) (wrap l st (omega arith));
  }

module _ (k : Kids) (link : ℕ) (s : State) (w : World) where
  -- one more in a row
  pub add-stack : {lo mid last : ℕ} {l : Label} {ts ks : Trees} {es : List Entry} → Stack w.nodes s.nodes (whole mid link last l ks ∷ row lo k.first k.last ts ∷ es)
      → Leaves (add k link s w) s (with_nodes w (linked w.nodes k.last link)) (added k link) (row lo (added k link).first link (join ts (tree l ks)) ∷ es)
  add-stack {lo} {mid} {last} {l} {ts} {ks} {es} st = record { is = add_is k link s w; stack = go k.last st }
    where
      go : (n : ℕ) → Stack w.nodes s.nodes (whole mid link last l ks ∷ row lo k.first n ts ∷ es) → Stack (linked w.nodes n link) s.nodes (row lo (first_of n k.first link) link (join ts (tree l ks)) ∷ es)
      go zero x = link-first x
      go (suc n) x = link-next x

  -- a late child of a finished tree, whose last child the row ends with
  pub add-late : {lo mid root last : ℕ} {l l' : Label} {ks ks' : Trees} {es : List Entry} → 0 < k.last → Stack w.nodes s.nodes (whole mid link last l' ks' ∷ whole lo root k.last l ks ∷ es)
      → Leaves (add k link s w) s (with_nodes w (linked w.nodes k.last link)) (added k link) (whole lo root link l (join ks (tree l' ks')) ∷ es)
  add-late {lo} {mid} {root} {last} {l} {l'} {ks} {ks'} {es} h st = record { is = add_is k link s w; stack = go k.last h st }
    where
      go : (n : ℕ) → 0 < n → Stack w.nodes s.nodes (whole mid link last l' ks' ∷ whole lo root n l ks ∷ es) → Stack (linked w.nodes n link) s.nodes (whole lo root link l (join ks (tree l' ks')) ∷ es)
      go zero h x = absurd (omega arith)
      go (suc n) h x = link-late x

-- the buffer with other flags for the record that a link leads to
abbrev pub reflagged : List ℕ → ℕ → ℕ → List ℕ
reflagged xs zero flags = xs
reflagged xs (suc i) flags = put xs (cell i FLAGS) flags

-- a changed label
pub reflag-stack : (link flags : ℕ) (s : State) (w : World) {lo last : ℕ} {l : Label} {ks : Trees} {es : List Entry} → Stack w.nodes s.nodes (whole lo link last l ks ∷ es)
    → Leaves (reflag link flags s w) s (with_nodes w (reflagged w.nodes link flags)) tt (whole lo link last (flagged l flags) ks ∷ es)
reflag-stack zero flags s w st = absurd (omega (arith, link-some st))
reflag-stack (suc i) flags s w st = record { is = reflag-on _ flags s w refl refl; stack = change-flags flags st }
