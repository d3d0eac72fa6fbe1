-- The laws in use: a Call that gets a handler after its own record was written, over any stack and whatever the buffer held; and names in a
-- row that the caller began, as a loop, with what it keeps and that each turn takes a token; and an attempt with a recovery.
use Rattle.std.proofs.Common.{◌≡◌, ℕ, List, ◌∷◌, refl, arith}
use Rattle.kinds.specs.Number as kind
use Rattle.cursor.specs.declared.State.{State}
use Rattle.cursor.specs.declared.Kids.{Kids}
use Rattle.cursor.specs.declared.Label.{Label}
use Rattle.cursor.specs.Rule.{World, done, Rule, ◌>>=◌, ◌>>◌, give, if_so, more, stop, Turn, iterate}
use Rattle.cursor.specs.Sheet.{Sheet}
use Rattle.cursor.specs.Checks.{eat, expect, unexpected}
use Rattle.cursor.specs.Attempts.{try_parse, recover}
use Rattle.cursor.specs.Records.{append, add, reflag, no_kids}
use Rattle.cursor.specs.Tree.{none, node, join, tree}
use Rattle.cursor.proofs.Ends.{Ends, well, Any, at_done}
use Rattle.cursor.proofs.Loops.{Takes}
use Rattle.cursor.proofs.Keeps.{Mark, mark_behind, behind-stands, Went, Keeps, Plain, plain, attempts, gives, ifs, binds, thens, Nexts, loops}
use Rattle.cursor.proofs.Kept.{recovers, unexpected-keeps, expect-keeps, eat-keeps, append-keeps, add-keeps, reflag-keeps, Fresh, RowFor, nothing, row-behind, fresh-mine, ground-mine}
use Rattle.cursor.proofs.Spends.{Spends, takes, spares, if-spends, first-spends, attempt-spends, recover-spends}
use Rattle.cursor.proofs.Spent.{eat-spends, expect-spends, unexpected-spends}
use Rattle.cursor.proofs.Stack.{Entry, whole, Stack}
use Rattle.cursor.proofs.Grows.{begin, flagged}
use Rattle.cursor.proofs.Building.{append-then, add-then, add-late-then, reflag-then}

module _ (name call handler : Label) where
  unfoldable pub caught : Rule ℕ
  caught = do
    callee ← append name 0
    k ← add no_kids callee
    c ← append call k.first
    h ← append handler 0
    add k h
    reflag c 1
    give c

  -- a Call of two children on top of the stack
  pub record Made (lo : ℕ) (es : List Entry) (s : State) (w : World) (link : ℕ) : Type 0 where
    pub last : ℕ
    pub stack : Stack w.nodes s.nodes (whole lo link last (flagged call 1) (node name none (tree handler none)) ∷ es)

  pub caught-ends : (s : State) (w : World) (es : List Entry) → Stack w.nodes s.nodes es → Ends (Made s.nodes es) Any (caught s w)
  unfolding caught join
  caught-ends s w es st =
      append-then name 0 _ _ _ (begin (begin st)) λ _ a. add-then no_kids _ _ _ _ a λ _ b. append-then call _ _ _ _ b λ _ c.
      append-then handler 0 _ _ _ (begin c) λ _ d. add-late-then _ _ _ _ _ (omega arith) d λ _ e. reflag-then _ 1 _ _ _ e λ _ f. well (record { last = _; stack = f })

  pub caught-keeps : {m : Mark} → Keeps m (Fresh m) caught
  unfolding caught
  caught-keeps =
      binds (append-keeps name 0) λ callee f. binds (add-keeps no_kids callee nothing (fresh-mine callee f)) λ k p. binds (append-keeps call k.first) λ c g.
      binds (append-keeps handler 0) λ h i. thens (add-keeps k h p (fresh-mine h i)) (thens (reflag-keeps c 1 g) (gives g))

  -- one more name in a row, where one stands here
  unfoldable pub one_more : Sheet → Turn Kids
  one_more e k = do
    here ← eat e kind.Ident
    if_so (do
      link ← append name 0
      k1 ← add k link
      give (more k1))
        (give (stop k)) here

  pub one-more-keeps : {m : Mark} (e : Sheet) (k : Kids) → RowFor m k → Keeps m (Nexts (RowFor m)) (one_more e k)
  unfolding one_more
  one-more-keeps e k p = binds (eat-keeps e kind.Ident) λ here _. ifs here (binds (append-keeps name 0) λ link f. binds (add-keeps k link p (fresh-mine link f)) λ k1 q. gives q) (gives p)

  pub one-more-takes : (e : Sheet) → Takes e (one_more e)
  unfolding one_more
  one-more-takes e = takes λ k. if-spends (eat-keeps e kind.Ident) (eat-spends kind.Ident refl) (binds (append-keeps name 0) λ link f. binds (add-keeps k link (ground-mine _) (ground-mine _)) λ k1 q. gives tt) (spares λ x. x)

  -- the loop touches nothing below the count but the link behind the last of the row
  pub names-kept : (e : Sheet) (k k1 : Kids) (s s1 : State) (w w1 : World) → iterate e (one_more e) k s w ≡ done s1 w1 k1 → Went (mark_behind s k.last) s w s1 w1
  names-kept e k k1 s s1 w w1 q = (at_done ((loops (one-more-keeps e) e (row-behind s k.last)).ends s w (behind-stands s k.last)) q).0

  -- an attempt, and a recovery where it is undone
  unfoldable pub tried : Sheet → Rule ℕ
  tried e = try_parse (expect e kind.Ident) (λ _. append name 0) (recover (expect e kind.Int) (λ _. append call 0) (unexpected e))

  pub tried-keeps : {m : Mark} (e : Sheet) → Keeps m (Fresh m) (tried e)
  unfolding tried
  tried-keeps e = attempts (expect-keeps e kind.Ident) (λ _ _. append-keeps name 0) (recovers (expect-keeps e kind.Int) (λ _ _. append-keeps call 0) (unexpected-keeps e))

  -- wherever it is done it took a token
  pub tried-spends : (e : Sheet) → Spends e Plain (tried e)
  unfolding tried
  tried-spends e =
      attempt-spends _ (expect-keeps e kind.Ident) (first-spends (expect-spends kind.Ident refl) λ _. plain (append-keeps name 0))
      (recover-spends _ (expect-keeps e kind.Int) (first-spends (expect-spends kind.Int refl) λ _. plain (append-keeps call 0)) unexpected-spends)
