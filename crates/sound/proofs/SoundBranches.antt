-- Branches and loops: parse_expr_and_block, and the atoms `if`, `loop`, `while` and `for`.
use mathlib.Core.Path.{◌≡◌, refl, ap}
use mathlib.Core.List.{List, ◌∷◌}
use mathlib.Core.Bool.{Bool, true, false}
use Prim.Native.Nat.{ℕ}
use lib.Dec.{ltb}
use borrow.Author.Tests.{lt-ltb}
use Rattle.kinds.specs.Number as kind
use Rattle.cursor.specs.declared.Kids.{Kids}
use Rattle.cursor.specs.declared.Label.{Label}
use Rattle.cursor.specs.Node as node
use Rattle.cursor.specs.Sheet.{Sheet}
use Rattle.cursor.specs.Records.{no_kids, flagged}
use Rattle.cursor.specs.Tree.{Trees, none, join, tree}
use Rattle.cursor.proofs.Laws.{join-assoc}
use Rattle.cursor.proofs.RecordPaths.{added}
use Rattle.cursor.proofs.Stack.{Entry, row, Stack, link-some}
use Rattle.cursor.proofs.Grows.{begin, as_row}
use Rattle.parts.specs.Records.{if_record}
use Rattle.rules.specs.Inner.{expr}
use Rattle.rules.specs.Levels.{levels}
use Rattle.rules.specs.Blocks.{expr_and_block}
use Rattle.rules.specs.Atoms.{alternate, if_expr, loop_expr, while_expr, for_expr}
use Rattle.grammar.specs.Places.{Place, start_of, Tok, Here}
use Rattle.grammar.specs.Symbols.{Other, Block, Exprs, Atom, Alternate, Names, Expr as Whole}
use Rattle.grammar.specs.Derives.{Derives, if-expr, loop-expr, while-expr, for-expr, no-else, else-if, else-block}
use Rattle.grammar.specs.Builders.{Shape, blank, only, over, couple, row_before, if_over, covered}
use Rattle.grammar.specs.Shape.{shape}
use Rattle.sound.proofs.Sound.{Spot, at, Claim, Seq, ◌▸◌, If, Sound, maps, ifs, binds}
use Rattle.sound.proofs.SoundSteps.{Bumped, bumped, Took, took, Ate, yes-ate, not-ate, Saw, yes-saw, not-saw, Added, added-to, add-sound, bump-sound, check_sound, eat-sound, expect-sound, adding}
use Rattle.sound.proofs.SoundValues.{Value, value, Optional, some-value, no_value, wrapped, joined, unlinked, relabel, retree, labelled, Closed, SomeAdded, none-added, some-added, close-sound, add-some-sound, closing}
use Rattle.sound.proofs.SoundItems.{listed, word_flags}
use Rattle.sound.proofs.SoundNames.{Rowing, names-sound}
use Rattle.sound.proofs.SoundEffects.{Becomes, becomes}
use Rattle.sound.proofs.SoundBody.{block-sound, covered-sound}
use Rattle.sound.proofs.SoundUnder.{joined-under}

-- an expression and a block, which both have joined a row
pub data Guarded (text : List ℕ) (kids : Kids) : Spot → Spot → Kids → Type 0 where
  guarded : {p q r : Place} {n m : ℕ} {xs ys : List ℕ} {k : Kids} {l i : Label} {ks js : Trees} (b : Derives text (Whole false) p q) (c : Derives text Block q r) → shape b 0 blank ≡ only (tree l ks) → shape c 0 blank ≡ only (tree i js)
      → ((lo : ℕ) (ts : Trees) (es : List Entry) → Stack xs n (row lo kids.first kids.last ts ∷ es) → Stack ys m (row lo k.first k.last (join ts (join (tree l ks) (tree i js))) ∷ es)) → Guarded text kids (at p n xs) (at r m ys) k

module _ (e : Sheet) (d : ℕ) (exprs : (lambda : Bool) → Sound e (Value e.text (Whole lambda)) (expr (levels e d) lambda)) (bodies : (end : ℕ) → Sound e (Rowing e.text (Exprs end) no_kids) ((levels e d).exprs end)) where
  -- parse_expr_and_block: the expression joins the row when the block stands on the stack already
  pub and-block-sound : (kids : Kids) → Sound e (Guarded e.text kids) (expr_and_block (levels e d) kids)
  unfolding expr_and_block
  and-block-sound kids = maps e (λ u v k c. go c) (binds e (exprs false) (λ link. binds e (block-sound e d bodies) (λ body. binds e (add-sound e kids link) (λ one. add-sound e one body))))
    where
      go : {u v : Spot} {k : Kids} → Seq (Value e.text (Whole false)) (λ link. Seq (Value e.text Block) (λ body. Seq (Added kids link) (λ one. Added one body))) u v k → Guarded e.text kids u v k
      go (value {a = a} b s f ▸ value {a = c} k y h ▸ added-to ▸ u) = adding (Guarded e.text kids _) u
          (guarded b k s y (λ lo ts es st. retree (join-assoc ts _ _) (joined (added kids a) c (joined-under kids a (h _ (f _ st))))))

  -- behind `else`
  abbrev Otherwise : Claim ℕ
  Otherwise = Seq (Saw kind.If) (λ b. If b (Value e.text (Whole true)) (Becomes e.text Block 0 (λ q f. only (covered node.ExprBlock f.row))))

  otherwise-read : {p q : Place} {n a : ℕ} {xs : List ℕ} {v : Spot} → Tok kind.Else p q → Otherwise (at q n xs) v a → Value e.text Alternate (at p n xs) v a
  unfolding shape
  otherwise-read t (yes-saw h ▸ value b s f) = value (else-if t h b) s f
  otherwise-read t (not-saw n ▸ becomes b s f) = value (else-block t b) s f

  abbrev IfOf : ℕ → Kids → ℕ → Claim ℕ
  IfOf from kids a = Seq (SomeAdded kids a) (λ all. Closed node.If from 0 0 (flagged 0 0 (ltb 0 a) false) all.first)

  -- `if`
  abbrev pub Branching : ℕ → Claim ℕ
  Branching from = Seq Bumped (λ _. Seq (Guarded e.text no_kids) (λ kids. Seq (Ate kind.Else) (λ b. If b (Seq Otherwise (λ a. IfOf from kids a)) (IfOf from kids 0))))

  pub if-sound : (from : ℕ) → Sound e (Branching from) (if_expr (levels e d) from)
  unfolding if_expr alternate if_record
  if-sound from = binds e (bump-sound e) (λ _. binds e (and-block-sound no_kids) (λ kids. binds e (eat-sound e kind.Else) (λ b. ifs e b
      (binds e (binds e (check_sound e kind.If) (λ i. ifs e i (exprs true) (covered-sound e d bodies 8))) (λ a. binds e (add-some-sound e kids a) (λ all. close-sound e node.If from 0 0 _ all.first)))
      (binds e (add-some-sound e kids 0) (λ all. close-sound e node.If from 0 0 _ all.first)))))

  -- its shape, by the shapes of its parts
  if-shape : {p q r s o : Place} {f g h : Shape} (t : Tok kind.If p q) (b : Derives e.text (Whole false) q r) (c : Derives e.text Block r s) (k : Derives e.text Alternate s o) → shape b 0 blank ≡ f → shape c 0 blank ≡ g → shape k 0 blank ≡ h
      → shape (if-expr t b c k) 0 blank ≡ if_over (start_of p) o f g h
  unfolding shape
  if-shape {p} {o = o} t b c k s y z = λ j. if_over (start_of p) o (s j) (y j) (z j)

  if-over : {p q : Place} {n a c : ℕ} {xs : List ℕ} {u v w : Spot} {kids : Kids} → Tok kind.If p q → Guarded e.text no_kids (at q n xs) u kids → Optional e.text Alternate u v a → IfOf (start_of p) kids a v w c → Value e.text (Atom Other) (at p n xs) w c
  unfolding join
  if-over {p} {kids = kids} t (guarded b c s y f) (some-value (value {q = q} {a = a} k z g)) (some-added ▸ u) = closing (Value e.text (Atom Other) _) u (λ o. value (if-expr t b c k) (if-shape t b c k s y z) (λ es st.
      let x = g _ (f _ none es (begin st)) in
      relabel (ap (λ r. labelled node.If (start_of p) 0 0 (flagged 0 0 r false) q) (lt-ltb 0 a (link-some x))) (wrapped _ (joined kids a x) o)))
  if-over t (guarded b c s y f) (some-value (value k z g)) (none-added ▸ u) = closing (Value e.text (Atom Other) _) u (λ o.
      value {last = 0} (if-expr t b c k) (if-shape t b c k s y z) (λ es st. absurd (unlinked (g _ (f _ none es (begin st))))))
  if-over t (guarded b c s y f) (no_value k z) (none-added ▸ u) = closing (Value e.text (Atom Other) _) u (λ o.
      value (if-expr t b c k) (if-shape t b c k s y z) (λ es st. wrapped _ (f _ none es (begin st)) o))

  pub if-read : {p : Place} {n a : ℕ} {xs : List ℕ} {v : Spot} → Here kind.If p → Branching (start_of p) (at p n xs) v a → Value e.text (Atom Other) (at p n xs) v a
  unfolding shape
  if-read h (bumped t ▸ g ▸ not-ate n ▸ c) = if-over (record { here = h.stands; next = t }) g (no_value (no-else n) refl) c
  if-read h (bumped t ▸ g ▸ yes-ate o ▸ a ▸ c) = if-over (record { here = h.stands; next = t }) g (some-value (otherwise-read o a)) c

  -- `loop`, `while` and `for`
  abbrev pub LoopExpr : ℕ → Claim ℕ
  LoopExpr from = Seq Bumped (λ _. Seq (Value e.text Block) (λ body. Closed node.Loop from 0 0 0 body))

  abbrev pub WhileExpr : ℕ → Claim ℕ
  WhileExpr from = Seq Bumped (λ _. Seq (Guarded e.text no_kids) (λ kids. Closed node.While from 0 0 0 kids.first))

  abbrev pub ForExpr : ℕ → Claim ℕ
  ForExpr from = Seq Bumped (λ _. Seq (Rowing e.text Names no_kids) (λ names. Seq (Took kind.In) (λ _. Seq (Guarded e.text names) (λ kids. Closed node.For from 0 0 (flagged names.count 0 false false) kids.first))))

  pub loop-sound : (from : ℕ) → Sound e (LoopExpr from) (loop_expr (levels e d) from)
  unfolding loop_expr
  loop-sound from = binds e (bump-sound e) (λ _. binds e (block-sound e d bodies) (λ body. close-sound e node.Loop from 0 0 0 body))

  pub while-sound : (from : ℕ) → Sound e (WhileExpr from) (while_expr (levels e d) from)
  unfolding while_expr
  while-sound from = binds e (bump-sound e) (λ _. binds e (and-block-sound no_kids) (λ kids. close-sound e node.While from 0 0 0 kids.first))

  pub for-sound : (from : ℕ) → Sound e (ForExpr from) (for_expr (levels e d) from)
  unfolding for_expr
  for-sound from = binds e (bump-sound e) (λ _. binds e (names-sound e) (λ names. binds e (expect-sound e kind.In) (λ _. binds e (and-block-sound names) (λ kids. close-sound e node.For from 0 0 _ kids.first))))

  pub loop-read : {p : Place} {n a : ℕ} {xs : List ℕ} {v : Spot} → Here kind.Loop p → LoopExpr (start_of p) (at p n xs) v a → Value e.text (Atom Other) (at p n xs) v a
  unfolding shape
  loop-read {p} h (bumped t ▸ value {q = q} b s f ▸ c) = closing (Value e.text (Atom Other) _) c (λ o.
      value (loop-expr (record { here = h.stands; next = t }) b) (λ j. over node.Loop (start_of p) q (s j)) (λ es st. wrapped _ (as_row (f es st)) o))

  pub while-read : {p : Place} {n a : ℕ} {xs : List ℕ} {v : Spot} → Here kind.While p → WhileExpr (start_of p) (at p n xs) v a → Value e.text (Atom Other) (at p n xs) v a
  unfolding shape join
  while-read {p} h (bumped t ▸ guarded {r = q} b c s y f ▸ u) = closing (Value e.text (Atom Other) _) u (λ o.
      value (while-expr (record { here = h.stands; next = t }) b c) (λ j. couple node.While (start_of p) q (s j) (y j)) (λ es st. wrapped _ (f _ none es (begin st)) o))

  pub for-read : {p : Place} {n a : ℕ} {xs : List ℕ} {v : Spot} → Here kind.For p → ForExpr (start_of p) (at p n xs) v a → Value e.text (Atom Other) (at p n xs) v a
  unfolding shape
  for-read {p} h (bumped t ▸ listed k g ▸ took u ▸ guarded {r = q} b c s y f ▸ v) = closing (Value e.text (Atom Other) _) v (λ o.
      value (for-expr (record { here = h.stands; next = t }) k u b c) (λ j. row_before node.For (start_of p) q (shape k 0 blank) (join (s j).row (y j).row))
      (λ es st. let r = g _ 0 none es refl (begin st) in relabel (ap (λ z. labelled node.For (start_of p) 0 0 z q) (word_flags _ false false r.count)) (wrapped _ (f _ _ es r.stack) o)))
