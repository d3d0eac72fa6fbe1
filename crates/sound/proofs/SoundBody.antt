-- Statements in a row, with their recovery: parse_exprs; and blocks.
use mathlib.Core.Path.{◌≡◌, refl, sym, ap}
use mathlib.Core.List.{List, ◌∷◌}
use mathlib.Core.Bool.{false}
use Prim.Native.Nat.{ℕ, suc, ◌+◌}
use Rattle.kinds.specs.Number as kind
use Rattle.cursor.specs.declared.Kids.{Kids}
use Rattle.cursor.specs.declared.Label.{Label}
use Rattle.cursor.specs.Node as node
use Rattle.cursor.specs.Sheet.{Sheet}
use Rattle.cursor.specs.Rule.{Next, more, stop}
use Rattle.cursor.specs.Checks.{unexpected_at}
use Rattle.cursor.specs.Records.{no_kids, flagged}
use Rattle.cursor.specs.Tree.{Trees, none, tree}
use Rattle.cursor.proofs.Stack.{Entry, whole, Stack}
use Rattle.cursor.proofs.Grows.{begin, as_row}
use Rattle.types.specs.declared.items.Items.{Items as Row}
use Rattle.parts.specs.Records.{block_record, wrapped as wrapped-rule}
use Rattle.parts.specs.Recovery.{skip_cases, skip_turn, skip, skipped, log_here, line_end, after_stmt}
use Rattle.parts.proofs.SkipTakes.{skip-takes}
use Rattle.rules.specs.Blocks.{block}
use Rattle.rules.specs.Exprs.{stmt_or, exprs_turn, exprs}
use Rattle.rules.specs.Statements.{stmt}
use Rattle.rules.specs.Levels.{levels}
use Rattle.rules.proofs.BodyTakes.{body-turn-takes}
use Rattle.grammar.specs.Places.{Place, start_of, Tok}
use Rattle.grammar.specs.Symbols.{Eols, Exprs, Stmts, Block, Stmt}
use Rattle.grammar.specs.Derives.{Derives, exprs-of, no-stmt, last-stmt, a-line, block_of}
use Rattle.grammar.specs.Builders.{blank, only, more as longer, covered}
use Rattle.grammar.specs.Shape.{shape}
use Rattle.sound.proofs.Sound.{Spot, at, Claim, Seq, ◌▸◌, Gave, gave, answer, not-both, If, Nothing, Star, halt, turn, Sound, gives, maps, ifs, binds, recovers, log-sound, loops}
use Rattle.sound.proofs.SoundSteps.{Took, took, Ate, yes-ate, not-ate, Saw, yes-saw, not-saw, Lined, lined, bump-sound, check_sound, eat-sound, expect-sound, way, otherwise, chooses, eat-eol-sound}
use Rattle.sound.proofs.SoundValues.{Value, value, wrapped, joined, unlinked, relabel, Started, started, labelled, Closed, closed, SomeAdded, none-added, some-added, start-sound, close-sound, add-some-sound, closing}
use Rattle.sound.proofs.SoundItems.{sofar, as-shape, Listed, listed, word_more, word_flags}
use Rattle.sound.proofs.SoundNames.{Rowing}
use Rattle.sound.proofs.SoundEffects.{Becomes, becomes}

-- nothing is claimed
abbrev pub Whatever : {A : Type 0} → Claim A
Whatever x y a = Unit {0}

pub skipped-sound : (e : Sheet) (end : ℕ) → Sound e Whatever (skipped e end)
unfolding skipped skip skip_turn
skipped-sound e end = maps e (λ u v a c. tt) (binds e (loops e (skip-takes e end) (λ _. chooses e (skip_cases e end) (way e (gives e) (way e (gives e) (way e (gives e) (otherwise e (binds e (bump-sound e) (λ _. gives e))))))) tt) (λ _. gives e))

log-here-sound : (e : Sheet) → Sound e Nothing (log_here e)
unfolding log_here
log-here-sound e = record { ends = λ s w h. (log-sound e (unexpected_at e s)).ends s w h }

module _ (e : Sheet) (end : ℕ) where
  -- what the rules claim, word by word. Where the end of input stands an error is logged
  abbrev AfterStmt : Kids → ℕ → Claim (Next Kids)
  AfterStmt kids link = Seq (Ate end) (λ b. If b (Seq (SomeAdded kids link) (λ all. Gave (stop all))) (Seq (Saw kind.Eof) (λ o. If o (Seq (Nothing {A = Unit {0}}) (λ _. Seq (SomeAdded kids link) (λ all. Gave (stop all))))
      (Seq (Seq (Took kind.Eol) (λ a. Gave a)) (λ _. Seq (Lined e.text) (λ _. Seq (SomeAdded kids link) (λ all. Gave (more all))))))))

  abbrev BodyTurn : Kids → Claim (Next Kids)
  BodyTurn kids = Seq (Ate end) (λ b. If b (Gave (stop kids)) (Seq (Seq (Value e.text Stmt) (λ a. Gave a)) (λ link. AfterStmt kids link)))

  after-stmt-sound : (kids : Kids) (link : ℕ) → Sound e (AfterStmt kids link) (after_stmt e end kids link)
  unfolding after_stmt line_end
  after-stmt-sound kids link = binds e (eat-sound e end) (λ b. ifs e b (binds e (add-some-sound e kids link) (λ all. gives e)) (binds e (check_sound e kind.Eof) (λ o. ifs e o
      (binds e (log-here-sound e) (λ _. binds e (add-some-sound e kids link) (λ all. gives e)))
      (binds e (recovers e (expect-sound e kind.Eol) (λ a. gives e) (gives e)) (λ _. binds e (eat-eol-sound e) (λ _. binds e (add-some-sound e kids link) (λ all. gives e)))))))

  -- a statement and its line's end, and the statements from there on
  and-line : {p q r s : Place} {n m a last : ℕ} {xs ys : List ℕ} {l : Label} {ks : Trees} {v w : Spot} {j : Row} {kids k : Kids} (b : Derives e.text Stmt p q) → shape b 0 blank ≡ only (tree l ks) → ((es : List Entry) → Stack xs n es → Stack ys m (whole n a last l ks ∷ es))
      → Tok kind.Eol q r → Derives e.text Eols r s → SomeAdded kids a (at s m ys) w k → Listed e.text (Stmts end) k w v j → Listed e.text (Stmts end) kids (at p n xs) v j
  unfolding shape
  and-line {kids = kids} b s f t o (some-added {i = a}) (listed d g) =
      listed (a-line b t o d) (λ lo i ts es u st. as-shape (ap (λ z. shape d 0 (longer (sofar ts i) z)) (sym s)) (g lo (i + 1) _ es (word_more i u) (joined kids (suc a) (f _ st))))
  and-line b s f t o none-added (listed d g) = listed (a-line b t o d) (λ lo i ts es u st. absurd (unlinked (f _ st)))

  -- the last one
  and-end : {p q r : Place} {n m a last : ℕ} {xs ys : List ℕ} {l : Label} {ks : Trees} {v : Spot} {kids k : Kids} (b : Derives e.text Stmt p q) → shape b 0 blank ≡ only (tree l ks) → ((es : List Entry) → Stack xs n es → Stack ys m (whole n a last l ks ∷ es))
      → Tok end q r → SomeAdded kids a (at r m ys) v k → Rowing e.text (Stmts end) kids (at p n xs) v k
  unfolding shape
  and-end {kids = kids} b s f t (some-added {i = a}) =
      listed (last-stmt b t) (λ lo c ts es u st. as-shape (ap (λ z. longer (sofar ts c) z) (sym s)) (record { stack = joined kids (suc a) (f _ st); count = word_more c u; last = refl }))
  and-end b s f t none-added = listed (last-stmt b t) (λ lo c ts es u st. absurd (unlinked (f _ st)))

  stmts-read : {u v : Spot} {kids k : Kids} → Star BodyTurn kids u v k → Rowing e.text (Stmts end) kids u v k
  unfolding shape
  stmts-read (halt (yes-ate t ▸ gave)) = listed (no-stmt t) (λ lo c ts es u st. record { stack = st; count = u; last = refl })
  stmts-read (halt (not-ate n ▸ (value b s f ▸ gave) ▸ yes-ate t ▸ k ▸ gave)) = and-end b s f t k
  stmts-read (turn (not-ate n ▸ (value b s f ▸ gave) ▸ not-ate m ▸ not-saw i ▸ (took t ▸ gave) ▸ lined l ▸ k ▸ gave) r) = and-line b s f t l k (stmts-read r)
  stmts-read (halt (not-ate n ▸ x ▸ not-ate m ▸ yes-saw i ▸ q ▸ z)) = absurd q
  stmts-read (halt (not-ate n ▸ x ▸ not-ate m ▸ not-saw i ▸ y ▸ lined l ▸ k ▸ g)) = absurd (not-both (answer g))
  stmts-read (turn (yes-ate t ▸ g) r) = absurd (not-both (sym (answer g)))
  stmts-read (turn (not-ate n ▸ x ▸ yes-ate t ▸ k ▸ g) r) = absurd (not-both (sym (answer g)))
  stmts-read (turn (not-ate n ▸ x ▸ not-ate m ▸ yes-saw i ▸ q ▸ z) r) = absurd q

  -- parse_exprs
  pub body-sound : (d : ℕ) → Sound e (Value e.text Stmt) (stmt (levels e d)) → Sound e (Rowing e.text (Exprs end) no_kids) (exprs (levels e d) end)
  unfolding exprs exprs_turn stmt_or shape
  body-sound d stmts = maps e (λ u v k c. go c) (binds e (eat-eol-sound e) (λ _. loops e (body-turn-takes e d end)
      (λ kids. binds e (eat-sound e end) (λ b. ifs e b (gives e) (binds e (recovers e stmts (λ a. gives e) (skipped-sound e end)) (λ link. after-stmt-sound kids link)))) no_kids))
    where
      begun : {p q : Place} {n : ℕ} {xs : List ℕ} {v : Spot} {j : Row} → Derives e.text Eols p q → Listed e.text (Stmts end) no_kids (at q n xs) v j → Listed e.text (Exprs end) no_kids (at p n xs) v j
      begun a (listed d f) = listed (exprs-of a d) f

      go : {u v : Spot} {k : Kids} → Seq (Lined e.text) (λ _. Star BodyTurn no_kids) u v k → Rowing e.text (Exprs end) no_kids u v k
      go (lined a ▸ r) = begun a (stmts-read r)

-- parse_block, and one with a record of another kind and of the same range over it
module _ (e : Sheet) (d : ℕ) (bodies : (end : ℕ) → Sound e (Rowing e.text (Exprs end) no_kids) ((levels e d).exprs end)) where
  -- a block's own record
  abbrev BlockOf : ℕ → Kids → Claim ℕ
  BlockOf from k = Closed node.Block from 0 0 (flagged k.count 0 false false) k.first

  block-record : {p q : Place} {n a : ℕ} {xs : List ℕ} {v w : Spot} {k : Kids} → Tok kind.OpenBrace p q → Rowing e.text (Exprs kind.CloseBrace) no_kids (at q n xs) v k → BlockOf (start_of q) k v w a → Value e.text Block (at p n xs) w a
  unfolding shape
  block-record {q = q} t (listed {q = r} b f) c = closing (Value e.text Block _) c (λ o.
      value (block_of t b) refl (λ es st. let g = f _ 0 none es refl (begin st) in relabel (ap (λ z. labelled node.Block (start_of q) 0 0 z r) (word_flags _ false false g.count)) (wrapped _ g.stack o)))

  pub block-sound : Sound e (Value e.text Block) (block (levels e d) 0)
  unfolding block block_record wrapped-rule
  block-sound = maps e (λ u v a c. go c) (binds e (expect-sound e kind.OpenBrace) (λ _. binds e (start-sound e) (λ from. binds e (bodies kind.CloseBrace) (λ k. binds e (close-sound e node.Block from 0 0 (flagged k.count 0 false false) k.first) (λ link. gives e)))))
    where
      go : {u v : Spot} {a : ℕ} → Seq (Took kind.OpenBrace) (λ _. Seq Started (λ from. Seq (Rowing e.text (Exprs kind.CloseBrace) no_kids) (λ k. Seq (BlockOf from k) (λ link. Gave link)))) u v a → Value e.text Block u v a
      go (took t ▸ started ▸ r ▸ c ▸ gave) = block-record t r c

  pub covered-sound : (kind-over : ℕ) → Sound e (Becomes e.text Block 0 (λ q f. only (covered (suc kind-over) f.row))) (block (levels e d) (suc kind-over))
  unfolding block block_record wrapped-rule shape
  covered-sound kind-over = maps e (λ u v a c. go c) (binds e (expect-sound e kind.OpenBrace) (λ _. binds e (start-sound e) (λ from. binds e (bodies kind.CloseBrace) (λ k.
      binds e (close-sound e node.Block from 0 0 (flagged k.count 0 false false) k.first) (λ link. close-sound e (suc kind-over) from 0 0 0 link)))))
    where
      go : {u v : Spot} {a : ℕ} → Seq (Took kind.OpenBrace) (λ _. Seq Started (λ from. Seq (Rowing e.text (Exprs kind.CloseBrace) no_kids) (λ k. Seq (BlockOf from k) (λ link. Closed (suc kind-over) from 0 0 0 link)))) u v a
          → Becomes e.text Block 0 (λ q f. only (covered (suc kind-over) f.row)) u v a
      go (took t ▸ started {p = q} ▸ listed b f ▸ closed {p = r} o ▸ c) = closing (Becomes e.text Block 0 (λ q f. only (covered (suc kind-over) f.row)) _) c (λ m.
          becomes (block_of t b) refl (λ es st. let g = f _ 0 none es refl (begin st) in wrapped _ (as_row (relabel (ap (λ z. labelled node.Block (start_of q) 0 0 z r) (word_flags _ false false g.count)) (wrapped _ g.stack o))) m))
