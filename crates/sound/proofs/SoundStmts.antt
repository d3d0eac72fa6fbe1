-- Statements: parse_stmt. That functions are sound, and that the attempt at a named one touches no record which was there before, is handed over.
use Rattle.std.specs.Prelude.{Some, None}
use mathlib.Core.Path.{refl, ap, subst}
use mathlib.Core.List.{List, ◌∷◌}
use mathlib.Core.Bool.{Bool, true, false}
use Prim.Native.Nat.{ℕ, zero, suc, ◌+◌, ◌^◌, ◌<◌}
use native.Mathlib.Omega.{arith}
use lib.ListN.{length}
use lib.Dec.{ltb}
use borrow.Author.Tests.{lt-ltb}
use Rattle.kinds.specs.Number as kind
use Rattle.cursor.specs.declared.State.{State}
use Rattle.cursor.specs.declared.Kids.{Kids}
use Rattle.cursor.specs.declared.Label.{Label}
use Rattle.cursor.specs.Sheet.{Sheet, range_at, Ranged}
use Rattle.cursor.specs.Node as node
use Rattle.cursor.specs.Rule.{◌>>=◌}
use Rattle.cursor.specs.Records.{add, no_kids, flagged}
use Rattle.cursor.specs.Tree.{Trees, join, tree}
use Rattle.cursor.proofs.Keeps.{mark, Keeps, Plain}
use Rattle.cursor.proofs.RecordPaths.{added}
use Rattle.cursor.proofs.Stack.{Entry, whole, row, Stack, link-some}
use Rattle.cursor.proofs.Grows.{as_row}
use Rattle.types.specs.Items.{close, add_some, is_ended}
use Rattle.types.specs.Types.{named}
use Rattle.types.specs.Patterns.{span_of as range_of}
use Rattle.parts.specs.Records.{fn_record}
use Rattle.rules.specs.Functions.{function, named_function}
use Rattle.rules.specs.Statements.{glo_assign, glo_cases, stmt_cases, glo as glo-rule, plain as plain-rule, function_stmt, stmt}
use Rattle.rules.specs.Levels.{levels}
use Rattle.grammar.specs.Places.{Place, span_of, start_of, Here}
use Rattle.grammar.specs.Symbols.{Ident, Ty, Typed, Stmt, Effect, Path, Function, Prec}
use Rattle.grammar.specs.Derives.{fn-stmt, import-stmt, effect-stmt, glo-fn, glo-effect, glo-assign}
use Rattle.grammar.specs.Builders.{couple, fn_over, effect_over}
use Rattle.grammar.specs.Shape.{shape}
use Rattle.sound.proofs.Links.{place_at}
use Rattle.sound.proofs.Sound.{Spot, at, Claim, Seq, ◌▸◌, Gave, gave, If, Else, stayed, undone, spot, Sound, gives, maps, reads, ifs, binds, attempts}
use Rattle.sound.proofs.SoundSteps.{Bumped, bumped, Took, took, Saw, yes-saw, not-saw, Way, this-one, later-one, Added, added-to, add-sound, bump-sound, check_sound, expect-sound, way, otherwise, chooses, range-place}
use Rattle.sound.proofs.SoundValues.{Value, value, wrapped, joined, relabel, Started, started, labelled, Closed, closed, start-sound, close-sound, ident-sound}
use Rattle.sound.proofs.SoundItems.{Given, given}
use Rattle.sound.proofs.SoundTypes.{types-sound, typed-sound}
use Rattle.sound.proofs.SoundEffects.{Becomes, becomes, effect-sound}
use Rattle.sound.proofs.SoundExprs.{Expressed}
use Rattle.sound.proofs.SoundImports.{import-sound}
use Rattle.sound.proofs.SoundAssign.{RightOf, right_of, right-sound, StmtFrom, stmt-from, assign-sound}

-- the record over a name, which is one, and its function
data FnBuilt (from : ℕ) (glo : Ranged) (name link : ℕ) : Spot → Spot → ℕ → Type 0 where
  fn-built : {p : Place} {n m c : ℕ} {xs ys : List ℕ}
      → (0 < name → (lo mid last : ℕ) (l : Label) (ts ks : Trees) (es : List Entry) → Stack xs n (whole mid link last l ks ∷ row lo name name ts ∷ es)
      → Stack ys m (whole lo c link (labelled node.Fn from (range_of glo).start (range_of glo).end (flagged 0 0 (is_ended glo) true) p) (join ts (tree l ks)) ∷ es))
      → FnBuilt from glo name link (at p n xs) (at p m ys) c

-- what the rule claims once the name is in its row
abbrev RecordOf : ℕ → Ranged → ℕ → ℕ → Kids → Claim ℕ
RecordOf from glo name link one = Seq (Added one link) (λ two. Closed node.Fn from (range_of glo).start (range_of glo).end (flagged 0 0 (is_ended glo) (ltb 0 name)) two.first)

fn-record-sound : (e : Sheet) (from : ℕ) (glo : Ranged) (name link : ℕ) → Sound e (FnBuilt from glo name link) (fn_record from glo name link)
unfolding fn_record add_some
fn-record-sound e from glo name link = by name
  where
    behind : (name : ℕ) (one : Kids) → Sound e (RecordOf from glo name link one) (add one link >>= (λ two. close node.Fn from (range_of glo).start (range_of glo).end (flagged 0 0 (is_ended glo) (ltb 0 name)) two.first))
    behind name one = binds e (add-sound e one link) (λ two. close-sound e node.Fn from (range_of glo).start (range_of glo).end (flagged 0 0 (is_ended glo) (ltb 0 name)) two.first)

    none_read : {u v : Spot} {a : ℕ} → Seq (Gave no_kids) (λ one. RecordOf from glo 0 link one) u v a → FnBuilt from glo 0 link u v a
    none_read (gave ▸ added-to ▸ closed o) = fn-built (λ h. absurd (omega (arith, h)))

    one-read : {i : ℕ} {u v : Spot} {a : ℕ} → Seq (Added no_kids (suc i)) (λ one. RecordOf from glo (suc i) link one) u v a → FnBuilt from glo (suc i) link u v a
    one-read {i} (added-to ▸ added-to ▸ closed {p = p} o) =
        fn-built (λ h lo mid last l ts ks es st. relabel (ap (λ z. labelled node.Fn from (range_of glo).start (range_of glo).end (flagged 0 0 (is_ended glo) z) p) (lt-ltb 0 (suc i) h)) (wrapped _ (joined (added no_kids (suc i)) link st) o))

    by : (name : ℕ) → Sound e (FnBuilt from glo name link) (fn_record from glo name link)
    by zero = maps e (λ u v a c. none_read c) (binds e (gives e) (λ one. behind 0 one))
    by (suc i) = maps e (λ u v a c. one-read c) (binds e (add-sound e no_kids (suc i)) (λ one. behind (suc i) one))

module _ (e : Sheet) (d : ℕ) (prec : (n : ℕ) (lambda : Bool) → Sound e (Expressed e.text (Prec (n + 1) lambda)) ((levels e d).prec (n + 1) lambda))
    (functions : (from : ℕ) (closure : Bool) → Sound e (Becomes e.text (Function closure) from (λ q f. f)) (function (levels e d) from closure)) where
  -- a named function, perhaps behind `glo`
  abbrev Named : ℕ → Ranged → Claim ℕ
  Named from glo = Seq (Took kind.Fn) (λ _. Seq (Value e.text Ident) (λ name. Seq (Becomes e.text (Function false) from (λ q f. f)) (λ link. FnBuilt from glo name link)))

  named-sound : (from : ℕ) (glo : Ranged) → Sound e (Named from glo) (named_function (levels e d) from glo)
  unfolding named_function
  named-sound from glo = binds e (expect-sound e kind.Fn) (λ _. binds e (ident-sound e) (λ name. binds e (functions from false) (λ link. fn-record-sound e from glo name link)))

  function-stmt-sound : Sound e (Value e.text Stmt) (function_stmt (levels e d))
  unfolding function_stmt shape
  function-stmt-sound = maps e (λ u v a c. go c) (binds e (start-sound e) (λ from. named-sound from None))
    where
      go : {u v : Spot} {a : ℕ} → Seq Started (λ from. Named from None) u v a → Value e.text Stmt u v a
      go (started {p = p} ▸ took t ▸ value b s f ▸ becomes c y g ▸ fn-built {p = q} h) = value (fn-stmt t b c) (λ i. fn_over (start_of p) q None (s i).row (y i)) (λ es st. let o = f es st in h (link-some o) _ _ _ _ _ _ es (g _ (as_row o)))

  -- behind `glo`, whose range is a word of what stands there
  abbrev GloOf : ℕ → Ranged → Claim ℕ
  GloOf from here = Seq Bumped (λ _. Way kind.Fn (Named from here) (Way kind.Effect (Becomes e.text Effect 0 (λ q f. effect_over from q here f))
      (Seq (Value e.text (Typed Ty)) (λ name. Seq (Took kind.Assign) (λ _. RightOf e.text node.GloAssign from 0 name)))))

  glo-read : {p : Place} {n a : ℕ} {xs : List ℕ} {v : Spot} → Here kind.Glo p → GloOf (start_of p) (Some (span_of p)) (at p n xs) v a → Value e.text Stmt (at p n xs) v a
  unfolding shape
  glo-read {p} h (bumped t ▸ this-one _ (took k ▸ value b s f ▸ becomes c y g ▸ fn-built {p = q} o)) =
      value (glo-fn (record { here = h.stands; next = t }) k b c) (λ i. fn_over (start_of p) q (Some (span_of p)) (s i).row (y i)) (λ es st. let x = f es st in o (link-some x) _ _ _ _ _ _ es (g _ (as_row x)))
  glo-read h (bumped t ▸ later-one _ (this-one _ (becomes b s f))) = value (glo-effect (record { here = h.stands; next = t }) b) s f
  glo-read {p} h (bumped t ▸ later-one _ (later-one _ (value b s f ▸ took k ▸ right_of {q = q} c y g))) =
      value (glo-assign (record { here = h.stands; next = t }) b k c) (λ i. couple node.GloAssign (start_of p) q (s i) (y i)) (λ es st. g _ _ es (as_row (f es st)))

  glo-assign-sound : (from : ℕ) → Sound e (Seq (Value e.text (Typed Ty)) (λ name. Seq (Took kind.Assign) (λ _. RightOf e.text node.GloAssign from 0 name))) (glo_assign (levels e d) from)
  unfolding glo_assign named
  glo-assign-sound from = binds e (typed-sound e Ty _ (types-sound e d)) (λ name. binds e (expect-sound e kind.Assign) (λ _. right-sound e d prec from node.GloAssign 0 name))

  glo-sound : (from : ℕ) → Sound e (Given kind.Glo (StmtFrom e.text from)) (glo-rule (levels e d) from)
  unfolding glo-rule
  glo-sound from = record {
    ends = λ s w h. reads e (binds e (bump-sound e) (λ _. chooses e (glo_cases (levels e d) from (range_at e.tokens s.at)) (way e (named-sound from (range_at e.tokens s.at)) (way e (effect-sound e from (range_at e.tokens s.at) d) (otherwise e (glo-assign-sound from)))))) h
        (λ v a c. given (λ k. stmt-from (λ q. glo-read k (subst (λ z. GloOf (start_of (place_at e.tokens s)) z (spot e s w) v a) (range-place e s kind.Glo (λ z. omega (arith, z)) h k.stands) (subst (λ z. GloOf z (range_at e.tokens s.at) (spot e s w) v a) q c)))));
  }

  module _ (few : length e.tokens < 2 ^ 32) where
    -- a statement that is no named function
    pub plain-sound : Sound e (Value e.text Stmt) (plain-rule (levels e d))
    unfolding plain-rule shape
    plain-sound = maps e (λ u v a c. go c) (binds e (start-sound e) (λ from. chooses e (stmt_cases (levels e d) from) (way e (import-sound e from) (way e (effect-sound e from None d) (way e (glo-sound from) (otherwise e (assign-sound e d prec few from)))))))
      where
        begun : {p : Place} {n a : ℕ} {xs : List ℕ} {v : Spot} → StmtFrom e.text (start_of p) (at p n xs) v a → Value e.text Stmt (at p n xs) v a
        begun (stmt-from f) = f refl

        go : {u v : Spot} {a : ℕ} → Seq Started (λ from. Way kind.Import (Seq Bumped (λ _. Becomes e.text Path from (λ q f. f)))
            (Way kind.Effect (Becomes e.text Effect 0 (λ q f. effect_over from q None f)) (Way kind.Glo (Given kind.Glo (StmtFrom e.text from)) (StmtFrom e.text from)))) u v a → Value e.text Stmt u v a
        go (started ▸ this-one h (bumped t ▸ becomes b s f)) = value (import-stmt (record { here = h.stands; next = t }) b) s f
        go (started ▸ later-one _ (this-one h (becomes b s f))) = value (effect-stmt b) s f
        go (started ▸ later-one _ (later-one _ (this-one h (given f)))) = begun (f h)
        go (started ▸ later-one _ (later-one _ (later-one _ (stmt-from f)))) = f refl

    -- parse_stmt: an attempt at a named function that is undone is read again as any other statement
    pub stmt-sound : ((s : State) → Keeps (mark s) Plain (function_stmt (levels e d))) → Sound e (Value e.text Stmt) (stmt (levels e d))
    unfolding stmt
    stmt-sound kept = maps e (λ u v a c. go c) (binds e (check_sound e kind.Fn) (λ b. ifs e b (attempts e kept function-stmt-sound (λ a. gives e) plain-sound) plain-sound))
      where
        go : {u v : Spot} {a : ℕ} → Seq (Saw kind.Fn) (λ b. If b (Else (Seq (Value e.text Stmt) (λ a. Gave a)) (Value e.text Stmt)) (Value e.text Stmt)) u v a → Value e.text Stmt u v a
        go (yes-saw h ▸ stayed (c ▸ gave)) = c
        go (yes-saw h ▸ undone keep (value b s f)) = value b s (λ es st. f es (keep es st))
        go (not-saw n ▸ c) = c
