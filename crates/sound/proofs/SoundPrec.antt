-- Operators of a level or higher: parse_expr_precedence, over its unary forms and the expressions one level further in.
use Rattle.std.specs.Prelude.{Some, None, Option}
use mathlib.Core.Path.{◌≡◌, refl, sym, ap, ◌∙◌, subst}
use mathlib.Core.List.{List, ◌∷◌}
use mathlib.Core.Bool.{Bool, true, false}
use Prim.Native.Nat.{ℕ, ◌+◌, ◌<◌, ◌≤◌}
use native.Mathlib.Omega.{arith}
use lib.Dec.{ltb, eqb}
use borrow.Author.Tests.{ltb-true, ltb-false, eqb-true, eqb-false}
use Rattle.kinds.specs.Number as kind
use Rattle.kinds.specs.declared.operator.BinOp.{BinOp}
use Rattle.kinds.specs.Operators.{binary_of, precedence_of, level_by, level_of}
use Rattle.cursor.specs.declared.State.{State}
use Rattle.cursor.specs.declared.Label.{Label}
use Rattle.cursor.specs.Node as node
use Rattle.cursor.specs.Sheet.{Sheet, kind_at}
use Rattle.cursor.specs.Rule.{World, Next, more, stop}
use Rattle.cursor.specs.Records.{no_kids}
use Rattle.cursor.specs.Tree.{Trees, join, tree}
use Rattle.cursor.proofs.Ends.{well, branch}
use Rattle.cursor.proofs.RecordPaths.{added}
use Rattle.cursor.proofs.Stack.{Entry, whole, Stack}
use Rattle.cursor.proofs.Grows.{as_row}
use Rattle.parts.specs.declared.values.Expr.{Expr}
use Rattle.parts.specs.declared.values.Expr.TheVariants as exprs
use Rattle.parts.specs.Values.{link_of}
use Rattle.parts.specs.Records.{couple}
use Rattle.parts.specs.Steps.{checked_type}
use Rattle.rules.specs.Inner.{expr}
use Rattle.rules.specs.Precedence.{operated, infix_by, infix_turn, unary, precedence}
use Rattle.rules.specs.Levels.{levels}
use Rattle.rules.proofs.Takes.{infix-turn-takes}
use Rattle.grammar.specs.Places.{Place, kind_of, span_of, start_of, after, Tok}
use Rattle.grammar.specs.Symbols.{Form, Expr as Whole, Prec, Ops, Unary}
use Rattle.grammar.specs.Derives.{Derives, expr-of, prec-of, no-op, binary, type-check}
use Rattle.grammar.specs.Builders.{blank, only, made}
use Rattle.grammar.specs.Shape.{shape}
use Rattle.sound.proofs.Links.{place_at, Settled, kind-place}
use Rattle.sound.proofs.Sound.{Spot, at, Claim, Seq, ◌▸◌, Gave, gave, If, Star, halt, turn, holds, EndsBy, Sound, gives, maps, reads, ifs, binds, loops, going}
use Rattle.sound.proofs.SoundSteps.{Bumped, bumped, Added, added-to, add-sound, bump-sound}
use Rattle.sound.proofs.SoundValues.{Value, value, wrapped, joined, Started, started, labelled, Closed, closed, start-sound, close-sound}
use Rattle.sound.proofs.SoundExprs.{fits-other, Expressed, expressed, Grown, grown, Tested, tested, test-sound, Headed, onto}

-- a turn: it stops where no operator of the level or higher stands; otherwise the operator, its right operand or type word, and the record over both
pub data InfixTurn (text : List ℕ) (n : ℕ) (lambda : Bool) (from : ℕ) (x : Expr) : Spot → Spot → Next Expr → Type 0 where
  stops : {p : Place} {m : ℕ} {xs : List ℕ} → level_of (kind_of p) < n → InfixTurn text n lambda from x (at p m xs) (at p m xs) (stop x)
  goes : {p q r : Place} {m o k a last : ℕ} {h : Form} {xs ys : List ℕ} {i : Label} {js : Trees} → n ≤ level_of k → (k ≡ kind.Is → ⊥) → Tok k p q → (d : Derives text (Prec (level_of k + 1) lambda h) q r) → shape d 0 blank ≡ only (tree i js)
      → ((lo z : ℕ) (l : Label) (ks : Trees) (es : List Entry) → Stack xs m (whole lo (link_of x) z l ks ∷ es) → Stack ys o (whole lo a last (labelled node.Binary from k 0 0 r) (join (tree l ks) (tree i js)) ∷ es))
      → InfixTurn text n lambda from x (at p m xs) (at r o ys) (more (exprs.Other a))
  tests : {p q r : Place} {m o a last word : ℕ} {xs ys : List ℕ} → n ≤ level_of kind.Is → Tok kind.Is p q → checked_type text (kind_of q) (span_of q) ≡ Some word → after q ≡ r
      → ((lo z : ℕ) (l : Label) (ks : Trees) (es : List Entry) → Stack xs m (whole lo (link_of x) z l ks ∷ es) → Stack ys o (whole lo a last (labelled node.TypeCheck from word (start_of q) 0 r) (tree l ks) ∷ es))
      → InfixTurn text n lambda from x (at p m xs) (at r o ys) (more (exprs.Other a))

-- all operators that follow
module _ (text : List ℕ) (n : ℕ) (lambda : Bool) (from : ℕ) where
  and-operand : {p q r : Place} {m o k a last : ℕ} {h : Form} {xs ys : List ℕ} {i : Label} {js : Trees} {x z : Expr} {v : Spot} → n ≤ level_of k → (k ≡ kind.Is → ⊥) → Tok k p q → (d : Derives text (Prec (level_of k + 1) lambda h) q r) → shape d 0 blank ≡ only (tree i js)
      → ((lo z : ℕ) (l : Label) (ks : Trees) (es : List Entry) → Stack xs m (whole lo (link_of x) z l ks ∷ es) → Stack ys o (whole lo a last (labelled node.Binary from k 0 0 r) (join (tree l ks) (tree i js)) ∷ es))
      → Grown text (Ops n lambda) from (exprs.Other a) (at r o ys) v z → Grown text (Ops n lambda) from x (at p m xs) v z
  unfolding shape
  and-operand {r = r} {k = k} {last = after-it} {i = i} {js = js} u h t d s f (grown b g) = grown (binary u h t d b) (λ last l ks.
      let o = g after-it (labelled node.Binary from k 0 0 r) (join (tree l ks) (tree i js)) in
      record {
        last-now = o.last-now;
        label-now = o.label-now;
        kids-now = o.kids-now;
        same = ap (λ z. shape b from (made node.Binary from r k 0 0 (join (tree l ks) z.row))) s ∙ o.same;
        push = λ lo es x. o.push lo es (record { fits = fits-other; stack = f lo last l ks es x.stack });
      })

  and-test : {p q r : Place} {m o a last word : ℕ} {xs ys : List ℕ} {x z : Expr} {v : Spot} → n ≤ level_of kind.Is → Tok kind.Is p q → checked_type text (kind_of q) (span_of q) ≡ Some word → after q ≡ r
      → ((lo z : ℕ) (l : Label) (ks : Trees) (es : List Entry) → Stack xs m (whole lo (link_of x) z l ks ∷ es) → Stack ys o (whole lo a last (labelled node.TypeCheck from word (start_of q) 0 r) (tree l ks) ∷ es))
      → Grown text (Ops n lambda) from (exprs.Other a) (at r o ys) v z → Grown text (Ops n lambda) from x (at p m xs) v z
  unfolding shape
  and-test {q = q} {r = r} {last = after-it} {word = word} u t c w f (grown b g) = grown (type-check u t c w b) (λ last l ks.
      let o = g after-it (labelled node.TypeCheck from word (start_of q) 0 r) (tree l ks) in
      record { last-now = o.last-now; label-now = o.label-now; kids-now = o.kids-now; same = o.same; push = λ lo es x. o.push lo es (record { fits = fits-other; stack = f lo last l ks es x.stack }) })

  pub operators-read : {u v : Spot} {x z : Expr} → Star (InfixTurn text n lambda from) x u v z → Grown text (Ops n lambda) from x u v z
  unfolding shape
  operators-read (halt (stops h)) = grown (no-op h) (λ last l ks. record { last-now = last; label-now = l; kids-now = ks; same = refl; push = λ lo es x. x })
  operators-read (turn (goes u h t d s f) r) = and-operand u h t d s f (operators-read r)
  operators-read (turn (tests u t c w f) r) = and-test u t c w f (operators-read r)

module _ (e : Sheet) (d : ℕ) (prec : (n : ℕ) (lambda : Bool) → Sound e (Expressed e.text (Prec (n + 1) lambda)) ((levels e d).prec (n + 1) lambda)) where
  -- parse_expr
  pub expr-sound : (lambda : Bool) → Sound e (Value e.text (Whole lambda)) (expr (levels e d) lambda)
  unfolding expr shape
  expr-sound lambda = maps e (λ u v a c. go c) (binds e (prec 0 lambda) (λ x. gives e))
    where
      go : {u v : Spot} {a : ℕ} → Seq (Expressed e.text (Prec 1 lambda)) (λ x. Gave (link_of x)) u v a → Value e.text (Whole lambda) u v a
      go (expressed d s g ▸ gave) = value (expr-of d) s (λ es st. (g es st).stack)

  module _ (n : ℕ) (lambda : Bool) (from : ℕ) where
    abbrev Operated : Expr → ℕ → Claim (Next Expr)
    Operated x k = If (eqb k kind.Is) (Tested e from x) (Seq (Expressed e.text (Prec (level_of k + 1) lambda)) (λ y. Seq (Seq (Added no_kids (link_of x)) (λ one. Seq (Added one (link_of y)) (λ two. Closed node.Binary from k 0 0 two.first))) (λ link. Gave (more (exprs.Other link)))))

    operated-sound : (x : Expr) (k level : ℕ) → level_of k ≡ level → Sound e (Operated x k) (operated (levels e d) from lambda x k level)
    unfolding operated couple
    operated-sound x k level q = ifs e (eqb k kind.Is) (test-sound e from x)
        (binds e (subst (λ z. Sound e (Expressed e.text (Prec (z + 1) lambda)) ((levels e d).prec (level + 1) lambda)) (sym q) (prec level lambda))
        (λ y. binds e (binds e (add-sound e no_kids (link_of x)) (λ one. binds e (add-sound e one (link_of y)) (λ two. close-sound e node.Binary from k 0 0 two.first))) (λ link. gives e)))

    -- the operator is `is`
    is-so : {p q : Place} {m k : ℕ} {xs : List ℕ} (x : Expr) {v : Spot} {b : Next Expr} → k ≡ kind.Is → n ≤ level_of k → kind_of p ≡ k → after p ≡ q → Tested e from x (at q m xs) v b → InfixTurn e.text n lambda from x (at p m xs) v b
    is-so x i u h t (tested w z o) = tests (rw i at u) (record { here = h ∙ i; next = t }) w z (λ lo y l ks es st. wrapped _ (as_row st) o)

    operated-by : {p : Place} {m k : ℕ} {xs : List ℕ} {v : Spot} {b : Next Expr} (x : Expr) (t : Bool) → n ≤ level_of k → kind_of p ≡ k → eqb k kind.Is ≡ t
        → Seq Bumped (λ _. If t (Tested e from x) (Seq (Expressed e.text (Prec (level_of k + 1) lambda)) (λ y. Seq (Seq (Added no_kids (link_of x)) (λ one. Seq (Added one (link_of y)) (λ two. Closed node.Binary from k 0 0 two.first))) (λ link. Gave (more (exprs.Other link)))))) (at p m xs) v b
        → InfixTurn e.text n lambda from x (at p m xs) v b
    operated-by {k = k} x true u h q (bumped t ▸ c) = is-so x (eqb-true k kind.Is q) u h t c
    operated-by {k = k} x false u h q (bumped t ▸ expressed {x = y} b s g ▸ (added-to ▸ added-to ▸ closed o) ▸ c) = going (InfixTurn e.text n lambda from x _) c
        (goes u (eqb-false k kind.Is q) (record { here = h; next = t }) b s (λ lo z l ks es st. wrapped _ (joined (added no_kids (link_of x)) (link_of y) (g _ (as_row st)).stack) o))

    operated-read : {p : Place} {m k : ℕ} {xs : List ℕ} {v : Spot} {b : Next Expr} (x : Expr) → n ≤ level_of k → kind_of p ≡ k → Seq Bumped (λ _. Operated x k) (at p m xs) v b → InfixTurn e.text n lambda from x (at p m xs) v b
    operated-read {k = k} x u h c = operated-by x (eqb k kind.Is) u h refl c

    infix-sound : 0 < n → (x : Expr) → Sound e (InfixTurn e.text n lambda from x) (infix_turn (levels e d) from n lambda x)
    unfolding infix_turn infix_by level_of
    infix-sound some x = record { ends = λ s w h. by s w h _ refl }
      where
        level : (s : State) → Settled e.tokens s → (o : Option BinOp) → binary_of (kind_at e.tokens s.at) ≡ o → level_of (kind_of (place_at e.tokens s)) ≡ level_by o
        level s h o q = ap level_of (kind-place e.tokens s h) ∙ ap level_by q

        by : (s : State) (w : World) → Settled e.tokens s → (o : Option BinOp) → binary_of (kind_at e.tokens s.at) ≡ o → EndsBy e (InfixTurn e.text n lambda from x) s w (infix_by (levels e d) from n lambda x (kind_at e.tokens s.at) o s w)
        by s w h None q = well (holds e h refl (stops (let i = level s h None q in omega (arith, i, some))))
        by s w h (Some op) q = branch (ltb (precedence_of op) n)
            (λ t. well (holds e h refl (stops (let i = level s h (Some op) q in let j = ltb-true (precedence_of op) n t in omega (arith, i, j)))))
            (λ t. reads e (binds e (bump-sound e) (λ _. operated-sound x _ (precedence_of op) (ap level_by q))) h
            (λ v b c. operated-read x (let i : level_of (kind_at e.tokens s.at) ≡ precedence_of op = ap level_by q in let j = ltb-false (precedence_of op) n t in omega (arith, i, j)) (kind-place e.tokens s h) c))

  -- parse_expr_precedence
  pub precedence-sound : ((lambda : Bool) → Sound e (Expressed e.text (Unary lambda)) (unary (levels e d) lambda)) → (n : ℕ) (lambda : Bool) → Sound e (Expressed e.text (Prec (n + 1) lambda)) (precedence (levels e d) (n + 1) lambda)
  unfolding precedence shape
  precedence-sound unaries n lambda = maps e (λ u v a c. go c) (binds e (start-sound e) (λ from. binds e (unaries lambda) (λ x. loops e (infix-turn-takes e d from (n + 1) lambda) (infix-sound (n + 1) lambda from (omega arith)) x)))
    where
      headed : Headed e.text (Unary lambda) (Prec (n + 1) lambda) (Ops (n + 1) lambda)
      headed = record { both = λ d b. prec-of d b; both_is = λ d b. refl }

      go : {u v : Spot} {a : Expr} → Seq Started (λ from. Seq (Expressed e.text (Unary lambda)) (λ x. Star (InfixTurn e.text (n + 1) lambda from) x)) u v a → Expressed e.text (Prec (n + 1) lambda) u v a
      go (started ▸ expressed b s g ▸ r) = onto headed b s g (operators-read e.text (n + 1) lambda _ r)
