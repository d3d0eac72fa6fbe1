-- Expressions are unambiguous above their atoms: operators, unary forms, calls and members. Their forms come out the same.
-- What is derived of one sheet (Examples) is checked first, so that a wrong level is refused there.
use Rattle.std.specs.Prelude.{Some}
use Prim.Native.Nat.{ℕ, ◌+◌, ◌<◌, ◌≤◌}
use mathlib.Core.Path.{◌≡◌, refl, sym, ap, ◌∙◌}
use mathlib.Core.List.{List}
use mathlib.Core.Bool.{Bool}
use native.Mathlib.Omega.{arith}
use Rattle.kinds.specs.Number as kind
use Rattle.kinds.specs.Operators.{level_of}
use Rattle.cursor.specs.Node as node
use Rattle.cursor.specs.Tree.{join}
use Rattle.parts.specs.Steps.{checked_type}
use Rattle.grammar.specs.Places.{Place, kind_of, span_of, start_of, after}
use Rattle.grammar.specs.Symbols.{Form, Expr, Prec, Ops, Unary, Primary}
use Rattle.grammar.specs.Derives.{Derives}
use Rattle.grammar.specs.Derives as g
use Rattle.grammar.specs.Builders.{only, made, handled}
use Rattle.grammar.specs.Shape.{shape}
use Rattle.grammar.specs.Words.{among}
use Rattle.grammar.proofs.FirstKinds.{opening-apart}
use Rattle.grammar.proofs.Starts.{starts}
use Rattle.grammar.proofs.UnambiguousClaims.{Agree, Alike}
use Rattle.grammar.proofs.UnambiguousBelow.{Below}
use Rattle.grammar.proofs.UnambiguousTokens.{step, meet, refuse, value}

-- an operator of the level or a higher one does not stand where none does
none_here : {n m k : ℕ} {p u : Place} → level_of (kind_of p) < n → m ≤ level_of k → kind_of u ≡ k → n ≡ m → p ≡ u → ⊥
none_here {n} {m} {k} {p} {u} h l a c e = omega (arith, h, l, c, same)
  where
    same : level_of (kind_of p) ≡ level_of k
    same = ap (λ w. level_of (kind_of w)) e ∙ ap level_of a

one_word : (a b : ℕ) → Some a ≡ Some b → a ≡ b
one_word a b e = cc

module _ {text : List ℕ} where
  pub expr : {lambda : Bool} {p q u v : Place} (d : Derives text (Expr lambda) p q) → Below d → (e : Derives text (Expr lambda) u v) → p ≡ u → Agree d e
  unfolding shape
  expr (g.expr-of d) b (g.expr-of d') e = let r = (b.agrees d' refl e).same in record { ends = r.ends; shapes = λ x so. value r }

  pub prec : {n m : ℕ} {lambda : Bool} {f h : Form} {p q u v : Place} (d : Derives text (Prec n lambda f) p q) → Below d → (e : Derives text (Prec m lambda h) u v) → n ≡ m → p ≡ u → Alike f h d e
  unfolding shape
  prec (g.prec-of d f) b (g.prec-of d' f') l e =
      let r = b.0.agrees d' e in
      let t = b.1.agrees f' l r.chosen r.same.ends in
      record { chosen = t.chosen; same = record { ends = t.same.ends; shapes = λ x so i. t.same.shapes (start_of (e i)) (value r.same i) i } }

  pub ops : {n m : ℕ} {lambda : Bool} {f h i j : Form} {p q u v : Place} (d : Derives text (Ops n lambda f h) p q) → Below d → (e : Derives text (Ops m lambda i j) u v) → n ≡ m → f ≡ i → p ≡ u → Alike h j d e
  unfolding shape
  ops (g.no-op h) b (g.no-op h') l c e = record { chosen = c; same = record { ends = e; shapes = λ x so. refl } }
  ops (g.no-op h) b (g.binary k' h' a' d' f') l c e = absurd (none_here h k' a'.here l e)
  ops (g.no-op h) b (g.type-check k' a' w' s' f') l c e = absurd (none_here h k' a'.here l e)
  ops (g.binary k h a d f) b (g.no-op h') l c e = absurd (none_here h' k a.here (sym l) (sym e))
  ops (g.binary k h a d f) b (g.binary k' h' a' d' f') l c e =
      let o = meet a.here a'.here e in
      let r = (b.0.agrees d' (ap (λ z. level_of z + 1) o) (step a a' e)).same in
      let t = b.1.agrees f' l refl r.ends in
      record { chosen = t.chosen; same = record { ends = t.same.ends; shapes = λ x so i. t.same.shapes x (made node.Binary x (r.ends i) (o i) 0 0 (join so.row (value r i).row)) i } }
  ops (g.binary k h a d f) b (g.type-check k' a' w' s' f') l c e = absurd (h (meet a.here a'.here e))
  ops (g.type-check k a w s f) b (g.no-op h') l c e = absurd (none_here h' k a.here (sym l) (sym e))
  ops (g.type-check k a w s f) b (g.binary k' h' a' d' f') l c e = absurd (h' (sym (meet a.here a'.here e)))
  ops (g.type-check {word = word} k a w s f) b (g.type-check {word = word'} k' a' w' s' f') l c e =
      let o = step a a' e in
      let n = sym s ∙ ap after o ∙ s' in
      let one : word ≡ word' = one_word word word' (sym w ∙ ap (λ z. checked_type text (kind_of z) (span_of z)) o ∙ w') in
      let t = b.agrees f' l refl n in
      record { chosen = t.chosen; same = record { ends = t.same.ends; shapes = λ x so i. t.same.shapes x (made node.TypeCheck x (n i) (one i) (start_of (o i)) 0 so.row) i } }

  pub unary : {lambda : Bool} {f h : Form} {p q u v : Place} (d : Derives text (Unary lambda f) p q) → Below d → (e : Derives text (Unary lambda h) u v) → p ≡ u → Alike f h d e
  unfolding shape among
  unary (g.not-expr a d) b (g.not-expr a' d') e =
      let r = (b.agrees d' (step a a' e)).same in
      record { chosen = refl; same = record { ends = r.ends; shapes = λ x so i. made node.Unary (start_of (e i)) (r.ends i) kind.Not 0 0 (value r i).row } }
  unary (g.not-expr a d) b (g.neg-expr a' d') e = absurd (omega (arith, meet a.here a'.here e))
  unary (g.not-expr a d) b (g.tried a' d' f') e = absurd (omega (arith, meet a.here a'.here e))
  unary (g.not-expr a d) b (g.no-unary d') e = absurd (refuse (opening-apart kind.Not (starts d') refl) a.here (sym e))
  unary (g.neg-expr a d) b (g.not-expr a' d') e = absurd (omega (arith, meet a.here a'.here e))
  unary (g.neg-expr a d) b (g.neg-expr a' d') e =
      let r = (b.agrees d' (step a a' e)).same in
      record { chosen = refl; same = record { ends = r.ends; shapes = λ x so i. made node.Unary (start_of (e i)) (r.ends i) kind.Sub 0 0 (value r i).row } }
  unary (g.neg-expr a d) b (g.tried a' d' f') e = absurd (omega (arith, meet a.here a'.here e))
  unary (g.neg-expr a d) b (g.no-unary d') e = absurd (refuse (opening-apart kind.Sub (starts d') refl) a.here (sym e))
  unary (g.tried a d f) b (g.not-expr a' d') e = absurd (omega (arith, meet a.here a'.here e))
  unary (g.tried a d f) b (g.neg-expr a' d') e = absurd (omega (arith, meet a.here a'.here e))
  unary (g.tried a d f) b (g.tried a' d' f') e =
      let r = (b.0.agrees d' (step a a' e)).same in
      let t = b.1.agrees f' r.ends in
      record { chosen = refl; same = record { ends = t.ends; shapes = λ x so i. only (handled (value r i).row (value t i)) } }
  unary (g.tried a d f) b (g.no-unary d') e = absurd (refuse (opening-apart kind.Try (starts d') refl) a.here (sym e))
  unary (g.no-unary d) b (g.not-expr a' d') e = absurd (refuse (opening-apart kind.Not (starts d) refl) a'.here e)
  unary (g.no-unary d) b (g.neg-expr a' d') e = absurd (refuse (opening-apart kind.Sub (starts d) refl) a'.here e)
  unary (g.no-unary d) b (g.tried a' d' f') e = absurd (refuse (opening-apart kind.Try (starts d) refl) a'.here e)
  unary (g.no-unary d) b (g.no-unary d') e = let r = b.agrees d' e in record { chosen = r.chosen; same = record { ends = r.same.ends; shapes = λ x so. value r.same } }

  pub primary : {lambda : Bool} {f h : Form} {p q u v : Place} (d : Derives text (Primary lambda f) p q) → Below d → (e : Derives text (Primary lambda h) u v) → p ≡ u → Alike f h d e
  unfolding shape
  primary (g.primary-of d f) b (g.primary-of d' f') e =
      let r = b.0.agrees d' e in
      let t = b.1.agrees f' r.chosen r.same.ends in
      record { chosen = t.chosen; same = record { ends = t.same.ends; shapes = λ x so i. t.same.shapes (start_of (e i)) (value r.same i) i } }
