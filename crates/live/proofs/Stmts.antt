-- What the rules on statements add to the live list.
use Rattle.std.specs.Prelude.{Some, None, Option}
use mathlib.Core.Path.{refl}
use mathlib.Core.Bool.{Bool, true, false}
use Prim.Native.Nat.{ℕ, ◌+◌, max}
use lib.Dec.{ltb, eqb}
use Rattle.kinds.specs.Number as kind
use Rattle.cursor.specs.declared.Kids.{Kids}
use Rattle.cursor.specs.declared.Span.{Span}
use Rattle.cursor.specs.Node as node
use Rattle.cursor.specs.Sheet.{Sheet}
use Rattle.cursor.specs.Rule.{Rule, ◌>>=◌, give, Next, more}
use Rattle.cursor.specs.Records.{add}
use Rattle.parts.specs.declared.values.Called.{Called}
use Rattle.parts.specs.declared.values.Expr.{Expr}
use Rattle.parts.specs.declared.values.Expr.TheVariants as exprs
use Rattle.parts.specs.Values.{to_assign_left, row_with, uncounted}
use Rattle.parts.specs.When.{fail_with}
use Rattle.parts.specs.Steps.{alone, operator_of}
use Rattle.rules.specs.Inner.{Inner}
use Rattle.rules.specs.Statements.{right, set_to, set, typed_assign, left_of, left_turn, lefts, right_turn, rights, multi_to, multi, assign, glo_assign, glo, plain, function_stmt, stmt}
use Rattle.live.proofs.Live.{Bounded, all, Adds, Takes, Turns, adds, takes, fits, passed, gives, stops, ifs}
use Rattle.live.proofs.Together.{binds, onto, after, attempts, loops}
use Rattle.live.proofs.Cursor.{ranges, bump-bounded, check-bounded, unexpected-bounded, expect-bounded, eat-range-bounded, otherwise, ◌&◌, chooses, add-bounded}
use Rattle.live.proofs.Items.{start-bounded, close-bounded, pair-bounded}
use Rattle.live.proofs.Types.{typed-ident-bounded, type-bounded, named-bounded}
use Rattle.live.proofs.Parts.{fail-with-bounded, couple-bounded, row-record-bounded}
use Rattle.live.proofs.Recovery.{import-stmt-bounded, effect-stmt-bounded}
use Rattle.live.proofs.Handed.{Handed, expr-bounded}
use Rattle.live.proofs.Exprs.{fn-stmt-bounded}

-- first an expression, then what each sort of it calls for
after-expr : {e : Sheet} {N : ℕ} {B : Type 0} {φ : B → Bool} {a m b f j : ℕ} {q : Rule Expr} (k : Expr → Rule B) → Bounded e N all a m b f j q
    → ((link : ℕ) → Adds e N 0 0 0 0 (k (exprs.Name link))) → ((link : ℕ) → Adds e N 0 0 0 0 (k (exprs.NameMember link))) → ((link : ℕ) (called : Called) → Adds e N 0 0 0 0 (k (exprs.Call link called))) → ((link : ℕ) → Adds e N 0 0 0 0 (k (exprs.Other link)))
    → Bounded e N φ a (max (m + 0) 0) (max (m + 0) 0) (max f (max (m + 0) 0)) (max j (max (m + 0) 0)) (q >>= k)
after-expr {e} {N} k x name member call other = after x by
  where
    by : (a : Expr) → Adds e N 0 0 0 0 (k a)
    by (exprs.Name link) = name link
    by (exprs.NameMember link) = member link
    by (exprs.Call link called) = call link called
    by (exprs.Other link) = other link

module _ {r : Inner} {N : ℕ} (x : Handed r N) where
  right-bounded : (from k op link : ℕ) → Takes r.sheet N 19 32 42 112 (right r from k op link)
  unfolding right
  right-bounded from k op link = takes (after (expr-bounded x true) (λ value. couple-bounded k from op link value)) refl refl refl refl

  set-to-bounded : (from sign : ℕ) (l : Option ℕ) → Takes r.sheet N 0 32 42 112 (set_to r from sign l)
  unfolding set_to
  set-to-bounded from sign (Some link) = takes (onto bump-bounded (λ _. ifs (eqb sign kind.Assign) (right-bounded from node.Assign 0 link) (right-bounded from node.AssignOp (operator_of sign) link))) refl refl refl refl
  set-to-bounded from sign None = takes (unexpected-bounded) refl refl refl refl

  set-bounded : (from sign : ℕ) (a : Expr) → Takes r.sheet N 0 32 42 112 (set r from sign a)
  unfolding set
  set-bounded from sign a = takes (set-to-bounded from sign (to_assign_left a)) refl refl refl refl

  typed-bounded : (from : ℕ) (a : Expr) → Takes r.sheet N 0 32 42 112 (typed_assign r from a)
  unfolding typed_assign
  typed-bounded from (exprs.Name name) = takes (onto bump-bounded (λ _. onto (type-bounded x.type_atom) (λ t. binds (pair-bounded node.TypedIdent from name t) (λ link. onto (expect-bounded kind.Assign) (λ _. right-bounded from node.Assign 0 link))))) refl refl refl refl
  typed-bounded from (exprs.NameMember link) = takes (unexpected-bounded) refl refl refl refl
  typed-bounded from (exprs.Call link called) = takes (unexpected-bounded) refl refl refl refl
  typed-bounded from (exprs.Other link) = takes (unexpected-bounded) refl refl refl refl

  -- one left side more: by the sort of its expression
  left-of-bounded : (comma : Span) (kids : Kids) → Adds r.sheet N 19 32 42 112 (left_of r (Some comma) kids)
  unfolding left_of
  left-of-bounded comma kids = adds (after-expr _ (x.prec 1 true) joins joins (λ link called. refused) (λ link. refused)) refl refl refl refl
    where
      refused : Adds r.sheet N {A = Next Kids} 0 0 0 0 (fail_with (alone kind.Comma comma))
      refused = fail-with-bounded _

      joins : (link : ℕ) → Adds r.sheet N 0 0 0 0 (add kids link >>= (λ longer. give (more longer)))
      joins link = binds (add-bounded kids link) (λ longer. gives)

  left-turn-bounded : (kids : Kids) → Turns r.sheet N 1 32 32 42 112 (left_turn r kids)
  unfolding left_turn left_of
  left-turn-bounded kids = fits (ranges (λ comma. left_of r comma kids) (eat-range-bounded kind.Comma) (λ comma. left-of-bounded comma kids) stops) refl refl refl refl refl

  lefts-bounded : (first : Kids) → Adds r.sheet N 1 33 42 112 (lefts r first)
  unfolding lefts
  lefts-bounded first = adds (loops left-turn-bounded r.sheet first) refl refl refl refl

  right-turn-bounded : (n : ℕ) (kids : Kids) → Turns r.sheet N 1 32 32 42 112 (right_turn r n kids)
  unfolding right_turn
  right-turn-bounded n kids = fits (ifs (ltb kids.count n) (after (expect-bounded kind.Comma) (λ _. after (expr-bounded x true) (λ link. binds (add-bounded kids link) (λ longer. gives)))) stops) refl refl refl refl refl

  rights-bounded : (from : ℕ) (left : Kids) (value : ℕ) → Adds r.sheet N 1 33 42 112 (rights r from left value)
  unfolding rights
  rights-bounded from left value = adds (binds (add-bounded (uncounted left) value) (λ begun. binds (loops (right-turn-bounded left.count) r.sheet begun) (λ kids. close-bounded node.AssignMulti from 0 0 _ kids.first))) refl refl refl refl

  multi-to-bounded : (from : ℕ) (l : Option ℕ) → Takes r.sheet N 2 34 42 112 (multi_to r from l)
  unfolding multi_to
  multi-to-bounded from (Some one) =
      takes (binds (lefts-bounded (row_with one)) (λ kids. onto (expect-bounded kind.Assign) (λ _. after (expr-bounded x true) (λ value. binds (check-bounded kind.Comma) (λ several. ifs several
      (rights-bounded from kids value)
      (row-record-bounded node.AssignUnpack from kids value)))))) refl refl refl refl
  multi-to-bounded from None = takes (unexpected-bounded) refl refl refl refl

  multi-bounded : (from : ℕ) (a : Expr) → Takes r.sheet N 2 34 42 112 (multi r from a)
  unfolding multi
  multi-bounded from a = takes (multi-to-bounded from (to_assign_left a)) refl refl refl refl

  assign-bounded : (from : ℕ) → Takes r.sheet N 19 42 42 112 (assign r from)
  unfolding assign
  assign-bounded from =
      takes (after (x.prec 1 true) (λ a. chooses (passed (multi-bounded from a) & passed (typed-bounded from a)
      & passed (set-bounded from _ a) & passed (set-bounded from _ a) & passed (set-bounded from _ a) & passed (set-bounded from _ a) & passed (set-bounded from _ a) & passed (set-bounded from _ a)
      & otherwise gives))) refl refl refl refl

  glo-assign-bounded : (from : ℕ) → Takes r.sheet N 1 32 42 112 (glo_assign r from)
  unfolding glo_assign
  glo-assign-bounded from = takes (onto (typed-ident-bounded (named-bounded x.type_atom false)) (λ left. onto (expect-bounded kind.Assign) (λ _. right-bounded from node.GloAssign 0 left))) refl refl refl refl

  glo-bounded : (from : ℕ) → Takes r.sheet N 0 36 42 112 (glo r from)
  unfolding glo
  glo-bounded from = takes (record { ends = λ s w h g t. (onto bump-bounded (λ _. chooses (fn-stmt-bounded x from _ & effect-stmt-bounded x.type_atom from _ & otherwise (glo-assign-bounded from)))).ends s w h g t }) refl refl refl refl

  plain-bounded : Takes r.sheet N 22 42 42 112 (plain r)
  unfolding plain
  plain-bounded = takes (binds start-bounded (λ from. chooses (import-stmt-bounded from & effect-stmt-bounded x.type_atom from None & glo-bounded from & otherwise (assign-bounded from)))) refl refl refl refl

  function-stmt-bounded : Takes r.sheet N 1 36 42 112 (function_stmt r)
  unfolding function_stmt
  function-stmt-bounded = takes (binds start-bounded (λ from. fn-stmt-bounded x from None)) refl refl refl refl

  pub stmt-bounded : Takes r.sheet N 23 42 42 112 (stmt r)
  unfolding stmt
  stmt-bounded = takes (binds (check-bounded kind.Fn) (λ here. ifs here (attempts function-stmt-bounded (λ link. gives) plain-bounded) plain-bounded)) refl refl refl refl
