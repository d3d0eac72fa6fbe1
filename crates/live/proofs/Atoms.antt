-- What the rules on atoms and operators add to the live list.
use Rattle.std.specs.Prelude.{Some, None, Option}
use mathlib.Core.Path.{refl}
use mathlib.Core.Bool.{Bool, true, false}
use Prim.Native.Nat.{ℕ, ◌+◌}
use lib.Dec.{ltb, eqb}
use Rattle.kinds.specs.Number as kind
use Rattle.kinds.specs.declared.operator.BinOp.{BinOp}
use Rattle.kinds.specs.Operators.{binary_of, precedence_of}
use Rattle.cursor.specs.declared.Kids.{Kids}
use Rattle.cursor.specs.declared.Span.{Span}
use Rattle.cursor.specs.Node as node
use Rattle.cursor.specs.Sheet.{kind_at, range_at}
use Rattle.cursor.specs.Rule.{Rule}
use Rattle.cursor.specs.Records.{no_kids}
use Rattle.types.specs.Patterns.{span_of}
use Rattle.parts.specs.declared.values.Expr.{Expr}
use Rattle.parts.specs.declared.values.Expr.TheVariants as exprs
use Rattle.parts.specs.Values.{link_of, row_of}
use Rattle.parts.specs.Steps.{Elements, alone}
use Rattle.rules.specs.Inner.{Inner}
use Rattle.rules.specs.Primary.{primary_of}
use Rattle.rules.specs.Atoms.{paren_expr, list_expr, return_expr, fn_expr, closure_expr, do_expr, alternate, if_expr, match_case, case_turn, match_expr, loop_expr, while_expr, for_expr, break_expr, continue_expr, name, other, atom, primary}
use Rattle.rules.specs.Precedence.{handler, handler_turn, tried_by, tried, unary_op, unary, operated, infix_by, infix_turn, precedence}
use Rattle.live.proofs.Live.{well, then, Adds, Takes, Turns, adds, takes, fits, gives, stops, ifs}
use Rattle.live.proofs.Together.{binds, onto, after, loops}
use Rattle.live.proofs.Cursor.{asks, bump-bounded, check-bounded, eat-bounded, expect-bounded, otherwise, ◌&◌, chooses, eat-eol-bounded, add-bounded}
use Rattle.live.proofs.Items.{start-bounded, close-bounded, lit-bounded, ident-bounded}
use Rattle.live.proofs.Types.{params-bounded}
use Rattle.live.proofs.Parts.{fail-with-bounded, couple-bounded, row-record-bounded, list-record-bounded, fn-record-bounded, handler-record-bounded, handlers-flagged-bounded, if-record-bounded, names-bounded, case-patterns-bounded, type-check-bounded}
use Rattle.live.proofs.Handed.{Handed, expr-bounded}
use Rattle.live.proofs.Exprs.{block-bounded, and-block-bounded, function-bounded, items-of-bounded, brace-bounded, postfix-turn-bounded}

module _ {r : Inner} {N : ℕ} (x : Handed r N) where
  -- atoms
  paren-bounded : (from : ℕ) → Takes r.sheet N 0 0 42 112 (paren_expr r from)
  unfolding paren_expr
  paren-bounded from = takes (onto bump-bounded (λ _. onto (expr-bounded x true) (λ link. after (expect-bounded kind.CloseParen) (λ _. close-bounded node.Paren from 0 0 0 link)))) refl refl refl refl

  list-bounded : (from : ℕ) → Takes r.sheet N 0 34 42 112 (list_expr r from)
  unfolding list_expr
  list-bounded from = takes (after bump-bounded (λ _. binds (items-of-bounded x Elements no_kids) (λ i. list-record-bounded node.List from i))) refl refl refl refl

  return-bounded : (from : ℕ) → Takes r.sheet N 0 32 42 112 (return_expr r from)
  unfolding return_expr
  return-bounded from = takes (onto bump-bounded (λ _. after (expr-bounded x true) (λ link. close-bounded node.Return from 0 0 0 link))) refl refl refl refl

  fn-bounded : (from : ℕ) → Takes r.sheet N 0 36 42 112 (fn_expr r from)
  unfolding fn_expr
  fn-bounded from = takes (onto bump-bounded (λ _. after (function-bounded x from false) (λ f. fn-record-bounded from None 0 f))) refl refl refl refl

  closure-bounded : (from : ℕ) → Takes r.sheet N 1 36 42 112 (closure_expr r from)
  unfolding closure_expr
  closure-bounded from = takes (after (function-bounded x from true) (λ f. fn-record-bounded from None 0 f)) refl refl refl refl

  do-bounded : (from : ℕ) → Takes r.sheet N 0 36 36 112 (do_expr r from)
  unfolding do_expr
  do-bounded from = takes (onto bump-bounded (λ _. after (block-bounded x 0) (λ body. binds (close-bounded node.Do from 0 0 0 body) (λ f. fn-record-bounded from None 0 f)))) refl refl refl refl

  alternate-bounded : Takes r.sheet N 20 36 42 112 (alternate r)
  unfolding alternate
  alternate-bounded = takes (binds (check-bounded kind.If) (λ again. ifs again (expr-bounded x true) (block-bounded x node.ExprBlock))) refl refl refl refl

  if-bounded : (from : ℕ) → Takes r.sheet N 0 37 42 112 (if_expr r from)
  unfolding if_expr
  if-bounded from = takes (onto bump-bounded (λ _. after (and-block-bounded x no_kids) (λ kids. asks (eat-bounded kind.Else) (after alternate-bounded (λ a. if-record-bounded from kids a)) (if-record-bounded from kids 0)))) refl refl refl refl

  match-case-bounded : Takes r.sheet N 5 32 42 112 (match_case r)
  unfolding match_case
  match-case-bounded =
      takes (binds start-bounded (λ from. binds (case-patterns-bounded x.pattern) (λ row. onto (expect-bounded kind.FatArrow) (λ _. after (expr-bounded x true) (λ link. row-record-bounded node.MatchCase from row link))))) refl refl refl refl

  case-turn-bounded : (kids : Kids) → Turns r.sheet N 6 32 32 42 112 (case_turn r kids)
  unfolding case_turn
  case-turn-bounded kids = fits (asks (eat-bounded kind.CloseBrace) gives (binds eat-eol-bounded (λ _. after match-case-bounded (λ c. binds eat-eol-bounded (λ _. binds (add-bounded kids c) (λ longer. gives)))))) refl refl refl refl refl

  match-bounded : (from : ℕ) → Takes r.sheet N 0 38 42 112 (match_expr r from)
  unfolding match_expr
  match-bounded from =
      takes (onto bump-bounded (λ _. onto (expr-bounded x false) (λ link. after (expect-bounded kind.OpenBrace) (λ _. binds (loops case-turn-bounded r.sheet (row_of link)) (λ row. close-bounded node.Match from 0 0 _ row.first))))) refl refl refl refl

  loop-bounded : (from : ℕ) → Takes r.sheet N 0 36 36 112 (loop_expr r from)
  unfolding loop_expr
  loop-bounded from = takes (onto bump-bounded (λ _. after (block-bounded x 0) (λ body. close-bounded node.Loop from 0 0 0 body))) refl refl refl refl

  while-bounded : (from : ℕ) → Takes r.sheet N 0 36 42 112 (while_expr r from)
  unfolding while_expr
  while-bounded from = takes (onto bump-bounded (λ _. after (and-block-bounded x no_kids) (λ kids. close-bounded node.While from 0 0 0 kids.first))) refl refl refl refl

  for-bounded : (from : ℕ) → Takes r.sheet N 0 36 42 112 (for_expr r from)
  unfolding for_expr
  for-bounded from =
      takes (onto bump-bounded (λ _. binds names-bounded (λ row. onto (expect-bounded kind.In) (λ _. after (and-block-bounded x row) (λ kids. close-bounded node.For from 0 0 _ kids.first))))) refl refl refl refl

  break-bounded : (from : ℕ) → Takes r.sheet N 0 0 0 0 (break_expr r from)
  unfolding break_expr
  break-bounded from = takes (after bump-bounded (λ _. close-bounded node.Break from 0 0 0 0)) refl refl refl refl

  continue-bounded : (from : ℕ) → Takes r.sheet N 0 0 0 0 (continue_expr r from)
  unfolding continue_expr
  continue-bounded from = takes (after bump-bounded (λ _. close-bounded node.Continue from 0 0 0 0)) refl refl refl refl

  -- an atom as an expression
  as-name : {a m f j : ℕ} {read : Rule ℕ} → Takes r.sheet N a m f j read → Takes r.sheet N a m f j (name r read)
  as-name h = record { ends = λ s w g o t. then (h.ends s w g o t) (λ _ z. z) (λ s1 w1 link z. well z) }

  as-other : {a m f j : ℕ} {read : Rule ℕ} → Takes r.sheet N a m f j read → Takes r.sheet N a m f j (other r read)
  as-other h = record { ends = λ s w g o t. then (h.ends s w g o t) (λ _ z. z) (λ s1 w1 link z. well z) }

  atom-bounded : Takes r.sheet N 16 38 42 112 (atom r)
  unfolding atom
  atom-bounded =
      takes (binds start-bounded (λ from. chooses (as-other (paren-bounded from)
      & as-name ident-bounded
      & as-other (brace-bounded x from)
      & as-other (list-bounded from)
      & as-other (fn-bounded from)
      & as-other (closure-bounded from)
      & as-other (do-bounded from)
      & as-other (if-bounded from)
      & as-other (match-bounded from)
      & as-other (loop-bounded from)
      & as-other (while-bounded from)
      & as-other (for-bounded from)
      & as-other (break-bounded from)
      & as-other (continue-bounded from)
      & as-other (return-bounded from)
      & otherwise (as-other lit-bounded)))) refl refl refl refl

  primary-bounded : (lambda : Bool) → Takes r.sheet N 16 44 44 112 (primary r lambda)
  unfolding primary primary_of
  primary-bounded lambda = takes (binds start-bounded (λ from. after atom-bounded (λ a. loops (postfix-turn-bounded x from lambda) r.sheet a))) refl refl refl refl

  -- operators
  handler-bounded : Takes r.sheet N 1 36 42 112 (handler r)
  unfolding handler
  handler-bounded =
      takes (binds start-bounded (λ from. onto (expect-bounded kind.With) (λ _. onto ident-bounded (λ name. onto (params-bounded x.type_atom (row_of name)) (λ i. after (block-bounded x 0) (λ body. handler-record-bounded from i body)))))) refl refl refl refl

  handler-turn-bounded : (kids : Kids) → Turns r.sheet N 1 37 37 42 112 (handler_turn r kids)
  unfolding handler_turn
  handler-turn-bounded kids = fits (after handler-bounded (λ link. binds (add-bounded kids link) (λ longer. binds (check-bounded kind.With) (λ again. ifs again gives gives)))) refl refl refl refl refl

  tried-by-bounded : (here : Span) (a : Expr) → Adds r.sheet N 1 38 42 112 (tried_by r here a)
  unfolding tried_by
  tried-by-bounded here (exprs.Name link) = adds (fail-with-bounded (alone kind.Try here)) refl refl refl refl
  tried-by-bounded here (exprs.NameMember link) = adds (fail-with-bounded (alone kind.Try here)) refl refl refl refl
  tried-by-bounded here (exprs.Call link called) = adds (binds (loops handler-turn-bounded r.sheet called.kids) (λ kids. binds (handlers-flagged-bounded link called kids.count) (λ _. gives))) refl refl refl refl
  tried-by-bounded here (exprs.Other link) = adds (fail-with-bounded (alone kind.Try here)) refl refl refl refl

  tried-bounded : (lambda : Bool) → Takes r.sheet N 0 45 45 112 (tried r lambda)
  unfolding tried
  tried-bounded lambda = takes (record { ends = λ s w h g t. (onto bump-bounded (λ _. after (primary-bounded lambda) (λ a. tried-by-bounded (span_of (range_at r.sheet.tokens s.at)) a))).ends s w h g t }) refl refl refl refl

  unary-op-bounded : (from : ℕ) (lambda : Bool) → Takes r.sheet N 0 44 44 112 (unary_op r from lambda)
  unfolding unary_op
  unary-op-bounded from lambda = takes (record { ends = λ s w h g t. (onto bump-bounded (λ _. after (primary-bounded lambda) (λ a. binds (close-bounded node.Unary from (kind_at r.sheet.tokens s.at) 0 0 (link_of a)) (λ link. gives)))).ends s w h g t }) refl refl refl refl

  unary-bounded : (lambda : Bool) → Takes r.sheet N 19 45 45 112 (unary r lambda)
  unfolding unary
  unary-bounded lambda = takes (binds start-bounded (λ from. chooses (unary-op-bounded from lambda & unary-op-bounded from lambda & tried-bounded lambda & otherwise (primary-bounded lambda)))) refl refl refl refl

  operated-bounded : (from : ℕ) (lambda : Bool) (a : Expr) (k level : ℕ) → Turns r.sheet N 19 32 32 42 112 (operated r from lambda a k level)
  unfolding operated
  operated-bounded from lambda a k level = fits (ifs (eqb k kind.Is) (type-check-bounded from a) (after (x.prec (level + 1) lambda) (λ b. binds (couple-bounded node.Binary from k (link_of a) (link_of b)) (λ link. gives)))) refl refl refl refl refl

  infix-by-bounded : (from min : ℕ) (lambda : Bool) (a : Expr) (k : ℕ) (o : Option BinOp) → Turns r.sheet N 0 32 32 42 112 (infix_by r from min lambda a k o)
  unfolding infix_by
  infix-by-bounded from min lambda a k (Some op) = fits (ifs (ltb (precedence_of op) min) stops (onto bump-bounded (λ _. operated-bounded from lambda a k (precedence_of op)))) refl refl refl refl refl
  infix-by-bounded from min lambda a k None = fits (stops) refl refl refl refl refl

  infix-turn-bounded : (from min : ℕ) (lambda : Bool) (a : Expr) → Turns r.sheet N 0 32 32 42 112 (infix_turn r from min lambda a)
  unfolding infix_turn
  infix-turn-bounded from min lambda a = fits (record { ends = λ s w h g t. (infix-by-bounded from min lambda a (kind_at r.sheet.tokens s.at) (binary_of (kind_at r.sheet.tokens s.at))).ends s w h g t }) refl refl refl refl refl

  pub precedence-bounded : (min : ℕ) (lambda : Bool) → Takes r.sheet N 19 45 45 112 (precedence r min lambda)
  unfolding precedence
  precedence-bounded min lambda = takes (binds start-bounded (λ from. after (unary-bounded lambda) (λ a. loops (infix-turn-bounded from min lambda) r.sheet a))) refl refl refl refl
