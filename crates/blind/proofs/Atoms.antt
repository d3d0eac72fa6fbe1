-- The rules on atoms and operators are blind to what the lent buffers held, where those handed over are.
use Rattle.std.specs.Prelude.{Some, None, Option}
use mathlib.Core.Bool.{Bool, true, false}
use Prim.Native.Nat.{ℕ, ◌+◌}
use lib.Dec.{ltb, eqb}
use Rattle.kinds.specs.Number as kind
use Rattle.kinds.specs.declared.operator.BinOp.{BinOp}
use Rattle.kinds.specs.Operators.{binary_of, precedence_of}
use Rattle.cursor.specs.declared.Kids.{Kids}
use Rattle.cursor.specs.declared.Span.{Span}
use Rattle.cursor.specs.Node as node
use Rattle.cursor.specs.Sheet.{kind_at, range_at}
use Rattle.cursor.specs.Rule.{Rule}
use Rattle.cursor.specs.Records.{no_kids}
use Rattle.cursor.proofs.Chosen.{all, ◌&◌}
use Rattle.types.specs.Patterns.{span_of}
use Rattle.parts.specs.declared.values.Expr.{Expr}
use Rattle.parts.specs.declared.values.Expr.TheVariants as exprs
use Rattle.parts.specs.Values.{link_of, row_of}
use Rattle.parts.specs.Steps.{Elements, alone}
use Rattle.rules.specs.Inner.{Inner}
use Rattle.rules.specs.Atoms.{paren_expr, list_expr, return_expr, fn_expr, closure_expr, do_expr, alternate, if_expr, match_case, case_turn, match_expr, loop_expr, while_expr, for_expr, break_expr, continue_expr, name, other, atom_cases, atom, primary}
use Rattle.rules.specs.Precedence.{handler, handler_turn, tried_by, tried, unary_op, unary_cases, unary, operated, infix_by, infix_turn, precedence}
use Rattle.blind.proofs.Blind.{Blind, gives, ifs, binds, thens, loops}
use Rattle.blind.proofs.Cursor.{bump-blind, check-blind, eat-blind, expect-blind, chooses, eat-eol-blind, add-blind}
use Rattle.blind.proofs.Items.{start-blind, close-blind, lit-blind, ident-blind}
use Rattle.blind.proofs.Types.{params-blind}
use Rattle.blind.proofs.Parts.{fail-with-blind, couple-blind, row-record-blind, list-record-blind, fn-record-blind, handler-record-blind, handlers-flagged-blind, if-record-blind, names-blind, case-patterns-blind, type-check-blind}
use Rattle.blind.proofs.Handed.{Handed, expr-blind}
use Rattle.blind.proofs.Exprs.{block-blind, and-block-blind, function-blind, items-of-blind, brace-blind, primary-of-blind}

module _ {r : Inner} (x : Handed r) where
  -- atoms
  paren-blind : (from : ℕ) → Blind (paren_expr r from)
  unfolding paren_expr
  paren-blind from = thens (bump-blind r.sheet) (binds (expr-blind x true) (λ link. thens (expect-blind r.sheet kind.CloseParen) (close-blind node.Paren from 0 0 0 link)))

  list-blind : (from : ℕ) → Blind (list_expr r from)
  unfolding list_expr
  list-blind from = thens (bump-blind r.sheet) (binds (items-of-blind x Elements no_kids) (λ i. list-record-blind node.List from i))

  return-blind : (from : ℕ) → Blind (return_expr r from)
  unfolding return_expr
  return-blind from = thens (bump-blind r.sheet) (binds (expr-blind x true) (λ link. close-blind node.Return from 0 0 0 link))

  fn-blind : (from : ℕ) → Blind (fn_expr r from)
  unfolding fn_expr
  fn-blind from = thens (bump-blind r.sheet) (binds (function-blind x from false) (λ f. fn-record-blind from None 0 f))

  closure-blind : (from : ℕ) → Blind (closure_expr r from)
  unfolding closure_expr
  closure-blind from = binds (function-blind x from true) (λ f. fn-record-blind from None 0 f)

  do-blind : (from : ℕ) → Blind (do_expr r from)
  unfolding do_expr
  do-blind from = thens (bump-blind r.sheet) (binds (block-blind x 0) (λ body. binds (close-blind node.Do from 0 0 0 body) (λ f. fn-record-blind from None 0 f)))

  alternate-blind : Blind (alternate r)
  unfolding alternate
  alternate-blind = binds (check-blind r.sheet kind.If) (λ again. ifs again (expr-blind x true) (block-blind x node.ExprBlock))

  if-blind : (from : ℕ) → Blind (if_expr r from)
  unfolding if_expr
  if-blind from =
      thens (bump-blind r.sheet) (binds (and-block-blind x no_kids) (λ kids. binds (eat-blind r.sheet kind.Else) (λ other. ifs other (binds alternate-blind (λ a. if-record-blind from kids a)) (if-record-blind from kids 0))))

  match-case-blind : Blind (match_case r)
  unfolding match_case
  match-case-blind =
      binds (start-blind r.sheet) (λ from. binds (case-patterns-blind r.sheet r.pattern x.pattern) (λ row. thens (expect-blind r.sheet kind.FatArrow) (binds (expr-blind x true) (λ link. row-record-blind node.MatchCase from row link))))

  case-turn-blind : (kids : Kids) → Blind (case_turn r kids)
  unfolding case_turn
  case-turn-blind kids =
      binds (eat-blind r.sheet kind.CloseBrace) (λ closed. ifs closed gives (thens (eat-eol-blind r.sheet) (binds match-case-blind (λ c. thens (eat-eol-blind r.sheet) (binds (add-blind kids c) (λ longer. gives))))))

  match-blind : (from : ℕ) → Blind (match_expr r from)
  unfolding match_expr
  match-blind from =
      thens (bump-blind r.sheet) (binds (expr-blind x false) (λ link. thens (expect-blind r.sheet kind.OpenBrace) (binds (loops case-turn-blind r.sheet (row_of link)) (λ row. close-blind node.Match from 0 0 _ row.first))))

  loop-blind : (from : ℕ) → Blind (loop_expr r from)
  unfolding loop_expr
  loop-blind from = thens (bump-blind r.sheet) (binds (block-blind x 0) (λ body. close-blind node.Loop from 0 0 0 body))

  while-blind : (from : ℕ) → Blind (while_expr r from)
  unfolding while_expr
  while-blind from = thens (bump-blind r.sheet) (binds (and-block-blind x no_kids) (λ kids. close-blind node.While from 0 0 0 kids.first))

  for-blind : (from : ℕ) → Blind (for_expr r from)
  unfolding for_expr
  for-blind from =
      thens (bump-blind r.sheet) (binds (names-blind r.sheet) (λ row. thens (expect-blind r.sheet kind.In) (binds (and-block-blind x row) (λ kids. close-blind node.For from 0 0 _ kids.first))))

  break-blind : (from : ℕ) → Blind (break_expr r from)
  unfolding break_expr
  break-blind from = thens (bump-blind r.sheet) (close-blind node.Break from 0 0 0 0)

  continue-blind : (from : ℕ) → Blind (continue_expr r from)
  unfolding continue_expr
  continue-blind from = thens (bump-blind r.sheet) (close-blind node.Continue from 0 0 0 0)

  -- an atom as an expression
  as-name : {read : Rule ℕ} → Blind read → Blind (name r read)
  as-name h = binds h (λ link. gives)

  as-other : {read : Rule ℕ} → Blind read → Blind (other r read)
  as-other h = binds h (λ link. gives)

  atom-blind : Blind (atom r)
  unfolding atom
  atom-blind =
      binds (start-blind r.sheet) (λ from. chooses r.sheet (atom_cases r from)
      (as-other (paren-blind from)
      & as-name (ident-blind r.sheet)
      & as-other (brace-blind x from)
      & as-other (list-blind from)
      & as-other (fn-blind from)
      & as-other (closure-blind from)
      & as-other (do-blind from)
      & as-other (if-blind from)
      & as-other (match-blind from)
      & as-other (loop-blind from)
      & as-other (while-blind from)
      & as-other (for-blind from)
      & as-other (break-blind from)
      & as-other (continue-blind from)
      & as-other (return-blind from)
      & all) (as-other (lit-blind r.sheet)))

  primary-blind : (lambda : Bool) → Blind (primary r lambda)
  unfolding primary
  primary-blind lambda = primary-of-blind x (atom r) atom-blind lambda

  -- operators
  handler-blind : Blind (handler r)
  unfolding handler
  handler-blind =
      binds (start-blind r.sheet) (λ from. thens (expect-blind r.sheet kind.With) (binds (ident-blind r.sheet) (λ name. binds (params-blind r.sheet r.type_atom x.type_atom (row_of name)) (λ i. binds (block-blind x 0) (λ body. handler-record-blind from i body)))))

  handler-turn-blind : (kids : Kids) → Blind (handler_turn r kids)
  unfolding handler_turn
  handler-turn-blind kids = binds handler-blind (λ link. binds (add-blind kids link) (λ longer. binds (check-blind r.sheet kind.With) (λ again. ifs again gives gives)))

  tried-by-blind : (here : Span) (a : Expr) → Blind (tried_by r here a)
  unfolding tried_by
  tried-by-blind here (exprs.Name link) = fail-with-blind (alone kind.Try here)
  tried-by-blind here (exprs.NameMember link) = fail-with-blind (alone kind.Try here)
  tried-by-blind here (exprs.Call link called) = binds (loops handler-turn-blind r.sheet called.kids) (λ kids. thens (handlers-flagged-blind link called kids.count) gives)
  tried-by-blind here (exprs.Other link) = fail-with-blind (alone kind.Try here)

  tried-blind : (lambda : Bool) → Blind (tried r lambda)
  unfolding tried
  tried-blind lambda = record { ends = λ m s w v h t. (thens (bump-blind r.sheet) (binds (primary-blind lambda) (λ a. tried-by-blind (span_of (range_at r.sheet.tokens s.at)) a))).ends m s w v h t }

  unary-op-blind : (from : ℕ) (lambda : Bool) → Blind (unary_op r from lambda)
  unfolding unary_op
  unary-op-blind from lambda = record {
    ends = λ m s w v h t. (thens (bump-blind r.sheet) (binds (primary-blind lambda) (λ a. binds (close-blind node.Unary from (kind_at r.sheet.tokens s.at) 0 0 (link_of a)) (λ link. gives)))).ends m s w v h t;
  }

  unary-blind : (lambda : Bool) → Blind (unary r lambda)
  unfolding unary
  unary-blind lambda =
      binds (start-blind r.sheet) (λ from. chooses r.sheet (unary_cases r from lambda) (unary-op-blind from lambda & unary-op-blind from lambda & tried-blind lambda & all) (primary-blind lambda))

  operated-blind : (from : ℕ) (lambda : Bool) (a : Expr) (k level : ℕ) → Blind (operated r from lambda a k level)
  unfolding operated
  operated-blind from lambda a k level = ifs (eqb k kind.Is) (type-check-blind r.sheet from a) (binds (x.prec (level + 1) lambda) (λ b. binds (couple-blind node.Binary from k (link_of a) (link_of b)) (λ link. gives)))

  infix-by-blind : (from min : ℕ) (lambda : Bool) (a : Expr) (k : ℕ) (o : Option BinOp) → Blind (infix_by r from min lambda a k o)
  unfolding infix_by
  infix-by-blind from min lambda a k (Some op) = ifs (ltb (precedence_of op) min) gives (thens (bump-blind r.sheet) (operated-blind from lambda a k (precedence_of op)))
  infix-by-blind from min lambda a k None = gives

  infix-turn-blind : (from min : ℕ) (lambda : Bool) (a : Expr) → Blind (infix_turn r from min lambda a)
  unfolding infix_turn
  infix-turn-blind from min lambda a = record {
    ends = λ m s w v h t. (infix-by-blind from min lambda a (kind_at r.sheet.tokens s.at) (binary_of (kind_at r.sheet.tokens s.at))).ends m s w v h t;
  }

  pub precedence-blind : (min : ℕ) (lambda : Bool) → Blind (precedence r min lambda)
  unfolding precedence
  precedence-blind min lambda = binds (start-blind r.sheet) (λ from. binds (unary-blind lambda) (λ a. loops (infix-turn-blind from min lambda) r.sheet a))
