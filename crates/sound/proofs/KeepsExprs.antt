-- What the rules on expressions leave as it was, where the rules handed over leave it: all that lay below a mark (KeepsRow).
use Rattle.std.specs.Prelude.{Some, None, Option}
use mathlib.Core.Bool.{Bool, true, false}
use Prim.Native.Nat.{ℕ, ◌+◌}
use lib.Dec.{ltb, eqb}
use Rattle.kinds.specs.Number as kind
use Rattle.kinds.specs.declared.operator.BinOp.{BinOp}
use Rattle.kinds.specs.Operators.{binary_of, precedence_of}
use Rattle.cursor.specs.declared.Kids.{Kids}
use Rattle.cursor.specs.declared.Span.{Span}
use Rattle.cursor.specs.Sheet.{Ranged, kind_at}
use Rattle.cursor.specs.Node as node
use Rattle.cursor.specs.Rule.{Rule, ◌>>=◌}
use Rattle.cursor.proofs.Chosen.{all, ◌&◌}
use Rattle.cursor.proofs.Keeps.{Mark, Keeps, Plain, Nexts, gives, ifs, binds, thens, attempts, loops}
use Rattle.cursor.proofs.Kept.{bump-keeps, check-keeps, eat-keeps, expect-keeps, eat-range-keeps, unexpected-keeps, chooses, eat-eol-keeps, append-keeps, reflag-keeps, nothing, Fresh, RowFor, fresh-mine}
use Rattle.types.specs.Items.{is_ended}
use Rattle.types.proofs.ItemKeeps.{ItemsFor, start-keeps, pair_keeps, lit-keeps, ident-keeps}
use Rattle.types.proofs.TypeKeeps.{params-keep, closure-params-keep, returns-keeps}
use Rattle.parts.specs.declared.values.Expr.{Expr}
use Rattle.parts.specs.declared.values.Expr.TheVariants as exprs
use Rattle.parts.specs.Values.{link_of, row_of}
use Rattle.parts.specs.Records.{list_record, handlers_flagged, call_record}
use Rattle.parts.specs.Steps.{items_end, any_params, braced, no_member, lit_key, paren_key_at, paren_key}
use Rattle.rules.specs.Inner.{Inner, expr}
use Rattle.rules.specs.Blocks.{block, expr_and_block}
use Rattle.rules.specs.Functions.{function, named_function}
use Rattle.rules.specs.Tables.{key, property, item, items_of, table, brace_block, table_or_block, brace}
use Rattle.rules.specs.Primary.{member_expr, bracket_member, dot_member, double_colon_member, member_cases, access, call, postfix_turn, primary_of}
use Rattle.rules.specs.Atoms.{paren_expr, list_expr, return_expr, fn_expr, closure_expr, do_expr, alternate, if_expr, match_case, case_turn, match_expr, loop_expr, while_expr, for_expr, break_expr, continue_expr, name, other, atom_cases, atom, primary}
use Rattle.rules.specs.Precedence.{handler, handler_turn, tried_by, tried, unary_op, unary_cases, unary, operated, infix_by, infix_turn, precedence}
use Rattle.sound.proofs.KeepsRow.{ExprFor, link-fresh, fails, closes, adds, begins, couple-keeps, row-record-keeps, block-record-keeps, fn-record-keeps, function-record-keeps, handler-record-keeps, if-record-keeps, call-record-keeps, member-record-keeps, joins, names-keep, case-patterns-keep, type-check-keeps, until-keeps}

-- what the rules that are handed over keep, and that their answers were made since the mark
pub record Guards (m : Mark) (r : Inner) : Type 0 where
  pub exprs : (end : ℕ) → Keeps m (RowFor m) (r.exprs end)
  pub prec : (min : ℕ) (lambda : Bool) → Keeps m (ExprFor m) (r.prec min lambda)
  pub type_atom : Keeps m (Fresh m) r.type_atom
  pub pattern : Keeps m (Fresh m) r.pattern

module _ {m : Mark} {r : Inner} (h : Guards m r) where
  pub expr-keeps : (lambda : Bool) → Keeps m (Fresh m) (expr r lambda)
  unfolding expr
  expr-keeps lambda = binds (h.prec 1 lambda) (λ x g. gives (link-fresh m x g))

  -- blocks and functions
  block-keeps : (wrap : ℕ) → Keeps m (Fresh m) (block r wrap)
  unfolding block
  block-keeps wrap = thens (expect-keeps _ _) (binds (start-keeps _) (λ from _. binds (h.exprs kind.CloseBrace) (λ row _. block-record-keeps _ wrap _ row)))

  and-block-keeps : (kids : Kids) → RowFor m kids → Keeps m (RowFor m) (expr_and_block r kids)
  unfolding expr_and_block
  and-block-keeps kids g = binds (expr-keeps _) (λ link f. binds (block-keeps 0) (λ body b. binds (adds _ _ g f) (λ one j. adds _ _ j b)))

  function-keeps : (from : ℕ) (closure : Bool) → Keeps m (Fresh m) (function r from closure)
  unfolding function any_params
  function-keeps from closure =
      binds (ifs closure (closure-params-keep r.sheet _ h.type_atom _ nothing) (params-keep r.sheet _ h.type_atom _ nothing)) (λ i g. binds (returns-keeps r.sheet _ h.type_atom) (λ link f. binds (block-keeps 0) (λ body b. function-record-keeps from closure i link body g f b)))

  pub fn-stmt-keeps : (from : ℕ) (glo : Ranged) → Keeps m (Fresh m) (named_function r from glo)
  unfolding named_function
  fn-stmt-keeps from glo = thens (expect-keeps _ _) (binds (ident-keeps _) (λ name f. binds (function-keeps from false) (λ link g. fn-record-keeps from glo name link (fresh-mine name f) g)))

  -- tables
  pub key-keeps : Keeps m (Fresh m) (key r)
  unfolding key paren_key paren_key_at lit_key
  key-keeps = binds (start-keeps _) (λ from _. binds (eat-keeps _ _) (λ opened _. ifs opened (binds (expr-keeps _) (λ link f. thens (expect-keeps _ _) (begins (λ s. thens (expect-keeps _ _) (append-keeps _ link))))) (binds (lit-keeps r.sheet) (λ link f. thens (expect-keeps _ _) (gives f)))))

  item-keeps : (k : ℕ) → Keeps m (Fresh m) (item r k)
  unfolding item property
  item-keeps k = ifs (eqb k 2) (binds (start-keeps _) (λ from _. binds key-keeps (λ name f. binds (expr-keeps _) (λ value g. pair_keeps r.sheet _ from name value f g)))) (expr-keeps true)

  items_keep : (k : ℕ) (kids : Kids) → RowFor m kids → Keeps m (ItemsFor m) (items_of r k kids)
  unfolding items_of
  items_keep k kids g = until-keeps r.sheet _ (items_end k) kids (item-keeps k) g

  table-keeps : (from inside first : ℕ) → Fresh m first → Keeps m (Fresh m) (table r from inside first)
  unfolding table list_record
  table-keeps from inside first f =
      binds (expr-keeps _) (λ value g. binds (pair_keeps r.sheet _ inside first value f g) (λ link j. thens (eat-eol-keeps _) (binds (eat-keeps _ _) (λ closed _. ifs closed (closes _ _ _ _ _ _) (thens (expect-keeps _ _) (binds (items_keep 2 _ (fresh-mine link j)) (λ i _. closes _ _ _ _ _ _)))))))

  brace-keeps : (from : ℕ) → Keeps m (Fresh m) (brace r from)
  unfolding brace table_or_block brace_block
  brace-keeps from =
      thens (bump-keeps _) (thens (eat-eol-keeps _) (binds (eat-keeps _ _) (λ closed _. ifs closed (closes _ _ _ _ _ _) (binds (start-keeps _) (λ inside _. attempts key-keeps (table-keeps from inside) (binds (h.exprs kind.CloseBrace) (λ row _. block-record-keeps _ node.ExprBlock _ row)))))))

  -- calls and members
  braced-keeps : (lambda : Bool) → Keeps m Plain (braced r.sheet lambda)
  unfolding braced
  braced-keeps lambda = ifs lambda (check-keeps _ _) (gives tt)

  member-keeps : (from : ℕ) (safe : Ranged) (x : Expr) (named meta : ℕ) {property : Rule ℕ} {closing : Rule Unit} → ExprFor m x → Keeps m (Fresh m) property → Keeps m Plain closing → Keeps m (Nexts (ExprFor m)) (member_expr r from safe x named meta property closing)
  member-keeps from safe x named meta g y z =
      thens (bump-keeps _) (binds (eat-keeps _ _) (λ pound _. ifs pound (thens z (member-record-keeps from safe meta x 0 g nothing)) (binds y (λ link f. thens z (member-record-keeps from safe named x link g (fresh-mine link f))))))

  module _ (from : ℕ) (safe : Ranged) (x : Expr) (g : ExprFor m x) where
    bracket-keeps : Keeps m (Nexts (ExprFor m)) (bracket_member r from safe x)
    unfolding bracket_member
    bracket-keeps = member-keeps from safe x _ _ g (expr-keeps true) (expect-keeps _ _)

    dot-keeps : Keeps m (Nexts (ExprFor m)) (dot_member r from safe x)
    unfolding dot_member
    dot-keeps = member-keeps from safe x _ _ g (ident-keeps _) (gives tt)

    colons-keep : Keeps m (Nexts (ExprFor m)) (double_colon_member r from safe x)
    unfolding double_colon_member
    colons-keep = member-keeps from safe x _ _ g (ident-keeps _) (gives tt)

  access-keeps : (from : ℕ) (x : Expr) → ExprFor m x → Keeps m (Nexts (ExprFor m)) (access r from x)
  unfolding access no_member
  access-keeps from x g =
      binds (eat-range-keeps r.sheet kind.Question) (λ safe _. chooses r.sheet (member_cases r from safe x) (bracket-keeps from safe x g & dot-keeps from safe x g & colons-keep from safe x g & all) (ifs (is_ended safe) (unexpected-keeps _) (gives g)))

  -- a trailing lambda, where one is allowed and stands here, over a row that was begun
  trailing-keeps : (from : ℕ) (kids : Kids) → RowFor m kids → Keeps m (Nexts (ExprFor m)) (block r node.Closure >>= (λ closure. call_record from kids closure))
  trailing-keeps from kids g = binds (block-keeps node.Closure) (λ closure f. call-record-keeps from kids closure g (fresh-mine closure f))

  call-keeps : (from : ℕ) (lambda : Bool) (x : Expr) → ExprFor m x → Keeps m (Nexts (ExprFor m)) (call r from lambda x)
  unfolding call
  call-keeps from lambda x g = binds (items_keep 0 _ (fresh-mine _ (link-fresh m x g))) (λ i j. binds (braced-keeps lambda) (λ trailing _. ifs trailing (trailing-keeps from i.kids j) (call-record-keeps from i.kids 0 j nothing)))

  postfix-keeps : (from : ℕ) (lambda : Bool) (x : Expr) → ExprFor m x → Keeps m (Nexts (ExprFor m)) (postfix_turn r from lambda x)
  unfolding postfix_turn
  postfix-keeps from lambda x g =
      binds (eat-keeps _ _) (λ opened _. ifs opened (call-keeps from lambda x g) (binds (braced-keeps lambda) (λ trailing _. ifs trailing (trailing-keeps from _ (fresh-mine _ (link-fresh m x g))) (access-keeps from x g))))

  -- atoms
  paren-keeps : (from : ℕ) → Keeps m (Fresh m) (paren_expr r from)
  unfolding paren_expr
  paren-keeps from = thens (bump-keeps _) (binds (expr-keeps _) (λ link _. thens (expect-keeps _ _) (closes _ _ _ _ _ _)))

  list-keeps : (from : ℕ) → Keeps m (Fresh m) (list_expr r from)
  unfolding list_expr list_record
  list-keeps from = thens (bump-keeps _) (binds (items_keep 1 _ nothing) (λ i _. closes _ _ _ _ _ _))

  return-keeps : (from : ℕ) → Keeps m (Fresh m) (return_expr r from)
  unfolding return_expr
  return-keeps from = thens (bump-keeps _) (binds (expr-keeps _) (λ link _. closes _ _ _ _ _ _))

  fn-keeps : (from : ℕ) → Keeps m (Fresh m) (fn_expr r from)
  unfolding fn_expr
  fn-keeps from = thens (bump-keeps _) (binds (function-keeps from false) (λ f g. fn-record-keeps from _ 0 f nothing g))

  closure-keeps : (from : ℕ) → Keeps m (Fresh m) (closure_expr r from)
  unfolding closure_expr
  closure-keeps from = binds (function-keeps from true) (λ f g. fn-record-keeps from _ 0 f nothing g)

  do-keeps : (from : ℕ) → Keeps m (Fresh m) (do_expr r from)
  unfolding do_expr
  do-keeps from = thens (bump-keeps _) (binds (block-keeps 0) (λ body _. binds (closes _ _ _ _ _ _) (λ f g. fn-record-keeps from _ 0 f nothing g)))

  if-keeps : (from : ℕ) → Keeps m (Fresh m) (if_expr r from)
  unfolding if_expr alternate
  if-keeps from =
      thens (bump-keeps _) (binds (and-block-keeps _ nothing) (λ kids g. binds (eat-keeps _ _) (λ other _. ifs other
      (binds (binds (check-keeps _ _) (λ again _. ifs again (expr-keeps true) (block-keeps node.ExprBlock))) (λ a f. if-record-keeps from kids a g (fresh-mine a f)))
      (if-record-keeps from kids 0 g nothing))))

  case-keeps : Keeps m (Fresh m) (match_case r)
  unfolding match_case
  case-keeps = binds (start-keeps _) (λ from _. binds (case-patterns-keep r.sheet _ h.pattern) (λ row g. thens (expect-keeps _ _) (binds (expr-keeps _) (λ link f. row-record-keeps _ from row link g f))))

  match-keeps : (from : ℕ) → Keeps m (Fresh m) (match_expr r from)
  unfolding match_expr case_turn
  match-keeps from =
      thens (bump-keeps _) (binds (expr-keeps _) (λ link f. thens (expect-keeps _ _) (binds
      (loops (λ kids g. binds (eat-keeps _ _) (λ closed _. ifs closed (gives g) (thens (eat-eol-keeps _) (binds case-keeps (λ c j. thens (eat-eol-keeps _) (binds (adds _ _ g j) (λ longer k. gives k))))))) r.sheet (fresh-mine link f))
      (λ row _. closes _ _ _ _ _ _))))

  loop-keeps : (from : ℕ) → Keeps m (Fresh m) (loop_expr r from)
  unfolding loop_expr
  loop-keeps from = thens (bump-keeps _) (binds (block-keeps 0) (λ body _. closes _ _ _ _ _ _))

  while-keeps : (from : ℕ) → Keeps m (Fresh m) (while_expr r from)
  unfolding while_expr
  while-keeps from = thens (bump-keeps _) (binds (and-block-keeps _ nothing) (λ kids _. closes _ _ _ _ _ _))

  for-keeps : (from : ℕ) → Keeps m (Fresh m) (for_expr r from)
  unfolding for_expr
  for-keeps from = thens (bump-keeps _) (binds (names-keep r.sheet) (λ row g. thens (expect-keeps _ _) (binds (and-block-keeps row g) (λ kids _. closes _ _ _ _ _ _))))

  break-keeps : (from : ℕ) → Keeps m (Fresh m) (break_expr r from)
  unfolding break_expr
  break-keeps from = thens (bump-keeps _) (closes _ _ _ _ _ _)

  continue-keeps : (from : ℕ) → Keeps m (Fresh m) (continue_expr r from)
  unfolding continue_expr
  continue-keeps from = thens (bump-keeps _) (closes _ _ _ _ _ _)

  name-keeps : {read : Rule ℕ} → Keeps m (Fresh m) read → Keeps m (ExprFor m) (name r read)
  name-keeps x = binds x (λ link f. gives f)

  other-keeps : {read : Rule ℕ} → Keeps m (Fresh m) read → Keeps m (ExprFor m) (other r read)
  other-keeps x = binds x (λ link f. gives f)

  atom-keeps : Keeps m (ExprFor m) (atom r)
  unfolding atom
  atom-keeps = binds (start-keeps _) (λ from _. chooses r.sheet (atom_cases r from)
      (other-keeps (paren-keeps from)
      & name-keeps (ident-keeps _)
      & other-keeps (brace-keeps from)
      & other-keeps (list-keeps from)
      & other-keeps (fn-keeps from)
      & other-keeps (closure-keeps from)
      & other-keeps (do-keeps from)
      & other-keeps (if-keeps from)
      & other-keeps (match-keeps from)
      & other-keeps (loop-keeps from)
      & other-keeps (while-keeps from)
      & other-keeps (for-keeps from)
      & other-keeps (break-keeps from)
      & other-keeps (continue-keeps from)
      & other-keeps (return-keeps from)
      & all) (other-keeps (lit-keeps r.sheet)))

  primary-keeps : (lambda : Bool) → Keeps m (ExprFor m) (primary r lambda)
  unfolding primary primary_of
  primary-keeps lambda = binds (start-keeps _) (λ from _. binds atom-keeps (λ x g. loops (postfix-keeps from lambda) r.sheet g))

  -- operators
  handler-keeps : Keeps m (Fresh m) (handler r)
  unfolding handler
  handler-keeps = binds (start-keeps _) (λ from _. thens (expect-keeps _ _) (binds (ident-keeps _) (λ name f. binds (params-keep r.sheet _ h.type_atom (row_of name) (fresh-mine name f)) (λ i g. binds (block-keeps 0) (λ body b. handler-record-keeps from i body g b)))))

  tried-by-keeps : (here : Span) (x : Expr) → ExprFor m x → Keeps m (ExprFor m) (tried_by r here x)
  unfolding tried_by handler_turn handlers_flagged
  tried-by-keeps here (exprs.Name link) g = fails _
  tried-by-keeps here (exprs.NameMember link) g = fails _
  tried-by-keeps here (exprs.Call link called) g = binds (loops (λ kids j. joins _ _ kids handler-keeps (check-keeps _ _) j) r.sheet g.1) (λ kids _. thens (reflag-keeps link _ g.0) (gives g.0))
  tried-by-keeps here (exprs.Other link) g = fails _

  tried-keeps : (lambda : Bool) → Keeps m (ExprFor m) (tried r lambda)
  unfolding tried
  tried-keeps lambda = begins (λ s. thens (bump-keeps _) (binds (primary-keeps lambda) (tried-by-keeps _)))

  unary-op-keeps : (from : ℕ) (lambda : Bool) → Keeps m (ExprFor m) (unary_op r from lambda)
  unfolding unary_op
  unary-op-keeps from lambda = begins (λ s. thens (bump-keeps _) (binds (primary-keeps lambda) (λ x _. binds (closes _ _ _ _ _ _) (λ link f. gives f))))

  unary-keeps : (lambda : Bool) → Keeps m (ExprFor m) (unary r lambda)
  unfolding unary
  unary-keeps lambda = binds (start-keeps _) (λ from _. chooses r.sheet (unary_cases r from lambda) (unary-op-keeps from lambda & unary-op-keeps from lambda & tried-keeps lambda & all) (primary-keeps lambda))

  infix-by-keeps : (from min : ℕ) (lambda : Bool) (x : Expr) (k : ℕ) (o : Option BinOp) → ExprFor m x → Keeps m (Nexts (ExprFor m)) (infix_by r from min lambda x k o)
  unfolding infix_by operated
  infix-by-keeps from min lambda x k (Some op) g =
      ifs (ltb (precedence_of op) min) (gives g) (thens (bump-keeps _) (ifs (eqb k kind.Is) (type-check-keeps r.sheet from x) (binds (h.prec (precedence_of op + 1) lambda) (λ y j. binds (couple-keeps _ from k (link_of x) (link_of y) (link-fresh m x g) (link-fresh m y j)) (λ link f. gives f)))))
  infix-by-keeps from min lambda x k None g = gives g

  infix-keeps : (from min : ℕ) (lambda : Bool) (x : Expr) → ExprFor m x → Keeps m (Nexts (ExprFor m)) (infix_turn r from min lambda x)
  unfolding infix_turn
  infix-keeps from min lambda x g = begins (λ s. infix-by-keeps from min lambda x _ (binary_of (kind_at r.sheet.tokens s.at)) g)

  pub precedence-keeps : (min : ℕ) (lambda : Bool) → Keeps m (ExprFor m) (precedence r min lambda)
  unfolding precedence
  precedence-keeps min lambda = binds (start-keeps _) (λ from _. binds (unary-keeps lambda) (λ x g. loops (infix-keeps from min lambda) r.sheet g))
