-- That the rules on blocks, functions, lists, atoms, calls, members and operators never move back, where those handed over do not, and which of
-- them take a token (Stays).
use Rattle.std.specs.Prelude.{Some, None, Option}
use mathlib.Core.Path.{refl}
use mathlib.Core.Bool.{Bool, true, false}
use Prim.Native.Nat.{ℕ, ◌+◌}
use lib.Dec.{ltb, eqb}
use Rattle.kinds.specs.Number as kind
use Rattle.kinds.specs.declared.operator.BinOp.{BinOp}
use Rattle.kinds.specs.Operators.{binary_of, precedence_of}
use Rattle.cursor.specs.declared.Kids.{Kids}
use Rattle.cursor.specs.declared.Span.{Span}
use Rattle.cursor.specs.Sheet.{Ranged, Sheet}
use Rattle.cursor.specs.Node as node
use Rattle.cursor.specs.Rule.{Rule}
use Rattle.cursor.specs.Records.{no_kids}
use Rattle.cursor.proofs.Chosen.{Every, all, ◌&◌, each}
use Rattle.cursor.proofs.Keeps.{Keeps, Plain, ground, gives, ifs, plain, binds, thens, attempts}
use Rattle.cursor.proofs.Kept.{bump-keeps, check-keeps, eat-keeps, expect-keeps, eat-range-keeps, chooses, eat-eol-keeps, Fresh, nothing, ground-mine}
use Rattle.types.specs.declared.items.Items.{Items}
use Rattle.types.specs.Items.{one_item}
use Rattle.types.proofs.ItemKeeps.{start-keeps, ident-keeps, after-item-keeps}
use Rattle.types.proofs.TypeKeeps.{params-keep, returns-keeps}
use Rattle.parts.specs.declared.values.Expr.{Expr}
use Rattle.parts.specs.declared.values.Expr.TheVariants as exprs
use Rattle.parts.specs.Values.{link_of, row_of, row_with}
use Rattle.rules.specs.Inner.{Inner}
use Rattle.parts.specs.Steps.{Elements, alone, items_end}
use Rattle.rules.specs.Blocks.{block, expr_and_block}
use Rattle.rules.specs.Functions.{function, named_function}
use Rattle.parts.specs.Effects.{effect_record, effect_stmt}
use Rattle.parts.specs.Until.{until_turn, items_until}
use Rattle.rules.specs.Tables.{key, property, item, items_of, table, brace_block, table_or_block, brace}
use Rattle.rules.specs.Primary.{member_expr, bracket_member, dot_member, double_colon_member, member_cases, access, call, postfix_turn, primary_of}
use Rattle.rules.specs.Atoms.{paren_expr, list_expr, return_expr, fn_expr, closure_expr, do_expr, alternate, if_expr, match_case, case_turn, match_expr, loop_expr, while_expr, for_expr, break_expr, continue_expr, other, atom_cases, atom, primary}
use Rattle.rules.specs.Precedence.{unary_cases, handler, handler_turn, tried_by, tried, unary_op, unary, operated, infix_by, infix_turn, precedence}
use Rattle.rules.proofs.Stays.{Stays, Starts, Opens, opens, bumps, expects, opens_at, opens-first, starts_first, starts-then, chooses-start, rounds, fails, add-stays, add-some-stays, close-stays, pair-stays, expr-stays}
use Rattle.rules.proofs.RecordStays.{couple-stays, row-record-stays, list-record-stays, block-record-stays, fn-record-stays, function-record-stays, handler-record-stays, handlers-flagged-stays, if-record-stays, call-record-stays, member-record-stays, ident-starts, lit-starts, any-params-starts, braced-stays, no-member-stays, lit-key-stays, paren-key-stays, case-patterns-stays, type-check-stays, names-stays}

-- lists of items
module _ (e : Sheet) where
  pub one-item-stays : {rule : Rule ℕ} → Keeps ground Plain rule → (end : ℕ) (i : Items) → Keeps ground Plain (one_item e rule end i)
  unfolding one_item
  one-item-stays keeps end i = binds keeps (λ link _. plain (after-item-keeps e end i.kids link (ground-mine _) (ground-mine link)))

  pub until-turn-stays : {rule : Rule ℕ} → Keeps ground Plain rule → (end : ℕ) (i : Items) → Keeps ground Plain (until_turn e rule end i)
  unfolding until_turn
  until-turn-stays keeps end i = binds (eat-keeps e end) (λ ended _. ifs ended (gives tt) (one-item-stays keeps end i))

  pub items-until-stays : {rule : Rule ℕ} → Keeps ground Plain rule → (end : ℕ) (kids : Kids) → Keeps ground Plain (items_until e rule end kids)
  unfolding items_until
  items-until-stays keeps end kids = thens (eat-eol-keeps e) (rounds (until-turn-stays keeps end) e _)

-- effects
pub effect-record-stays : (from inside : ℕ) (glo : Ranged) (name : ℕ) (i : Items) (link : ℕ) → Keeps ground Plain (effect_record from inside glo name i link)
unfolding effect_record
effect-record-stays from inside glo name i link =
    binds (add-some-stays i.kids link) (λ kids _. binds (close-stays node.Effect inside 0 0 _ kids.first) (λ effect _. binds (add-stays no_kids name) (λ one _. binds (add-stays one effect) (λ two _. close-stays node.ExprEffect from _ _ _ two.first))))

pub effect-stmt-starts : (e : Sheet) {rule : Rule ℕ} → Keeps ground (Fresh ground) rule → (from : ℕ) (glo : Ranged) → Starts e (effect_stmt e rule from glo)
unfolding effect_stmt
effect-stmt-starts e keeps from glo =
    starts-then (start-keeps e) (λ inside. expects kind.Effect refl (binds (ident-keeps e) (λ name _. binds (params-keep e _ keeps no_kids nothing) (λ i _. binds (returns-keeps e _ keeps) (λ link _. effect-record-stays from inside glo name i link)))))

module _ {r : Inner} (h : Stays r) where
  -- blocks and functions
  pub block-starts : (wrap : ℕ) → Starts r.sheet (block r wrap)
  unfolding block
  block-starts wrap = expects kind.OpenBrace refl (binds (start-keeps r.sheet) (λ from _. binds (h.exprs kind.CloseBrace) (λ row _. block-record-stays from wrap from row)))

  pub and-block-stays : (kids : Kids) → Keeps ground Plain (expr_and_block r kids)
  unfolding expr_and_block
  and-block-stays kids = binds (expr-stays h false) (λ link _. binds (block-starts 0).stays (λ body _. binds (add-stays kids link) (λ one _. add-stays one body)))

  pub function-starts : (from : ℕ) (closure : Bool) → Starts r.sheet (function r from closure)
  unfolding function
  function-starts from closure =
      starts_first (any-params-starts r.sheet h.type_atom closure) (λ i. binds (returns-keeps r.sheet _ h.type_atom) (λ link _. binds (block-starts 0).stays (λ body _. function-record-stays from closure i link body)))

  pub fn-stmt-starts : (from : ℕ) (glo : Ranged) → Starts r.sheet (named_function r from glo)
  unfolding named_function
  fn-stmt-starts from glo = expects kind.Fn refl (binds (ident-keeps r.sheet) (λ name _. binds (function-starts from false).stays (λ link _. fn-record-stays from glo name link)))

  -- tables
  pub key-stays : Keeps ground Plain (key r)
  unfolding key
  key-stays = binds (start-keeps r.sheet) (λ from _. binds (eat-keeps r.sheet kind.OpenParen) (λ opened _. ifs opened (binds (expr-stays h true) (λ link _. paren-key-stays r.sheet from link)) (lit-key-stays r.sheet)))

  pub property-stays : Keeps ground Plain (property r)
  unfolding property
  property-stays = binds (start-keeps r.sheet) (λ from _. binds key-stays (λ name _. binds (expr-stays h true) (λ value _. pair-stays node.TableProperty from name value)))

  pub item-stays : (k : ℕ) → Keeps ground Plain (item r k)
  unfolding item
  item-stays k = ifs (eqb k 2) property-stays (expr-stays h true)

  pub items-of-stays : (k : ℕ) (kids : Kids) → Keeps ground Plain (items_of r k kids)
  unfolding items_of
  items-of-stays k kids = items-until-stays r.sheet (item-stays k) (items_end k) kids

  pub table_stays : (from inside first : ℕ) → Keeps ground Plain (table r from inside first)
  unfolding table
  table_stays from inside first =
      binds (expr-stays h true) (λ value _. binds (pair-stays node.TableProperty inside first value) (λ link _. thens (eat-eol-keeps r.sheet) (binds (eat-keeps r.sheet kind.CloseBrace) (λ closed _. ifs closed
      (close-stays node.Table from 0 0 1 link)
      (thens (expect-keeps r.sheet kind.Comma) (binds (items-of-stays 2 (row_with link)) (λ i _. list-record-stays node.Table from i)))))))

  pub brace-block-stays : (from inside : ℕ) → Keeps ground Plain (brace_block r from inside)
  unfolding brace_block
  brace-block-stays from inside = binds (h.exprs kind.CloseBrace) (λ row _. block-record-stays inside node.ExprBlock from row)

  pub table-or-block-stays : (from : ℕ) → Keeps ground Plain (table_or_block r from)
  unfolding table_or_block
  table-or-block-stays from = binds (start-keeps r.sheet) (λ inside _. attempts key-stays (λ first _. table_stays from inside first) (brace-block-stays from inside))

  pub brace-opens : (from : ℕ) → Opens r.sheet (brace r from)
  unfolding brace
  brace-opens from = bumps (thens (eat-eol-keeps r.sheet) (binds (eat-keeps r.sheet kind.CloseBrace) (λ closed _. ifs closed (close-stays node.Table from 0 0 0 0) (table-or-block-stays from))))

  -- calls and members
  member-opens : (from : ℕ) (safe : Ranged) (x : Expr) (named meta : ℕ) {property : Rule ℕ} {closing : Rule Unit} → Keeps ground Plain property → Keeps ground Plain closing → Opens r.sheet (member_expr r from safe x named meta property closing)
  member-opens from safe x named meta p c =
      bumps (binds (eat-keeps r.sheet kind.Pound) (λ pound _. ifs pound (thens c (member-record-stays from safe meta x 0)) (binds p (λ link _. thens c (member-record-stays from safe named x link)))))

  bracket-opens : (from : ℕ) (safe : Ranged) (x : Expr) → Opens r.sheet (bracket_member r from safe x)
  unfolding bracket_member
  bracket-opens from safe x = member-opens from safe x _ _ (expr-stays h true) (expect-keeps r.sheet kind.CloseBracket)

  dot-opens : (from : ℕ) (safe : Ranged) (x : Expr) → Opens r.sheet (dot_member r from safe x)
  unfolding dot_member
  dot-opens from safe x = member-opens from safe x _ _ (plain (ident-keeps r.sheet)) (gives tt)

  double-colon-opens : (from : ℕ) (safe : Ranged) (x : Expr) → Opens r.sheet (double_colon_member r from safe x)
  unfolding double_colon_member
  double-colon-opens from safe x = member-opens from safe x _ _ (plain (ident-keeps r.sheet)) (gives tt)

  pub members-open : (from : ℕ) (safe : Ranged) (x : Expr) → Every (Opens r.sheet) (member_cases r from safe x)
  members-open from safe x = bracket-opens from safe x & dot-opens from safe x & double-colon-opens from safe x & all

  pub access-stays : (from : ℕ) (x : Expr) → Keeps ground Plain (access r from x)
  unfolding access
  access-stays from x = binds (eat-range-keeps r.sheet kind.Question) (λ safe _. chooses r.sheet (member_cases r from safe x) (each (λ _ o. o.stays) _ (members-open from safe x)) (no-member-stays r.sheet safe x))

  pub call_stays : (from : ℕ) (lambda : Bool) (x : Expr) → Keeps ground Plain (call r from lambda x)
  unfolding call
  call_stays from lambda x =
      binds (items-of-stays 0 (row_of (link_of x))) (λ i _. binds (braced-stays r.sheet lambda) (λ trailing _. ifs trailing
      (binds (block-starts node.Closure).stays (λ closure _. call-record-stays from i.kids closure))
      (call-record-stays from i.kids 0)))

  pub postfix-turn-stays : (from : ℕ) (lambda : Bool) (x : Expr) → Keeps ground Plain (postfix_turn r from lambda x)
  unfolding postfix_turn
  postfix-turn-stays from lambda x =
      binds (eat-keeps r.sheet kind.OpenParen) (λ opened _. ifs opened (call_stays from lambda x) (binds (braced-stays r.sheet lambda) (λ trailing _. ifs trailing
      (binds (block-starts node.Closure).stays (λ closure _. call-record-stays from (row_of (link_of x)) closure))
      (access-stays from x))))

  pub primary-of-starts : {rule : Rule Expr} → Starts r.sheet rule → (lambda : Bool) → Starts r.sheet (primary_of r rule lambda)
  unfolding primary_of
  primary-of-starts starts lambda = starts-then (start-keeps r.sheet) (λ from. starts_first starts (λ x. rounds (postfix-turn-stays from lambda) r.sheet x))

  -- atoms
  paren-opens : (from : ℕ) → Opens r.sheet (paren_expr r from)
  unfolding paren_expr
  paren-opens from = bumps (binds (expr-stays h true) (λ link _. thens (expect-keeps r.sheet kind.CloseParen) (close-stays node.Paren from 0 0 0 link)))

  list-opens : (from : ℕ) → Opens r.sheet (list_expr r from)
  unfolding list_expr
  list-opens from = bumps (binds (items-of-stays Elements no_kids) (λ i _. list-record-stays node.List from i))

  return-opens : (from : ℕ) → Opens r.sheet (return_expr r from)
  unfolding return_expr
  return-opens from = bumps (binds (expr-stays h true) (λ link _. close-stays node.Return from 0 0 0 link))

  fn-opens : (from : ℕ) → Opens r.sheet (fn_expr r from)
  unfolding fn_expr
  fn-opens from = bumps (binds (function-starts from false).stays (λ f _. fn-record-stays from None 0 f))

  closure-opens : (from : ℕ) → Opens r.sheet (closure_expr r from)
  unfolding closure_expr
  closure-opens from = opens-first (opens (function-starts from true)) (λ f. fn-record-stays from None 0 f)

  do-opens : (from : ℕ) → Opens r.sheet (do_expr r from)
  unfolding do_expr
  do-opens from = bumps (binds (block-starts 0).stays (λ body _. binds (close-stays node.Do from 0 0 0 body) (λ f _. fn-record-stays from None 0 f)))

  pub alternate-stays : Keeps ground Plain (alternate r)
  unfolding alternate
  alternate-stays = binds (check-keeps r.sheet kind.If) (λ again _. ifs again (expr-stays h true) (block-starts node.ExprBlock).stays)

  pub if-opens : (from : ℕ) → Opens r.sheet (if_expr r from)
  unfolding if_expr
  if-opens from =
      bumps (binds (and-block-stays no_kids) (λ kids _. binds (eat-keeps r.sheet kind.Else) (λ other _. ifs other (binds alternate-stays (λ a _. if-record-stays from kids a)) (if-record-stays from kids 0))))

  pub match-case-starts : Starts r.sheet (match_case r)
  unfolding match_case
  match-case-starts =
      starts-then (start-keeps r.sheet) (λ from. starts-then (case-patterns-stays r.sheet _ h.pattern) (λ row. expects kind.FatArrow refl (binds (expr-stays h true) (λ link _. row-record-stays node.MatchCase from row link))))

  pub case-turn-stays : (kids : Kids) → Keeps ground Plain (case_turn r kids)
  unfolding case_turn
  case-turn-stays kids =
      binds (eat-keeps r.sheet kind.CloseBrace) (λ closed _. ifs closed (gives tt) (thens (eat-eol-keeps r.sheet) (binds match-case-starts.stays (λ c _. thens (eat-eol-keeps r.sheet) (binds (add-stays kids c) (λ longer _. gives tt))))))

  pub match-opens : (from : ℕ) → Opens r.sheet (match_expr r from)
  unfolding match_expr
  match-opens from = bumps (binds (expr-stays h false) (λ link _. thens (expect-keeps r.sheet kind.OpenBrace) (binds (rounds case-turn-stays r.sheet (row_of link)) (λ row _. close-stays node.Match from 0 0 _ row.first))))

  loop-opens : (from : ℕ) → Opens r.sheet (loop_expr r from)
  unfolding loop_expr
  loop-opens from = bumps (binds (block-starts 0).stays (λ body _. close-stays node.Loop from 0 0 0 body))

  while-opens : (from : ℕ) → Opens r.sheet (while_expr r from)
  unfolding while_expr
  while-opens from = bumps (binds (and-block-stays no_kids) (λ kids _. close-stays node.While from 0 0 0 kids.first))

  for-opens : (from : ℕ) → Opens r.sheet (for_expr r from)
  unfolding for_expr
  for-opens from = bumps (binds (names-stays r.sheet) (λ row _. thens (expect-keeps r.sheet kind.In) (binds (and-block-stays row) (λ kids _. close-stays node.For from 0 0 _ kids.first))))

  break-opens : (from : ℕ) → Opens r.sheet (break_expr r from)
  unfolding break_expr
  break-opens from = bumps (close-stays node.Break from 0 0 0 0)

  continue-opens : (from : ℕ) → Opens r.sheet (continue_expr r from)
  unfolding continue_expr
  continue-opens from = bumps (close-stays node.Continue from 0 0 0 0)

  -- an atom as an expression
  as-other : {rule : Rule ℕ} → Opens r.sheet rule → Opens r.sheet (other r rule)
  as-other x = opens-first x (λ link. gives tt)

  pub atom-starts : Starts r.sheet (atom r)
  unfolding atom
  atom-starts = starts-then (start-keeps r.sheet) (λ from. chooses-start (atom_cases r from) refl
      (as-other (paren-opens from)
      & opens-first (opens (ident-starts r.sheet)) (λ link. gives tt)
      & as-other (brace-opens from)
      & as-other (list-opens from)
      & as-other (fn-opens from)
      & as-other (closure-opens from)
      & as-other (do-opens from)
      & as-other (if-opens from)
      & as-other (match-opens from)
      & as-other (loop-opens from)
      & as-other (while-opens from)
      & as-other (for-opens from)
      & as-other (break-opens from)
      & as-other (continue-opens from)
      & as-other (return-opens from)
      & all) (starts_first (lit-starts r.sheet) (λ link. gives tt)))

  pub primary-starts : (lambda : Bool) → Starts r.sheet (primary r lambda)
  unfolding primary
  primary-starts lambda = primary-of-starts atom-starts lambda

  -- operators
  pub handler-starts : Starts r.sheet (handler r)
  unfolding handler
  handler-starts =
      starts-then (start-keeps r.sheet) (λ from. expects kind.With refl (binds (ident-keeps r.sheet) (λ name _. binds (params-keep r.sheet _ h.type_atom (row_of name) (ground-mine _)) (λ i _. binds (block-starts 0).stays (λ body _. handler-record-stays from i body)))))

  pub handler-turn-starts : (kids : Kids) → Starts r.sheet (handler_turn r kids)
  unfolding handler_turn
  handler-turn-starts kids = starts_first handler-starts (λ link. binds (add-stays kids link) (λ longer _. binds (check-keeps r.sheet kind.With) (λ again _. ifs again (gives tt) (gives tt))))

  pub tried-by-stays : (here : Span) (x : Expr) → Keeps ground Plain (tried_by r here x)
  unfolding tried_by
  tried-by-stays here (exprs.Name link) = fails (alone kind.Try here)
  tried-by-stays here (exprs.NameMember link) = fails (alone kind.Try here)
  tried-by-stays here (exprs.Call link called) = binds (rounds (λ kids. (handler-turn-starts kids).stays) r.sheet called.kids) (λ kids _. thens (handlers-flagged-stays link called kids.count) (gives tt))
  tried-by-stays here (exprs.Other link) = fails (alone kind.Try here)

  pub tried-opens : (lambda : Bool) → Opens r.sheet (tried r lambda)
  unfolding tried
  tried-opens lambda = opens_at (λ s. bumps (binds (primary-starts lambda).stays (λ x _. tried-by-stays _ x)))

  pub unary-op-opens : (from : ℕ) (lambda : Bool) → Opens r.sheet (unary_op r from lambda)
  unfolding unary_op
  unary-op-opens from lambda = opens_at (λ s. bumps (binds (primary-starts lambda).stays (λ x _. binds (close-stays node.Unary from _ 0 0 (link_of x)) (λ link _. gives tt))))

  pub unary-starts : (lambda : Bool) → Starts r.sheet (unary r lambda)
  unfolding unary
  unary-starts lambda =
      starts-then (start-keeps r.sheet) (λ from. chooses-start (unary_cases r from lambda) refl (unary-op-opens from lambda & unary-op-opens from lambda & tried-opens lambda & all) (primary-starts lambda))

  pub operated-stays : (from : ℕ) (lambda : Bool) (x : Expr) (k level : ℕ) → Keeps ground Plain (operated r from lambda x k level)
  unfolding operated
  operated-stays from lambda x k level = ifs (eqb k kind.Is) (type-check-stays r.sheet from x) (binds (h.prec (level + 1) lambda).stays (λ y _. binds (couple-stays node.Binary from k (link_of x) (link_of y)) (λ link _. gives tt)))

  pub infix-by-stays : (from min : ℕ) (lambda : Bool) (x : Expr) (k : ℕ) (o : Option BinOp) → Keeps ground Plain (infix_by r from min lambda x k o)
  unfolding infix_by
  infix-by-stays from min lambda x k (Some op) = ifs (ltb (precedence_of op) min) (gives tt) (thens (bump-keeps r.sheet) (operated-stays from lambda x k (precedence_of op)))
  infix-by-stays from min lambda x k None = gives tt

  pub infix-turn-stays : (from min : ℕ) (lambda : Bool) (x : Expr) → Keeps ground Plain (infix_turn r from min lambda x)
  unfolding infix_turn
  infix-turn-stays from min lambda x = record { ends = λ s w g. (infix-by-stays from min lambda x _ (binary_of _)).ends s w g }

  pub precedence-starts : (min : ℕ) (lambda : Bool) → Starts r.sheet (precedence r min lambda)
  unfolding precedence
  precedence-starts min lambda = starts-then (start-keeps r.sheet) (λ from. starts_first (unary-starts lambda) (λ x. rounds (infix-turn-stays from min lambda) r.sheet x))
