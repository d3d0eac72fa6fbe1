-- What the rules on blocks, functions, tables, calls and members add to the live list.
use mathlib.Core.Path.{refl}
use mathlib.Core.Bool.{Bool, true, false}
use Prim.Native.Nat.{ℕ}
use lib.Dec.{eqb}
use Rattle.kinds.specs.Number as kind
use Rattle.cursor.specs.declared.Kids.{Kids}
use Rattle.cursor.specs.Sheet.{Ranged}
use Rattle.cursor.specs.Node as node
use Rattle.cursor.specs.Rule.{Rule}
use Rattle.parts.specs.declared.values.Expr.{Expr}
use Rattle.parts.specs.Values.{link_of, row_of, row_with}
use Rattle.parts.specs.Steps.{Arguments, Properties, items_end}
use Rattle.rules.specs.Inner.{Inner}
use Rattle.rules.specs.Blocks.{block, expr_and_block}
use Rattle.rules.specs.Functions.{function, named_function}
use Rattle.rules.specs.Tables.{key, property, item, items_of, table, brace_block, table_or_block, brace}
use Rattle.rules.specs.Primary.{member_expr, bracket_member, dot_member, double_colon_member, access, call, postfix_turn}
use Rattle.live.proofs.Live.{Adds, Takes, Turns, adds, takes, fits, forget, passed, gives, ifs}
use Rattle.live.proofs.Together.{binds, onto, after, attempts}
use Rattle.live.proofs.Cursor.{asks, bump-bounded, eat-bounded, expect-bounded, eat-range-bounded, otherwise, ◌&◌, chooses, eat-eol-bounded, add-bounded}
use Rattle.live.proofs.Items.{as-item, start-bounded, close-bounded, pair-bounded, ident-bounded}
use Rattle.live.proofs.Types.{returns-bounded}
use Rattle.live.proofs.Parts.{list-record-bounded, block-record-bounded, fn-record-bounded, function-record-bounded, call-record-bounded, member-record-bounded, any-params-bounded, braced-bounded, no-member-bounded, lit-key-bounded, paren-key-bounded}
use Rattle.live.proofs.Recovery.{items-until-bounded}
use Rattle.live.proofs.Handed.{Handed, expr-bounded}

module _ {r : Inner} {N : ℕ} (x : Handed r N) where
  -- blocks and functions
  pub block-bounded : (wrap : ℕ) → Takes r.sheet N 1 36 36 112 (block r wrap)
  unfolding block
  block-bounded wrap = takes (after (expect-bounded kind.OpenBrace) (λ _. binds start-bounded (λ from. binds (x.exprs kind.CloseBrace) (λ row. block-record-bounded from wrap from row)))) refl refl refl refl

  pub and-block-bounded : (kids : Kids) → Takes r.sheet N 19 36 42 112 (expr_and_block r kids)
  unfolding expr_and_block
  and-block-bounded kids = takes (onto (expr-bounded x false) (λ link. after (block-bounded 0) (λ body. binds (add-bounded kids link) (λ one. add-bounded one body)))) refl refl refl refl

  pub function-bounded : (from : ℕ) (closure : Bool) → Takes r.sheet N 1 36 42 112 (function r from closure)
  unfolding function
  function-bounded from closure =
      takes (onto (any-params-bounded x.type_atom closure) (λ i. binds (returns-bounded x.type_atom) (λ link. after (block-bounded 0) (λ body. function-record-bounded from closure i link body)))) refl refl refl refl

  pub fn-stmt-bounded : (from : ℕ) (glo : Ranged) → Takes r.sheet N 1 36 42 112 (named_function r from glo)
  unfolding named_function
  fn-stmt-bounded from glo = takes (onto (expect-bounded kind.Fn) (λ _. onto ident-bounded (λ name. after (function-bounded from false) (λ link. fn-record-bounded from glo name link)))) refl refl refl refl

  -- tables
  key-bounded : Takes r.sheet N 1 19 42 112 (key r)
  unfolding key
  key-bounded = takes (binds start-bounded (λ from. asks (eat-bounded kind.OpenParen) (passed (onto (expr-bounded x true) (λ link. paren-key-bounded from link))) lit-key-bounded)) refl refl refl refl

  property-bounded : Takes r.sheet N 1 32 42 112 (property r)
  unfolding property
  property-bounded = takes (binds start-bounded (λ from. onto key-bounded (λ name. after (expr-bounded x true) (λ value. pair-bounded node.TableProperty from name value)))) refl refl refl refl

  item-bounded : (k : ℕ) → Takes r.sheet N 19 32 42 112 (item r k)
  unfolding item
  item-bounded k = takes (ifs (eqb k Properties) property-bounded (expr-bounded x true)) refl refl refl refl

  pub items-of-bounded : (k : ℕ) (kids : Kids) → Adds r.sheet N 21 34 42 112 (items_of r k kids)
  unfolding items_of
  items-of-bounded k kids = adds (items-until-bounded (as-item (item-bounded k) refl refl refl refl) (items_end k) kids) refl refl refl refl

  table-bounded : (from inside first : ℕ) → Takes r.sheet N 19 34 42 112 (table r from inside first)
  unfolding table
  table-bounded from inside first =
      takes (after (expr-bounded x true) (λ value. binds (pair-bounded node.TableProperty inside first value) (λ link. binds eat-eol-bounded (λ _. asks (eat-bounded kind.CloseBrace)
      (close-bounded node.Table from 0 0 1 link)
      (after (expect-bounded kind.Comma) (λ _. binds (items-of-bounded Properties (row_with link)) (λ i. list-record-bounded node.Table from i))))))) refl refl refl refl

  brace-block-bounded : (from inside : ℕ) → Adds r.sheet N 30 36 36 112 (brace_block r from inside)
  unfolding brace_block
  brace-block-bounded from inside = adds (binds (x.exprs kind.CloseBrace) (λ row. block-record-bounded inside node.ExprBlock from row)) refl refl refl refl

  table-or-block-bounded : (from : ℕ) → Adds r.sheet N 30 38 42 112 (table_or_block r from)
  unfolding table_or_block
  table-or-block-bounded from = adds (binds start-bounded (λ inside. attempts key-bounded (λ first. passed (table-bounded from inside first)) (brace-block-bounded from inside))) refl refl refl refl

  pub brace-bounded : (from : ℕ) → Takes r.sheet N 0 38 42 112 (brace r from)
  unfolding brace
  brace-bounded from = takes (after bump-bounded (λ _. binds eat-eol-bounded (λ _. asks (eat-bounded kind.CloseBrace) (close-bounded node.Table from 0 0 0 0) (table-or-block-bounded from)))) refl refl refl refl

  -- calls and members
  member-bounded : (from : ℕ) (safe : Ranged) (a : Expr) (named meta : ℕ) {property : Rule ℕ} {closing : Rule Unit} → Takes r.sheet N 19 32 42 112 property → Adds r.sheet N 1 0 0 0 closing → Turns r.sheet N 0 33 33 42 112 (member_expr r from safe a named meta property closing)
  member-bounded from safe a named meta p c =
      fits (after bump-bounded (λ _. asks (eat-bounded kind.Pound)
      (binds c (λ _. member-record-bounded from safe meta a 0))
      (after p (λ link. binds c (λ _. member-record-bounded from safe named a link))))) refl refl refl refl refl

  bracket-bounded : (from : ℕ) (safe : Ranged) (a : Expr) → Turns r.sheet N 0 33 33 42 112 (bracket_member r from safe a)
  unfolding bracket_member
  bracket-bounded from safe a = member-bounded from safe a _ _ (expr-bounded x true) (passed (expect-bounded kind.CloseBracket))

  dot-bounded : (from : ℕ) (safe : Ranged) (a : Expr) → Turns r.sheet N 0 33 33 42 112 (dot_member r from safe a)
  unfolding dot_member
  dot-bounded from safe a = member-bounded from safe a _ _ (takes ident-bounded refl refl refl refl) (adds gives refl refl refl refl)

  double-colon-bounded : (from : ℕ) (safe : Ranged) (a : Expr) → Turns r.sheet N 0 33 33 42 112 (double_colon_member r from safe a)
  unfolding double_colon_member
  double-colon-bounded from safe a = member-bounded from safe a _ _ (takes ident-bounded refl refl refl refl) (adds gives refl refl refl refl)

  access-bounded : (from : ℕ) (a : Expr) → Turns r.sheet N 4 33 33 42 112 (access r from a)
  unfolding access
  access-bounded from a =
      fits (binds (forget (eat-range-bounded kind.Question)) (λ safe. chooses (bracket-bounded from safe a & dot-bounded from safe a & double-colon-bounded from safe a & otherwise (no-member-bounded safe a)))) refl refl refl refl refl

  call-bounded : (from : ℕ) (lambda : Bool) (a : Expr) → Adds r.sheet N 23 36 42 112 (call r from lambda a)
  unfolding call
  call-bounded from lambda a =
      adds (binds (items-of-bounded Arguments (row_of (link_of a))) (λ i. binds (braced-bounded lambda) (λ trailing. ifs trailing
      (after (block-bounded node.Closure) (λ closure. call-record-bounded from i.kids closure))
      (call-record-bounded from i.kids 0)))) refl refl refl refl

  pub postfix-turn-bounded : (from : ℕ) (lambda : Bool) (a : Expr) → Turns r.sheet N 6 36 36 42 112 (postfix_turn r from lambda a)
  unfolding postfix_turn
  postfix-turn-bounded from lambda a =
      fits (asks (eat-bounded kind.OpenParen) (call-bounded from lambda a) (binds (braced-bounded lambda) (λ trailing. ifs trailing
      (after (block-bounded node.Closure) (λ closure. call-record-bounded from (row_of (link_of a)) closure))
      (access-bounded from a)))) refl refl refl refl refl
