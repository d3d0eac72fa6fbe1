-- The rules on blocks, functions, tables, calls and members are blind to what the lent buffers held, where those handed over are.
use mathlib.Core.Bool.{Bool, true, false}
use Prim.Native.Nat.{ℕ}
use lib.Dec.{eqb}
use Rattle.kinds.specs.Number as kind
use Rattle.cursor.specs.declared.Kids.{Kids}
use Rattle.cursor.specs.Sheet.{Ranged}
use Rattle.cursor.specs.Node as node
use Rattle.cursor.specs.Rule.{Rule}
use Rattle.cursor.proofs.Chosen.{all, ◌&◌}
use Rattle.parts.specs.declared.values.Expr.{Expr}
use Rattle.parts.specs.Values.{link_of, row_of, row_with}
use Rattle.parts.specs.Steps.{Arguments, Properties, items_end}
use Rattle.rules.specs.Inner.{Inner}
use Rattle.rules.specs.Blocks.{block, expr_and_block}
use Rattle.rules.specs.Functions.{function, named_function}
use Rattle.rules.specs.Tables.{key, property, item, items_of, table, brace_block, table_or_block, brace}
use Rattle.rules.specs.Primary.{member_expr, bracket_member, dot_member, double_colon_member, member_cases, access, call, postfix_turn, primary_of}
use Rattle.blind.proofs.Blind.{Blind, gives, ifs, binds, thens, attempts, loops}
use Rattle.blind.proofs.Cursor.{bump-blind, eat-blind, expect-blind, eat-range-blind, chooses, eat-eol-blind, add-blind}
use Rattle.blind.proofs.Items.{start-blind, close-blind, pair-blind, ident-blind}
use Rattle.blind.proofs.Types.{returns-blind}
use Rattle.blind.proofs.Parts.{list-record-blind, block-record-blind, fn-record-blind, function-record-blind, call-record-blind, member-record-blind, any-params-blind, braced-blind, no-member-blind, lit-key-blind, paren-key-blind}
use Rattle.blind.proofs.Recovery.{items-until-blind}
use Rattle.blind.proofs.Handed.{Handed, expr-blind}

module _ {r : Inner} (x : Handed r) where
  -- blocks and functions
  pub block-blind : (wrap : ℕ) → Blind (block r wrap)
  unfolding block
  block-blind wrap = thens (expect-blind r.sheet kind.OpenBrace) (binds (start-blind r.sheet) (λ from. binds (x.exprs kind.CloseBrace) (λ row. block-record-blind from wrap from row)))

  pub and-block-blind : (kids : Kids) → Blind (expr_and_block r kids)
  unfolding expr_and_block
  and-block-blind kids = binds (expr-blind x false) (λ link. binds (block-blind 0) (λ body. binds (add-blind kids link) (λ one. add-blind one body)))

  pub function-blind : (from : ℕ) (closure : Bool) → Blind (function r from closure)
  unfolding function
  function-blind from closure =
      binds (any-params-blind r.sheet r.type_atom x.type_atom closure) (λ i. binds (returns-blind r.sheet r.type_atom x.type_atom) (λ link. binds (block-blind 0) (λ body. function-record-blind from closure i link body)))

  pub fn-stmt-blind : (from : ℕ) (glo : Ranged) → Blind (named_function r from glo)
  unfolding named_function
  fn-stmt-blind from glo = thens (expect-blind r.sheet kind.Fn) (binds (ident-blind r.sheet) (λ name. binds (function-blind from false) (λ link. fn-record-blind from glo name link)))

  -- tables
  key-blind : Blind (key r)
  unfolding key
  key-blind = binds (start-blind r.sheet) (λ from. binds (eat-blind r.sheet kind.OpenParen) (λ opened. ifs opened (binds (expr-blind x true) (λ link. paren-key-blind r.sheet from link)) (lit-key-blind r.sheet)))

  property-blind : Blind (property r)
  unfolding property
  property-blind = binds (start-blind r.sheet) (λ from. binds key-blind (λ name. binds (expr-blind x true) (λ value. pair-blind node.TableProperty from name value)))

  item-blind : (k : ℕ) → Blind (item r k)
  unfolding item
  item-blind k = ifs (eqb k Properties) property-blind (expr-blind x true)

  pub items-of-blind : (k : ℕ) (kids : Kids) → Blind (items_of r k kids)
  unfolding items_of
  items-of-blind k kids = items-until-blind r.sheet (item r k) (item-blind k) (items_end k) kids

  table-blind : (from inside first : ℕ) → Blind (table r from inside first)
  unfolding table
  table-blind from inside first =
      binds (expr-blind x true) (λ value. binds (pair-blind node.TableProperty inside first value) (λ link. thens (eat-eol-blind r.sheet) (binds (eat-blind r.sheet kind.CloseBrace) (λ closed. ifs closed
      (close-blind node.Table from 0 0 1 link)
      (thens (expect-blind r.sheet kind.Comma) (binds (items-of-blind Properties (row_with link)) (λ i. list-record-blind node.Table from i)))))))

  brace-block-blind : (from inside : ℕ) → Blind (brace_block r from inside)
  unfolding brace_block
  brace-block-blind from inside = binds (x.exprs kind.CloseBrace) (λ row. block-record-blind inside node.ExprBlock from row)

  table-or-block-blind : (from : ℕ) → Blind (table_or_block r from)
  unfolding table_or_block
  table-or-block-blind from = binds (start-blind r.sheet) (λ inside. attempts key-blind (λ first. table-blind from inside first) (brace-block-blind from inside))

  pub brace-blind : (from : ℕ) → Blind (brace r from)
  unfolding brace
  brace-blind from =
      thens (bump-blind r.sheet) (thens (eat-eol-blind r.sheet) (binds (eat-blind r.sheet kind.CloseBrace) (λ closed. ifs closed (close-blind node.Table from 0 0 0 0) (table-or-block-blind from))))

  -- calls and members
  member-blind : (from : ℕ) (safe : Ranged) (a : Expr) (named meta : ℕ) {property : Rule ℕ} {closing : Rule Unit} → Blind property → Blind closing → Blind (member_expr r from safe a named meta property closing)
  member-blind from safe a named meta p c =
      thens (bump-blind r.sheet) (binds (eat-blind r.sheet kind.Pound) (λ pound. ifs pound
      (thens c (member-record-blind from safe meta a 0))
      (binds p (λ link. thens c (member-record-blind from safe named a link)))))

  bracket-blind : (from : ℕ) (safe : Ranged) (a : Expr) → Blind (bracket_member r from safe a)
  unfolding bracket_member
  bracket-blind from safe a = member-blind from safe a _ _ (expr-blind x true) (expect-blind r.sheet kind.CloseBracket)

  dot-blind : (from : ℕ) (safe : Ranged) (a : Expr) → Blind (dot_member r from safe a)
  unfolding dot_member
  dot-blind from safe a = member-blind from safe a _ _ (ident-blind r.sheet) gives

  double-colon-blind : (from : ℕ) (safe : Ranged) (a : Expr) → Blind (double_colon_member r from safe a)
  unfolding double_colon_member
  double-colon-blind from safe a = member-blind from safe a _ _ (ident-blind r.sheet) gives

  access-blind : (from : ℕ) (a : Expr) → Blind (access r from a)
  unfolding access
  access-blind from a =
      binds (eat-range-blind r.sheet kind.Question) (λ safe. chooses r.sheet (member_cases r from safe a) (bracket-blind from safe a & dot-blind from safe a & double-colon-blind from safe a & all) (no-member-blind r.sheet safe a))

  call-blind : (from : ℕ) (lambda : Bool) (a : Expr) → Blind (call r from lambda a)
  unfolding call
  call-blind from lambda a =
      binds (items-of-blind Arguments (row_of (link_of a))) (λ i. binds (braced-blind r.sheet lambda) (λ trailing. ifs trailing
      (binds (block-blind node.Closure) (λ closure. call-record-blind from i.kids closure))
      (call-record-blind from i.kids 0)))

  postfix-turn-blind : (from : ℕ) (lambda : Bool) (a : Expr) → Blind (postfix_turn r from lambda a)
  unfolding postfix_turn
  postfix-turn-blind from lambda a =
      binds (eat-blind r.sheet kind.OpenParen) (λ opened. ifs opened (call-blind from lambda a) (binds (braced-blind r.sheet lambda) (λ trailing. ifs trailing
      (binds (block-blind node.Closure) (λ closure. call-record-blind from (row_of (link_of a)) closure))
      (access-blind from a))))

  pub primary-of-blind : (atom : Rule Expr) → Blind atom → (lambda : Bool) → Blind (primary_of r atom lambda)
  unfolding primary_of
  primary-of-blind atom y lambda = binds (start-blind r.sheet) (λ from. binds y (λ a. loops (postfix-turn-blind from lambda) r.sheet a))
