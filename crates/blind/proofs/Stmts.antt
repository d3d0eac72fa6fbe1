-- The rules on statements are blind to what the lent buffers held, where the rules handed over are.
use Rattle.std.specs.Prelude.{Some, None, Option}
use mathlib.Core.Bool.{true, false}
use Prim.Native.Nat.{ℕ}
use lib.Dec.{ltb, eqb}
use Rattle.kinds.specs.Number as kind
use Rattle.cursor.specs.declared.Kids.{Kids}
use Rattle.cursor.specs.Sheet.{Ranged, range_at}
use Rattle.cursor.specs.Node as node
use Rattle.cursor.specs.Rule.{Rule, ◌>>=◌, give, Next, more}
use Rattle.cursor.specs.Records.{add, no_kids}
use Rattle.cursor.proofs.Chosen.{all, ◌&◌}
use Rattle.types.specs.Types.{named}
use Rattle.parts.specs.declared.values.Called.{Called}
use Rattle.parts.specs.declared.values.Expr.{Expr}
use Rattle.parts.specs.declared.values.Expr.TheVariants as exprs
use Rattle.parts.specs.Values.{to_assign_left, row_with, uncounted}
use Rattle.parts.specs.When.{fail_with}
use Rattle.parts.specs.Steps.{alone, operator_of}
use Rattle.rules.specs.Inner.{Inner}
use Rattle.rules.specs.Statements.{right, set_to, set, typed_assign, left_of, left_turn, lefts, right_turn, rights, multi_to, multi, sign_cases, assign, glo_assign, glo_cases, glo, stmt_cases, plain, function_stmt, stmt}
use Rattle.rules.specs.Exprs.{stmt_or, exprs_turn, exprs as exprs-rule}
use Rattle.blind.proofs.Blind.{Blind, gives, ifs, binds, thens, attempts, loops}
use Rattle.blind.proofs.Cursor.{bump-blind, check-blind, eat-blind, unexpected-blind, expect-blind, eat-range-blind, chooses, eat-eol-blind, add-blind, recovers}
use Rattle.blind.proofs.Items.{start-blind, close-blind, pair-blind}
use Rattle.blind.proofs.Types.{typed-ident-blind, type-blind, named-blind}
use Rattle.blind.proofs.Parts.{fail-with-blind, couple-blind, row-record-blind}
use Rattle.blind.proofs.Recovery.{import-stmt-blind, effect-stmt-blind, skipped-blind, after-stmt-blind}
use Rattle.blind.proofs.Handed.{Handed, expr-blind}
use Rattle.blind.proofs.Exprs.{fn-stmt-blind}

-- first an expression, then what each sort of it calls for
after-expr : {B : Type 0} {q : Rule Expr} (k : Expr → Rule B) → Blind q → ((link : ℕ) → Blind (k (exprs.Name link))) → ((link : ℕ) → Blind (k (exprs.NameMember link))) → ((link : ℕ) (called : Called) → Blind (k (exprs.Call link called))) → ((link : ℕ) → Blind (k (exprs.Other link))) → Blind (q >>= k)
after-expr k x name member call other = binds x by
  where
    by : (a : Expr) → Blind (k a)
    by (exprs.Name link) = name link
    by (exprs.NameMember link) = member link
    by (exprs.Call link called) = call link called
    by (exprs.Other link) = other link

module _ {r : Inner} (x : Handed r) where
  right-blind : (from k op link : ℕ) → Blind (right r from k op link)
  unfolding right
  right-blind from k op link = binds (expr-blind x true) (λ value. couple-blind k from op link value)

  set-to-blind : (from sign : ℕ) (l : Option ℕ) → Blind (set_to r from sign l)
  unfolding set_to
  set-to-blind from sign (Some link) = thens (bump-blind r.sheet) (ifs (eqb sign kind.Assign) (right-blind from node.Assign 0 link) (right-blind from node.AssignOp (operator_of sign) link))
  set-to-blind from sign None = unexpected-blind r.sheet

  set-blind : (from sign : ℕ) (a : Expr) → Blind (set r from sign a)
  unfolding set
  set-blind from sign a = set-to-blind from sign (to_assign_left a)

  typed-blind : (from : ℕ) (a : Expr) → Blind (typed_assign r from a)
  unfolding typed_assign
  typed-blind from (exprs.Name name) =
      thens (bump-blind r.sheet) (binds (type-blind r.sheet r.type_atom x.type_atom) (λ t. binds (pair-blind node.TypedIdent from name t) (λ link. thens (expect-blind r.sheet kind.Assign) (right-blind from node.Assign 0 link))))
  typed-blind from (exprs.NameMember link) = unexpected-blind r.sheet
  typed-blind from (exprs.Call link called) = unexpected-blind r.sheet
  typed-blind from (exprs.Other link) = unexpected-blind r.sheet

  left-of-blind : (comma : Ranged) (kids : Kids) → Blind (left_of r comma kids)
  unfolding left_of
  left-of-blind None kids = gives
  left-of-blind (Some comma) kids = after-expr _ (x.prec 1 true) joins joins (λ link called. refused) (λ link. refused)
    where
      refused : Blind {A = Next Kids} (fail_with (alone kind.Comma comma))
      refused = fail-with-blind _

      joins : (link : ℕ) → Blind (add kids link >>= (λ longer. give (more longer)))
      joins link = binds (add-blind kids link) (λ longer. gives)

  left-turn-blind : (kids : Kids) → Blind (left_turn r kids)
  unfolding left_turn
  left-turn-blind kids = binds (eat-range-blind r.sheet kind.Comma) (λ comma. left-of-blind comma kids)

  lefts-blind : (first : Kids) → Blind (lefts r first)
  unfolding lefts
  lefts-blind first = loops left-turn-blind r.sheet first

  right-turn-blind : (n : ℕ) (kids : Kids) → Blind (right_turn r n kids)
  unfolding right_turn
  right-turn-blind n kids = ifs (ltb kids.count n) (thens (expect-blind r.sheet kind.Comma) (binds (expr-blind x true) (λ link. binds (add-blind kids link) (λ longer. gives)))) gives

  rights-blind : (from : ℕ) (left : Kids) (value : ℕ) → Blind (rights r from left value)
  unfolding rights
  rights-blind from left value = binds (add-blind (uncounted left) value) (λ begun. binds (loops (right-turn-blind left.count) r.sheet begun) (λ kids. close-blind node.AssignMulti from 0 0 _ kids.first))

  multi-to-blind : (from : ℕ) (l : Option ℕ) → Blind (multi_to r from l)
  unfolding multi_to
  multi-to-blind from (Some one) =
      binds (lefts-blind (row_with one)) (λ kids. thens (expect-blind r.sheet kind.Assign) (binds (expr-blind x true) (λ value. binds (check-blind r.sheet kind.Comma) (λ several. ifs several
      (rights-blind from kids value)
      (row-record-blind node.AssignUnpack from kids value)))))
  multi-to-blind from None = unexpected-blind r.sheet

  multi-blind : (from : ℕ) (a : Expr) → Blind (multi r from a)
  unfolding multi
  multi-blind from a = multi-to-blind from (to_assign_left a)

  assign-blind : (from : ℕ) → Blind (assign r from)
  unfolding assign
  assign-blind from =
      binds (x.prec 1 true) (λ a. chooses r.sheet (sign_cases r from a)
      (multi-blind from a & typed-blind from a & set-blind from _ a & set-blind from _ a & set-blind from _ a & set-blind from _ a & set-blind from _ a & set-blind from _ a & all)
      gives)

  glo-assign-blind : (from : ℕ) → Blind (glo_assign r from)
  unfolding glo_assign
  glo-assign-blind from =
      binds (typed-ident-blind r.sheet (named r.sheet r.type_atom false) (named-blind r.sheet r.type_atom x.type_atom false)) (λ left. thens (expect-blind r.sheet kind.Assign) (right-blind from node.GloAssign 0 left))

  -- where `glo` stands hangs on the place alone
  glo-blind : (from : ℕ) → Blind (glo r from)
  unfolding glo
  glo-blind from = record {
    ends = λ m s w v h t. (thens (bump-blind r.sheet) (chooses r.sheet (glo_cases r from (range_at r.sheet.tokens s.at))
        (fn-stmt-blind x from _ & effect-stmt-blind r.sheet r.type_atom x.type_atom from _ & all)
        (glo-assign-blind from))).ends m s w v h t;
  }

  plain-blind : Blind (plain r)
  unfolding plain
  plain-blind =
      binds (start-blind r.sheet) (λ from. chooses r.sheet (stmt_cases r from)
      (import-stmt-blind r.sheet from & effect-stmt-blind r.sheet r.type_atom x.type_atom from None & glo-blind from & all)
      (assign-blind from))

  function-stmt-blind : Blind (function_stmt r)
  unfolding function_stmt
  function-stmt-blind = binds (start-blind r.sheet) (λ from. fn-stmt-blind x from None)

  stmt-blind : Blind (stmt r)
  unfolding stmt
  stmt-blind = binds (check-blind r.sheet kind.Fn) (λ here. ifs here (attempts function-stmt-blind (λ link. gives) plain-blind) plain-blind)

  -- statements in a row
  stmt-or-blind : (end : ℕ) → Blind (stmt_or r end)
  unfolding stmt_or
  stmt-or-blind end = recovers stmt-blind (λ link. gives) (skipped-blind r.sheet end)

  body-turn-blind : (end : ℕ) (kids : Kids) → Blind (exprs_turn r end kids)
  unfolding exprs_turn
  body-turn-blind end kids = binds (eat-blind r.sheet end) (λ closed. ifs closed gives (binds (stmt-or-blind end) (λ link. after-stmt-blind r.sheet end kids link)))

  pub body-blind : (end : ℕ) → Blind (exprs-rule r end)
  unfolding exprs-rule
  body-blind end = thens (eat-eol-blind r.sheet) (loops (body-turn-blind end) r.sheet no_kids)
