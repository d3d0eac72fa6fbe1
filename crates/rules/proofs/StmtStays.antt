-- That statements and what recovers from them never move back, where the rules handed over do not (Stays); and so for every number of levels.
use Rattle.std.specs.Prelude.{Some, None, Option}
use mathlib.Core.Path.{refl}
use mathlib.Core.Bool.{true, false}
use Prim.Native.Nat.{ℕ, zero, suc}
use lib.Dec.{ltb, eqb}
use Rattle.kinds.specs.Number as kind
use Rattle.cursor.specs.declared.Kids.{Kids}
use Rattle.cursor.specs.Sheet.{Ranged, Sheet}
use Rattle.cursor.specs.Node as node
use Rattle.cursor.specs.Rule.{Rule, ◌>>=◌, give, Next, more}
use Rattle.cursor.specs.Records.{add, no_kids}
use Rattle.cursor.specs.Checks.{unexpected_at}
use Rattle.cursor.specs.Attempts.{try_parse}
use Rattle.cursor.proofs.Ends.{cut}
use Rattle.cursor.proofs.Spends.{attempt-spends, first-spends}
use Rattle.cursor.proofs.Chosen.{all, ◌&◌}
use Rattle.cursor.proofs.Keeps.{Keeps, Plain, ground, gives, refuses, ifs, plain, binds, thens, attempts}
use Rattle.cursor.proofs.Kept.{bump-keeps, check-keeps, eat-keeps, expect-keeps, unexpected-keeps, eat-range-keeps, chooses, eat-eol-keeps, log-keeps, recovers}
use Rattle.types.proofs.ItemKeeps.{start-keeps, ident-keeps}
use Rattle.types.proofs.TypeKeeps.{type-keeps, typed-keeps, atoms-keep}
use Rattle.types.proofs.PatternKeeps.{patterns-keep}
use Rattle.parts.specs.declared.values.Called.{Called}
use Rattle.parts.specs.declared.values.Expr.{Expr}
use Rattle.parts.specs.declared.values.Expr.TheVariants as exprs
use Rattle.parts.specs.declared.imports.Imported.{Imported}
use Rattle.parts.specs.Answers.{on_path}
use Rattle.parts.specs.Values.{to_assign_left, row_with, uncounted}
use Rattle.rules.specs.Inner.{Inner}
use Rattle.parts.specs.When.{fail_with}
use Rattle.parts.specs.Steps.{alone, operator_of}
use Rattle.parts.specs.Imports.{end_cases, tail_cases, import_item, import_items, import_simple, import_alias, import_nested, import_glob, import_end, import_tail, path_turn, import_stmt}
use Rattle.rules.specs.Statements.{stmt_cases, glo_cases, sign_cases, right, set_to, set, typed_assign, left_of, left_turn, lefts, right_turn, rights, multi_to, multi, assign, glo_assign, glo, plain as plain_stmt, function_stmt, stmt}
use Rattle.parts.specs.Recovery.{skip_cases, skip_turn, skip, skipped, log_here, line_end, after_stmt}
use Rattle.rules.specs.Exprs.{stmt_or, exprs_turn, exprs as exprs-rule}
use Rattle.rules.specs.Levels.{knot, levels}
use Rattle.rules.proofs.Stays.{Stays, Starts, Opens, opens, bumps, either-starts, opens_at, starts_first, starts-then, chooses-start, rounds, fails, add-stays, add-some-stays, close-stays, pair-stays, expr-stays}
use Rattle.rules.proofs.RecordStays.{ident-starts, couple-stays, row-record-stays}
use Rattle.rules.proofs.ExprStays.{items-until-stays, effect-stmt-starts, fn-stmt-starts, precedence-starts}

-- imports
module _ (e : Sheet) where
  pub import-item-stays : Keeps ground Plain (import_item e)
  unfolding import_item
  import-item-stays =
      binds (start-keeps e) (λ from _. binds (ident-keeps e) (λ name _. binds (eat-keeps e kind.As) (λ other _. ifs other
      (binds (ident-keeps e) (λ alias _. binds (add-stays no_kids name) (λ one _. binds (add-stays one alias) (λ two _. close-stays node.ImportItem from 0 0 _ two.first))))
      (close-stays node.ImportItem from 0 0 0 name))))

  pub import-items-stays : (kids : Kids) → Keeps ground Plain (import_items e kids)
  unfolding import_items
  import-items-stays kids = items-until-stays e import-item-stays kind.CloseBrace kids

  pub import-end-stays : (kids : Kids) → Keeps ground Plain (import_end e kids)
  unfolding import_end import_simple import_alias
  import-end-stays kids = chooses e (end_cases e kids) (gives tt & thens (bump-keeps e) (binds (ident-keeps e) (λ alias _. binds (add-stays kids alias) (λ longer _. gives tt))) & all) (unexpected-keeps e)

  pub import-tail-stays : (kids : Kids) → Keeps ground Plain (import_tail e kids)
  unfolding import_tail import_nested import_glob
  import-tail-stays kids = chooses e (tail_cases e kids) (thens (bump-keeps e) (binds (import-items-stays (uncounted kids)) (λ i _. gives tt)) & thens (bump-keeps e) (gives tt) & all) (unexpected-keeps e)

  pub path-turn-starts : (i : Imported) → Starts e (path_turn e i)
  unfolding path_turn
  path-turn-starts i =
      starts_first (ident-starts e) (λ name. binds (add-stays i.kids name) (λ longer _. binds (eat-keeps e kind.DoubleColon) (λ deeper _. ifs deeper
      (binds (check-keeps e kind.Ident) (λ another _. ifs another (gives tt) (import-tail-stays longer)))
      (import-end-stays longer))))

  pub import-stmt-opens : (from : ℕ) → Opens e (import_stmt e from)
  unfolding import_stmt
  import-stmt-opens from = bumps (binds (rounds (λ i. (path-turn-starts i).stays) e (on_path no_kids)) (λ i _. close-stays node.Import from 0 0 _ i.kids.first))

-- first an expression, then what each sort of it calls for
after-expr : {B : Type 0} {q : Rule Expr} (k : Expr → Rule B) → Keeps ground Plain q → ((link : ℕ) → Keeps ground Plain (k (exprs.Name link))) → ((link : ℕ) → Keeps ground Plain (k (exprs.NameMember link))) → ((link : ℕ) (called : Called) → Keeps ground Plain (k (exprs.Call link called))) → ((link : ℕ) → Keeps ground Plain (k (exprs.Other link))) → Keeps ground Plain (q >>= k)
after-expr k keeps name member call other = binds keeps (λ x _. by x)
  where
    by : (x : Expr) → Keeps ground Plain (k x)
    by (exprs.Name link) = name link
    by (exprs.NameMember link) = member link
    by (exprs.Call link called) = call link called
    by (exprs.Other link) = other link

-- statements
module _ {r : Inner} (h : Stays r) where
  pub right-stays : (from k op link : ℕ) → Keeps ground Plain (right r from k op link)
  unfolding right
  right-stays from k op link = binds (expr-stays h true) (λ value _. couple-stays k from op link value)

  pub set-to-stays : (from sign : ℕ) (l : Option ℕ) → Keeps ground Plain (set_to r from sign l)
  unfolding set_to
  set-to-stays from sign (Some link) = thens (bump-keeps r.sheet) (ifs (eqb sign kind.Assign) (right-stays from node.Assign 0 link) (right-stays from node.AssignOp (operator_of sign) link))
  set-to-stays from sign None = unexpected-keeps r.sheet

  pub set-stays : (from sign : ℕ) (x : Expr) → Keeps ground Plain (set r from sign x)
  unfolding set
  set-stays from sign x = set-to-stays from sign (to_assign_left x)

  pub typed_stays : (from : ℕ) (x : Expr) → Keeps ground Plain (typed_assign r from x)
  unfolding typed_assign
  typed_stays from (exprs.Name name) =
      thens (bump-keeps r.sheet) (binds (type-keeps r.sheet _ h.type_atom) (λ t _. binds (pair-stays node.TypedIdent from name t) (λ link _. thens (expect-keeps r.sheet kind.Assign) (right-stays from node.Assign 0 link))))
  typed_stays from (exprs.NameMember link) = unexpected-keeps r.sheet
  typed_stays from (exprs.Call link called) = unexpected-keeps r.sheet
  typed_stays from (exprs.Other link) = unexpected-keeps r.sheet

  pub left-of-stays : (comma : Ranged) (kids : Kids) → Keeps ground Plain (left_of r comma kids)
  unfolding left_of
  left-of-stays None kids = gives tt
  left-of-stays (Some comma) kids = after-expr _ (h.prec 1 true).stays joins joins (λ link called. refused) (λ link. refused)
    where
      refused : Keeps {A = Next Kids} ground Plain (fail_with (alone kind.Comma comma))
      refused = fails _

      joins : (link : ℕ) → Keeps ground Plain (add kids link >>= (λ longer. give (more longer)))
      joins link = binds (add-stays kids link) (λ longer _. gives tt)

  pub left-turn-stays : (kids : Kids) → Keeps ground Plain (left_turn r kids)
  unfolding left_turn
  left-turn-stays kids = binds (eat-range-keeps r.sheet kind.Comma) (λ comma _. left-of-stays comma kids)

  pub lefts-stays : (first : Kids) → Keeps ground Plain (lefts r first)
  unfolding lefts
  lefts-stays first = rounds left-turn-stays r.sheet first

  pub right-turn-stays : (n : ℕ) (kids : Kids) → Keeps ground Plain (right_turn r n kids)
  unfolding right_turn
  right-turn-stays n kids = ifs (ltb kids.count n) (thens (expect-keeps r.sheet kind.Comma) (binds (expr-stays h true) (λ link _. binds (add-stays kids link) (λ longer _. gives tt)))) (gives tt)

  pub rights-stays : (from : ℕ) (left : Kids) (value : ℕ) → Keeps ground Plain (rights r from left value)
  unfolding rights
  rights-stays from left value = binds (add-stays (uncounted left) value) (λ begun _. binds (rounds (right-turn-stays left.count) r.sheet begun) (λ kids _. close-stays node.AssignMulti from 0 0 _ kids.first))

  pub multi-to-stays : (from : ℕ) (l : Option ℕ) → Keeps ground Plain (multi_to r from l)
  unfolding multi_to
  multi-to-stays from (Some one) =
      binds (lefts-stays (row_with one)) (λ kids _. thens (expect-keeps r.sheet kind.Assign) (binds (expr-stays h true) (λ value _. binds (check-keeps r.sheet kind.Comma) (λ several _. ifs several
      (rights-stays from kids value)
      (row-record-stays node.AssignUnpack from kids value)))))
  multi-to-stays from None = unexpected-keeps r.sheet

  pub multi-stays : (from : ℕ) (x : Expr) → Keeps ground Plain (multi r from x)
  unfolding multi
  multi-stays from x = multi-to-stays from (to_assign_left x)

  pub assign-starts : (from : ℕ) → Starts r.sheet (assign r from)
  unfolding assign
  assign-starts from =
      starts_first (h.prec 1 true) (λ x. chooses r.sheet (sign_cases r from x)
      (multi-stays from x & typed_stays from x & set-stays from _ x & set-stays from _ x & set-stays from _ x & set-stays from _ x & set-stays from _ x & set-stays from _ x & all)
      (gives tt))

  glo-assign-stays : (from : ℕ) → Keeps ground Plain (glo_assign r from)
  unfolding glo_assign
  glo-assign-stays from = binds (typed-keeps r.sheet _ h.type_atom false) (λ name _. thens (expect-keeps r.sheet kind.Assign) (right-stays from node.GloAssign 0 name))

  pub glo-opens : (from : ℕ) → Opens r.sheet (glo r from)
  unfolding glo
  glo-opens from = opens_at (λ s. bumps (chooses r.sheet (glo_cases r from _) ((fn-stmt-starts h from _).stays & (effect-stmt-starts r.sheet h.type_atom from _).stays & all) (glo-assign-stays from)))

  pub plain-starts : Starts r.sheet (plain_stmt r)
  unfolding plain_stmt
  plain-starts = starts-then (start-keeps r.sheet) (λ from. chooses-start (stmt_cases r from) refl (import-stmt-opens r.sheet from & opens (effect-stmt-starts r.sheet h.type_atom from None) & glo-opens from & all) (assign-starts from))

  pub function-stmt-starts : Starts r.sheet (function_stmt r)
  unfolding function_stmt
  function-stmt-starts = starts-then (start-keeps r.sheet) (λ from. fn-stmt-starts h from None)

  -- a statement takes a token, wherever it begins
  pub stmt-starts : Starts r.sheet (stmt r)
  unfolding stmt
  stmt-starts = starts-then (check-keeps r.sheet kind.Fn) (λ here. either-starts here tries plain-starts)
    where
      tries : Starts r.sheet (try_parse (function_stmt r) give (plain_stmt r))
      tries = record {
        stays = attempts function-stmt-starts.stays (λ link _. gives tt) plain-starts.stays;
        spends = attempt-spends give function-stmt-starts.stays (first-spends function-stmt-starts.spends (λ link. gives tt)) plain-starts.spends;
      }

-- recovery
module _ (e : Sheet) where
  pub skip-turn-stays : (end : ℕ) (a : Unit) → Keeps ground Plain (skip_turn e end a)
  unfolding skip_turn
  skip-turn-stays end a = chooses e (skip_cases e end) (gives tt & gives tt & gives tt & all) (thens (bump-keeps e) (gives tt))

  pub skip-stays : (end : ℕ) → Keeps ground Plain (skip e end)
  unfolding skip
  skip-stays end = rounds (skip-turn-stays end) e tt

  pub skipped-stays : (end : ℕ) → Keeps ground Plain (skipped e end)
  unfolding skipped
  skipped-stays end = thens (skip-stays end) (gives tt)

  pub log-here-stays : Keeps ground Plain (log_here e)
  unfolding log_here
  log-here-stays = record { ends = λ s w g. (log-keeps (unexpected_at e s)).ends s w g }

  pub line-end-stays : Keeps ground Plain (line_end e)
  unfolding line_end
  line-end-stays = recovers (expect-keeps e kind.Eol) (λ _ _. gives tt) (gives tt)

  pub after-stmt-stays : (end : ℕ) (kids : Kids) (link : ℕ) → Keeps ground Plain (after_stmt e end kids link)
  unfolding after_stmt
  after-stmt-stays end kids link =
      binds (eat-keeps e end) (λ closed _. ifs closed (binds (add-some-stays kids link) (λ all _. gives tt)) (binds (check-keeps e kind.Eof) (λ over _. ifs over
      (thens log-here-stays (binds (add-some-stays kids link) (λ all _. gives tt)))
      (thens line-end-stays (thens (eat-eol-keeps e) (binds (add-some-stays kids link) (λ longer _. gives tt)))))))

module _ {r : Inner} (h : Stays r) where
  pub stmt-or-stays : (end : ℕ) → Keeps ground Plain (stmt_or r end)
  unfolding stmt_or
  stmt-or-stays end = recovers (stmt-starts h).stays (λ link _. gives tt) (skipped-stays r.sheet end)

  pub body-turn-stays : (end : ℕ) (kids : Kids) → Keeps ground Plain (exprs_turn r end kids)
  unfolding exprs_turn
  body-turn-stays end kids = binds (eat-keeps r.sheet end) (λ closed _. ifs closed (gives tt) (binds (stmt-or-stays end) (λ link _. after-stmt-stays r.sheet end kids link)))

  pub body-stays : (end : ℕ) → Keeps ground Plain (exprs-rule r end)
  unfolding exprs-rule
  body-stays end = thens (eat-eol-keeps r.sheet) (rounds (body-turn-stays end) r.sheet no_kids)

-- with any number of levels left
pub knot-stays : (e : Sheet) (d : ℕ) → Stays (levels e d)
unfolding knot
knot-stays e zero = record { exprs = λ end. refuses; prec = λ min lambda. record { stays = refuses; spends = record { ends = λ s w. cut } }; type_atom = atoms-keep e zero; pattern = plain (patterns-keep e zero) }
knot-stays e (suc d) = record { exprs = body-stays (knot-stays e d); prec = precedence-starts (knot-stays e d); type_atom = atoms-keep e (suc d); pattern = plain (patterns-keep e (suc d)) }
