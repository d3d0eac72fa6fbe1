-- What imports, effects, statements and what recovers from them leave as it was: all that lay below a mark (KeepsRow); and so with every number of
-- levels left. Hence what the two attempts of the rules keep, which the records that were there before do not notice.
use Rattle.std.specs.Prelude.{Some, None, Option}
use mathlib.Core.Bool.{true, false}
use Prim.Native.Nat.{ℕ, zero, suc}
use lib.Dec.{ltb, eqb}
use Rattle.kinds.specs.Number as kind
use Rattle.cursor.specs.declared.State.{State}
use Rattle.cursor.specs.declared.Kids.{Kids}
use Rattle.cursor.specs.Sheet.{Ranged, Sheet}
use Rattle.cursor.specs.Rule.{Rule, ◌>>=◌}
use Rattle.cursor.specs.Checks.{unexpected_at}
use Rattle.cursor.proofs.Chosen.{all, ◌&◌}
use Rattle.cursor.proofs.Keeps.{Mark, mark, Keeps, Plain, Nexts, gives, refuses, ifs, plain, binds, thens, attempts, loops}
use Rattle.cursor.proofs.Kept.{bump-keeps, check-keeps, eat-keeps, expect-keeps, eat-range-keeps, unexpected-keeps, chooses, eat-eol-keeps, log-keeps, recovers, Mine, nothing, Fresh, RowFor, fresh-mine}
use Rattle.types.proofs.ItemKeeps.{start-keeps, pair_keeps, ident-keeps}
use Rattle.types.proofs.TypeKeeps.{type-keeps, typed-keeps, params-keep, returns-keeps, atoms-keep}
use Rattle.types.proofs.PatternKeeps.{patterns-keep}
use Rattle.parts.specs.declared.values.Called.{Called}
use Rattle.parts.specs.declared.values.Expr.{Expr}
use Rattle.parts.specs.declared.values.Expr.TheVariants as exprs
use Rattle.parts.specs.declared.imports.Imported.{Imported}
use Rattle.parts.specs.Values.{to_assign_left}
use Rattle.parts.specs.Effects.{effect_record, effect_stmt}
use Rattle.parts.specs.Imports.{import_item, import_items, import_simple, import_alias, import_nested, import_glob, end_cases, tail_cases, import_end, import_tail, path_turn, import_stmt}
use Rattle.parts.specs.Recovery.{skip_cases, skip_turn, skip, skipped, log_here, line_end, after_stmt}
use Rattle.rules.specs.Inner.{Inner}
use Rattle.rules.specs.Tables.{key}
use Rattle.rules.specs.Statements.{right, set_to, set, typed_assign, left_of, left_turn, lefts, right_turn, rights, multi_to, multi, sign_cases, assign, glo_assign, glo_cases, glo, stmt_cases, plain as plain-rule, function_stmt, stmt}
use Rattle.rules.specs.Exprs.{stmt_or, exprs_turn, exprs as exprs-rule}
use Rattle.rules.specs.Levels.{knot, levels}
use Rattle.sound.proofs.KeepsRow.{ExprFor, link-fresh, fails, closes, adds, adds-some, begins, couple-keeps, row-record-keeps, until-keeps}
use Rattle.sound.proofs.KeepsExprs.{Guards, expr-keeps, fn-stmt-keeps, key-keeps as key-guards, precedence-keeps}

-- an import's row
abbrev ImportFor : Mark → Imported → Type 0
ImportFor m i = RowFor m i.kids

-- a left side that may be assigned to
abbrev LeftFor : Mark → Option ℕ → Type 0
LeftFor m (Some link) = Fresh m link
LeftFor m None = Unit {0}

left-fresh : (m : Mark) (x : Expr) → ExprFor m x → LeftFor m (to_assign_left x)
left-fresh m (exprs.Name link) g = g
left-fresh m (exprs.NameMember link) g = g
left-fresh m (exprs.Call link called) g = tt
left-fresh m (exprs.Other link) g = tt

module _ {m : Mark} (e : Sheet) where
  -- imports
  import-item-keeps : Keeps m (Fresh m) (import_item e)
  unfolding import_item
  import-item-keeps = binds (start-keeps _) (λ from _. binds (ident-keeps _) (λ name f. binds (eat-keeps _ _) (λ other _. ifs other (binds (ident-keeps _) (λ alias g. binds (adds _ _ nothing f) (λ one h. binds (adds _ _ h g) (λ two _. closes _ _ _ _ _ _)))) (closes _ _ _ _ _ _))))

  import-end-keeps : (kids : Kids) → RowFor m kids → Keeps m (Nexts (ImportFor m)) (import_end e kids)
  unfolding import_end import_simple import_alias
  import-end-keeps kids h = chooses e (end_cases e kids) (gives h & thens (bump-keeps _) (binds (ident-keeps _) (λ alias f. binds (adds _ _ h f) (λ longer g. gives g))) & all) (unexpected-keeps _)

  import-tail-keeps : (kids : Kids) → RowFor m kids → Keeps m (Nexts (ImportFor m)) (import_tail e kids)
  unfolding import_tail import_nested import_glob import_items
  import-tail-keeps kids h = chooses e (tail_cases e kids) (thens (bump-keeps _) (binds (until-keeps e _ kind.CloseBrace _ import-item-keeps h) (λ i g. gives g)) & thens (bump-keeps _) (gives h) & all) (unexpected-keeps _)

  path-keeps : (i : Imported) → ImportFor m i → Keeps m (Nexts (ImportFor m)) (path_turn e i)
  unfolding path_turn
  path-keeps i h = binds (ident-keeps _) (λ name f. binds (adds _ _ h f) (λ longer g. binds (eat-keeps _ _) (λ deeper _. ifs deeper (binds (check-keeps _ _) (λ another _. ifs another (gives g) (import-tail-keeps longer g))) (import-end-keeps longer g))))

  import-keeps : (from : ℕ) → Keeps m (Fresh m) (import_stmt e from)
  unfolding import_stmt
  import-keeps from = thens (bump-keeps _) (binds (loops path-keeps e nothing) (λ i _. closes _ _ _ _ _ _))

  -- effects
  effect-keeps : (rule : Rule ℕ) (from : ℕ) (glo : Ranged) → Keeps m (Fresh m) rule → Keeps m (Fresh m) (effect_stmt e rule from glo)
  unfolding effect_stmt effect_record
  effect-keeps rule from glo x =
      binds (start-keeps _) (λ inside _. thens (expect-keeps _ _) (binds (ident-keeps _) (λ name f. binds (params-keep e _ x _ nothing) (λ i h. binds (returns-keeps e _ x) (λ link g.
      binds (adds-some _ _ h g) (λ kids _. binds (closes _ _ _ _ _ _) (λ effect j. binds (adds _ _ nothing f) (λ one k. binds (adds _ _ k j) (λ two _. closes _ _ _ _ _ _)))))))))

  -- recovery
  skipped-keeps : (end : ℕ) → Keeps m (Mine m) (skipped e end)
  unfolding skipped skip skip_turn
  skipped-keeps end = thens (loops {I = Plain} (λ _ _. chooses e (skip_cases e end) (gives tt & gives tt & gives tt & all) (thens (bump-keeps _) (gives tt))) e tt) (gives nothing)

  after-keeps : (end : ℕ) (kids : Kids) (link : ℕ) → RowFor m kids → Mine m link → Keeps m (Nexts (RowFor m)) (after_stmt e end kids link)
  unfolding after_stmt log_here line_end
  after-keeps end kids link h f =
      binds (eat-keeps _ _) (λ closed _. ifs closed (binds (adds-some _ _ h f) (λ all g. gives g)) (binds (check-keeps _ _) (λ over _. ifs over
      (thens (begins (λ s. log-keeps (unexpected_at e s))) (binds (adds-some _ _ h f) (λ all g. gives g)))
      (thens (recovers {H = Plain} (expect-keeps _ _) (λ _ _. gives tt) (gives tt)) (thens (eat-eol-keeps _) (binds (adds-some _ _ h f) (λ longer g. gives g)))))))

-- first an expression, then what each sort of it calls for
after-expr : {m : Mark} {B : Type 0} {H : B → Type 0} {q : Rule Expr} (k : Expr → Rule B) → Keeps m (ExprFor m) q → ((link : ℕ) → Fresh m link → Keeps m H (k (exprs.Name link))) → ((link : ℕ) → Fresh m link → Keeps m H (k (exprs.NameMember link))) → ((link : ℕ) (called : Called) → Keeps m H (k (exprs.Call link called))) → ((link : ℕ) → Keeps m H (k (exprs.Other link))) → Keeps m H (q >>= k)
after-expr {m} {H = H} k keeps name member call other = binds keeps by
  where
    by : (x : Expr) → ExprFor m x → Keeps m H (k x)
    by (exprs.Name link) g = name link g
    by (exprs.NameMember link) g = member link g
    by (exprs.Call link called) g = call link called
    by (exprs.Other link) g = other link

module _ {m : Mark} {r : Inner} (h : Guards m r) where
  -- assignments
  right-keeps : (from k op link : ℕ) → Fresh m link → Keeps m (Fresh m) (right r from k op link)
  unfolding right
  right-keeps from k op link f = binds (expr-keeps h true) (λ value g. couple-keeps k from op link value f g)

  set_keeps : (from sign : ℕ) (l : Option ℕ) → LeftFor m l → Keeps m (Fresh m) (set_to r from sign l)
  unfolding set_to
  set_keeps from sign (Some link) f = thens (bump-keeps _) (ifs (eqb sign kind.Assign) (right-keeps _ _ _ _ f) (right-keeps _ _ _ _ f))
  set_keeps from sign None f = unexpected-keeps _

  typed-assign-keeps : (from : ℕ) (x : Expr) → ExprFor m x → Keeps m (Fresh m) (typed_assign r from x)
  unfolding typed_assign
  typed-assign-keeps from (exprs.Name name) f = thens (bump-keeps _) (binds (type-keeps r.sheet _ h.type_atom) (λ t g. binds (pair_keeps r.sheet _ from name t f g) (λ link j. thens (expect-keeps _ _) (right-keeps _ _ _ _ j))))
  typed-assign-keeps from (exprs.NameMember link) f = unexpected-keeps _
  typed-assign-keeps from (exprs.Call link called) f = unexpected-keeps _
  typed-assign-keeps from (exprs.Other link) f = unexpected-keeps _

  left-keeps : (comma : Ranged) (kids : Kids) → RowFor m kids → Keeps m (Nexts (RowFor m)) (left_of r comma kids)
  unfolding left_of
  left-keeps None kids g = gives g
  left-keeps (Some comma) kids g = after-expr _ (h.prec 1 true) (λ link f. binds (adds _ _ g f) (λ longer j. gives j)) (λ link f. binds (adds _ _ g f) (λ longer j. gives j)) (λ link called. (fails _)) (λ link. (fails _))

  rights-keep : (from : ℕ) (left : Kids) (value : ℕ) → RowFor m left → Fresh m value → Keeps m (Fresh m) (rights r from left value)
  unfolding rights right_turn
  rights-keep from left value g f = binds (adds _ _ g f) (λ begun j. binds (loops (λ kids k. ifs (ltb kids.count left.count) (thens (expect-keeps _ _) (binds (expr-keeps h true) (λ link i. binds (adds _ _ k i) (λ longer l. gives l)))) (gives k)) r.sheet j) (λ kids _. closes _ _ _ _ _ _))

  multi-keeps : (from : ℕ) (l : Option ℕ) → LeftFor m l → Keeps m (Fresh m) (multi_to r from l)
  unfolding multi_to lefts left_turn
  multi-keeps from (Some one) f =
      binds (loops (λ kids g. binds (eat-range-keeps r.sheet kind.Comma) (λ comma _. left-keeps comma kids g)) r.sheet (fresh-mine one f)) (λ kids g. thens (expect-keeps _ _) (binds (expr-keeps h true) (λ value j. binds (check-keeps _ _) (λ several _. ifs several
      (rights-keep from kids value g j)
      (row-record-keeps _ from kids value g j)))))
  multi-keeps from None f = unexpected-keeps _

  assign-keeps : (from : ℕ) → Keeps m (Fresh m) (assign r from)
  unfolding assign multi set
  assign-keeps from = binds (h.prec 1 true) (λ x g.
      let sets : (sign : ℕ) → Keeps m (Fresh m) (set r from sign x) = λ sign. set_keeps from sign _ (left-fresh m x g) in
      chooses r.sheet (sign_cases r from x) (multi-keeps from _ (left-fresh m x g) & typed-assign-keeps from x g & sets _ & sets _ & sets _ & sets _ & sets _ & sets _ & all) (gives (link-fresh m x g)))

  -- statements
  glo-assign-keeps : (from : ℕ) → Keeps m (Fresh m) (glo_assign r from)
  unfolding glo_assign
  glo-assign-keeps from = binds (typed-keeps r.sheet _ h.type_atom false) (λ name f. thens (expect-keeps _ _) (right-keeps _ _ _ _ f))

  glo-keeps : (from : ℕ) → Keeps m (Fresh m) (glo r from)
  unfolding glo
  glo-keeps from = begins (λ s. thens (bump-keeps _) (chooses r.sheet (glo_cases r from _) (fn-stmt-keeps h from _ & effect-keeps r.sheet _ from _ h.type_atom & all) (glo-assign-keeps from)))

  plain-keeps : Keeps m (Fresh m) (plain-rule r)
  unfolding plain-rule
  plain-keeps = binds (start-keeps _) (λ from _. chooses r.sheet (stmt_cases r from) (import-keeps r.sheet from & effect-keeps r.sheet _ from _ h.type_atom & glo-keeps from & all) (assign-keeps from))

  function-guards : Keeps m (Fresh m) (function_stmt r)
  unfolding function_stmt
  function-guards = binds (start-keeps _) (λ from _. fn-stmt-keeps h from _)

  stmt-keeps : Keeps m (Fresh m) (stmt r)
  unfolding stmt
  stmt-keeps = binds (check-keeps _ _) (λ here _. ifs here (attempts function-guards (λ link f. gives f) plain-keeps) plain-keeps)

  body-keeps : (end : ℕ) → Keeps m (RowFor m) (exprs-rule r end)
  unfolding exprs-rule exprs_turn stmt_or
  body-keeps end = thens (eat-eol-keeps _) (loops (λ kids g. binds (eat-keeps _ _) (λ closed _. ifs closed (gives g) (binds (recovers stmt-keeps (λ link f. gives (fresh-mine link f)) (skipped-keeps r.sheet end)) (λ link f. after-keeps r.sheet end kids link g f)))) r.sheet nothing)

-- with any number of levels left
pub knot-guards : {m : Mark} (e : Sheet) (d : ℕ) → Guards m (levels e d)
unfolding knot
knot-guards e zero = record { exprs = λ end. refuses; prec = λ min lambda. refuses; type_atom = atoms-keep e zero; pattern = patterns-keep e zero }
knot-guards e (suc d) = record { exprs = body-keeps (knot-guards e d); prec = precedence-keeps (knot-guards e d); type_atom = atoms-keep e (suc d); pattern = patterns-keep e (suc d) }

-- the two rules that are attempted
pub key-keeps : (e : Sheet) (d : ℕ) (s : State) → Keeps (mark s) Plain (key (levels e d))
key-keeps e d s = plain (key-guards (knot-guards e d))

pub function-keeps : (e : Sheet) (d : ℕ) (s : State) → Keeps (mark s) Plain (function_stmt (levels e d))
function-keeps e d s = plain (function-guards (knot-guards e d))
