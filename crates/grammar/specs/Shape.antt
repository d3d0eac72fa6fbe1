-- The tree of a derivation.
use Rattle.std.specs.Prelude.{ℕ, List, true, false, Some, None}
use Rattle.kinds.specs.Number as kind
use Rattle.cursor.specs.Node as node
use Rattle.cursor.specs.Tree.{none, join, tree}
use Rattle.cursor.specs.Records.{flagged}
use Rattle.parts.specs.Records.{function_kind}
use Rattle.grammar.specs.Places.{Place, span_of, start_of}
use Rattle.grammar.specs.Symbols.{Sym}
use Rattle.grammar.specs.Derives.{Derives}
use Rattle.grammar.specs.Derives as by
use Rattle.grammar.specs.Builders.{
  Shape,
  blank,
  only,
  more,
  ending,
  marked,
  unmarked,
  made,
  over,
  couple,
  row_over,
  row_before,
  lasted_row,
  ended_row,
  signature,
  fn_over,
  effect_over,
  import_over,
  call_over,
  member_over,
  if_over,
  covered,
  handled,
  handler_over,
  several_over,
}

-- What a derivation is built into. A list goes on from a row that stands already; operators, calls and members go on from the value that
-- stands already, which starts at x; a function starts at x, and so does an import. Whatever else takes nothing of the two: it is handed 0 and
-- the blank row. A value from p to q has p's next token's start for its start and the end of the last token before q for its end
unfoldable pub shape : {text : List ℕ} {y : Sym} {p q : Place} → Derives text y p q → ℕ → Shape → Shape
-- helpers
shape (by.no-eol h) x so = so
shape (by.an-eol a d) x so = so
shape (by.until-of a d) x so = shape d x so
shape (by.items-end a) x so = so
shape (by.items-last d a b) x so = ending so (shape d 0 blank)
shape (by.items-final d a b) x so = more so (shape d 0 blank)
shape (by.items-comma d a b c e) x so = shape e x (more so (shape d 0 blank))
shape (by.dots {p = p} a) x so = marked none (span_of p)
shape (by.rest_of a d) x so = marked (shape d 0 blank).row unmarked
-- literals and names
shape (by.a-literal {l = l} a b) x so = only (tree l none)
shape (by.an-ident {p = p} {q = q} a) x so = made node.Ident (start_of p) q 0 0 0 none
-- types
shape (by.one_type d h) x so = shape d 0 blank
shape (by.union {p = p} {r = r} d h e) x so = row_over node.Union (start_of p) r (shape e 0 (more blank (shape d 0 blank)))
shape (by.no-bar h) x so = so
shape (by.a-bar a d e) x so = shape e x (more so (shape d 0 blank))
shape (by.ty-paren {p = p} {s = s} a d b) x so = over node.TyParen (start_of p) s (shape d 0 blank)
shape (by.ty-name d) x so = shape d 0 blank
shape (by.ty-table {p = p} {r = r} a d) x so = lasted_row node.TyTable (start_of p) r (shape d 0 blank)
shape (by.ty-function {p = p} {s = s} a d e) x so = signature node.TyFunction (start_of p) s (shape d 0 blank) (shape e 0 blank) none
shape (by.ty-literal d) x so = shape d 0 blank
shape (by.ty-pair {p = p} {s = s} d a e) x so = couple node.TableTyPair (start_of p) s (shape d 0 blank) (shape e 0 blank)
shape (by.others {p = p} {u = u} a d b c e) x so = marked (couple node.TableTyOther (start_of p) u (shape d 0 blank) (shape e 0 blank)).row unmarked
shape (by.no-type h) x so = blank
shape (by.returned a d) x so = shape d 0 blank
shape (by.bare d h) x so = shape d 0 blank
shape (by.typed-ident {p = p} {s = s} d a e) x so = couple node.TypedIdent (start_of p) s (shape d 0 blank) (shape e 0 blank)
shape (by.params_of a d) x so = shape d x so
shape (by.closure-params a d) x so = shape d x so
-- patterns
shape (by.pattern-name d) x so = shape d 0 blank
shape (by.pattern-table {p = p} {r = r} a d) x so = ended_row node.PatternTable (start_of p) r (shape d 0 blank)
shape (by.pattern-list {p = p} {r = r} a d) x so = ended_row node.PatternList (start_of p) r (shape d 0 blank)
shape (by.pattern-literal d) x so = shape d 0 blank
shape (by.pattern-pair {p = p} {s = s} d a e) x so = couple node.TablePatternPair (start_of p) s (shape d 0 blank) (shape e 0 blank)
-- statements in a row. A block starts behind its brace
shape (by.exprs-of a d) x so = shape d x so
shape (by.no-stmt a) x so = so
shape (by.last-stmt d a) x so = more so (shape d 0 blank)
shape (by.a-line d a b e) x so = shape e x (more so (shape d 0 blank))
shape (by.block_of {q = q} {r = r} a d) x so = row_over node.Block (start_of q) r (shape d 0 blank)
-- functions and effects
shape (by.function_of {closure = closure} {s = s} d e f) x so = signature (function_kind closure) x s (shape d 0 blank) (shape e 0 blank) (shape f 0 blank).row
shape (by.effect_of {p = p} {t = t} a d e f) x so = only (join (shape d 0 blank).row (signature node.Effect (start_of p) t (shape e 0 blank) (shape f 0 blank) none).row)
-- statements
shape (by.fn-stmt {p = p} {s = s} a d e) x so = fn_over (start_of p) s None (shape d 0 blank).row (shape e (start_of p) blank)
shape (by.import-stmt {p = p} a d) x so = shape d (start_of p) blank
shape (by.effect-stmt {p = p} {q = q} d) x so = effect_over (start_of p) q None (shape d 0 blank)
shape (by.glo-fn {p = p} {t = t} a b d e) x so = fn_over (start_of p) t (Some (span_of p)) (shape d 0 blank).row (shape e (start_of p) blank)
shape (by.glo-effect {p = p} {r = r} a d) x so = effect_over (start_of p) r (Some (span_of p)) (shape d 0 blank)
shape (by.glo-assign {p = p} {t = t} a d b e) x so = couple node.GloAssign (start_of p) t (shape d 0 blank) (shape e 0 blank)
shape (by.path-more d a e) x so = shape e x (more so (shape d 0 blank))
shape (by.path-alone {q = q} d h) x so = import_over x q (more so (shape d 0 blank)) blank false false
shape (by.path-as {s = s} d a e) x so = import_over x s (more so (shape d 0 blank)) (shape e 0 blank) true false
shape (by.path-items {t = t} d a b e) x so = import_over x t (more so (shape d 0 blank)) (shape e 0 blank) false true
shape (by.path-all {s = s} d a b) x so = import_over x s (more so (shape d 0 blank)) blank true true
shape (by.item-alone {p = p} {q = q} d h) x so = over node.ImportItem (start_of p) q (shape d 0 blank)
shape (by.item-as {p = p} {s = s} d a e) x so = made node.ImportItem (start_of p) s 0 0 (flagged 0 0 true false) (join (shape d 0 blank).row (shape e 0 blank).row)
shape (by.expr-stmt d h) x so = shape d 0 blank
shape (by.assign {p = p} {s = s} d f a e) x so = couple node.Assign (start_of p) s (shape d 0 blank) (shape e 0 blank)
shape (by.typed-assign {p = p} {s = s} {u = u} d a e b f) x so = couple node.Assign (start_of p) u (couple node.TypedIdent (start_of p) s (shape d 0 blank) (shape e 0 blank)) (shape f 0 blank)
shape (by.op-assign {op = op} {p = p} {s = s} d f c a e) x so = made node.AssignOp (start_of p) s op 0 0 (join (shape d 0 blank).row (shape e 0 blank).row)
shape (by.unpack {p = p} {t = t} d f e a g h) x so = row_before node.AssignUnpack (start_of p) t (shape e 0 (more blank (shape d 0 blank))) (shape g 0 blank).row
shape (by.multi {p = p} {u = u} d f e a g h) x so = several_over (start_of p) u (shape e 0 (more blank (shape d 0 blank))) (shape h 0 (more blank (shape g 0 blank)))
shape (by.no-left h) x so = so
shape (by.a-left a d f e) x so = shape e x (more so (shape d 0 blank))
shape by.no-right x so = so
shape (by.a-right a d e) x so = shape e x (more so (shape d 0 blank))
-- expressions with operators
shape (by.expr-of d) x so = shape d 0 blank
shape (by.prec-of {p = p} d e) x so = shape e (start_of p) (shape d 0 blank)
shape (by.no-op h) x so = so
shape (by.binary {k = k} {r = r} l h a d e) x so = shape e x (made node.Binary x r k 0 0 (join so.row (shape d 0 blank).row))
shape (by.type-check {word = word} {q = q} {r = r} l a c b e) x so = shape e x (made node.TypeCheck x r word (start_of q) 0 so.row)
shape (by.not-expr {p = p} {r = r} a d) x so = made node.Unary (start_of p) r kind.Not 0 0 (shape d 0 blank).row
shape (by.neg-expr {p = p} {r = r} a d) x so = made node.Unary (start_of p) r kind.Sub 0 0 (shape d 0 blank).row
shape (by.tried a d e) x so = only (handled (shape d 0 blank).row (shape e 0 blank))
shape (by.no-unary d) x so = shape d 0 blank
shape (by.last-handler d h) x so = more so (shape d 0 blank)
shape (by.more-handlers d e) x so = shape e x (more so (shape d 0 blank))
shape (by.handler-of {p = p} {t = t} a d e f) x so = handler_over (start_of p) t (shape d 0 blank) (shape e 0 blank) (shape f 0 blank)
-- calls and members
shape (by.primary-of {p = p} d e) x so = shape e (start_of p) (shape d 0 blank)
shape (by.no-post h l) x so = so
shape (by.call {r = r} a d l e) x so = shape e x (call_over x r so (shape d 0 blank) none)
shape (by.call-lambda {s = s} a d f e) x so = shape e x (call_over x s so (shape d 0 blank) (covered node.Closure (shape f 0 blank).row))
shape (by.lambda-alone {q = q} d e) x so = shape e x (call_over x q so blank (covered node.Closure (shape d 0 blank).row))
shape (by.member {n = n} {q = q} d e) x so = shape e x (member_over x q None n so (shape d 0 blank))
shape (by.safe-member {n = n} {p = p} {r = r} a d e) x so = shape e x (member_over x r (Some (span_of p)) n so (shape d 0 blank))
shape (by.bracket a d b) x so = shape d 0 blank
shape (by.dot a d) x so = shape d 0 blank
shape (by.double-colon a d) x so = shape d 0 blank
shape (by.bracket-meta a b c) x so = blank
shape (by.dot-meta a b) x so = blank
shape (by.double-colon-meta a b) x so = blank
-- atoms. A block that is an expression starts behind its brace and Eols, the expression at the brace
shape (by.paren-expr {p = p} {s = s} a d b) x so = over node.Paren (start_of p) s (shape d 0 blank)
shape (by.name d) x so = shape d 0 blank
shape (by.table {p = p} {r = r} a d) x so = row_over node.Table (start_of p) r (shape d 0 blank)
shape (by.block-expr {p = p} {r = r} {s = s} a e h d) x so = over node.ExprBlock (start_of p) s (row_over node.Block (start_of r) s (shape d 0 blank))
shape (by.list {p = p} {r = r} a d) x so = row_over node.List (start_of p) r (shape d 0 blank)
shape (by.atom-literal d) x so = shape d 0 blank
shape (by.fn-expr {p = p} {r = r} a d) x so = fn_over (start_of p) r None none (shape d (start_of p) blank)
shape (by.closure-expr {p = p} {q = q} d) x so = fn_over (start_of p) q None none (shape d (start_of p) blank)
shape (by.do-expr {p = p} {r = r} a d) x so = fn_over (start_of p) r None none (over node.Do (start_of p) r (shape d 0 blank))
shape (by.if-expr {p = p} {t = t} a d e f) x so = if_over (start_of p) t (shape d 0 blank) (shape e 0 blank) (shape f 0 blank)
shape (by.match-expr {p = p} {t = t} a d b e) x so = row_over node.Match (start_of p) t (shape e 0 (only (shape d 0 blank).row))
shape (by.loop-expr {p = p} {r = r} a d) x so = over node.Loop (start_of p) r (shape d 0 blank)
shape (by.while-expr {p = p} {s = s} a d e) x so = couple node.While (start_of p) s (shape d 0 blank) (shape e 0 blank)
shape (by.for-expr {p = p} {u = u} a d b e f) x so = row_before node.For (start_of p) u (shape d 0 blank) (join (shape e 0 blank).row (shape f 0 blank).row)
shape (by.break-expr {p = p} {q = q} a) x so = made node.Break (start_of p) q 0 0 0 none
shape (by.continue-expr {p = p} {q = q} a) x so = made node.Continue (start_of p) q 0 0 0 none
shape (by.return-expr {p = p} {r = r} a d) x so = over node.Return (start_of p) r (shape d 0 blank)
shape (by.no-else h) x so = blank
shape (by.else-if a h d) x so = shape d 0 blank
shape (by.else-block a d) x so = only (covered node.ExprBlock (shape d 0 blank).row)
shape (by.last_name d h) x so = more so (shape d 0 blank)
shape (by.more-names d a e) x so = shape e x (more so (shape d 0 blank))
shape (by.no-case a) x so = so
shape (by.more-cases a d b e) x so = shape e x (more so (shape d 0 blank))
shape (by.case-of {p = p} {s = s} d a e) x so = row_before node.MatchCase (start_of p) s (shape d 0 blank) (shape e 0 blank).row
shape (by.last-pattern d h) x so = more so (shape d 0 blank)
shape (by.more-patterns d a e) x so = shape e x (more so (shape d 0 blank))
-- the properties of a table. A key in parentheses ends before its colon
shape (by.property {p = p} {r = r} d e) x so = couple node.TableProperty (start_of p) r (shape d 0 blank) (shape e 0 blank)
shape (by.paren-key {p = p} {s = s} a d b c) x so = over node.Paren (start_of p) s (shape d 0 blank)
shape (by.literal-key d a) x so = shape d 0 blank
