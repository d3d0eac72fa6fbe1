-- How many node records a derivation adds to what stands already: one for each value that has a range (docs/LAYOUT.md). It is the size of what the derivation is
-- built into (SizeOf.antt); the program's own record is not among them.
use Prim.Native.Nat.{ℕ, ◌+◌}
use mathlib.Core.List.{List}
use Rattle.grammar.specs.Places.{Place}
use Rattle.grammar.specs.Symbols.{Sym}
use Rattle.grammar.specs.Derives.{Derives}
use Rattle.grammar.specs.Derives as by

unfoldable pub records : {text : List ℕ} {y : Sym} {p q : Place} → Derives text y p q → ℕ
-- helpers
records (by.no-eol h) = 0
records (by.an-eol a d) = 0
records (by.until-of a d) = records d
records (by.items-end a) = 0
records (by.items-last d a b) = records d
records (by.items-final d a b) = records d
records (by.items-comma d a b c e) = records d + records e
records (by.dots a) = 0
records (by.rest_of a d) = records d
-- literals and names
records (by.a-literal a b) = 1
records (by.an-ident a) = 1
-- types
records (by.one_type d h) = records d
records (by.union d h e) = records d + records e + 1
records (by.no-bar h) = 0
records (by.a-bar a d e) = records d + records e
records (by.ty-paren a d b) = records d + 1
records (by.ty-name d) = records d
records (by.ty-table a d) = records d + 1
records (by.ty-function a d e) = records d + records e + 1
records (by.ty-literal d) = records d
records (by.ty-pair d a e) = records d + records e + 1
records (by.others a d b c e) = records d + records e + 1
records (by.no-type h) = 0
records (by.returned a d) = records d
records (by.bare d h) = records d
records (by.typed-ident d a e) = records d + records e + 1
records (by.params_of a d) = records d
records (by.closure-params a d) = records d
-- patterns
records (by.pattern-name d) = records d
records (by.pattern-table a d) = records d + 1
records (by.pattern-list a d) = records d + 1
records (by.pattern-literal d) = records d
records (by.pattern-pair d a e) = records d + records e + 1
-- statements in a row
records (by.exprs-of a d) = records d
records (by.no-stmt a) = 0
records (by.last-stmt d a) = records d
records (by.a-line d a b e) = records d + records e
records (by.block_of a d) = records d + 1
-- functions and effects
records (by.function_of d e f) = records d + records e + records f + 1
records (by.effect_of a d e f) = records d + records e + records f + 1
-- statements. An import's own record is that of its path's end, as in `shape`
records (by.fn-stmt a d e) = records d + records e + 1
records (by.import-stmt a d) = records d
records (by.effect-stmt d) = records d + 1
records (by.glo-fn a b d e) = records d + records e + 1
records (by.glo-effect a d) = records d + 1
records (by.glo-assign a d b e) = records d + records e + 1
records (by.path-more d a e) = records d + records e
records (by.path-alone d h) = records d + 1
records (by.path-as d a e) = records d + records e + 1
records (by.path-items d a b e) = records d + records e + 1
records (by.path-all d a b) = records d + 1
records (by.item-alone d h) = records d + 1
records (by.item-as d a e) = records d + records e + 1
records (by.expr-stmt d h) = records d
records (by.assign d f a e) = records d + records e + 1
records (by.typed-assign d a e b f) = records d + records e + 1 + records f + 1
records (by.op-assign d f c a e) = records d + records e + 1
records (by.unpack d f e a g h) = records d + records e + records g + 1
records (by.multi d f e a g h) = records d + records e + records g + records h + 1
records (by.no-left h) = 0
records (by.a-left a d f e) = records d + records e
records by.no-right = 0
records (by.a-right a d e) = records d + records e
-- expressions with operators
records (by.expr-of d) = records d
records (by.prec-of d e) = records d + records e
records (by.no-op h) = 0
records (by.binary l h a d e) = records d + 1 + records e
records (by.type-check l a c b e) = 1 + records e
records (by.not-expr a d) = records d + 1
records (by.neg-expr a d) = records d + 1
records (by.tried a d e) = records d + records e
records (by.no-unary d) = records d
records (by.last-handler d h) = records d
records (by.more-handlers d e) = records d + records e
records (by.handler-of a d e f) = records d + records e + records f + 1
-- calls and members
records (by.primary-of d e) = records d + records e
records (by.no-post h l) = 0
records (by.call a d l e) = records d + 1 + records e
records (by.call-lambda a d f e) = records d + records f + 2 + records e
records (by.lambda-alone d e) = records d + 2 + records e
records (by.member d e) = records d + 1 + records e
records (by.safe-member a d e) = records d + 1 + records e
records (by.bracket a d b) = records d
records (by.dot a d) = records d
records (by.double-colon a d) = records d
records (by.bracket-meta a b c) = 0
records (by.dot-meta a b) = 0
records (by.double-colon-meta a b) = 0
-- atoms
records (by.paren-expr a d b) = records d + 1
records (by.name d) = records d
records (by.table a d) = records d + 1
records (by.block-expr a e h d) = records d + 2
records (by.list a d) = records d + 1
records (by.atom-literal d) = records d
records (by.fn-expr a d) = records d + 1
records (by.closure-expr d) = records d + 1
records (by.do-expr a d) = records d + 2
records (by.if-expr a d e f) = records d + records e + records f + 1
records (by.match-expr a d b e) = records d + records e + 1
records (by.loop-expr a d) = records d + 1
records (by.while-expr a d e) = records d + records e + 1
records (by.for-expr a d b e f) = records d + records e + records f + 1
records (by.break-expr a) = 1
records (by.continue-expr a) = 1
records (by.return-expr a d) = records d + 1
records (by.no-else h) = 0
records (by.else-if a h d) = records d
records (by.else-block a d) = records d + 1
records (by.last_name d h) = records d
records (by.more-names d a e) = records d + records e
records (by.no-case a) = 0
records (by.more-cases a d b e) = records d + records e
records (by.case-of d a e) = records d + records e + 1
records (by.last-pattern d h) = records d
records (by.more-patterns d a e) = records d + records e
-- the properties of a table
records (by.property d e) = records d + records e + 1
records (by.paren-key a d b c) = records d + 1
records (by.literal-key d a) = records d
