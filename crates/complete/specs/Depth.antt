-- How deep a derivation nests: the document's depth rises by one where statements up to a kind (parse_exprs), an expression from a level of operators
-- on (parse_expr_precedence), a type atom and a pattern are entered.
use Rattle.std.specs.Prelude.{ℕ, suc, max, List}
use Rattle.grammar.specs.Places.{Place}
use Rattle.grammar.specs.Symbols.{Sym}
use Rattle.grammar.specs.Symbols as symbol
use Rattle.grammar.specs.Derives.{Derives}
use Rattle.grammar.specs.Derives as by

-- Type atoms and patterns are read one level further in, also where they are items of a list. So are statements up to a kind and expressions
-- from a level of operators on, but these are no items
abbrev pub entered : Sym → ℕ → ℕ
entered symbol.Eols n = n
entered (symbol.Until x y end) n = n
entered (symbol.Items x y end) n = n
entered symbol.NoLast n = n
entered symbol.Dots n = n
entered (symbol.Rest x) n = n
entered symbol.Lit n = n
entered symbol.Ident n = n
entered symbol.Ty n = n
entered symbol.TyAtom n = suc n
entered symbol.Bars n = n
entered symbol.TyPair n = n
entered symbol.Others n = n
entered symbol.Returns n = n
entered (symbol.Typed x) n = n
entered symbol.Pattern n = suc n
entered symbol.PatternPair n = n
entered (symbol.Exprs end) n = n
entered (symbol.Stmts end) n = n
entered symbol.Block n = n
entered symbol.Stmt n = n
entered symbol.Effect n = n
entered symbol.Path n = n
entered symbol.ImportItem n = n
entered (symbol.Lefts m) n = n
entered (symbol.Rights m) n = n
entered (symbol.Params closure) n = n
entered (symbol.Function closure) n = n
entered (symbol.Expr lambda) n = n
entered (symbol.Prec m lambda f) n = n
entered (symbol.Ops m lambda f g) n = n
entered (symbol.Unary lambda f) n = n
entered symbol.Handler n = n
entered symbol.Handlers n = n
entered (symbol.Primary lambda f) n = n
entered (symbol.Posts lambda f g) n = n
entered (symbol.Member m) n = n
entered (symbol.Atom f) n = n
entered symbol.Key n = n
entered symbol.Property n = n
entered symbol.Alternate n = n
entered symbol.Names n = n
entered symbol.Cases n = n
entered symbol.Case n = n
entered symbol.Patterns n = n

-- how many levels a derivation enters, one inside the other, the one that it stands on itself not counted
unfoldable pub need : {text : List ℕ} {y : Sym} {p q : Place} → Derives text y p q → ℕ
-- helpers
need (by.no-eol h) = 0
need (by.an-eol a d) = 0
need (by.until-of a d) = need d
need (by.items-end a) = 0
need (by.items-last {y = y} d a b) = entered y (need d)
need (by.items-final {x = x} d a b) = entered x (need d)
need (by.items-comma {x = x} d a b c e) = max (entered x (need d)) (need e)
need (by.dots a) = 0
need (by.rest_of {x = x} a d) = entered x (need d)
-- literals and names
need (by.a-literal a b) = 0
need (by.an-ident a) = 0
-- types
need (by.one_type d h) = suc (need d)
need (by.union d h e) = max (suc (need d)) (need e)
need (by.no-bar h) = 0
need (by.a-bar a d e) = max (suc (need d)) (need e)
need (by.ty-paren a d b) = need d
need (by.ty-name d) = 0
need (by.ty-table a d) = need d
need (by.ty-function a d e) = max (need d) (need e)
need (by.ty-literal d) = 0
need (by.ty-pair d a e) = need e
need (by.others a d b c e) = max (need d) (need e)
need (by.no-type h) = 0
need (by.returned a d) = need d
need (by.bare d h) = 0
need (by.typed-ident {x = x} d a e) = entered x (need e)
need (by.params_of a d) = need d
need (by.closure-params a d) = need d
-- patterns
need (by.pattern-name d) = 0
need (by.pattern-table a d) = need d
need (by.pattern-list a d) = need d
need (by.pattern-literal d) = 0
need (by.pattern-pair d a e) = suc (need e)
-- statements in a row
need (by.exprs-of a d) = need d
need (by.no-stmt a) = 0
need (by.last-stmt d a) = need d
need (by.a-line d a b e) = max (need d) (need e)
need (by.block_of a d) = suc (need d)
-- functions and effects
need (by.function_of d e f) = max (max (need d) (need e)) (need f)
need (by.effect_of a d e f) = max (need e) (need f)
-- statements
need (by.fn-stmt a d e) = need e
need (by.import-stmt a d) = 0
need (by.effect-stmt d) = need d
need (by.glo-fn a b d e) = need e
need (by.glo-effect a d) = need d
need (by.glo-assign a d b e) = max (need d) (need e)
need (by.path-more d a e) = 0
need (by.path-alone d h) = 0
need (by.path-as d a e) = 0
need (by.path-items d a b e) = 0
need (by.path-all d a b) = 0
need (by.item-alone d h) = 0
need (by.item-as d a e) = 0
need (by.expr-stmt d h) = suc (need d)
need (by.assign d f a e) = max (suc (need d)) (need e)
need (by.typed-assign d a e b f) = max (max (suc (need d)) (need e)) (need f)
need (by.op-assign d f c a e) = max (suc (need d)) (need e)
need (by.unpack d f e a g h) = max (max (suc (need d)) (need e)) (need g)
need (by.multi d f e a g h) = max (max (max (suc (need d)) (need e)) (need g)) (need h)
need (by.no-left h) = 0
need (by.a-left a d f e) = max (suc (need d)) (need e)
need by.no-right = 0
need (by.a-right a d e) = max (need d) (need e)
-- expressions with operators
need (by.expr-of d) = suc (need d)
need (by.prec-of d e) = max (need d) (need e)
need (by.no-op h) = 0
need (by.binary l h a d e) = max (suc (need d)) (need e)
need (by.type-check l a c b e) = need e
need (by.not-expr a d) = need d
need (by.neg-expr a d) = need d
need (by.tried a d e) = max (need d) (need e)
need (by.no-unary d) = need d
need (by.last-handler d h) = need d
need (by.more-handlers d e) = max (need d) (need e)
need (by.handler-of a d e f) = max (need e) (need f)
-- calls and members
need (by.primary-of d e) = max (need d) (need e)
need (by.no-post h l) = 0
need (by.call a d l e) = max (need d) (need e)
need (by.call-lambda a d f e) = max (max (need d) (need f)) (need e)
need (by.lambda-alone d e) = max (need d) (need e)
need (by.member d e) = max (need d) (need e)
need (by.safe-member a d e) = max (need d) (need e)
need (by.bracket a d b) = need d
need (by.dot a d) = 0
need (by.double-colon a d) = 0
need (by.bracket-meta a b c) = 0
need (by.dot-meta a b) = 0
need (by.double-colon-meta a b) = 0
-- atoms
need (by.paren-expr a d b) = need d
need (by.name d) = 0
need (by.table a d) = need d
need (by.block-expr a e h d) = suc (need d)
need (by.list a d) = need d
need (by.atom-literal d) = 0
need (by.fn-expr a d) = need d
need (by.closure-expr d) = need d
need (by.do-expr a d) = need d
need (by.if-expr a d e f) = max (max (need d) (need e)) (need f)
need (by.match-expr a d b e) = max (need d) (need e)
need (by.loop-expr a d) = need d
need (by.while-expr a d e) = max (need d) (need e)
need (by.for-expr a d b e f) = max (need e) (need f)
need (by.break-expr a) = 0
need (by.continue-expr a) = 0
need (by.return-expr a d) = need d
need (by.no-else h) = 0
need (by.else-if a h d) = need d
need (by.else-block a d) = need d
need (by.last_name d h) = 0
need (by.more-names d a e) = 0
need (by.no-case a) = 0
need (by.more-cases a d b e) = max (need d) (need e)
need (by.case-of d a e) = max (need d) (need e)
need (by.last-pattern d h) = suc (need d)
need (by.more-patterns d a e) = max (suc (need d)) (need e)
-- the properties of a table
need (by.property d e) = max (need d) (need e)
need (by.paren-key a d b c) = need d
need (by.literal-key d a) = 0
