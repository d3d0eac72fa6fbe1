-- How often each token of a sheet is read, off the grammar alone: the document, demand 3. A token's mark says how often its reading is
-- doubled: once for every group in parentheses around it, brackets included, that stands first, Eols and trivia aside, behind a `{` which
-- opens an expression where the whole is a block; once more where it is itself a literal that stands so; and once more where it is the `fn`
-- of a function without a name that opens a statement.
use Rattle.std.specs.Prelude.{ℕ, suc, ◌+◌, ◌^◌, List, [], ◌∷◌, ◌++◌}
use Rattle.grammar.specs.Places.{Token, Place, Tok}
use Rattle.grammar.specs.Symbols.{Sym}
use Rattle.grammar.specs.Derives.{Derives}
use Rattle.grammar.specs.Derives as by

-- where a part stands: first in the first statement of a block that is an expression; first in another statement; anywhere else
pub data Stand : Type 0 where
  Leading First Within : Stand

-- what opens a statement leads where the statement does, and otherwise is first
abbrev pub opening : Stand → Stand
opening Leading = Leading
opening First = First
opening Within = First

-- every mark one higher
unfoldable pub again : List ℕ → List ℕ
again [] = []
again (m ∷ ms) = suc m ∷ again ms

-- the marks of a group or a literal, which is tried as a key where it leads, and of a `fn`, which is tried as a named function's
abbrev pub as_key : Stand → List ℕ → List ℕ
as_key Leading ms = again ms
as_key First ms = ms
as_key Within ms = ms

abbrev pub as_name : Stand → List ℕ → List ℕ
as_name Leading ms = again ms
as_name First ms = again ms
as_name Within ms = ms

-- one mark for the token behind a place, none at the end of input
abbrev pub mark_in : List Token → List ℕ
mark_in [] = []
mark_in (t ∷ ts) = 0 ∷ []

abbrev pub mark : Place → List ℕ
mark p = mark_in p.rest

abbrev pub token : {k : ℕ} {p q : Place} → Tok k p q → List ℕ
token {p = p} t = mark p

-- the marks of a part's tokens, in order, by where the part stands
unfoldable pub marks_at : {text : List ℕ} {y : Sym} {p q : Place} → Stand → Derives text y p q → List ℕ
-- helpers
marks_at at (by.no-eol h) = []
marks_at at (by.an-eol a d) = token a ++ marks_at Within d
marks_at at (by.until-of a d) = marks_at Within a ++ marks_at Within d
marks_at at (by.items-end a) = token a
marks_at at (by.items-last d a b) = marks_at Within d ++ marks_at Within a ++ token b
marks_at at (by.items-final d a b) = marks_at Within d ++ marks_at Within a ++ token b
marks_at at (by.items-comma d a b c e) = marks_at Within d ++ marks_at Within a ++ token b ++ marks_at Within c ++ marks_at Within e
marks_at at (by.dots a) = token a
marks_at at (by.rest_of a d) = token a ++ marks_at Within d
-- literals and names
marks_at at (by.a-literal {p = p} a b) = mark p
marks_at at (by.an-ident a) = token a
-- types
marks_at at (by.one_type d h) = marks_at Within d
marks_at at (by.union d h e) = marks_at Within d ++ marks_at Within e
marks_at at (by.no-bar h) = []
marks_at at (by.a-bar a d e) = token a ++ marks_at Within d ++ marks_at Within e
marks_at at (by.ty-paren a d b) = token a ++ marks_at Within d ++ token b
marks_at at (by.ty-name d) = marks_at Within d
marks_at at (by.ty-table a d) = token a ++ marks_at Within d
marks_at at (by.ty-function a d e) = token a ++ marks_at Within d ++ marks_at Within e
marks_at at (by.ty-literal d) = marks_at Within d
marks_at at (by.ty-pair d a e) = marks_at Within d ++ token a ++ marks_at Within e
marks_at at (by.others a d b c e) = token a ++ marks_at Within d ++ token b ++ token c ++ marks_at Within e
marks_at at (by.no-type h) = []
marks_at at (by.returned a d) = token a ++ marks_at Within d
marks_at at (by.bare d h) = marks_at Within d
marks_at at (by.typed-ident d a e) = marks_at Within d ++ token a ++ marks_at Within e
marks_at at (by.params_of a d) = token a ++ marks_at Within d
marks_at at (by.closure-params a d) = token a ++ marks_at Within d
-- patterns
marks_at at (by.pattern-name d) = marks_at Within d
marks_at at (by.pattern-table a d) = token a ++ marks_at Within d
marks_at at (by.pattern-list a d) = token a ++ marks_at Within d
marks_at at (by.pattern-literal d) = marks_at Within d
marks_at at (by.pattern-pair d a e) = marks_at Within d ++ token a ++ marks_at Within e
-- statements in a row
marks_at at (by.exprs-of a d) = marks_at Within a ++ marks_at at d
marks_at at (by.no-stmt a) = token a
marks_at at (by.last-stmt d a) = marks_at at d ++ token a
marks_at at (by.a-line d a b e) = marks_at at d ++ token a ++ marks_at Within b ++ marks_at Within e
marks_at at (by.block_of a d) = token a ++ marks_at Within d
-- functions and effects
marks_at at (by.function_of d e f) = marks_at Within d ++ marks_at Within e ++ marks_at Within f
marks_at at (by.effect_of a d e f) = token a ++ marks_at Within d ++ marks_at Within e ++ marks_at Within f
-- statements
marks_at at (by.fn-stmt a d e) = token a ++ marks_at Within d ++ marks_at Within e
marks_at at (by.import-stmt a d) = token a ++ marks_at Within d
marks_at at (by.effect-stmt d) = marks_at Within d
marks_at at (by.glo-fn a b d e) = token a ++ token b ++ marks_at Within d ++ marks_at Within e
marks_at at (by.glo-effect a d) = token a ++ marks_at Within d
marks_at at (by.glo-assign a d b e) = token a ++ marks_at Within d ++ token b ++ marks_at Within e
marks_at at (by.path-more d a e) = marks_at Within d ++ token a ++ marks_at Within e
marks_at at (by.path-alone d h) = marks_at Within d
marks_at at (by.path-as d a e) = marks_at Within d ++ token a ++ marks_at Within e
marks_at at (by.path-items d a b e) = marks_at Within d ++ token a ++ token b ++ marks_at Within e
marks_at at (by.path-all d a b) = marks_at Within d ++ token a ++ token b
marks_at at (by.item-alone d h) = marks_at Within d
marks_at at (by.item-as d a e) = marks_at Within d ++ token a ++ marks_at Within e
marks_at at (by.expr-stmt d h) = marks_at (opening at) d
marks_at at (by.assign d f a e) = marks_at (opening at) d ++ token a ++ marks_at Within e
marks_at at (by.typed-assign d a e b f) = marks_at (opening at) d ++ token a ++ marks_at Within e ++ token b ++ marks_at Within f
marks_at at (by.op-assign d f c a e) = marks_at (opening at) d ++ token a ++ marks_at Within e
marks_at at (by.unpack d f e a g h) = marks_at (opening at) d ++ marks_at Within e ++ token a ++ marks_at Within g
marks_at at (by.multi d f e a g h) = marks_at (opening at) d ++ marks_at Within e ++ token a ++ marks_at Within g ++ marks_at Within h
marks_at at (by.no-left h) = []
marks_at at (by.a-left a d f e) = token a ++ marks_at Within d ++ marks_at Within e
marks_at at by.no-right = []
marks_at at (by.a-right a d e) = token a ++ marks_at Within d ++ marks_at Within e
-- expressions with operators
marks_at at (by.expr-of d) = marks_at Within d
marks_at at (by.prec-of d e) = marks_at at d ++ marks_at Within e
marks_at at (by.no-op h) = []
marks_at at (by.binary l h a d e) = token a ++ marks_at Within d ++ marks_at Within e
marks_at at (by.type-check {q = q} l a c b e) = token a ++ mark q ++ marks_at Within e
marks_at at (by.not-expr a d) = token a ++ marks_at Within d
marks_at at (by.neg-expr a d) = token a ++ marks_at Within d
marks_at at (by.tried a d e) = token a ++ marks_at Within d ++ marks_at Within e
marks_at at (by.no-unary d) = marks_at at d
marks_at at (by.last-handler d h) = marks_at Within d
marks_at at (by.more-handlers d e) = marks_at Within d ++ marks_at Within e
marks_at at (by.handler-of a d e f) = token a ++ marks_at Within d ++ marks_at Within e ++ marks_at Within f
-- calls and members
marks_at at (by.primary-of d e) = marks_at at d ++ marks_at Within e
marks_at at (by.no-post h l) = []
marks_at at (by.call a d l e) = token a ++ marks_at Within d ++ marks_at Within e
marks_at at (by.call-lambda a d f e) = token a ++ marks_at Within d ++ marks_at Within f ++ marks_at Within e
marks_at at (by.lambda-alone d e) = marks_at Within d ++ marks_at Within e
marks_at at (by.member d e) = marks_at Within d ++ marks_at Within e
marks_at at (by.safe-member a d e) = token a ++ marks_at Within d ++ marks_at Within e
marks_at at (by.bracket a d b) = token a ++ marks_at Within d ++ token b
marks_at at (by.dot a d) = token a ++ marks_at Within d
marks_at at (by.double-colon a d) = token a ++ marks_at Within d
marks_at at (by.bracket-meta a b c) = token a ++ token b ++ token c
marks_at at (by.dot-meta a b) = token a ++ token b
marks_at at (by.double-colon-meta a b) = token a ++ token b
-- atoms
marks_at at (by.paren-expr a d b) = as_key at (token a ++ marks_at Within d ++ token b)
marks_at at (by.name d) = marks_at Within d
marks_at at (by.table a d) = token a ++ marks_at Within d
marks_at at (by.block-expr a e h d) = token a ++ marks_at Within e ++ marks_at Leading d
marks_at at (by.list a d) = token a ++ marks_at Within d
marks_at at (by.atom-literal d) = as_key at (marks_at Within d)
marks_at at (by.fn-expr a d) = as_name at (token a) ++ marks_at Within d
marks_at at (by.closure-expr d) = marks_at Within d
marks_at at (by.do-expr a d) = token a ++ marks_at Within d
marks_at at (by.if-expr a d e f) = token a ++ marks_at Within d ++ marks_at Within e ++ marks_at Within f
marks_at at (by.match-expr a d b e) = token a ++ marks_at Within d ++ token b ++ marks_at Within e
marks_at at (by.loop-expr a d) = token a ++ marks_at Within d
marks_at at (by.while-expr a d e) = token a ++ marks_at Within d ++ marks_at Within e
marks_at at (by.for-expr a d b e f) = token a ++ marks_at Within d ++ token b ++ marks_at Within e ++ marks_at Within f
marks_at at (by.break-expr a) = token a
marks_at at (by.continue-expr a) = token a
marks_at at (by.return-expr a d) = token a ++ marks_at Within d
marks_at at (by.no-else h) = []
marks_at at (by.else-if a h d) = token a ++ marks_at Within d
marks_at at (by.else-block a d) = token a ++ marks_at Within d
marks_at at (by.last_name d h) = marks_at Within d
marks_at at (by.more-names d a e) = marks_at Within d ++ token a ++ marks_at Within e
marks_at at (by.no-case a) = token a
marks_at at (by.more-cases a d b e) = marks_at Within a ++ marks_at Within d ++ marks_at Within b ++ marks_at Within e
marks_at at (by.case-of d a e) = marks_at Within d ++ token a ++ marks_at Within e
marks_at at (by.last-pattern d h) = marks_at Within d
marks_at at (by.more-patterns d a e) = marks_at Within d ++ token a ++ marks_at Within e
-- the properties of a table
marks_at at (by.property d e) = marks_at Within d ++ marks_at Within e
marks_at at (by.paren-key a d b c) = token a ++ marks_at Within d ++ token b ++ token c
marks_at at (by.literal-key d a) = marks_at Within d ++ token a

-- the marks of a derivation's tokens
abbrev pub marks : {text : List ℕ} {y : Sym} {p q : Place} → Derives text y p q → List ℕ
marks d = marks_at Within d

-- how often tokens with these marks are read
unfoldable pub readings : List ℕ → ℕ
readings [] = 0
readings (m ∷ ms) = 2 ^ m + readings ms
