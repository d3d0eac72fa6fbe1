-- The readings that a derivation costs are the sum over its tokens' marks.
use Prim.Native.Nat.{ℕ}
use mathlib.Core.Path.{◌≡◌, sym}
use mathlib.Core.List.{List}
use Rattle.grammar.specs.Places.{Place}
use Rattle.grammar.specs.Symbols.{Sym}
use Rattle.grammar.specs.Derives.{Derives}
use Rattle.grammar.specs.Derives as by
use Rattle.grammar.specs.Follows.{Follows}
use Rattle.complete.proofs.Cost.{costs, cost}
use Rattle.complete.proofs.Leading.{literal-reads}
use Rattle.marks.specs.Marks.{Stand, Leading, Within, opening, marks_at, marks, readings}
use Rattle.marks.proofs.Sums.{Sums, total, none, place, taking, ◌⊕◌, level, front, behind, opens, as-key, paren-key, as-name, in_block}

pub marked : {text : List ℕ} {y : Sym} {p q : Place} (at : Stand) (d : Derives text y p q) → Sums (marks_at at d) (total at (costs d))
unfolding marks_at costs
-- helpers
marked at (by.no-eol h) = level at none
marked at (by.an-eol a d) = level at (taking a ⊕ marked Within d)
marked at (by.until-of a d) = level at (marked Within a ⊕ marked Within d)
marked at (by.items-end a) = level at (taking a)
marked at (by.items-last d a b) = level at (marked Within d ⊕ marked Within a ⊕ taking b)
marked at (by.items-final d a b) = level at (marked Within d ⊕ marked Within a ⊕ taking b)
marked at (by.items-comma d a b c e) = level at (marked Within d ⊕ marked Within a ⊕ taking b ⊕ marked Within c ⊕ marked Within e)
marked at (by.dots a) = level at (taking a)
marked at (by.rest_of a d) = level at (taking a ⊕ marked Within d)
-- literals and names
marked at (by.a-literal {p = p} a b) = level at (place p)
marked at (by.an-ident a) = level at (taking a)
-- types
marked at (by.one_type d h) = level at (marked Within d)
marked at (by.union d h e) = level at (marked Within d ⊕ marked Within e)
marked at (by.no-bar h) = level at none
marked at (by.a-bar a d e) = level at (taking a ⊕ marked Within d ⊕ marked Within e)
marked at (by.ty-paren a d b) = level at (taking a ⊕ marked Within d ⊕ taking b)
marked at (by.ty-name d) = level at (marked Within d)
marked at (by.ty-table a d) = level at (taking a ⊕ marked Within d)
marked at (by.ty-function a d e) = level at (taking a ⊕ marked Within d ⊕ marked Within e)
marked at (by.ty-literal d) = level at (marked Within d)
marked at (by.ty-pair d a e) = level at (marked Within d ⊕ taking a ⊕ marked Within e)
marked at (by.others a d b c e) = level at (taking a ⊕ marked Within d ⊕ taking b ⊕ taking c ⊕ marked Within e)
marked at (by.no-type h) = level at none
marked at (by.returned a d) = level at (taking a ⊕ marked Within d)
marked at (by.bare d h) = level at (marked Within d)
marked at (by.typed-ident d a e) = level at (marked Within d ⊕ taking a ⊕ marked Within e)
marked at (by.params_of a d) = level at (taking a ⊕ marked Within d)
marked at (by.closure-params a d) = level at (taking a ⊕ marked Within d)
-- patterns
marked at (by.pattern-name d) = level at (marked Within d)
marked at (by.pattern-table a d) = level at (taking a ⊕ marked Within d)
marked at (by.pattern-list a d) = level at (taking a ⊕ marked Within d)
marked at (by.pattern-literal d) = level at (marked Within d)
marked at (by.pattern-pair d a e) = level at (marked Within d ⊕ taking a ⊕ marked Within e)
-- statements in a row
marked at (by.exprs-of a d) = behind at (costs d) (marked Within a) (marked at d)
marked at (by.no-stmt a) = level at (taking a)
marked at (by.last-stmt d a) = front at _ (marked at d) (taking a)
marked at (by.a-line d a b e) = front at _ (front at _ (front at _ (marked at d) (taking a)) (marked Within b)) (marked Within e)
marked at (by.block_of a d) = level at (taking a ⊕ marked Within d)
-- functions and effects
marked at (by.function_of d e f) = level at (marked Within d ⊕ marked Within e ⊕ marked Within f)
marked at (by.effect_of a d e f) = level at (taking a ⊕ marked Within d ⊕ marked Within e ⊕ marked Within f)
-- statements
marked at (by.fn-stmt a d e) = level at (taking a ⊕ marked Within d ⊕ marked Within e)
marked at (by.import-stmt a d) = level at (taking a ⊕ marked Within d)
marked at (by.effect-stmt d) = level at (marked Within d)
marked at (by.glo-fn a b d e) = level at (taking a ⊕ taking b ⊕ marked Within d ⊕ marked Within e)
marked at (by.glo-effect a d) = level at (taking a ⊕ marked Within d)
marked at (by.glo-assign a d b e) = level at (taking a ⊕ marked Within d ⊕ taking b ⊕ marked Within e)
marked at (by.path-more d a e) = level at (marked Within d ⊕ taking a ⊕ marked Within e)
marked at (by.path-alone d h) = level at (marked Within d)
marked at (by.path-as d a e) = level at (marked Within d ⊕ taking a ⊕ marked Within e)
marked at (by.path-items d a b e) = level at (marked Within d ⊕ taking a ⊕ taking b ⊕ marked Within e)
marked at (by.path-all d a b) = level at (marked Within d ⊕ taking a ⊕ taking b)
marked at (by.item-alone d h) = level at (marked Within d)
marked at (by.item-as d a e) = level at (marked Within d ⊕ taking a ⊕ marked Within e)
marked at (by.expr-stmt d h) = opens at (costs d) (marked (opening at) d)
marked at (by.assign d f a e) = front at _ (front at _ (opens at (costs d) (marked (opening at) d)) (taking a)) (marked Within e)
marked at (by.typed-assign d a e b f) = front at _ (front at _ (front at _ (front at _ (opens at (costs d) (marked (opening at) d)) (taking a)) (marked Within e)) (taking b)) (marked Within f)
marked at (by.op-assign d f c a e) = front at _ (front at _ (opens at (costs d) (marked (opening at) d)) (taking a)) (marked Within e)
marked at (by.unpack d f e a g h) = front at _ (front at _ (front at _ (opens at (costs d) (marked (opening at) d)) (marked Within e)) (taking a)) (marked Within g)
marked at (by.multi d f e a g h) = front at _ (front at _ (front at _ (front at _ (opens at (costs d) (marked (opening at) d)) (marked Within e)) (taking a)) (marked Within g)) (marked Within h)
marked at (by.no-left h) = level at none
marked at (by.a-left a d f e) = level at (taking a ⊕ marked Within d ⊕ marked Within e)
marked at by.no-right = level at none
marked at (by.a-right a d e) = level at (taking a ⊕ marked Within d ⊕ marked Within e)
-- expressions with operators
marked at (by.expr-of d) = level at (marked Within d)
marked at (by.prec-of d e) = front at _ (marked at d) (marked Within e)
marked at (by.no-op h) = level at none
marked at (by.binary l h a d e) = level at (taking a ⊕ marked Within d ⊕ marked Within e)
marked at (by.type-check {q = q} l a c b e) = level at (taking a ⊕ place q ⊕ marked Within e)
marked at (by.not-expr a d) = level at (taking a ⊕ marked Within d)
marked at (by.neg-expr a d) = level at (taking a ⊕ marked Within d)
marked at (by.tried a d e) = level at (taking a ⊕ marked Within d ⊕ marked Within e)
marked at (by.no-unary d) = marked at d
marked at (by.last-handler d h) = level at (marked Within d)
marked at (by.more-handlers d e) = level at (marked Within d ⊕ marked Within e)
marked at (by.handler-of a d e f) = level at (taking a ⊕ marked Within d ⊕ marked Within e ⊕ marked Within f)
-- calls and members
marked at (by.primary-of d e) = front at _ (marked at d) (marked Within e)
marked at (by.no-post h l) = level at none
marked at (by.call a d l e) = level at (taking a ⊕ marked Within d ⊕ marked Within e)
marked at (by.call-lambda a d f e) = level at (taking a ⊕ marked Within d ⊕ marked Within f ⊕ marked Within e)
marked at (by.lambda-alone d e) = level at (marked Within d ⊕ marked Within e)
marked at (by.member d e) = level at (marked Within d ⊕ marked Within e)
marked at (by.safe-member a d e) = level at (taking a ⊕ marked Within d ⊕ marked Within e)
marked at (by.bracket a d b) = level at (taking a ⊕ marked Within d ⊕ taking b)
marked at (by.dot a d) = level at (taking a ⊕ marked Within d)
marked at (by.double-colon a d) = level at (taking a ⊕ marked Within d)
marked at (by.bracket-meta a b c) = level at (taking a ⊕ taking b ⊕ taking c)
marked at (by.dot-meta a b) = level at (taking a ⊕ taking b)
marked at (by.double-colon-meta a b) = level at (taking a ⊕ taking b)
-- atoms
marked at (by.paren-expr a d b) = as-key at (taking a ⊕ marked Within d ⊕ taking b) (paren-key a (costs d).whole b)
marked at (by.name d) = level at (marked Within d)
marked at (by.table a d) = level at (taking a ⊕ marked Within d)
marked at (by.block-expr a e h d) = level at (taking a ⊕ marked Within e ⊕ in_block d (marked Leading d))
marked at (by.list a d) = level at (taking a ⊕ marked Within d)
marked at (by.atom-literal d) = as-key at (marked Within d) (literal-reads d)
marked at (by.fn-expr a d) = as-name at a (marked Within d)
marked at (by.closure-expr d) = level at (marked Within d)
marked at (by.do-expr a d) = level at (taking a ⊕ marked Within d)
marked at (by.if-expr a d e f) = level at (taking a ⊕ marked Within d ⊕ marked Within e ⊕ marked Within f)
marked at (by.match-expr a d b e) = level at (taking a ⊕ marked Within d ⊕ taking b ⊕ marked Within e)
marked at (by.loop-expr a d) = level at (taking a ⊕ marked Within d)
marked at (by.while-expr a d e) = level at (taking a ⊕ marked Within d ⊕ marked Within e)
marked at (by.for-expr a d b e f) = level at (taking a ⊕ marked Within d ⊕ taking b ⊕ marked Within e ⊕ marked Within f)
marked at (by.break-expr a) = level at (taking a)
marked at (by.continue-expr a) = level at (taking a)
marked at (by.return-expr a d) = level at (taking a ⊕ marked Within d)
marked at (by.no-else h) = level at none
marked at (by.else-if a h d) = level at (taking a ⊕ marked Within d)
marked at (by.else-block a d) = level at (taking a ⊕ marked Within d)
marked at (by.last_name d h) = level at (marked Within d)
marked at (by.more-names d a e) = level at (marked Within d ⊕ taking a ⊕ marked Within e)
marked at (by.no-case a) = level at (taking a)
marked at (by.more-cases a d b e) = level at (marked Within a ⊕ marked Within d ⊕ marked Within b ⊕ marked Within e)
marked at (by.case-of d a e) = level at (marked Within d ⊕ taking a ⊕ marked Within e)
marked at (by.last-pattern d h) = level at (marked Within d)
marked at (by.more-patterns d a e) = level at (marked Within d ⊕ taking a ⊕ marked Within e)
-- the properties of a table
marked at (by.property d e) = level at (marked Within d ⊕ marked Within e)
marked at (by.paren-key a d b c) = level at (taking a ⊕ marked Within d ⊕ taking b ⊕ taking c)
marked at (by.literal-key d a) = level at (marked Within d ⊕ taking a)

-- the readings of a whole sheet
pub cost-marks : {text tokens : List ℕ} (f : Follows text tokens) → cost f.body ≡ readings (marks f.body)
cost-marks f = sym (marked Within f.body).sum
