-- The grammar is unambiguous: of one symbol at one place there is one end and one shape. So a sheet has one tree at most.
use Prim.Native.Nat.{ℕ}
use mathlib.Core.Path.{◌≡◌, refl}
use mathlib.Core.List.{List}
use Rattle.grammar.specs.Places.{Place, opening}
use Rattle.grammar.specs.Symbols.{Sym}
use Rattle.grammar.specs.Derives.{Derives}
use Rattle.grammar.specs.Derives as g
use Rattle.grammar.specs.Builders.{blank}
use Rattle.grammar.specs.Follows.{Follows, program_over, tree_of}
use Rattle.grammar.proofs.UnambiguousClaims.{Sole, by-input}
use Rattle.grammar.proofs.UnambiguousSymbols.{by-symbol}

module _ {text : List ℕ} where
  -- by the claims on the parts
  pub unique : {y : Sym} {p q : Place} (d : Derives text y p q) → Sole y p q d
  unique (g.no-eol h) = by-symbol _ _ _ (g.no-eol h) tt
  unique (g.an-eol a d) = by-symbol _ _ _ (g.an-eol a d) tt
  unique (g.until-of a d) = by-symbol _ _ _ (g.until-of a d) (unique d)
  unique (g.items-end a) = by-symbol _ _ _ (g.items-end a) tt
  unique (g.items-last d a b) = by-symbol _ _ _ (g.items-last d a b) (unique d)
  unique (g.items-final d a b) = by-symbol _ _ _ (g.items-final d a b) (unique d)
  unique (g.items-comma d a b c e) = by-symbol _ _ _ (g.items-comma d a b c e) (unique d, unique e)
  unique (g.dots a) = by-symbol _ _ _ (g.dots a) tt
  unique (g.rest_of a d) = by-symbol _ _ _ (g.rest_of a d) (unique d)
  unique (g.a-literal a b) = by-symbol _ _ _ (g.a-literal a b) tt
  unique (g.an-ident a) = by-symbol _ _ _ (g.an-ident a) tt
  unique (g.one_type d h) = by-symbol _ _ _ (g.one_type d h) (unique d)
  unique (g.union d h e) = by-symbol _ _ _ (g.union d h e) (unique d, unique e)
  unique (g.no-bar h) = by-symbol _ _ _ (g.no-bar h) tt
  unique (g.a-bar a d e) = by-symbol _ _ _ (g.a-bar a d e) (unique d, unique e)
  unique (g.ty-paren a d b) = by-symbol _ _ _ (g.ty-paren a d b) (unique d)
  unique (g.ty-name d) = by-symbol _ _ _ (g.ty-name d) tt
  unique (g.ty-table a d) = by-symbol _ _ _ (g.ty-table a d) (unique d)
  unique (g.ty-function a d e) = by-symbol _ _ _ (g.ty-function a d e) (unique d, unique e)
  unique (g.ty-literal d) = by-symbol _ _ _ (g.ty-literal d) tt
  unique (g.ty-pair d a e) = by-symbol _ _ _ (g.ty-pair d a e) (unique e)
  unique (g.others a d b c e) = by-symbol _ _ _ (g.others a d b c e) (unique d, unique e)
  unique (g.no-type h) = by-symbol _ _ _ (g.no-type h) tt
  unique (g.returned a d) = by-symbol _ _ _ (g.returned a d) (unique d)
  unique (g.bare d h) = by-symbol _ _ _ (g.bare d h) tt
  unique (g.typed-ident d a e) = by-symbol _ _ _ (g.typed-ident d a e) (unique e)
  unique (g.params_of a d) = by-symbol _ _ _ (g.params_of a d) (unique d)
  unique (g.closure-params a d) = by-symbol _ _ _ (g.closure-params a d) (unique d)
  unique (g.pattern-name d) = by-symbol _ _ _ (g.pattern-name d) tt
  unique (g.pattern-table a d) = by-symbol _ _ _ (g.pattern-table a d) (unique d)
  unique (g.pattern-list a d) = by-symbol _ _ _ (g.pattern-list a d) (unique d)
  unique (g.pattern-literal d) = by-symbol _ _ _ (g.pattern-literal d) tt
  unique (g.pattern-pair d a e) = by-symbol _ _ _ (g.pattern-pair d a e) (unique e)
  unique (g.exprs-of a d) = by-symbol _ _ _ (g.exprs-of a d) (unique d)
  unique (g.no-stmt a) = by-symbol _ _ _ (g.no-stmt a) tt
  unique (g.last-stmt d a) = by-symbol _ _ _ (g.last-stmt d a) (unique d)
  unique (g.a-line d a b e) = by-symbol _ _ _ (g.a-line d a b e) (unique d, unique e)
  unique (g.block_of a d) = by-symbol _ _ _ (g.block_of a d) (unique d)
  unique (g.function_of d e f) = by-symbol _ _ _ (g.function_of d e f) (unique d, unique e, unique f)
  unique (g.effect_of a d e f) = by-symbol _ _ _ (g.effect_of a d e f) (unique e, unique f)
  unique (g.fn-stmt a d e) = by-symbol _ _ _ (g.fn-stmt a d e) (unique e)
  unique (g.import-stmt a d) = by-symbol _ _ _ (g.import-stmt a d) (unique d)
  unique (g.effect-stmt d) = by-symbol _ _ _ (g.effect-stmt d) (unique d)
  unique (g.glo-fn a b d e) = by-symbol _ _ _ (g.glo-fn a b d e) (unique e)
  unique (g.glo-effect a d) = by-symbol _ _ _ (g.glo-effect a d) (unique d)
  unique (g.glo-assign a d b e) = by-symbol _ _ _ (g.glo-assign a d b e) (unique d, unique e)
  unique (g.path-more d a e) = by-symbol _ _ _ (g.path-more d a e) (unique e)
  unique (g.path-alone d h) = by-symbol _ _ _ (g.path-alone d h) tt
  unique (g.path-as d a e) = by-symbol _ _ _ (g.path-as d a e) tt
  unique (g.path-items d a b e) = by-symbol _ _ _ (g.path-items d a b e) (unique e)
  unique (g.path-all d a b) = by-symbol _ _ _ (g.path-all d a b) tt
  unique (g.item-alone d h) = by-symbol _ _ _ (g.item-alone d h) tt
  unique (g.item-as d a e) = by-symbol _ _ _ (g.item-as d a e) tt
  unique (g.expr-stmt d h) = by-symbol _ _ _ (g.expr-stmt d h) (unique d)
  unique (g.assign d f a e) = by-symbol _ _ _ (g.assign d f a e) (unique d, unique e)
  unique (g.typed-assign d a e b f) = by-symbol _ _ _ (g.typed-assign d a e b f) (unique d, unique e, unique f)
  unique (g.op-assign d f c a e) = by-symbol _ _ _ (g.op-assign d f c a e) (unique d, unique e)
  unique (g.unpack d f e a k h) = by-symbol _ _ _ (g.unpack d f e a k h) (unique d, unique e, unique k)
  unique (g.multi d f e a k h) = by-symbol _ _ _ (g.multi d f e a k h) (unique d, unique e, unique k, unique h)
  unique (g.no-left h) = by-symbol _ _ _ (g.no-left h) tt
  unique (g.a-left a d f e) = by-symbol _ _ _ (g.a-left a d f e) (unique d, unique e)
  unique g.no-right = by-symbol _ _ _ g.no-right tt
  unique (g.a-right a d e) = by-symbol _ _ _ (g.a-right a d e) (unique d, unique e)
  unique (g.expr-of d) = by-symbol _ _ _ (g.expr-of d) (unique d)
  unique (g.prec-of d e) = by-symbol _ _ _ (g.prec-of d e) (unique d, unique e)
  unique (g.no-op h) = by-symbol _ _ _ (g.no-op h) tt
  unique (g.binary l h a d e) = by-symbol _ _ _ (g.binary l h a d e) (unique d, unique e)
  unique (g.type-check l a c b e) = by-symbol _ _ _ (g.type-check l a c b e) (unique e)
  unique (g.not-expr a d) = by-symbol _ _ _ (g.not-expr a d) (unique d)
  unique (g.neg-expr a d) = by-symbol _ _ _ (g.neg-expr a d) (unique d)
  unique (g.tried a d e) = by-symbol _ _ _ (g.tried a d e) (unique d, unique e)
  unique (g.no-unary d) = by-symbol _ _ _ (g.no-unary d) (unique d)
  unique (g.last-handler d h) = by-symbol _ _ _ (g.last-handler d h) (unique d)
  unique (g.more-handlers d e) = by-symbol _ _ _ (g.more-handlers d e) (unique d, unique e)
  unique (g.handler-of a d e f) = by-symbol _ _ _ (g.handler-of a d e f) (unique e, unique f)
  unique (g.primary-of d e) = by-symbol _ _ _ (g.primary-of d e) (unique d, unique e)
  unique (g.no-post h l) = by-symbol _ _ _ (g.no-post h l) tt
  unique (g.call a d l e) = by-symbol _ _ _ (g.call a d l e) (unique d, unique e)
  unique (g.call-lambda a d f e) = by-symbol _ _ _ (g.call-lambda a d f e) (unique d, unique f, unique e)
  unique (g.lambda-alone d e) = by-symbol _ _ _ (g.lambda-alone d e) (unique d, unique e)
  unique (g.member d e) = by-symbol _ _ _ (g.member d e) (unique d, unique e)
  unique (g.safe-member a d e) = by-symbol _ _ _ (g.safe-member a d e) (unique d, unique e)
  unique (g.bracket a d b) = by-symbol _ _ _ (g.bracket a d b) (unique d)
  unique (g.dot a d) = by-symbol _ _ _ (g.dot a d) tt
  unique (g.double-colon a d) = by-symbol _ _ _ (g.double-colon a d) tt
  unique (g.bracket-meta a b c) = by-symbol _ _ _ (g.bracket-meta a b c) tt
  unique (g.dot-meta a b) = by-symbol _ _ _ (g.dot-meta a b) tt
  unique (g.double-colon-meta a b) = by-symbol _ _ _ (g.double-colon-meta a b) tt
  unique (g.paren-expr a d b) = by-symbol _ _ _ (g.paren-expr a d b) (unique d)
  unique (g.name d) = by-symbol _ _ _ (g.name d) tt
  unique (g.table a d) = by-symbol _ _ _ (g.table a d) (unique d)
  unique (g.block-expr a e h d) = by-symbol _ _ _ (g.block-expr a e h d) (unique d)
  unique (g.list a d) = by-symbol _ _ _ (g.list a d) (unique d)
  unique (g.atom-literal d) = by-symbol _ _ _ (g.atom-literal d) tt
  unique (g.fn-expr a d) = by-symbol _ _ _ (g.fn-expr a d) (unique d)
  unique (g.closure-expr d) = by-symbol _ _ _ (g.closure-expr d) (unique d)
  unique (g.do-expr a d) = by-symbol _ _ _ (g.do-expr a d) (unique d)
  unique (g.if-expr a d e f) = by-symbol _ _ _ (g.if-expr a d e f) (unique d, unique e, unique f)
  unique (g.match-expr a d b e) = by-symbol _ _ _ (g.match-expr a d b e) (unique d, unique e)
  unique (g.loop-expr a d) = by-symbol _ _ _ (g.loop-expr a d) (unique d)
  unique (g.while-expr a d e) = by-symbol _ _ _ (g.while-expr a d e) (unique d, unique e)
  unique (g.for-expr a d b e f) = by-symbol _ _ _ (g.for-expr a d b e f) (unique d, unique e, unique f)
  unique (g.break-expr a) = by-symbol _ _ _ (g.break-expr a) tt
  unique (g.continue-expr a) = by-symbol _ _ _ (g.continue-expr a) tt
  unique (g.return-expr a d) = by-symbol _ _ _ (g.return-expr a d) (unique d)
  unique (g.no-else h) = by-symbol _ _ _ (g.no-else h) tt
  unique (g.else-if a h d) = by-symbol _ _ _ (g.else-if a h d) (unique d)
  unique (g.else-block a d) = by-symbol _ _ _ (g.else-block a d) (unique d)
  unique (g.last_name d h) = by-symbol _ _ _ (g.last_name d h) tt
  unique (g.more-names d a e) = by-symbol _ _ _ (g.more-names d a e) (unique e)
  unique (g.no-case a) = by-symbol _ _ _ (g.no-case a) tt
  unique (g.more-cases a d b e) = by-symbol _ _ _ (g.more-cases a d b e) (unique d, unique e)
  unique (g.case-of d a e) = by-symbol _ _ _ (g.case-of d a e) (unique d, unique e)
  unique (g.last-pattern d h) = by-symbol _ _ _ (g.last-pattern d h) (unique d)
  unique (g.more-patterns d a e) = by-symbol _ _ _ (g.more-patterns d a e) (unique d, unique e)
  unique (g.property d e) = by-symbol _ _ _ (g.property d e) (unique d, unique e)
  unique (g.paren-key a d b c) = by-symbol _ _ _ (g.paren-key a d b c) (unique d)
  unique (g.literal-key d a) = by-symbol _ _ _ (g.literal-key d a) tt

-- the trees of a sheet are one
pub one-tree : {text tokens : List ℕ} (f h : Follows text tokens) → tree_of f ≡ tree_of h
unfolding tree_of
one-tree {tokens = tokens} f h = let r = (unique f.body by-input).agrees h.body refl in λ i. program_over (opening tokens) (r.ends i) (r.shapes 0 blank i)
