-- The claims on the parts of a derivation. Eols, names and literals are left out: what is claimed of them holds by itself.
use Prim.Native.Nat.{ℕ}
use mathlib.Core.List.{List}
use Rattle.grammar.specs.Places.{Place}
use Rattle.grammar.specs.Symbols.{Sym}
use Rattle.grammar.specs.Derives.{Derives}
use Rattle.grammar.specs.Derives as g
use Rattle.grammar.proofs.UnambiguousClaims.{Sole}

module _ {text : List ℕ} where
  abbrev Of : {y : Sym} {p q : Place} → Derives text y p q → Type 0
  Of d = Sole _ _ _ d

  abbrev pub Below : {y : Sym} {p q : Place} → Derives text y p q → Type 0
  Below (g.no-eol h) = Unit
  Below (g.an-eol a d) = Unit
  Below (g.until-of a d) = Of d
  Below (g.items-end a) = Unit
  Below (g.items-last d a b) = Of d
  Below (g.items-final d a b) = Of d
  Below (g.items-comma d a b c e) = Of d × Of e
  Below (g.dots a) = Unit
  Below (g.rest_of a d) = Of d
  Below (g.a-literal a b) = Unit
  Below (g.an-ident a) = Unit
  Below (g.one_type d h) = Of d
  Below (g.union d h e) = Of d × Of e
  Below (g.no-bar h) = Unit
  Below (g.a-bar a d e) = Of d × Of e
  Below (g.ty-paren a d b) = Of d
  Below (g.ty-name d) = Unit
  Below (g.ty-table a d) = Of d
  Below (g.ty-function a d e) = Of d × Of e
  Below (g.ty-literal d) = Unit
  Below (g.ty-pair d a e) = Of e
  Below (g.others a d b c e) = Of d × Of e
  Below (g.no-type h) = Unit
  Below (g.returned a d) = Of d
  Below (g.bare d h) = Unit
  Below (g.typed-ident d a e) = Of e
  Below (g.params_of a d) = Of d
  Below (g.closure-params a d) = Of d
  Below (g.pattern-name d) = Unit
  Below (g.pattern-table a d) = Of d
  Below (g.pattern-list a d) = Of d
  Below (g.pattern-literal d) = Unit
  Below (g.pattern-pair d a e) = Of e
  Below (g.exprs-of a d) = Of d
  Below (g.no-stmt a) = Unit
  Below (g.last-stmt d a) = Of d
  Below (g.a-line d a b e) = Of d × Of e
  Below (g.block_of a d) = Of d
  Below (g.function_of d e f) = Of d × Of e × Of f
  Below (g.effect_of a d e f) = Of e × Of f
  Below (g.fn-stmt a d e) = Of e
  Below (g.import-stmt a d) = Of d
  Below (g.effect-stmt d) = Of d
  Below (g.glo-fn a b d e) = Of e
  Below (g.glo-effect a d) = Of d
  Below (g.glo-assign a d b e) = Of d × Of e
  Below (g.path-more d a e) = Of e
  Below (g.path-alone d h) = Unit
  Below (g.path-as d a e) = Unit
  Below (g.path-items d a b e) = Of e
  Below (g.path-all d a b) = Unit
  Below (g.item-alone d h) = Unit
  Below (g.item-as d a e) = Unit
  Below (g.expr-stmt d h) = Of d
  Below (g.assign d f a e) = Of d × Of e
  Below (g.typed-assign d a e b f) = Of d × Of e × Of f
  Below (g.op-assign d f c a e) = Of d × Of e
  Below (g.unpack d f e a k h) = Of d × Of e × Of k
  Below (g.multi d f e a k h) = Of d × Of e × Of k × Of h
  Below (g.no-left h) = Unit
  Below (g.a-left a d f e) = Of d × Of e
  Below g.no-right = Unit
  Below (g.a-right a d e) = Of d × Of e
  Below (g.expr-of d) = Of d
  Below (g.prec-of d e) = Of d × Of e
  Below (g.no-op h) = Unit
  Below (g.binary l h a d e) = Of d × Of e
  Below (g.type-check l a c b e) = Of e
  Below (g.not-expr a d) = Of d
  Below (g.neg-expr a d) = Of d
  Below (g.tried a d e) = Of d × Of e
  Below (g.no-unary d) = Of d
  Below (g.last-handler d h) = Of d
  Below (g.more-handlers d e) = Of d × Of e
  Below (g.handler-of a d e f) = Of e × Of f
  Below (g.primary-of d e) = Of d × Of e
  Below (g.no-post h l) = Unit
  Below (g.call a d l e) = Of d × Of e
  Below (g.call-lambda a d f e) = Of d × Of f × Of e
  Below (g.lambda-alone d e) = Of d × Of e
  Below (g.member d e) = Of d × Of e
  Below (g.safe-member a d e) = Of d × Of e
  Below (g.bracket a d b) = Of d
  Below (g.dot a d) = Unit
  Below (g.double-colon a d) = Unit
  Below (g.bracket-meta a b c) = Unit
  Below (g.dot-meta a b) = Unit
  Below (g.double-colon-meta a b) = Unit
  Below (g.paren-expr a d b) = Of d
  Below (g.name d) = Unit
  Below (g.table a d) = Of d
  Below (g.block-expr a e h d) = Of d
  Below (g.list a d) = Of d
  Below (g.atom-literal d) = Unit
  Below (g.fn-expr a d) = Of d
  Below (g.closure-expr d) = Of d
  Below (g.do-expr a d) = Of d
  Below (g.if-expr a d e f) = Of d × Of e × Of f
  Below (g.match-expr a d b e) = Of d × Of e
  Below (g.loop-expr a d) = Of d
  Below (g.while-expr a d e) = Of d × Of e
  Below (g.for-expr a d b e f) = Of d × Of e × Of f
  Below (g.break-expr a) = Unit
  Below (g.continue-expr a) = Unit
  Below (g.return-expr a d) = Of d
  Below (g.no-else h) = Unit
  Below (g.else-if a h d) = Of d
  Below (g.else-block a d) = Of d
  Below (g.last_name d h) = Unit
  Below (g.more-names d a e) = Of e
  Below (g.no-case a) = Unit
  Below (g.more-cases a d b e) = Of d × Of e
  Below (g.case-of d a e) = Of d × Of e
  Below (g.last-pattern d h) = Of d
  Below (g.more-patterns d a e) = Of d × Of e
  Below (g.property d e) = Of d × Of e
  Below (g.paren-key a d b c) = Of d
  Below (g.literal-key d a) = Unit
