-- What the parser reads for a derivation: how often it takes a token. A token is taken once, and once more for every attempt at it that was
-- made in vain. There are two: a key and its Colon are attempted behind a `{` that opens an expression, and a named function at a `fn` that
-- opens a statement.
use Prim.Native.Nat.{ℕ, ◌+◌}
use mathlib.Core.Path.{◌≡◌, refl}
use mathlib.Core.List.{List, [], ◌∷◌}
use mathlib.Core.Bool.{false}
use lib.Dec.{eqb}
use Rattle.kinds.specs.Number as kind
use Rattle.grammar.specs.Places.{Token, Place, kind_in, kind_of, Tok, Not}
use Rattle.grammar.specs.Symbols.{Sym}
use Rattle.grammar.specs.Derives.{Derives}
use Rattle.grammar.specs.Derives as by
use Rattle.grammar.proofs.Tests.{at-token, elsewhere}

-- one reading where there is a token, none at the end of input
abbrev pub taken_in : List Token → ℕ
taken_in [] = 0
taken_in (t ∷ ts) = 1

abbrev pub taken : Place → ℕ
taken p = taken_in p.rest

-- the same of a terminal
abbrev pub spent : {k : ℕ} {p q : Place} → Tok k p q → ℕ
spent {p = p} t = taken p

-- which is one for each token that is no end of input
pub one-taken : {p : Place} → Not kind.Eof p → taken p ≡ 1
unfolding kind_of
one-taken {p} h = go p.rest h.differs
  where
    go : (ts : List Token) → (kind_in ts ≡ kind.Eof → ⊥) → taken_in ts ≡ 1
    go [] n = absurd (n refl)
    go (t ∷ ts) n = refl

pub one-spent : {k : ℕ} {p q : Place} (t : Tok k p q) → eqb k kind.Eof ≡ false → spent t ≡ 1
one-spent t e = one-taken (elsewhere kind.Eof e (at-token t))

-- all readings of a part; what a key reads in vain that is attempted at its front: a group with all that is in it, or a literal; and 1 where
-- the `fn` of a function without a name stands at its front, which is read in vain where a statement begins
pub record Costs : Type 0 where
  pub whole : ℕ
  pub key : ℕ
  pub fn : ℕ

-- a part with nothing of this at its front, with a key, with a `fn`, and with what its own first part has
abbrev pub flat : ℕ → Costs
flat n = record { whole = n; key = 0; fn = 0 }

abbrev pub keyed : ℕ → ℕ → Costs
keyed k n = record { whole = n; key = k; fn = 0 }

abbrev pub nameless : ℕ → Costs
nameless n = record { whole = n; key = 0; fn = 1 }

abbrev pub fronted : Costs → ℕ → Costs
fronted c n = record { whole = n; key = c.key; fn = c.fn }

-- an expression that opens a statement
abbrev pub opened : Costs → ℕ
opened c = c.fn + c.whole

unfoldable pub costs : {text : List ℕ} {y : Sym} {p q : Place} → Derives text y p q → Costs
-- helpers
costs (by.no-eol h) = flat 0
costs (by.an-eol a d) = flat (spent a + (costs d).whole)
costs (by.until-of a d) = flat ((costs a).whole + (costs d).whole)
costs (by.items-end a) = flat (spent a)
costs (by.items-last d a b) = flat ((costs d).whole + (costs a).whole + spent b)
costs (by.items-final d a b) = flat ((costs d).whole + (costs a).whole + spent b)
costs (by.items-comma d a b c e) = flat ((costs d).whole + (costs a).whole + spent b + (costs c).whole + (costs e).whole)
costs (by.dots a) = flat (spent a)
costs (by.rest_of a d) = flat (spent a + (costs d).whole)
-- literals and names
costs (by.a-literal {p = p} a b) = flat (taken p)
costs (by.an-ident a) = flat (spent a)
-- types
costs (by.one_type d h) = flat (costs d).whole
costs (by.union d h e) = flat ((costs d).whole + (costs e).whole)
costs (by.no-bar h) = flat 0
costs (by.a-bar a d e) = flat (spent a + (costs d).whole + (costs e).whole)
costs (by.ty-paren a d b) = flat (spent a + (costs d).whole + spent b)
costs (by.ty-name d) = flat (costs d).whole
costs (by.ty-table a d) = flat (spent a + (costs d).whole)
costs (by.ty-function a d e) = flat (spent a + (costs d).whole + (costs e).whole)
costs (by.ty-literal d) = flat (costs d).whole
costs (by.ty-pair d a e) = flat ((costs d).whole + spent a + (costs e).whole)
costs (by.others a d b c e) = flat (spent a + (costs d).whole + spent b + spent c + (costs e).whole)
costs (by.no-type h) = flat 0
costs (by.returned a d) = flat (spent a + (costs d).whole)
costs (by.bare d h) = flat (costs d).whole
costs (by.typed-ident d a e) = flat ((costs d).whole + spent a + (costs e).whole)
costs (by.params_of a d) = flat (spent a + (costs d).whole)
costs (by.closure-params a d) = flat (spent a + (costs d).whole)
-- patterns
costs (by.pattern-name d) = flat (costs d).whole
costs (by.pattern-table a d) = flat (spent a + (costs d).whole)
costs (by.pattern-list a d) = flat (spent a + (costs d).whole)
costs (by.pattern-literal d) = flat (costs d).whole
costs (by.pattern-pair d a e) = flat ((costs d).whole + spent a + (costs e).whole)
-- statements in a row
costs (by.exprs-of a d) = fronted (costs d) ((costs a).whole + (costs d).whole)
costs (by.no-stmt a) = flat (spent a)
costs (by.last-stmt d a) = fronted (costs d) ((costs d).whole + spent a)
costs (by.a-line d a b e) = fronted (costs d) ((costs d).whole + spent a + (costs b).whole + (costs e).whole)
costs (by.block_of a d) = flat (spent a + (costs d).whole)
-- functions and effects
costs (by.function_of d e f) = flat ((costs d).whole + (costs e).whole + (costs f).whole)
costs (by.effect_of a d e f) = flat (spent a + (costs d).whole + (costs e).whole + (costs f).whole)
-- statements
costs (by.fn-stmt a d e) = flat (spent a + (costs d).whole + (costs e).whole)
costs (by.import-stmt a d) = flat (spent a + (costs d).whole)
costs (by.effect-stmt d) = flat (costs d).whole
costs (by.glo-fn a b d e) = flat (spent a + spent b + (costs d).whole + (costs e).whole)
costs (by.glo-effect a d) = flat (spent a + (costs d).whole)
costs (by.glo-assign a d b e) = flat (spent a + (costs d).whole + spent b + (costs e).whole)
costs (by.path-more d a e) = flat ((costs d).whole + spent a + (costs e).whole)
costs (by.path-alone d h) = flat (costs d).whole
costs (by.path-as d a e) = flat ((costs d).whole + spent a + (costs e).whole)
costs (by.path-items d a b e) = flat ((costs d).whole + spent a + spent b + (costs e).whole)
costs (by.path-all d a b) = flat ((costs d).whole + spent a + spent b)
costs (by.item-alone d h) = flat (costs d).whole
costs (by.item-as d a e) = flat ((costs d).whole + spent a + (costs e).whole)
costs (by.expr-stmt d h) = keyed (costs d).key (opened (costs d))
costs (by.assign d f a e) = keyed (costs d).key (opened (costs d) + spent a + (costs e).whole)
costs (by.typed-assign d a e b f) = keyed (costs d).key (opened (costs d) + spent a + (costs e).whole + spent b + (costs f).whole)
costs (by.op-assign d f c a e) = keyed (costs d).key (opened (costs d) + spent a + (costs e).whole)
costs (by.unpack d f e a g h) = keyed (costs d).key (opened (costs d) + (costs e).whole + spent a + (costs g).whole)
costs (by.multi d f e a g h) = keyed (costs d).key (opened (costs d) + (costs e).whole + spent a + (costs g).whole + (costs h).whole)
costs (by.no-left h) = flat 0
costs (by.a-left a d f e) = flat (spent a + (costs d).whole + (costs e).whole)
costs by.no-right = flat 0
costs (by.a-right a d e) = flat (spent a + (costs d).whole + (costs e).whole)
-- expressions with operators
costs (by.expr-of d) = flat (costs d).whole
costs (by.prec-of d e) = fronted (costs d) ((costs d).whole + (costs e).whole)
costs (by.no-op h) = flat 0
costs (by.binary l h a d e) = flat (spent a + (costs d).whole + (costs e).whole)
costs (by.type-check {q = q} l a c b e) = flat (spent a + taken q + (costs e).whole)
costs (by.not-expr a d) = flat (spent a + (costs d).whole)
costs (by.neg-expr a d) = flat (spent a + (costs d).whole)
costs (by.tried a d e) = flat (spent a + (costs d).whole + (costs e).whole)
costs (by.no-unary d) = fronted (costs d) (costs d).whole
costs (by.last-handler d h) = flat (costs d).whole
costs (by.more-handlers d e) = flat ((costs d).whole + (costs e).whole)
costs (by.handler-of a d e f) = flat (spent a + (costs d).whole + (costs e).whole + (costs f).whole)
-- calls and members
costs (by.primary-of d e) = fronted (costs d) ((costs d).whole + (costs e).whole)
costs (by.no-post h l) = flat 0
costs (by.call a d l e) = flat (spent a + (costs d).whole + (costs e).whole)
costs (by.call-lambda a d f e) = flat (spent a + (costs d).whole + (costs f).whole + (costs e).whole)
costs (by.lambda-alone d e) = flat ((costs d).whole + (costs e).whole)
costs (by.member d e) = flat ((costs d).whole + (costs e).whole)
costs (by.safe-member a d e) = flat (spent a + (costs d).whole + (costs e).whole)
costs (by.bracket a d b) = flat (spent a + (costs d).whole + spent b)
costs (by.dot a d) = flat (spent a + (costs d).whole)
costs (by.double-colon a d) = flat (spent a + (costs d).whole)
costs (by.bracket-meta a b c) = flat (spent a + spent b + spent c)
costs (by.dot-meta a b) = flat (spent a + spent b)
costs (by.double-colon-meta a b) = flat (spent a + spent b)
-- atoms
costs (by.paren-expr a d b) = keyed (2 + (costs d).whole) (spent a + (costs d).whole + spent b)
costs (by.name d) = flat (costs d).whole
costs (by.table a d) = flat (spent a + (costs d).whole)
costs (by.block-expr a e h d) = flat (spent a + (costs e).whole + ((costs d).key + (costs d).whole))
costs (by.list a d) = flat (spent a + (costs d).whole)
costs (by.atom-literal d) = keyed 1 (costs d).whole
costs (by.fn-expr a d) = nameless (spent a + (costs d).whole)
costs (by.closure-expr d) = flat (costs d).whole
costs (by.do-expr a d) = flat (spent a + (costs d).whole)
costs (by.if-expr a d e f) = flat (spent a + (costs d).whole + (costs e).whole + (costs f).whole)
costs (by.match-expr a d b e) = flat (spent a + (costs d).whole + spent b + (costs e).whole)
costs (by.loop-expr a d) = flat (spent a + (costs d).whole)
costs (by.while-expr a d e) = flat (spent a + (costs d).whole + (costs e).whole)
costs (by.for-expr a d b e f) = flat (spent a + (costs d).whole + spent b + (costs e).whole + (costs f).whole)
costs (by.break-expr a) = flat (spent a)
costs (by.continue-expr a) = flat (spent a)
costs (by.return-expr a d) = flat (spent a + (costs d).whole)
costs (by.no-else h) = flat 0
costs (by.else-if a h d) = flat (spent a + (costs d).whole)
costs (by.else-block a d) = flat (spent a + (costs d).whole)
costs (by.last_name d h) = flat (costs d).whole
costs (by.more-names d a e) = flat ((costs d).whole + spent a + (costs e).whole)
costs (by.no-case a) = flat (spent a)
costs (by.more-cases a d b e) = flat ((costs a).whole + (costs d).whole + (costs b).whole + (costs e).whole)
costs (by.case-of d a e) = flat ((costs d).whole + spent a + (costs e).whole)
costs (by.last-pattern d h) = flat (costs d).whole
costs (by.more-patterns d a e) = flat ((costs d).whole + spent a + (costs e).whole)
-- the properties of a table
costs (by.property d e) = flat ((costs d).whole + (costs e).whole)
costs (by.paren-key a d b c) = flat (spent a + (costs d).whole + spent b + spent c)
costs (by.literal-key d a) = flat ((costs d).whole + spent a)

-- the readings of a derivation, and what an attempted key reads in vain at its front
abbrev pub cost : {text : List ℕ} {y : Sym} {p q : Place} → Derives text y p q → ℕ
cost d = (costs d).whole

abbrev pub lead : {text : List ℕ} {y : Sym} {p q : Place} → Derives text y p q → ℕ
lead d = (costs d).key
