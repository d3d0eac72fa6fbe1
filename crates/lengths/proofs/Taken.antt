-- A derivation never goes back, and of most symbols it takes a token at least.
use Prim.Native.Nat.{ℕ, ◌+◌, ◌≤◌}
use native.Mathlib.Omega.{arith}
use mathlib.Core.Path.{◌≡◌, refl, sym, ap, ◌∙◌}
use mathlib.Core.List.{List, [], ◌∷◌}
use mathlib.Core.Bool.{false}
use lib.ListN.{length}
use lib.Dec.{eqb}
use borrow.Author.Tests.{eqb-false}
use Rattle.kinds.specs.Number as kind
use Rattle.cursor.specs.declared.Label.{Label}
use Rattle.types.specs.declared.lits.Literal.TheVariants as literals
use Rattle.types.specs.Lits.{literal}
use Rattle.grammar.specs.Places.{Token, Place, kind_in, past, kind_of, span_of, after, Tok}
use Rattle.grammar.specs.Symbols.{Sym}
use Rattle.grammar.specs.Symbols as symbol
use Rattle.grammar.specs.Derives.{Derives}
use Rattle.grammar.specs.Derives as by

-- n tokens at least stand between two places
pub record Takes (n : ℕ) (p q : Place) : Type 0 where
  pub taken : n + length q.rest ≤ length p.rest

pub stays : {p : Place} → Takes 0 p p
stays = record { taken = omega arith }

pub any : {n : ℕ} {p q : Place} → Takes n p q → Takes 0 p q
any x = record { taken = omega (arith, x.taken) }

infixl 6 ◌▸◌
pub ◌▸◌ : {n m : ℕ} {p q r : Place} → Takes n p q → Takes m q r → Takes n p r
x ▸ y = record { taken = omega (arith, x.taken, y.taken) }

-- one place further; a token that is no end of input is taken there
pub step : {p q : Place} → after p ≡ q → Takes 0 p q
unfolding after
step {p} e = record { taken = rw (← e) (go p.prev p.rest) }
  where
    go : (n : ℕ) (ts : List Token) → 0 + length (past n ts).rest ≤ length ts
    go n [] = omega arith
    go n (t ∷ ts) = omega arith

over : {p q : Place} → (kind_of p ≡ kind.Eof → ⊥) → after p ≡ q → Takes 1 p q
unfolding kind_of after
over {p} h e = record { taken = rw (← e) (go p.prev p.rest h) }
  where
    go : (n : ℕ) (ts : List Token) → (kind_in ts ≡ kind.Eof → ⊥) → 1 + length (past n ts).rest ≤ length ts
    go n [] h = absurd (h refl)
    go n (t ∷ ts) h = omega arith

pub token : {k : ℕ} {p q : Place} → Tok k p q → Takes 0 p q
token t = step t.next

pub one : {k : ℕ} {p q : Place} → Tok k p q → eqb k kind.Eof ≡ false → Takes 1 p q
one {k} t e = over (λ h. eqb-false k kind.Eof e (sym t.here ∙ h)) t.next

-- the end of input is no literal
word : (text : List ℕ) {p q : Place} {l : Label} → literal text (kind_of p) (span_of p) ≡ literals.Value l → after p ≡ q → Takes 1 p q
unfolding literal
word text {p} {l = l} a b = over (λ h. none (ap (λ k. literal text k (span_of p)) (sym h) ∙ a)) b
  where
    none : literal text kind.Eof (span_of p) ≡ literals.Value l → ⊥
    none e = let z : ◌≡◌ {A = ℕ} 0 1 = cc in absurd (omega arith)

-- how many tokens a symbol takes at least, as far as it matters here
abbrev pub least : Sym → ℕ
least symbol.Eols = 0
least (symbol.Until x y end) = 0
least (symbol.Items x y end) = 0
least symbol.NoLast = 0
least symbol.Dots = 1
least (symbol.Rest x) = 1
least symbol.Lit = 1
least symbol.Ident = 1
least symbol.Ty = 1
least symbol.TyAtom = 1
least symbol.Bars = 0
least symbol.TyPair = 1
least symbol.Others = 1
least symbol.Returns = 0
least (symbol.Typed x) = 1
least symbol.Pattern = 1
least symbol.PatternPair = 1
least (symbol.Exprs end) = 0
least (symbol.Stmts end) = 0
least symbol.Block = 1
least symbol.Stmt = 1
least symbol.Effect = 1
least symbol.Path = 1
least symbol.ImportItem = 1
least (symbol.Lefts n) = 0
least (symbol.Rights n) = 0
least (symbol.Params closure) = 1
least (symbol.Function closure) = 1
least (symbol.Expr lambda) = 1
least (symbol.Prec n lambda f) = 1
least (symbol.Ops n lambda f g) = 0
least (symbol.Unary lambda f) = 1
least symbol.Handler = 1
least symbol.Handlers = 1
least (symbol.Primary lambda f) = 1
least (symbol.Posts lambda f g) = 0
least (symbol.Member n) = 1
least (symbol.Atom f) = 1
least symbol.Key = 1
least symbol.Property = 1
least symbol.Alternate = 0
least symbol.Names = 1
least symbol.Cases = 0
least symbol.Case = 1
least symbol.Patterns = 1

pub takes : {text : List ℕ} {y : Sym} {p q : Place} → Derives text y p q → Takes (least y) p q
-- helpers
takes (by.no-eol h) = stays
takes (by.an-eol a d) = token a ▸ takes d
takes (by.until-of a d) = takes a ▸ takes d
takes (by.items-end a) = token a
takes (by.items-last d a b) = any (takes d) ▸ takes a ▸ token b
takes (by.items-final d a b) = any (takes d) ▸ takes a ▸ token b
takes (by.items-comma d a b c e) = any (takes d) ▸ takes a ▸ token b ▸ takes c ▸ takes e
takes (by.dots a) = one a refl
takes (by.rest_of a d) = one a refl ▸ takes d
-- literals and names
takes {text = text} (by.a-literal a b) = word text a b
takes (by.an-ident a) = one a refl
-- types
takes (by.one_type d h) = takes d
takes (by.union d h e) = takes d ▸ takes e
takes (by.no-bar h) = stays
takes (by.a-bar a d e) = token a ▸ takes d ▸ takes e
takes (by.ty-paren a d b) = one a refl ▸ takes d ▸ token b
takes (by.ty-name d) = takes d
takes (by.ty-table a d) = one a refl ▸ takes d
takes (by.ty-function a d e) = one a refl ▸ takes d ▸ takes e
takes (by.ty-literal d) = takes d
takes (by.ty-pair d a e) = takes d ▸ token a ▸ takes e
takes (by.others a d b c e) = one a refl ▸ takes d ▸ token b ▸ token c ▸ takes e
takes (by.no-type h) = stays
takes (by.returned a d) = token a ▸ takes d
takes (by.bare d h) = takes d
takes (by.typed-ident d a e) = takes d ▸ token a ▸ takes e
takes (by.params_of a d) = one a refl ▸ takes d
takes (by.closure-params a d) = one a refl ▸ takes d
-- patterns
takes (by.pattern-name d) = takes d
takes (by.pattern-table a d) = one a refl ▸ takes d
takes (by.pattern-list a d) = one a refl ▸ takes d
takes (by.pattern-literal d) = takes d
takes (by.pattern-pair d a e) = takes d ▸ token a ▸ takes e
-- statements in a row
takes (by.exprs-of a d) = takes a ▸ takes d
takes (by.no-stmt a) = token a
takes (by.last-stmt d a) = any (takes d) ▸ token a
takes (by.a-line d a b e) = any (takes d) ▸ token a ▸ takes b ▸ takes e
takes (by.block_of a d) = one a refl ▸ takes d
-- functions and effects
takes (by.function_of d e f) = takes d ▸ takes e ▸ takes f
takes (by.effect_of a d e f) = one a refl ▸ takes d ▸ takes e ▸ takes f
-- statements
takes (by.fn-stmt a d e) = one a refl ▸ takes d ▸ takes e
takes (by.import-stmt a d) = one a refl ▸ takes d
takes (by.effect-stmt d) = takes d
takes (by.glo-fn a b d e) = one a refl ▸ token b ▸ takes d ▸ takes e
takes (by.glo-effect a d) = one a refl ▸ takes d
takes (by.glo-assign a d b e) = one a refl ▸ takes d ▸ token b ▸ takes e
takes (by.path-more d a e) = takes d ▸ token a ▸ takes e
takes (by.path-alone d h) = takes d
takes (by.path-as d a e) = takes d ▸ token a ▸ takes e
takes (by.path-items d a b e) = takes d ▸ token a ▸ token b ▸ takes e
takes (by.path-all d a b) = takes d ▸ token a ▸ token b
takes (by.item-alone d h) = takes d
takes (by.item-as d a e) = takes d ▸ token a ▸ takes e
takes (by.expr-stmt d h) = takes d
takes (by.assign d f a e) = takes d ▸ token a ▸ takes e
takes (by.typed-assign d a e b f) = takes d ▸ token a ▸ takes e ▸ token b ▸ takes f
takes (by.op-assign d f c a e) = takes d ▸ token a ▸ takes e
takes (by.unpack d f e a g h) = takes d ▸ takes e ▸ token a ▸ takes g
takes (by.multi d f e a g h) = takes d ▸ takes e ▸ token a ▸ takes g ▸ takes h
takes (by.no-left h) = stays
takes (by.a-left a d f e) = token a ▸ takes d ▸ takes e
takes by.no-right = stays
takes (by.a-right a d e) = token a ▸ takes d ▸ takes e
-- expressions with operators
takes (by.expr-of d) = takes d
takes (by.prec-of d e) = takes d ▸ takes e
takes (by.no-op h) = stays
takes (by.binary l h a d e) = token a ▸ takes d ▸ takes e
takes (by.type-check l a c b e) = token a ▸ step b ▸ takes e
takes (by.not-expr a d) = one a refl ▸ takes d
takes (by.neg-expr a d) = one a refl ▸ takes d
takes (by.tried a d e) = one a refl ▸ takes d ▸ takes e
takes (by.no-unary d) = takes d
takes (by.last-handler d h) = takes d
takes (by.more-handlers d e) = takes d ▸ takes e
takes (by.handler-of a d e f) = one a refl ▸ takes d ▸ takes e ▸ takes f
-- calls and members
takes (by.primary-of d e) = takes d ▸ takes e
takes (by.no-post h l) = stays
takes (by.call a d l e) = token a ▸ takes d ▸ takes e
takes (by.call-lambda a d f e) = token a ▸ takes d ▸ takes f ▸ takes e
takes (by.lambda-alone d e) = any (takes d) ▸ takes e
takes (by.member d e) = any (takes d) ▸ takes e
takes (by.safe-member a d e) = token a ▸ takes d ▸ takes e
takes (by.bracket a d b) = one a refl ▸ takes d ▸ token b
takes (by.dot a d) = one a refl ▸ takes d
takes (by.double-colon a d) = one a refl ▸ takes d
takes (by.bracket-meta a b c) = one a refl ▸ token b ▸ token c
takes (by.dot-meta a b) = one a refl ▸ token b
takes (by.double-colon-meta a b) = one a refl ▸ token b
-- atoms
takes (by.paren-expr a d b) = one a refl ▸ takes d ▸ token b
takes (by.name d) = takes d
takes (by.table a d) = one a refl ▸ takes d
takes (by.block-expr a e h d) = one a refl ▸ takes e ▸ takes d
takes (by.list a d) = one a refl ▸ takes d
takes (by.atom-literal d) = takes d
takes (by.fn-expr a d) = one a refl ▸ takes d
takes (by.closure-expr d) = takes d
takes (by.do-expr a d) = one a refl ▸ takes d
takes (by.if-expr a d e f) = one a refl ▸ takes d ▸ takes e ▸ takes f
takes (by.match-expr a d b e) = one a refl ▸ takes d ▸ token b ▸ takes e
takes (by.loop-expr a d) = one a refl ▸ takes d
takes (by.while-expr a d e) = one a refl ▸ takes d ▸ takes e
takes (by.for-expr a d b e f) = one a refl ▸ takes d ▸ token b ▸ takes e ▸ takes f
takes (by.break-expr a) = one a refl
takes (by.continue-expr a) = one a refl
takes (by.return-expr a d) = one a refl ▸ takes d
takes (by.no-else h) = stays
takes (by.else-if a h d) = token a ▸ takes d
takes (by.else-block a d) = token a ▸ takes d
takes (by.last_name d h) = takes d
takes (by.more-names d a e) = takes d ▸ token a ▸ takes e
takes (by.no-case a) = token a
takes (by.more-cases a d b e) = takes a ▸ takes d ▸ takes b ▸ takes e
takes (by.case-of d a e) = takes d ▸ token a ▸ takes e
takes (by.last-pattern d h) = takes d
takes (by.more-patterns d a e) = takes d ▸ token a ▸ takes e
-- the properties of a table
takes (by.property d e) = takes d ▸ takes e
takes (by.paren-key a d b c) = one a refl ▸ takes d ▸ token b ▸ token c
takes (by.literal-key d a) = takes d ▸ token a
