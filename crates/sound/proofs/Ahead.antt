-- A derivation never goes back: where it ends the tokens are left that stood where it begins, without the first so many.
use Prim.Native.Nat.{ℕ, ◌+◌, ◌≤◌}
use mathlib.Core.Path.{◌≡◌, refl, sym, ap, ◌∙◌}
use mathlib.Core.List.{List, [], ◌∷◌}
use native.Mathlib.Omega.{arith}
use lib.ListN.{length, drop, length-drop}
use lib.Seq.{drop-drop}
use Rattle.grammar.specs.Places.{Token, Place, past, after, Tok}
use Rattle.grammar.specs.Symbols.{Sym}
use Rattle.grammar.specs.Derives.{Derives}
use Rattle.grammar.specs.Derives as g

pub record Ahead (p q : Place) : Type 0 where
  pub by : ℕ
  pub left : q.rest ≡ drop by p.rest

infixr 5 ◌▹◌
pub ◌▹◌ : {p q r : Place} → Ahead p q → Ahead q r → Ahead p r
◌▹◌ {p} a b = record { by = a.by + b.by; left = b.left ∙ ap (drop b.by) a.left ∙ drop-drop b.by a.by p.rest }

pub stays : {p : Place} → Ahead p p
stays = record { by = 0; left = refl }

-- one token further
step : {p q : Place} → after p ≡ q → Ahead p q
unfolding after
step {p} h = record { by = 1; left = ap (λ z. z.rest) (sym h) ∙ go p.prev p.rest }
  where
    go : (n : ℕ) (ts : List Token) → (past n ts).rest ≡ drop 1 ts
    go n [] = refl
    go n (t ∷ ts) = refl

pub over : {k : ℕ} {p q : Place} → Tok k p q → Ahead p q
over t = step t.next

pub ahead : {text : List ℕ} {y : Sym} {p q : Place} → Derives text y p q → Ahead p q
ahead (g.no-eol _) = stays
ahead (g.an-eol a b) = over a ▹ ahead b
ahead (g.until-of a b) = ahead a ▹ ahead b
ahead (g.items-end a) = over a
ahead (g.items-last a b c) = ahead a ▹ ahead b ▹ over c
ahead (g.items-final a b c) = ahead a ▹ ahead b ▹ over c
ahead (g.items-comma a b c d e) = ahead a ▹ ahead b ▹ over c ▹ ahead d ▹ ahead e
ahead (g.dots a) = over a
ahead (g.rest_of a b) = over a ▹ ahead b
ahead (g.a-literal _ b) = step b
ahead (g.an-ident a) = over a
ahead (g.one_type a _) = ahead a
ahead (g.union a _ c) = ahead a ▹ ahead c
ahead (g.no-bar _) = stays
ahead (g.a-bar a b c) = over a ▹ ahead b ▹ ahead c
ahead (g.ty-paren a b c) = over a ▹ ahead b ▹ over c
ahead (g.ty-name a) = ahead a
ahead (g.ty-table a b) = over a ▹ ahead b
ahead (g.ty-function a b c) = over a ▹ ahead b ▹ ahead c
ahead (g.ty-literal a) = ahead a
ahead (g.ty-pair a b c) = ahead a ▹ over b ▹ ahead c
ahead (g.others a b c d e) = over a ▹ ahead b ▹ over c ▹ over d ▹ ahead e
ahead (g.no-type _) = stays
ahead (g.returned a b) = over a ▹ ahead b
ahead (g.bare a _) = ahead a
ahead (g.typed-ident a b c) = ahead a ▹ over b ▹ ahead c
ahead (g.params_of a b) = over a ▹ ahead b
ahead (g.closure-params a b) = over a ▹ ahead b
ahead (g.pattern-name a) = ahead a
ahead (g.pattern-table a b) = over a ▹ ahead b
ahead (g.pattern-list a b) = over a ▹ ahead b
ahead (g.pattern-literal a) = ahead a
ahead (g.pattern-pair a b c) = ahead a ▹ over b ▹ ahead c
ahead (g.exprs-of a b) = ahead a ▹ ahead b
ahead (g.no-stmt a) = over a
ahead (g.last-stmt a b) = ahead a ▹ over b
ahead (g.a-line a b c d) = ahead a ▹ over b ▹ ahead c ▹ ahead d
ahead (g.block_of a b) = over a ▹ ahead b
ahead (g.function_of a b c) = ahead a ▹ ahead b ▹ ahead c
ahead (g.effect_of a b c d) = over a ▹ ahead b ▹ ahead c ▹ ahead d
ahead (g.fn-stmt a b c) = over a ▹ ahead b ▹ ahead c
ahead (g.import-stmt a b) = over a ▹ ahead b
ahead (g.effect-stmt a) = ahead a
ahead (g.glo-fn a b c d) = over a ▹ over b ▹ ahead c ▹ ahead d
ahead (g.glo-effect a b) = over a ▹ ahead b
ahead (g.glo-assign a b c d) = over a ▹ ahead b ▹ over c ▹ ahead d
ahead (g.path-more a b c) = ahead a ▹ over b ▹ ahead c
ahead (g.path-alone a _) = ahead a
ahead (g.path-as a b c) = ahead a ▹ over b ▹ ahead c
ahead (g.path-items a b c d) = ahead a ▹ over b ▹ over c ▹ ahead d
ahead (g.path-all a b c) = ahead a ▹ over b ▹ over c
ahead (g.item-alone a _) = ahead a
ahead (g.item-as a b c) = ahead a ▹ over b ▹ ahead c
ahead (g.expr-stmt a _) = ahead a
ahead (g.assign a _ c d) = ahead a ▹ over c ▹ ahead d
ahead (g.typed-assign a b c d e) = ahead a ▹ over b ▹ ahead c ▹ over d ▹ ahead e
ahead (g.op-assign a _ _ d e) = ahead a ▹ over d ▹ ahead e
ahead (g.unpack a _ c d e _) = ahead a ▹ ahead c ▹ over d ▹ ahead e
ahead (g.multi a _ c d e f) = ahead a ▹ ahead c ▹ over d ▹ ahead e ▹ ahead f
ahead (g.no-left _) = stays
ahead (g.a-left a b _ d) = over a ▹ ahead b ▹ ahead d
ahead g.no-right = stays
ahead (g.a-right a b c) = over a ▹ ahead b ▹ ahead c
ahead (g.expr-of a) = ahead a
ahead (g.prec-of a b) = ahead a ▹ ahead b
ahead (g.no-op _) = stays
ahead (g.binary _ _ c d e) = over c ▹ ahead d ▹ ahead e
ahead (g.type-check _ b _ d e) = over b ▹ step d ▹ ahead e
ahead (g.not-expr a b) = over a ▹ ahead b
ahead (g.neg-expr a b) = over a ▹ ahead b
ahead (g.tried a b c) = over a ▹ ahead b ▹ ahead c
ahead (g.no-unary a) = ahead a
ahead (g.last-handler a _) = ahead a
ahead (g.more-handlers a b) = ahead a ▹ ahead b
ahead (g.handler-of a b c d) = over a ▹ ahead b ▹ ahead c ▹ ahead d
ahead (g.primary-of a b) = ahead a ▹ ahead b
ahead (g.no-post _ _) = stays
ahead (g.call a b _ d) = over a ▹ ahead b ▹ ahead d
ahead (g.call-lambda a b c d) = over a ▹ ahead b ▹ ahead c ▹ ahead d
ahead (g.lambda-alone a b) = ahead a ▹ ahead b
ahead (g.member a b) = ahead a ▹ ahead b
ahead (g.safe-member a b c) = over a ▹ ahead b ▹ ahead c
ahead (g.bracket a b c) = over a ▹ ahead b ▹ over c
ahead (g.dot a b) = over a ▹ ahead b
ahead (g.double-colon a b) = over a ▹ ahead b
ahead (g.bracket-meta a b c) = over a ▹ over b ▹ over c
ahead (g.dot-meta a b) = over a ▹ over b
ahead (g.double-colon-meta a b) = over a ▹ over b
ahead (g.paren-expr a b c) = over a ▹ ahead b ▹ over c
ahead (g.name a) = ahead a
ahead (g.table a b) = over a ▹ ahead b
ahead (g.block-expr a b _ d) = over a ▹ ahead b ▹ ahead d
ahead (g.list a b) = over a ▹ ahead b
ahead (g.atom-literal a) = ahead a
ahead (g.fn-expr a b) = over a ▹ ahead b
ahead (g.closure-expr a) = ahead a
ahead (g.do-expr a b) = over a ▹ ahead b
ahead (g.if-expr a b c d) = over a ▹ ahead b ▹ ahead c ▹ ahead d
ahead (g.match-expr a b c d) = over a ▹ ahead b ▹ over c ▹ ahead d
ahead (g.loop-expr a b) = over a ▹ ahead b
ahead (g.while-expr a b c) = over a ▹ ahead b ▹ ahead c
ahead (g.for-expr a b c d e) = over a ▹ ahead b ▹ over c ▹ ahead d ▹ ahead e
ahead (g.break-expr a) = over a
ahead (g.continue-expr a) = over a
ahead (g.return-expr a b) = over a ▹ ahead b
ahead (g.no-else _) = stays
ahead (g.else-if a _ c) = over a ▹ ahead c
ahead (g.else-block a b) = over a ▹ ahead b
ahead (g.last_name a _) = ahead a
ahead (g.more-names a b c) = ahead a ▹ over b ▹ ahead c
ahead (g.no-case a) = over a
ahead (g.more-cases a b c d) = ahead a ▹ ahead b ▹ ahead c ▹ ahead d
ahead (g.case-of a b c) = ahead a ▹ over b ▹ ahead c
ahead (g.last-pattern a _) = ahead a
ahead (g.more-patterns a b c) = ahead a ▹ over b ▹ ahead c
ahead (g.property a b) = ahead a ▹ ahead b
ahead (g.paren-key a b c d) = over a ▹ ahead b ▹ over c ▹ over d
ahead (g.literal-key a b) = ahead a ▹ over b

-- so no more of them are left
pub fewer : {p q : Place} → Ahead p q → length q.rest ≤ length p.rest
fewer {p} a = let h = ap length a.left ∙ length-drop a.by p.rest in omega (arith, h)
