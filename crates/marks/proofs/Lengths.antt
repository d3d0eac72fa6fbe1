-- Marks are one for each token.
use Prim.Native.Nat.{ℕ, suc, ◌+◌}
use native.Mathlib.Omega.{arith}
use mathlib.Core.Path.{◌≡◌, refl, sym, ap, ◌∙◌}
use mathlib.Core.List.{List, [], ◌∷◌, ◌++◌}
use lib.ListN.{length, length-append}
use Rattle.grammar.specs.Places.{Token, Place, past, after, Tok, before, tokens_of, significant}
use Rattle.grammar.specs.Symbols.{Sym}
use Rattle.grammar.specs.Derives.{Derives}
use Rattle.grammar.specs.Derives as by
use Rattle.grammar.specs.Follows.{Follows}
use Rattle.marks.specs.Marks.{Stand, Leading, First, Within, opening, again, as_key, as_name, mark_in, mark, token, marks_at, marks}

-- so that its sums are checked first

-- as many as tokens stand between two places
pub record Covers (ms : List ℕ) (p q : Place) : Type 0 where
  pub many : length ms + length q.rest ≡ length p.rest

none : {p : Place} → Covers [] p p
none = record { many = omega arith }

infixl 6 ◌▸◌
◌▸◌ : {a b : List ℕ} {p q r : Place} → Covers a p q → Covers b q r → Covers (a ++ b) p r
◌▸◌ {a} {b} s t = record { many = let e = length-append a b in omega (arith, e, s.many, t.many) }

in_list : (n : ℕ) (ts : List Token) → length (mark_in ts) + length (past n ts).rest ≡ length ts
in_list n [] = omega arith
in_list n (t ∷ ts) = omega arith

place : (p q : Place) → after p ≡ q → Covers (mark p) p q
unfolding after
place p q e = record { many = ap (λ z. length (mark p) + length z.rest) (sym e) ∙ in_list p.prev p.rest }

taking : {k : ℕ} {p q : Place} (t : Tok k p q) → Covers (token t) p q
taking {p = p} {q = q} t = place p q t.next

length-again : (ms : List ℕ) → length (again ms) ≡ length ms
unfolding again
length-again [] = refl
length-again (m ∷ ms) = ap suc (length-again ms)

doubled : {ms : List ℕ} {p q : Place} → Covers ms p q → Covers (again ms) p q
doubled {ms} s = record { many = let e = length-again ms in omega (arith, e, s.many) }

as-key : (at : Stand) {ms : List ℕ} {p q : Place} → Covers ms p q → Covers (as_key at ms) p q
as-key Leading s = doubled s
as-key First s = s
as-key Within s = s

as-name : (at : Stand) {ms : List ℕ} {p q : Place} → Covers ms p q → Covers (as_name at ms) p q
as-name Leading s = doubled s
as-name First s = doubled s
as-name Within s = s

pub covers : {text : List ℕ} {y : Sym} {p q : Place} (at : Stand) (d : Derives text y p q) → Covers (marks_at at d) p q
unfolding marks_at
-- helpers
covers at (by.no-eol h) = none
covers at (by.an-eol a d) = taking a ▸ covers Within d
covers at (by.until-of a d) = covers Within a ▸ covers Within d
covers at (by.items-end a) = taking a
covers at (by.items-last d a b) = covers Within d ▸ covers Within a ▸ taking b
covers at (by.items-final d a b) = covers Within d ▸ covers Within a ▸ taking b
covers at (by.items-comma d a b c e) = covers Within d ▸ covers Within a ▸ taking b ▸ covers Within c ▸ covers Within e
covers at (by.dots a) = taking a
covers at (by.rest_of a d) = taking a ▸ covers Within d
-- literals and names
covers at (by.a-literal {p = p} {q = q} a b) = place p q b
covers at (by.an-ident a) = taking a
-- types
covers at (by.one_type d h) = covers Within d
covers at (by.union d h e) = covers Within d ▸ covers Within e
covers at (by.no-bar h) = none
covers at (by.a-bar a d e) = taking a ▸ covers Within d ▸ covers Within e
covers at (by.ty-paren a d b) = taking a ▸ covers Within d ▸ taking b
covers at (by.ty-name d) = covers Within d
covers at (by.ty-table a d) = taking a ▸ covers Within d
covers at (by.ty-function a d e) = taking a ▸ covers Within d ▸ covers Within e
covers at (by.ty-literal d) = covers Within d
covers at (by.ty-pair d a e) = covers Within d ▸ taking a ▸ covers Within e
covers at (by.others a d b c e) = taking a ▸ covers Within d ▸ taking b ▸ taking c ▸ covers Within e
covers at (by.no-type h) = none
covers at (by.returned a d) = taking a ▸ covers Within d
covers at (by.bare d h) = covers Within d
covers at (by.typed-ident d a e) = covers Within d ▸ taking a ▸ covers Within e
covers at (by.params_of a d) = taking a ▸ covers Within d
covers at (by.closure-params a d) = taking a ▸ covers Within d
-- patterns
covers at (by.pattern-name d) = covers Within d
covers at (by.pattern-table a d) = taking a ▸ covers Within d
covers at (by.pattern-list a d) = taking a ▸ covers Within d
covers at (by.pattern-literal d) = covers Within d
covers at (by.pattern-pair d a e) = covers Within d ▸ taking a ▸ covers Within e
-- statements in a row
covers at (by.exprs-of a d) = covers Within a ▸ covers at d
covers at (by.no-stmt a) = taking a
covers at (by.last-stmt d a) = covers at d ▸ taking a
covers at (by.a-line d a b e) = covers at d ▸ taking a ▸ covers Within b ▸ covers Within e
covers at (by.block_of a d) = taking a ▸ covers Within d
-- functions and effects
covers at (by.function_of d e f) = covers Within d ▸ covers Within e ▸ covers Within f
covers at (by.effect_of a d e f) = taking a ▸ covers Within d ▸ covers Within e ▸ covers Within f
-- statements
covers at (by.fn-stmt a d e) = taking a ▸ covers Within d ▸ covers Within e
covers at (by.import-stmt a d) = taking a ▸ covers Within d
covers at (by.effect-stmt d) = covers Within d
covers at (by.glo-fn a b d e) = taking a ▸ taking b ▸ covers Within d ▸ covers Within e
covers at (by.glo-effect a d) = taking a ▸ covers Within d
covers at (by.glo-assign a d b e) = taking a ▸ covers Within d ▸ taking b ▸ covers Within e
covers at (by.path-more d a e) = covers Within d ▸ taking a ▸ covers Within e
covers at (by.path-alone d h) = covers Within d
covers at (by.path-as d a e) = covers Within d ▸ taking a ▸ covers Within e
covers at (by.path-items d a b e) = covers Within d ▸ taking a ▸ taking b ▸ covers Within e
covers at (by.path-all d a b) = covers Within d ▸ taking a ▸ taking b
covers at (by.item-alone d h) = covers Within d
covers at (by.item-as d a e) = covers Within d ▸ taking a ▸ covers Within e
covers at (by.expr-stmt d h) = covers (opening at) d
covers at (by.assign d f a e) = covers (opening at) d ▸ taking a ▸ covers Within e
covers at (by.typed-assign d a e b f) = covers (opening at) d ▸ taking a ▸ covers Within e ▸ taking b ▸ covers Within f
covers at (by.op-assign d f c a e) = covers (opening at) d ▸ taking a ▸ covers Within e
covers at (by.unpack d f e a g h) = covers (opening at) d ▸ covers Within e ▸ taking a ▸ covers Within g
covers at (by.multi d f e a g h) = covers (opening at) d ▸ covers Within e ▸ taking a ▸ covers Within g ▸ covers Within h
covers at (by.no-left h) = none
covers at (by.a-left a d f e) = taking a ▸ covers Within d ▸ covers Within e
covers at by.no-right = none
covers at (by.a-right a d e) = taking a ▸ covers Within d ▸ covers Within e
-- expressions with operators
covers at (by.expr-of d) = covers Within d
covers at (by.prec-of d e) = covers at d ▸ covers Within e
covers at (by.no-op h) = none
covers at (by.binary l h a d e) = taking a ▸ covers Within d ▸ covers Within e
covers at (by.type-check {q = q} {r = r} l a c b e) = taking a ▸ place q r b ▸ covers Within e
covers at (by.not-expr a d) = taking a ▸ covers Within d
covers at (by.neg-expr a d) = taking a ▸ covers Within d
covers at (by.tried a d e) = taking a ▸ covers Within d ▸ covers Within e
covers at (by.no-unary d) = covers at d
covers at (by.last-handler d h) = covers Within d
covers at (by.more-handlers d e) = covers Within d ▸ covers Within e
covers at (by.handler-of a d e f) = taking a ▸ covers Within d ▸ covers Within e ▸ covers Within f
-- calls and members
covers at (by.primary-of d e) = covers at d ▸ covers Within e
covers at (by.no-post h l) = none
covers at (by.call a d l e) = taking a ▸ covers Within d ▸ covers Within e
covers at (by.call-lambda a d f e) = taking a ▸ covers Within d ▸ covers Within f ▸ covers Within e
covers at (by.lambda-alone d e) = covers Within d ▸ covers Within e
covers at (by.member d e) = covers Within d ▸ covers Within e
covers at (by.safe-member a d e) = taking a ▸ covers Within d ▸ covers Within e
covers at (by.bracket a d b) = taking a ▸ covers Within d ▸ taking b
covers at (by.dot a d) = taking a ▸ covers Within d
covers at (by.double-colon a d) = taking a ▸ covers Within d
covers at (by.bracket-meta a b c) = taking a ▸ taking b ▸ taking c
covers at (by.dot-meta a b) = taking a ▸ taking b
covers at (by.double-colon-meta a b) = taking a ▸ taking b
-- atoms
covers at (by.paren-expr a d b) = as-key at (taking a ▸ covers Within d ▸ taking b)
covers at (by.name d) = covers Within d
covers at (by.table a d) = taking a ▸ covers Within d
covers at (by.block-expr a e h d) = taking a ▸ covers Within e ▸ covers Leading d
covers at (by.list a d) = taking a ▸ covers Within d
covers at (by.atom-literal d) = as-key at (covers Within d)
covers at (by.fn-expr a d) = as-name at (taking a) ▸ covers Within d
covers at (by.closure-expr d) = covers Within d
covers at (by.do-expr a d) = taking a ▸ covers Within d
covers at (by.if-expr a d e f) = taking a ▸ covers Within d ▸ covers Within e ▸ covers Within f
covers at (by.match-expr a d b e) = taking a ▸ covers Within d ▸ taking b ▸ covers Within e
covers at (by.loop-expr a d) = taking a ▸ covers Within d
covers at (by.while-expr a d e) = taking a ▸ covers Within d ▸ covers Within e
covers at (by.for-expr a d b e f) = taking a ▸ covers Within d ▸ taking b ▸ covers Within e ▸ covers Within f
covers at (by.break-expr a) = taking a
covers at (by.continue-expr a) = taking a
covers at (by.return-expr a d) = taking a ▸ covers Within d
covers at (by.no-else h) = none
covers at (by.else-if a h d) = taking a ▸ covers Within d
covers at (by.else-block a d) = taking a ▸ covers Within d
covers at (by.last_name d h) = covers Within d
covers at (by.more-names d a e) = covers Within d ▸ taking a ▸ covers Within e
covers at (by.no-case a) = taking a
covers at (by.more-cases a d b e) = covers Within a ▸ covers Within d ▸ covers Within b ▸ covers Within e
covers at (by.case-of d a e) = covers Within d ▸ taking a ▸ covers Within e
covers at (by.last-pattern d h) = covers Within d
covers at (by.more-patterns d a e) = covers Within d ▸ taking a ▸ covers Within e
-- the properties of a table
covers at (by.property d e) = covers Within d ▸ covers Within e
covers at (by.paren-key a d b c) = taking a ▸ covers Within d ▸ taking b ▸ taking c
covers at (by.literal-key d a) = covers Within d ▸ taking a

-- one for each token of a sheet that is no trivia
pub marks-all : {text tokens : List ℕ} (f : Follows text tokens) → length (marks f.body) ≡ length (significant (tokens_of tokens))
unfolding before
marks-all f = let e = (covers Within f.body).many in let w = ap length f.whole in omega (arith, e, w)
