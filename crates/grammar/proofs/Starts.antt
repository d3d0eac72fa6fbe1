-- What a symbol begins with: its first token, and that a `fn` which begins an expression has a parenthesis behind it. So alternatives that
-- carry no condition begin with different tokens.
use Prim.Native.Nat.{ℕ}
use mathlib.Core.Path.{◌≡◌, refl, ap, ◌∙◌}
use mathlib.Core.List.{List, [], ◌∷◌, ◌++◌}
use mathlib.Core.Bool.{Bool, true, false}
use lib.Dec.{eqb}
use Rattle.kinds.specs.Number as kind
use Rattle.cursor.specs.declared.Label.{Label}
use Rattle.cursor.specs.declared.Span.{Span}
use Rattle.types.specs.declared.lits.Literal.{Literal}
use Rattle.types.specs.declared.lits.Literal.TheVariants as literals
use Rattle.types.specs.Lits.{literal, when}
use Rattle.grammar.specs.Places.{Place, kind_of, Tok, Here, Not}
use Rattle.grammar.specs.Symbols.{Sym}
use Rattle.grammar.specs.Derives.{Derives}
use Rattle.grammar.specs.Derives as by
use Rattle.grammar.specs.Words.{among}
use Rattle.grammar.proofs.Tests.{at-token, elsewhere}
use Rattle.grammar.proofs.FirstKinds.{lits, ty_heads, pattern_heads, key_heads, atom_heads, atoms, expr_heads, exprs, stmt_heads, Starts, Opens, Begins, apart}

by_kind : {k : ℕ} {ks : List ℕ} {p : Place} → among k ks ≡ true → Here k p → Starts ks p
by_kind {ks = ks} e h = record { first = ap (λ j. among j ks) h.stands ∙ e }

by_token : {k : ℕ} {ks : List ℕ} {p q : Place} → among k ks ≡ true → Tok k p q → Starts ks p
by_token e t = by_kind e (at-token t)

-- among more kinds
longer : (k : ℕ) (js ks : List ℕ) → among k ks ≡ true → among k (js ++ ks) ≡ true
unfolding among
longer k [] ks e = e
longer k (j ∷ js) ks e = go (eqb k j) (longer k js ks e)
  where
    go : (b : Bool) → among k (js ++ ks) ≡ true → elim b as (λ _. Bool) [ true ↦ true | false ↦ among k (js ++ ks) ] ≡ true
    go true f = refl
    go false f = f

behind : (js : List ℕ) {ks : List ℕ} {p : Place} → Starts ks p → Starts (js ++ ks) p
behind js {ks} {p} s = record { first = longer (kind_of p) js ks s.first }

-- expressions
as-starts : {ks : List ℕ} {p : Place} → Opens ks p → Starts ks p
as-starts o = record { first = o.first }

opens_by : {ks : List ℕ} {p : Place} → Starts ks p → Not kind.Fn p → Opens ks p
opens_by s h = record { first = s.first; paren = λ q. absurd (h.differs q) }

opens_at : {k : ℕ} {ks : List ℕ} {p : Place} → among k ks ≡ true → eqb k kind.Fn ≡ false → Here k p → Opens ks p
opens_at e f h = opens_by (by_kind e h) (elsewhere kind.Fn f h)

opens : {k : ℕ} {ks : List ℕ} {p q : Place} → among k ks ≡ true → eqb k kind.Fn ≡ false → Tok k p q → Opens ks p
opens e f t = opens_at e f (at-token t)

opens-fn : {ks : List ℕ} {p q : Place} → among kind.Fn ks ≡ true → Tok kind.Fn p q → Here kind.OpenParen q → Opens ks p
opens-fn e t h = record { first = (by_token e t).first; paren = λ _. ap kind_of t.next ∙ h.stands }

opens-lit : {p : Place} → Starts lits p → Opens atoms p
unfolding among
opens-lit s = opens_by (behind atom_heads s) (apart kind.Fn s refl)

widened : {p : Place} → Opens atoms p → Opens exprs p
widened {p} o = record { first = longer (kind_of p) expr_heads atoms o.first; paren = o.paren }

-- a token that is a literal is of a literal's kind
pub literal-first : (text : List ℕ) (k : ℕ) (r : Span) (l : Label) → literal text k r ≡ literals.Value l → among k lits ≡ true
unfolding literal among
literal-first text k r l e =
    step (eqb k kind.Int) _ _ _ (step (eqb k kind.Float) _ _ _ (step (eqb k kind.Str) _ _ _ (step (eqb k kind.RawStr) _ _ _ (step (eqb k kind.ByteStr) _ _ _ (step (eqb k kind.Null) _ _ _ (step (eqb k kind.True) _ _ _ (step (eqb k kind.False) _ _ _ never))))))) e
  where
    step : (b : Bool) (x m : Literal) (rest : Bool) → (m ≡ literals.Value l → rest ≡ true) → when b x m ≡ literals.Value l → elim b as (λ _. Bool) [ true ↦ true | false ↦ rest ] ≡ true
    step true x m rest f e = refl
    step false x m rest f e = f e

    never : literals.Nothing ≡ literals.Value l → false ≡ true
    never e = cc

pub starts : {text : List ℕ} {y : Sym} {p q : Place} → Derives text y p q → Begins y p
unfolding among
starts (by.no-eol a) = tt
starts (by.an-eol a b) = tt
starts (by.until-of a b) = tt
starts (by.items-end a) = tt
starts (by.items-last a b c) = tt
starts (by.items-final a b c) = tt
starts (by.items-comma a b c d e) = tt
starts (by.dots a) = at-token a
starts (by.rest_of a b) = at-token a
starts {text = text} (by.a-literal a b) = record { first = literal-first text _ _ _ a }
starts (by.an-ident a) = at-token a
starts (by.one_type a b) = starts a
starts (by.union a b c) = starts a
starts (by.no-bar a) = tt
starts (by.a-bar a b c) = tt
starts (by.ty-paren a b c) = by_token refl a
starts (by.ty-name a) = by_kind refl (starts a)
starts (by.ty-table a b) = by_token refl a
starts (by.ty-function a b c) = by_token refl a
starts (by.ty-literal a) = behind ty_heads (starts a)
starts (by.ty-pair a b c) = starts a
starts (by.others a b c d e) = at-token a
starts (by.no-type a) = tt
starts (by.returned a b) = tt
starts (by.bare a b) = starts a
starts (by.typed-ident a b c) = starts a
starts (by.params_of a b) = at-token a
starts (by.closure-params a b) = at-token a
starts (by.pattern-name a) = by_kind refl (starts a)
starts (by.pattern-table a b) = by_token refl a
starts (by.pattern-list a b) = by_token refl a
starts (by.pattern-literal a) = behind pattern_heads (starts a)
starts (by.pattern-pair a b c) = starts a
starts (by.exprs-of a b) = tt
starts (by.no-stmt a) = tt
starts (by.last-stmt a b) = tt
starts (by.a-line a b c d) = tt
starts (by.block_of a b) = at-token a
starts (by.function_of a b c) = starts a
starts (by.effect_of a b c d) = at-token a
starts (by.fn-stmt a b c) = by_token refl a
starts (by.import-stmt a b) = by_token refl a
starts (by.effect-stmt a) = by_kind refl (starts a)
starts (by.glo-fn a b c d) = by_token refl a
starts (by.glo-effect a b) = by_token refl a
starts (by.glo-assign a b c d) = by_token refl a
starts (by.path-more a b c) = starts a
starts (by.path-alone a b) = starts a
starts (by.path-as a b c) = starts a
starts (by.path-items a b c d) = starts a
starts (by.path-all a b c) = starts a
starts (by.item-alone a b) = starts a
starts (by.item-as a b c) = starts a
starts (by.expr-stmt a b) = behind stmt_heads (as-starts (starts a))
starts (by.assign a b c d) = behind stmt_heads (as-starts (starts a))
starts (by.typed-assign a b c d e) = behind stmt_heads (as-starts (starts a))
starts (by.op-assign a b c d e) = behind stmt_heads (as-starts (starts a))
starts (by.unpack a b c d e f) = behind stmt_heads (as-starts (starts a))
starts (by.multi a b c d e f) = behind stmt_heads (as-starts (starts a))
starts (by.no-left a) = tt
starts (by.a-left a b c d) = tt
starts by.no-right = tt
starts (by.a-right a b c) = tt
starts (by.expr-of a) = starts a
starts (by.prec-of a b) = starts a
starts (by.no-op a) = tt
starts (by.binary a b c d e) = tt
starts (by.type-check a b c d e) = tt
starts (by.not-expr a b) = opens refl refl a
starts (by.neg-expr a b) = opens refl refl a
starts (by.tried a b c) = opens refl refl a
starts (by.no-unary a) = widened (starts a)
starts (by.last-handler a b) = starts a
starts (by.more-handlers a b) = starts a
starts (by.handler-of a b c d) = at-token a
starts (by.primary-of a b) = starts a
starts (by.no-post a b) = tt
starts (by.call a b c d) = tt
starts (by.call-lambda a b c d) = tt
starts (by.lambda-alone a b) = tt
starts (by.member a b) = tt
starts (by.safe-member a b c) = tt
starts (by.bracket a b c) = by_token refl a
starts (by.dot a b) = by_token refl a
starts (by.double-colon a b) = by_token refl a
starts (by.bracket-meta a b c) = by_token refl a
starts (by.dot-meta a b) = by_token refl a
starts (by.double-colon-meta a b) = by_token refl a
starts (by.paren-expr a b c) = opens refl refl a
starts (by.name a) = opens_at refl refl (starts a)
starts (by.table a b) = opens refl refl a
starts (by.block-expr a b c d) = opens refl refl a
starts (by.list a b) = opens refl refl a
starts (by.atom-literal a) = opens-lit (starts a)
starts (by.fn-expr a b) = opens-fn refl a (starts b)
starts (by.closure-expr a) = opens_at refl refl (starts a)
starts (by.do-expr a b) = opens refl refl a
starts (by.if-expr a b c d) = opens refl refl a
starts (by.match-expr a b c d) = opens refl refl a
starts (by.loop-expr a b) = opens refl refl a
starts (by.while-expr a b c) = opens refl refl a
starts (by.for-expr a b c d e) = opens refl refl a
starts (by.break-expr a) = opens refl refl a
starts (by.continue-expr a) = opens refl refl a
starts (by.return-expr a b) = opens refl refl a
starts (by.no-else a) = tt
starts (by.else-if a b c) = tt
starts (by.else-block a b) = tt
starts (by.last_name a b) = starts a
starts (by.more-names a b c) = starts a
starts (by.no-case a) = tt
starts (by.more-cases a b c d) = tt
starts (by.case-of a b c) = starts a
starts (by.last-pattern a b) = starts a
starts (by.more-patterns a b c) = starts a
starts (by.property a b) = starts a
starts (by.paren-key a b c d) = by_token refl a
starts (by.literal-key a b) = behind key_heads (starts a)
