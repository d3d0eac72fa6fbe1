-- A key as an expression: what stands before its Colon is a whole expression, since a Colon goes on with none. So a statement that started with a key would
-- have its first expression end at the Colon.
use Prim.Native.Nat.{ℕ, ◌<◌}
use mathlib.Core.Path.{◌≡◌, refl, sym, ap, ◌∙◌}
use mathlib.Core.List.{List}
use mathlib.Core.Bool.{true}
use native.Mathlib.Omega.{arith}
use Rattle.kinds.specs.Number as kind
use Rattle.kinds.specs.Operators.{level_of}
use Rattle.grammar.specs.Places.{Place, kind_of, Free}
use Rattle.grammar.specs.Symbols.{Form, Other, Key, Atom, Primary, Prec}
use Rattle.grammar.specs.Derives.{Derives, NoLambda, openers}
use Rattle.grammar.specs.Derives as g
use Rattle.grammar.specs.Words.{among}
use Rattle.grammar.proofs.Tests.{free, elsewhere, colon-level, this}
use Rattle.grammar.proofs.UnambiguousClaims.{Behind, UniqueAtom, UniquePrec}
use Rattle.grammar.proofs.UnambiguousExprs.{prec, ops, unary, primary}
use Rattle.grammar.proofs.UnambiguousPosts.{posts}

no-post-here : {p : Place} → kind_of p ≡ kind.Colon → Free openers p
unfolding among
no-post-here h = free (ap (λ k. among k openers) h)

no-lambda-here : {p : Place} → kind_of p ≡ kind.Colon → NoLambda true p
no-lambda-here h = g.no-brace (elsewhere kind.OpenBrace refl (this h))

no-op-here : (p : Place) → kind_of p ≡ kind.Colon → level_of (kind_of p) < 1
no-op-here p h = omega (arith, ap level_of h ∙ colon-level)

-- the expression that a key is up to its Colon
pub record Leading (text : List ℕ) (p : Place) : Type 0 where
  pub end : Place
  pub expr : Derives text (Prec 1 true Other) p end
  pub colon : kind_of end ≡ kind.Colon

module _ {text : List ℕ} where
  -- an atom before a Colon, as a whole expression
  abbrev alone : {f : Form} {p q : Place} → Derives text (Atom f) p q → kind_of q ≡ kind.Colon → Derives text (Primary true f) p q
  alone d h = g.primary-of d (g.no-post (no-post-here h) (no-lambda-here h))

  abbrev whole : {f : Form} {p q : Place} → Derives text (Atom f) p q → kind_of q ≡ kind.Colon → Derives text (Prec 1 true f) p q
  whole d h = g.prec-of (g.no-unary (alone d h)) (g.no-op (no-op-here _ h))

  whole_unique : {f : Form} {p q : Place} {d : Derives text (Atom f) p q} → UniqueAtom d → (h : kind_of q ≡ kind.Colon) → UniquePrec (whole d h)
  whole_unique {d = d} b h = record { agrees = prec (whole d h) (record { agrees = unary (g.no-unary (alone d h)) (record { agrees = primary (alone d h) (b, record { agrees = posts (g.no-post _ _) tt }) }) }, record { agrees = ops (g.no-op _) tt }) }

  pub leading : {p q : Place} → Derives text Key p q → Leading text p
  leading (g.paren-key a d b c) = record { end = _; expr = whole (g.paren-expr a d b) c.here; colon = c.here }
  leading (g.literal-key d a) = record { end = _; expr = whole (g.atom-literal d) a.here; colon = a.here }

  -- where an atom is unique, each expression that starts with it ends with it
  pub ends_there : {p q u v : Place} {f : Form} {d : Derives text (Atom Other) p q} → UniqueAtom d → kind_of q ≡ kind.Colon → Derives text (Prec 1 true f) u v → p ≡ u → Behind f v
  ends_there b h x e = let r = (whole_unique b h).agrees x refl e in record { form = sym r.chosen; colon = sym (ap kind_of r.same.ends) ∙ h }

  -- where an expression is unique, it ends where a key has its Colon
  pub meets-key : {p q u v : Place} {f : Form} {d : Derives text (Prec 1 true f) p q} → UniquePrec d → Derives text Key u v → p ≡ u → Behind f q
  meets-key b k e = let l = leading k in let r = b.agrees l.expr refl e in record { form = r.chosen; colon = ap kind_of r.same.ends ∙ l.colon }
