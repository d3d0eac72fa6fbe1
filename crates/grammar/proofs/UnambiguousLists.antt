-- Lists are unambiguous: which production it is, its first token tells, and behind an item a Comma or the token that closes it.
use Prim.Native.Nat.{ℕ}
use mathlib.Core.Path.{◌≡◌, refl, sym}
use mathlib.Core.List.{List}
use mathlib.Core.Bool.{true, false}
use lib.Dec.{eqb}
use native.Mathlib.Omega.{arith}
use Rattle.kinds.specs.Number as kind
use Rattle.cursor.specs.Tree.{none}
use Rattle.grammar.specs.Places.{Place, span_of, Here, Not}
use Rattle.grammar.specs.Symbols.{Sym, Until, Items, NoLast, Dots, Rest, Ty, TyAtom, TyPair, Others, Typed, Pattern, PatternPair, ImportItem, Expr, Property}
use Rattle.grammar.specs.Derives.{Derives}
use Rattle.grammar.specs.Derives as g
use Rattle.grammar.specs.Builders.{more, ending, marked, unmarked}
use Rattle.grammar.specs.Shape.{shape}
use Rattle.grammar.specs.Words.{among}
use Rattle.grammar.proofs.Tests.{elsewhere}
use Rattle.grammar.proofs.FirstKinds.{apart, opening-apart}
use Rattle.grammar.proofs.Starts.{starts}
use Rattle.grammar.proofs.UnambiguousClaims.{
  Agree,
  Item,
  Listed,
  Sole,
  OfFirst,
  OfFirstUntil,
  plainly,
  a-ty,
  a-ty-atom,
  a-ty-pair,
  the_others,
  a-pattern,
  a-pattern-pair,
  an-import,
  an-expr,
  a-property,
  no_last,
  only-dots,
  a-rest,
  a-typed,
}
use Rattle.grammar.proofs.UnambiguousBelow.{Below}
use Rattle.grammar.proofs.UnambiguousTokens.{step, meet, refuse, eols, longer, value}

-- the lists of the grammar
module _ (text : List ℕ) where
  -- what ends with `...` and perhaps an item, or with nothing
  module _ {x : Sym} {end : ℕ} (i : Item x) (first : (p q : Place) → Derives text x p q → Not end p) (comma : end ≡ kind.Comma → ⊥) where
    plain-list : Listed text x NoLast end
    plain-list = record { item = i; last = no_last; item-first = λ d. first _ _ d; last-first = λ d. absurd (starts d); apart = λ d e h. starts e; no-comma = comma }

    module _ {y : Sym} (j : Item y) (dots : (p q : Place) → Derives text y p q → Here kind.Ellipsis p) (other : (p q : Place) → Derives text x p q → Not kind.Ellipsis p) (distinct : eqb kind.Ellipsis end ≡ false) where
      dotted-list : Listed text x y end
      dotted-list = record {
        item = i;
        last = j;
        item-first = λ d. first _ _ d;
        last-first = λ d. elsewhere end distinct (dots _ _ d);
        apart = λ d e h. refuse (other _ _ d) (dots _ _ e).stands h;
        no-comma = comma;
      }

  pub table-types : Listed text TyPair Others kind.CloseBrace
  table-types = record {
    item = a-ty-pair;
    last = the_others;
    item-first = λ d. elsewhere kind.CloseBrace refl (starts d);
    last-first = λ d. elsewhere kind.CloseBrace refl (starts d);
    apart = λ d e h. omega (arith, meet (starts d).stands (starts e).stands h);
    no-comma = λ h. omega (arith, h);
  }

  pub function-types : Listed text Ty (Rest Ty) kind.CloseParen
  unfolding among
  function-types = dotted-list a-ty (λ p q d. apart kind.CloseParen (starts d) refl) (λ h. omega (arith, h)) (a-rest a-ty) (λ p q d. starts d) (λ p q d. apart kind.Ellipsis (starts d) refl) refl

  pub parameters : Listed text (Typed Ty) (Rest (Typed Ty)) kind.CloseParen
  parameters = dotted-list (a-typed a-ty) (λ p q d. elsewhere kind.CloseParen refl (starts d)) (λ h. omega (arith, h)) (a-rest (a-typed a-ty)) (λ p q d. starts d) (λ p q d. elsewhere kind.Ellipsis refl (starts d)) refl

  pub closure-parameters : Listed text (Typed TyAtom) (Rest (Typed TyAtom)) kind.VBar
  closure-parameters = dotted-list (a-typed a-ty-atom) (λ p q d. elsewhere kind.VBar refl (starts d)) (λ h. omega (arith, h)) (a-rest (a-typed a-ty-atom)) (λ p q d. starts d) (λ p q d. elsewhere kind.Ellipsis refl (starts d)) refl

  pub table-patterns : Listed text PatternPair Dots kind.CloseBrace
  unfolding among
  table-patterns = dotted-list a-pattern-pair (λ p q d. apart kind.CloseBrace (starts d) refl) (λ h. omega (arith, h)) only-dots (λ p q d. starts d) (λ p q d. apart kind.Ellipsis (starts d) refl) refl

  pub list-patterns : Listed text Pattern Dots kind.CloseBracket
  unfolding among
  list-patterns = dotted-list a-pattern (λ p q d. apart kind.CloseBracket (starts d) refl) (λ h. omega (arith, h)) only-dots (λ p q d. starts d) (λ p q d. apart kind.Ellipsis (starts d) refl) refl

  pub imports : Listed text ImportItem NoLast kind.CloseBrace
  imports = plain-list an-import (λ p q d. elsewhere kind.CloseBrace refl (starts d)) (λ h. omega (arith, h))

  pub arguments : Listed text (Expr true) NoLast kind.CloseParen
  unfolding among
  arguments = plain-list an-expr (λ p q d. opening-apart kind.CloseParen (starts d) refl) (λ h. omega (arith, h))

  pub elements : Listed text (Expr true) NoLast kind.CloseBracket
  unfolding among
  elements = plain-list an-expr (λ p q d. opening-apart kind.CloseBracket (starts d) refl) (λ h. omega (arith, h))

  pub properties : Listed text Property NoLast kind.CloseBrace
  unfolding among
  properties = plain-list a-property (λ p q d. apart kind.CloseBrace (starts d) refl) (λ h. omega (arith, h))

module _ {text : List ℕ} where
  pub dots : {p q u v : Place} (d : Derives text Dots p q) → Below d → (e : Derives text Dots u v) → p ≡ u → Agree d e
  unfolding shape
  dots (g.dots a) b (g.dots a') e = record { ends = step a a' e; shapes = λ x so i. marked none (span_of (e i)) }

  pub rest : {x : Sym} {p q u v : Place} → Item x → (d : Derives text (Rest x) p q) → Below d → (e : Derives text (Rest x) u v) → p ≡ u → Agree d e
  unfolding shape
  rest i (g.rest_of a d) b (g.rest_of a' d') e =
      let r = (plainly i b).agrees d' (step a a' e) in
      record { ends = r.ends; shapes = λ x so j. marked (value r j).row unmarked }

  module _ {x y : Sym} {end : ℕ} (i : Listed text x y end) where
    pub items : {p q u v : Place} (d : Derives text (Items x y end) p q) → Below d → (e : Derives text (Items x y end) u v) → p ≡ u → Agree d e
    unfolding shape
    items (g.items-end a) b (g.items-end a') e = record { ends = step a a' e; shapes = λ x so. refl }
    items (g.items-end a) b (g.items-last d' f' c') e = absurd (refuse (i.last-first d') a.here (sym e))
    items (g.items-end a) b (g.items-final d' f' c') e = absurd (refuse (i.item-first d') a.here (sym e))
    items (g.items-end a) b (g.items-comma d' f' c' h' k') e = absurd (refuse (i.item-first d') a.here (sym e))
    items (g.items-last d f c) b (g.items-end a') e = absurd (refuse (i.last-first d) a'.here e)
    items (g.items-last d f c) b (g.items-last d' f' c') e =
        let r = (plainly i.last b).agrees d' e in
        record { ends = step c c' (eols f f' r.ends); shapes = λ x so j. ending so (value r j) }
    items (g.items-last d f c) b (g.items-final d' f' c') e = absurd (i.apart d' d (sym e))
    items (g.items-last d f c) b (g.items-comma d' f' c' h' k') e = absurd (i.apart d' d (sym e))
    items (g.items-final d f c) b (g.items-end a') e = absurd (refuse (i.item-first d) a'.here e)
    items (g.items-final d f c) b (g.items-last d' f' c') e = absurd (i.apart d d' e)
    items (g.items-final d f c) b (g.items-final d' f' c') e =
        let r = (plainly i.item b).agrees d' e in
        record { ends = step c c' (eols f f' r.ends); shapes = λ x so j. more so (value r j) }
    items (g.items-final d f c) b (g.items-comma d' f' c' h' k') e =
        absurd (i.no-comma (meet c.here c'.here (eols f f' ((plainly i.item b).agrees d' e).ends)))
    items (g.items-comma d f c h k) b (g.items-end a') e = absurd (refuse (i.item-first d) a'.here e)
    items (g.items-comma d f c h k) b (g.items-last d' f' c') e = absurd (i.apart d d' e)
    items (g.items-comma d f c h k) b (g.items-final d' f' c') e =
        absurd (i.no-comma (sym (meet c.here c'.here (eols f f' ((plainly i.item b.0).agrees d' e).ends))))
    items (g.items-comma d f c h k) b (g.items-comma d' f' c' h' k') e =
        let r = (plainly i.item b.0).agrees d' e in
        let t = (b.1 i).agrees k' (eols h h' (step c c' (eols f f' r.ends))) in
        record { ends = t.ends; shapes = longer r t }

    pub until : {p q u v : Place} (d : Derives text (Until x y end) p q) → Below d → (e : Derives text (Until x y end) u v) → p ≡ u → Agree d e
    unfolding shape
    until (g.until-of a d) b (g.until-of a' d') e = let r = (b i).agrees d' (eols a a' e) in record { ends = r.ends; shapes = r.shapes }

    -- what is claimed of the first item
    pub first-until : {p q : Place} (d : Derives text (Until x y end) p q) → Below d → OfFirstUntil (Sole x) d
    first-until (g.until-of a d) b = (b i).first

  pub first_of : {x y : Sym} {end : ℕ} {p q : Place} (d : Derives text (Items x y end) p q) → Below d → OfFirst (Sole x) d
  first_of (g.items-end a) b = tt
  first_of (g.items-last d a c) b = tt
  first_of (g.items-final d a c) b = b
  first_of (g.items-comma d a c e f) b = b.0
