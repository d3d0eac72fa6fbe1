-- What tokens, Eols, names and literals say of two derivations that start at one place.
use Prim.Native.Nat.{ℕ}
use mathlib.Core.Path.{◌≡◌, refl, sym, ap, ◌∙◌}
use mathlib.Core.List.{List}
use mathlib.Core.Bool.{Bool, true, false}
use lib.Dec.{eqb}
use borrow.Author.Tests.{ne_eqb}
use Rattle.cursor.specs.declared.Label.{Label}
use Rattle.cursor.specs.Node as node
use Rattle.cursor.specs.Tree.{none, tree}
use Rattle.types.specs.declared.lits.Literal.TheVariants as literals
use Rattle.types.specs.Lits.{literal}
use Rattle.grammar.specs.Places.{Place, kind_of, span_of, start_of, after, Tok, Not, Free, from-none, from_all}
use Rattle.grammar.specs.Symbols.{Sym, Eols, Lit, Ident}
use Rattle.grammar.specs.Derives.{Derives}
use Rattle.grammar.specs.Derives as g
use Rattle.grammar.specs.Builders.{Shape, blank, only, more, made}
use Rattle.grammar.specs.Shape.{shape}
use Rattle.grammar.specs.Words.{among}
use Rattle.grammar.proofs.FirstKinds.{lits, Starts}
use Rattle.grammar.proofs.UnambiguousClaims.{Agree}

-- one token further from one place
pub step : {k j : ℕ} {p q u v : Place} → Tok k p q → Tok j u v → p ≡ u → q ≡ v
step a b e = sym a.next ∙ ap after e ∙ b.next

-- one kind stands at one place
pub meet : {k j : ℕ} {p u : Place} → kind_of p ≡ k → kind_of u ≡ j → p ≡ u → k ≡ j
meet a b e = sym a ∙ ap kind_of e ∙ b

pub refuse : {k : ℕ} {p u : Place} → Not k p → kind_of u ≡ k → p ≡ u → ⊥
refuse h a e = h.differs (ap kind_of e ∙ a)

pub free_of : {ks : List ℕ} {p : Place} → Free ks p → among (kind_of p) ks ≡ false
unfolding among
free_of from-none = refl
free_of {p = p} (from_all {k = k} {ks = ks} h f) = go (eqb (kind_of p) k) (ne_eqb _ _ h.differs) (free_of f)
  where
    go : (b : Bool) → b ≡ false → among (kind_of p) ks ≡ false → elim b as (λ _. Bool) [ true ↦ true | false ↦ among (kind_of p) ks ] ≡ false
    go true q r = q
    go false q r = r

-- the kind of a token as far as productions are told apart by it: all literals are one
unfoldable pub sort : ℕ → ℕ
sort k = elim (among k lits) as (λ _. ℕ) [ true ↦ 0 | false ↦ k ]

pub sort-lit : {p : Place} → Starts lits p → sort (kind_of p) ≡ 0
unfolding sort
sort-lit {p} h = ap (λ b. elim b as (λ _. ℕ) [ true ↦ 0 | false ↦ kind_of p ]) h.first

one_label : (l m : Label) → literals.Value l ≡ literals.Value m → l ≡ m
one_label l m e = cc

module _ {text : List ℕ} where
  -- all Eols
  pub eols : {p q u v : Place} → Derives text Eols p q → Derives text Eols u v → p ≡ u → q ≡ v
  eols (g.no-eol h) (g.no-eol h') e = e
  eols (g.no-eol h) (g.an-eol a' d') e = absurd (refuse h a'.here e)
  eols (g.an-eol a d) (g.no-eol h') e = absurd (refuse h' a.here (sym e))
  eols (g.an-eol a d) (g.an-eol a' d') e = eols d d' (step a a' e)

  eols-shape : {p q : Place} (d : Derives text Eols p q) (x : ℕ) (so : Shape) → shape d x so ≡ so
  unfolding shape
  eols-shape (g.no-eol h) x so = refl
  eols-shape (g.an-eol a d) x so = refl

  pub all-eols : {p q u v : Place} (d : Derives text Eols p q) (e : Derives text Eols u v) → p ≡ u → Agree d e
  all-eols d e h = record { ends = eols d e h; shapes = λ x so. eols-shape d x so ∙ sym (eols-shape e x so) }

  pub ident : {p q u v : Place} (d : Derives text Ident p q) (e : Derives text Ident u v) → p ≡ u → Agree d e
  unfolding shape
  ident (g.an-ident a) (g.an-ident a') e = record { ends = step a a' e; shapes = λ x so i. made node.Ident (start_of (e i)) (step a a' e i) 0 0 0 none }

  pub lit : {p q u v : Place} (d : Derives text Lit p q) (e : Derives text Lit u v) → p ≡ u → Agree d e
  unfolding shape
  lit (g.a-literal {l = l} a b) (g.a-literal {l = m} a' b') e =
      let same : l ≡ m = one_label l m (sym a ∙ ap (λ w. literal text (kind_of w) (span_of w)) e ∙ a') in
      record { ends = sym b ∙ ap after e ∙ b'; shapes = λ x so i. only (tree (same i) none) }

  pub value : {y z : Sym} {p q u v : Place} {d : Derives text y p q} {d' : Derives text z u v} → Agree d d' → shape d 0 blank ≡ shape d' 0 blank
  value r = r.shapes 0 blank

  -- a row with one more item
  module _ {y y' z z' : Sym} {p q u v p1 q1 u1 v1 : Place} {d : Derives text y p q} {d' : Derives text y' u v} {e : Derives text z p1 q1} {e' : Derives text z' u1 v1} where
    pub longer : Agree d d' → Agree e e' → (x : ℕ) (so : Shape) → shape e x (more so (shape d 0 blank)) ≡ shape e' x (more so (shape d' 0 blank))
    longer r t x so = λ i. t.shapes x (more so (value r i)) i
