-- Imports are unambiguous: what stands behind a name of the path, or behind the `::` there, tells the production.
use Prim.Native.Nat.{ℕ}
use mathlib.Core.Path.{◌≡◌, refl, sym, ap, subst, ◌∙◌}
use mathlib.Core.List.{List}
use mathlib.Core.Bool.{true, false}
use lib.Dec.{eqb}
use Rattle.kinds.specs.Number as kind
use Rattle.cursor.specs.Node as node
use Rattle.cursor.specs.Tree.{join}
use Rattle.cursor.specs.Records.{flagged}
use Rattle.grammar.specs.Places.{Place, kind_of, start_of, after, Tok, Here}
use Rattle.grammar.specs.Symbols.{Ident, Until, NoLast, Path, ImportItem}
use Rattle.grammar.specs.Derives.{Derives}
use Rattle.grammar.specs.Derives as g
use Rattle.grammar.specs.Builders.{blank, more, made, over, import_over}
use Rattle.grammar.specs.Shape.{shape}
use Rattle.grammar.proofs.Starts.{starts}
use Rattle.grammar.proofs.UnambiguousClaims.{Agree}
use Rattle.grammar.proofs.UnambiguousBelow.{Below}
use Rattle.grammar.proofs.UnambiguousTokens.{step, refuse, ident, longer, value}
use Rattle.grammar.proofs.UnambiguousLists.{imports}

-- the kind behind a name, or behind its `::`
abbrev turn_of : ℕ → ℕ → ℕ
turn_of k j = elim (eqb k kind.DoubleColon) as (λ _. ℕ) [ true ↦ j | false ↦ k ]

abbrev turn : Place → ℕ
turn p = turn_of (kind_of (after p)) (kind_of (after (after p)))

module _ {text : List ℕ} where
  pub import-item : {p q u v : Place} (d : Derives text ImportItem p q) → Below d → (e : Derives text ImportItem u v) → p ≡ u → Agree d e
  unfolding shape
  import-item (g.item-alone d h) b (g.item-alone d' h') e = let r = ident d d' e in record { ends = r.ends; shapes = λ x so i. over node.ImportItem (start_of (e i)) (r.ends i) (value r i) }
  import-item (g.item-alone d h) b (g.item-as d' a' f') e = absurd (refuse h a'.here (ident d d' e).ends)
  import-item (g.item-as d a f) b (g.item-alone d' h') e = absurd (refuse h' a.here (sym (ident d d' e).ends))
  import-item (g.item-as d a f) b (g.item-as d' a' f') e =
      let r = ident d d' e in
      let t = ident f f' (step a a' r.ends) in
      record { ends = t.ends; shapes = λ x so i. made node.ImportItem (start_of (e i)) (t.ends i) 0 0 (flagged 0 0 true false) (join (value r i).row (value t i).row) }

  -- a path by what stands behind its first name
  data PathAt : ℕ → (p q : Place) → Derives text Path p q → Type 0 where
    at_more : {p q r t : Place} (d : Derives text Ident p q) (a : Tok kind.DoubleColon q r) (e : Derives text Path r t) → PathAt kind.Ident p t (g.path-more d a e)
    at-alone : {p q : Place} (d : Derives text Ident p q) (h : Here kind.Eol q) → PathAt kind.Eol p q (g.path-alone d h)
    at-as : {p q r t : Place} (d : Derives text Ident p q) (a : Tok kind.As q r) (e : Derives text Ident r t) → PathAt kind.As p t (g.path-as d a e)
    at-items : {p q r t u : Place} (d : Derives text Ident p q) (a : Tok kind.DoubleColon q r) (b : Tok kind.OpenBrace r t) (e : Derives text (Until ImportItem NoLast kind.CloseBrace) t u)
        → PathAt kind.OpenBrace p u (g.path-items d a b e)
    at_all : {p q r t : Place} (d : Derives text Ident p q) (a : Tok kind.DoubleColon q r) (b : Tok kind.Mul r t) → PathAt kind.Mul p t (g.path-all d a b)

  behind : {k : ℕ} {p q : Place} → Derives text Ident p q → kind_of q ≡ k → kind_of (after p) ≡ k
  behind (g.an-ident a) h = ap kind_of a.next ∙ h

  behind-both : {k : ℕ} {p q r : Place} → Derives text Ident p q → Tok kind.DoubleColon q r → kind_of r ≡ k → kind_of (after (after p)) ≡ k
  behind-both (g.an-ident a) c h = ap (λ w. kind_of (after w)) a.next ∙ ap kind_of c.next ∙ h

  by_turn : {k j : ℕ} {p q : Place} {d : Derives text Path p q} → kind_of (after p) ≡ k → kind_of (after (after p)) ≡ j → PathAt (turn_of k j) p q d → PathAt (turn p) p q d
  by_turn {k = k} {p = p} {q = q} {d = d} h i v = subst (λ l. PathAt (turn_of l (kind_of (after (after p)))) p q d) (sym h) (subst (λ j. PathAt (turn_of k j) p q d) (sym i) v)

  seen : {p q : Place} (d : Derives text Path p q) → PathAt (turn p) p q d
  seen (g.path-more d a e) = by_turn (behind d a.here) (behind-both d a (starts e).stands) (at_more d a e)
  seen (g.path-alone d h) = by_turn (behind d h.stands) refl (at-alone d h)
  seen (g.path-as d a e) = by_turn (behind d a.here) refl (at-as d a e)
  seen (g.path-items d a b e) = by_turn (behind d a.here) (behind-both d a b.here) (at-items d a b e)
  seen (g.path-all d a b) = by_turn (behind d a.here) (behind-both d a b.here) (at_all d a b)

  same : {k : ℕ} {p q u v : Place} {d : Derives text Path p q} {e : Derives text Path u v} → PathAt k p q d → Below d → PathAt k u v e → p ≡ u → Agree d e
  unfolding shape
  same (at_more d a f) b (at_more d' a' f') e =
      let r = ident d d' e in
      let t = b.agrees f' (step a a' r.ends) in
      record { ends = t.ends; shapes = longer r t }
  same (at-alone d h) b (at-alone d' h') e = let r = ident d d' e in record { ends = r.ends; shapes = λ x so i. import_over x (r.ends i) (more so (value r i)) blank false false }
  same (at-as d a f) b (at-as d' a' f') e =
      let r = ident d d' e in
      let t = ident f f' (step a a' r.ends) in
      record { ends = t.ends; shapes = λ x so i. import_over x (t.ends i) (more so (value r i)) (value t i) true false }
  same (at-items d a c f) b (at-items d' a' c' f') e =
      let r = ident d d' e in
      let t = (b (imports text)).agrees f' (step c c' (step a a' r.ends)) in
      record { ends = t.ends; shapes = λ x so i. import_over x (t.ends i) (more so (value r i)) (value t i) false true }
  same (at_all d a c) b (at_all d' a' c') e =
      let r = ident d d' e in
      let l = step c c' (step a a' r.ends) in
      record { ends = l; shapes = λ x so i. import_over x (l i) (more so (value r i)) blank true true }

  pub path : {p q u v : Place} (d : Derives text Path p q) → Below d → (e : Derives text Path u v) → p ≡ u → Agree d e
  path {u = u} {v = v} d b e h = same (seen d) b (subst (λ w. PathAt (turn w) u v e) (sym h) (seen e)) h
