-- Types are unambiguous.
use Prim.Native.Nat.{ℕ}
use mathlib.Core.Path.{◌≡◌, refl, sym, subst}
use mathlib.Core.List.{List}
use Rattle.kinds.specs.Number as kind
use Rattle.cursor.specs.Node as node
use Rattle.cursor.specs.Tree.{none}
use Rattle.grammar.specs.Places.{Place, kind_of, start_of, Tok}
use Rattle.grammar.specs.Symbols.{Sym, Lit, Ident, Ty, TyAtom, Bars, TyPair, Others, Returns, Typed, Until, Rest}
use Rattle.grammar.specs.Derives.{Derives}
use Rattle.grammar.specs.Derives as g
use Rattle.grammar.specs.Builders.{blank, marked, unmarked, over, couple, row_over, lasted_row, signature}
use Rattle.grammar.specs.Shape.{shape}
use Rattle.grammar.specs.Words.{among}
use Rattle.grammar.proofs.Starts.{starts}
use Rattle.grammar.proofs.UnambiguousClaims.{Agree, Item, plainly}
use Rattle.grammar.proofs.UnambiguousBelow.{Below}
use Rattle.grammar.proofs.UnambiguousTokens.{step, refuse, sort, sort-lit, ident, lit, longer, value}
use Rattle.grammar.proofs.UnambiguousLists.{table-types, function-types}

module _ {text : List ℕ} where
  pub ty : {p q u v : Place} (d : Derives text Ty p q) → Below d → (e : Derives text Ty u v) → p ≡ u → Agree d e
  unfolding shape
  ty (g.one_type d h) b (g.one_type d' h') e = let r = b.agrees d' e in record { ends = r.ends; shapes = λ x so. value r }
  ty (g.one_type d h) b (g.union d' h' f') e = absurd (refuse h h'.stands (b.agrees d' e).ends)
  ty (g.union d h f) b (g.one_type d' h') e = absurd (refuse h' h.stands (sym (b.0.agrees d' e).ends))
  ty (g.union d h f) b (g.union d' h' f') e =
      let r = b.0.agrees d' e in
      let t = b.1.agrees f' r.ends in
      record { ends = t.ends; shapes = λ x so i. row_over node.Union (start_of (e i)) (t.ends i) (longer r t 0 blank i) }

  pub bars : {p q u v : Place} (d : Derives text Bars p q) → Below d → (e : Derives text Bars u v) → p ≡ u → Agree d e
  unfolding shape
  bars (g.no-bar h) b (g.no-bar h') e = record { ends = e; shapes = λ x so. refl }
  bars (g.no-bar h) b (g.a-bar a' d' f') e = absurd (refuse h a'.here e)
  bars (g.a-bar a d f) b (g.no-bar h') e = absurd (refuse h' a.here (sym e))
  bars (g.a-bar a d f) b (g.a-bar a' d' f') e =
      let r = b.0.agrees d' (step a a' e) in
      let t = b.1.agrees f' r.ends in
      record { ends = t.ends; shapes = longer r t }

  -- a type atom by its first token
  data TyAt : ℕ → (p q : Place) → Derives text TyAtom p q → Type 0 where
    at-paren : {p q r t : Place} (a : Tok kind.OpenParen p q) (d : Derives text Ty q r) (b : Tok kind.CloseParen r t) → TyAt kind.OpenParen p t (g.ty-paren a d b)
    at_name : {p q : Place} (d : Derives text Ident p q) → TyAt kind.Ident p q (g.ty-name d)
    at_table : {p q r : Place} (a : Tok kind.OpenBrace p q) (d : Derives text (Until TyPair Others kind.CloseBrace) q r) → TyAt kind.OpenBrace p r (g.ty-table a d)
    at-function : {p q r t : Place} (a : Tok kind.Fn p q) (d : Derives text (Until Ty (Rest Ty) kind.CloseParen) q r) (f : Derives text Returns r t) → TyAt kind.Fn p t (g.ty-function a d f)
    at_literal : {p q : Place} (d : Derives text Lit p q) → TyAt 0 p q (g.ty-literal d)

  by_kind : {k : ℕ} {p q : Place} {d : Derives text TyAtom p q} → kind_of p ≡ k → TyAt (sort k) p q d → TyAt (sort (kind_of p)) p q d
  by_kind {p = p} {q = q} {d = d} h v = subst (λ j. TyAt (sort j) p q d) (sym h) v

  seen : {p q : Place} (d : Derives text TyAtom p q) → TyAt (sort (kind_of p)) p q d
  unfolding sort among
  seen (g.ty-paren a d b) = by_kind a.here (at-paren a d b)
  seen (g.ty-name d) = by_kind (starts d).stands (at_name d)
  seen (g.ty-table a d) = by_kind a.here (at_table a d)
  seen (g.ty-function a d f) = by_kind a.here (at-function a d f)
  seen {p = p} {q = q} (g.ty-literal d) = subst (λ j. TyAt j p q (g.ty-literal d)) (sym (sort-lit (starts d))) (at_literal d)

  same : {k : ℕ} {p q u v : Place} {d : Derives text TyAtom p q} {e : Derives text TyAtom u v} → TyAt k p q d → Below d → TyAt k u v e → p ≡ u → Agree d e
  unfolding shape
  same (at-paren a d c) b (at-paren a' d' c') e =
      let r = b.agrees d' (step a a' e) in
      let l = step c c' r.ends in
      record { ends = l; shapes = λ x so i. over node.TyParen (start_of (e i)) (l i) (value r i) }
  same (at_name d) b (at_name d') e = let r = ident d d' e in record { ends = r.ends; shapes = λ x so. value r }
  same (at_table a d) b (at_table a' d') e =
      let r = (b (table-types text)).agrees d' (step a a' e) in
      record { ends = r.ends; shapes = λ x so i. lasted_row node.TyTable (start_of (e i)) (r.ends i) (value r i) }
  same (at-function a d f) b (at-function a' d' f') e =
      let r = (b.0 (function-types text)).agrees d' (step a a' e) in
      let t = b.1.agrees f' r.ends in
      record { ends = t.ends; shapes = λ x so i. signature node.TyFunction (start_of (e i)) (t.ends i) (value r i) (value t i) none }
  same (at_literal d) b (at_literal d') e = let r = lit d d' e in record { ends = r.ends; shapes = λ x so. value r }

  pub ty-atom : {p q u v : Place} (d : Derives text TyAtom p q) → Below d → (e : Derives text TyAtom u v) → p ≡ u → Agree d e
  ty-atom {u = u} {v = v} d b e h = same (seen d) b (subst (λ w. TyAt (sort (kind_of w)) u v e) (sym h) (seen e)) h

  pub ty-pair : {p q u v : Place} (d : Derives text TyPair p q) → Below d → (e : Derives text TyPair u v) → p ≡ u → Agree d e
  unfolding shape
  ty-pair (g.ty-pair d a f) b (g.ty-pair d' a' f') e =
      let r = ident d d' e in
      let t = b.agrees f' (step a a' r.ends) in
      record { ends = t.ends; shapes = λ x so i. couple node.TableTyPair (start_of (e i)) (t.ends i) (value r i) (value t i) }

  pub others : {p q u v : Place} (d : Derives text Others p q) → Below d → (e : Derives text Others u v) → p ≡ u → Agree d e
  unfolding shape
  others (g.others a d c k f) b (g.others a' d' c' k' f') e =
      let r = b.0.agrees d' (step a a' e) in
      let t = b.1.agrees f' (step k k' (step c c' r.ends)) in
      record { ends = t.ends; shapes = λ x so i. marked (couple node.TableTyOther (start_of (e i)) (t.ends i) (value r i) (value t i)).row unmarked }

  pub returns : {p q u v : Place} (d : Derives text Returns p q) → Below d → (e : Derives text Returns u v) → p ≡ u → Agree d e
  unfolding shape
  returns (g.no-type h) b (g.no-type h') e = record { ends = e; shapes = λ x so. refl }
  returns (g.no-type h) b (g.returned a' d') e = absurd (refuse h a'.here e)
  returns (g.returned a d) b (g.no-type h') e = absurd (refuse h' a.here (sym e))
  returns (g.returned a d) b (g.returned a' d') e = let r = b.agrees d' (step a a' e) in record { ends = r.ends; shapes = λ x so. value r }

  pub typed : {x : Sym} {p q u v : Place} → Item x → (d : Derives text (Typed x) p q) → Below d → (e : Derives text (Typed x) u v) → p ≡ u → Agree d e
  unfolding shape
  typed j (g.bare d h) b (g.bare d' h') e = let r = ident d d' e in record { ends = r.ends; shapes = λ x so. value r }
  typed j (g.bare d h) b (g.typed-ident d' a' f') e = absurd (refuse h a'.here (ident d d' e).ends)
  typed j (g.typed-ident d a f) b (g.bare d' h') e = absurd (refuse h' a.here (sym (ident d d' e).ends))
  typed j (g.typed-ident d a f) b (g.typed-ident d' a' f') e =
      let r = ident d d' e in
      let t = (plainly j b).agrees f' (step a a' r.ends) in
      record { ends = t.ends; shapes = λ x so i. couple node.TypedIdent (start_of (e i)) (t.ends i) (value r i) (value t i) }
