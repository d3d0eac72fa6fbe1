-- Atoms are unambiguous: the first token tells the production, but for `{`. There a table has a key behind its Eols, or its end, and a block has neither.
use Rattle.std.specs.Prelude.{None}
use Prim.Native.Nat.{ℕ}
use mathlib.Core.Path.{◌≡◌, refl, sym, subst}
use mathlib.Core.List.{List}
use mathlib.Core.Bool.{true, false}
use Rattle.kinds.specs.Number as kind
use Rattle.cursor.specs.Node as node
use Rattle.cursor.specs.Tree.{none, join}
use Rattle.grammar.specs.Places.{Place, kind_of, start_of, Tok, Not}
use Rattle.grammar.specs.Symbols.{
  Form,
  Name,
  Other,
  Eols,
  Until,
  NoLast,
  Lit,
  Ident,
  Exprs,
  Block,
  Function,
  Expr,
  Atom,
  Property,
  Alternate,
  Names,
  Cases,
}
use Rattle.grammar.specs.Derives.{Derives}
use Rattle.grammar.specs.Derives as g
use Rattle.grammar.specs.Builders.{blank, only, made, over, couple, row_over, row_before, fn_over, if_over}
use Rattle.grammar.specs.Shape.{shape}
use Rattle.grammar.specs.Words.{among}
use Rattle.grammar.proofs.Starts.{starts}
use Rattle.grammar.proofs.UnambiguousClaims.{Agree, Alike, Sole, UniqueUntil, UniqueStmt, by-brace}
use Rattle.grammar.proofs.UnambiguousBelow.{Below}
use Rattle.grammar.proofs.UnambiguousTokens.{step, refuse, sort, sort-lit, eols, ident, lit, value}
use Rattle.grammar.proofs.UnambiguousLists.{properties, elements}
use Rattle.grammar.proofs.UnambiguousStmts.{led-body}

module _ {text : List ℕ} where
  -- an atom by its first token
  data AtomAt : ℕ → (f : Form) (p q : Place) → Derives text (Atom f) p q → Type 0 where
    at-group : {p q r t : Place} (a : Tok kind.OpenParen p q) (d : Derives text (Expr true) q r) (c : Tok kind.CloseParen r t) → AtomAt kind.OpenParen Other p t (g.paren-expr a d c)
    at_name : {p q : Place} (d : Derives text Ident p q) → AtomAt kind.Ident Name p q (g.name d)
    at_table : {p q r : Place} (a : Tok kind.OpenBrace p q) (d : Derives text (Until Property NoLast kind.CloseBrace) q r) → AtomAt kind.OpenBrace Other p r (g.table a d)
    at_block : {p q r t : Place} (a : Tok kind.OpenBrace p q) (l : Derives text Eols q r) (h : Not kind.CloseBrace r) (d : Derives text (Exprs kind.CloseBrace) r t) → AtomAt kind.OpenBrace Other p t (g.block-expr a l h d)
    at-list : {p q r : Place} (a : Tok kind.OpenBracket p q) (d : Derives text (Until (Expr true) NoLast kind.CloseBracket) q r) → AtomAt kind.OpenBracket Other p r (g.list a d)
    at_literal : {p q : Place} (d : Derives text Lit p q) → AtomAt 0 Other p q (g.atom-literal d)
    at_fn : {p q r : Place} (a : Tok kind.Fn p q) (d : Derives text (Function false) q r) → AtomAt kind.Fn Other p r (g.fn-expr a d)
    at-closure : {p q : Place} (d : Derives text (Function true) p q) → AtomAt kind.VBar Other p q (g.closure-expr d)
    at-do : {p q r : Place} (a : Tok kind.Do p q) (d : Derives text Block q r) → AtomAt kind.Do Other p r (g.do-expr a d)
    at-if : {p q r t u : Place} (a : Tok kind.If p q) (d : Derives text (Expr false) q r) (e : Derives text Block r t) (f : Derives text Alternate t u) → AtomAt kind.If Other p u (g.if-expr a d e f)
    at-match : {p q r t u : Place} (a : Tok kind.Match p q) (d : Derives text (Expr false) q r) (c : Tok kind.OpenBrace r t) (e : Derives text Cases t u) → AtomAt kind.Match Other p u (g.match-expr a d c e)
    at-loop : {p q r : Place} (a : Tok kind.Loop p q) (d : Derives text Block q r) → AtomAt kind.Loop Other p r (g.loop-expr a d)
    at-while : {p q r t : Place} (a : Tok kind.While p q) (d : Derives text (Expr false) q r) (e : Derives text Block r t) → AtomAt kind.While Other p t (g.while-expr a d e)
    at-for : {p q r t u v : Place} (a : Tok kind.For p q) (d : Derives text Names q r) (c : Tok kind.In r t) (e : Derives text (Expr false) t u) (f : Derives text Block u v) → AtomAt kind.For Other p v (g.for-expr a d c e f)
    at-break : {p q : Place} (a : Tok kind.Break p q) → AtomAt kind.Break Other p q (g.break-expr a)
    at-continue : {p q : Place} (a : Tok kind.Continue p q) → AtomAt kind.Continue Other p q (g.continue-expr a)
    at_return : {p q r : Place} (a : Tok kind.Return p q) (d : Derives text (Expr true) q r) → AtomAt kind.Return Other p r (g.return-expr a d)

  by_kind : {k : ℕ} {f : Form} {p q : Place} {d : Derives text (Atom f) p q} → kind_of p ≡ k → AtomAt (sort k) f p q d → AtomAt (sort (kind_of p)) f p q d
  by_kind {f = f} {p = p} {q = q} {d = d} h v = subst (λ j. AtomAt (sort j) f p q d) (sym h) v

  seen : {f : Form} {p q : Place} (d : Derives text (Atom f) p q) → AtomAt (sort (kind_of p)) f p q d
  unfolding sort among
  seen (g.paren-expr a d c) = by_kind a.here (at-group a d c)
  seen (g.name d) = by_kind (starts d).stands (at_name d)
  seen (g.table a d) = by_kind a.here (at_table a d)
  seen (g.block-expr a l h d) = by_kind a.here (at_block a l h d)
  seen (g.list a d) = by_kind a.here (at-list a d)
  seen {p = p} {q = q} (g.atom-literal d) = subst (λ j. AtomAt j Other p q (g.atom-literal d)) (sym (sort-lit (starts d))) (at_literal d)
  seen (g.fn-expr a d) = by_kind a.here (at_fn a d)
  seen (g.closure-expr d) = by_kind (starts d).stands (at-closure d)
  seen (g.do-expr a d) = by_kind a.here (at-do a d)
  seen (g.if-expr a d e f) = by_kind a.here (at-if a d e f)
  seen (g.match-expr a d c e) = by_kind a.here (at-match a d c e)
  seen (g.loop-expr a d) = by_kind a.here (at-loop a d)
  seen (g.while-expr a d e) = by_kind a.here (at-while a d e)
  seen (g.for-expr a d c e f) = by_kind a.here (at-for a d c e f)
  seen (g.break-expr a) = by_kind a.here (at-break a)
  seen (g.continue-expr a) = by_kind a.here (at-continue a)
  seen (g.return-expr a d) = by_kind a.here (at_return a d)

  -- no table is a block: by what is claimed of the table, and by what is claimed of the block
  no_block : {p q u v w : Place} (d : Derives text (Until Property NoLast kind.CloseBrace) p q) → UniqueUntil (Sole Property) d → Derives text Eols u v → Not kind.CloseBrace v → Derives text (Exprs kind.CloseBrace) v w → p ≡ u → ⊥
  no_block (g.until-of l (g.items-end a)) b l' h' d' e = refuse h' a.here (sym (eols l l' e))
  no_block (g.until-of l (g.items-last d m c)) b l' h' d' e = starts d
  no_block (g.until-of l (g.items-final (g.property k x) m c)) b l' h' d' e = led-body k (λ f u v y h. b.first.lead y h) by-brace d' (eols l l' e)
  no_block (g.until-of l (g.items-comma (g.property k x) m c n i)) b l' h' d' e = led-body k (λ f u v y h. b.first.lead y h) by-brace d' (eols l l' e)

  no_table : {p q r u v : Place} {d : Derives text (Exprs kind.CloseBrace) q r} → Derives text Eols p q → Not kind.CloseBrace q → UniqueStmt d → Derives text (Until Property NoLast kind.CloseBrace) u v → p ≡ u → ⊥
  no_table l h b (g.until-of l' (g.items-end a')) e = refuse h a'.here (eols l l' e)
  no_table l h b (g.until-of l' (g.items-last d' m' c')) e = starts d'
  no_table l h b (g.until-of l' (g.items-final (g.property k' x') m' c')) e = b.keyless k' (eols l l' e)
  no_table l h b (g.until-of l' (g.items-comma (g.property k' x') m' c' n' i')) e = b.keyless k' (eols l l' e)

  one_form : {f : Form} {p q u v : Place} {d : Derives text (Atom f) p q} {e : Derives text (Atom f) u v} → Agree d e → Alike f f d e
  one_form r = record { chosen = refl; same = r }

  same : {k : ℕ} {f h : Form} {p q u v : Place} {d : Derives text (Atom f) p q} {e : Derives text (Atom h) u v} → AtomAt k f p q d → Below d → AtomAt k h u v e → p ≡ u → Alike f h d e
  unfolding shape
  same (at-group a d c) b (at-group a' d' c') e =
      let r = b.agrees d' (step a a' e) in
      let l = step c c' r.ends in
      one_form (record { ends = l; shapes = λ x so i. over node.Paren (start_of (e i)) (l i) (value r i) })
  same (at_name d) b (at_name d') e = let r = ident d d' e in one_form (record { ends = r.ends; shapes = λ x so. value r })
  same (at_table a d) b (at_table a' d') e =
      let r = (b (properties text)).agrees d' (step a a' e) in
      one_form (record { ends = r.ends; shapes = λ x so i. row_over node.Table (start_of (e i)) (r.ends i) (value r i) })
  same (at_table a d) b (at_block a' l' h' d') e = absurd (no_block d (b (properties text)) l' h' d' (step a a' e))
  same (at_block a l h d) b (at_table a' d') e = absurd (no_table l h (b by-brace) d' (step a a' e))
  same (at_block a l h d) b (at_block a' l' h' d') e =
      let n = eols l l' (step a a' e) in
      let r = (b by-brace).agrees d' n in
      one_form (record { ends = r.ends; shapes = λ x so i. over node.ExprBlock (start_of (e i)) (r.ends i) (row_over node.Block (start_of (n i)) (r.ends i) (value r i)) })
  same (at-list a d) b (at-list a' d') e =
      let r = (b (elements text)).agrees d' (step a a' e) in
      one_form (record { ends = r.ends; shapes = λ x so i. row_over node.List (start_of (e i)) (r.ends i) (value r i) })
  same (at_literal d) b (at_literal d') e = let r = lit d d' e in one_form (record { ends = r.ends; shapes = λ x so. value r })
  same (at_fn a d) b (at_fn a' d') e =
      let r = b.agrees d' (step a a' e) in
      one_form (record { ends = r.ends; shapes = λ x so i. fn_over (start_of (e i)) (r.ends i) None none (r.shapes (start_of (e i)) blank i) })
  same (at-closure d) b (at-closure d') e =
      let r = b.agrees d' e in
      one_form (record { ends = r.ends; shapes = λ x so i. fn_over (start_of (e i)) (r.ends i) None none (r.shapes (start_of (e i)) blank i) })
  same (at-do a d) b (at-do a' d') e =
      let r = b.agrees d' (step a a' e) in
      one_form (record { ends = r.ends; shapes = λ x so i. fn_over (start_of (e i)) (r.ends i) None none (over node.Do (start_of (e i)) (r.ends i) (value r i)) })
  same (at-if a d f k) b (at-if a' d' f' k') e =
      let r = b.0.agrees d' (step a a' e) in
      let t = b.1.agrees f' r.ends in
      let w = b.2.agrees k' t.ends in
      one_form (record { ends = w.ends; shapes = λ x so i. if_over (start_of (e i)) (w.ends i) (value r i) (value t i) (value w i) })
  same (at-match a d c f) b (at-match a' d' c' f') e =
      let r = b.0.agrees d' (step a a' e) in
      let t = b.1.agrees f' (step c c' r.ends) in
      one_form (record { ends = t.ends; shapes = λ x so i. row_over node.Match (start_of (e i)) (t.ends i) (t.shapes 0 (only (value r i).row) i) })
  same (at-loop a d) b (at-loop a' d') e =
      let r = b.agrees d' (step a a' e) in
      one_form (record { ends = r.ends; shapes = λ x so i. over node.Loop (start_of (e i)) (r.ends i) (value r i) })
  same (at-while a d f) b (at-while a' d' f') e =
      let r = b.0.agrees d' (step a a' e) in
      let t = b.1.agrees f' r.ends in
      one_form (record { ends = t.ends; shapes = λ x so i. couple node.While (start_of (e i)) (t.ends i) (value r i) (value t i) })
  same (at-for a d c f k) b (at-for a' d' c' f' k') e =
      let r = b.0.agrees d' (step a a' e) in
      let t = b.1.agrees f' (step c c' r.ends) in
      let w = b.2.agrees k' t.ends in
      one_form (record { ends = w.ends; shapes = λ x so i. row_before node.For (start_of (e i)) (w.ends i) (value r i) (join (value t i).row (value w i).row) })
  same (at-break a) b (at-break a') e = let l = step a a' e in one_form (record { ends = l; shapes = λ x so i. made node.Break (start_of (e i)) (l i) 0 0 0 none })
  same (at-continue a) b (at-continue a') e = let l = step a a' e in one_form (record { ends = l; shapes = λ x so i. made node.Continue (start_of (e i)) (l i) 0 0 0 none })
  same (at_return a d) b (at_return a' d') e =
      let r = b.agrees d' (step a a' e) in
      one_form (record { ends = r.ends; shapes = λ x so i. over node.Return (start_of (e i)) (r.ends i) (value r i) })

  pub atom : {f h : Form} {p q u v : Place} (d : Derives text (Atom f) p q) → Below d → (e : Derives text (Atom h) u v) → p ≡ u → Alike f h d e
  atom {h = h} {u = u} {v = v} d b e c = same (seen d) b (subst (λ w. AtomAt (sort (kind_of w)) h u v e) (sym c) (seen e)) c
