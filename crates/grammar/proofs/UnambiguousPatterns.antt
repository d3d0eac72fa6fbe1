-- Patterns and the cases of a `match` are unambiguous.
use Prim.Native.Nat.{ℕ}
use mathlib.Core.Path.{◌≡◌, refl, sym, subst}
use mathlib.Core.List.{List}
use native.Mathlib.Omega.{arith}
use Rattle.kinds.specs.Number as kind
use Rattle.cursor.specs.Node as node
use Rattle.grammar.specs.Places.{Place, kind_of, start_of, Tok}
use Rattle.grammar.specs.Symbols.{Lit, Ident, Until, Dots, Eols, Pattern, PatternPair, Patterns, Case, Cases}
use Rattle.grammar.specs.Derives.{Derives}
use Rattle.grammar.specs.Derives as g
use Rattle.grammar.specs.Builders.{couple, ended_row, row_before, more}
use Rattle.grammar.specs.Shape.{shape}
use Rattle.grammar.specs.Words.{among}
use Rattle.grammar.proofs.FirstKinds.{apart}
use Rattle.grammar.proofs.Starts.{starts}
use Rattle.grammar.proofs.UnambiguousClaims.{Agree}
use Rattle.grammar.proofs.UnambiguousBelow.{Below}
use Rattle.grammar.proofs.UnambiguousTokens.{step, meet, refuse, sort, sort-lit, eols, ident, lit, longer, value}
use Rattle.grammar.proofs.UnambiguousLists.{table-patterns, list-patterns}

module _ {text : List ℕ} where
  -- a pattern by its first token
  data PatternAt : ℕ → (p q : Place) → Derives text Pattern p q → Type 0 where
    at_name : {p q : Place} (d : Derives text Ident p q) → PatternAt kind.Ident p q (g.pattern-name d)
    at_table : {p q r : Place} (a : Tok kind.OpenBrace p q) (d : Derives text (Until PatternPair Dots kind.CloseBrace) q r) → PatternAt kind.OpenBrace p r (g.pattern-table a d)
    at-list : {p q r : Place} (a : Tok kind.OpenBracket p q) (d : Derives text (Until Pattern Dots kind.CloseBracket) q r) → PatternAt kind.OpenBracket p r (g.pattern-list a d)
    at_literal : {p q : Place} (d : Derives text Lit p q) → PatternAt 0 p q (g.pattern-literal d)

  by_kind : {k : ℕ} {p q : Place} {d : Derives text Pattern p q} → kind_of p ≡ k → PatternAt (sort k) p q d → PatternAt (sort (kind_of p)) p q d
  by_kind {p = p} {q = q} {d = d} h v = subst (λ j. PatternAt (sort j) p q d) (sym h) v

  seen : {p q : Place} (d : Derives text Pattern p q) → PatternAt (sort (kind_of p)) p q d
  unfolding sort among
  seen (g.pattern-name d) = by_kind (starts d).stands (at_name d)
  seen (g.pattern-table a d) = by_kind a.here (at_table a d)
  seen (g.pattern-list a d) = by_kind a.here (at-list a d)
  seen {p = p} {q = q} (g.pattern-literal d) = subst (λ j. PatternAt j p q (g.pattern-literal d)) (sym (sort-lit (starts d))) (at_literal d)

  same : {k : ℕ} {p q u v : Place} {d : Derives text Pattern p q} {e : Derives text Pattern u v} → PatternAt k p q d → Below d → PatternAt k u v e → p ≡ u → Agree d e
  unfolding shape
  same (at_name d) b (at_name d') e = let r = ident d d' e in record { ends = r.ends; shapes = λ x so. value r }
  same (at_table a d) b (at_table a' d') e =
      let r = (b (table-patterns text)).agrees d' (step a a' e) in
      record { ends = r.ends; shapes = λ x so i. ended_row node.PatternTable (start_of (e i)) (r.ends i) (value r i) }
  same (at-list a d) b (at-list a' d') e =
      let r = (b (list-patterns text)).agrees d' (step a a' e) in
      record { ends = r.ends; shapes = λ x so i. ended_row node.PatternList (start_of (e i)) (r.ends i) (value r i) }
  same (at_literal d) b (at_literal d') e = let r = lit d d' e in record { ends = r.ends; shapes = λ x so. value r }

  pub pattern : {p q u v : Place} (d : Derives text Pattern p q) → Below d → (e : Derives text Pattern u v) → p ≡ u → Agree d e
  pattern {u = u} {v = v} d b e h = same (seen d) b (subst (λ w. PatternAt (sort (kind_of w)) u v e) (sym h) (seen e)) h

  pub pattern-pair : {p q u v : Place} (d : Derives text PatternPair p q) → Below d → (e : Derives text PatternPair u v) → p ≡ u → Agree d e
  unfolding shape
  pattern-pair (g.pattern-pair d a f) b (g.pattern-pair d' a' f') e =
      let r = lit d d' e in
      let t = b.agrees f' (step a a' r.ends) in
      record { ends = t.ends; shapes = λ x so i. couple node.TablePatternPair (start_of (e i)) (t.ends i) (value r i) (value t i) }

  pub patterns : {p q u v : Place} (d : Derives text Patterns p q) → Below d → (e : Derives text Patterns u v) → p ≡ u → Agree d e
  unfolding shape
  patterns (g.last-pattern d h) b (g.last-pattern d' h') e = let r = b.agrees d' e in record { ends = r.ends; shapes = λ x so i. more so (value r i) }
  patterns (g.last-pattern d h) b (g.more-patterns d' a' f') e = absurd (refuse h a'.here (b.agrees d' e).ends)
  patterns (g.more-patterns d a f) b (g.last-pattern d' h') e = absurd (refuse h' a.here (sym (b.0.agrees d' e).ends))
  patterns (g.more-patterns d a f) b (g.more-patterns d' a' f') e =
      let r = b.0.agrees d' e in
      let t = b.1.agrees f' (step a a' r.ends) in
      record { ends = t.ends; shapes = longer r t }

  pub case : {p q u v : Place} (d : Derives text Case p q) → Below d → (e : Derives text Case u v) → p ≡ u → Agree d e
  unfolding shape
  case (g.case-of d a f) b (g.case-of d' a' f') e =
      let r = b.0.agrees d' e in
      let t = b.1.agrees f' (step a a' r.ends) in
      record { ends = t.ends; shapes = λ x so i. row_before node.MatchCase (start_of (e i)) (t.ends i) (value r i) (value t i).row }

  -- where cases end none begins, with or without Eols before it
  no_more : {p q r t u : Place} → Tok kind.CloseBrace p q → Derives text Eols r t → Derives text Case t u → p ≡ r → ⊥
  unfolding among
  no_more a (g.no-eol h) d e = refuse (apart kind.CloseBrace (starts d) refl) a.here (sym e)
  no_more a (g.an-eol c f) d e = omega (arith, meet a.here c.here e)

  pub cases : {p q u v : Place} (d : Derives text Cases p q) → Below d → (e : Derives text Cases u v) → p ≡ u → Agree d e
  unfolding shape
  cases (g.no-case a) b (g.no-case a') e = record { ends = step a a' e; shapes = λ x so. refl }
  cases (g.no-case a) b (g.more-cases l' d' m' f') e = absurd (no_more a l' d' e)
  cases (g.more-cases l d m f) b (g.no-case a') e = absurd (no_more a' l d (sym e))
  cases (g.more-cases l d m f) b (g.more-cases l' d' m' f') e =
      let r = b.0.agrees d' (eols l l' e) in
      let t = b.1.agrees f' (eols m m' r.ends) in
      record { ends = t.ends; shapes = longer r t }
