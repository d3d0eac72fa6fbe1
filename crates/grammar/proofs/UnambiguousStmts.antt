-- Statements are unambiguous, one and in a row, and none starts where a key does.
use Rattle.std.specs.Prelude.{Some, None}
use Prim.Native.Nat.{ℕ}
use mathlib.Core.Path.{◌≡◌, refl, sym, ap, subst, ◌∙◌}
use mathlib.Core.List.{List}
use mathlib.Core.Bool.{Bool, true, false}
use lib.Dec.{eqb}
use native.Mathlib.Omega.{arith}
use borrow.Author.Tests.{eqb-true, ne_eqb}
use Rattle.kinds.specs.Number as kind
use Rattle.cursor.specs.Node as node
use Rattle.grammar.specs.Places.{Place, kind_of, span_of, start_of, after, Tok, Not}
use Rattle.grammar.specs.Symbols.{Form, Ident, Ty, Typed, Expr, Prec, Function, Effect, Path, Stmt, Stmts, Exprs, Key}
use Rattle.grammar.specs.Derives.{Derives}
use Rattle.grammar.specs.Derives as g
use Rattle.grammar.specs.Builders.{blank, more, couple, fn_over, effect_over}
use Rattle.grammar.specs.Shape.{shape}
use Rattle.grammar.specs.Words.{among}
use Rattle.grammar.proofs.FirstKinds.{Starts, Opens, exprs, apart, opening-apart}
use Rattle.grammar.proofs.Starts.{starts}
use Rattle.grammar.proofs.UnambiguousClaims.{Behind, Agree, Ending, by-brace, by-input, a-ty}
use Rattle.grammar.proofs.UnambiguousBelow.{Below}
use Rattle.grammar.proofs.UnambiguousTokens.{step, meet, refuse, eols, ident, longer, value}
use Rattle.grammar.proofs.UnambiguousKeys.{leading, meets-key}
use Rattle.grammar.proofs.UnambiguousTails.{TailAt, at_plain, at-assign, at_typed, at_op, at-unpack, at-multi, sign_sort, tail-sort, begun, no-colon, same-tail}

-- which statement it is by its first two kinds: 0 for one that begins with an expression
abbrev glo_by : Bool → Bool → ℕ
glo_by true b = 3
glo_by false true = 4
glo_by false false = 5

abbrev fn_by : Bool → ℕ
fn_by true = 6
fn_by false = 0

abbrev head_by : Bool → Bool → Bool → Bool → ℕ → ℕ
head_by true b c d j = 1
head_by false true c d j = 2
head_by false false true d j = glo_by (eqb j kind.Fn) (eqb j kind.Effect)
head_by false false false true j = fn_by (eqb j kind.Ident)
head_by false false false false j = 0

abbrev head_of : ℕ → ℕ → ℕ
head_of k j = head_by (eqb k kind.Import) (eqb k kind.Effect) (eqb k kind.Glo) (eqb k kind.Fn) j

abbrev stmt_sort : Place → ℕ
stmt_sort p = head_of (kind_of p) (kind_of (after p))

-- by a token and the kind behind it
two : {k j : ℕ} {p q : Place} → Tok k p q → kind_of q ≡ j → stmt_sort p ≡ head_of k j
two {k} {j} {p} a h = ap (λ i. head_of i (kind_of (after p))) a.here ∙ ap (head_of k) (ap kind_of a.next ∙ h)

-- an expression is 0
expr-sort : {p : Place} → Opens exprs p → stmt_sort p ≡ 0
unfolding among
expr-sort {p} o =
    ap (λ b. head_by b (eqb k kind.Effect) (eqb k kind.Glo) (eqb k kind.Fn) j) (never kind.Import refl) ∙ ap (λ b. head_by false b (eqb k kind.Glo) (eqb k kind.Fn) j) (never kind.Effect refl) ∙ ap (λ b. head_by false false b (eqb k kind.Fn) j) (never kind.Glo refl) ∙ last (eqb k kind.Fn) refl
  where
    k : ℕ
    k = kind_of p

    j : ℕ
    j = kind_of (after p)

    never : (i : ℕ) → among i exprs ≡ false → eqb (kind_of p) i ≡ false
    never i e = ne_eqb (kind_of p) i (opening-apart i o e).differs

    last : (b : Bool) → eqb (kind_of p) kind.Fn ≡ b → head_by false false false b (kind_of (after p)) ≡ 0
    last true e = ap (λ i. fn_by (eqb i kind.Ident)) (o.paren (eqb-true _ _ e))
    last false e = refl

-- no statement and no key starts where a body ends
not-ended : {ks : List ℕ} {end : ℕ} {p : Place} → Ending end → Starts ks p → among kind.CloseBrace ks ≡ false → among kind.Eof ks ≡ false → Not end p
not-ended by-brace s e f = apart kind.CloseBrace s e
not-ended by-input s e f = apart kind.Eof s f

not-eol : {end : ℕ} → Ending end → end ≡ kind.Eol → ⊥
not-eol by-brace e = omega (arith, e)
not-eol by-input e = omega (arith, e)

module _ {text : List ℕ} where
  -- a statement by which one it is
  data StmtAt : ℕ → (p q : Place) → Derives text Stmt p q → Type 0 where
    at-expr : {k : ℕ} {f : Form} {p q r : Place} {d : Derives text (Prec 1 true f) p q} {s : Derives text Stmt p r} → TailAt k f p q r d s → StmtAt 0 p r s
    at-import : {p q r : Place} (a : Tok kind.Import p q) (d : Derives text Path q r) → StmtAt 1 p r (g.import-stmt a d)
    at-effect : {p q : Place} (d : Derives text Effect p q) → StmtAt 2 p q (g.effect-stmt d)
    at-glo-fn : {p q r t u : Place} (a : Tok kind.Glo p q) (c : Tok kind.Fn q r) (d : Derives text Ident r t) (e : Derives text (Function false) t u) → StmtAt 3 p u (g.glo-fn a c d e)
    at-glo-effect : {p q r : Place} (a : Tok kind.Glo p q) (d : Derives text Effect q r) → StmtAt 4 p r (g.glo-effect a d)
    at-glo-assign : {p q r t u : Place} (a : Tok kind.Glo p q) (d : Derives text (Typed Ty) q r) (c : Tok kind.Assign r t) (e : Derives text (Expr true) t u) → StmtAt 5 p u (g.glo-assign a d c e)
    at_fn : {p q r t : Place} (a : Tok kind.Fn p q) (d : Derives text Ident q r) (e : Derives text (Function false) r t) → StmtAt 6 p t (g.fn-stmt a d e)

  by-sort : {k : ℕ} {p q : Place} {s : Derives text Stmt p q} → stmt_sort p ≡ k → StmtAt k p q s → StmtAt (stmt_sort p) p q s
  by-sort {p = p} {q = q} {s = s} e v = subst (λ j. StmtAt j p q s) (sym e) v

  by-expr : {k : ℕ} {f : Form} {p q r : Place} {d : Derives text (Prec 1 true f) p q} {s : Derives text Stmt p r} → TailAt k f p q r d s → StmtAt (stmt_sort p) p r s
  by-expr {d = d} t = by-sort (expr-sort (starts d)) (at-expr t)

  seen : {p q : Place} (s : Derives text Stmt p q) → StmtAt (stmt_sort p) p q s
  seen (g.fn-stmt a d e) = by-sort (two a (starts d).stands) (at_fn a d e)
  seen {p} (g.import-stmt a d) = by-sort (ap (λ i. head_of i (kind_of (after p))) a.here) (at-import a d)
  seen {p} (g.effect-stmt d) = by-sort (ap (λ i. head_of i (kind_of (after p))) (starts d).stands) (at-effect d)
  seen (g.glo-fn a c d e) = by-sort (two a c.here) (at-glo-fn a c d e)
  seen (g.glo-effect a d) = by-sort (two a (starts d).stands) (at-glo-effect a d)
  seen (g.glo-assign a d c e) = by-sort (two a (starts d).stands) (at-glo-assign a d c e)
  seen (g.expr-stmt d h) = by-expr (at_plain d h)
  seen (g.assign d c a e) = by-expr (at-assign d c a e)
  seen (g.typed-assign d a e c f) = by-expr (at_typed d a e c f)
  seen (g.op-assign d c o a e) = by-expr (at_op d c o a e)
  seen (g.unpack d c e a f h) = by-expr (at-unpack d c e a f h)
  seen (g.multi d c e a f h) = by-expr (at-multi d c e a f h)

  same : {k : ℕ} {p q u v : Place} {s : Derives text Stmt p q} {s' : Derives text Stmt u v} → StmtAt k p q s → Below s → StmtAt k u v s' → p ≡ u → Agree s s'
  unfolding shape
  same (at-expr {k = k} {q = q} t) b (at-expr {k = k'} {f = f'} {p = u} {q = v} {r = w} {d = d'} {s = s'} t') e =
      let r = ((begun t b).agrees d' refl e).same in
      let l : k' ≡ k = sym (tail-sort t') ∙ ap (λ z. sign_sort (kind_of z)) (sym r.ends) ∙ tail-sort t in
      same-tail t b (subst (λ j. TailAt j f' u v w d' s') l t') e r
  same (at-import a d) b (at-import a' d') e =
      let r = b.agrees d' (step a a' e) in
      record { ends = r.ends; shapes = λ x so i. r.shapes (start_of (e i)) blank i }
  same (at-effect d) b (at-effect d') e = let r = b.agrees d' e in record { ends = r.ends; shapes = λ x so i. effect_over (start_of (e i)) (r.ends i) None (value r i) }
  same (at-glo-fn a c d f) b (at-glo-fn a' c' d' f') e =
      let r = ident d d' (step c c' (step a a' e)) in
      let t = b.agrees f' r.ends in
      record { ends = t.ends; shapes = λ x so i. fn_over (start_of (e i)) (t.ends i) (Some (span_of (e i))) (value r i).row (t.shapes (start_of (e i)) blank i) }
  same (at-glo-effect a d) b (at-glo-effect a' d') e =
      let r = b.agrees d' (step a a' e) in
      record { ends = r.ends; shapes = λ x so i. effect_over (start_of (e i)) (r.ends i) (Some (span_of (e i))) (value r i) }
  same (at-glo-assign a d c f) b (at-glo-assign a' d' c' f') e =
      let r = (b.0 a-ty).agrees d' (step a a' e) in
      let t = b.1.agrees f' (step c c' r.ends) in
      record { ends = t.ends; shapes = λ x so i. couple node.GloAssign (start_of (e i)) (t.ends i) (value r i) (value t i) }
  same (at_fn a d f) b (at_fn a' d' f') e =
      let r = ident d d' (step a a' e) in
      let t = b.agrees f' r.ends in
      record { ends = t.ends; shapes = λ x so i. fn_over (start_of (e i)) (t.ends i) None (value r i).row (t.shapes (start_of (e i)) blank i) }

  pub stmt : {p q u v : Place} (d : Derives text Stmt p q) → Below d → (e : Derives text Stmt u v) → p ≡ u → Agree d e
  stmt {u = u} {v = v} d b e h = same (seen d) b (subst (λ w. StmtAt (stmt_sort w) u v e) (sym h) (seen e)) h

  -- a statement where a key starts begins with an expression
  at_key : {p q u v : Place} (s : Derives text Stmt p q) → Derives text Key u v → p ≡ u → StmtAt 0 p q s
  at_key {p} {q} s k e = subst (λ j. StmtAt j p q s) (ap stmt_sort e ∙ expr-sort (starts (leading k).expr)) (seen s)

  meets : {p q u v : Place} {s : Derives text Stmt p q} → StmtAt 0 p q s → Below s → Derives text Key u v → p ≡ u → ⊥
  meets (at-expr t) b k e = no-colon t (meets-key (begun t b) k e)

  pub stmt-keyless : {p q u v : Place} (s : Derives text Stmt p q) → Below s → Derives text Key u v → p ≡ u → ⊥
  stmt-keyless s b k e = meets (at_key s k e) b k e

  pub stmts : {end : ℕ} {p q u v : Place} → Ending end → (d : Derives text (Stmts end) p q) → Below d → (e : Derives text (Stmts end) u v) → p ≡ u → Agree d e
  unfolding shape among
  stmts c (g.no-stmt a) b (g.no-stmt a') e = record { ends = step a a' e; shapes = λ x so. refl }
  stmts c (g.no-stmt a) b (g.last-stmt d' a') e = absurd (refuse (not-ended c (starts d') refl refl) a.here (sym e))
  stmts c (g.no-stmt a) b (g.a-line d' a' l' f') e = absurd (refuse (not-ended c (starts d') refl refl) a.here (sym e))
  stmts c (g.last-stmt d a) b (g.no-stmt a') e = absurd (refuse (not-ended c (starts d) refl refl) a'.here e)
  stmts c (g.last-stmt d a) b (g.last-stmt d' a') e = let r = b.agrees d' e in record { ends = step a a' r.ends; shapes = λ x so i. more so (value r i) }
  stmts c (g.last-stmt d a) b (g.a-line d' a' l' f') e = absurd (not-eol c (meet a.here a'.here (b.agrees d' e).ends))
  stmts c (g.a-line d a l f) b (g.no-stmt a') e = absurd (refuse (not-ended c (starts d) refl refl) a'.here e)
  stmts c (g.a-line d a l f) b (g.last-stmt d' a') e = absurd (not-eol c (sym (meet a.here a'.here (b.0.agrees d' e).ends)))
  stmts c (g.a-line d a l f) b (g.a-line d' a' l' f') e =
      let r = b.0.agrees d' e in
      let t = (b.1 c).agrees f' (eols l l' (step a a' r.ends)) in
      record { ends = t.ends; shapes = longer r t }

  pub stmts-keyless : {end : ℕ} {p q u v : Place} → Ending end → (d : Derives text (Stmts end) p q) → Below d → Derives text Key u v → p ≡ u → ⊥
  unfolding among
  stmts-keyless c (g.no-stmt a) b k e = refuse (not-ended c (starts k) refl refl) a.here (sym e)
  stmts-keyless c (g.last-stmt d a) b k e = b.keyless k e
  stmts-keyless c (g.a-line d a l f) b k e = b.0.keyless k e

  pub body : {end : ℕ} {p q u v : Place} → Ending end → (d : Derives text (Exprs end) p q) → Below d → (e : Derives text (Exprs end) u v) → p ≡ u → Agree d e
  unfolding shape
  body c (g.exprs-of l d) b (g.exprs-of l' d') e = let r = (b c).agrees d' (eols l l' e) in record { ends = r.ends; shapes = r.shapes }

  pub body-keyless : {end : ℕ} {p q u v : Place} → Ending end → (d : Derives text (Exprs end) p q) → Below d → Derives text Key u v → p ≡ u → ⊥
  unfolding among
  body-keyless c (g.exprs-of (g.no-eol h) d) b k e = (b c).keyless k e
  body-keyless c (g.exprs-of (g.an-eol a l) d) b k e = refuse (apart kind.Eol (starts k) refl) a.here (sym e)

  -- the other way round: where all expressions end as a key's does there is no statement
  module _ {p q : Place} (k : Derives text Key p q) (lead : (f : Form) (u v : Place) → Derives text (Prec 1 true f) u v → p ≡ u → Behind f v) where
    led : {u v : Place} {s : Derives text Stmt u v} → StmtAt 0 u v s → p ≡ u → ⊥
    led (at-expr {d = d} t) e = no-colon t (lead _ _ _ d e)

    led-stmts : {end : ℕ} {u v : Place} → Ending end → Derives text (Stmts end) u v → p ≡ u → ⊥
    unfolding among
    led-stmts c (g.no-stmt a) e = refuse (not-ended c (starts k) refl refl) a.here e
    led-stmts c (g.last-stmt d a) e = led (at_key d k (sym e)) e
    led-stmts c (g.a-line d a l f) e = led (at_key d k (sym e)) e

    pub led-body : {end : ℕ} {u v : Place} → Ending end → Derives text (Exprs end) u v → p ≡ u → ⊥
    unfolding among
    led-body c (g.exprs-of (g.no-eol h) d) e = led-stmts c d e
    led-body c (g.exprs-of (g.an-eol a l) d) e = refuse (apart kind.Eol (starts k) refl) a.here e
