-- What is at the front of an expression and of a statement: what an attempted key reads of it in vain, and whether it is a `fn`. Of a group all that is in it
-- is read, of a literal its token, and of anything else nothing; behind the two no Colon stands, so that no key is there.
use Prim.Native.Nat.{ℕ, suc, ◌+◌, ◌≤◌}
use mathlib.Core.Path.{◌≡◌, refl, sym, ap, ◌∙◌, subst}
use mathlib.Core.List.{List}
use mathlib.Core.Bool.{Bool, true, false}
use native.Mathlib.Omega.{arith}
use lib.Dec.{eqb}
use Rattle.kinds.specs.Number as kind
use Rattle.kinds.specs.Operators.{level_of}
use Rattle.grammar.specs.Places.{Place, kind_of, Tok, Here, Not, Free, from_all}
use Rattle.grammar.specs.Symbols.{Form, Name, NameMember, Call, Other, member_of, Eols, Lit, Exprs, Stmts, Stmt, Lefts, Expr, Prec, Ops, Unary, Primary, Posts, Atom}
use Rattle.grammar.specs.Derives.{Derives, Compound, signs}
use Rattle.grammar.specs.Derives as by
use Rattle.grammar.specs.Words.{among}
use Rattle.grammar.proofs.Levels.{some_level}
use Rattle.grammar.proofs.Tests.{at-token, elsewhere, colon-level}
use Rattle.grammar.proofs.FirstKinds.{lits, apart}
use Rattle.grammar.proofs.Starts.{starts}
use Rattle.complete.proofs.Cost.{taken, Costs, costs, cost, lead, one-taken, one-spent}
use Rattle.complete.proofs.Records.{records}
use Rattle.complete.specs.Depth.{need}

-- every form but that of a plain name
abbrev Unnamed : Form → Type 0
Unnamed Name = ⊥
Unnamed NameMember = Unit
Unnamed Call = Unit
Unnamed Other = Unit

-- calls, members and operators make no plain name, and none of them begins with a Colon
member-unnamed : (f : Form) → Unnamed (member_of f)
member-unnamed Name = tt
member-unnamed NameMember = tt
member-unnamed Call = tt
member-unnamed Other = tt

-- behind an expression that is a statement, and where another sign stands than a Colon
signs-colon : {p : Place} → Free signs p → Not kind.Colon p
signs-colon (from_all a (from_all b f)) = b

compound-colon : {k op : ℕ} {p q : Place} → Compound k op → Tok k p q → Not kind.Colon p
compound-colon by.adding t = elsewhere kind.Colon refl (at-token t)
compound-colon by.subtracting t = elsewhere kind.Colon refl (at-token t)
compound-colon by.multiplying t = elsewhere kind.Colon refl (at-token t)
compound-colon by.dividing t = elsewhere kind.Colon refl (at-token t)
compound-colon by.remaining t = elsewhere kind.Colon refl (at-token t)

module _ {text : List ℕ} where
  posts-unnamed : {lambda : Bool} {f g : Form} {p q : Place} → Derives text (Posts lambda f g) p q → Unnamed f → Unnamed g
  posts-unnamed (by.no-post h l) u = u
  posts-unnamed (by.call a d l e) u = posts-unnamed e tt
  posts-unnamed (by.call-lambda a d b e) u = posts-unnamed e tt
  posts-unnamed (by.lambda-alone d e) u = posts-unnamed e tt
  posts-unnamed (by.member {f = f} d e) u = posts-unnamed e (member-unnamed f)
  posts-unnamed (by.safe-member a d e) u = posts-unnamed e tt

  posts-colon : {lambda : Bool} {f g : Form} {p q : Place} → Derives text (Posts lambda f g) p q → Not kind.Colon q → Not kind.Colon p
  unfolding among
  posts-colon (by.no-post h l) n = n
  posts-colon (by.call a d l e) n = elsewhere kind.Colon refl (at-token a)
  posts-colon (by.call-lambda a d b e) n = elsewhere kind.Colon refl (at-token a)
  posts-colon (by.lambda-alone d e) n = elsewhere kind.Colon refl (starts d)
  posts-colon (by.member d e) n = apart kind.Colon (starts d) refl
  posts-colon (by.safe-member a d e) n = elsewhere kind.Colon refl (at-token a)

  ops-unnamed : {n : ℕ} {lambda : Bool} {f g : Form} {p q : Place} → Derives text (Ops n lambda f g) p q → Unnamed f → Unnamed g
  ops-unnamed (by.no-op h) u = u
  ops-unnamed (by.binary l h a d e) u = ops-unnamed e tt
  ops-unnamed (by.type-check l a c b e) u = ops-unnamed e tt

  ops-colon : {n : ℕ} {lambda : Bool} {f g : Form} {p q : Place} → Derives text (Ops n lambda f g) p q → Not kind.Colon q → Not kind.Colon p
  ops-colon (by.no-op h) n = n
  ops-colon (by.binary {n = m} l h a d e) n = record { differs = λ q. let i = subst (λ j. m ≤ level_of j) (sym a.here ∙ q) l in absurd (omega (arith, i, colon-level, some_level e)) }
  ops-colon (by.type-check l a c b e) n = elsewhere kind.Colon refl (at-token a)

  -- all Eols are taken
  eols-end : {p q : Place} → Derives text Eols p q → Not kind.Eol q
  eols-end (by.no-eol h) = h
  eols-end (by.an-eol a d) = eols-end d

-- what an attempted key reads at a place: n readings for up to m records and k levels. At the end of what it reads C holds
pub data Leads (text : List ℕ) (C : Place → Type 0) (p : Place) (n m k : ℕ) : Type 0 where
  no_key : Not kind.OpenParen p → among (kind_of p) lits ≡ false → n ≡ 0 → Leads text C p n m k
  a-group : {u v x : Place} → Tok kind.OpenParen p u → (D : Derives text (Expr true) u v) → Tok kind.CloseParen v x → C x → n ≡ taken p + cost D + taken v → records D ≤ m → need D ≤ k → Leads text C p n m k
  a-literal : {x : Place} (D : Derives text Lit p x) → C x → n ≡ cost D → records D ≤ m → Leads text C p n m k

-- a `fn` and the parenthesis behind it, or another token
pub data Fns (p : Place) (n : ℕ) : Type 0 where
  no_fn : Not kind.Fn p → n ≡ 0 → Fns p n
  a-fn : {q : Place} → Tok kind.Fn p q → Here kind.OpenParen q → n ≡ 1 → Fns p n

-- both, of what costs c
record Front (text : List ℕ) (C : Place → Type 0) (p : Place) (c : Costs) (m k : ℕ) : Type 0 where
  leads : Leads text C p c.key m k
  fns : Fns p c.fn

-- where x ends the front of an expression that ends at q: the expression is no plain name, and no Colon stands at x if none stands at q
record Behind (f : Form) (q x : Place) : Type 0 where
  unnamed : Unnamed f
  colon : Not kind.Colon q → Not kind.Colon x

module _ {text : List ℕ} where
  -- within more, and with another condition
  leads-on : {C D : Place → Type 0} {p : Place} {n m k m1 k1 : ℕ} → ((x : Place) → C x → D x) → m ≤ m1 → k ≤ k1 → Leads text C p n m k → Leads text D p n m1 k1
  leads-on f g h (no_key a b c) = no_key a b c
  leads-on f g h (a-group t D u c e i j) = a-group t D u (f _ c) e (omega arith) (omega arith)
  leads-on f g h (a-literal D c e i) = a-literal D (f _ c) e (omega arith)

  -- where a token stands that begins no key none is read; a front of such a token, which is no `fn` either
  word-leads : {C : Place → Type 0} {j m k : ℕ} {p : Place} → eqb j kind.OpenParen ≡ false → among j lits ≡ false → Here j p → Leads text C p 0 m k
  word-leads f g h = no_key (elsewhere kind.OpenParen f h) (ap (λ j. among j lits) h.stands ∙ g) refl

  module _ {C : Place → Type 0} {p : Place} {w m k : ℕ} where
    other-front : {j : ℕ} → eqb j kind.OpenParen ≡ false → among j lits ≡ false → eqb j kind.Fn ≡ false → Here j p → Front text C p (record { whole = w; key = 0; fn = 0 }) m k
    other-front f g i h = record { leads = word-leads f g h; fns = no_fn (elsewhere kind.Fn i h) refl }

    token-front : {j : ℕ} {q : Place} → eqb j kind.OpenParen ≡ false → among j lits ≡ false → eqb j kind.Fn ≡ false → Tok j p q → Front text C p (record { whole = w; key = 0; fn = 0 }) m k
    token-front f g i t = other-front f g i (at-token t)

  -- a group, a literal, and a function without a name
  group-front : {p u v x : Place} (a : Tok kind.OpenParen p u) (D : Derives text (Expr true) u v) (b : Tok kind.CloseParen v x) → Front text (Behind Other x) p (costs (by.paren-expr a D b)) (records (by.paren-expr a D b)) (need (by.paren-expr a D b))
  unfolding costs records need
  group-front a D b =
      let i = one-spent a refl in
      let j = one-spent b refl in
      record { leads = a-group a D b (record { unnamed = tt; colon = λ h. h }) (omega (arith, i, j)) (omega arith) (omega arith); fns = no_fn (elsewhere kind.Fn refl (at-token a)) refl }

  pub literal-reads : {p q : Place} (D : Derives text Lit p q) → 1 ≡ cost D
  unfolding costs among
  literal-reads (by.a-literal a b) = let i = one-taken (apart kind.Eof (starts (by.a-literal a b)) refl) in omega (arith, i)

  literal-front : {p q : Place} (D : Derives text Lit p q) → Front text (Behind Other q) p (costs (by.atom-literal D)) (records (by.atom-literal D)) (need (by.atom-literal D))
  unfolding costs records need among
  literal-front D = record { leads = a-literal D (record { unnamed = tt; colon = λ h. h }) (literal-reads D) (omega arith); fns = no_fn (apart kind.Fn (starts D) refl) refl }

  fn-front : {C : Place → Type 0} {p q : Place} {w m k : ℕ} → Tok kind.Fn p q → Here kind.OpenParen q → Front text C p (record { whole = w; key = 0; fn = 1 }) m k
  unfolding among
  fn-front t h = record { leads = word-leads refl refl (at-token t); fns = a-fn t h refl }

  atom-front : {f : Form} {p q : Place} (D : Derives text (Atom f) p q) → Front text (Behind f q) p (costs D) (records D) (need D)
  unfolding costs records need among
  atom-front (by.paren-expr a d b) = group-front a d b
  atom-front (by.name d) = other-front refl refl refl (starts d)
  atom-front (by.table a d) = token-front refl refl refl a
  atom-front (by.block-expr a e h d) = token-front refl refl refl a
  atom-front (by.list a d) = token-front refl refl refl a
  atom-front (by.atom-literal d) = literal-front d
  atom-front (by.fn-expr a d) = fn-front a (starts d)
  atom-front (by.closure-expr d) = other-front refl refl refl (starts d)
  atom-front (by.do-expr a d) = token-front refl refl refl a
  atom-front (by.if-expr a d e f) = token-front refl refl refl a
  atom-front (by.match-expr a d b e) = token-front refl refl refl a
  atom-front (by.loop-expr a d) = token-front refl refl refl a
  atom-front (by.while-expr a d e) = token-front refl refl refl a
  atom-front (by.for-expr a d b e f) = token-front refl refl refl a
  atom-front (by.break-expr a) = token-front refl refl refl a
  atom-front (by.continue-expr a) = token-front refl refl refl a
  atom-front (by.return-expr a d) = token-front refl refl refl a

  -- a front stays one of what it begins
  front-on : {f g : Form} {p q r : Place} {c : Costs} {w m k m1 k1 : ℕ} → (Unnamed f → Unnamed g) → (Not kind.Colon r → Not kind.Colon q) → m ≤ m1 → k ≤ k1 → Front text (Behind f q) p c m k
      → Front text (Behind g r) p (record { whole = w; key = c.key; fn = c.fn }) m1 k1
  front-on f g h i x = record { leads = leads-on (λ y b. record { unnamed = f b.unnamed; colon = λ n. b.colon (g n) }) h i x.leads; fns = x.fns }

  primary-front : {lambda : Bool} {f : Form} {p q : Place} (D : Derives text (Primary lambda f) p q) → Front text (Behind f q) p (costs D) (records D) (need D)
  unfolding costs records need
  primary-front (by.primary-of a b) = front-on (posts-unnamed b) (posts-colon b) (omega arith) (omega arith) (atom-front a)

  unary-front : {lambda : Bool} {f : Form} {p q : Place} (D : Derives text (Unary lambda f) p q) → Front text (Behind f q) p (costs D) (records D) (need D)
  unfolding costs records need among
  unary-front (by.not-expr a d) = token-front refl refl refl a
  unary-front (by.neg-expr a d) = token-front refl refl refl a
  unary-front (by.tried a d e) = token-front refl refl refl a
  unary-front (by.no-unary d) = front-on (λ u. u) (λ n. n) (omega arith) (omega arith) (primary-front d)

  prec-front : {n : ℕ} {lambda : Bool} {f : Form} {p q : Place} (D : Derives text (Prec n lambda f) p q) → Front text (Behind f q) p (costs D) (records D) (need D)
  unfolding costs records need
  prec-front (by.prec-of a b) = front-on (ops-unnamed b) (ops-colon b) (omega arith) (omega arith) (unary-front a)

  -- whether a `fn` begins an expression, and what that costs where the expression opens a statement
  pub prec-fns : {n : ℕ} {lambda : Bool} {f : Form} {p q : Place} (D : Derives text (Prec n lambda f) p q) → Fns p (costs D).fn
  prec-fns D = (prec-front D).fns

  -- in a statement no Colon stands behind an expression that is no plain name
  opened-leads : {n m k : ℕ} {lambda : Bool} {f : Form} {p q : Place} (D : Derives text (Prec n lambda f) p q) → (Unnamed f → Not kind.Colon q) → records D ≤ m → need D ≤ k → Leads text (Not kind.Colon) p (lead D) m k
  opened-leads D f h i = leads-on (λ y b. b.colon (f b.unnamed)) h i (prec-front D).leads

  lefts-colon : {n : ℕ} {p q : Place} → Derives text (Lefts (suc n)) p q → Not kind.Colon p
  lefts-colon (by.a-left a d f e) = elsewhere kind.Colon refl (at-token a)

  stmt-leads : {p q : Place} (D : Derives text Stmt p q) → Leads text (Not kind.Colon) p (lead D) (records D) (need D)
  unfolding costs records need among
  stmt-leads (by.fn-stmt a d e) = word-leads refl refl (at-token a)
  stmt-leads (by.import-stmt a d) = word-leads refl refl (at-token a)
  stmt-leads (by.effect-stmt d) = word-leads refl refl (starts d)
  stmt-leads (by.glo-fn a b d e) = word-leads refl refl (at-token a)
  stmt-leads (by.glo-effect a d) = word-leads refl refl (at-token a)
  stmt-leads (by.glo-assign a d b e) = word-leads refl refl (at-token a)
  stmt-leads (by.expr-stmt d h) = opened-leads d (λ _. signs-colon h) (omega arith) (omega arith)
  stmt-leads (by.assign d f a e) = opened-leads d (λ _. elsewhere kind.Colon refl (at-token a)) (omega arith) (omega arith)
  stmt-leads (by.typed-assign d a e b f) = opened-leads d (λ u. absurd u) (omega arith) (omega arith)
  stmt-leads (by.op-assign d f c a e) = opened-leads d (λ _. compound-colon c a) (omega arith) (omega arith)
  stmt-leads (by.unpack d f e a g h) = opened-leads d (λ _. lefts-colon e) (omega arith) (omega arith)
  stmt-leads (by.multi d f e a g h) = opened-leads d (λ _. lefts-colon e) (omega arith) (omega arith)

  stmts-leads : {p q : Place} (D : Derives text (Stmts kind.CloseBrace) p q) → Leads text (Not kind.Colon) p (lead D) (records D) (need D)
  unfolding costs records need among
  stmts-leads (by.no-stmt a) = word-leads refl refl (at-token a)
  stmts-leads (by.last-stmt d a) = leads-on (λ x c. c) (omega arith) (omega arith) (stmt-leads d)
  stmts-leads (by.a-line d a b e) = leads-on (λ x c. c) (omega arith) (omega arith) (stmt-leads d)

  -- statements behind all Eols
  pub body-leads : {p q r : Place} → Derives text Eols p q → (D : Derives text (Exprs kind.CloseBrace) q r) → Leads text (Not kind.Colon) q (lead D) (records D) (need D)
  unfolding costs records need
  body-leads e (by.exprs-of (by.no-eol h) d) = stmts-leads d
  body-leads e (by.exprs-of (by.an-eol a b) d) = absurd ((eols-end e).differs a.here)
