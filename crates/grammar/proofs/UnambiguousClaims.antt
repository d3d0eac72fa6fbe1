-- What it is for the grammar to be unambiguous: two derivations of one symbol that start at one place end at one place and have one shape.
--
-- The claim is about a derivation, against all others. Which form an expression has, how many left sides there are and which number a member has is
-- settled by the tokens alone, so there the other derivation may be of another form or number, and that they are the same is part of the claim. Places
-- are related by paths: the parts behind agreeing parts start at places that are equal, and no derivation has to be moved.
--
-- The proof goes by the parts of a derivation: `Below d` holds the claims on the parts, and for each symbol a lemma leads from those to the claim on d. So
-- the lemmas have no recursion, and Unambiguous.antt has all of it.
use Prim.Native.Nat.{ℕ}
use mathlib.Core.Path.{◌≡◌}
use mathlib.Core.List.{List}
use mathlib.Core.Bool.{Bool, true}
use Rattle.kinds.specs.Number as kind
use Rattle.grammar.specs.Places.{Place, kind_of, Not}
use Rattle.grammar.specs.Symbols.{Sym, Form, Other}
use Rattle.grammar.specs.Symbols as s
use Rattle.grammar.specs.Derives.{Derives}
use Rattle.grammar.specs.Derives as g
use Rattle.grammar.specs.Builders.{Shape}
use Rattle.grammar.specs.Shape.{shape}

-- so that the trees and words there are checked first

-- an expression of no form that a Colon could stand behind, with a Colon behind it: so a key looks to a statement
pub record Behind (f : Form) (q : Place) : Type 0 where
  pub form : f ≡ Other
  pub colon : kind_of q ≡ kind.Colon

-- what stands for an item of a list or behind the Colon of a name: the symbols that have no form or number of their own
pub data Item : Sym → Type 0 where
  a-ty : Item s.Ty
  a-ty-atom : Item s.TyAtom
  a-ty-pair : Item s.TyPair
  the_others : Item s.Others
  a-pattern : Item s.Pattern
  a-pattern-pair : Item s.PatternPair
  an-import : Item s.ImportItem
  an-expr : Item (s.Expr true)
  a-property : Item s.Property
  no_last : Item s.NoLast
  only-dots : Item s.Dots
  a-rest : {x : Sym} → Item x → Item (s.Rest x)
  a-typed : {x : Sym} → Item x → Item (s.Typed x)

-- where a body ends: at its brace, or at the end of input
pub data Ending : ℕ → Type 0 where
  by-brace : Ending kind.CloseBrace
  by-input : Ending kind.Eof

-- what tells the productions of a list apart: no item and no last item starts with the token that closes it, no item starts where a last item
-- does, and a Comma closes no list
pub record Listed (text : List ℕ) (x y : Sym) (end : ℕ) : Type 0 where
  pub item : Item x
  pub last : Item y
  pub item-first : {p q : Place} → Derives text x p q → Not end p
  pub last-first : {p q : Place} → Derives text y p q → Not end p
  pub apart : {p q u v : Place} → Derives text x p q → Derives text y u v → p ≡ u → ⊥
  pub no-comma : end ≡ kind.Comma → ⊥

module _ {text : List ℕ} where
  -- the same end and the same shape
  pub record Agree {y z : Sym} {p q u v : Place} (d : Derives text y p q) (e : Derives text z u v) : Type 0 where
    pub ends : q ≡ v
    pub shapes : (x : ℕ) (so : Shape) → shape d x so ≡ shape e x so

  -- the same form too, or the same number
  pub record Alike {A : Type 0} (a b : A) {y z : Sym} {p q u v : Place} (d : Derives text y p q) (e : Derives text z u v) : Type 0 where
    pub chosen : a ≡ b
    pub same : Agree d e

  -- no other derivation of its symbol starts where this one does
  pub record Unique {y : Sym} {p q : Place} (d : Derives text y p q) : Type 0 where
    pub agrees : {u v : Place} (e : Derives text y u v) → p ≡ u → Agree d e

  pub record UniquePrec {n : ℕ} {lambda : Bool} {f : Form} {p q : Place} (d : Derives text (s.Prec n lambda f) p q) : Type 0 where
    pub agrees : {m : ℕ} {h : Form} {u v : Place} (e : Derives text (s.Prec m lambda h) u v) → n ≡ m → p ≡ u → Alike f h d e

  pub record UniqueOps {n : ℕ} {lambda : Bool} {f h : Form} {p q : Place} (d : Derives text (s.Ops n lambda f h) p q) : Type 0 where
    pub agrees : {m : ℕ} {i j : Form} {u v : Place} (e : Derives text (s.Ops m lambda i j) u v) → n ≡ m → f ≡ i → p ≡ u → Alike h j d e

  pub record UniqueUnary {lambda : Bool} {f : Form} {p q : Place} (d : Derives text (s.Unary lambda f) p q) : Type 0 where
    pub agrees : {h : Form} {u v : Place} (e : Derives text (s.Unary lambda h) u v) → p ≡ u → Alike f h d e

  pub record UniquePrimary {lambda : Bool} {f : Form} {p q : Place} (d : Derives text (s.Primary lambda f) p q) : Type 0 where
    pub agrees : {h : Form} {u v : Place} (e : Derives text (s.Primary lambda h) u v) → p ≡ u → Alike f h d e

  pub record UniquePosts {lambda : Bool} {f h : Form} {p q : Place} (d : Derives text (s.Posts lambda f h) p q) : Type 0 where
    pub agrees : {i j : Form} {u v : Place} (e : Derives text (s.Posts lambda i j) u v) → f ≡ i → p ≡ u → Alike h j d e

  pub record UniqueAtom {f : Form} {p q : Place} (d : Derives text (s.Atom f) p q) : Type 0 where
    pub agrees : {h : Form} {u v : Place} (e : Derives text (s.Atom h) u v) → p ≡ u → Alike f h d e

  pub record UniqueMember {n : ℕ} {p q : Place} (d : Derives text (s.Member n) p q) : Type 0 where
    pub agrees : {m : ℕ} {u v : Place} (e : Derives text (s.Member m) u v) → p ≡ u → Alike n m d e

  pub record UniqueLefts {n : ℕ} {p q : Place} (d : Derives text (s.Lefts n) p q) : Type 0 where
    pub agrees : {m : ℕ} {u v : Place} (e : Derives text (s.Lefts m) u v) → p ≡ u → Alike n m d e

  -- of right sides the number is known
  pub record UniqueRights {n : ℕ} {p q : Place} (d : Derives text (s.Rights n) p q) : Type 0 where
    pub agrees : {m : ℕ} {u v : Place} (e : Derives text (s.Rights m) u v) → n ≡ m → p ≡ u → Agree d e

  -- a key, or a property by its key: an expression that starts where it does ends at its Colon
  pub record UniqueKey {y : Sym} {p q : Place} (d : Derives text y p q) : Type 0 where
    pub agrees : {u v : Place} (e : Derives text y u v) → p ≡ u → Agree d e
    pub lead : {f : Form} {u v : Place} → Derives text (s.Prec 1 true f) u v → p ≡ u → Behind f v

  -- a statement, or statements by their first: no key starts where it does
  pub record UniqueStmt {y : Sym} {p q : Place} (d : Derives text y p q) : Type 0 where
    pub agrees : {u v : Place} (e : Derives text y u v) → p ≡ u → Agree d e
    pub keyless : {u v : Place} → Derives text s.Key u v → p ≡ u → ⊥

  -- what is claimed of the first item of a list, where it has one
  abbrev pub OfFirst : {x y : Sym} {end : ℕ} {p q : Place} → ((p q : Place) → Derives text x p q → Type 0) → Derives text (s.Items x y end) p q → Type 0
  OfFirst K (g.items-end a) = Unit
  OfFirst K (g.items-last d a b) = Unit
  OfFirst K (g.items-final d a b) = K _ _ d
  OfFirst K (g.items-comma d a b c e) = K _ _ d

  abbrev pub OfFirstUntil : {x y : Sym} {end : ℕ} {p q : Place} → ((p q : Place) → Derives text x p q → Type 0) → Derives text (s.Until x y end) p q → Type 0
  OfFirstUntil K (g.until-of a d) = OfFirst K d

  pub record UniqueItems {x y : Sym} {end : ℕ} {p q : Place} (K : (p q : Place) → Derives text x p q → Type 0) (d : Derives text (s.Items x y end) p q) : Type 0 where
    pub agrees : {u v : Place} (e : Derives text (s.Items x y end) u v) → p ≡ u → Agree d e
    pub first : OfFirst K d

  pub record UniqueUntil {x y : Sym} {end : ℕ} {p q : Place} (K : (p q : Place) → Derives text x p q → Type 0) (d : Derives text (s.Until x y end) p q) : Type 0 where
    pub agrees : {u v : Place} (e : Derives text (s.Until x y end) u v) → p ≡ u → Agree d e
    pub first : OfFirstUntil K d

  -- what is claimed of a derivation, by its symbol
  abbrev pub Sole : (y : Sym) (p q : Place) → Derives text y p q → Type 0
  Sole s.Eols p q d = Unique d
  Sole (s.Until x y end) p q d = Listed text x y end → UniqueUntil (Sole x) d
  Sole (s.Items x y end) p q d = Listed text x y end → UniqueItems (Sole x) d
  Sole s.NoLast p q d = Unique d
  Sole s.Dots p q d = Unique d
  Sole (s.Rest x) p q d = Item x → Unique d
  Sole s.Lit p q d = Unique d
  Sole s.Ident p q d = Unique d
  Sole s.Ty p q d = Unique d
  Sole s.TyAtom p q d = Unique d
  Sole s.Bars p q d = Unique d
  Sole s.TyPair p q d = Unique d
  Sole s.Others p q d = Unique d
  Sole s.Returns p q d = Unique d
  Sole (s.Typed x) p q d = Item x → Unique d
  Sole s.Pattern p q d = Unique d
  Sole s.PatternPair p q d = Unique d
  Sole (s.Exprs end) p q d = Ending end → UniqueStmt d
  Sole (s.Stmts end) p q d = Ending end → UniqueStmt d
  Sole s.Block p q d = Unique d
  Sole s.Stmt p q d = UniqueStmt d
  Sole s.Effect p q d = Unique d
  Sole s.Path p q d = Unique d
  Sole s.ImportItem p q d = Unique d
  Sole (s.Lefts n) p q d = UniqueLefts d
  Sole (s.Rights n) p q d = UniqueRights d
  Sole (s.Params closure) p q d = Unique d
  Sole (s.Function closure) p q d = Unique d
  Sole (s.Expr lambda) p q d = Unique d
  Sole (s.Prec n lambda f) p q d = UniquePrec d
  Sole (s.Ops n lambda f h) p q d = UniqueOps d
  Sole (s.Unary lambda f) p q d = UniqueUnary d
  Sole s.Handler p q d = Unique d
  Sole s.Handlers p q d = Unique d
  Sole (s.Primary lambda f) p q d = UniquePrimary d
  Sole (s.Posts lambda f h) p q d = UniquePosts d
  Sole (s.Member n) p q d = UniqueMember d
  Sole (s.Atom f) p q d = UniqueAtom d
  Sole s.Key p q d = UniqueKey d
  Sole s.Property p q d = UniqueKey d
  Sole s.Alternate p q d = Unique d
  Sole s.Names p q d = Unique d
  Sole s.Cases p q d = Unique d
  Sole s.Case p q d = Unique d
  Sole s.Patterns p q d = Unique d

  -- an item is unique in the plain sense
  pub plainly : {x : Sym} {p q : Place} {d : Derives text x p q} → Item x → Sole x p q d → Unique d
  plainly a-ty h = h
  plainly a-ty-atom h = h
  plainly a-ty-pair h = h
  plainly the_others h = h
  plainly a-pattern h = h
  plainly a-pattern-pair h = h
  plainly an-import h = h
  plainly an-expr h = h
  plainly a-property h = record { agrees = h.agrees }
  plainly no_last h = h
  plainly only-dots h = h
  plainly (a-rest i) h = h i
  plainly (a-typed i) h = h i
