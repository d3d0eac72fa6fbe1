-- An expression up to its calls and members is one tree, and the tree of a Call is a Call's.
use Prim.Native.Nat.{ℕ}
use mathlib.Core.Path.{◌≡◌, refl}
use mathlib.Core.List.{List}
use mathlib.Core.Bool.{Bool}
use Rattle.cursor.specs.declared.Label.{Label}
use Rattle.cursor.specs.Node as record_of
use Rattle.cursor.specs.Tree.{Trees, tree}
use Rattle.grammar.specs.Places.{Place}
use Rattle.grammar.specs.Symbols.{Form, Name, NameMember, Call, Other, member_of, Lit, Ident, Atom, Posts, Primary}
use Rattle.grammar.specs.Derives.{Derives}
use Rattle.grammar.specs.Derives as by
use Rattle.grammar.specs.Builders.{Shape, blank}
use Rattle.grammar.specs.Shape.{shape}

-- the record of an expression of form Call is a Call
abbrev pub Kinded : Form → ℕ → Type 0
Kinded Name k = Unit {0}
Kinded NameMember k = Unit {0}
Kinded Call k = k ≡ record_of.Call
Kinded Other k = Unit {0}

-- one tree, and a Call where the form says so
pub data One (f : Form) : Trees → Type 0 where
  one : (l : Label) (ks : Trees) → Kinded f l.kind → One f (tree l ks)

pub one-literal : {text : List ℕ} {p q : Place} (d : Derives text Lit p q) (x : ℕ) (so : Shape) → One Other (shape d x so).row
unfolding shape
one-literal (by.a-literal a b) x so = one _ _ tt

pub one_name : {text : List ℕ} {p q : Place} (d : Derives text Ident p q) (x : ℕ) (so : Shape) → One Name (shape d x so).row
unfolding shape
one_name (by.an-ident a) x so = one _ _ tt

pub one-atom : {text : List ℕ} {f : Form} {p q : Place} (d : Derives text (Atom f) p q) (x : ℕ) (so : Shape) → One f (shape d x so).row
unfolding shape
one-atom (by.paren-expr a d b) x so = one _ _ tt
one-atom (by.name d) x so = one_name d 0 blank
one-atom (by.table a d) x so = one _ _ tt
one-atom (by.block-expr a e h d) x so = one _ _ tt
one-atom (by.list a d) x so = one _ _ tt
one-atom (by.atom-literal d) x so = one-literal d 0 blank
one-atom (by.fn-expr a d) x so = one _ _ tt
one-atom (by.closure-expr d) x so = one _ _ tt
one-atom (by.do-expr a d) x so = one _ _ tt
one-atom (by.if-expr a d e f) x so = one _ _ tt
one-atom (by.match-expr a d b e) x so = one _ _ tt
one-atom (by.loop-expr a d) x so = one _ _ tt
one-atom (by.while-expr a d e) x so = one _ _ tt
one-atom (by.for-expr a d b e f) x so = one _ _ tt
one-atom (by.break-expr a) x so = one _ _ tt
one-atom (by.continue-expr a) x so = one _ _ tt
one-atom (by.return-expr a d) x so = one _ _ tt

-- a member is no Call
member-kind : (f : Form) (k : ℕ) → Kinded (member_of f) k
member-kind Name k = tt
member-kind NameMember k = tt
member-kind Call k = tt
member-kind Other k = tt

pub one-posts : {text : List ℕ} {lambda : Bool} {f g : Form} {p q : Place} (d : Derives text (Posts lambda f g) p q) (x : ℕ) (so : Shape) → One f so.row → One g (shape d x so).row
unfolding shape
one-posts (by.no-post h l) x so o = o
one-posts (by.call a d l e) x so o = one-posts e x _ (one _ _ refl)
one-posts (by.call-lambda a d f e) x so o = one-posts e x _ (one _ _ refl)
one-posts (by.lambda-alone d e) x so o = one-posts e x _ (one _ _ refl)
one-posts {f = f} (by.member d e) x so o = one-posts e x _ (one _ _ (member-kind f _))
one-posts (by.safe-member a d e) x so o = one-posts e x _ (one _ _ tt)

pub one-primary : {text : List ℕ} {lambda : Bool} {f : Form} {p q : Place} (d : Derives text (Primary lambda f) p q) (x : ℕ) (so : Shape) → One f (shape d x so).row
unfolding shape
one-primary (by.primary-of d e) x so = one-posts e _ _ (one-atom d 0 blank)
