-- What a symbol's words and records are counted from, and what has to be known of a symbol that has other symbols or a kind in it.
use mathlib.Core.Path.{◌≡◌, refl}
use Rattle.cursor.specs.Tree.{Trees, none}
use Rattle.grammar.specs.Places.{Place}
use Rattle.grammar.specs.Symbols.{Sym}
use Rattle.grammar.specs.Symbols as symbol
use Rattle.grammar.proofs.WordsOfTokens.{NoWord}
use Rattle.grammar.proofs.WordsOf.{Adds}

-- a symbol that goes on from what stands already has that row's too; one that becomes a value by itself begins anew
abbrev pub from : Sym → Trees → Trees
from symbol.Eols t = t
from (symbol.Until x y end) t = t
from (symbol.Items x y end) t = t
from symbol.NoLast t = none
from symbol.Dots t = none
from (symbol.Rest x) t = none
from symbol.Lit t = none
from symbol.Ident t = none
from symbol.Ty t = none
from symbol.TyAtom t = none
from symbol.Bars t = t
from symbol.TyPair t = none
from symbol.Others t = none
from symbol.Returns t = none
from (symbol.Typed x) t = none
from symbol.Pattern t = none
from symbol.PatternPair t = none
from (symbol.Exprs end) t = t
from (symbol.Stmts end) t = t
from symbol.Block t = none
from symbol.Stmt t = none
from symbol.Effect t = none
from symbol.Path t = t
from symbol.ImportItem t = none
from (symbol.Lefts n) t = t
from (symbol.Rights n) t = t
from (symbol.Params closure) t = t
from (symbol.Function closure) t = none
from (symbol.Expr lambda) t = none
from (symbol.Prec n lambda f) t = none
from (symbol.Ops n lambda f g) t = t
from (symbol.Unary lambda f) t = none
from symbol.Handler t = none
from symbol.Handlers t = t
from (symbol.Primary lambda f) t = none
from (symbol.Posts lambda f g) t = t
from (symbol.Member n) t = none
from (symbol.Atom f) t = none
from symbol.Key t = none
from symbol.Property t = none
from symbol.Alternate t = none
from symbol.Names t = t
from symbol.Cases t = t
from symbol.Case t = none
from symbol.Patterns t = t

-- from nothing each begins anew
pub from-none : (y : Sym) → from y none ≡ none
from-none symbol.Eols = refl
from-none (symbol.Until x y end) = refl
from-none (symbol.Items x y end) = refl
from-none symbol.NoLast = refl
from-none symbol.Dots = refl
from-none (symbol.Rest x) = refl
from-none symbol.Lit = refl
from-none symbol.Ident = refl
from-none symbol.Ty = refl
from-none symbol.TyAtom = refl
from-none symbol.Bars = refl
from-none symbol.TyPair = refl
from-none symbol.Others = refl
from-none symbol.Returns = refl
from-none (symbol.Typed x) = refl
from-none symbol.Pattern = refl
from-none symbol.PatternPair = refl
from-none (symbol.Exprs end) = refl
from-none (symbol.Stmts end) = refl
from-none symbol.Block = refl
from-none symbol.Stmt = refl
from-none symbol.Effect = refl
from-none symbol.Path = refl
from-none symbol.ImportItem = refl
from-none (symbol.Lefts n) = refl
from-none (symbol.Rights n) = refl
from-none (symbol.Params closure) = refl
from-none (symbol.Function closure) = refl
from-none (symbol.Expr lambda) = refl
from-none (symbol.Prec n lambda f) = refl
from-none (symbol.Ops n lambda f g) = refl
from-none (symbol.Unary lambda f) = refl
from-none symbol.Handler = refl
from-none symbol.Handlers = refl
from-none (symbol.Primary lambda f) = refl
from-none (symbol.Posts lambda f g) = refl
from-none (symbol.Member n) = refl
from-none (symbol.Atom f) = refl
from-none symbol.Key = refl
from-none symbol.Property = refl
from-none symbol.Alternate = refl
from-none symbol.Names = refl
from-none symbol.Cases = refl
from-none symbol.Case = refl
from-none symbol.Patterns = refl

pub begun : (y : Sym) {b : Trees} {p q : Place} → Adds (from y none) b p q → Adds none b p q
begun y x = rw (from-none y) at x

-- the closing token of a list or of statements is no word
abbrev pub Silent : Sym → Type 0
Silent symbol.Eols = Unit {0}
Silent (symbol.Until x y end) = Silent x × Silent y × NoWord end
Silent (symbol.Items x y end) = Silent x × Silent y × NoWord end
Silent symbol.NoLast = Unit {0}
Silent symbol.Dots = Unit {0}
Silent (symbol.Rest x) = Silent x
Silent symbol.Lit = Unit {0}
Silent symbol.Ident = Unit {0}
Silent symbol.Ty = Unit {0}
Silent symbol.TyAtom = Unit {0}
Silent symbol.Bars = Unit {0}
Silent symbol.TyPair = Unit {0}
Silent symbol.Others = Unit {0}
Silent symbol.Returns = Unit {0}
Silent (symbol.Typed x) = Silent x
Silent symbol.Pattern = Unit {0}
Silent symbol.PatternPair = Unit {0}
Silent (symbol.Exprs end) = NoWord end
Silent (symbol.Stmts end) = NoWord end
Silent symbol.Block = Unit {0}
Silent symbol.Stmt = Unit {0}
Silent symbol.Effect = Unit {0}
Silent symbol.Path = Unit {0}
Silent symbol.ImportItem = Unit {0}
Silent (symbol.Lefts n) = Unit {0}
Silent (symbol.Rights n) = Unit {0}
Silent (symbol.Params closure) = Unit {0}
Silent (symbol.Function closure) = Unit {0}
Silent (symbol.Expr lambda) = Unit {0}
Silent (symbol.Prec n lambda f) = Unit {0}
Silent (symbol.Ops n lambda f g) = Unit {0}
Silent (symbol.Unary lambda f) = Unit {0}
Silent symbol.Handler = Unit {0}
Silent symbol.Handlers = Unit {0}
Silent (symbol.Primary lambda f) = Unit {0}
Silent (symbol.Posts lambda f g) = Unit {0}
Silent (symbol.Member n) = Unit {0}
Silent (symbol.Atom f) = Unit {0}
Silent symbol.Key = Unit {0}
Silent symbol.Property = Unit {0}
Silent symbol.Alternate = Unit {0}
Silent symbol.Names = Unit {0}
Silent symbol.Cases = Unit {0}
Silent symbol.Case = Unit {0}
Silent symbol.Patterns = Unit {0}
