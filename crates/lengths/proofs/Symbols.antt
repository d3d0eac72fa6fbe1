-- The sort of a symbol's value or items, and what may end and close a list.
use mathlib.Core.Path.{◌≡◌}
use mathlib.Core.List.{List, [], ◌∷◌}
use mathlib.Core.Bool.{false}
use lib.Dec.{eqb}
use Rattle.kinds.specs.Number as kind
use Rattle.cursor.specs.Sheet.{Ranged}
use Rattle.types.specs.Items.{is_ended}
use Rattle.grammar.specs.Symbols.{Sym}
use Rattle.grammar.specs.Symbols as symbol
use Rattle.lengths.specs.Sorts.{Sort}
use Rattle.lengths.specs.Sorts as sort
use Rattle.lengths.specs.Children.{Part, some}

-- the sort of a symbol's value, or of a list's items; a symbol that has neither has any
abbrev pub sort_of : Sym → Sort
sort_of symbol.Eols = sort.Name
sort_of (symbol.Until x y end) = sort_of x
sort_of (symbol.Items x y end) = sort_of x
sort_of symbol.NoLast = sort.Name
sort_of symbol.Dots = sort.Name
sort_of (symbol.Rest x) = sort_of x
sort_of symbol.Lit = sort.Literal
sort_of symbol.Ident = sort.Name
sort_of symbol.Ty = sort.Ty
sort_of symbol.TyAtom = sort.Ty
sort_of symbol.Bars = sort.Ty
sort_of symbol.TyPair = sort.TyPair
sort_of symbol.Others = sort.TyOthers
sort_of symbol.Returns = sort.Ty
sort_of (symbol.Typed x) = sort.Typed
sort_of symbol.Pattern = sort.Pattern
sort_of symbol.PatternPair = sort.PatternPair
sort_of (symbol.Exprs end) = sort.Statement
sort_of (symbol.Stmts end) = sort.Statement
sort_of symbol.Block = sort.Block
sort_of symbol.Stmt = sort.Statement
sort_of symbol.Effect = sort.Effect
sort_of symbol.Path = sort.Statement
sort_of symbol.ImportItem = sort.Item
sort_of (symbol.Lefts n) = sort.Left
sort_of (symbol.Rights n) = sort.Expression
sort_of (symbol.Params closure) = sort.Typed
sort_of (symbol.Function closure) = sort.Function
sort_of (symbol.Expr lambda) = sort.Expression
sort_of (symbol.Prec n lambda f) = sort.Expression
sort_of (symbol.Ops n lambda f g) = sort.Expression
sort_of (symbol.Unary lambda f) = sort.Expression
sort_of symbol.Handler = sort.Handler
sort_of symbol.Handlers = sort.Handler
sort_of (symbol.Primary lambda f) = sort.Expression
sort_of (symbol.Posts lambda f g) = sort.Expression
sort_of (symbol.Member n) = sort.Expression
sort_of (symbol.Atom f) = sort.Expression
sort_of symbol.Key = sort.Key
sort_of symbol.Property = sort.Property
sort_of symbol.Alternate = sort.Expression
sort_of symbol.Names = sort.Name
sort_of symbol.Cases = sort.Case
sort_of symbol.Case = sort.Case
sort_of symbol.Patterns = sort.Pattern

-- the last item of a list, where it is a child; a bare `...` is none
abbrev pub last_parts : Sym → Ranged → List Part
last_parts symbol.Eols r = []
last_parts (symbol.Until x y end) r = []
last_parts (symbol.Items x y end) r = []
last_parts symbol.NoLast r = []
last_parts symbol.Dots r = []
last_parts (symbol.Rest x) r = some (is_ended r) (sort_of x) ∷ []
last_parts symbol.Lit r = []
last_parts symbol.Ident r = []
last_parts symbol.Ty r = []
last_parts symbol.TyAtom r = []
last_parts symbol.Bars r = []
last_parts symbol.TyPair r = []
last_parts symbol.Others r = some (is_ended r) sort.TyOthers ∷ []
last_parts symbol.Returns r = []
last_parts (symbol.Typed x) r = []
last_parts symbol.Pattern r = []
last_parts symbol.PatternPair r = []
last_parts (symbol.Exprs end) r = []
last_parts (symbol.Stmts end) r = []
last_parts symbol.Block r = []
last_parts symbol.Stmt r = []
last_parts symbol.Effect r = []
last_parts symbol.Path r = []
last_parts symbol.ImportItem r = []
last_parts (symbol.Lefts n) r = []
last_parts (symbol.Rights n) r = []
last_parts (symbol.Params closure) r = []
last_parts (symbol.Function closure) r = []
last_parts (symbol.Expr lambda) r = []
last_parts (symbol.Prec n lambda f) r = []
last_parts (symbol.Ops n lambda f g) r = []
last_parts (symbol.Unary lambda f) r = []
last_parts symbol.Handler r = []
last_parts symbol.Handlers r = []
last_parts (symbol.Primary lambda f) r = []
last_parts (symbol.Posts lambda f g) r = []
last_parts (symbol.Member n) r = []
last_parts (symbol.Atom f) r = []
last_parts symbol.Key r = []
last_parts symbol.Property r = []
last_parts symbol.Alternate r = []
last_parts symbol.Names r = []
last_parts symbol.Cases r = []
last_parts symbol.Case r = []
last_parts symbol.Patterns r = []

-- no list of items is closed by the end of input, which takes nothing
abbrev pub Closed : Sym → Type 0
Closed symbol.Eols = Unit {0}
Closed (symbol.Until x y end) = eqb end kind.Eof ≡ false
Closed (symbol.Items x y end) = eqb end kind.Eof ≡ false
Closed symbol.NoLast = Unit {0}
Closed symbol.Dots = Unit {0}
Closed (symbol.Rest x) = Unit {0}
Closed symbol.Lit = Unit {0}
Closed symbol.Ident = Unit {0}
Closed symbol.Ty = Unit {0}
Closed symbol.TyAtom = Unit {0}
Closed symbol.Bars = Unit {0}
Closed symbol.TyPair = Unit {0}
Closed symbol.Others = Unit {0}
Closed symbol.Returns = Unit {0}
Closed (symbol.Typed x) = Unit {0}
Closed symbol.Pattern = Unit {0}
Closed symbol.PatternPair = Unit {0}
Closed (symbol.Exprs end) = Unit {0}
Closed (symbol.Stmts end) = Unit {0}
Closed symbol.Block = Unit {0}
Closed symbol.Stmt = Unit {0}
Closed symbol.Effect = Unit {0}
Closed symbol.Path = Unit {0}
Closed symbol.ImportItem = Unit {0}
Closed (symbol.Lefts n) = Unit {0}
Closed (symbol.Rights n) = Unit {0}
Closed (symbol.Params closure) = Unit {0}
Closed (symbol.Function closure) = Unit {0}
Closed (symbol.Expr lambda) = Unit {0}
Closed (symbol.Prec n lambda f) = Unit {0}
Closed (symbol.Ops n lambda f g) = Unit {0}
Closed (symbol.Unary lambda f) = Unit {0}
Closed symbol.Handler = Unit {0}
Closed symbol.Handlers = Unit {0}
Closed (symbol.Primary lambda f) = Unit {0}
Closed (symbol.Posts lambda f g) = Unit {0}
Closed (symbol.Member n) = Unit {0}
Closed (symbol.Atom f) = Unit {0}
Closed symbol.Key = Unit {0}
Closed symbol.Property = Unit {0}
Closed symbol.Alternate = Unit {0}
Closed symbol.Names = Unit {0}
Closed symbol.Cases = Unit {0}
Closed symbol.Case = Unit {0}
Closed symbol.Patterns = Unit {0}
