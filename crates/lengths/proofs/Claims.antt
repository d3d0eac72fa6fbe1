-- What is told of a derivation, by its symbol: of a value that it is one of its sort; of what goes on from a row, that it is told if that row is.
use Rattle.std.specs.Prelude.{None}
use Prim.Native.Nat.{◌^◌, ◌<◌}
use mathlib.Core.Path.{◌≡◌}
use mathlib.Core.List.{List, [], ◌∷◌}
use Rattle.cursor.specs.Sheet.{Ranged}
use Rattle.cursor.specs.Tree.{none}
use Rattle.types.specs.Items.{is_ended}
use Rattle.grammar.specs.Places.{Place}
use Rattle.grammar.specs.Symbols.{Sym}
use Rattle.grammar.specs.Symbols as symbol
use Rattle.grammar.specs.Builders.{Shape, some as there}
use Rattle.lengths.specs.Sorts.{Sort}
use Rattle.lengths.specs.Sorts as sort
use Rattle.lengths.specs.Children.{Part, each, one, some, property_of}
use Rattle.lengths.specs.Told.{Told}
use Rattle.lengths.proofs.Rows.{Single}
use Rattle.lengths.proofs.Room.{Room}
use Rattle.lengths.proofs.Nodes.{Formed}
use Rattle.lengths.proofs.Symbols.{sort_of, last_parts}

-- a row of items goes on
abbrev pub Grows : Sort → Shape → Shape → Type 0
Grows s so sh = Told (each so.count s ∷ []) so.row → Told (each sh.count s ∷ []) sh.row

-- so does one that may have a last item behind
abbrev pub Listed : Sort → (Ranged → List Part) → Shape → Shape → Type 0
Listed s last so sh = so.last ≡ None → Told (each so.count s ∷ []) so.row → Told (each sh.count s ∷ last sh.last) sh.row

abbrev pub Claim : Sym → Place → Shape → Shape → Type 0
Claim symbol.Eols p so sh = Unit {0}
Claim (symbol.Until x y end) p so sh = Listed (sort_of x) (last_parts y) so sh
Claim (symbol.Items x y end) p so sh = Listed (sort_of x) (last_parts y) so sh
Claim symbol.NoLast p so sh = Told [] sh.row
Claim symbol.Dots p so sh = Told [] sh.row
Claim (symbol.Rest x) p so sh = Told (some (is_ended sh.last) (sort_of x) ∷ []) sh.row
Claim symbol.Lit p so sh = Single sort.Literal sh.row
Claim symbol.Ident p so sh = Single sort.Name sh.row
Claim symbol.Ty p so sh = Single sort.Ty sh.row
Claim symbol.TyAtom p so sh = Single sort.Ty sh.row
Claim symbol.Bars p so sh = Grows sort.Ty so sh
Claim symbol.TyPair p so sh = Single sort.TyPair sh.row
Claim symbol.Others p so sh = Told (some (is_ended sh.last) sort.TyOthers ∷ []) sh.row
Claim symbol.Returns p so sh = Told (some (there sh.row) sort.Ty ∷ []) sh.row
Claim (symbol.Typed x) p so sh = Single sort.Typed sh.row
Claim symbol.Pattern p so sh = Single sort.Pattern sh.row
Claim symbol.PatternPair p so sh = Single sort.PatternPair sh.row
Claim (symbol.Exprs end) p so sh = Grows sort.Statement so sh
Claim (symbol.Stmts end) p so sh = Grows sort.Statement so sh
Claim symbol.Block p so sh = Single sort.Block sh.row
Claim symbol.Stmt p so sh = Single sort.Statement sh.row
Claim symbol.Effect p so sh = Told (one sort.Name ∷ one sort.Effect ∷ []) sh.row
Claim symbol.Path p so sh = Room so.count p → Told (each so.count sort.Name ∷ []) so.row → Single sort.Statement sh.row
Claim symbol.ImportItem p so sh = Single sort.Item sh.row
Claim (symbol.Lefts n) p so sh = Grows sort.Left so sh
Claim (symbol.Rights n) p so sh = Grows sort.Expression so sh
Claim (symbol.Params closure) p so sh = Listed sort.Typed (last_parts (symbol.Rest (symbol.Typed symbol.Ty))) so sh
Claim (symbol.Function closure) p so sh = Single sort.Function sh.row
Claim (symbol.Expr lambda) p so sh = Single sort.Expression sh.row
Claim (symbol.Prec n lambda f) p so sh = Formed f sh.row
Claim (symbol.Ops n lambda f g) p so sh = Formed f so.row → Formed g sh.row
Claim (symbol.Unary lambda f) p so sh = Formed f sh.row
Claim symbol.Handler p so sh = Single sort.Handler sh.row
Claim symbol.Handlers p so sh = Grows sort.Handler so sh
Claim (symbol.Primary lambda f) p so sh = Formed f sh.row
Claim (symbol.Posts lambda f g) p so sh = Formed f so.row → Formed g sh.row
Claim (symbol.Member n) p so sh = (n < 2 ^ 15) × Told (property_of n) sh.row
Claim (symbol.Atom f) p so sh = Formed f sh.row
Claim symbol.Key p so sh = Single sort.Key sh.row
Claim symbol.Property p so sh = Single sort.Property sh.row
Claim symbol.Alternate p so sh = Told (some (there sh.row) sort.Expression ∷ []) sh.row
Claim symbol.Names p so sh = Grows sort.Name so sh
Claim symbol.Cases p so sh = Told (one sort.Expression ∷ each so.count sort.Case ∷ []) so.row → Told (one sort.Expression ∷ each sh.count sort.Case ∷ []) sh.row
Claim symbol.Case p so sh = Single sort.Case sh.row
Claim symbol.Patterns p so sh = Grows sort.Pattern so sh

-- a symbol's value is of this sort
pub record Valued (x : Sym) (s : Sort) : Type 0 where
  pub value : (p : Place) (so sh : Shape) → Claim x p so sh → Single s sh.row

-- a symbol ends a list, or does not
pub record Lastly (y : Sym) : Type 0 where
  pub absent : Told (last_parts y None) none
  pub present : (p : Place) (so sh : Shape) → Claim y p so sh → Told (last_parts y sh.last) sh.row

-- what has to be known of a symbol that has other symbols or a kind in it
abbrev pub Proper : Sym → Type 0
Proper symbol.Eols = Unit {0}
Proper (symbol.Until x y end) = Proper x × Proper y × Valued x (sort_of x) × Lastly y
Proper (symbol.Items x y end) = Proper x × Proper y × Valued x (sort_of x) × Lastly y
Proper symbol.NoLast = Unit {0}
Proper symbol.Dots = Unit {0}
Proper (symbol.Rest x) = Proper x × Valued x (sort_of x)
Proper symbol.Lit = Unit {0}
Proper symbol.Ident = Unit {0}
Proper symbol.Ty = Unit {0}
Proper symbol.TyAtom = Unit {0}
Proper symbol.Bars = Unit {0}
Proper symbol.TyPair = Unit {0}
Proper symbol.Others = Unit {0}
Proper symbol.Returns = Unit {0}
Proper (symbol.Typed x) = Proper x × Valued x sort.Ty
Proper symbol.Pattern = Unit {0}
Proper symbol.PatternPair = Unit {0}
Proper (symbol.Exprs end) = Unit {0}
Proper (symbol.Stmts end) = Unit {0}
Proper symbol.Block = Unit {0}
Proper symbol.Stmt = Unit {0}
Proper symbol.Effect = Unit {0}
Proper symbol.Path = Unit {0}
Proper symbol.ImportItem = Unit {0}
Proper (symbol.Lefts n) = Unit {0}
Proper (symbol.Rights n) = Unit {0}
Proper (symbol.Params closure) = Unit {0}
Proper (symbol.Function closure) = Unit {0}
Proper (symbol.Expr lambda) = Unit {0}
Proper (symbol.Prec n lambda f) = Unit {0}
Proper (symbol.Ops n lambda f g) = Unit {0}
Proper (symbol.Unary lambda f) = Unit {0}
Proper symbol.Handler = Unit {0}
Proper symbol.Handlers = Unit {0}
Proper (symbol.Primary lambda f) = Unit {0}
Proper (symbol.Posts lambda f g) = Unit {0}
Proper (symbol.Member n) = Unit {0}
Proper (symbol.Atom f) = Unit {0}
Proper symbol.Key = Unit {0}
Proper symbol.Property = Unit {0}
Proper symbol.Alternate = Unit {0}
Proper symbol.Names = Unit {0}
Proper symbol.Cases = Unit {0}
Proper symbol.Case = Unit {0}
Proper symbol.Patterns = Unit {0}
