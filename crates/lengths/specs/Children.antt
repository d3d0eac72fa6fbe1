-- The columns 'children' and 'FLAGS' of docs/LAYOUT.md's table: which children a record has by its kind and its FLAGS taken apart, in order.
use Rattle.std.specs.Prelude.{ℕ, ◌+◌, Bool, true, false, cond, List, [], ◌∷◌, eqb, ltb}
use Rattle.cursor.specs.Node as node
use Rattle.cursor.specs.Records.{bit}
use Rattle.lengths.specs.Flags.{Flags, flags}
use Rattle.lengths.specs.Sorts.{Sort}
use Rattle.lengths.specs.Sorts as sort

-- children that stand beside each other: so many of one sort
pub record Part : Type 0 where
  pub many : ℕ
  pub sort : Sort

abbrev pub each : ℕ → Sort → Part
each n s = record { many = n; sort = s }

abbrev pub one : Sort → Part
one s = each 1 s

-- one where a flag says so
abbrev pub some : Bool → Sort → Part
some b s = each (bit b) s

-- a row of the table: a kind, its children, and what it names of FLAGS, the rest being 0
pub record Row : Type 0 where
  pub kind : ℕ
  pub parts : List Part
  pub names : Flags

abbrev pub row : ℕ → List Part → Flags → Row
row k ps f = record { kind = k; parts = ps; names = f }

-- the property of a member by its number: behind a bracket an expression, behind a dot or two colons a name, of a meta table none
unfoldable pub property_of : ℕ → List Part
property_of n = cond (eqb n 0) (one sort.Expression ∷ []) (cond (ltb n 3) (one sort.Name ∷ []) [])

-- what an import takes, by its flags: an alias where it is the first alone, m items where it is the second alone
abbrev pub imported_of : Bool → Bool → ℕ → List Part
imported_of true true m = []
imported_of true false m = one sort.Name ∷ []
imported_of false true m = each m sort.Item ∷ []
imported_of false false m = []

abbrev pub items_of : Bool → Bool → ℕ → ℕ
items_of true true m = 0
items_of true false m = 0
items_of false true m = m
items_of false false m = 0

-- parameters, perhaps a variadic one, perhaps a returned type, and what stands behind them
abbrev pub signature_of : Flags → Sort → Sort → List Part → List Part
signature_of f param returns behind = each f.n param ∷ some f.one param ∷ some f.two returns ∷ behind

abbrev pub table : Flags → List Row
table f =
    -- words: no children. n of a Bool is its value, of a Str whether it is raw
    row node.Null [] (flags 0 0 false false)
    ∷ row node.Bool [] (flags f.n 0 false false)
    ∷ row node.Int [] (flags 0 0 false false)
    ∷ row node.Float [] (flags 0 0 false false)
    ∷ row node.Str [] (flags f.n 0 false false)
    ∷ row node.Bytes [] (flags 0 0 false false)
    ∷ row node.Ident [] (flags 0 0 false false)
    -- atoms. A Fn has its name by the second flag; the first, here and of an effect, is for `glo`, which is no child
    ∷ row node.Paren (one sort.Expression ∷ []) (flags 0 0 false false)
    ∷ row node.ExprBlock (one sort.Block ∷ []) (flags 0 0 false false)
    ∷ row node.Fn (some f.two sort.Name ∷ one sort.Function ∷ []) (flags 0 0 f.one f.two)
    ∷ row node.ExprEffect (one sort.Name ∷ one sort.Effect ∷ []) (flags 0 0 f.one false)
    ∷ row node.Table (each f.n sort.Property ∷ []) (flags f.n 0 false false)
    ∷ row node.List (each f.n sort.Expression ∷ []) (flags f.n 0 false false)
    -- operators
    ∷ row node.Unary (one sort.Expression ∷ []) (flags 0 0 false false)
    ∷ row node.Binary (one sort.Expression ∷ one sort.Expression ∷ []) (flags 0 0 false false)
    ∷ row node.TypeCheck (one sort.Expression ∷ []) (flags 0 0 false false)
    -- members and calls. A member's first flag is for `?`; a Call's arguments are n and its handlers m, with a trailing lambda between them
    ∷ row node.Member (one sort.Expression ∷ property_of f.n) (flags f.n 0 f.one false)
    ∷ row node.Call (one sort.Expression ∷ each f.n sort.Expression ∷ some f.one sort.Lambda ∷ each f.m sort.Handler ∷ []) (flags f.n f.m f.one false)
    -- branches and loops
    ∷ row node.If (one sort.Expression ∷ one sort.Block ∷ some f.one sort.Expression ∷ []) (flags 0 0 f.one false)
    ∷ row node.Match (one sort.Expression ∷ each f.n sort.Case ∷ []) (flags f.n 0 false false)
    ∷ row node.Loop (one sort.Block ∷ []) (flags 0 0 false false)
    ∷ row node.While (one sort.Expression ∷ one sort.Block ∷ []) (flags 0 0 false false)
    ∷ row node.For (each f.n sort.Name ∷ one sort.Expression ∷ one sort.Block ∷ []) (flags f.n 0 false false)
    ∷ row node.Break [] (flags 0 0 false false)
    ∷ row node.Continue [] (flags 0 0 false false)
    ∷ row node.Return (one sort.Expression ∷ []) (flags 0 0 false false)
    -- imports and assignments. An AssignMulti has as many right sides as left sides
    ∷ row node.Import (each f.n sort.Name ∷ imported_of f.one f.two f.m) (flags f.n (items_of f.one f.two f.m) f.one f.two)
    ∷ row node.GloAssign (one sort.Typed ∷ one sort.Expression ∷ []) (flags 0 0 false false)
    ∷ row node.Assign (one sort.Assigned ∷ one sort.Expression ∷ []) (flags 0 0 false false)
    ∷ row node.AssignOp (one sort.Left ∷ one sort.Expression ∷ []) (flags 0 0 false false)
    ∷ row node.AssignUnpack (each f.n sort.Left ∷ one sort.Expression ∷ []) (flags f.n 0 false false)
    ∷ row node.AssignMulti (each f.n sort.Left ∷ each f.m sort.Expression ∷ []) (flags f.n f.n false false)
    -- statements in a row
    ∷ row node.Program (each f.n sort.Statement ∷ []) (flags f.n 0 false false)
    ∷ row node.Block (each f.n sort.Statement ∷ []) (flags f.n 0 false false)
    -- functions, effects and handlers
    ∷ row node.Function (signature_of f sort.Typed sort.Ty (one sort.Block ∷ [])) (flags f.n 0 f.one f.two)
    ∷ row node.Closure (signature_of f sort.Typed sort.Ty (one sort.Block ∷ [])) (flags f.n 0 f.one f.two)
    ∷ row node.Do (one sort.Block ∷ []) (flags 0 0 false false)
    ∷ row node.Effect (signature_of f sort.Typed sort.Ty []) (flags f.n 0 f.one f.two)
    ∷ row node.EffectHandler (one sort.Name ∷ each f.n sort.Typed ∷ some f.one sort.Typed ∷ one sort.Block ∷ []) (flags f.n 0 f.one false)
    -- parts of these
    ∷ row node.TypedIdent (one sort.Name ∷ one sort.Ty ∷ []) (flags 0 0 false false)
    ∷ row node.TableProperty (one sort.Key ∷ one sort.Expression ∷ []) (flags 0 0 false false)
    ∷ row node.MatchCase (each f.n sort.Pattern ∷ one sort.Expression ∷ []) (flags f.n 0 false false)
    ∷ row node.ImportItem (one sort.Name ∷ some f.one sort.Name ∷ []) (flags 0 0 f.one false)
    -- patterns. The first flag is for a bare `...`, which is no child
    ∷ row node.PatternTable (each f.n sort.PatternPair ∷ []) (flags f.n 0 f.one false)
    ∷ row node.PatternList (each f.n sort.Pattern ∷ []) (flags f.n 0 f.one false)
    ∷ row node.TablePatternPair (one sort.Literal ∷ one sort.Pattern ∷ []) (flags 0 0 false false)
    -- types
    ∷ row node.TyParen (one sort.Ty ∷ []) (flags 0 0 false false)
    ∷ row node.TyTable (each f.n sort.TyPair ∷ some f.one sort.TyOthers ∷ []) (flags f.n 0 f.one false)
    ∷ row node.TyFunction (signature_of f sort.Ty sort.Ty []) (flags f.n 0 f.one f.two)
    ∷ row node.Union (each f.n sort.Ty ∷ []) (flags f.n 0 false false)
    ∷ row node.TableTyPair (one sort.Name ∷ one sort.Ty ∷ []) (flags 0 0 false false)
    ∷ row node.TableTyOther (one sort.Ty ∷ one sort.Ty ∷ []) (flags 0 0 false false)
    ∷ []

-- the row of a kind; a number that is no kind has nothing
unfoldable pub find : ℕ → List Row → Row
find k [] = row k [] (flags 0 0 false false)
find k (r ∷ rs) = elim (eqb k r.kind) as (λ _. Row) [ true ↦ r | false ↦ find k rs ]

unfoldable pub row_of : ℕ → Flags → Row
row_of k f = find k (table f)

unfoldable pub total : List Part → ℕ
total [] = 0
total (p ∷ ps) = p.many + total ps

-- how many children a record of a kind has
unfoldable pub children : ℕ → Flags → ℕ
children k f = total (row_of k f).parts
