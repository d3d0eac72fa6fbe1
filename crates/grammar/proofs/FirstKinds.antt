-- What a symbol begins with, as kinds of tokens: the lists of them, and the claim that Starts proves of every derivation.
use Prim.Native.Nat.{ℕ}
use mathlib.Core.Path.{◌≡◌, sym, ap, ◌∙◌}
use mathlib.Core.List.{List, [], ◌∷◌, ◌++◌}
use mathlib.Core.Bool.{Bool, true, false, true≢false}
use Rattle.kinds.specs.Number as kind
use Rattle.grammar.specs.Places.{Place, kind_of, after, Here, Not}
use Rattle.grammar.specs.Symbols.{Sym}
use Rattle.grammar.specs.Symbols as symbol
use Rattle.grammar.specs.Words.{among}

-- the kinds that a literal, a type, a pattern, a key, a member, an atom, an expression and a statement begin with
abbrev pub lits : List ℕ
lits = kind.Int ∷ kind.Float ∷ kind.Str ∷ kind.RawStr ∷ kind.ByteStr ∷ kind.Null ∷ kind.True ∷ kind.False ∷ []

abbrev pub ty_heads : List ℕ
ty_heads = kind.OpenParen ∷ kind.Ident ∷ kind.OpenBrace ∷ kind.Fn ∷ []

abbrev pub tys : List ℕ
tys = ty_heads ++ lits

abbrev pub pattern_heads : List ℕ
pattern_heads = kind.Ident ∷ kind.OpenBrace ∷ kind.OpenBracket ∷ []

abbrev pub patterns : List ℕ
patterns = pattern_heads ++ lits

abbrev pub key_heads : List ℕ
key_heads = kind.OpenParen ∷ []

abbrev pub keys : List ℕ
keys = key_heads ++ lits

abbrev pub members : List ℕ
members = kind.OpenBracket ∷ kind.Dot ∷ kind.DoubleColon ∷ []

abbrev pub atom_heads : List ℕ
atom_heads =
    kind.OpenParen ∷ kind.Ident ∷ kind.OpenBrace ∷ kind.OpenBracket ∷ kind.Fn ∷ kind.VBar ∷ kind.Do ∷ kind.If ∷ kind.Match ∷ kind.Loop ∷ kind.While ∷ kind.For ∷ kind.Break ∷ kind.Continue ∷ kind.Return ∷ []

abbrev pub atoms : List ℕ
atoms = atom_heads ++ lits

abbrev pub expr_heads : List ℕ
expr_heads = kind.Not ∷ kind.Sub ∷ kind.Try ∷ []

abbrev pub exprs : List ℕ
exprs = expr_heads ++ atoms

abbrev pub stmt_heads : List ℕ
stmt_heads = kind.Import ∷ kind.Effect ∷ kind.Glo ∷ []

abbrev pub stmts : List ℕ
stmts = stmt_heads ++ exprs

-- what a function's parameters begin with
abbrev pub params_first : Bool → ℕ
params_first true = kind.VBar
params_first false = kind.OpenParen

-- one of these kinds stands here
pub record Starts (ks : List ℕ) (p : Place) : Type 0 where
  pub first : among (kind_of p) ks ≡ true

-- the same of an expression: where it is `fn`, a parenthesis stands behind it
pub record Opens (ks : List ℕ) (p : Place) : Type 0 where
  pub first : among (kind_of p) ks ≡ true
  pub paren : kind_of p ≡ kind.Fn → kind_of (after p) ≡ kind.OpenParen

-- what a symbol begins with. Of one that may take nothing, or whose parts are handed over, nothing is said; where no last item is allowed
-- there is none
abbrev pub Begins : Sym → Place → Type 0
Begins symbol.Eols p = Unit
Begins (symbol.Until x y end) p = Unit
Begins (symbol.Items x y end) p = Unit
Begins symbol.NoLast p = ⊥
Begins symbol.Dots p = Here kind.Ellipsis p
Begins (symbol.Rest x) p = Here kind.Ellipsis p
Begins symbol.Lit p = Starts lits p
Begins symbol.Ident p = Here kind.Ident p
Begins symbol.Ty p = Starts tys p
Begins symbol.TyAtom p = Starts tys p
Begins symbol.Bars p = Unit
Begins symbol.TyPair p = Here kind.Ident p
Begins symbol.Others p = Here kind.OpenBracket p
Begins symbol.Returns p = Unit
Begins (symbol.Typed x) p = Here kind.Ident p
Begins symbol.Pattern p = Starts patterns p
Begins symbol.PatternPair p = Starts lits p
Begins (symbol.Exprs end) p = Unit
Begins (symbol.Stmts end) p = Unit
Begins symbol.Block p = Here kind.OpenBrace p
Begins symbol.Stmt p = Starts stmts p
Begins symbol.Effect p = Here kind.Effect p
Begins symbol.Path p = Here kind.Ident p
Begins symbol.ImportItem p = Here kind.Ident p
Begins (symbol.Lefts n) p = Unit
Begins (symbol.Rights n) p = Unit
Begins (symbol.Params closure) p = Here (params_first closure) p
Begins (symbol.Function closure) p = Here (params_first closure) p
Begins (symbol.Expr lambda) p = Opens exprs p
Begins (symbol.Prec n lambda f) p = Opens exprs p
Begins (symbol.Ops n lambda f g) p = Unit
Begins (symbol.Unary lambda f) p = Opens exprs p
Begins symbol.Handler p = Here kind.With p
Begins symbol.Handlers p = Here kind.With p
Begins (symbol.Primary lambda f) p = Opens atoms p
Begins (symbol.Posts lambda f g) p = Unit
Begins (symbol.Member n) p = Starts members p
Begins (symbol.Atom f) p = Opens atoms p
Begins symbol.Key p = Starts keys p
Begins symbol.Property p = Starts keys p
Begins symbol.Alternate p = Unit
Begins symbol.Names p = Here kind.Ident p
Begins symbol.Cases p = Unit
Begins symbol.Case p = Starts patterns p
Begins symbol.Patterns p = Starts patterns p

-- no kind stands here that is not among these
pub apart : {ks : List ℕ} {p : Place} (k : ℕ) → Starts ks p → among k ks ≡ false → Not k p
apart {ks} {p} k s e = record { differs = λ q. true≢false (sym s.first ∙ ap (λ j. among j ks) q ∙ e) }

-- the same of an expression
pub opening-apart : {ks : List ℕ} {p : Place} (k : ℕ) → Opens ks p → among k ks ≡ false → Not k p
opening-apart k o e = apart k (record { first = o.first }) e
