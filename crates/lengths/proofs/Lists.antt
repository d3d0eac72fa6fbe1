-- The lists of the grammar: of each that its items are values of one sort, and what may end it.
use mathlib.Core.Bool.{true}
use Rattle.kinds.specs.Number as kind
use Rattle.grammar.specs.Symbols.{
  Sym,
  Until,
  NoLast,
  Dots,
  Rest,
  Ty,
  TyAtom,
  TyPair,
  Others,
  Typed,
  Pattern,
  PatternPair,
  ImportItem,
  Expr,
  Property,
}
use Rattle.lengths.specs.Sorts as sort
use Rattle.lengths.specs.Told.{no_more, no_more_of}
use Rattle.lengths.proofs.Claims.{Valued, Lastly, Proper}

no_last : Lastly NoLast
no_last = record { absent = no_more; present = λ p so sh c. c }

bare-dots : Lastly Dots
bare-dots = record { absent = no_more; present = λ p so sh c. c }

with_rest : (x : Sym) → Lastly (Rest x)
with_rest x = record { absent = no_more_of no_more; present = λ p so sh c. c }

with-others : Lastly Others
with-others = record { absent = no_more_of no_more; present = λ p so sh c. c }

-- types and type atoms, and names with them
type : Valued Ty sort.Ty
type = record { value = λ p so sh c. c }

atom : Valued TyAtom sort.Ty
atom = record { value = λ p so sh c. c }

typed : (x : Sym) → Valued (Typed x) sort.Typed
typed x = record { value = λ p so sh c. c }

pub of-ty : Proper (Typed Ty)
of-ty = (tt, type)

of-atom : Proper (Typed TyAtom)
of-atom = (tt, atom)

pub ty-pairs : Proper (Until TyPair Others kind.CloseBrace)
ty-pairs = (tt, tt, record { value = λ p so sh c. c }, with-others)

pub types : Proper (Until Ty (Rest Ty) kind.CloseParen)
types = (tt, (tt, type), type, with_rest Ty)

pub params : Proper (Until (Typed Ty) (Rest (Typed Ty)) kind.CloseParen)
params = (of-ty, (of-ty, typed Ty), typed Ty, with_rest (Typed Ty))

pub closure-params : Proper (Until (Typed TyAtom) (Rest (Typed TyAtom)) kind.VBar)
closure-params = (of-atom, (of-atom, typed TyAtom), typed TyAtom, with_rest (Typed TyAtom))

pub pattern-pairs : Proper (Until PatternPair Dots kind.CloseBrace)
pattern-pairs = (tt, tt, record { value = λ p so sh c. c }, bare-dots)

pub patterns : Proper (Until Pattern Dots kind.CloseBracket)
patterns = (tt, tt, record { value = λ p so sh c. c }, bare-dots)

pub import-items : Proper (Until ImportItem NoLast kind.CloseBrace)
import-items = (tt, tt, record { value = λ p so sh c. c }, no_last)

pub properties : Proper (Until Property NoLast kind.CloseBrace)
properties = (tt, tt, record { value = λ p so sh c. c }, no_last)

pub arguments : Proper (Until (Expr true) NoLast kind.CloseParen)
arguments = (tt, tt, record { value = λ p so sh c. c }, no_last)

pub elements : Proper (Until (Expr true) NoLast kind.CloseBracket)
elements = (tt, tt, record { value = λ p so sh c. c }, no_last)
