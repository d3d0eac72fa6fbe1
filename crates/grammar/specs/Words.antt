-- The words of a sheet: names, literals, null, true and false, as ranges, in order. A TypeCheck's type word is one.
use Rattle.std.specs.Prelude.{ℕ, List, [], ◌∷◌, ◌++◌, Bool, true, false, eqb}
use Rattle.kinds.specs.Number as kind
use Rattle.cursor.specs.declared.Label.{Label}
use Rattle.cursor.specs.declared.Span.{Span}
use Rattle.cursor.specs.Node as record_of
use Rattle.cursor.specs.Tree.{Trees, none, node}
use Rattle.grammar.specs.Places.{Token}

-- does a number stand in a list?
unfoldable pub among : ℕ → List ℕ → Bool
among k [] = false
among k (j ∷ js) = elim (eqb k j) as (λ _. Bool) [ true ↦ true | false ↦ among k js ]

-- the token kinds that are words
abbrev pub word_kinds : List ℕ
word_kinds =
    kind.Ident
    ∷ kind.Int
    ∷ kind.Float
    ∷ kind.Str
    ∷ kind.RawStr
    ∷ kind.ByteStr
    ∷ kind.Null
    ∷ kind.True
    ∷ kind.False
    ∷ []

-- the record kinds that are one word each
abbrev pub word_records : List ℕ
word_records =
    record_of.Ident
    ∷ record_of.Int
    ∷ record_of.Float
    ∷ record_of.Str
    ∷ record_of.Bytes
    ∷ record_of.Null
    ∷ record_of.Bool
    ∷ []

abbrev pub range : ℕ → ℕ → Span
range start end = record { start = start; end = end }

-- a list of this one, or of none
abbrev pub given : Bool → Span → List Span
given true r = r ∷ []
given false r = []

-- the words of a token list
unfoldable pub token_words : List Token → List Span
token_words [] = []
token_words (t ∷ ts) = given (among t.kind word_kinds) (range t.start t.end) ++ token_words ts

-- the word that a record is
unfoldable pub own_word : Label → List Span
own_word l = given (among l.kind word_records) (range l.start l.end)

-- the type word of a TypeCheck, which ends where its record ends: it stands behind the words of what is checked
unfoldable pub type_word : Label → List Span
type_word l = given (eqb l.kind record_of.TypeCheck) (range l.two l.end)

-- the words of trees in a row
unfoldable pub words : Trees → List Span
words none = []
words (node l ks ts) = own_word l ++ (words ks ++ (type_word l ++ words ts))
