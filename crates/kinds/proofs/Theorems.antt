-- What the definitions come to: the numbers and levels that the documents name, computed, and what a place of a name or a type word tells.
-- Assumes nothing.
use Prim.Native.Nat.{ℕ, suc, ◌≤◌}
use Prim.Native.String.{String}
use native.Mathlib.Decide.{dec_lt}
use native.Mathlib.Omega.{arith}
use mathlib.Core.Bool.{Bool, true, false}
use mathlib.Core.List.{List, [], ◌∷◌, map}
use mathlib.Core.Logic.{◌⊎◌, inl, inr}
use mathlib.Core.Path.{◌≡◌, refl}
use lib.Dec.{T, eqb, ltb, eqb→eq}
use lib.ListN.{length}
use borrow.Author.Tests.{le-ltb}
use Rattle.std.specs.Prelude.{Some, None}
use Rattle.kinds.specs.declared.operator.BinOp.{BinOp}
use Rattle.kinds.specs.declared.operator.BinOp.TheVariants as op
use Rattle.kinds.specs.declared.types.ValueType.{ValueType}
use Rattle.kinds.specs.declared.types.ValueType.TheVariants as type
use Rattle.kinds.specs.Number as kind
use Rattle.kinds.specs.Spelling.{bytes, whether, equal}
use Rattle.kinds.specs.Kinds.{order, kind_number, is_trivia}
use Rattle.kinds.specs.Operators.{binary_of, level_of, op_kind, case_of}
use Rattle.kinds.specs.Listing.{listing_name, name_place, name_bytes, name_at}
use Rattle.kinds.specs.Row.{flag}
use Rattle.kinds.specs.TypeWords.{type_word, words, word_in, type_number, type_names, type_name_place}
use Rattle.kinds.proofs.Every.{at}
use Rattle.kinds.proofs.Rest.{past}
use Rattle.kinds.proofs.Parts.{equal-same}

-- there are 79 kinds, and these are the numbers that the document names
pub seventy-nine : length order ≡ 79
seventy-nine = refl

pub numbers :
    map kind_number ("Ident" ∷ "Int" ∷ "Fn" ∷ "Comma" ∷ "OpenParen" ∷ "CloseParen" ∷ "OpenBrace" ∷ "CloseBrace" ∷ "Colon" ∷ "Add" ∷ "Eol" ∷ "Eof" ∷ "UnterminatedByteStr" ∷ []) ≡
    4 ∷ 5 ∷ 29 ∷ 48 ∷ 50 ∷ 51 ∷ 52 ∷ 53 ∷ 59 ∷ 64 ∷ 69 ∷ 70 ∷ 78 ∷ []
numbers = refl

-- the numbers by which rules name the kinds are these numbers
pub numbers-named :
    map kind_number order ≡
    kind.LineComment
    ∷ kind.BlockComment
    ∷ kind.Whitespace
    ∷ kind.EscapedNewline
    ∷ kind.Ident
    ∷ kind.Int
    ∷ kind.Float
    ∷ kind.Str
    ∷ kind.RawStr
    ∷ kind.ByteStr
    ∷ kind.If
    ∷ kind.Else
    ∷ kind.Match
    ∷ kind.Loop
    ∷ kind.While
    ∷ kind.For
    ∷ kind.In
    ∷ kind.Break
    ∷ kind.Continue
    ∷ kind.Return
    ∷ kind.Glo
    ∷ kind.Import
    ∷ kind.As
    ∷ kind.Is
    ∷ kind.Not
    ∷ kind.And
    ∷ kind.Or
    ∷ kind.Try
    ∷ kind.With
    ∷ kind.Fn
    ∷ kind.Do
    ∷ kind.Effect
    ∷ kind.Null
    ∷ kind.True
    ∷ kind.False
    ∷ kind.Ellipsis
    ∷ kind.DoubleColon
    ∷ kind.Arrow
    ∷ kind.FatArrow
    ∷ kind.Eq
    ∷ kind.NotEq
    ∷ kind.LtEq
    ∷ kind.GtEq
    ∷ kind.AddAssign
    ∷ kind.SubAssign
    ∷ kind.MulAssign
    ∷ kind.DivAssign
    ∷ kind.RemAssign
    ∷ kind.Comma
    ∷ kind.Dot
    ∷ kind.OpenParen
    ∷ kind.CloseParen
    ∷ kind.OpenBrace
    ∷ kind.CloseBrace
    ∷ kind.OpenBracket
    ∷ kind.CloseBracket
    ∷ kind.Pound
    ∷ kind.Question
    ∷ kind.Exclamation
    ∷ kind.Colon
    ∷ kind.Assign
    ∷ kind.Lt
    ∷ kind.Gt
    ∷ kind.VBar
    ∷ kind.Add
    ∷ kind.Sub
    ∷ kind.Mul
    ∷ kind.Div
    ∷ kind.Rem
    ∷ kind.Eol
    ∷ kind.Eof
    ∷ kind.Unknown
    ∷ kind.UnterminatedBlockComment
    ∷ kind.EmptyInt
    ∷ kind.EmptyExponentFloat
    ∷ kind.NonDecimalFloat
    ∷ kind.UnterminatedStr
    ∷ kind.UnterminatedRawStr
    ∷ kind.UnterminatedByteStr
    ∷ []
numbers-named = refl

flag_same : (a b : Bool) → flag a ≡ flag b → a ≡ b
flag_same true true e = refl
flag_same true false e = cc
flag_same false true e = cc
flag_same false false e = refl

is_true : (b : Bool) → T b → b ≡ true
is_true true t = refl
is_true false t = absurd t

-- below 79 by one test, and past the kinds
by-kinds : (P : ℕ → Type 0) → ((k : ℕ) → suc k ≤ 79 → P k) → ((k : ℕ) → 79 ≤ k → P k) → (k : ℕ) → P k
by-kinds P low high k = elim (dec_lt k 79) [ yes h ↦ low k h | no h ↦ high k (omega arith) ]

-- trivia are 0 to 3
pub trivia-first : (k : ℕ) → is_trivia k ≡ ltb k 4
unfolding is_trivia
trivia-first =
    by-kinds (λ k. is_trivia k ≡ ltb k 4)
    (λ k h. flag_same (is_trivia k) (ltb k 4) (eqb→eq _ _ (at 79 (λ k. eqb (flag (is_trivia k)) (flag (ltb k 4))) tt k h)))
    (λ k h. let g : 4 ≤ k = omega arith in rw (past k h, le-ltb k 4 g))

-- the levels that the document gives, and 0 of kinds that are no binary operator
pub levels :
    map (λ s. level_of (kind_number s)) ("Mul" ∷ "Div" ∷ "Rem" ∷ "Add" ∷ "Sub" ∷ "Eq" ∷ "NotEq" ∷ "Lt" ∷ "LtEq" ∷ "Gt" ∷ "GtEq" ∷ "Is" ∷ "And" ∷ "Or" ∷ "Not" ∷ "AddAssign" ∷ "Ident" ∷ "Eof" ∷ []) ≡
    5 ∷ 5 ∷ 5 ∷ 4 ∷ 4 ∷ 3 ∷ 3 ∷ 3 ∷ 3 ∷ 3 ∷ 3 ∷ 3 ∷ 2 ∷ 1 ∷ 0 ∷ 0 ∷ 0 ∷ 0 ∷ []
unfolding level_of binary_of
levels = refl

-- an operator's kind stands for that operator and is listed by its case
pub operator-kept : (o : BinOp) → (binary_of (op_kind o) ≡ Some o) × (listing_name (op_kind o) ≡ case_of o)
unfolding binary_of listing_name
operator-kept op.Add = (refl, refl)
operator-kept op.Sub = (refl, refl)
operator-kept op.Mul = (refl, refl)
operator-kept op.Div = (refl, refl)
operator-kept op.Rem = (refl, refl)
operator-kept op.And = (refl, refl)
operator-kept op.Or = (refl, refl)
operator-kept op.Eq = (refl, refl)
operator-kept op.Ne = (refl, refl)
operator-kept op.Lt = (refl, refl)
operator-kept op.Le = (refl, refl)
operator-kept op.Gt = (refl, refl)
operator-kept op.Ge = (refl, refl)
operator-kept op.Is = (refl, refl)

-- a compound assignment is listed as its operator, the literals as LitKind's cases
pub listed-as :
    map (λ s. listing_name (kind_number s)) ("AddAssign" ∷ "RemAssign" ∷ "Int" ∷ "Float" ∷ "Str" ∷ "RawStr" ∷ "ByteStr" ∷ "Null" ∷ "True" ∷ "False" ∷ "Not" ∷ "Ident" ∷ "Comma" ∷ "Eol" ∷ []) ≡
    "Add" ∷ "Rem" ∷ "Int" ∷ "Float" ∷ "Str" ∷ "Str" ∷ "Bytes" ∷ "Null" ∷ "Bool" ∷ "Bool" ∷ "Not" ∷ "Ident" ∷ "" ∷ "" ∷ []
unfolding listing_name
listed-as = refl

-- at a kind's place stands its listing name
pub named : (k : ℕ) → name_at (name_place k) ≡ bytes (listing_name k)
unfolding name_at name_bytes name_place listing_name equal
named =
    by-kinds (λ k. name_at (name_place k) ≡ bytes (listing_name k))
    (λ k h. equal-same _ _ (is_true _ (at 79 (λ k. equal (name_at (name_place k)) (bytes (listing_name k))) tt k h)))
    (λ k h. rw (past k h))

-- and at a type's its own
pub types-named : map (λ v. name_at (type_name_place (type_number v))) (type.Null ∷ type.Bool ∷ type.Int ∷ type.Float ∷ type.Str ∷ type.Bytes ∷ type.Table ∷ type.Function ∷ type.Effect ∷ type.UserData ∷ []) ≡ map bytes type_names
unfolding name_at name_bytes type_name_place
types-named = refl

-- the nine words name their types; null and a word cut short name none
pub words-known : map (λ p. type_word (bytes p.0)) words ≡ map (λ p. Some p.1) words
unfolding type_word equal
words-known = refl

pub words-unknown : map (λ s. type_word (bytes s)) ("null" ∷ "boo" ∷ "ints" ∷ "Int" ∷ "" ∷ []) ≡ None ∷ None ∷ None ∷ None ∷ None ∷ []
unfolding type_word equal
words-unknown = refl

-- the bytes are those of a word that stands beside the type
abbrev pub IsWord : List ℕ → ValueType → List (String × ValueType) → Type 0
IsWord b v [] = ⊥
IsWord b v (p ∷ ps) = ((b ≡ bytes p.0) × (v ≡ p.1)) ⊎ IsWord b v ps

word-in : (b : List ℕ) (v : ValueType) (ps : List (String × ValueType)) → word_in b ps ≡ Some v → IsWord b v ps
word-in b v [] e = let z : ◌≡◌ {A = ℕ} 0 1 = cc in omega arith
word-in b v (p ∷ ps) e = go (equal b (bytes p.0)) refl e (word-in b v ps)
  where
    go : (t : Bool) → equal b (bytes p.0) ≡ t → whether t (Some p.1) (word_in b ps) ≡ Some v → (word_in b ps ≡ Some v → IsWord b v ps) → IsWord b v (p ∷ ps)
    go true h g rest = inl (equal-same b (bytes p.0) h, cc)
    go false h g rest = inr (rest g)

-- a range names a type only by the bytes of its word
pub word_bytes : (b : List ℕ) (v : ValueType) → type_word b ≡ Some v → IsWord b v words
unfolding type_word
word_bytes b v e = word-in b v words e
