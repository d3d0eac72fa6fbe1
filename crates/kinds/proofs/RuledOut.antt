-- Wrong answers that the contracts rule out, two to each public function: the answer that a slip in the code or in its table would give does
-- not meet the contract. `Post` is the contract as the check reads it from the source. Some of the slips are must-fail edits besides.
-- Assumes nothing.
use mathlib.Core.Path.{◌≡◌, refl, ap}
use mathlib.Core.List.{List, []}
use lib.ListN.{length}
use mathlib.Core.Bool.{true, false}
use Prim.Native.Nat.{ℕ, suc, ◌*◌}
use borrow.Author.Tests.{eqb-false}
use lib.Dec.{eqb}
use denote.Ref.{Bor}
use Rattle.std.specs.Prelude.{Option, Some, None}
use Rattle.kinds.specs.declared.types.ValueType.{ValueType}
use Rattle.kinds.specs.declared.operator.BinOp.{BinOp}
use Rattle.kinds.specs.declared.operator.BinOp.TheVariants as ops
use Rattle.kinds.specs.declared.types.ValueType.TheVariants as values
use Rattle.kinds.specs.Number as kind
use Rattle.kinds.specs.Spelling.{bytes, equal}
use Rattle.kinds.specs.Kinds.{is_trivia}
use Rattle.kinds.specs.Row.{flag}
use Rattle.kinds.specs.Listing.{listing_name, place_of, name_place, name_bytes}
use Rattle.kinds.specs.Operators.{binary_of, compound_of, level_of, op_kind}
use Rattle.kinds.specs.TypeWords.{type_word, type_number, type_name_place}
use Rattle.kinds.proofs.table.is_trivia.Reads as is-trivia
use Rattle.kinds.proofs.table.level.Reads as level
use Rattle.kinds.proofs.table.name_place.Reads as name-place
use Rattle.kinds.proofs.table.name_byte.Reads as name-byte
use Rattle.kinds.proofs.operator.bin_op.Reads as bin-op
use Rattle.kinds.proofs.operator.assign_op.Reads as assign-op
use Rattle.kinds.proofs.operator.op_kind.Reads as op-kind
use Rattle.kinds.proofs.operator.precedence.Reads as precedence
use Rattle.kinds.proofs.types.part.Reads as part
use Rattle.kinds.proofs.types.same_bytes.Reads as same_bytes
use Rattle.kinds.proofs.types.type_word.Reads as type-word
use Rattle.kinds.proofs.types.value_type_number.Reads as value-type-number
use Rattle.kinds.proofs.types.value_type_name_place.Reads as value-type-name-place

-- bytes that are lent
abbrev lent : List ℕ → Bor (List ℕ)
lent xs = record { ref_ptr = (0, 0); now = xs }

-- no two things that a number tells apart are the same
apart : {A : Type 0} {a b : A} (f : A → ℕ) → a ≡ b → eqb (f a) (f b) ≡ false → ⊥
apart {a = a} {b = b} f p q = eqb-false (f a) (f b) q (ap f p)

abbrev itself : ℕ → ℕ
itself n = n

-- a number for each operator, and for each type word
abbrev operator : Option BinOp → ℕ
operator (Some op) = op_kind op
operator None = 0

abbrev typed : Option ValueType → ℕ
typed (Some v) = suc (type_number v)
typed None = 0

-- the table

pub is-trivia-of-eol : (κs : _) (x : _) → is-trivia.Post κs (kind.Eol, tt) true x → ⊥
unfolding is_trivia
is-trivia-of-eol κs x p = apart flag p refl

pub is-trivia-not-of-blanks : (κs : _) (x : _) → is-trivia.Post κs (kind.Whitespace, tt) false x → ⊥
unfolding is_trivia
is-trivia-not-of-blanks κs x p = apart flag p refl

pub level-of-is : (κs : _) (x : _) → level.Post κs (kind.Is, tt) 4 x → ⊥
unfolding level_of binary_of
level-of-is κs x p = apart itself p refl

pub level-of-half : (κs : _) (x : _) → level.Post κs (kind.Mul, tt) 2 x → ⊥
unfolding level_of binary_of
level-of-half κs x p = apart itself p refl

pub name-place-of-not-eq : (κs : _) (x : _) → name-place.Post κs (kind.NotEq, tt) (place_of "Eq") x → ⊥
unfolding name_place listing_name
name-place-of-not-eq κs x p = apart itself p refl

pub name-place-doubled : (κs : _) (x : _) → name-place.Post κs (kind.Add, tt) (2 * place_of "Add") x → ⊥
unfolding name_place listing_name
name-place-doubled κs x p = apart itself p refl

pub name-byte-small-letter : (κs : _) (x : _) → name-byte.Post κs (place_of "Bytes", tt) 98 x → ⊥
unfolding name_bytes
name-byte-small-letter κs x p = apart itself p refl

pub name-byte-past-the-end : (κs : _) (x : _) → name-byte.Post κs (1000, tt) 46 x → ⊥
unfolding name_bytes
name-byte-past-the-end κs x p = apart itself p refl

-- operators

pub bin-op-lt-for-le : (κs : _) (x : _) → bin-op.Post κs (kind.LtEq, tt) (Some ops.Lt) x → ⊥
unfolding binary_of
bin-op-lt-for-le κs x p = apart operator p refl

pub bin-op-without-is : (κs : _) (x : _) → bin-op.Post κs (kind.Is, tt) None x → ⊥
unfolding binary_of
bin-op-without-is κs x p = apart operator p refl

pub assign-op-add-for-sub : (κs : _) (x : _) → assign-op.Post κs (kind.SubAssign, tt) (Some ops.Add) x → ⊥
unfolding compound_of
assign-op-add-for-sub κs x p = apart operator p refl

pub assign-op-without-mul : (κs : _) (x : _) → assign-op.Post κs (kind.MulAssign, tt) None x → ⊥
unfolding compound_of
assign-op-without-mul κs x p = apart operator p refl

pub op-kind-lt-for-le : (κs : _) (x : _) → op-kind.Post κs (ops.Le, tt) kind.Lt x → ⊥
op-kind-lt-for-le κs x p = apart itself p refl

pub op-kind-of-the-assignment : (κs : _) (x : _) → op-kind.Post κs (ops.Add, tt) kind.AddAssign x → ⊥
op-kind-of-the-assignment κs x p = apart itself p refl

pub precedence-of-or : (κs : _) (x : _) → precedence.Post κs (ops.Or, tt) 2 x → ⊥
precedence-of-or κs x p = apart itself p refl

pub precedence-of-add-alone : (κs : _) (x : _) → precedence.Post κs (ops.Mul, tt) 4 x → ⊥
precedence-of-add-alone κs x p = apart itself p refl

-- parts of a text

pub part-to-the-end : (κs : _) (x : _) → part.Post κs (lent (bytes "a is int"), (2, (4, tt))) (lent (bytes "is int")) x → ⊥
part-to-the-end κs x p = apart length p refl

pub part-empty-past-the-end : (κs : _) (x : _) → part.Post κs (lent (bytes "int"), (0, (4, tt))) (lent []) x → ⊥
part-empty-past-the-end κs x p = apart length p refl

-- type words

pub same-bytes-first-byte-alone : (κs : _) (x : _) → same_bytes.Post κs (lent (bytes "iii"), (0, (3, (lent (bytes "int"), tt)))) true x → ⊥
unfolding equal
same-bytes-first-byte-alone κs x p = apart flag p refl

pub same-bytes-stops-at-start : (κs : _) (x : _) → same_bytes.Post κs (lent (bytes "int"), (0, (3, (lent (bytes "int"), tt)))) false x → ⊥
unfolding equal
same-bytes-stops-at-start κs x p = apart flag p refl

pub type-word-float-for-int : (κs : _) (x : _) → type-word.Post κs (lent (bytes "a is int"), (5, (8, tt))) (Some values.Float) x → ⊥
unfolding type_word equal
type-word-float-for-int κs x p = apart typed p refl

pub type-word-misspelled : (κs : _) (x : _) → type-word.Post κs (lent (bytes "userdate"), (0, (8, tt))) (Some values.UserData) x → ⊥
unfolding type_word equal
type-word-misspelled κs x p = apart typed p refl

pub type-word-null-for-unknown : (κs : _) (x : _) → type-word.Post κs (lent (bytes "null"), (0, (4, tt))) (Some values.Null) x → ⊥
unfolding type_word equal
type-word-null-for-unknown κs x p = apart typed p refl

pub value-type-number-of-null : (κs : _) (x : _) → value-type-number.Post κs (values.Null, tt) 1 x → ⊥
value-type-number-of-null κs x p = apart itself p refl

pub value-type-number-of-user-data : (κs : _) (x : _) → value-type-number.Post κs (values.UserData, tt) 8 x → ⊥
value-type-number-of-user-data κs x p = apart itself p refl

pub value-type-name-place-of-none : (κs : _) (x : _) → value-type-name-place.Post κs (9, tt) 0 x → ⊥
unfolding type_name_place
value-type-name-place-of-none κs x p = apart itself p refl

pub value-type-name-place-swapped : (κs : _) (x : _) → value-type-name-place.Post κs (6, tt) (place_of "Function") x → ⊥
unfolding type_name_place
value-type-name-place-swapped κs x p = apart itself p refl
