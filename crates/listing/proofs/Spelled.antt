-- A name, one byte at a time, and that each place leads to the name that it is kept for: computed tests over the tables.
-- Assumes nothing.
use Prim.Native.Nat.{ℕ, ◌+◌, ◌-◌, ◌<◌, ◌≤◌}
use native.Mathlib.Decide.{dec_lt}
use native.Mathlib.Numerals.{add-one}
use native.Mathlib.Omega.{arith}
use mathlib.Core.Bool.{Bool, true, false}
use mathlib.Core.List.{List, [], ◌∷◌}
use mathlib.Core.Path.{◌≡◌, refl, sym, ap, ◌∙◌}
use mathlib.Core.Logic.{◌⊎◌, inl, inr}
use lib.Dec.{T}
use lib.ListN.{length, get_or, drop_of_length-le, get_or-eq_default, get_or-append}
use lib.Seq.{drop-cons, get_or-append-add}
use borrow.Author.Tests.{eq-eqb, ne_eqb}
use Rattle.kinds.specs.Spelling.{equal}
use Rattle.kinds.specs.Listing.{listing_name, name_place, name_bytes}
use Rattle.kinds.specs.TypeWords.{type_names, type_name_place}
use Rattle.kinds.proofs.Every.{every, at}
use Rattle.kinds.proofs.Parts.{equal-same}
use Rattle.kinds.proofs.Rest.{past}
use Rattle.listing.specs.Names.{record_names, record_name, unary_name, binary_name, type_name, detail_name, other_bytes, letters, name_from}

-- how many bytes the names take
pub letters-length : length letters ≡ 410
unfolding letters name_bytes other_bytes
letters-length = refl

-- where a name has another byte, and where it ends
pub name-on : (place : ℕ) {b : ℕ} → b ≡ get_or letters place 32 → (b ≡ 32 → ⊥) → (place < 410) × (name_from place ≡ b ∷ name_from (place + 1))
unfolding name_from
name-on place {b} e n = elim (dec_lt place (length letters)) [
  | yes h ↦ (rw letters-length at h, rw (add-one, drop-cons letters place 32 h, ← e, ne_eqb b 32 n))
  | no h ↦ absurd (n (e ∙ get_or-eq_default letters 32 (omega arith)))
]

pub name-end : (place : ℕ) {b : ℕ} → b ≡ get_or letters place 32 → b ≡ 32 → name_from place ≡ []
unfolding name_from
name-end place {b} e n = elim (dec_lt place (length letters)) [
  | yes h ↦ rw (drop-cons letters place 32 h, ← e, eq-eqb b 32 n)
  | no h ↦ rw (drop_of_length-le letters {i = place} (omega arith))
]

pub name-past : (place : ℕ) → 410 ≤ place → name_from place ≡ []
unfolding name_from
name-past place h = rw (drop_of_length-le letters {i = place} (rw letters-length h))

-- a byte of the kinds' names, one of the others, and none
pub letter-kind : (place : ℕ) → place < 120 → get_or name_bytes place 32 ≡ get_or letters place 32
unfolding letters name_bytes
letter-kind place h = sym (get_or-append name_bytes other_bytes 32 place h)

pub letter-other : (place : ℕ) → 120 ≤ place → get_or other_bytes (place - 120) 32 ≡ get_or letters place 32
unfolding letters name_bytes other_bytes
letter-other place h = let e : 120 + (place - 120) ≡ place = omega arith in sym (get_or-append-add name_bytes other_bytes (place - 120) 32) ∙ ap (λ k. get_or letters k 32) e

is_true : (b : Bool) → T b → b ≡ true
is_true true t = refl
is_true false t = absurd t

-- the same name, by a test at each number below a bound
same_name : (n : ℕ) (f g : ℕ → List ℕ) → T (every n (λ k. equal (f k) (g k))) → (k : ℕ) → k < n → f k ≡ g k
same_name n f g t k h = equal-same (f k) (g k) (is_true (equal (f k) (g k)) (at n (λ k. equal (f k) (g k)) t k h))

-- where the names of the record kinds start
abbrev pub record_places : List ℕ
record_places =
    0
    ∷ 27
    ∷ 32
    ∷ 7
    ∷ 11
    ∷ 17
    ∷ 21
    ∷ 1
    ∷ 120
    ∷ 126
    ∷ 132
    ∷ 104
    ∷ 89
    ∷ 135
    ∷ 140
    ∷ 146
    ∷ 153
    ∷ 163
    ∷ 170
    ∷ 175
    ∷ 178
    ∷ 184
    ∷ 189
    ∷ 195
    ∷ 199
    ∷ 205
    ∷ 214
    ∷ 221
    ∷ 228
    ∷ 238
    ∷ 245
    ∷ 254
    ∷ 267
    ∷ 279
    ∷ 126
    ∷ 95
    ∷ 287
    ∷ 295
    ∷ 104
    ∷ 298
    ∷ 312
    ∷ 323
    ∷ 337
    ∷ 347
    ∷ 89
    ∷ 135
    ∷ 358
    ∷ 120
    ∷ 89
    ∷ 95
    ∷ 375
    ∷ 381
    ∷ 393
    ∷ []

pub record-named : (k : ℕ) → name_from (get_or record_places k 0) ≡ record_name k
unfolding name_from letters name_bytes other_bytes record_name equal
record-named k = elim (dec_lt k 53) [
  | yes h ↦ same_name 53 (λ k. name_from (get_or record_places k 0)) record_name tt k h
  | no h ↦ rw (get_or-eq_default record_places 0 {n = k} (omega arith), get_or-eq_default record_names "" {n = k} (omega arith))
]

pub binary-named : (k : ℕ) → name_from (name_place k) ≡ binary_name k
unfolding name_from letters name_bytes other_bytes name_place listing_name binary_name equal
binary-named k = elim (dec_lt k 79) [
  | yes h ↦ same_name 79 (λ k. name_from (name_place k)) binary_name tt k h
  | no h ↦ rw (past k (omega arith))
]

pub type-named : (k : ℕ) → name_from (type_name_place k) ≡ type_name k
unfolding name_from letters name_bytes other_bytes type_name_place type_name equal
type-named k = elim (dec_lt k 10) [
  | yes h ↦ same_name 10 (λ k. name_from (type_name_place k)) type_name tt k h
  | no h ↦ rw (get_or-eq_default type_names "" {n = k} (omega arith))
]

-- UnOp's two
pub unary-not : {op : ℕ} → op ≡ 24 → name_from 37 ≡ unary_name op
unfolding name_from letters name_bytes other_bytes unary_name
unary-not e = rw e

pub unary-neg : {op : ℕ} → op ≡ 65 → name_from 406 ≡ unary_name op
unfolding name_from letters name_bytes other_bytes unary_name
unary-neg e = rw e

pub unary-none : (op : ℕ) → (op ≡ 24 → ⊥) → (op ≡ 65 → ⊥) → name_from 0 ≡ unary_name op
unfolding name_from letters name_bytes other_bytes unary_name
unary-none op p q = rw (ne_eqb op 24 p, ne_eqb op 65 q)

-- the kinds of record that have a name as their detail
module _ (k one place : ℕ) where
  pub detail-unary : k ≡ 14 → name_from place ≡ unary_name one → name_from place ∷ [] ≡ detail_name k one
  unfolding detail_name
  detail-unary h e = rw (h, e)

  pub detail-operator : (k ≡ 15) ⊎ (k ≡ 30) → place ≡ name_place one → name_from place ∷ [] ≡ detail_name k one
  unfolding detail_name
  detail-operator (inl h) e = rw (h, e, binary-named one)
  detail-operator (inr h) e = rw (h, e, binary-named one)

  pub detail-type : k ≡ 16 → place ≡ type_name_place one → name_from place ∷ [] ≡ detail_name k one
  unfolding detail_name
  detail-type h e = rw (h, e, type-named one)

pub detail-none : (k one : ℕ) → (k ≡ 14 → ⊥) → (k ≡ 15 → ⊥) → (k ≡ 30 → ⊥) → (k ≡ 16 → ⊥) → [] ≡ detail_name k one
unfolding detail_name
detail-none k one p q r s = sym (rw (ne_eqb k 14 p, ne_eqb k 15 q, ne_eqb k 30 r, ne_eqb k 16 s))
