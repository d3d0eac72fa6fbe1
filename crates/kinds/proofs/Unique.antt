-- No second answer satisfies a contract: of each public function, two answers that its `ensures` admits for the same arguments are one.
-- `Post` is the contract as the check reads it from the source.
-- Assumes nothing.
use mathlib.Core.Path.{◌≡◌, sym, ◌∙◌}
use Rattle.kinds.proofs.table.is_trivia.Reads as is-trivia
use Rattle.kinds.proofs.table.level.Reads as level
use Rattle.kinds.proofs.table.name_place.Reads as name-place
use Rattle.kinds.proofs.table.name_byte.Reads as name-byte
use Rattle.kinds.proofs.operator.bin_op.Reads as bin-op
use Rattle.kinds.proofs.operator.assign_op.Reads as assign-op
use Rattle.kinds.proofs.operator.op_kind.Reads as op-kind
use Rattle.kinds.proofs.operator.precedence.Reads as precedence
use Rattle.kinds.proofs.types.part.Reads as part
use Rattle.kinds.proofs.types.same_bytes.Reads as same_bytes
use Rattle.kinds.proofs.types.type_word.Reads as type-word
use Rattle.kinds.proofs.types.value_type_number.Reads as value-type-number
use Rattle.kinds.proofs.types.value_type_name_place.Reads as value-type-name-place

pub one-is-trivia : (κs : _) (args : _) (r s : _) (exit : _) → is-trivia.Post κs args r exit → is-trivia.Post κs args s exit → r ≡ s
one-is-trivia κs args r s exit p q = p ∙ sym q

pub one-level : (κs : _) (args : _) (r s : _) (exit : _) → level.Post κs args r exit → level.Post κs args s exit → r ≡ s
one-level κs args r s exit p q = p ∙ sym q

pub one-name-place : (κs : _) (args : _) (r s : _) (exit : _) → name-place.Post κs args r exit → name-place.Post κs args s exit → r ≡ s
one-name-place κs args r s exit p q = p ∙ sym q

pub one-name-byte : (κs : _) (args : _) (r s : _) (exit : _) → name-byte.Post κs args r exit → name-byte.Post κs args s exit → r ≡ s
one-name-byte κs args r s exit p q = p ∙ sym q

pub one-bin-op : (κs : _) (args : _) (r s : _) (exit : _) → bin-op.Post κs args r exit → bin-op.Post κs args s exit → r ≡ s
one-bin-op κs args r s exit p q = p ∙ sym q

pub one-assign-op : (κs : _) (args : _) (r s : _) (exit : _) → assign-op.Post κs args r exit → assign-op.Post κs args s exit → r ≡ s
one-assign-op κs args r s exit p q = p ∙ sym q

pub one-op-kind : (κs : _) (args : _) (r s : _) (exit : _) → op-kind.Post κs args r exit → op-kind.Post κs args s exit → r ≡ s
one-op-kind κs args r s exit p q = p ∙ sym q

pub one-precedence : (κs : _) (args : _) (r s : _) (exit : _) → precedence.Post κs args r exit → precedence.Post κs args s exit → r ≡ s
one-precedence κs args r s exit p q = p ∙ sym q

-- of a part that is lent, the bytes are one
pub one-part : (κs : _) (args : _) (r s : _) (exit : _) → part.Post κs args r exit → part.Post κs args s exit → r.now ≡ s.now
one-part κs args r s exit p q = p ∙ sym q

pub one-same-bytes : (κs : _) (args : _) (r s : _) (exit : _) → same_bytes.Post κs args r exit → same_bytes.Post κs args s exit → r ≡ s
one-same-bytes κs args r s exit p q = p ∙ sym q

pub one-type-word : (κs : _) (args : _) (r s : _) (exit : _) → type-word.Post κs args r exit → type-word.Post κs args s exit → r ≡ s
one-type-word κs args r s exit p q = p ∙ sym q

pub one-value-type-number : (κs : _) (args : _) (r s : _) (exit : _) → value-type-number.Post κs args r exit → value-type-number.Post κs args s exit → r ≡ s
one-value-type-number κs args r s exit p q = p ∙ sym q

pub one-value-type-name-place : (κs : _) (args : _) (r s : _) (exit : _) → value-type-name-place.Post κs args r exit → value-type-name-place.Post κs args s exit → r ≡ s
one-value-type-name-place κs args r s exit p q = p ∙ sym q
