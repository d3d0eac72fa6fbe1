-- No second answer satisfies a contract: of each public function, two answers that its `ensures` admits for the same arguments are one.
-- `Post` is the contract as the check reads it from the source.
-- Assumes nothing.
use mathlib.Core.Path.{◌≡◌, sym, ◌∙◌}
use Rattle.entry.proofs.entry_check.Reads as entry-check
use Rattle.entry.proofs.refusal_number.Reads as refusal-number

pub entry-check-unique : (κs : _) (args : _) (r s : _) (x y : _) → entry-check.Post κs args r x → entry-check.Post κs args s y → r ≡ s
entry-check-unique κs args r s x y p q = p ∙ sym q

pub refusal-number-unique : (κs : _) (args : _) (r s : _) (x y : _) → refusal-number.Post κs args r x → refusal-number.Post κs args s y → r ≡ s
refusal-number-unique κs args r s x y p q = p ∙ sym q
