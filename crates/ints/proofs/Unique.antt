-- No second answer satisfies a contract: of each public function, any two answers that meet it for the same arguments are equal.
-- `Post` is the contract itself, as the check reads it from the source.
use mathlib.Core.Path.{◌≡◌, sym, ◌∙◌}
use Rattle.ints.proofs.int_value.Reads as int-value
use Rattle.ints.proofs.fault_number.Reads as fault-number

pub int-value-unique : (κs : _) (a : _) (r r' : _) (s : _) → int-value.Post κs a r s → int-value.Post κs a r' s → r ≡ r'
int-value-unique κs a r r' s p q = p ∙ sym q

pub fault-number-unique : (κs : _) (a : _) (r r' : _) (s : _) → fault-number.Post κs a r s → fault-number.Post κs a r' s → r ≡ r'
fault-number-unique κs a r r' s p q = p ∙ sym q
