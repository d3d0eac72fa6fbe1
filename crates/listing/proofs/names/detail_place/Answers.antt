-- `listing::names::detail_place` meets its contract.
-- Assumes nothing.
use Rattle.std.proofs.Common.{arith}
use Rattle.listing.proofs.Spelled as names
use Rattle.listing.proofs.names.detail_place.Goals as goal

pub returns-in-14 : goal.returns-in-14
returns-in-14 c = names.detail-unary _ _ _ c.in-14.is c.unary_place.ensures

pub returns-in-15 : goal.returns-in-15
returns-in-15 c = names.detail-operator _ _ _ c.in-15.is c.name_place.ensures

pub returns-in-16 : goal.returns-in-16
returns-in-16 c = names.detail-type _ _ _ c.in-16.is c.value_type_name_place.ensures

pub returns-in_default : goal.returns-in_default
returns-in_default c = names.detail-none _ _ (λ e. absurd (omega arith)) (grind arith) (grind arith) (λ e. absurd (omega arith))
