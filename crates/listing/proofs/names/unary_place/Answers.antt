-- `listing::names::unary_place` meets its contract.
-- Assumes nothing.
use Rattle.std.proofs.Common.{arith}
use Rattle.listing.proofs.Spelled as names
use Rattle.listing.proofs.names.unary_place.Goals as goal

pub returns-in-24 : goal.returns-in-24
returns-in-24 c = names.unary-not c.in-24.is

pub returns-in-65 : goal.returns-in-65
returns-in-65 c = names.unary-neg c.in-65.is

pub returns-in_default : goal.returns-in_default
returns-in_default c = names.unary-none _ (λ e. absurd (omega arith)) (λ e. absurd (omega arith))
