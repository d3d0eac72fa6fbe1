-- `pieces::digits_of` meets its contract.
-- Assumes nothing.
use Rattle.std.proofs.Common.{rules, arith}
use Rattle.pieces.proofs.Digits.{digits-between, one-digit}
use Rattle.pieces.proofs.digits_of.Goals as goal

pub returns-in-Some : goal.returns-in-Some
returns-in-Some c = digits-between _ _ c.in-Some.ensures.power_le c.in-Some.ensures.next_power_gt (search rules)

pub returns-in-None : goal.returns-in-None
returns-in-None c = one-digit _ (omega (arith, c.in-None.ensures.none))
