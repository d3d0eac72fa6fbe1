-- `is_suffix` meets its contract.
use Rattle.exprs.specs.Suffix.{is_suffix}
use Rattle.exprs.proofs.suffix.is_suffix.Goals as goal

pub returns : goal.returns
unfolding is_suffix
returns c = c.is_in.ensures
