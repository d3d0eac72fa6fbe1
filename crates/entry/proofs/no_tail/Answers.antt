-- `no_tail` meets its contract.
use Rattle.entry.proofs.Fits as fit
use Rattle.entry.proofs.no_tail.Goals as goal

pub returns : goal.returns
returns c = fit.no-tail c.args.text.now c.args.at c.byte_in.ensures
