-- `bad_start` meets its contract.
use Rattle.std.proofs.Common.{sym, ◌∙◌, ap, not}
use Rattle.entry.proofs.Paths as paths
use Rattle.entry.proofs.bad_start.Goals as goal

pub returns-then-start-last : goal.returns-then-start-last
returns-then-start-last c = sym (paths.start-again c.args.text.now _ _ c.requires c.if-start-last.true)

pub returns-then-start-last-2 : goal.returns-then-start-last-2
returns-then-start-last-2 c = sym (paths.start_back c.args.text.now _ _ c.if-start-last-2.true)

pub returns : goal.returns
returns c = ap not c.no_tail.ensures ∙ sym (paths.start-on c.args.text.now _ _ c.if-start-last-2.false)
