-- `bad_end` meets its contract.
use Rattle.std.proofs.Common.{sym, ◌∙◌, ap, not}
use Rattle.entry.proofs.Paths as paths
use Rattle.entry.proofs.bad_end.Goals as goal

pub returns-then-to-text : goal.returns-then-to-text
returns-then-to-text c = ap not c.no_tail.ensures ∙ sym (paths.end-within c.args.text.now _ c.if-to-text.true)

pub returns : goal.returns
returns c = sym (paths.end-past c.args.text.now _ c.if-to-text.false)
