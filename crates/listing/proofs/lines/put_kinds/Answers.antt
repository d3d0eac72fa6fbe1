-- `listing::lines::put_kinds` meets its contract. The invariant: what is left of the kinds from here gives what the whole gives.
-- Assumes nothing.
use Rattle.std.proofs.Common.{sym, ◌∙◌, arith, length, take, drop}
use Rattle.std.proofs.lemmas.Iterator.{YieldsList-from_slice, YieldsList-from_take}
use Rattle.std.proofs.lemmas.Iterator.Adapters.{YieldsList-from_skip}
use Rattle.std.proofs.lemmas.Iterator.Consumers.{YieldsList-turn, YieldsList-end}
use Rattle.std.proofs.lemmas.List.{length_push}
use Rattle.listing.proofs.LineWays as ways
use Rattle.listing.proofs.lines.put_kinds.Goals as goal

pub loop-kind-preserved : goal.loop-kind-preserved
loop-kind-preserved c =
    let t = YieldsList-turn (YieldsList-from_take c.args.count (YieldsList-from_skip c.args.from (YieldsList-from_slice c.args.expected.now cc) cc) cc) c.loop-kind.yielded _ c.loop-kind.yielded_by _ _ c.in-Some.field-0 c.in-Some.is c.next.ensures.steps in
    let n = length_push c.loop-kind.yielded c.in-Some.field-0 in
    rw n (c.loop-kind.invariant ∙ ways.kinds-on _ _ _ c.in-Some.field-0.now t (rw c.from.ensures at c.put_field.ensures))

pub returns : goal.returns
returns c =
    let t = YieldsList-end (YieldsList-from_take c.args.count (YieldsList-from_skip c.args.from (YieldsList-from_slice c.args.expected.now cc) cc) cc) c.loop-kind.yielded _ c.loop-kind.yielded_by _ _ c.in-None.is c.next.ensures.steps in
    sym (c.loop-kind.invariant ∙ ways.kinds-end (take c.args.count (drop c.args.from c.args.expected.now)) (length c.loop-kind.yielded) _ (omega (arith, t.1)))
