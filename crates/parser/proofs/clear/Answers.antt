-- Each turn clears one more: cleared from where the loop stands on, the buffer is what is asked for.
use Rattle.std.proofs.Common.{sym, ◌∙◌, arith}
use Rattle.parser.proofs.Blanks.{cleared-next, cleared-all}
use Rattle.parser.proofs.clear.Goals as goal

pub loop-i-preserved : goal.loop-i-preserved
loop-i-preserved g c = cleared-next c.args.blank c.loop-i.words c.loop-i.i ∙ c.loop-i.invariant

pub returns : goal.returns
returns g c = sym (cleared-all c.args.blank c.loop-i.words c.loop-i.i (omega (arith, c.loop-i-test.false, c.loop-i.auto.words))) ∙ c.loop-i.invariant
