-- `past_ascii` meets its contract. The invariant of both loops: from where they stand the same place is to be found.
use Rattle.std.proofs.Common.{sym, ◌∙◌, refl, arith}
use Rattle.entry.proofs.Runs as runs
use Rattle.entry.specs.Utf8.{ascii}
use lib.ListN.{replicate}
use Rattle.entry.proofs.past_ascii.Goals as goal

pub loop-at-init : goal.loop-at-init
loop-at-init c = (refl, c.requires)

pub eight_ascii-requires : goal.eight_ascii-requires
eight_ascii-requires c = c.loop-at.invariant.1

pub overflow_add-at : goal.overflow_add-at
overflow_add-at c = omega (arith, (runs.run_room c.args.text.now c.loop-at.at (replicate 8 ascii) (sym c.eight_ascii.ensures ∙ c.loop-at-test.true) c.loop-at.invariant.1))

pub loop-at-smaller : goal.loop-at-smaller
loop-at-smaller c = omega (arith, (runs.run_room c.args.text.now c.loop-at.at (replicate 8 ascii) (sym c.eight_ascii.ensures ∙ c.loop-at-test.true) c.loop-at.invariant.1))

pub loop-at-preserved : goal.loop-at-preserved
loop-at-preserved c = (omega (arith, c.loop-at.invariant.0, runs.run_more c.args.text.now 8 c.loop-at.at (sym c.eight_ascii.ensures ∙ c.loop-at-test.true)), omega (arith, (runs.run_room c.args.text.now c.loop-at.at (replicate 8 ascii) (sym c.eight_ascii.ensures ∙ c.loop-at-test.true) c.loop-at.invariant.1)))

pub loop-at-2-init : goal.loop-at-2-init
loop-at-2-init c = c.loop-at.invariant

pub returns-then-text-at-gt127 : goal.returns-then-text-at-gt127
returns-then-text-at-gt127 c = omega (arith, c.loop-at-2.invariant.0, runs.run-stops c.args.text.now c.loop-at-2.at c.loop-at-2-test.true c.if-text-at-gt127.true)

pub overflow_add-at-in-loop-at-2 : goal.overflow_add-at-in-loop-at-2
overflow_add-at-in-loop-at-2 c = omega (arith, c.loop-at-2-test.true)

pub loop-at-2-smaller : goal.loop-at-2-smaller
loop-at-2-smaller c = omega (arith, c.loop-at-2-test.true)

pub loop-at-2-preserved : goal.loop-at-2-preserved
loop-at-2-preserved c = (omega (arith, c.loop-at-2.invariant.0, runs.run_on c.args.text.now c.loop-at-2.at c.loop-at-2-test.true c.if-text-at-gt127.false), omega (arith, c.loop-at-2-test.true))

pub returns : goal.returns
returns c = omega (arith, c.loop-at-2.invariant.0, runs.run_past c.args.text.now c.loop-at-2.at c.loop-at-2-test.false)
