-- `is_utf8` meets its contract. The invariant: what is left of the text is UTF-8 exactly if the whole is.
use Rattle.std.proofs.Common.{sym, ◌∙◌, arith}
use Rattle.entry.proofs.Walk as walk
use Rattle.entry.proofs.Runs as runs
use Prim.Native.Nat.{zero-le}
use Rattle.entry.proofs.is_utf8.Goals as goal

pub past_ascii-at-requires : goal.past_ascii-at-requires
past_ascii-at-requires c = zero-le

pub loop-at-init : goal.loop-at-init
loop-at-init c = (runs.utf8-past c.args.text.now 0 _ c.past_ascii-at.ensures, runs.past_room c.args.text.now 0 _ c.past_ascii-at.ensures zero-le)

pub returns-then-n-eq0 : goal.returns-then-n-eq0
returns-then-n-eq0 c = sym (c.loop-at.invariant.0 ∙ walk.utf8-bad c.args.text.now c.loop-at.at c.loop-at-test.true (sym c.char_length-n.ensures ∙ c.if-n-eq0.true))

pub overflow_add-at : goal.overflow_add-at
overflow_add-at c = omega (arith, (walk.char-room c.args.text.now c.loop-at.at c.char_length-n.result c.loop-at.invariant.1 c.char_length-n.ensures))

pub past_ascii-at-requires-in-loop-at : goal.past_ascii-at-requires-in-loop-at
past_ascii-at-requires-in-loop-at c = (walk.char-room c.args.text.now c.loop-at.at c.char_length-n.result c.loop-at.invariant.1 c.char_length-n.ensures)

pub loop-at-smaller : goal.loop-at-smaller
loop-at-smaller c = omega (arith, c.loop-at-test.true, c.if-n-eq0.false, c.past_ascii-at-in-loop-at.ensures)

pub loop-at-preserved : goal.loop-at-preserved
loop-at-preserved c = (
  c.loop-at.invariant.0 ∙ walk.utf8-step c.args.text.now c.loop-at.at _ c.loop-at-test.true c.if-n-eq0.false c.char_length-n.ensures
      ∙ runs.utf8-past c.args.text.now _ _ c.past_ascii-at-in-loop-at.ensures,
  runs.past_room c.args.text.now _ _ c.past_ascii-at-in-loop-at.ensures (walk.char-room c.args.text.now c.loop-at.at c.char_length-n.result c.loop-at.invariant.1 c.char_length-n.ensures),
)

pub returns : goal.returns
returns c = sym (c.loop-at.invariant.0 ∙ walk.utf8-end c.args.text.now c.loop-at.at c.loop-at-test.false)
