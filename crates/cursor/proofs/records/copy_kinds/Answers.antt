use Rattle.std.proofs.Common.{sym, refl, ◌∙◌, add-zero, arith}
use native.Mathlib.Nat.{sub-zero}
use Rattle.cursor.proofs.RecordPaths as paths
use Rattle.cursor.proofs.CheckPaths.{stored}
use Rattle.cursor.proofs.records.copy_kinds.Goals as goal

pub loop-k-init : goal.loop-k-init
loop-k-init c = rw (add-zero, sub-zero) refl

pub loop-k-preserved : goal.loop-k-preserved
loop-k-preserved c = c.loop-k.invariant ∙ paths.copy-on _ c.args.live.now _ _ _ (omega arith) (stored _ _ _)

pub returns : goal.returns
returns c = sym (c.loop-k.invariant ∙ paths.copy-end _ c.args.live.now _ _ _ (omega arith))
