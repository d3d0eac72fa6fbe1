use Rattle.cursor.proofs.TokenPaths as paths
use Rattle.kinds.specs.Kinds.{is_trivia}
use Rattle.kinds.proofs.Theorems.{trivia-first}
use Rattle.std.proofs.Common.{sym, ap, ◌∙◌, arith, le-ltb, lt-ltb}
use Rattle.cursor.proofs.reader.Reader.past.Goals as goal

pub overflow_add-at : goal.overflow_add-at
overflow_add-at c = omega (arith, paths.trivia-there _ _ ((ap is_trivia (sym c.kind.ensures) ∙ trivia-first _) ∙ lt-ltb _ _ c.loop-at-test.true))

pub loop-at-smaller : goal.loop-at-smaller
loop-at-smaller c = omega (arith, paths.trivia-there _ _ ((ap is_trivia (sym c.kind.ensures) ∙ trivia-first _) ∙ lt-ltb _ _ c.loop-at-test.true))

pub loop-at-preserved : goal.loop-at-preserved
loop-at-preserved c = c.loop-at.invariant ∙ paths.past-on _ _ ((ap is_trivia (sym c.kind.ensures) ∙ trivia-first _) ∙ lt-ltb _ _ c.loop-at-test.true)

pub returns : goal.returns
returns c = ap (λ at. record { tokens = c.args.self.tokens; at = at }) (sym (c.loop-at.invariant ∙ paths.past_off _ _ ((ap is_trivia (sym c.kind.ensures) ∙ trivia-first _) ∙ le-ltb _ _ c.loop-at-test.false)))
