-- Where a `?` leaves a turn of a loop.
-- Assumes nothing.
use Rattle.std.proofs.Common.{◌≡◌}
use Rattle.std.specs.Prelude.{Result}
use Rattle.std.specs.declared.ops.ControlFlow.{ControlFlow}
use Rattle.std.specs.Result.{IsErr, IsErrAnd}
use Rattle.std.proofs.lemmas.Result.{err_from_is_err_and}
use Rattle.cursor.specs.declared.Parser.{Parser}
use Rattle.cursor.specs.declared.Stop.{Stop}
use Rattle.cursor.specs.Rule.{Out, failed, Next}
use Rattle.cursor.specs.Answers.{ended, stop_of, turned}

pub turn-exits : {A B C : Type 0} (on : C → A) (end : B → A) (p : Parser) (r : Result (ControlFlow B C) Stop) (e : Stop) {o : Out (Next A)} → IsErr r × IsErrAnd r (λ x. x ≡ e) → failed (stop_of p e) ≡ o → ended p (turned on end r) ≡ o
turn-exits on end p r e h q = let k = err_from_is_err_and r h.1 in rw (k.1, k.2) q
