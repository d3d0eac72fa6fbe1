-- Where a `?` leaves a function: the rule that it has read so far fails as the callee's did.
-- Assumes nothing.
use Rattle.std.proofs.Common.{◌≡◌, ℕ}
use Rattle.std.specs.Prelude.{Result}
use Rattle.std.specs.Result.{IsErr, IsErrAnd}
use Rattle.std.proofs.lemmas.Result.{err_from_is_err_and}
use Rattle.cursor.specs.declared.Parser.{Parser}
use Rattle.cursor.specs.declared.Stop.{Stop}
use Rattle.cursor.specs.declared.Stop.TheVariants as stops
use Rattle.cursor.specs.Rule.{Out, refused, failed}
use Rattle.cursor.specs.Answers.{ended, stop_of}

pub exits : {A : Type 0} (p : Parser) (r : Result A Stop) (e : Stop) {o : Out A} → IsErr r × IsErrAnd r (λ x. x ≡ e) → failed (stop_of p e) ≡ o → ended p r ≡ o
exits p r e h q = let k = err_from_is_err_and r h.1 in rw (k.1, k.2) q

-- a refusal is the same wherever the parser stands
pub refused-anywhere : (p q : Parser) (r : Stop) {n : ℕ} → stop_of p r ≡ refused n → stop_of q r ≡ refused n
refused-anywhere p q (stops.Fault f) h = absurd (cc h)
refused-anywhere p q (stops.Refused x) h = h
