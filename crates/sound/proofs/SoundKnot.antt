-- The knot: with any number of levels left, statements up to a kind and expressions are sound.
use Prim.Native.Nat.{ℕ, zero, suc, ◌+◌, ◌^◌, ◌<◌}
use mathlib.Core.Bool.{Bool}
use lib.ListN.{length}
use Rattle.cursor.specs.Sheet.{Sheet}
use Rattle.cursor.specs.Records.{no_kids}
use Rattle.rules.specs.Levels.{knot, levels}
use Rattle.grammar.specs.Symbols.{Exprs, Prec}
use Rattle.sound.proofs.KeepsStmts.{key-keeps, function-keeps}
use Rattle.sound.proofs.Sound.{Sound, refuses}
use Rattle.sound.proofs.SoundNames.{Rowing}
use Rattle.sound.proofs.SoundExprs.{Expressed}
use Rattle.sound.proofs.SoundPrec.{expr-sound, precedence-sound}
use Rattle.sound.proofs.SoundTry.{unary-sound}
use Rattle.sound.proofs.SoundBody.{body-sound, block-sound}
use Rattle.sound.proofs.SoundFunctions.{function-sound}
use Rattle.sound.proofs.SoundAtoms.{atom-sound}
use Rattle.sound.proofs.SoundPrimary.{primary-sound}
use Rattle.sound.proofs.SoundStmts.{stmt-sound}

-- the two rules that use up a level
pub record Tied (e : Sheet) (d : ℕ) : Type 0 where
  pub bodies : (end : ℕ) → Sound e (Rowing e.text (Exprs end) no_kids) ((levels e d).exprs end)
  pub precs : (n : ℕ) (lambda : Bool) → Sound e (Expressed e.text (Prec (n + 1) lambda)) ((levels e d).prec (n + 1) lambda)

pub knot-sound : (e : Sheet) → length e.tokens < 2 ^ 32 → (d : ℕ) → Tied e d
unfolding knot
knot-sound e few zero = record { bodies = λ end. refuses e; precs = λ n lambda. refuses e }
knot-sound e few (suc d) =
    let tied = knot-sound e few d in
    let wholes = expr-sound e d tied.precs in
    let stmts = stmt-sound e d tied.precs (function-sound e d tied.bodies) few (function-keeps e d) in
    let primaries = primary-sound e d wholes tied.bodies (atom-sound e d wholes tied.bodies (key-keeps e d)) in
    record { bodies = λ end. body-sound e end d stmts; precs = precedence-sound e d tied.precs (unary-sound e d (block-sound e d tied.bodies) primaries) }
