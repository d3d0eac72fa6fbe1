-- The knot: with any number of levels left, expressions from a level of operators on and statements up to a kind meet their derivations.
use mathlib.Core.Path.{refl}
use Prim.Native.Nat.{ℕ, zero, suc, ◌^◌, ◌<◌}
use native.Mathlib.Omega.{arith}
use lib.ListN.{length}
use Rattle.kinds.specs.Number as kind
use Rattle.cursor.specs.Sheet.{Sheet}
use Rattle.rules.specs.Levels.{knot, levels}
use Rattle.grammar.specs.Places.{Place}
use Rattle.grammar.specs.Symbols.{Exprs}
use Rattle.grammar.specs.Derives.{Derives}
use Rattle.grammar.specs.Words.{among}
use Rattle.complete.proofs.Meets.{inside, cost_of, Any, Meets}
use Rattle.complete.proofs.MeetsBinds.{refuses, deeper}
use Rattle.complete.proofs.MeetsBlocks.{Handed}
use Rattle.complete.proofs.MeetsTables.{braces-meet}
use Rattle.complete.proofs.MeetsPrec.{precedence-meets}
use Rattle.complete.proofs.MeetsBody.{body-meets}

-- what the rules are handed, and the statements of a whole sheet
pub record Tied (e : Sheet) (d : ℕ) : Type 0 where
  pub handed : Handed e d
  pub sheets : {p q : Place} (D : Derives e.text (Exprs kind.Eof) p q) → Meets e d p q (inside (cost_of D)) Any ((levels e d).exprs kind.Eof)

pub knot-meets : (e : Sheet) → length e.tokens < 2 ^ 32 → (d : ℕ) → Tied e d
unfolding knot among
knot-meets e few zero = record { handed = record { precs = λ D. refuses (omega arith); bodies = λ D. refuses (omega arith) }; sheets = λ D. refuses (omega arith) }
knot-meets e few (suc d) =
    let h = (knot-meets e few d).handed in
    record { handed = record { precs = λ D. deeper (precedence-meets h (braces-meet h) D); bodies = λ D. deeper (body-meets h few kind.CloseBrace refl refl D) }; sheets = λ D. deeper (body-meets h few kind.Eof refl refl D) }
