-- What may stand behind an operand: a call or a member. An operand with neither ends the loop of `primary_of` in its first turn (proofs/Suffixes).
use Rattle.std.specs.Prelude.{ℕ, List, [], ◌∷◌, Bool, true, false}
use Rattle.kinds.specs.Number as kind
use Rattle.cursor.specs.Sheet.{Sheet}
use Rattle.cursor.specs.Rule.{Rule, ◌>>◌, give}
use Rattle.cursor.specs.Checks.{is_in, pick}
use Rattle.parts.specs.declared.values.Expr.{Expr}

-- the kinds that they begin with, in the order in which they are looked for; a brace only where a trailing lambda may stand
abbrev pub suffixes : Bool → List ℕ
suffixes true = kind.OpenParen ∷ kind.OpenBrace ∷ kind.Question ∷ kind.OpenBracket ∷ kind.Dot ∷ kind.DoubleColon ∷ []
suffixes false = kind.OpenParen ∷ kind.Question ∷ kind.OpenBracket ∷ kind.Dot ∷ kind.DoubleColon ∷ []

unfoldable pub is_suffix : ℕ → Bool
is_suffix k = is_in k (suffixes true)

-- an operand behind which none of them stands: all were looked for
unfoldable pub no_suffix : Sheet → Bool → Expr → Rule Expr
no_suffix e lambda x = do
  pick e (suffixes lambda)
  give x
