-- The forms of a case, and the rule that each names.
use Rattle.std.specs.Prelude.{ℕ, true, false, eqb}
use Rattle.cursor.specs.Sheet.{Sheet}
use Rattle.cursor.specs.Rule.{Out, Rule}
use Rattle.types.specs.Types.{type, atoms}
use Rattle.types.specs.Patterns.{patterns}

-- 0 a type, 1 an atom of a type, any other a pattern, with so much of the depth left
unfoldable pub by_form : ℕ → Sheet → ℕ → Rule ℕ
by_form form e depth s w = elim (eqb form 0) as (λ _. Out ℕ) [
  | true ↦ type e (atoms e depth) s w
  | false ↦ elim (eqb form 1) as (λ _. Out ℕ) [ true ↦ atoms e depth s w | false ↦ patterns e depth s w ]
]
