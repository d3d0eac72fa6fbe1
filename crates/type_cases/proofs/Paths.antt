-- Each form's rule.
use Prim.Native.Nat.{ℕ}
use mathlib.Core.Path.{◌≡◌}
use borrow.Author.Tests.{ne_eqb}
use Rattle.cursor.specs.declared.State.{State}
use Rattle.cursor.specs.Sheet.{Sheet}
use Rattle.cursor.specs.Rule.{World}
use Rattle.types.specs.Types.{type, atoms}
use Rattle.types.specs.Patterns.{patterns}
use Rattle.type_cases.specs.Forms.{by_form}

module _ (e : Sheet) (depth : ℕ) (s : State) (w : World) where
  pub form_type : {k : ℕ} → k ≡ 0 → by_form k e depth s w ≡ type e (atoms e depth) s w
  unfolding by_form
  form_type p = rw p

  pub form-atom : {k : ℕ} → k ≡ 1 → by_form k e depth s w ≡ atoms e depth s w
  unfolding by_form
  form-atom p = rw p

  pub form-pattern : (k : ℕ) → (k ≡ 0 → ⊥) → (k ≡ 1 → ⊥) → by_form k e depth s w ≡ patterns e depth s w
  unfolding by_form
  form-pattern k p q = rw (ne_eqb _ _ p, ne_eqb _ _ q, by_form)
