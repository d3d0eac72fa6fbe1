-- A rule by a test, and one that fails with an error of its own.
use Rattle.std.specs.Prelude.{Bool, true, false}
use Rattle.cursor.specs.declared.Fault.{Fault}
use Rattle.cursor.specs.Rule.{fault, Out, failed, Rule}

-- the one rule where a test holds, and otherwise the other
abbrev pub when : {A : Type 0} → Bool → Rule A → Rule A → Rule A
when b r q s w = elim b as (λ _. Out _) [ true ↦ r s w | false ↦ q s w ]

-- Rust's Err of an error that is made here
abbrev pub fail_with : {A : Type 0} → Fault → Rule A
fail_with f s w = failed (fault s w f)
