-- The chains of types and patterns by places, as the code goes through them.
use mathlib.Core.Path.{◌≡◌, refl, ap, fun_ext}
use mathlib.Core.List.{List, [], ◌∷◌}
use Prim.Native.Nat.{ℕ}
use Rattle.kinds.specs.Number as kind
use Rattle.cursor.specs.Sheet.{Sheet}
use Rattle.cursor.specs.Rule.{Rule, ◌>>=◌}
use Rattle.cursor.specs.Checks.{pick}
use Rattle.cursor.proofs.Chosen.{case_at, chosen}
use Rattle.types.specs.Lits.{lit}
use Rattle.types.specs.Items.{start}
use Rattle.types.specs.Types.{type_cases, type_atom}
use Rattle.types.specs.Patterns.{pattern_cases, pattern}

module _ (e : Sheet) where
  abbrev pub type_chain : List ℕ
  type_chain = kind.OpenParen ∷ kind.Ident ∷ kind.OpenBrace ∷ kind.Fn ∷ []

  unfoldable pub type_by : Rule ℕ → ℕ → ℕ → Rule ℕ
  type_by inner from which = case_at (type_cases e inner from) (lit e) which

  pub type-atom-placed : (inner : Rule ℕ) → type_atom e inner ≡ (start e >>= (λ from. pick e type_chain >>= type_by inner from))
  unfolding type_atom type_by
  type-atom-placed inner = ap (λ k. start e >>= k) (fun_ext (λ from. chosen e (lit e) (type_cases e inner from) (λ i s w. refl)))

  abbrev pub pattern_chain : List ℕ
  pattern_chain = kind.Ident ∷ kind.OpenBrace ∷ kind.OpenBracket ∷ []

  unfoldable pub pattern_by : Rule ℕ → ℕ → ℕ → Rule ℕ
  pattern_by inner from which = case_at (pattern_cases e inner from) (lit e) which

  pub pattern-placed : (inner : Rule ℕ) → pattern e inner ≡ (start e >>= (λ from. pick e pattern_chain >>= pattern_by inner from))
  unfolding pattern pattern_by
  pattern-placed inner = ap (λ k. start e >>= k) (fun_ext (λ from. chosen e (lit e) (pattern_cases e inner from) (λ i s w. refl)))
