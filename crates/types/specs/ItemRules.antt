-- The item rules of the lists of types and patterns, by names and numbers, and which of them each of the code's is.
use Rattle.std.specs.Prelude.{ℕ, zero, suc}
use Rattle.types.specs.declared.types.TypeRule.{TypeRule}
use Rattle.types.specs.declared.types.TypeRule.TheVariants as types
use Rattle.types.specs.declared.patterns.PatternRule.{PatternRule}
use Rattle.types.specs.declared.patterns.PatternRule.TheVariants as patterns

-- parameters: names, each perhaps with a type; a closure's, whose types are atoms; the pairs of a table type; the types of a function type's parameters
abbrev pub TypedIdents : ℕ
TypedIdents = 0

abbrev pub AtomTypedIdents : ℕ
AtomTypedIdents = 1

abbrev pub TableTyPairs : ℕ
TableTyPairs = 2

abbrev pub Types : ℕ
Types = 3

abbrev pub type_rule : TypeRule → ℕ
type_rule types.TypedIdents = TypedIdents
type_rule types.AtomTypedIdents = AtomTypedIdents
type_rule types.TableTyPairs = TableTyPairs
type_rule types.Types = Types

-- the pairs of a table pattern; the patterns of a list pattern
abbrev pub Pairs : ℕ
Pairs = 0

abbrev pub Patterns : ℕ
Patterns = 1

abbrev pub pattern_rule : PatternRule → ℕ
pattern_rule patterns.Pairs = Pairs
pattern_rule patterns.Patterns = Patterns

-- what goes with TypedIdents, AtomTypedIdents, TableTyPairs and Types
abbrev pub by_rule : {A : Type 0} → ℕ → A → A → A → A → A
by_rule zero a b c d = a
by_rule (suc zero) a b c d = b
by_rule (suc (suc zero)) a b c d = c
by_rule (suc (suc (suc n))) a b c d = d
