-- What an item rule's number comes to where an enum stands for it: `type_items` of types goes by a number, whatever it is, and `type_items_of` by a `TypeRule`. Every number
-- has one at which all that the rule of a list asks of it answers the same: an item, the last item, how that one starts, and how the list ends.
-- Assumes nothing.
use Rattle.std.proofs.Common.{◌≡◌, ℕ, suc, zero, false, eqb, ne_eqb, arith, refl}
use Rattle.cursor.specs.declared.State.{State}
use Rattle.cursor.specs.Sheet.{Sheet}
use Rattle.cursor.specs.Rule.{World, Rule}
use Rattle.types.specs.declared.types.TypeRule.{TypeRule}
use Rattle.types.specs.declared.types.TypeRule.TheVariants as rules
use Rattle.types.specs.ItemRules.{type_rule}
use Rattle.types.specs.Types.{type_item, type_last_kind, type_end, type_last_item}

pub record Alike (e : Sheet) (atom : Rule ℕ) (n k : ℕ) : Type 0 where
  pub item : (s : State) (w : World) → type_item e atom n s w ≡ type_item e atom k s w
  pub last : (s : State) (w : World) → type_last_item e atom n s w ≡ type_last_item e atom k s w
  pub starts : type_last_kind n ≡ type_last_kind k
  pub ends : type_end n ≡ type_end k

past : (e : Sheet) (atom : Rule ℕ) (n : ℕ) → Alike e atom (suc (suc (suc n))) 3
unfolding type_last_item type_item type_end type_last_kind
past e atom n = let h : eqb (suc (suc (suc n))) 2 ≡ false = ne_eqb _ _ (λ q. omega (arith, q)) in record { item = λ s w. refl; last = λ s w. rw (type_last_item, h) refl; starts = refl; ends = refl }

pub type-rule-any : (e : Sheet) (atom : Rule ℕ) (n : ℕ) → (r : TypeRule) × Alike e atom n (type_rule r)
type-rule-any e atom zero = (rules.TypedIdents, record { item = λ s w. refl; last = λ s w. refl; starts = refl; ends = refl })
type-rule-any e atom (suc zero) = (rules.AtomTypedIdents, record { item = λ s w. refl; last = λ s w. refl; starts = refl; ends = refl })
type-rule-any e atom (suc (suc zero)) = (rules.TableTyPairs, record { item = λ s w. refl; last = λ s w. refl; starts = refl; ends = refl })
type-rule-any e atom (suc (suc (suc n))) = (rules.Types, past e atom n)
