-- A list by the number of its item rule, whatever it is: past the last number it is a list of types.
-- Assumes nothing.
use Rattle.std.proofs.Common.{◌≡◌, ℕ, zero, suc, ◌≤◌, Bool, true, false, ne_eqb, ap, arith}
use Rattle.kinds.specs.Number as kind
use Rattle.cursor.specs.declared.State.{State}
use Rattle.cursor.specs.declared.Kids.{Kids}
use Rattle.cursor.specs.Sheet.{Sheet}
use Rattle.cursor.specs.Rule.{World, Out, Rule, ◌>>=◌, ◌>>◌, give}
use Rattle.cursor.specs.Checks.{expect}
use Rattle.cursor.specs.Records.{add}
use Rattle.types.specs.declared.items.Items.{Items}
use Rattle.types.specs.Items.{items_until_with_last}
use Rattle.types.specs.Types.{ended, type, table_ty_other, type_item, type_last_kind, type_end, type_last_item, type_last, type_items}

module _ (e : Sheet) (atom : Rule ℕ) where
  last-item-past : (n : ℕ) → type_last_item e atom (suc (suc (suc n))) ≡ type_last_item e atom 3
  unfolding type_last_item type_item
  last-item-past n = ap {B = Rule ℕ} (λ (b : Bool) (s : State) (w : World). elim b as (λ _. Out ℕ) [ true ↦ table_ty_other e atom s w | false ↦ (expect e kind.Ellipsis >> type e atom) s w ]) (ne_eqb (suc (suc (suc n))) 2 (omega arith))

  last-past : (n : ℕ) → type_last e atom (suc (suc (suc n))) ≡ type_last e atom 3
  unfolding type_last
  last-past n = ap {B = Items → Rule Items} (λ (l : Rule ℕ) (i : Items). l >>= (λ r. add i.kids r >>= (λ after. give (ended i.kids after)))) (last-item-past n)

  pub items-past : (n : ℕ) (kids : Kids) (s : State) (w : World) → 3 ≤ n → type_items e atom n kids s w ≡ type_items e atom 3 kids s w
  unfolding type_items type_item type_last_kind type_end
  items-past zero kids s w h = absurd (omega (arith, h))
  items-past (suc zero) kids s w h = absurd (omega (arith, h))
  items-past (suc (suc zero)) kids s w h = absurd (omega (arith, h))
  items-past (suc (suc (suc n))) kids s w h = ap (λ (l : Items → Rule Items). items_until_with_last e (type e atom) kind.Ellipsis l kind.CloseParen kids s w) (last-past n)
