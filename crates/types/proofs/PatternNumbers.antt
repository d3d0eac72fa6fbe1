-- The paths of PatternPaths that go by an item rule, over every number of one, whether or not the code has a rule of that number.
-- Assumes nothing.
use Rattle.std.proofs.Common.{◌≡◌, refl}
use Prim.Native.Nat.{ℕ, zero, suc}
use Rattle.kinds.specs.Number as kind
use Rattle.cursor.specs.declared.State.{State}
use Rattle.cursor.specs.Sheet.{Sheet}
use Rattle.cursor.specs.Rule.{World, Rule}
use Rattle.types.specs.Patterns.{pattern_end, table_pattern_pair, pattern_item}

pub end-pairs : {k : ℕ} → k ≡ 0 → pattern_end k ≡ kind.CloseBrace
unfolding pattern_end
end-pairs p = rw p

pub end-patterns : (k : ℕ) → (k ≡ 0 → ⊥) → pattern_end k ≡ kind.CloseBracket
unfolding pattern_end
end-patterns zero p = absurd (p refl)
end-patterns (suc zero) p = refl
end-patterns (suc (suc zero)) p = refl
end-patterns (suc (suc (suc k))) p = refl

module _ (e : Sheet) (inner : Rule ℕ) where
  pub item-pair : (k : ℕ) (s : State) (w : World) → k ≡ 0 → pattern_item e inner k s w ≡ table_pattern_pair e inner s w
  unfolding pattern_item
  item-pair k s w p = rw p

  pub item-pattern : (k : ℕ) (s : State) (w : World) → (k ≡ 0 → ⊥) → pattern_item e inner k s w ≡ inner s w
  unfolding pattern_item
  item-pattern zero s w p = absurd (p refl)
  item-pattern (suc zero) s w p = refl
  item-pattern (suc (suc zero)) s w p = refl
  item-pattern (suc (suc (suc k))) s w p = refl
