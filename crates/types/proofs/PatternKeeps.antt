-- What the rules on patterns keep, and that the turns of their lists take tokens.
use Prim.Native.Nat.{ℕ, zero, suc}
use Rattle.kinds.specs.Number as kind
use Rattle.cursor.specs.declared.Kids.{Kids}
use Rattle.cursor.specs.Node as node
use Rattle.cursor.specs.Sheet.{Sheet}
use Rattle.cursor.specs.Rule.{Rule}
use Rattle.cursor.specs.Records.{no_kids}
use Rattle.cursor.proofs.Loops.{Takes}
use Rattle.cursor.proofs.Chosen.{all, ◌&◌}
use Rattle.cursor.proofs.Keeps.{Mark, Keeps, gives, refuses, eases, binds, thens}
use Rattle.cursor.proofs.Kept.{bump-keeps, expect-keeps, chooses, nothing, Fresh, RowFor, ground-mine}
use Rattle.types.specs.declared.items.Items.{Items}
use Rattle.types.specs.Items.{item_turn}
use Rattle.types.specs.Patterns.{pattern_end, pattern_last, table_pattern_pair, pattern_item, pattern_items, pattern_row, pattern_cases, pattern, patterns}
use Rattle.types.proofs.ItemKeeps.{ItemsFor, start-keeps, close-keeps, pair_keeps, lit-keeps, ident-keeps, items_keep, items-take}

module _ {m : Mark} (e : Sheet) where
  last-keeps : (i : Items) → ItemsFor m i → Keeps m (ItemsFor m) (pattern_last e i)
  unfolding pattern_last
  last-keeps i h = record { ends = λ s w g. (thens (bump-keeps e) (gives h)).ends s w g }

  module _ (inner : Rule ℕ) (keeps : Keeps m (Fresh m) inner) where
    table-pair-keeps : Keeps m (Fresh m) (table_pattern_pair e inner)
    unfolding table_pattern_pair
    table-pair-keeps = binds (start-keeps e) (λ from _. binds (lit-keeps e) (λ key f. thens (expect-keeps e kind.Colon) (binds keeps (λ value g. pair_keeps e node.TablePatternPair from key value f g))))

    item-keeps : (k : ℕ) → Keeps m (Fresh m) (pattern_item e inner k)
    unfolding pattern_item
    item-keeps zero = record { ends = λ s w h. table-pair-keeps.ends s w h }
    item-keeps (suc k) = record { ends = λ s w h. keeps.ends s w h }

    pattern-items-keep : (k : ℕ) (kids : Kids) → RowFor m kids → Keeps m (ItemsFor m) (pattern_items e inner k kids)
    unfolding pattern_items
    pattern-items-keep k kids h = items_keep e (pattern_item e inner k) kind.Ellipsis (pattern_last e) (pattern_end k) (item-keeps k) last-keeps kids h

    row_keeps : (from k n : ℕ) → Keeps m (Fresh m) (pattern_row e inner from k n)
    unfolding pattern_row
    row_keeps from k n = thens (bump-keeps e) (binds (pattern-items-keep k no_kids nothing) (λ i _. close-keeps e n from _ _ _ i.kids.first))

    pub pattern-keeps : Keeps m (Fresh m) (pattern e inner)
    unfolding pattern
    pattern-keeps = binds (start-keeps e) (λ from _. chooses e (pattern_cases e inner from) (ident-keeps e & row_keeps from 0 node.PatternTable & row_keeps from 1 node.PatternList & all) (lit-keeps e))

pub patterns-keep : {m : Mark} (e : Sheet) (d : ℕ) → Keeps m (Fresh m) (patterns e d)
unfolding patterns
patterns-keep e zero = refuses
patterns-keep e (suc d) = pattern-keeps e (patterns e d) (patterns-keep e d)

-- each turn of a list that goes on takes a token
pub pattern-items-take : (e : Sheet) (d k end : ℕ) → Takes e (item_turn e (pattern_item e (patterns e d) k) kind.Ellipsis (pattern_last e) end)
pattern-items-take e d k end = items-take e (pattern_item e (patterns e d) k) kind.Ellipsis (pattern_last e) end (eases (item-keeps e (patterns e d) (patterns-keep e d) k) (λ _ _. tt)) (λ i. eases (last-keeps e i (ground-mine _)) (λ _ _. tt))
