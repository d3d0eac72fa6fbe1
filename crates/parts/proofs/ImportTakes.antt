-- What the rules of `import` keep, and that each name of a path takes a token.
use Rattle.std.specs.Prelude.{Some, None}
use mathlib.Core.Path.{refl}
use Prim.Native.Nat.{ℕ}
use Rattle.kinds.specs.Number as kind
use Rattle.cursor.specs.declared.Kids.{Kids}
use Rattle.cursor.specs.Sheet.{Sheet, range_at, Ranged}
use Rattle.cursor.specs.Node as node
use Rattle.cursor.specs.Records.{no_kids}
use Rattle.cursor.proofs.Loops.{Takes}
use Rattle.cursor.proofs.Chosen.{all, ◌&◌}
use Rattle.cursor.proofs.Keeps.{Mark, Keeps, Plain, Nexts, ground, gives, ifs, plain, binds, thens, loops}
use Rattle.cursor.proofs.Kept.{bump-keeps, check-keeps, eat-keeps, unexpected-keeps, chooses, append-keeps, add-keeps, nothing, Fresh, RowFor, fresh-mine, ground-mine}
use Rattle.cursor.proofs.Spends.{Spends, takes, first-spends}
use Rattle.cursor.proofs.Spent.{expect-spends, unexpected-spends}
use Rattle.types.specs.Lits.{ident_at, ident}
use Rattle.types.proofs.ItemKeeps.{ItemsFor, start-keeps, close-keeps, ident-keeps}
use Rattle.parts.specs.declared.imports.Imported.{Imported}
use Rattle.parts.specs.Values.{uncounted}
use Rattle.parts.specs.Imports.{end_cases, tail_cases, import_simple, import_alias, import_nested, import_glob, import_item, import_items, import_end, import_tail, path_turn, import_stmt}
use Rattle.parts.proofs.UntilPaths.{until-keeps}

-- a name takes a token
pub ident-spends : (e : Sheet) → Spends e Plain (ident e)
unfolding ident ident_at
ident-spends e = record { ends = λ s w. (by (range_at e.tokens s.at)).ends s w }
  where
    by : (r : Ranged) → Spends e Plain (ident_at e r)
    by (Some r) = first-spends (expect-spends kind.Ident refl) (λ _. plain (append-keeps _ 0))
    by None = unexpected-spends

-- a path whose row's last child may be linked on
abbrev PathFor : Mark → Imported → Type 0
PathFor m i = RowFor m i.kids

module _ {m : Mark} (e : Sheet) where
  item-keeps : Keeps m (Fresh m) (import_item e)
  unfolding import_item
  item-keeps =
      binds (start-keeps e) (λ from _. binds (ident-keeps e) (λ name f. binds (eat-keeps e kind.As) (λ b _. ifs b
      (binds (ident-keeps e) (λ alias g. binds (add-keeps no_kids name nothing (fresh-mine name f)) (λ one r. binds (add-keeps one alias r (fresh-mine alias g)) (λ two _. close-keeps e node.ImportItem from 0 0 _ two.first))))
      (close-keeps e node.ImportItem from 0 0 0 name))))

  items_keep : (kids : Kids) → RowFor m kids → Keeps m (ItemsFor m) (import_items e kids)
  unfolding import_items
  items_keep kids h = until-keeps e (import_item e) kind.CloseBrace item-keeps kids h

  end-keeps : (kids : Kids) → RowFor m kids → Keeps m (Nexts (PathFor m)) (import_end e kids)
  unfolding import_end import_simple import_alias
  end-keeps kids h =
      chooses e (end_cases e kids) (gives h & thens (bump-keeps e) (binds (ident-keeps e) (λ alias f. binds (add-keeps kids alias h (fresh-mine alias f)) (λ longer g. gives g))) & all) (unexpected-keeps e)

  tail-keeps : (kids : Kids) → RowFor m kids → Keeps m (Nexts (PathFor m)) (import_tail e kids)
  unfolding import_tail import_nested import_glob
  tail-keeps kids h = chooses e (tail_cases e kids) (thens (bump-keeps e) (binds (items_keep (uncounted kids) h) (λ i g. gives g)) & thens (bump-keeps e) (gives h) & all) (unexpected-keeps e)

  path-keeps : (i : Imported) → PathFor m i → Keeps m (Nexts (PathFor m)) (path_turn e i)
  unfolding path_turn
  path-keeps i h =
      binds (ident-keeps e) (λ name f. binds (add-keeps i.kids name h (fresh-mine name f)) (λ longer g. binds (eat-keeps e kind.DoubleColon) (λ b _. ifs b
      (binds (check-keeps e kind.Ident) (λ c _. ifs c (gives g) (tail-keeps longer g)))
      (end-keeps longer g))))

  pub import-keeps : (from : ℕ) → Keeps m (Fresh m) (import_stmt e from)
  unfolding import_stmt
  import-keeps from = thens (bump-keeps e) (binds (loops path-keeps e nothing) (λ i _. close-keeps e node.Import from 0 0 _ i.kids.first))

module _ (e : Sheet) where
  pub import-items-keep : Keeps ground Plain (import_item e)
  import-items-keep = plain (item-keeps e)

  pub path-takes : Takes e (path_turn e)
  unfolding path_turn
  path-takes = takes (λ i. first-spends (ident-spends e) (λ name. plain (binds (add-keeps i.kids name (ground-mine _) (ground-mine name)) (λ longer g. binds (eat-keeps e kind.DoubleColon) (λ b _. ifs b
      (binds (check-keeps e kind.Ident) (λ c _. ifs c (gives g) (tail-keeps e longer g)))
      (end-keeps e longer g))))))
