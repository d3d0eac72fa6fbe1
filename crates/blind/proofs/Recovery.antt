-- The lists, imports, effects and recovery of parts are blind to what the lent buffers held.
use Prim.Native.Nat.{ℕ}
use Rattle.kinds.specs.Number as kind
use Rattle.cursor.specs.declared.Kids.{Kids}
use Rattle.cursor.specs.Sheet.{Ranged, Sheet}
use Rattle.cursor.specs.Node as node
use Rattle.cursor.specs.Rule.{Rule}
use Rattle.cursor.specs.Checks.{unexpected_at}
use Rattle.cursor.specs.Records.{no_kids}
use Rattle.cursor.proofs.Chosen.{all, ◌&◌}
use Rattle.types.specs.declared.items.Items.{Items}
use Rattle.types.specs.Items.{so}
use Rattle.parts.specs.declared.imports.Imported.{Imported}
use Rattle.parts.specs.Answers.{on_path}
use Rattle.parts.specs.Values.{uncounted}
use Rattle.parts.specs.Until.{until_turn, items_until}
use Rattle.parts.specs.Imports.{import_item, import_items, import_simple, import_alias, import_nested, import_glob, end_cases, import_end, tail_cases, import_tail, path_turn, import_stmt}
use Rattle.parts.specs.Effects.{effect_record, effect_stmt}
use Rattle.parts.specs.Recovery.{skip_cases, skip_turn, skip, skipped, log_here, line_end, after_stmt}
use Rattle.blind.proofs.Blind.{Blind, gives, ifs, binds, thens, loops}
use Rattle.blind.proofs.Cursor.{bump-blind, check-blind, eat-blind, expect-blind, unexpected-blind, chooses, eat-eol-blind, add-blind, log-blind, recovers}
use Rattle.blind.proofs.Items.{start-blind, close-blind, add-some-blind, one-item-blind, ident-blind}
use Rattle.blind.proofs.Types.{params-blind, returns-blind}

-- lists of items
module _ (e : Sheet) (item : Rule ℕ) (h : Blind item) (end : ℕ) where
  until-turn-blind : (i : Items) → Blind (until_turn e item end i)
  unfolding until_turn
  until-turn-blind i = binds (eat-blind e end) (λ ended. ifs ended gives (one-item-blind e item h end i))

  pub items-until-blind : (kids : Kids) → Blind (items_until e item end kids)
  unfolding items_until
  items-until-blind kids = thens (eat-eol-blind e) (loops until-turn-blind e (so kids))

-- imports
module _ (e : Sheet) where
  import-item-blind : Blind (import_item e)
  unfolding import_item
  import-item-blind =
      binds (start-blind e) (λ from. binds (ident-blind e) (λ name. binds (eat-blind e kind.As) (λ other. ifs other
      (binds (ident-blind e) (λ alias. binds (add-blind no_kids name) (λ one. binds (add-blind one alias) (λ two. close-blind node.ImportItem from 0 0 _ two.first))))
      (close-blind node.ImportItem from 0 0 0 name))))

  import-items-blind : (kids : Kids) → Blind (import_items e kids)
  unfolding import_items
  import-items-blind kids = items-until-blind e (import_item e) import-item-blind kind.CloseBrace kids

  import-simple-blind : (kids : Kids) → Blind (import_simple e kids)
  unfolding import_simple
  import-simple-blind kids = gives

  import-alias-blind : (kids : Kids) → Blind (import_alias e kids)
  unfolding import_alias
  import-alias-blind kids = thens (bump-blind e) (binds (ident-blind e) (λ alias. binds (add-blind kids alias) (λ longer. gives)))

  import-nested-blind : (kids : Kids) → Blind (import_nested e kids)
  unfolding import_nested
  import-nested-blind kids = thens (bump-blind e) (binds (import-items-blind (uncounted kids)) (λ i. gives))

  import-glob-blind : (kids : Kids) → Blind (import_glob e kids)
  unfolding import_glob
  import-glob-blind kids = thens (bump-blind e) gives

  import-end-blind : (kids : Kids) → Blind (import_end e kids)
  unfolding import_end
  import-end-blind kids = chooses e (end_cases e kids) (import-simple-blind kids & import-alias-blind kids & all) (unexpected-blind e)

  import-tail-blind : (kids : Kids) → Blind (import_tail e kids)
  unfolding import_tail
  import-tail-blind kids = chooses e (tail_cases e kids) (import-nested-blind kids & import-glob-blind kids & all) (unexpected-blind e)

  path-turn-blind : (i : Imported) → Blind (path_turn e i)
  unfolding path_turn
  path-turn-blind i =
      binds (ident-blind e) (λ name. binds (add-blind i.kids name) (λ longer. binds (eat-blind e kind.DoubleColon) (λ deeper. ifs deeper
      (binds (check-blind e kind.Ident) (λ another. ifs another gives (import-tail-blind longer)))
      (import-end-blind longer))))

  pub import-stmt-blind : (from : ℕ) → Blind (import_stmt e from)
  unfolding import_stmt
  import-stmt-blind from = thens (bump-blind e) (binds (loops path-turn-blind e (on_path no_kids)) (λ i. close-blind node.Import from 0 0 _ i.kids.first))

-- effects
effect-record-blind : (from inside : ℕ) (glo : Ranged) (name : ℕ) (i : Items) (link : ℕ) → Blind (effect_record from inside glo name i link)
unfolding effect_record
effect-record-blind from inside glo name i link =
    binds (add-some-blind i.kids link) (λ kids. binds (close-blind node.Effect inside 0 0 _ kids.first) (λ effect. binds (add-blind no_kids name) (λ one. binds (add-blind one effect) (λ two. close-blind node.ExprEffect from _ _ _ two.first))))

pub effect-stmt-blind : (e : Sheet) (atom : Rule ℕ) → Blind atom → (from : ℕ) (glo : Ranged) → Blind (effect_stmt e atom from glo)
unfolding effect_stmt
effect-stmt-blind e atom h from glo =
    binds (start-blind e) (λ inside. thens (expect-blind e kind.Effect) (binds (ident-blind e) (λ name. binds (params-blind e atom h no_kids) (λ i. binds (returns-blind e atom h) (λ link. effect-record-blind from inside glo name i link)))))

-- recovery
module _ (e : Sheet) where
  skip-turn-blind : (end : ℕ) (a : Unit) → Blind (skip_turn e end a)
  unfolding skip_turn
  skip-turn-blind end a = chooses e (skip_cases e end) (gives & gives & gives & all) (thens (bump-blind e) gives)

  skip-blind : (end : ℕ) → Blind (skip e end)
  unfolding skip
  skip-blind end = loops (skip-turn-blind end) e tt

  pub skipped-blind : (end : ℕ) → Blind (skipped e end)
  unfolding skipped
  skipped-blind end = thens (skip-blind end) gives

  log-here-blind : Blind (log_here e)
  unfolding log_here
  log-here-blind = record { ends = λ m s w v h t. (log-blind (unexpected_at e s)).ends m s w v h t }

  line-end-blind : Blind (line_end e)
  unfolding line_end
  line-end-blind = recovers (expect-blind e kind.Eol) (λ _. gives) gives

  pub after-stmt-blind : (end : ℕ) (kids : Kids) (link : ℕ) → Blind (after_stmt e end kids link)
  unfolding after_stmt
  after-stmt-blind end kids link =
      binds (eat-blind e end) (λ closed. ifs closed (binds (add-some-blind kids link) (λ all. gives)) (binds (check-blind e kind.Eof) (λ over. ifs over
      (thens log-here-blind (binds (add-some-blind kids link) (λ all. gives)))
      (thens line-end-blind (thens (eat-eol-blind e) (binds (add-some-blind kids link) (λ longer. gives)))))))
