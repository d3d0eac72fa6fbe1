-- What the lists, imports, effects and the skipping of parts add to the live list.
use mathlib.Core.Path.{refl}
use Prim.Native.Nat.{ℕ}
use Rattle.kinds.specs.Number as kind
use Rattle.cursor.specs.declared.Kids.{Kids}
use Rattle.cursor.specs.Sheet.{Ranged, Sheet}
use Rattle.cursor.specs.Node as node
use Rattle.cursor.specs.Rule.{Rule}
use Rattle.cursor.specs.Records.{no_kids}
use Rattle.types.specs.declared.items.Items.{Items}
use Rattle.types.specs.Items.{so}
use Rattle.parts.specs.declared.imports.Imported.{Imported}
use Rattle.parts.specs.Answers.{on_path}
use Rattle.parts.specs.Values.{uncounted}
use Rattle.parts.specs.Until.{until_turn, items_until}
use Rattle.parts.specs.Imports.{import_item, import_items, import_simple, import_alias, import_nested, import_glob, import_end, import_tail, path_turn, import_stmt}
use Rattle.parts.specs.Effects.{effect_record, effect_stmt}
use Rattle.live.proofs.Live.{Adds, Takes, Turns, adds, takes, fits, forget, gives, stops, ifs}
use Rattle.live.proofs.Together.{binds, onto, after, loops}
use Rattle.live.proofs.Cursor.{asks, bump-bounded, check-bounded, eat-bounded, expect-bounded, unexpected-bounded, otherwise, ◌&◌, chooses, eat-eol-bounded, add-bounded}
use Rattle.live.proofs.Items.{Item, as-item, start-bounded, close-bounded, add-some-bounded, one-item-bounded, ident-bounded}
use Rattle.live.proofs.Types.{Atom, params-bounded, returns-bounded}

module _ {e : Sheet} {N : ℕ} where
  -- lists of items
  module _ {item : Rule ℕ} (x : Item e N item) (end : ℕ) where
    until-turn-bounded : (i : Items) → Turns e N 21 0 34 42 112 (until_turn e item end i)
    unfolding until_turn
    until-turn-bounded i = fits (asks (eat-bounded end) gives (one-item-bounded x end i)) refl refl refl refl refl

    pub items-until-bounded : (kids : Kids) → Adds e N 21 34 42 112 (items_until e item end kids)
    unfolding items_until
    items-until-bounded kids = adds (binds eat-eol-bounded (λ _. loops until-turn-bounded e (so kids))) refl refl refl refl

  -- imports
  import-item-bounded : Takes e N 1 1 1 1 (import_item e)
  unfolding import_item
  import-item-bounded =
      takes (binds start-bounded (λ from. after ident-bounded (λ name. asks (eat-bounded kind.As)
      (after ident-bounded (λ alias. binds (add-bounded no_kids name) (λ one. binds (add-bounded one alias) (λ two. close-bounded node.ImportItem from 0 0 _ two.first))))
      (close-bounded node.ImportItem from 0 0 0 name)))) refl refl refl refl

  import-items-bounded : (kids : Kids) → Adds e N 21 34 42 112 (import_items e kids)
  unfolding import_items
  import-items-bounded kids = adds (items-until-bounded (as-item import-item-bounded refl refl refl refl) kind.CloseBrace kids) refl refl refl refl

  import-simple-bounded : (kids : Kids) → Turns e N 0 0 0 0 0 (import_simple e kids)
  unfolding import_simple
  import-simple-bounded kids = stops

  import-alias-bounded : (kids : Kids) → Turns e N 0 1 1 1 1 (import_alias e kids)
  unfolding import_alias
  import-alias-bounded kids = fits (after bump-bounded (λ _. after ident-bounded (λ alias. binds (add-bounded kids alias) (λ longer. gives)))) refl refl refl refl refl

  import-nested-bounded : (kids : Kids) → Turns e N 0 34 34 42 112 (import_nested e kids)
  unfolding import_nested
  import-nested-bounded kids = fits (after bump-bounded (λ _. binds (import-items-bounded (uncounted kids)) (λ i. gives))) refl refl refl refl refl

  import-glob-bounded : (kids : Kids) → Turns e N 0 0 0 0 0 (import_glob e kids)
  unfolding import_glob
  import-glob-bounded kids = fits (after bump-bounded (λ _. gives)) refl refl refl refl refl

  import-end-bounded : (kids : Kids) → Turns e N 2 1 2 2 2 (import_end e kids)
  unfolding import_end
  import-end-bounded kids = fits (chooses (import-simple-bounded kids & import-alias-bounded kids & otherwise unexpected-bounded)) refl refl refl refl refl

  import-tail-bounded : (kids : Kids) → Turns e N 2 34 34 42 112 (import_tail e kids)
  unfolding import_tail
  import-tail-bounded kids = fits (chooses (import-nested-bounded kids & import-glob-bounded kids & otherwise unexpected-bounded)) refl refl refl refl refl

  path-turn-bounded : (i : Imported) → Turns e N 1 34 34 42 112 (path_turn e i)
  unfolding path_turn
  path-turn-bounded i =
      fits (after ident-bounded (λ name. binds (add-bounded i.kids name) (λ longer. asks (eat-bounded kind.DoubleColon)
      (binds (check-bounded kind.Ident) (λ another. ifs another gives (forget (import-tail-bounded longer))))
      (forget (import-end-bounded longer))))) refl refl refl refl refl

  pub import-stmt-bounded : (from : ℕ) → Takes e N 0 35 42 112 (import_stmt e from)
  unfolding import_stmt
  import-stmt-bounded from = takes (after bump-bounded (λ _. binds (loops path-turn-bounded e (on_path no_kids)) (λ i. close-bounded node.Import from 0 0 _ i.kids.first))) refl refl refl refl

  -- effects
  effect-record-bounded : (from inside : ℕ) (glo : Ranged) (name : ℕ) (i : Items) (link : ℕ) → Adds e N 0 0 0 0 (effect_record from inside glo name i link)
  unfolding effect_record
  effect-record-bounded from inside glo name i link =
      adds (binds (add-some-bounded i.kids link) (λ kids. binds (close-bounded node.Effect inside 0 0 _ kids.first) (λ effect. binds (add-bounded no_kids name) (λ one. binds (add-bounded one effect) (λ two. close-bounded node.ExprEffect from _ _ _ two.first))))) refl refl refl refl

  pub effect-stmt-bounded : {atom : Rule ℕ} → Atom e N atom → (from : ℕ) (glo : Ranged) → Takes e N 1 35 42 112 (effect_stmt e atom from glo)
  unfolding effect_stmt
  effect-stmt-bounded x from glo =
      takes (binds start-bounded (λ inside. onto (expect-bounded kind.Effect) (λ _. onto ident-bounded (λ name. after (params-bounded x no_kids) (λ i. binds (returns-bounded x) (λ link. effect-record-bounded from inside glo name i link)))))) refl refl refl refl
