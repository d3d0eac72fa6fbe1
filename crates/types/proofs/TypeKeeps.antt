-- What the rules on types keep, and that the turns of their loops take tokens.
use mathlib.Core.Path.{refl}
use mathlib.Core.Bool.{Bool, true, false}
use Prim.Native.Nat.{ℕ, zero, suc}
use lib.Dec.{eqb}
use Rattle.kinds.specs.Number as kind
use Rattle.cursor.specs.declared.Kids.{Kids}
use Rattle.cursor.specs.Node as node
use Rattle.cursor.specs.Sheet.{Sheet}
use Rattle.cursor.specs.Rule.{Rule}
use Rattle.cursor.specs.Records.{no_kids}
use Rattle.cursor.proofs.Loops.{Takes}
use Rattle.cursor.proofs.Chosen.{all, ◌&◌}
use Rattle.cursor.proofs.Keeps.{Mark, Keeps, Nexts, EndsFrom, gives, refuses, ifs, eases, binds, thens, loops}
use Rattle.cursor.proofs.Kept.{bump-keeps, check-keeps, eat-keeps, expect-keeps, chooses, add-keeps, Mine, nothing, Fresh, RowFor, fresh-mine, ground-mine}
use Rattle.cursor.proofs.Spends.{takes, spares, if-spends}
use Rattle.cursor.proofs.Spent.{eat-spends}
use Rattle.types.specs.declared.items.Items.{Items}
use Rattle.types.specs.Items.{item_turn}
use Rattle.types.specs.ItemRules.{by_rule}
use Rattle.types.specs.Types.{union_turn, union, type, returns, named, typed_ident, table_ty_pair, table_ty_other, type_item, type_last_kind, type_end, type_last_item, type_last, type_items, type_paren, type_table, type_function, type_cases, type_atom, atoms, params, closure_params}
use Rattle.types.proofs.ItemKeeps.{ItemsFor, start-keeps, close-keeps, pair_keeps, add-some-keeps, lit-keeps, ident-keeps, items_keep, items-take}

-- one of four
pub picked : {A : Type 0} (P : A → Type 0) (k : ℕ) {a b c d : A} → P a → P b → P c → P d → P (by_rule k a b c d)
picked P zero p q r t = p
picked P (suc zero) p q r t = q
picked P (suc (suc zero)) p q r t = r
picked P (suc (suc (suc n))) p q r t = t

module _ {m : Mark} (e : Sheet) (atom : Rule ℕ) (keeps : Keeps m (Fresh m) atom) where
  union-turn-keeps : (kids : Kids) → RowFor m kids → Keeps m (Nexts (RowFor m)) (union_turn e atom kids)
  unfolding union_turn
  union-turn-keeps kids h = binds (eat-keeps e kind.VBar) (λ b _. ifs b (binds keeps (λ t f. binds (add-keeps kids t h (fresh-mine t f)) (λ longer g. gives g))) (gives h))

  pub union-keeps : (from first : ℕ) → Fresh m first → Keeps m (Fresh m) (union e atom from first)
  unfolding union
  union-keeps from first f = binds (add-keeps no_kids first nothing (fresh-mine first f)) (λ kids h. binds (loops union-turn-keeps e h) (λ all g. close-keeps e node.Union from 0 0 _ all.first))

  pub type-keeps : Keeps m (Fresh m) (type e atom)
  unfolding type
  type-keeps = binds (start-keeps e) (λ from _. binds keeps (λ first f. binds (check-keeps e kind.VBar) (λ b _. ifs b (union-keeps from first f) (gives f))))

  pub returns-keeps : Keeps m (Mine m) (returns e atom)
  unfolding returns
  returns-keeps = binds (eat-keeps e kind.Arrow) (λ b _. ifs b (eases type-keeps fresh-mine) (gives nothing))

  named-keeps : (b : Bool) → Keeps m (Fresh m) (named e atom b)
  unfolding named
  named-keeps b = ifs b keeps type-keeps

  pub typed-keeps : (b : Bool) → Keeps m (Fresh m) (typed_ident e (named e atom b))
  unfolding typed_ident
  typed-keeps b = binds (start-keeps e) (λ from _. binds (ident-keeps e) (λ name f. binds (eat-keeps e kind.Colon) (λ c _. ifs c (binds (named-keeps b) (λ t g. pair_keeps e node.TypedIdent from name t f g)) (gives f))))

  table-pair-keeps : Keeps m (Fresh m) (table_ty_pair e atom)
  unfolding table_ty_pair
  table-pair-keeps = binds (start-keeps e) (λ from _. binds (ident-keeps e) (λ key f. thens (expect-keeps e kind.Colon) (binds type-keeps (λ value g. pair_keeps e node.TableTyPair from key value f g))))

  table-other-keeps : Keeps m (Fresh m) (table_ty_other e atom)
  unfolding table_ty_other
  table-other-keeps =
      binds (start-keeps e) (λ from _. thens (expect-keeps e kind.OpenBracket) (binds type-keeps (λ key f. thens (expect-keeps e kind.CloseBracket) (thens (expect-keeps e kind.Colon) (binds type-keeps (λ value g. pair_keeps e node.TableTyOther from key value f g))))))

  pub item-keeps : (k : ℕ) → Keeps m (Fresh m) (type_item e atom k)
  unfolding type_item
  item-keeps k = record { ends = λ s w h. picked (EndsFrom m (Fresh m) s w) k ((typed-keeps false).ends s w h) ((typed-keeps true).ends s w h) (table-pair-keeps.ends s w h) (type-keeps.ends s w h) }

  last-item-keeps : (k : ℕ) → Keeps m (Fresh m) (type_last_item e atom k)
  unfolding type_last_item
  last-item-keeps k = record { ends = λ s w h. (ifs (eqb k 2) table-other-keeps (thens (expect-keeps e kind.Ellipsis) (item-keeps k))).ends s w h }

  last-keeps : (k : ℕ) (i : Items) → ItemsFor m i → Keeps m (ItemsFor m) (type_last e atom k i)
  unfolding type_last
  last-keeps k i h = binds (last-item-keeps k) (λ r f. binds (add-keeps i.kids r h (fresh-mine r f)) (λ after g. gives g))

  pub type-items-keep : (k : ℕ) (kids : Kids) → RowFor m kids → Keeps m (ItemsFor m) (type_items e atom k kids)
  unfolding type_items
  type-items-keep k kids h = items_keep e (type_item e atom k) (type_last_kind k) (type_last e atom k) (type_end k) (item-keeps k) (last-keeps k) kids h

  paren-keeps : (from : ℕ) → Keeps m (Fresh m) (type_paren e atom from)
  unfolding type_paren
  paren-keeps from = thens (bump-keeps e) (binds type-keeps (λ t f. thens (expect-keeps e kind.CloseParen) (binds (add-keeps no_kids t nothing (fresh-mine t f)) (λ kids _. close-keeps e node.TyParen from 0 0 0 kids.first))))

  table-keeps : (from : ℕ) → Keeps m (Fresh m) (type_table e atom from)
  unfolding type_table
  table-keeps from = thens (bump-keeps e) (binds (type-items-keep 2 no_kids nothing) (λ i _. close-keeps e node.TyTable from 0 0 _ i.kids.first))

  function-keeps : (from : ℕ) → Keeps m (Fresh m) (type_function e atom from)
  unfolding type_function
  function-keeps from =
      thens (bump-keeps e) (binds (type-items-keep 3 no_kids nothing) (λ i h. binds returns-keeps (λ r g. binds (add-some-keeps e i.kids r h g) (λ kids _. close-keeps e node.TyFunction from 0 0 _ kids.first))))

  pub atom-keeps : Keeps m (Fresh m) (type_atom e atom)
  unfolding type_atom
  atom-keeps = binds (start-keeps e) (λ from _. chooses e (type_cases e atom from) (paren-keeps from & ident-keeps e & table-keeps from & function-keeps from & all) (lit-keeps e))

  pub params-keep : (kids : Kids) → RowFor m kids → Keeps m (ItemsFor m) (params e atom kids)
  unfolding params
  params-keep kids h = thens (expect-keeps e kind.OpenParen) (type-items-keep 0 kids h)

  pub closure-params-keep : (kids : Kids) → RowFor m kids → Keeps m (ItemsFor m) (closure_params e atom kids)
  unfolding closure_params
  closure-params-keep kids h = thens (expect-keeps e kind.VBar) (type-items-keep 1 kids h)

pub atoms-keep : {m : Mark} (e : Sheet) (d : ℕ) → Keeps m (Fresh m) (atoms e d)
unfolding atoms
atoms-keep e zero = refuses
atoms-keep e (suc d) = atom-keeps e (atoms e d) (atoms-keep e d)

-- the turns of the two loops take tokens
module _ (e : Sheet) (d : ℕ) where
  pub union-takes : Takes e (union_turn e (atoms e d))
  unfolding union_turn
  union-takes = takes (λ kids. if-spends (eat-keeps e kind.VBar) (eat-spends kind.VBar refl) (binds (atoms-keep e d) (λ t _. binds (add-keeps kids t (ground-mine _) (ground-mine t)) (λ longer _. gives tt))) (spares (λ x. x)))

  pub type-items-take : (k end : ℕ) → Takes e (item_turn e (type_item e (atoms e d) k) (type_last_kind k) (type_last e (atoms e d) k) end)
  type-items-take k end = items-take e (type_item e (atoms e d) k) (type_last_kind k) (type_last e (atoms e d) k) end (eases (item-keeps e (atoms e d) (atoms-keep e d) k) (λ _ _. tt)) (λ i. eases (last-keeps e (atoms e d) (atoms-keep e d) k i (ground-mine _)) (λ _ _. tt))
