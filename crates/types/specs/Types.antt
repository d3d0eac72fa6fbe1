-- Types, typed names, parameters and return types.
use Rattle.std.specs.Prelude.{ℕ, zero, suc, List, [], ◌∷◌, Bool, true, false, ltb, eqb, Some}
use Rattle.kinds.specs.Number as kind
use Rattle.cursor.specs.declared.Kids.{Kids}
use Rattle.cursor.specs.Node as node
use Rattle.cursor.specs.Sheet.{Sheet}
use Rattle.cursor.specs.Rule.{Out, Rule, ◌>>=◌, ◌>>◌, give, refuse, if_so, more, stop, Turn, iterate}
use Rattle.cursor.specs.Checks.{check, eat, expect, Case, ◌⇒◌, choose}
use Rattle.cursor.specs.Tokens.{bump}
use Rattle.cursor.specs.Records.{no_link, add, no_kids, flagged}
use Rattle.types.specs.declared.items.Items.{Items}
use Rattle.types.specs.Lits.{lit, ident}
use Rattle.types.specs.ItemRules as items
use Rattle.types.specs.ItemRules.{by_rule}
use Rattle.types.specs.Items.{start, close, over, pair, add_some, is_ended, so, last_item, items_until_with_last}

-- a last item that is one more child: it is not counted
abbrev pub ended : Kids → Kids → Items
ended before after = record { kids = record { first = after.first; last = after.last; count = before.count }; ended = Some (record { start = 0; end = 0 }) }

-- how the last item of a list of each item rule starts, and how the list ends
unfoldable pub type_last_kind : ℕ → ℕ
type_last_kind rule = by_rule rule kind.Ellipsis kind.Ellipsis kind.OpenBracket kind.Ellipsis

unfoldable pub type_end : ℕ → ℕ
type_end rule = by_rule rule kind.CloseParen kind.VBar kind.CloseBrace kind.CloseParen

module _ (e : Sheet) where
  -- types in a row between bars
  unfoldable pub union_turn : Rule ℕ → Turn Kids
  union_turn atom kids = do
    bar ← eat e kind.VBar
    if_so (do
      t ← atom
      longer ← add kids t
      give (more longer))
        (give (stop kids)) bar

  -- a union is one record over its parts; a single part is not wrapped
  unfoldable pub union : Rule ℕ → ℕ → ℕ → Rule ℕ
  union atom from first = do
    kids ← add no_kids first
    all ← iterate e (union_turn atom) kids
    close node.Union from 0 0 (flagged all.count 0 false false) all.first

  -- parse_type
  unfoldable pub type : Rule ℕ → Rule ℕ
  type atom = do
    from ← start e
    first ← atom
    bar ← check e kind.VBar
    if_so (union atom from first) (give first) bar

  -- parse_returns: the link to the type, or none
  unfoldable pub returns : Rule ℕ → Rule ℕ
  returns atom = do
    arrow ← eat e kind.Arrow
    if_so (type atom) (give no_link) arrow

  -- the type of a name: in a closure's parameters an atom
  unfoldable pub named : Rule ℕ → Bool → Rule ℕ
  named atom = if_so atom (type atom)

  -- parse_typed_ident: without a type it is its name
  unfoldable pub typed_ident : Rule ℕ → Rule ℕ
  typed_ident ty = do
    from ← start e
    name ← ident e
    colon ← eat e kind.Colon
    if_so (do
      t ← ty
      pair node.TypedIdent from name t)
        (give name) colon

  -- a pair of a table type
  unfoldable pub table_ty_pair : Rule ℕ → Rule ℕ
  table_ty_pair atom = do
    from ← start e
    key ← ident e
    expect e kind.Colon
    value ← type atom
    pair node.TableTyPair from key value

  -- the other pairs of a table type
  unfoldable pub table_ty_other : Rule ℕ → Rule ℕ
  table_ty_other atom = do
    from ← start e
    expect e kind.OpenBracket
    key ← type atom
    expect e kind.CloseBracket
    expect e kind.Colon
    value ← type atom
    pair node.TableTyOther from key value

  -- an item by the name of its rule: a parameter, a closure's, a pair of a table type, a type
  unfoldable pub type_item : Rule ℕ → ℕ → Rule ℕ
  type_item atom rule s w = by_rule rule (typed_ident (named atom false) s w) (typed_ident (named atom true) s w) (table_ty_pair atom s w) (type atom s w)

  -- the last item of each: `...` and one more item; of a table type the other pairs
  unfoldable pub type_last_item : Rule ℕ → ℕ → Rule ℕ
  type_last_item atom rule s w = elim (eqb rule items.TableTyPairs) as (λ _. Out ℕ) [
    | true ↦ table_ty_other atom s w
    | false ↦ (do
      expect e kind.Ellipsis
      type_item atom rule) s w
  ]

  unfoldable pub type_last : Rule ℕ → ℕ → Items → Rule Items
  type_last atom rule i = do
    r ← type_last_item atom rule
    after ← add i.kids r
    give (ended i.kids after)

  -- the last item, and the end of the list
  unfoldable pub last_of : Rule ℕ → ℕ → Kids → Rule Items
  last_of atom rule kids = last_item e (type_last atom rule) (type_end rule) (so kids)

  unfoldable pub type_items : Rule ℕ → ℕ → Kids → Rule Items
  type_items atom rule kids = items_until_with_last e (type_item atom rule) (type_last_kind rule) (type_last atom rule) (type_end rule) kids

  -- a type in parentheses
  unfoldable pub type_paren : Rule ℕ → ℕ → Rule ℕ
  type_paren inner from = do
    bump e
    t ← type inner
    expect e kind.CloseParen
    kids ← add no_kids t
    over node.TyParen from kids.first

  unfoldable pub type_table : Rule ℕ → ℕ → Rule ℕ
  type_table inner from = do
    bump e
    i ← type_items inner items.TableTyPairs no_kids
    close node.TyTable from 0 0 (flagged i.kids.count 0 (is_ended i.ended) false) i.kids.first

  -- a function type: it has no opening parenthesis
  unfoldable pub type_function : Rule ℕ → ℕ → Rule ℕ
  type_function inner from = do
    bump e
    i ← type_items inner items.Types no_kids
    r ← returns inner
    kids ← add_some i.kids r
    close node.TyFunction from 0 0 (flagged i.kids.count 0 (is_ended i.ended) (ltb 0 r)) kids.first

  -- parse_type_atom, over the type atoms one level further in; its ways by the kind that each begins with
  abbrev pub type_cases : Rule ℕ → ℕ → List (Case ℕ)
  type_cases inner from =
      kind.OpenParen ⇒ type_paren inner from
      ∷ kind.Ident ⇒ ident e
      ∷ kind.OpenBrace ⇒ type_table inner from
      ∷ kind.Fn ⇒ type_function inner from
      ∷ []

  unfoldable pub type_atom : Rule ℕ → Rule ℕ
  type_atom inner = do
    from ← start e
    choose e (type_cases inner from) (lit e)

  -- type atoms with so many levels left: 9 where none is
  unfoldable pub atoms : ℕ → Rule ℕ
  atoms zero = refuse 9
  atoms (suc d) = type_atom (atoms d)

  -- parse_params and parse_closure_params
  unfoldable pub params : Rule ℕ → Kids → Rule Items
  params atom kids = do
    expect e kind.OpenParen
    type_items atom items.TypedIdents kids

  unfoldable pub closure_params : Rule ℕ → Kids → Rule Items
  closure_params atom kids = do
    expect e kind.VBar
    type_items atom items.AtomTypedIdents kids
