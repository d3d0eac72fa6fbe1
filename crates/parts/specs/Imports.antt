-- The statement `import`, as parse_stmt reads it.
use Rattle.std.specs.Prelude.{ℕ, List, [], ◌∷◌, Bool, true, false}
use Rattle.kinds.specs.Number as kind
use Rattle.cursor.specs.declared.Kids.{Kids}
use Rattle.cursor.specs.Node as node
use Rattle.cursor.specs.Sheet.{Sheet}
use Rattle.cursor.specs.Rule.{Rule, ◌>>=◌, ◌>>◌, give, if_so, Next, more, stop, Turn, iterate}
use Rattle.cursor.specs.Tokens.{bump}
use Rattle.cursor.specs.Checks.{check, eat, Case, ◌⇒◌, choose, unexpected}
use Rattle.cursor.specs.Records.{add, no_kids, flagged}
use Rattle.types.specs.declared.items.Items.{Items}
use Rattle.types.specs.Lits.{ident}
use Rattle.types.specs.Items.{start, close, over}
use Rattle.parts.specs.declared.imports.Imported.{Imported}
use Rattle.parts.specs.Answers.{on_path}
use Rattle.parts.specs.Values.{uncounted}
use Rattle.parts.specs.Until.{items_until}

-- what an import names: the row of its path's names, then the alias or the items; how many names and items there are; and its form
abbrev pub imported : Kids → ℕ → ℕ → Bool → Bool → Imported
imported kids names items one two = record { kids = kids; names = names; items = items; one = one; two = two }

module _ (e : Sheet) where
  -- an item of a nested import: a name, perhaps with an alias
  unfoldable pub import_item : Rule ℕ
  import_item = do
    from ← start e
    name ← ident e
    other ← eat e kind.As
    if_so (do
      alias ← ident e
      one ← add no_kids name
      two ← add one alias
      close node.ImportItem from 0 0 (flagged 0 0 true false) two.first)
        (over node.ImportItem from name) other

  unfoldable pub import_items : Kids → Rule Items
  import_items kids = items_until e import_item kind.CloseBrace kids

  -- an import of a path alone, of a path under another name, of items of a path, and of all that it has
  unfoldable pub import_simple : Kids → Rule (Next Imported)
  import_simple kids = give (stop (imported kids kids.count 0 false false))

  unfoldable pub import_alias : Kids → Rule (Next Imported)
  import_alias kids = do
    bump e
    alias ← ident e
    longer ← add kids alias
    give (stop (imported longer kids.count 0 true false))

  unfoldable pub import_nested : Kids → Rule (Next Imported)
  import_nested kids = do
    bump e
    i ← import_items (uncounted kids)
    give (stop (imported i.kids kids.count i.kids.count false true))

  unfoldable pub import_glob : Kids → Rule (Next Imported)
  import_glob kids = do
    bump e
    give (stop (imported kids kids.count 0 true true))

  -- a simple import needs Eol or `as` behind it
  abbrev pub end_cases : Kids → List (Case (Next Imported))
  end_cases kids = kind.Eol ⇒ import_simple kids ∷ kind.As ⇒ import_alias kids ∷ []

  unfoldable pub import_end : Kids → Rule (Next Imported)
  import_end kids = choose e (end_cases kids) (unexpected e)

  -- a path that ends in `::`
  abbrev pub tail_cases : Kids → List (Case (Next Imported))
  tail_cases kids = kind.OpenBrace ⇒ import_nested kids ∷ kind.Mul ⇒ import_glob kids ∷ []

  unfoldable pub import_tail : Kids → Rule (Next Imported)
  import_tail kids = choose e (tail_cases kids) (unexpected e)

  -- one name of the path, and what follows it
  unfoldable pub path_turn : Turn Imported
  path_turn i = do
    name ← ident e
    longer ← add i.kids name
    deeper ← eat e kind.DoubleColon
    if_so (do
      another ← check e kind.Ident
      if_so (give (more (on_path longer))) (import_tail longer) another)
        (import_end longer) deeper

  unfoldable pub import_stmt : ℕ → Rule ℕ
  import_stmt from = do
    bump e
    i ← iterate e path_turn (on_path no_kids)
    close node.Import from 0 0 (flagged i.names i.items i.one i.two) i.kids.first
