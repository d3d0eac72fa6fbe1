-- Effects: parse_effect_stmt.
use Rattle.std.specs.Prelude.{ℕ, false, ltb}
use Rattle.kinds.specs.Number as kind
use Rattle.cursor.specs.Sheet.{Ranged, Sheet}
use Rattle.cursor.specs.Node as node
use Rattle.cursor.specs.Rule.{Rule, ◌>>=◌, ◌>>◌}
use Rattle.cursor.specs.Checks.{expect}
use Rattle.cursor.specs.Records.{add, no_kids, flagged}
use Rattle.types.specs.declared.items.Items.{Items}
use Rattle.types.specs.Lits.{ident}
use Rattle.types.specs.Items.{start, close, add_some, is_ended}
use Rattle.types.specs.Types.{params, returns}
use Rattle.types.specs.Patterns.{span_of}

-- an effect over its parameters and the type that it returns, and the statement over its name and it
unfoldable pub effect_record : ℕ → ℕ → Ranged → ℕ → Items → ℕ → Rule ℕ
effect_record from inside glo name i link = do
  kids ← add_some i.kids link
  effect ← close node.Effect inside 0 0 (flagged i.kids.count 0 (is_ended i.ended) (ltb 0 link)) kids.first
  one ← add no_kids name
  two ← add one effect
  close node.ExprEffect from (span_of glo).start (span_of glo).end (flagged 0 0 (is_ended glo) false) two.first

-- parse_effect_stmt, and the statement that it is, perhaps behind `glo`: that one's range starts there, its effect's at `effect`
unfoldable pub effect_stmt : Sheet → Rule ℕ → ℕ → Ranged → Rule ℕ
effect_stmt e atom from glo = do
  inside ← start e
  expect e kind.Effect
  name ← ident e
  i ← params e atom no_kids
  link ← returns e atom
  effect_record from inside glo name i link
