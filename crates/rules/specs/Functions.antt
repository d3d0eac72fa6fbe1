-- Functions: parse_function, and what parse_function_stmt and `glo fn` share.
use Rattle.std.specs.Prelude.{ℕ, Bool, false}
use Rattle.kinds.specs.Number as kind
use Rattle.cursor.specs.Sheet.{Ranged}
use Rattle.cursor.specs.Node as node
use Rattle.cursor.specs.Rule.{Rule, ◌>>=◌, ◌>>◌}
use Rattle.cursor.specs.Checks.{expect}
use Rattle.types.specs.Lits.{ident}
use Rattle.types.specs.Types.{returns}
use Rattle.rules.specs.Inner.{Inner}
use Rattle.parts.specs.Records.{fn_record, function_record}
use Rattle.parts.specs.Steps.{any_params}
use Rattle.rules.specs.Blocks.{block}

module _ (r : Inner) where
  -- parse_function, and the same of a closure
  unfoldable pub function : ℕ → Bool → Rule ℕ
  function from closure = do
    i ← any_params r.sheet r.type_atom closure
    link ← returns r.sheet r.type_atom
    body ← block r node.None
    function_record from closure i link body

  -- a named function from `fn` on, also behind `glo`
  unfoldable pub named_function : ℕ → Ranged → Rule ℕ
  named_function from glo = do
    expect r.sheet kind.Fn
    name ← ident r.sheet
    link ← function from false
    fn_record from glo name link
