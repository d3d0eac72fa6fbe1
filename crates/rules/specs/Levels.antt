-- The knot: the rules on expressions with so many levels left, and a whole sheet.
use Rattle.std.specs.Prelude.{ℕ, zero, suc, max, Bool, false}
use Rattle.kinds.specs.Number as kind
use Rattle.cursor.specs.declared.Kids.{Kids}
use Rattle.cursor.specs.Node as node
use Rattle.cursor.specs.Sheet.{Sheet}
use Rattle.cursor.specs.Rule.{Rule, ◌>>=◌, refuse}
use Rattle.cursor.specs.Records.{append, flagged}
use Rattle.types.specs.Items.{start}
use Rattle.types.specs.Types.{atoms}
use Rattle.types.specs.Patterns.{patterns}
use Rattle.parts.specs.declared.values.Expr.{Expr}
use Rattle.rules.specs.Inner.{Inner}
use Rattle.rules.specs.Precedence.{precedence}
use Rattle.rules.specs.Exprs.{exprs}

-- the two rules of this crate that use up a level
pub record Knot : Type 0 where
  pub exprs : ℕ → Rule Kids
  pub prec : ℕ → Bool → Rule Expr

-- what the rules are handed that have so many levels left
abbrev pub within : Sheet → ℕ → Knot → Inner
within e d k = record { sheet = e; exprs = k.exprs; prec = k.prec; type_atom = atoms e d; pattern = patterns e d }

abbrev pub tie : Inner → Knot
tie r = record { exprs = exprs r; prec = precedence r }

-- with so many levels left: 9 where none is
unfoldable pub knot : Sheet → ℕ → Knot
knot e zero = record { exprs = λ end. refuse 9; prec = λ min lambda. refuse 9 }
knot e (suc d) = tie (within e d (knot e d))

abbrev pub levels : Sheet → ℕ → Inner
levels e d = within e d (knot e d)

-- the record of the program, which ends where the last token read does; a list of trivia only is an empty program at its start
unfoldable pub program_record : ℕ → Kids → Rule ℕ
program_record from row s w = append (record { kind = node.Program; start = from; end = max from s.prev; one = 0; two = 0; flags = flagged row.count 0 false false }) row.first s w

-- parse: the statements up to the end of input; the program's record is its function's and its body's too
unfoldable pub program : Inner → Rule ℕ
program r = do
  from ← start r.sheet
  row ← r.exprs kind.Eof
  program_record from row
