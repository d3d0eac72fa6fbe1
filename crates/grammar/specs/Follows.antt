-- A sheet that follows the grammar, and its tree.
use Rattle.std.specs.Prelude.{ℕ, max, ◌≡◌, List, [], false}
use Rattle.kinds.specs.Number as kind
use Rattle.cursor.specs.Node as node
use Rattle.cursor.specs.Tree.{Trees, tree}
use Rattle.cursor.specs.Records.{flagged}
use Rattle.grammar.specs.Places.{Place, before, opening}
use Rattle.grammar.specs.Symbols.{Exprs}
use Rattle.grammar.specs.Derives.{Derives}
use Rattle.grammar.specs.Builders.{Shape, blank}
use Rattle.grammar.specs.Shape.{shape}

-- the tokens of a sheet that are no trivia are statements up to the end of input, and nothing is left of them
pub record Follows (text tokens : List ℕ) : Type 0 where
  pub end : Place
  pub body : Derives text (Exprs kind.Eof) (before tokens) end
  pub whole : end.rest ≡ []

-- the program starts at the first token, trivia too, and ends where the last token ends that is none; a list of trivia only is an empty
-- program at its start
abbrev pub program_over : ℕ → Place → Shape → Trees
program_over from q i = tree (record { kind = node.Program; start = from; end = max from q.prev; one = 0; two = 0; flags = flagged i.count 0 false false }) i.row

-- the tree of a sheet that follows the grammar
unfoldable pub tree_of : {text tokens : List ℕ} → Follows text tokens → Trees
tree_of {tokens = tokens} f = program_over (opening tokens) f.end (shape f.body 0 blank)
