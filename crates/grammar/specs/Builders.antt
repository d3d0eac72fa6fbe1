-- What the parts of a derivation are built into: trees with the kinds, ranges, words and flags of docs/LAYOUT.md.
use Rattle.std.specs.Prelude.{ℕ, ◌+◌, ◌*◌, ◌^◌, Bool, true, false, Some, None}
use Rattle.cursor.specs.declared.Span.{Span}
use Rattle.cursor.specs.Sheet.{Ranged}
use Rattle.cursor.specs.Node as node
use Rattle.cursor.specs.Tree.{Trees, none, join, tree}
use Rattle.cursor.specs.Tree as trees
use Rattle.cursor.specs.Records.{word32, flagged}
use Rattle.types.specs.Items.{is_ended}
use Rattle.types.specs.Patterns.{span_of as range_of}
use Rattle.grammar.specs.Places.{Place}

-- what a part becomes: its trees in a row (one for a value), how many of them are counted as items, and whether a last item stands behind
-- those, with its range where it is a bare `...`
pub record Shape : Type 0 where
  pub row : Trees
  pub count : ℕ
  pub last : Ranged

-- a row with nothing in it yet
abbrev pub blank : Shape
blank = record { row = none; count = 0; last = None }

-- a row of these, none of them an item
abbrev pub only : Trees → Shape
only t = record { row = t; count = 0; last = None }

-- a row that begins with these, and one more item of it
abbrev pub more : Shape → Shape → Shape
more so item = record { row = join so.row item.row; count = so.count + 1; last = so.last }

-- a row that begins with these, and its last item, which is not counted
abbrev pub ending : Shape → Shape → Shape
ending so item = record { row = join so.row item.row; count = so.count; last = item.last }

-- a last item: a value, or nothing but its range
abbrev pub marked : Trees → Span → Shape
marked t range = record { row = t; count = 0; last = Some range }

-- the range of a last item that is a value: that one's own record has it
abbrev pub unmarked : Span
unmarked = record { start = 0; end = 0 }

-- is there anything in a row?
abbrev pub some : Trees → Bool
some none = false
some (trees.node l ks ts) = true

-- a record from a start to the last token before a place: its kind, two words, flags and children
abbrev pub made : ℕ → ℕ → Place → ℕ → ℕ → ℕ → Trees → Shape
made k from q one two flags kids = only (tree (record { kind = k; start = from; end = q.prev; one = one; two = two; flags = flags }) kids)

-- a record with nothing of its own over one value, over two, and over a row of n
abbrev pub over : ℕ → ℕ → Place → Shape → Shape
over k from q a = made k from q 0 0 0 a.row

abbrev pub couple : ℕ → ℕ → Place → Shape → Shape → Shape
couple k from q a b = made k from q 0 0 0 (join a.row b.row)

abbrev pub row_over : ℕ → ℕ → Place → Shape → Shape
row_over k from q i = made k from q 0 0 (flagged i.count 0 false false) i.row

-- a record over a row of n, with more values behind it that are not counted
abbrev pub row_before : ℕ → ℕ → Place → Shape → Trees → Shape
row_before k from q i t = made k from q 0 0 (flagged i.count 0 false false) (join i.row t)

-- a row that may have a last item, which is a value
abbrev pub lasted_row : ℕ → ℕ → Place → Shape → Shape
lasted_row k from q i = made k from q 0 0 (flagged i.count 0 (is_ended i.last) false) i.row

-- a row that may have a last item; where that is a bare `...` its range is words of the record
abbrev pub ended_row : ℕ → ℕ → Place → Shape → Shape
ended_row k from q i = made k from q (range_of i.last).start (range_of i.last).end (flagged i.count 0 (is_ended i.last) false) i.row

-- parameters, perhaps a returned type, and what stands behind: of a function its body, of an effect or a function type nothing
abbrev pub signature : ℕ → ℕ → Place → Shape → Shape → Trees → Shape
signature k from q i r body = made k from q 0 0 (flagged i.count 0 (is_ended i.last) (some r.row)) (join i.row (join r.row body))

-- the expression Fn over its name, where it has one, and its function; `glo` is words of it
abbrev pub fn_over : ℕ → Place → Ranged → Trees → Shape → Shape
fn_over from q glo name f = made node.Fn from q (range_of glo).start (range_of glo).end (flagged 0 0 (is_ended glo) (some name)) (join name f.row)

-- the statement over an effect's name and the effect; `glo` is words of it
abbrev pub effect_over : ℕ → Place → Ranged → Shape → Shape
effect_over from q glo i = made node.ExprEffect from q (range_of glo).start (range_of glo).end (flagged 0 0 (is_ended glo) false) i.row

-- an import over its path's names and what it takes: how many items, and its form by two flags
abbrev pub import_over : ℕ → Place → Shape → Shape → Bool → Bool → Shape
import_over from q names items one two = made node.Import from q 0 0 (flagged names.count items.count one two) (join names.row items.row)

-- a Call over its callee, its arguments and its trailing lambda, where it has one
abbrev pub call_over : ℕ → Place → Shape → Shape → Trees → Shape
call_over from q callee i lambda = made node.Call from q 0 0 (flagged i.count 0 (some lambda) false) (join callee.row (join i.row lambda))

-- a member over its table and its property, where it has one; `?` is words of it
abbrev pub member_over : ℕ → Place → Ranged → ℕ → Shape → Shape → Shape
member_over from q safe n table property = made node.Member from q (range_of safe).start (range_of safe).end (flagged n 0 (is_ended safe) false) (join table.row property.row)

-- `if` over its test, its block and what stands behind `else`, where something does
abbrev pub if_over : ℕ → Place → Shape → Shape → Shape → Shape
if_over from q test body other = made node.If from q 0 0 (flagged 0 0 (some other.row) false) (join test.row (join body.row other.row))

-- a record with nothing of its own over a block, of the block's range: the Closure of a trailing lambda, the Expr of an else block
abbrev pub covered : ℕ → Trees → Trees
covered k none = none
covered k (trees.node l ks ts) = tree (record { kind = k; start = l.start; end = l.end; one = 0; two = 0; flags = 0 }) (tree l ks)

-- the handlers of a `try` join the Call: they are its last children, its flags count them, and its range does not grow
abbrev pub handled : Trees → Shape → Trees
handled none i = none
handled (trees.node l ks ts) i =
    tree (record { kind = l.kind; start = l.start; end = l.end; one = l.one; two = l.two; flags = word32 (l.flags + 2 ^ 15 * i.count) }) (join ks i.row)

-- a handler over the effect's name, its parameters and its body
abbrev pub handler_over : ℕ → Place → Shape → Shape → Shape → Shape
handler_over from q name i body = made node.EffectHandler from q 0 0 (flagged i.count 0 (is_ended i.last) false) (join name.row (join i.row body.row))

-- several left sides over as many right sides
abbrev pub several_over : ℕ → Place → Shape → Shape → Shape
several_over from q lefts rights = made node.AssignMulti from q 0 0 (flagged lefts.count rights.count false false) (join lefts.row rights.row)
