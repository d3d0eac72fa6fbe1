-- The records of expressions over what was read of them (docs/LAYOUT.md).
use Rattle.std.specs.Prelude.{ℕ, zero, suc, Bool, true, false, ltb, eqb}
use Rattle.cursor.specs.declared.Kids.{Kids}
use Rattle.cursor.specs.Sheet.{Ranged}
use Rattle.cursor.specs.Node as node
use Rattle.cursor.specs.Rule.{Rule, ◌>>=◌, give, Next, more}
use Rattle.cursor.specs.Records.{add, reflag, no_kids, flagged}
use Rattle.types.specs.declared.items.Items.{Items}
use Rattle.types.specs.Items.{close, over, add_some, is_ended}
use Rattle.types.specs.Patterns.{span_of}
use Rattle.parts.specs.declared.values.Called.{Called}
use Rattle.parts.specs.declared.values.Expr.{Expr}
use Rattle.parts.specs.declared.values.Expr.TheVariants as exprs
use Rattle.parts.specs.Forms as forms
use Rattle.parts.specs.Values.{link_of, member_of, uncounted}
use Rattle.parts.specs.When.{when}

-- a record over two children with one word of its own
unfoldable pub couple : ℕ → ℕ → ℕ → ℕ → ℕ → Rule ℕ
couple k from word a b = do
  one ← add no_kids a
  two ← add one b
  close k from word 0 0 two.first

-- a record over a counted row and one more child
unfoldable pub row_record : ℕ → ℕ → Kids → ℕ → Rule ℕ
row_record k from kids link = do
  all ← add kids link
  close k from 0 0 (flagged kids.count 0 false false) all.first

-- a record over the items of a list
unfoldable pub list_record : ℕ → ℕ → Items → Rule ℕ
list_record k from i = close k from 0 0 (flagged i.kids.count 0 false false) i.kids.first

-- perhaps a record of another kind over one alone: node.None is none
unfoldable pub wrapped : ℕ → ℕ → ℕ → Rule ℕ
wrapped zero from link = give link
wrapped (suc k) from link = over (suc k) from link

-- the record of a block over its statements
unfoldable pub block_record : ℕ → ℕ → ℕ → Kids → Rule ℕ
block_record inside wrap from row = do
  link ← close node.Block inside 0 0 (flagged row.count 0 false false) row.first
  wrapped wrap from link

-- the expression Fn over its name, where it has one, and its function; `glo` is words of it
unfoldable pub fn_record : ℕ → Ranged → ℕ → ℕ → Rule ℕ
fn_record from glo name link = do
  one ← add_some no_kids name
  two ← add one link
  close node.Fn from (span_of glo).start (span_of glo).end (flagged 0 0 (is_ended glo) (ltb 0 name)) two.first

-- which kind of function
abbrev pub function_kind : Bool → ℕ
function_kind true = node.Closure
function_kind false = node.Function

-- a function or a closure over its parameters, the type that it returns and its body
unfoldable pub function_record : ℕ → Bool → Items → ℕ → ℕ → Rule ℕ
function_record from closure i link body = do
  one ← add_some i.kids link
  two ← add one body
  close (function_kind closure) from 0 0 (flagged i.kids.count 0 (is_ended i.ended) (ltb 0 link)) two.first

-- a handler over the effect's name, its parameters and its body
unfoldable pub handler_record : ℕ → Items → ℕ → Rule ℕ
handler_record from i body = do
  all ← add i.kids body
  close node.EffectHandler from 0 0 (flagged i.kids.count 0 (is_ended i.ended) false) all.first

-- a Call's flags once its handlers are counted; its range does not grow
unfoldable pub handlers_flagged : ℕ → Called → ℕ → Rule Unit
handlers_flagged link called handlers = reflag link (flagged called.arguments handlers called.lambda false)

-- `if` over its test, its block and what stands behind `else`, where something does
unfoldable pub if_record : ℕ → Kids → ℕ → Rule ℕ
if_record from kids link = do
  all ← add_some kids link
  close node.If from 0 0 (flagged 0 0 (ltb 0 link) false) all.first

-- `while`, or `for` over its names, its expression and its block
unfoldable pub round_record : ℕ → ℕ → ℕ → Kids → Rule ℕ
round_record from which names kids = when (eqb which forms.While) (over node.While from kids.first) (close node.For from 0 0 (flagged names 0 false false) kids.first)

-- a Call over its callee, its arguments and its trailing lambda, where it has one; handlers may still join it
unfoldable pub call_record : ℕ → Kids → ℕ → Rule (Next Expr)
call_record from kids lambda = do
  all ← add_some kids lambda
  link ← close node.Call from 0 0 (flagged kids.count 0 (ltb 0 lambda) false) all.first
  give (more (exprs.Call link (record { kids = uncounted all; arguments = kids.count; lambda = ltb 0 lambda })))

-- a member of a kind over its table and its property, where it has one; `?` is words of it
unfoldable pub member_record : ℕ → Ranged → ℕ → Expr → ℕ → Rule (Next Expr)
member_record from safe member x link = do
  one ← add no_kids (link_of x)
  all ← add_some one link
  m ← close node.Member from (span_of safe).start (span_of safe).end (flagged member 0 (is_ended safe) false) all.first
  give (more (member_of x safe m))
