-- The forms of an atom by name, for the code: the place of each kind in the chain of parse_expr_atom. That they are the places of those kinds is `forms-placed`
-- (crates/rules/proofs/Placed.antt). Likewise how a member begins, and what a list of expressions holds.
use Rattle.std.specs.Prelude.{◌≡◌, ℕ, ◌≤◌, Option, Some, None}
use Rattle.parts.specs.declared.forms.Form.{Form}
use Rattle.parts.specs.declared.forms.Form.TheVariants as variants
use Rattle.parts.specs.declared.forms.Opening.{Opening}
use Rattle.parts.specs.declared.forms.Opening.TheVariants as openings
use Rattle.parts.specs.declared.forms.ItemRule.{ItemRule}
use Rattle.parts.specs.declared.forms.ItemRule.TheVariants as lists

abbrev pub OpenParen : ℕ
OpenParen = 0

abbrev pub Ident : ℕ
Ident = 1

abbrev pub OpenBrace : ℕ
OpenBrace = 2

abbrev pub OpenBracket : ℕ
OpenBracket = 3

abbrev pub Fn : ℕ
Fn = 4

abbrev pub VBar : ℕ
VBar = 5

abbrev pub Do : ℕ
Do = 6

abbrev pub If : ℕ
If = 7

abbrev pub Match : ℕ
Match = 8

abbrev pub Loop : ℕ
Loop = 9

abbrev pub While : ℕ
While = 10

abbrev pub For : ℕ
For = 11

abbrev pub Break : ℕ
Break = 12

abbrev pub Continue : ℕ
Continue = 13

abbrev pub Return : ℕ
Return = 14

-- the place of a form
abbrev pub place : Form → ℕ
place variants.OpenParen = OpenParen
place variants.Ident = Ident
place variants.OpenBrace = OpenBrace
place variants.OpenBracket = OpenBracket
place variants.Fn = Fn
place variants.VBar = VBar
place variants.Do = Do
place variants.If = If
place variants.Match = Match
place variants.Loop = Loop
place variants.While = While
place variants.For = For
place variants.Break = Break
place variants.Continue = Continue
place variants.Return = Return

-- what stands at a place: that form, and past the end of the chain none
abbrev pub Stands : ℕ → Option Form → Type 0
Stands n (Some f) = n ≡ place f
Stands n None = 15 ≤ n

-- the place of a member's opening token among `[`, `.` and `::`
abbrev pub opens : Opening → ℕ
opens openings.Bracket = 0
opens openings.Dot = 1
opens openings.DoubleColon = 2

abbrev pub Opens : ℕ → Option Opening → Type 0
Opens n (Some o) = n ≡ opens o
Opens n None = 3 ≤ n

-- the number of an item rule: `Arguments`, `Elements` and `Properties` of Steps
abbrev pub item_rule : ItemRule → ℕ
item_rule lists.Arguments = 0
item_rule lists.Elements = 1
item_rule lists.Properties = 2
