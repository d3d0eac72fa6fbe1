-- What an expression answers, as far as a rule asks.
use Rattle.std.specs.Prelude.{ℕ, true, false, eqb, Option, Some, None}
use Rattle.cursor.specs.declared.Kids.{Kids}
use Rattle.cursor.specs.Sheet.{Ranged}
use Rattle.parts.specs.declared.values.Expr.{Expr}
use Rattle.parts.specs.declared.values.Expr.TheVariants as exprs
use Rattle.parts.specs.Forms as forms

-- the link to its record
abbrev pub link_of : Expr → ℕ
link_of (exprs.Name link) = link
link_of (exprs.NameMember link) = link
link_of (exprs.Call link called) = link
link_of (exprs.Other link) = link

-- expr_to_assign_left: a name, or a member of a name without `?`, takes over its record
abbrev pub to_assign_left : Expr → Option ℕ
to_assign_left (exprs.Name link) = Some link
to_assign_left (exprs.NameMember link) = Some link
to_assign_left (exprs.Call link called) = None
to_assign_left (exprs.Other link) = None

-- an atom as an expression, by its form: an Ident is a plain name
abbrev pub atom_expr : ℕ → ℕ → Expr
atom_expr which link = elim (eqb which forms.Ident) as (λ _. Expr) [ true ↦ exprs.Name link | false ↦ exprs.Other link ]

-- a member as an expression: on a plain name and without `?` it may be assigned to
abbrev pub member_of : Expr → Ranged → ℕ → Expr
member_of x (Some r) link = exprs.Other link
member_of (exprs.Name n) None link = exprs.NameMember link
member_of (exprs.NameMember n) None link = exprs.Other link
member_of (exprs.Call n called) None link = exprs.Other link
member_of (exprs.Other n) None link = exprs.Other link

-- a row that begins with a child which is not counted
abbrev pub row_of : ℕ → Kids
row_of link = record { first = link; last = link; count = 0 }

-- a row that begins with one counted child
abbrev pub row_with : ℕ → Kids
row_with link = record { first = link; last = link; count = 1 }

-- a row whose children so far are not counted
abbrev pub uncounted : Kids → Kids
uncounted kids = record { first = kids.first; last = kids.last; count = 0 }
