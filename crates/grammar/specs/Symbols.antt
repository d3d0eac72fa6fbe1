-- The symbols of the grammar, named after the functions of parser.rs.
use Rattle.std.specs.Prelude.{ℕ, Bool}

-- What an expression is, as far as a production asks: a plain name; a member of a plain name without `?`; a Call; anything else. A Colon
-- asks for the first, an assignment for one of the first two, `try` for the third.
pub data Form : Type 0 where
  Name NameMember Call Other : Form

-- a member as an expression: on a plain name, without `?`, it may be assigned to
abbrev pub member_of : Form → Form
member_of Name = NameMember
member_of NameMember = Other
member_of Call = Other
member_of Other = Other

-- what may be assigned to
pub data Assignable : Form → Type 0 where
  a-name : Assignable Name
  a-member : Assignable NameMember

-- A Bool says whether a trailing lambda is taken. A level of operators, 1 or more, is the least that they may have: the number that
-- parse_expr_precedence is called with.
pub data Sym : Type 0 where
  -- helpers: all Eols here; a list of items behind its opening token, from behind its Eols on, with the symbols of an item and of a last
  -- item and the kind that closes it
  Eols : Sym
  Until Items : Sym → Sym → ℕ → Sym
  -- last items: none; `...`; `...` with an item
  NoLast Dots : Sym
  Rest : Sym → Sym
  -- literals and names
  Lit Ident : Sym
  -- types. Others is the last item of a table type, Typed a name with or without a type of that symbol
  Ty TyAtom Bars TyPair Others Returns : Sym
  Typed : Sym → Sym
  -- patterns
  Pattern PatternPair : Sym
  -- statements up to a kind: with the Eols before them, and from the first one on
  Exprs Stmts : ℕ → Sym
  Block Stmt : Sym
  -- parts of statements: an effect; an import from its path on, and its items; further left sides, and right sides, so many of them
  Effect Path ImportItem : Sym
  Lefts Rights : ℕ → Sym
  -- parameters and functions; true for those of a closure
  Params Function : Bool → Sym
  -- expressions: of any form; with operators of a level or higher; operators behind what is read already, from one form to another; unary forms
  Expr : Bool → Sym
  Prec : ℕ → Bool → Form → Sym
  Ops : ℕ → Bool → Form → Form → Sym
  Unary : Bool → Form → Sym
  Handler Handlers : Sym
  -- calls and members: the whole; those behind what is read already; a member by its number in docs/LAYOUT.md
  Primary : Bool → Form → Sym
  Posts : Bool → Form → Form → Sym
  Member : ℕ → Sym
  -- atoms and their parts
  Atom : Form → Sym
  Key Property Alternate Names Cases Case Patterns : Sym
