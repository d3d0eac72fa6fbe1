-- The grammar: `Derives text y p q` says that a y stands from place p to place q. docs/GRAMMAR.md has the same productions in a notation for
-- readers. A production with more than its parts says what may or may not follow: `Here`, `Not`, `Free` look at the next token and take
-- nothing. Such a condition stands where one text could be taken further, or in two ways; where the first tokens differ there is none.
use Rattle.std.specs.Prelude.{ℕ, suc, ◌+◌, ◌<◌, ◌≤◌, ◌≡◌, List, [], ◌∷◌, Bool, true, false, Some}
use Rattle.kinds.specs.Number as kind
use Rattle.kinds.specs.Operators.{level_of}
use Rattle.cursor.specs.declared.Label.{Label}
use Rattle.types.specs.declared.lits.Literal.TheVariants as literals
use Rattle.types.specs.Lits.{literal}
use Rattle.parts.specs.Steps.{checked_type}
use Rattle.grammar.specs.Places.{Place, kind_of, span_of, after, Tok, Here, Not, Free}
use Rattle.grammar.specs.Symbols.{
  Form,
  Name,
  Call,
  Other,
  member_of,
  Assignable,
  Sym,
  Eols,
  Until,
  Items,
  NoLast,
  Dots,
  Rest,
  Lit,
  Ident,
  Ty,
  TyAtom,
  Bars,
  TyPair,
  Others,
  Returns,
  Typed,
  Pattern,
  PatternPair,
  Exprs,
  Stmts,
  Block,
  Stmt,
  Effect,
  Path,
  ImportItem,
  Lefts,
  Rights,
  Params,
  Function,
  Expr,
  Prec,
  Ops,
  Unary,
  Handler,
  Handlers,
  Primary,
  Posts,
  Member,
  Atom,
  Key,
  Property,
  Alternate,
  Names,
  Cases,
  Case,
  Patterns,
}

-- what makes more of an expression that stands first in a statement
abbrev pub signs : List ℕ
signs = kind.Comma ∷ kind.Colon ∷ kind.Assign ∷ kind.AddAssign ∷ kind.SubAssign ∷ kind.MulAssign ∷ kind.DivAssign ∷ kind.RemAssign ∷ []

-- the compound assignments, each with the token kind of its operator
pub data Compound : ℕ → ℕ → Type 0 where
  adding : Compound kind.AddAssign kind.Add
  subtracting : Compound kind.SubAssign kind.Sub
  multiplying : Compound kind.MulAssign kind.Mul
  dividing : Compound kind.DivAssign kind.Div
  remaining : Compound kind.RemAssign kind.Rem

-- what makes a call or a member of what stands before it
abbrev pub openers : List ℕ
openers = kind.OpenParen ∷ kind.Question ∷ kind.OpenBracket ∷ kind.Dot ∷ kind.DoubleColon ∷ []

-- no trailing lambda follows, where one would be taken
pub data NoLambda : Bool → Place → Type 0 where
  no-brace : {p : Place} → Not kind.OpenBrace p → NoLambda true p
  not_taken : {p : Place} → NoLambda false p

pub data Derives (text : List ℕ) : Sym → Place → Place → Type 0 where
  -- eat_eol: all Eols here
  no-eol : {p : Place} → Not kind.Eol p → Derives text Eols p p
  an-eol : {p q r : Place} → Tok kind.Eol p q → Derives text Eols q r → Derives text Eols p r
  -- parse_items_until and parse_items_until_with_last, behind the opening token: items x between commas, perhaps a last item y, the closing
  -- token. Eols stand behind the opening token, behind an item and behind a comma; a comma may stand behind the last of the items x
  until-of : {x y : Sym} {end : ℕ} {p q r : Place} → Derives text Eols p q → Derives text (Items x y end) q r → Derives text (Until x y end) p r
  items-end : {x y : Sym} {end : ℕ} {p q : Place} → Tok end p q → Derives text (Items x y end) p q
  items-last : {x y : Sym} {end : ℕ} {p q r s : Place} → Derives text y p q → Derives text Eols q r → Tok end r s → Derives text (Items x y end) p s
  items-final : {x y : Sym} {end : ℕ} {p q r s : Place} → Derives text x p q → Derives text Eols q r → Tok end r s → Derives text (Items x y end) p s
  items-comma : {x y : Sym} {end : ℕ} {p q r s t u : Place} → Derives text x p q → Derives text Eols q r → Tok kind.Comma r s → Derives text Eols s t → Derives text (Items x y end) t u
      → Derives text (Items x y end) p u
  dots : {p q : Place} → Tok kind.Ellipsis p q → Derives text Dots p q
  rest_of : {x : Sym} {p q r : Place} → Tok kind.Ellipsis p q → Derives text x q r → Derives text (Rest x) p r
  -- parse_lit and parse_ident: one token, which is a literal by its kind; a faulty Int is none
  a-literal : {p q : Place} {l : Label} → literal text (kind_of p) (span_of p) ≡ literals.Value l → after p ≡ q → Derives text Lit p q
  an-ident : {p q : Place} → Tok kind.Ident p q → Derives text Ident p q
  -- parse_type: one type atom, or a union of atoms between bars, of all that follow
  one_type : {p q : Place} → Derives text TyAtom p q → Not kind.VBar q → Derives text Ty p q
  union : {p q r : Place} → Derives text TyAtom p q → Here kind.VBar q → Derives text Bars q r → Derives text Ty p r
  no-bar : {p : Place} → Not kind.VBar p → Derives text Bars p p
  a-bar : {p q r s : Place} → Tok kind.VBar p q → Derives text TyAtom q r → Derives text Bars r s → Derives text Bars p s
  -- parse_type_atom. A function type has no opening parenthesis
  ty-paren : {p q r s : Place} → Tok kind.OpenParen p q → Derives text Ty q r → Tok kind.CloseParen r s → Derives text TyAtom p s
  ty-name : {p q : Place} → Derives text Ident p q → Derives text TyAtom p q
  ty-table : {p q r : Place} → Tok kind.OpenBrace p q → Derives text (Until TyPair Others kind.CloseBrace) q r → Derives text TyAtom p r
  ty-function : {p q r s : Place} → Tok kind.Fn p q → Derives text (Until Ty (Rest Ty) kind.CloseParen) q r → Derives text Returns r s → Derives text TyAtom p s
  ty-literal : {p q : Place} → Derives text Lit p q → Derives text TyAtom p q
  ty-pair : {p q r s : Place} → Derives text Ident p q → Tok kind.Colon q r → Derives text Ty r s → Derives text TyPair p s
  others : {p q r s t u : Place} → Tok kind.OpenBracket p q → Derives text Ty q r → Tok kind.CloseBracket r s → Tok kind.Colon s t → Derives text Ty t u → Derives text Others p u
  -- parse_returns
  no-type : {p : Place} → Not kind.Arrow p → Derives text Returns p p
  returned : {p q r : Place} → Tok kind.Arrow p q → Derives text Ty q r → Derives text Returns p r
  -- parse_typed_ident, and parse_atom_typed_ident where x is a type atom
  bare : {x : Sym} {p q : Place} → Derives text Ident p q → Not kind.Colon q → Derives text (Typed x) p q
  typed-ident : {x : Sym} {p q r s : Place} → Derives text Ident p q → Tok kind.Colon q r → Derives text x r s → Derives text (Typed x) p s
  -- parse_params and parse_closure_params
  params_of : {p q r : Place} → Tok kind.OpenParen p q → Derives text (Until (Typed Ty) (Rest (Typed Ty)) kind.CloseParen) q r → Derives text (Params false) p r
  closure-params : {p q r : Place} → Tok kind.VBar p q → Derives text (Until (Typed TyAtom) (Rest (Typed TyAtom)) kind.VBar) q r → Derives text (Params true) p r
  -- parse_pattern
  pattern-name : {p q : Place} → Derives text Ident p q → Derives text Pattern p q
  pattern-table : {p q r : Place} → Tok kind.OpenBrace p q → Derives text (Until PatternPair Dots kind.CloseBrace) q r → Derives text Pattern p r
  pattern-list : {p q r : Place} → Tok kind.OpenBracket p q → Derives text (Until Pattern Dots kind.CloseBracket) q r → Derives text Pattern p r
  pattern-literal : {p q : Place} → Derives text Lit p q → Derives text Pattern p q
  pattern-pair : {p q r s : Place} → Derives text Lit p q → Tok kind.Colon q r → Derives text Pattern r s → Derives text PatternPair p s
  -- parse_exprs: statements up to a kind, which is taken, each but the last one with an Eol behind it
  exprs-of : {end : ℕ} {p q r : Place} → Derives text Eols p q → Derives text (Stmts end) q r → Derives text (Exprs end) p r
  no-stmt : {end : ℕ} {p q : Place} → Tok end p q → Derives text (Stmts end) p q
  last-stmt : {end : ℕ} {p q r : Place} → Derives text Stmt p q → Tok end q r → Derives text (Stmts end) p r
  a-line : {end : ℕ} {p q r s t : Place} → Derives text Stmt p q → Tok kind.Eol q r → Derives text Eols r s → Derives text (Stmts end) s t → Derives text (Stmts end) p t
  -- parse_block
  block_of : {p q r : Place} → Tok kind.OpenBrace p q → Derives text (Exprs kind.CloseBrace) q r → Derives text Block p r
  -- parse_function, behind `fn`; a closure with its parameters
  function_of : {closure : Bool} {p q r s : Place} → Derives text (Params closure) p q → Derives text Returns q r → Derives text Block r s → Derives text (Function closure) p s
  -- parse_effect_stmt
  effect_of : {p q r s t : Place} → Tok kind.Effect p q → Derives text Ident q r → Derives text (Params false) r s → Derives text Returns s t → Derives text Effect p t
  -- parse_stmt, from its keyword on: a named function, an import, an effect, and the three that `glo` begins
  fn-stmt : {p q r s : Place} → Tok kind.Fn p q → Derives text Ident q r → Derives text (Function false) r s → Derives text Stmt p s
  import-stmt : {p q r : Place} → Tok kind.Import p q → Derives text Path q r → Derives text Stmt p r
  effect-stmt : {p q : Place} → Derives text Effect p q → Derives text Stmt p q
  glo-fn : {p q r s t : Place} → Tok kind.Glo p q → Tok kind.Fn q r → Derives text Ident r s → Derives text (Function false) s t → Derives text Stmt p t
  glo-effect : {p q r : Place} → Tok kind.Glo p q → Derives text Effect q r → Derives text Stmt p r
  glo-assign : {p q r s t : Place} → Tok kind.Glo p q → Derives text (Typed Ty) q r → Tok kind.Assign r s → Derives text (Expr true) s t → Derives text Stmt p t
  -- parse_stmt, its imports behind the keyword: a path of names; alone it needs an Eol behind it, which is not taken
  path-more : {p q r s : Place} → Derives text Ident p q → Tok kind.DoubleColon q r → Derives text Path r s → Derives text Path p s
  path-alone : {p q : Place} → Derives text Ident p q → Here kind.Eol q → Derives text Path p q
  path-as : {p q r s : Place} → Derives text Ident p q → Tok kind.As q r → Derives text Ident r s → Derives text Path p s
  path-items : {p q r s t : Place} → Derives text Ident p q → Tok kind.DoubleColon q r → Tok kind.OpenBrace r s → Derives text (Until ImportItem NoLast kind.CloseBrace) s t → Derives text Path p t
  path-all : {p q r s : Place} → Derives text Ident p q → Tok kind.DoubleColon q r → Tok kind.Mul r s → Derives text Path p s
  item-alone : {p q : Place} → Derives text Ident p q → Not kind.As q → Derives text ImportItem p q
  item-as : {p q r s : Place} → Derives text Ident p q → Tok kind.As q r → Derives text Ident r s → Derives text ImportItem p s
  -- parse_stmt, its expressions and assignments. A Colon stands behind a plain name alone, and what is assigned to is a name or a member of
  -- a name without `?`
  expr-stmt : {f : Form} {p q : Place} → Derives text (Prec 1 true f) p q → Free signs q → Derives text Stmt p q
  assign : {f : Form} {p q r s : Place} → Derives text (Prec 1 true f) p q → Assignable f → Tok kind.Assign q r → Derives text (Expr true) r s → Derives text Stmt p s
  typed-assign : {p q r s t u : Place} → Derives text (Prec 1 true Name) p q → Tok kind.Colon q r → Derives text Ty r s → Tok kind.Assign s t → Derives text (Expr true) t u → Derives text Stmt p u
  op-assign : {f : Form} {k op : ℕ} {p q r s : Place} → Derives text (Prec 1 true f) p q → Assignable f → Compound k op → Tok k q r → Derives text (Expr true) r s → Derives text Stmt p s
  -- several left sides: one value for all, where no comma follows it, or as many right sides
  unpack : {f : Form} {n : ℕ} {p q r s t : Place} → Derives text (Prec 1 true f) p q → Assignable f → Derives text (Lefts (suc n)) q r → Tok kind.Assign r s → Derives text (Expr true) s t → Not kind.Comma t
      → Derives text Stmt p t
  multi : {f : Form} {n : ℕ} {p q r s t u : Place} → Derives text (Prec 1 true f) p q → Assignable f → Derives text (Lefts (suc n)) q r → Tok kind.Assign r s → Derives text (Expr true) s t
      → Derives text (Rights (suc n)) t u → Derives text Stmt p u
  no-left : {p : Place} → Not kind.Comma p → Derives text (Lefts 0) p p
  a-left : {f : Form} {n : ℕ} {p q r s : Place} → Tok kind.Comma p q → Derives text (Prec 1 true f) q r → Assignable f → Derives text (Lefts n) r s → Derives text (Lefts (suc n)) p s
  no-right : {p : Place} → Derives text (Rights 0) p p
  a-right : {n : ℕ} {p q r s : Place} → Tok kind.Comma p q → Derives text (Expr true) q r → Derives text (Rights n) r s → Derives text (Rights (suc n)) p s
  -- parse_expr_with_option: an expression with operators of all levels
  expr-of : {lambda : Bool} {f : Form} {p q : Place} → Derives text (Prec 1 lambda f) p q → Derives text (Expr lambda) p q
  -- parse_expr_precedence, called with n: operators of level n or higher, left to right; a right operand starts one level above its operator's.
  -- Behind `is` stands one token that names a type. No level is below 0, so that nothing is derived for n = 0 (proofs/Levels.antt)
  prec-of : {n : ℕ} {lambda : Bool} {f g : Form} {p q r : Place} → Derives text (Unary lambda f) p q → Derives text (Ops n lambda f g) q r → Derives text (Prec n lambda g) p r
  no-op : {n : ℕ} {lambda : Bool} {f : Form} {p : Place} → level_of (kind_of p) < n → Derives text (Ops n lambda f f) p p
  binary : {n k : ℕ} {lambda : Bool} {f g h : Form} {p q r s : Place} → n ≤ level_of k → (k ≡ kind.Is → ⊥) → Tok k p q → Derives text (Prec (level_of k + 1) lambda h) q r → Derives text (Ops n lambda Other g) r s
      → Derives text (Ops n lambda f g) p s
  type-check : {n word : ℕ} {lambda : Bool} {f g : Form} {p q r s : Place} → n ≤ level_of kind.Is → Tok kind.Is p q → checked_type text (kind_of q) (span_of q) ≡ Some word → after q ≡ r
      → Derives text (Ops n lambda Other g) r s → Derives text (Ops n lambda f g) p s
  -- parse_expr_unary: `not`, `-` and `try` take a primary. `try` needs a final Call, and one handler or more, all that follow
  not-expr : {lambda : Bool} {f : Form} {p q r : Place} → Tok kind.Not p q → Derives text (Primary lambda f) q r → Derives text (Unary lambda Other) p r
  neg-expr : {lambda : Bool} {f : Form} {p q r : Place} → Tok kind.Sub p q → Derives text (Primary lambda f) q r → Derives text (Unary lambda Other) p r
  tried : {lambda : Bool} {p q r s : Place} → Tok kind.Try p q → Derives text (Primary lambda Call) q r → Derives text Handlers r s → Derives text (Unary lambda Other) p s
  no-unary : {lambda : Bool} {f : Form} {p q : Place} → Derives text (Primary lambda f) p q → Derives text (Unary lambda f) p q
  last-handler : {p q : Place} → Derives text Handler p q → Not kind.With q → Derives text Handlers p q
  more-handlers : {p q r : Place} → Derives text Handler p q → Derives text Handlers q r → Derives text Handlers p r
  handler-of : {p q r s t : Place} → Tok kind.With p q → Derives text Ident q r → Derives text (Params false) r s → Derives text Block s t → Derives text Handler p t
  -- parse_expr_primary: an atom with all calls and members that follow. A `?` needs a member behind it
  primary-of : {lambda : Bool} {f g : Form} {p q r : Place} → Derives text (Atom f) p q → Derives text (Posts lambda f g) q r → Derives text (Primary lambda g) p r
  no-post : {lambda : Bool} {f : Form} {p : Place} → Free openers p → NoLambda lambda p → Derives text (Posts lambda f f) p p
  call : {lambda : Bool} {f g : Form} {p q r s : Place} → Tok kind.OpenParen p q → Derives text (Until (Expr true) NoLast kind.CloseParen) q r → NoLambda lambda r → Derives text (Posts lambda Call g) r s
      → Derives text (Posts lambda f g) p s
  call-lambda : {f g : Form} {p q r s t : Place} → Tok kind.OpenParen p q → Derives text (Until (Expr true) NoLast kind.CloseParen) q r → Derives text Block r s → Derives text (Posts true Call g) s t
      → Derives text (Posts true f g) p t
  lambda-alone : {f g : Form} {p q r : Place} → Derives text Block p q → Derives text (Posts true Call g) q r → Derives text (Posts true f g) p r
  member : {lambda : Bool} {f g : Form} {n : ℕ} {p q r : Place} → Derives text (Member n) p q → Derives text (Posts lambda (member_of f) g) q r → Derives text (Posts lambda f g) p r
  safe-member : {lambda : Bool} {f g : Form} {n : ℕ} {p q r s : Place} → Tok kind.Question p q → Derives text (Member n) q r → Derives text (Posts lambda Other g) r s → Derives text (Posts lambda f g) p s
  -- the macro member_expr; `#` stands for the meta table
  bracket : {p q r s : Place} → Tok kind.OpenBracket p q → Derives text (Expr true) q r → Tok kind.CloseBracket r s → Derives text (Member 0) p s
  dot : {p q r : Place} → Tok kind.Dot p q → Derives text Ident q r → Derives text (Member 1) p r
  double-colon : {p q r : Place} → Tok kind.DoubleColon p q → Derives text Ident q r → Derives text (Member 2) p r
  bracket-meta : {p q r s : Place} → Tok kind.OpenBracket p q → Tok kind.Pound q r → Tok kind.CloseBracket r s → Derives text (Member 3) p s
  dot-meta : {p q r : Place} → Tok kind.Dot p q → Tok kind.Pound q r → Derives text (Member 4) p r
  double-colon-meta : {p q r : Place} → Tok kind.DoubleColon p q → Tok kind.Pound q r → Derives text (Member 5) p r
  -- parse_expr_atom: groups, names, tables, blocks, lists. What `{`, Eols and `}` stand for is a table, so a block here has something else behind its
  -- Eols; where a key and a Colon stand there it is no block either, since no statement starts so
  paren-expr : {p q r s : Place} → Tok kind.OpenParen p q → Derives text (Expr true) q r → Tok kind.CloseParen r s → Derives text (Atom Other) p s
  name : {p q : Place} → Derives text Ident p q → Derives text (Atom Name) p q
  table : {p q r : Place} → Tok kind.OpenBrace p q → Derives text (Until Property NoLast kind.CloseBrace) q r → Derives text (Atom Other) p r
  block-expr : {p q r s : Place} → Tok kind.OpenBrace p q → Derives text Eols q r → Not kind.CloseBrace r → Derives text (Exprs kind.CloseBrace) r s → Derives text (Atom Other) p s
  list : {p q r : Place} → Tok kind.OpenBracket p q → Derives text (Until (Expr true) NoLast kind.CloseBracket) q r → Derives text (Atom Other) p r
  atom-literal : {p q : Place} → Derives text Lit p q → Derives text (Atom Other) p q
  -- parse_expr_atom: functions without a name
  fn-expr : {p q r : Place} → Tok kind.Fn p q → Derives text (Function false) q r → Derives text (Atom Other) p r
  closure-expr : {p q : Place} → Derives text (Function true) p q → Derives text (Atom Other) p q
  do-expr : {p q r : Place} → Tok kind.Do p q → Derives text Block q r → Derives text (Atom Other) p r
  -- parse_expr_atom: branches and loops. In a test, a matched value and a `for` source no trailing lambda is taken
  if-expr : {p q r s t : Place} → Tok kind.If p q → Derives text (Expr false) q r → Derives text Block r s → Derives text Alternate s t → Derives text (Atom Other) p t
  match-expr : {p q r s t : Place} → Tok kind.Match p q → Derives text (Expr false) q r → Tok kind.OpenBrace r s → Derives text Cases s t → Derives text (Atom Other) p t
  loop-expr : {p q r : Place} → Tok kind.Loop p q → Derives text Block q r → Derives text (Atom Other) p r
  while-expr : {p q r s : Place} → Tok kind.While p q → Derives text (Expr false) q r → Derives text Block r s → Derives text (Atom Other) p s
  for-expr : {p q r s t u : Place} → Tok kind.For p q → Derives text Names q r → Tok kind.In r s → Derives text (Expr false) s t → Derives text Block t u → Derives text (Atom Other) p u
  break-expr : {p q : Place} → Tok kind.Break p q → Derives text (Atom Other) p q
  continue-expr : {p q : Place} → Tok kind.Continue p q → Derives text (Atom Other) p q
  return-expr : {p q r : Place} → Tok kind.Return p q → Derives text (Expr true) q r → Derives text (Atom Other) p r
  -- what stands behind an `if` and its block: nothing, another `if`, which may go on as any expression does, or a block
  no-else : {p : Place} → Not kind.Else p → Derives text Alternate p p
  else-if : {p q r : Place} → Tok kind.Else p q → Here kind.If q → Derives text (Expr true) q r → Derives text Alternate p r
  else-block : {p q r : Place} → Tok kind.Else p q → Derives text Block q r → Derives text Alternate p r
  -- parse_items, for the names of a `for`
  last_name : {p q : Place} → Derives text Ident p q → Not kind.Comma q → Derives text Names p q
  more-names : {p q r s : Place} → Derives text Ident p q → Tok kind.Comma q r → Derives text Names r s → Derives text Names p s
  -- the cases of a `match`, up to its brace: Eols before one need a case behind them
  no-case : {p q : Place} → Tok kind.CloseBrace p q → Derives text Cases p q
  more-cases : {p q r s t : Place} → Derives text Eols p q → Derives text Case q r → Derives text Eols r s → Derives text Cases s t → Derives text Cases p t
  -- parse_match_case
  case-of : {p q r s : Place} → Derives text Patterns p q → Tok kind.FatArrow q r → Derives text (Expr true) r s → Derives text Case p s
  last-pattern : {p q : Place} → Derives text Pattern p q → Not kind.VBar q → Derives text Patterns p q
  more-patterns : {p q r s : Place} → Derives text Pattern p q → Tok kind.VBar q r → Derives text Patterns r s → Derives text Patterns p s
  -- parse_table_property and parse_table_key_and_colon
  property : {p q r : Place} → Derives text Key p q → Derives text (Expr true) q r → Derives text Property p r
  paren-key : {p q r s t : Place} → Tok kind.OpenParen p q → Derives text (Expr true) q r → Tok kind.CloseParen r s → Tok kind.Colon s t → Derives text Key p t
  literal-key : {p q r : Place} → Derives text Lit p q → Tok kind.Colon q r → Derives text Key p r
