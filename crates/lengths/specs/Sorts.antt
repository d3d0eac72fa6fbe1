-- Which kinds of record may stand at a place: docs/LAYOUT.md names a place by what the Rust has there, and this is the kinds of that.
use Rattle.std.specs.Prelude.{ℕ}
use Rattle.cursor.specs.Node as node

-- A Typed is a name with or without a type. What an Assign assigns to is a Left or a name with a type. A Lambda is the function of a
-- trailing lambda. The last four are the pairs of tables: of expressions, of patterns and of types, and the others of a table type.
pub data Sort : Type 0 where
  Program Statement Expression Literal Name Member Call Left Assigned : Sort
  Block Function Lambda Effect Handler Typed Case Item : Sort
  Ty Pattern Key : Sort
  Property PatternPair TyPair TyOthers : Sort

-- a record of this kind is of this sort
pub data Of : Sort → ℕ → Type 0 where
  program : Of Program node.Program
  -- literals and names
  null : Of Literal node.Null
  bool : Of Literal node.Bool
  int : Of Literal node.Int
  float : Of Literal node.Float
  str : Of Literal node.Str
  bytes : Of Literal node.Bytes
  ident : Of Name node.Ident
  -- expressions
  a-literal : {k : ℕ} → Of Literal k → Of Expression k
  a-name : {k : ℕ} → Of Name k → Of Expression k
  a-member : {k : ℕ} → Of Member k → Of Expression k
  a_call : {k : ℕ} → Of Call k → Of Expression k
  member : Of Member node.Member
  call : Of Call node.Call
  paren : Of Expression node.Paren
  expr-block : Of Expression node.ExprBlock
  fn-expr : Of Expression node.Fn
  table : Of Expression node.Table
  list : Of Expression node.List
  unary : Of Expression node.Unary
  binary : Of Expression node.Binary
  type-check : Of Expression node.TypeCheck
  if-expr : Of Expression node.If
  match-expr : Of Expression node.Match
  loop : Of Expression node.Loop
  while : Of Expression node.While
  for-expr : Of Expression node.For
  break : Of Expression node.Break
  continue : Of Expression node.Continue
  return : Of Expression node.Return
  -- statements: any expression, and what is none
  an-expression : {k : ℕ} → Of Expression k → Of Statement k
  effect-stmt : Of Statement node.ExprEffect
  import-stmt : Of Statement node.Import
  glo-assign : Of Statement node.GloAssign
  assign : Of Statement node.Assign
  assign-op : Of Statement node.AssignOp
  assign-unpack : Of Statement node.AssignUnpack
  assign-multi : Of Statement node.AssignMulti
  -- what is assigned to
  left-name : {k : ℕ} → Of Name k → Of Left k
  left-member : {k : ℕ} → Of Member k → Of Left k
  a-left : {k : ℕ} → Of Left k → Of Assigned k
  typed-left : Of Assigned node.TypedIdent
  -- parts
  block : Of Block node.Block
  function : Of Function node.Function
  closure : Of Function node.Closure
  do-function : Of Function node.Do
  lambda : Of Lambda node.Closure
  effect : Of Effect node.Effect
  handler : Of Handler node.EffectHandler
  untyped : {k : ℕ} → Of Name k → Of Typed k
  typed : Of Typed node.TypedIdent
  case : Of Case node.MatchCase
  item : Of Item node.ImportItem
  -- types
  ty-name : {k : ℕ} → Of Name k → Of Ty k
  ty-literal : {k : ℕ} → Of Literal k → Of Ty k
  ty-paren : Of Ty node.TyParen
  ty-table : Of Ty node.TyTable
  ty-function : Of Ty node.TyFunction
  union : Of Ty node.Union
  -- patterns
  pattern-name : {k : ℕ} → Of Name k → Of Pattern k
  pattern-literal : {k : ℕ} → Of Literal k → Of Pattern k
  pattern-table : Of Pattern node.PatternTable
  pattern-list : Of Pattern node.PatternList
  -- keys, pairs
  key-literal : {k : ℕ} → Of Literal k → Of Key k
  key-group : Of Key node.Paren
  property : Of Property node.TableProperty
  pattern-pair : Of PatternPair node.TablePatternPair
  ty-pair : Of TyPair node.TableTyPair
  ty-others : Of TyOthers node.TableTyOther
