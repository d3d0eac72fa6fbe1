-- The kinds of node records by name, as docs/LAYOUT.md numbers them, for rules to name one.
use Rattle.std.specs.Prelude.{ℕ}

-- no record
abbrev pub None : ℕ
None = 0

abbrev pub Null : ℕ
Null = 1

abbrev pub Bool : ℕ
Bool = 2

abbrev pub Int : ℕ
Int = 3

abbrev pub Float : ℕ
Float = 4

abbrev pub Str : ℕ
Str = 5

abbrev pub Bytes : ℕ
Bytes = 6

abbrev pub Ident : ℕ
Ident = 7

abbrev pub Paren : ℕ
Paren = 8

abbrev pub ExprBlock : ℕ
ExprBlock = 9

abbrev pub Fn : ℕ
Fn = 10

abbrev pub ExprEffect : ℕ
ExprEffect = 11

abbrev pub Table : ℕ
Table = 12

abbrev pub List : ℕ
List = 13

abbrev pub Unary : ℕ
Unary = 14

abbrev pub Binary : ℕ
Binary = 15

abbrev pub TypeCheck : ℕ
TypeCheck = 16

abbrev pub Member : ℕ
Member = 17

abbrev pub Call : ℕ
Call = 18

abbrev pub If : ℕ
If = 19

abbrev pub Match : ℕ
Match = 20

abbrev pub Loop : ℕ
Loop = 21

abbrev pub While : ℕ
While = 22

abbrev pub For : ℕ
For = 23

abbrev pub Break : ℕ
Break = 24

abbrev pub Continue : ℕ
Continue = 25

abbrev pub Return : ℕ
Return = 26

abbrev pub Import : ℕ
Import = 27

abbrev pub GloAssign : ℕ
GloAssign = 28

abbrev pub Assign : ℕ
Assign = 29

abbrev pub AssignOp : ℕ
AssignOp = 30

abbrev pub AssignUnpack : ℕ
AssignUnpack = 31

abbrev pub AssignMulti : ℕ
AssignMulti = 32

abbrev pub Program : ℕ
Program = 33

abbrev pub Block : ℕ
Block = 34

abbrev pub Function : ℕ
Function = 35

abbrev pub Closure : ℕ
Closure = 36

abbrev pub Do : ℕ
Do = 37

abbrev pub Effect : ℕ
Effect = 38

abbrev pub EffectHandler : ℕ
EffectHandler = 39

abbrev pub TypedIdent : ℕ
TypedIdent = 40

abbrev pub TableProperty : ℕ
TableProperty = 41

abbrev pub MatchCase : ℕ
MatchCase = 42

abbrev pub ImportItem : ℕ
ImportItem = 43

abbrev pub PatternTable : ℕ
PatternTable = 44

abbrev pub PatternList : ℕ
PatternList = 45

abbrev pub TablePatternPair : ℕ
TablePatternPair = 46

abbrev pub TyParen : ℕ
TyParen = 47

abbrev pub TyTable : ℕ
TyTable = 48

abbrev pub TyFunction : ℕ
TyFunction = 49

abbrev pub Union : ℕ
Union = 50

abbrev pub TableTyPair : ℕ
TableTyPair = 51

abbrev pub TableTyOther : ℕ
TableTyOther = 52
