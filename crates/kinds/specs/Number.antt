-- The token kinds by name, numbered from 0 as token.rs declares them, for rules to name a kind. The code has the same numbers
-- as constants in src/lib.rt.
use Rattle.std.specs.Prelude.{ℕ}

abbrev pub LineComment : ℕ
LineComment = 0

abbrev pub BlockComment : ℕ
BlockComment = 1

abbrev pub Whitespace : ℕ
Whitespace = 2

abbrev pub EscapedNewline : ℕ
EscapedNewline = 3

abbrev pub Ident : ℕ
Ident = 4

abbrev pub Int : ℕ
Int = 5

abbrev pub Float : ℕ
Float = 6

abbrev pub Str : ℕ
Str = 7

abbrev pub RawStr : ℕ
RawStr = 8

abbrev pub ByteStr : ℕ
ByteStr = 9

abbrev pub If : ℕ
If = 10

abbrev pub Else : ℕ
Else = 11

abbrev pub Match : ℕ
Match = 12

abbrev pub Loop : ℕ
Loop = 13

abbrev pub While : ℕ
While = 14

abbrev pub For : ℕ
For = 15

abbrev pub In : ℕ
In = 16

abbrev pub Break : ℕ
Break = 17

abbrev pub Continue : ℕ
Continue = 18

abbrev pub Return : ℕ
Return = 19

abbrev pub Glo : ℕ
Glo = 20

abbrev pub Import : ℕ
Import = 21

abbrev pub As : ℕ
As = 22

abbrev pub Is : ℕ
Is = 23

abbrev pub Not : ℕ
Not = 24

abbrev pub And : ℕ
And = 25

abbrev pub Or : ℕ
Or = 26

abbrev pub Try : ℕ
Try = 27

abbrev pub With : ℕ
With = 28

abbrev pub Fn : ℕ
Fn = 29

abbrev pub Do : ℕ
Do = 30

abbrev pub Effect : ℕ
Effect = 31

abbrev pub Null : ℕ
Null = 32

abbrev pub True : ℕ
True = 33

abbrev pub False : ℕ
False = 34

abbrev pub Ellipsis : ℕ
Ellipsis = 35

abbrev pub DoubleColon : ℕ
DoubleColon = 36

abbrev pub Arrow : ℕ
Arrow = 37

abbrev pub FatArrow : ℕ
FatArrow = 38

abbrev pub Eq : ℕ
Eq = 39

abbrev pub NotEq : ℕ
NotEq = 40

abbrev pub LtEq : ℕ
LtEq = 41

abbrev pub GtEq : ℕ
GtEq = 42

abbrev pub AddAssign : ℕ
AddAssign = 43

abbrev pub SubAssign : ℕ
SubAssign = 44

abbrev pub MulAssign : ℕ
MulAssign = 45

abbrev pub DivAssign : ℕ
DivAssign = 46

abbrev pub RemAssign : ℕ
RemAssign = 47

abbrev pub Comma : ℕ
Comma = 48

abbrev pub Dot : ℕ
Dot = 49

abbrev pub OpenParen : ℕ
OpenParen = 50

abbrev pub CloseParen : ℕ
CloseParen = 51

abbrev pub OpenBrace : ℕ
OpenBrace = 52

abbrev pub CloseBrace : ℕ
CloseBrace = 53

abbrev pub OpenBracket : ℕ
OpenBracket = 54

abbrev pub CloseBracket : ℕ
CloseBracket = 55

abbrev pub Pound : ℕ
Pound = 56

abbrev pub Question : ℕ
Question = 57

abbrev pub Exclamation : ℕ
Exclamation = 58

abbrev pub Colon : ℕ
Colon = 59

abbrev pub Assign : ℕ
Assign = 60

abbrev pub Lt : ℕ
Lt = 61

abbrev pub Gt : ℕ
Gt = 62

abbrev pub VBar : ℕ
VBar = 63

abbrev pub Add : ℕ
Add = 64

abbrev pub Sub : ℕ
Sub = 65

abbrev pub Mul : ℕ
Mul = 66

abbrev pub Div : ℕ
Div = 67

abbrev pub Rem : ℕ
Rem = 68

abbrev pub Eol : ℕ
Eol = 69

abbrev pub Eof : ℕ
Eof = 70

abbrev pub Unknown : ℕ
Unknown = 71

abbrev pub UnterminatedBlockComment : ℕ
UnterminatedBlockComment = 72

abbrev pub EmptyInt : ℕ
EmptyInt = 73

abbrev pub EmptyExponentFloat : ℕ
EmptyExponentFloat = 74

abbrev pub NonDecimalFloat : ℕ
NonDecimalFloat = 75

abbrev pub UnterminatedStr : ℕ
UnterminatedStr = 76

abbrev pub UnterminatedRawStr : ℕ
UnterminatedRawStr = 77

abbrev pub UnterminatedByteStr : ℕ
UnterminatedByteStr = 78
