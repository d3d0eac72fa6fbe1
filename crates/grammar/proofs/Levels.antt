-- The least level of operators is 1 or more in every derivation: behind the last operator stands a kind of a lower level.
use Prim.Native.Nat.{ℕ, ◌<◌}
use mathlib.Core.List.{List}
use mathlib.Core.Bool.{Bool}
use native.Mathlib.Omega.{arith}
use Rattle.grammar.specs.Places.{Place}
use Rattle.grammar.specs.Symbols.{Form, Ops}
use Rattle.grammar.specs.Derives.{Derives, no-op, binary, type-check}

pub some_level : {text : List ℕ} {n : ℕ} {lambda : Bool} {f g : Form} {p q : Place} → Derives text (Ops n lambda f g) p q → 0 < n
some_level (no-op h) = omega (arith, h)
some_level (binary l h a d e) = some_level e
some_level (type-check l a c b e) = some_level e
