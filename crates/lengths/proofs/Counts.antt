-- Children counted by computing.
use mathlib.Core.Path.{◌≡◌, refl}
use mathlib.Core.Bool.{true, false}
use Rattle.cursor.specs.Node as node
use Rattle.lengths.specs.Flags.{flags}
use Rattle.lengths.specs.Children.{find, row_of, total, children}

-- a Call of three arguments with a trailing lambda and two handlers has seven children
call-children : children node.Call (flags 3 2 true false) ≡ 7
unfolding children row_of find total
call-children = refl

-- a Match of four cases has five
match-children : children node.Match (flags 4 0 false false) ≡ 5
unfolding children row_of find total
match-children = refl
