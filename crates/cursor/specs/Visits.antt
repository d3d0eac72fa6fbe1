-- How often a record is met where the tree that the node buffer means is read off: `meaning` of Tree, step by step, with a count in the place of
-- the tree.
use Rattle.std.specs.Prelude.{ℕ, zero, suc, ◌+◌, Bool, true, false, List, length, ◌==◌}
use Rattle.cursor.specs.Layout.{FIRST, NEXT}
use Rattle.cursor.specs.Tree.{word}

-- 1 where a test holds, otherwise 0
abbrev pub times : Bool → ℕ
times true = 1
times false = 0

-- how often `trees`, reading from a link on, comes to record i
unfoldable pub met : ℕ → List ℕ → ℕ → ℕ → ℕ
met zero xs link i = 0
met (suc k) xs zero i = 0
met (suc k) xs (suc r) i = times (i == r) + (met k xs (word xs r FIRST) i + met k xs (word xs r NEXT) i)

-- how often `meaning` does
unfoldable pub uses : List ℕ → ℕ → ℕ → ℕ
uses xs root i = times (i == root) + met (length xs) xs (word xs root FIRST) i
