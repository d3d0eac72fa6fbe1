-- Buffers that hold nothing, or nothing from a place on.
use Rattle.std.specs.Prelude.{ℕ, zero, suc, List, [], ◌∷◌, length, replicate}

-- a list with all words from a place on a blank one
unfoldable pub cleared : {A : Type 0} → A → ℕ → List A → List A
cleared b k [] = []
cleared b zero (a ∷ xs) = b ∷ cleared b zero xs
cleared b (suc k) (a ∷ xs) = a ∷ cleared b k xs

-- a buffer with all words from a place on cleared
abbrev pub up_to : ℕ → List ℕ → List ℕ
up_to = cleared 0

-- a buffer of that length in which every word is 0
abbrev pub blank : List ℕ → List ℕ
blank xs = replicate (length xs) 0
