-- Names and words, spelled as the documents spell them, and the bytes that they are.
use Rattle.std.specs.Prelude.{ℕ, Bool, true, false, List, [], ◌∷◌, eqb}
use Prim.Native.Char.{code}
use Prim.Native.String.{String, [] as end, ◌∷◌ as ◌then◌}

-- the bytes of a spelling; each one here is ASCII, one byte to a character
abbrev pub bytes : String → List ℕ
bytes end = []
bytes (c then rest) = code c ∷ bytes rest

-- the first where the test holds, the second where it fails
abbrev pub whether : {A : Type 0} → Bool → A → A → A
whether true a b = a
whether false a b = b

-- whether two byte strings are the same: as many bytes, and the same one at each place
unfoldable pub equal : List ℕ → List ℕ → Bool
equal [] [] = true
equal [] (b ∷ s) = false
equal (a ∷ r) [] = false
equal (a ∷ r) (b ∷ s) = whether (eqb a b) (equal r s) false
