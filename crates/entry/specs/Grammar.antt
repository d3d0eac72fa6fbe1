-- The same as a grammar: what derives a text, and a place between its characters. `proofs/Utf8.antt` shows that `boundary` and `is_utf8` decide these.
use Rattle.std.specs.Prelude.{ℕ, ◌+◌, ◌≤◌, length}
use mathlib.Core.List.{List, [], ◌∷◌, ◌++◌, Memᴰ}
use Rattle.entry.specs.Utf8.{Range, Form, forms}

-- a byte for each range of a form
pub data Spells : Form → List ℕ → Type 0 where
  end : Spells [] []
  byte : {r : Range} {f : Form} {b : ℕ} {c : List ℕ} → r.low ≤ b → b ≤ r.high → Spells f c → Spells (r ∷ f) (b ∷ c)

-- UTF8-char
pub data Character : List ℕ → Type 0 where
  spelled : {f : Form} {c : List ℕ} → Memᴰ f forms → Spells f c → Character c

-- UTF8-octets = *( UTF8-char )
pub data Octets : List ℕ → Type 0 where
  none : Octets []
  more : {c t : List ℕ} → Character c → Octets t → Octets (c ++ t)

-- the place before the first character, and the places after any number of whole characters
pub data Boundary : List ℕ → ℕ → Type 0 where
  here : {t : List ℕ} → Boundary t 0
  past : {c t : List ℕ} {k : ℕ} → Character c → Boundary t k → Boundary (c ++ t) (length c + k)
