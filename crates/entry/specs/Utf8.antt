-- UTF-8 by the syntax of byte sequences of RFC 3629, section 4, and where its characters start.
use Rattle.std.specs.Prelude.{ℕ, zero, suc, Bool, true, false, cond, not, ◌&&◌, List, [], ◌∷◌, length, drop, leb, eqb}

-- the bytes %xLOW-HIGH
pub record Range : Type 0 where
  pub low : ℕ
  pub high : ℕ

-- a row of the syntax: the ranges of its bytes, in order
abbrev pub Form : Type 0
Form = List Range

abbrev pub between : ℕ → ℕ → Range
between low high = record { low = low; high = high }

-- UTF8-1
abbrev pub ascii : Range
ascii = between 0x00 0x7F

-- UTF8-tail
abbrev pub tail : Range
tail = between 0x80 0xBF

-- UTF8-char: UTF8-1, UTF8-2, the four rows of UTF8-3 and the three of UTF8-4
abbrev pub forms : List Form
forms =
    (ascii ∷ [])
    ∷ (between 0xC2 0xDF ∷ tail ∷ [])
    ∷ (between 0xE0 0xE0 ∷ between 0xA0 0xBF ∷ tail ∷ [])
    ∷ (between 0xE1 0xEC ∷ tail ∷ tail ∷ [])
    ∷ (between 0xED 0xED ∷ between 0x80 0x9F ∷ tail ∷ [])
    ∷ (between 0xEE 0xEF ∷ tail ∷ tail ∷ [])
    ∷ (between 0xF0 0xF0 ∷ between 0x90 0xBF ∷ tail ∷ tail ∷ [])
    ∷ (between 0xF1 0xF3 ∷ tail ∷ tail ∷ tail ∷ [])
    ∷ (between 0xF4 0xF4 ∷ between 0x80 0x8F ∷ tail ∷ tail ∷ [])
    ∷ []

abbrev pub holds : Range → ℕ → Bool
holds r b = leb r.low b && leb b r.high

-- whether a text begins with bytes of the form
unfoldable pub fits : Form → List ℕ → Bool
fits [] t = true
fits (r ∷ f) [] = false
fits (r ∷ f) (b ∷ t) = holds r b && fits f t

-- the length of the first form that fits the beginning of a text; 0 where none does
unfoldable pub first_fit : List Form → List ℕ → ℕ
first_fit [] t = 0
first_fit (f ∷ fs) t = cond (fits f t) (length f) (first_fit fs t)

-- the length of the character that a text begins with; 0 where it begins with none
abbrev pub char_length : List ℕ → ℕ
char_length = first_fit forms

-- how many characters of one byte a text begins with
unfoldable pub ascii_run : List ℕ → ℕ
ascii_run [] = 0
ascii_run (b ∷ t) = cond (holds ascii b) (suc (ascii_run t)) 0

-- whether whole characters, after `owed` bytes of one that has begun, end exactly `k` bytes on
unfoldable pub arrives : ℕ → List ℕ → ℕ → Bool
arrives owed t zero = eqb owed 0
arrives owed [] (suc k) = false
arrives zero (b ∷ t) (suc k) = elim (char_length (b ∷ t)) as (λ _. Bool) [ zero ↦ false | suc n ↦ arrives n t k ]
arrives (suc owed) (b ∷ t) (suc k) = arrives owed t k

-- whether place `k` is a boundary: whole characters lead from the start of the text up to it
abbrev pub boundary : List ℕ → ℕ → Bool
boundary t k = arrives 0 t k

-- UTF8-octets: whole characters make up the text
abbrev pub is_utf8 : List ℕ → Bool
is_utf8 t = boundary t (length t)

-- whether no tail stands at place `k`. In a text that is UTF-8 these are the boundaries (`proofs/Places.antt`), and this is what the code tests
unfoldable pub no_tail : List ℕ → ℕ → Bool
no_tail t k = not (fits (tail ∷ []) (drop k t))
