-- A bundle is a text and a token list, each after its count. Numbers are little-endian.
use Rattle.std.specs.Prelude.{ℕ, zero, suc, ◌+◌, ◌-◌, ◌*◌, ◌/◌, ◌%◌, ◌^◌, ◌<◌, ◌≤◌, List, [], ◌∷◌, ◌++◌, Option, Some, None, Bool, true, false, ◌≡◌, leb, eqb, length, get_or, take, drop}
use Rattle.listing.specs.declared.bundle.Decoded.{Decoded}

-- a number in four bytes
abbrev pub four_bytes : ℕ → List ℕ
four_bytes n = n % 256 ∷ n / 256 % 256 ∷ n / 65536 % 256 ∷ n / 16777216 % 256 ∷ []

-- tokens of three words, kind, start and end, in nine bytes each
unfoldable pub token_bytes : List ℕ → List ℕ
token_bytes (kind ∷ start ∷ end ∷ rest) = kind ∷ (four_bytes start ++ (four_bytes end ++ token_bytes rest))
token_bytes [] = []
token_bytes (kind ∷ []) = []
token_bytes (kind ∷ start ∷ []) = []

-- the bundle of a text and its tokens
unfoldable pub bundle_of : List ℕ → List ℕ → List ℕ
bundle_of text tokens = four_bytes (length text) ++ (text ++ (four_bytes (length tokens / 3) ++ token_bytes tokens))

-- each is a byte
abbrev pub Bytes : List ℕ → Type 0
Bytes [] = Unit {0}
Bytes (b ∷ bs) = (b < 256) × Bytes bs

-- whole tokens, each of them a byte and two words of four bytes
abbrev pub Tokens : List ℕ → Type 0
Tokens [] = Unit {0}
Tokens (kind ∷ []) = ⊥
Tokens (kind ∷ start ∷ []) = ⊥
Tokens (kind ∷ start ∷ end ∷ rest) = (kind < 256) × (start < 2 ^ 32) × (end < 2 ^ 32) × Tokens rest

-- what it is to be a bundle for which a buffer of so many bytes and one of so many words have room: to be that of some text and tokens.
-- The lister's rooms are 16,384 and 4,500
pub record Bundled (text_room word_room : ℕ) (b : List ℕ) : Type 0 where
  pub text : List ℕ
  pub tokens : List ℕ
  pub whole : b ≡ bundle_of text tokens
  pub each_byte : Bytes text
  pub each_token : Tokens tokens
  pub text_counted : length text < 2 ^ 32
  pub tokens_counted : length tokens / 3 < 2 ^ 32
  pub text_fits : length text ≤ text_room
  pub tokens_fit : length tokens ≤ word_room

-- the number in the four bytes from a place on
unfoldable pub little : List ℕ → ℕ → ℕ
little b i = get_or b i 0 + 256 * get_or b (i + 1) 0 + 65536 * get_or b (i + 2) 0 + 16777216 * get_or b (i + 3) 0

-- the words of m tokens from a place on
unfoldable pub tokens_at : List ℕ → ℕ → ℕ → List ℕ
tokens_at b i zero = []
tokens_at b i (suc m) = get_or b i 0 ∷ little b (i + 1) ∷ little b (i + 5) ∷ tokens_at b (i + 9) m

-- how many bytes of text it has, and how many tokens
abbrev pub text_count : List ℕ → ℕ
text_count b = little b 0

abbrev pub token_count : List ℕ → ℕ
token_count b = little b (4 + text_count b)

abbrev pub also : Bool → Bool → Bool
also true b = b
also false b = false

-- it is whole, with nothing left over, and the buffers have room for so much text and so many tokens
unfoldable pub fits : List ℕ → ℕ → ℕ → Bool
fits b text_room token_room =
    also (leb 8 (length b)) (also (leb (text_count b) (length b - 8)) (also (leb (text_count b) text_room)
    (also (leb (token_count b) token_room) (eqb (length b) (8 + text_count b + 9 * token_count b)))))

-- what becomes of the buffers: text and tokens with their counts, all behind them as it was; or refusal 12, and all as it was
pub data Outcome : Type 0 where
  sheet : ℕ → ℕ → List ℕ → List ℕ → Outcome
  refused : List ℕ → List ℕ → Outcome

abbrev pub as_decoded : Option Decoded → List ℕ → List ℕ → Outcome
as_decoded (Some d) text tokens = sheet d.text d.tokens text tokens
as_decoded None text tokens = refused text tokens

-- n bytes from a place on, at the start of a buffer
unfoldable pub copied : List ℕ → ℕ → ℕ → List ℕ → List ℕ
copied b i n buffer = take n (drop i b) ++ drop n buffer

unfoldable pub token_words : List ℕ → ℕ → ℕ → List ℕ → List ℕ
token_words b i m buffer = tokens_at b i m ++ drop (3 * m) buffer

unfoldable pub decoded_into : List ℕ → List ℕ → List ℕ → Outcome
decoded_into b text tokens = elim (fits b (length text) (length tokens / 3)) as (λ _. Outcome) [
  | true ↦ sheet (text_count b) (token_count b) (copied b 4 (text_count b) text) (token_words b (8 + text_count b) (token_count b) tokens)
  | false ↦ refused text tokens
]
