-- When a text and its tokens are fit to read, and the refusals 1 to 6.
use Rattle.std.specs.Prelude.{ℕ, ◌-◌, ◌/◌, Bool, true, false, cond, not, ◌&&◌, ◌||◌, List, [], ◌∷◌, length, get_or, leb, ltb, eqb, Result, Ok, Err}
use Rattle.kinds.specs.Text.{part}
use Rattle.entry.specs.Utf8.{boundary, is_utf8}
use Rattle.entry.specs.declared.Refusal.{Refusal}
use Rattle.entry.specs.declared.Refusal.TheVariants.{TextTooLong, TooManyTokens, NotUtf8, BadKind, BadRange, BadQuotes}

-- the document's number of a refusal
abbrev pub refusal_number : Refusal → ℕ
refusal_number TextTooLong = 1
refusal_number TooManyTokens = 2
refusal_number NotUtf8 = 3
refusal_number BadKind = 4
refusal_number BadRange = 5
refusal_number BadQuotes = 6

-- the document's number of an answer: 0 for a sheet that is fit to read
abbrev pub number : Result (Unit {0}) Refusal → ℕ
number (Ok u) = 0
number (Err r) = refusal_number r

-- the limits, and the kinds that the check names
abbrev pub max_text : ℕ
max_text = 65535

abbrev pub max_tokens : ℕ
max_tokens = 4096

abbrev pub last_kind : ℕ
last_kind = 78

abbrev pub EOF : ℕ
EOF = 70

abbrev pub STR : ℕ
STR = 7

abbrev pub RAW_STR : ℕ
RAW_STR = 8

abbrev pub BYTE_STR : ℕ
BYTE_STR = 9

-- a refusal where its case is given, else what the later tests say
abbrev pub refuse : Bool → Refusal → Result (Unit {0}) Refusal → Result (Unit {0}) Refusal
refuse true r e = Err r
refuse false r e = e

-- 4: a kind above the last, or Eof
abbrev pub bad_kind : ℕ → Bool
bad_kind kind = ltb last_kind kind || eqb kind EOF

-- 5: a range that is empty or ends before its start, leaves a text of `size` bytes, starts before the previous end, or cuts a character,
-- where `at` tells the places between characters
unfoldable pub bad_range : (ℕ → Bool) → ℕ → ℕ → ℕ → ℕ → Bool
bad_range at size last start end = leb end start || ltb size end || ltb start last || not (at start) || not (at end)

-- a quote: " or '
abbrev pub is_quote : ℕ → Bool
is_quote b = eqb b 0x22 || eqb b 0x27

-- at least two bytes, of which the first and the last are the same quote
unfoldable pub quoted : List ℕ → Bool
quoted s = leb 2 (length s) && is_quote (get_or s 0 0) && eqb (get_or s 0 0) (get_or s (length s - 1) 0)

-- the letter, and after it a quoted part
unfoldable pub marked : ℕ → List ℕ → Bool
marked letter [] = false
marked letter (b ∷ s) = eqb b letter && quoted s

-- 6: a Str, RawStr or ByteStr whose bytes are not quoted, not so after an r, not so after a b
unfoldable pub bad_quotes : ℕ → List ℕ → Bool
bad_quotes kind s =
    cond (eqb kind STR) (not (quoted s))
    (cond (eqb kind RAW_STR) (not (marked 0x72 s)) (cond (eqb kind BYTE_STR) (not (marked 0x62 s)) false))

-- a token after one that ended at `last`: 4, 5 and 6 in order
unfoldable pub token_fault : (ℕ → Bool) → List ℕ → ℕ → ℕ → ℕ → ℕ → Result (Unit {0}) Refusal
token_fault at text last kind start end =
    refuse (bad_kind kind) BadKind
    (refuse (bad_range at (length text) last start end) BadRange (refuse (bad_quotes kind (part text start end)) BadQuotes (Ok tt)))

-- the first bad token decides
abbrev pub or_else : Result (Unit {0}) Refusal → Result (Unit {0}) Refusal → Result (Unit {0}) Refusal
or_else (Ok u) e = e
or_else (Err r) e = Err r

-- token by token, three words each: kind, start, end. What is left over at the end is no token
unfoldable pub tokens_fault : (ℕ → Bool) → List ℕ → ℕ → List ℕ → Result (Unit {0}) Refusal
tokens_fault at text last [] = Ok tt
tokens_fault at text last (kind ∷ []) = Ok tt
tokens_fault at text last (kind ∷ start ∷ []) = Ok tt
tokens_fault at text last (kind ∷ start ∷ end ∷ more) = or_else (token_fault at text last kind start end) (tokens_fault at text end more)

-- the answer: 1, 2 and 3 in order, then the tokens
unfoldable pub entry_of : List ℕ → List ℕ → Result (Unit {0}) Refusal
entry_of text tokens =
    refuse (ltb max_text (length text)) TextTooLong
    (refuse (ltb max_tokens (length tokens / 3)) TooManyTokens
    (refuse (not (is_utf8 text)) NotUtf8 (tokens_fault (boundary text) text 0 tokens)))
