-- What a reader of the tokens may count on once they are fit to read. `proofs/Sound.antt` shows that the check gives it.
use Rattle.std.specs.Prelude.{ℕ, ◌+◌, ◌-◌, ◌*◌, ◌/◌, ◌<◌, ◌≤◌, ◌≡◌, List, length, get_or}
use Rattle.entry.specs.Check.{max_text, max_tokens, last_kind, EOF, STR, RAW_STR, BYTE_STR}
use Rattle.entry.specs.Grammar.{Octets, Boundary}

-- the three words of token `i`, and how many tokens there are
abbrev pub kind_of : List ℕ → ℕ → ℕ
kind_of tokens i = get_or tokens (i * 3) 0

abbrev pub start_of : List ℕ → ℕ → ℕ
start_of tokens i = get_or tokens (i * 3 + 1) 0

abbrev pub end_of : List ℕ → ℕ → ℕ
end_of tokens i = get_or tokens (i * 3 + 2) 0

abbrev pub count : List ℕ → ℕ
count tokens = length tokens / 3

-- a token: a kind that a reader knows and that is not Eof; a range of at least one byte within the text, from one place between characters to another;
-- and in a string's range, the quotes left out with the letter before them, a part that exists
pub record Token (text : List ℕ) (kind start end : ℕ) : Type 0 where
  pub known : kind ≤ last_kind
  pub not_end : kind ≡ EOF → ⊥
  pub filled : start < end
  pub inside : end ≤ length text
  pub starts : Boundary text start
  pub ends : Boundary text end
  pub str : kind ≡ STR → start + 1 ≤ end - 1
  pub raw : kind ≡ RAW_STR → start + 2 ≤ end - 1
  pub bytes : kind ≡ BYTE_STR → start + 2 ≤ end - 1

-- a sheet that is fit to read: within the limits, a text of whole characters, every token as above, and no two ranges that overlap
pub record Sheet (text tokens : List ℕ) : Type 0 where
  pub short : length text ≤ max_text
  pub few : count tokens ≤ max_tokens
  pub octets : Octets text
  pub token : (i : ℕ) → i < count tokens → Token text (kind_of tokens i) (start_of tokens i) (end_of tokens i)
  pub apart : (i j : ℕ) → i < j → j < count tokens → end_of tokens i ≤ start_of tokens j
