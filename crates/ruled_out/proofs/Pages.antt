-- Two wrong answers to each function of listing that only its own modules call, those of page, names, lines and walk. No other crate can name their
-- contracts, so that the equations `Puts` to `DetailPlace` are copied: they are the text of the `ensures` clauses in the source. Assumes nothing.
use mathlib.Core.Path.{◌≡◌, refl}
use mathlib.Core.List.{List, [], ◌∷◌}
use Prim.Native.Nat.{ℕ, ◌+◌, ◌-◌, ◌*◌, ◌^◌, min}
use lib.ListN.{length, get_or, replicate}
use Rattle.std.specs.Prelude.{Option, Some, None}
use Rattle.kinds.specs.Number as kind
use Rattle.kinds.specs.Listing.{name_bytes, place_of}
use Rattle.cursor.specs.declared.Label.{Label}
use Rattle.cursor.specs.Buffer.{put}
use Rattle.cursor.specs.Node as node
use Rattle.cursor.specs.Tree as tree
use Rattle.listing.specs.declared.page.Page.{Page}
use Rattle.listing.specs.Page.{emit, emits}
use Rattle.listing.specs.Decimal.{digits_in, digits, decimal, integer}
use Rattle.listing.specs.Names.{record_name, detail_name, letters, name_from, word_of}
use Rattle.listing.specs.Lines.{fields, detail, node_line, found, error_line, first_line}
use Rattle.listing.specs.Listing.{rows, row_lines, node_lines}
use Rattle.ruled_out.proofs.Small.{lent_mut, apart, unlike, itself}

-- a page of 40 bytes that holds this, with its next byte there; and blank bytes
abbrev page : List ℕ → ℕ → Page
page xs at = record { out = lent_mut xs; at = at; room = 40 }

abbrev out : List ℕ
out = replicate 40 0

-- the contract of a function that writes: so many bytes, from one place of the page to another, leave this in the buffer
abbrev Puts : List ℕ → ℕ → ℕ → List ℕ → Type 0
Puts bs from to left = page left to ≡ emits bs (page out from)

-- the contracts of the others, as functions of what they are handed and answer
abbrev WordAt : List ℕ → ℕ → ℕ → Type 0
WordAt words at r = r ≡ get_or words at 0

abbrev Within : ℕ → ℕ → ℕ → Type 0
Within count room r = r ≡ min count room

abbrev RecordPlace : ℕ → ℕ → Type 0
RecordPlace k r = name_from r ≡ record_name k

abbrev DetailPlace : ℕ → ℕ → Option ℕ → Type 0
DetailPlace k one r = word_of r ≡ detail_name k one

-- where the next byte goes, and a byte of the buffer
abbrev place : Page → ℕ
place p = p.at

abbrev byte : ℕ → Page → ℕ
byte i p = get_or p.out.now i 0

-- bytes and numbers

pub put-byte-not-moved : (x : List ℕ) → Puts (65 ∷ []) 0 0 x → ⊥
unfolding emits emit
put-byte-not-moved x p = apart place p refl

pub put-byte-past-the-room : (x : List ℕ) → Puts (65 ∷ []) 40 41 x → ⊥
unfolding emits emit
put-byte-past-the-room x p = apart place p refl

pub put-bytes-one-short : (x : List ℕ) → Puts (65 ∷ 66 ∷ []) 0 1 x → ⊥
unfolding emits emit
put-bytes-one-short x p = apart place p refl

pub put-bytes-last-one-first : (x : List ℕ) → Puts (65 ∷ 66 ∷ []) 0 2 x → get_or x 0 0 ≡ 66 → ⊥
unfolding emits emit put
put-bytes-last-one-first x p h = unlike (byte 0) p h refl

pub put-number-last-digit-first : (x : List ℕ) → Puts (decimal 12) 0 2 x → get_or x 0 0 ≡ 50 → ⊥
unfolding decimal digits digits_in emits emit put
put-number-last-digit-first x p h = unlike (byte 0) p h refl

pub put-number-zero-as-nothing : (x : List ℕ) → Puts (decimal 0) 0 0 x → ⊥
unfolding decimal digits digits_in emits emit
put-number-zero-as-nothing x p = apart place p refl

-- -1
pub put-integer-sign-lost : (x : List ℕ) → Puts (integer ((2 ^ 32 - 1) + 2 ^ 32 * (2 ^ 32 - 1))) 0 1 x → ⊥
unfolding integer decimal digits digits_in emits emit
put-integer-sign-lost x p = apart place p refl

pub put-integer-plus-for-minus : (x : List ℕ) → Puts (integer ((2 ^ 32 - 1) + 2 ^ 32 * (2 ^ 32 - 1))) 0 2 x → get_or x 0 0 ≡ 43 → ⊥
unfolding integer decimal digits digits_in emits emit put
put-integer-plus-for-minus x p h = unlike (byte 0) p h refl

-- 1, as ten digits
pub put-integer-words-swapped : (x : List ℕ) → Puts (integer (1 + 2 ^ 32 * 0)) 0 10 x → ⊥
unfolding integer decimal digits digits_in emits emit
put-integer-words-swapped x p = apart place p refl

-- names

pub put-name-with-its-space : (x : List ℕ) → Puts (name_from (place_of "Ident")) 0 6 x → ⊥
unfolding name_from letters name_bytes emits emit
put-name-with-its-space x p = apart place p refl

pub put-name-from-the-first : (x : List ℕ) → Puts (name_from (place_of "Int")) 0 5 x → ⊥
unfolding name_from letters name_bytes emits emit
put-name-from-the-first x p = apart place p refl

pub record-place-of-the-next-kind : RecordPlace node.Int (place_of "Float") → ⊥
unfolding name_from letters name_bytes record_name
record-place-of-the-next-kind p = apart length p refl

pub record-place-of-no-record : RecordPlace 0 (place_of "Int") → ⊥
unfolding name_from letters name_bytes record_name
record-place-of-no-record p = apart length p refl

pub detail-place-of-not-left-out : DetailPlace node.Unary kind.Not None → ⊥
unfolding detail_name
detail-place-of-not-left-out p = apart length p refl

pub detail-place-of-a-name : DetailPlace node.Ident 0 (Some 0) → ⊥
unfolding detail_name
detail-place-of-a-name p = apart length p refl

-- lines

-- a name of one byte: `0 Ident 0 1`
abbrev label : Label
label = record { kind = node.Ident; start = 0; end = 1; one = 0; two = 0; flags = 0 }

pub node-line-level-left-out : (x : List ℕ) → Puts (node_line 0 label) 0 10 x → ⊥
unfolding node_line fields detail detail_name record_name decimal digits digits_in emits emit
node-line-level-left-out x p = apart place p refl

pub node-line-level-too-high : (x : List ℕ) → Puts (node_line 0 label) 0 12 x → get_or x 0 0 ≡ 49 → ⊥
unfolding node_line fields detail detail_name record_name decimal digits digits_in emits emit put
node-line-level-too-high x p h = unlike (byte 0) p h refl

pub word-at-first-word : WordAt (5 ∷ 6 ∷ []) 1 5 → ⊥
word-at-first-word p = apart itself p refl

pub word-at-past-the-end : WordAt (5 ∷ []) 1 5 → ⊥
word-at-past-the-end p = apart itself p refl

-- `error 7 0 1 6`
pub error-line-without-kinds : (x : List ℕ) → Puts (error_line (0 ∷ 7 ∷ 0 ∷ 1 ∷ 0 ∷ 1 ∷ []) (6 ∷ []) 0) 0 12 x → ⊥
unfolding error_line found fields decimal digits digits_in emits emit
error-line-without-kinds x p = apart place p refl

-- `error int 7 0 1`
pub error-line-fault-as-a-kind : (x : List ℕ) → Puts (error_line (1 ∷ 7 ∷ 0 ∷ 1 ∷ 0 ∷ 0 ∷ []) [] 0) 0 12 x → ⊥
unfolding error_line found fields decimal digits digits_in emits emit
error-line-fault-as-a-kind x p = apart place p refl

-- `read 0 reads 1 nodes 2 errors 3`
pub first-line-without-errors : (x : List ℕ) → Puts (first_line 1 2 3) 0 23 x → ⊥
unfolding first_line fields decimal digits digits_in emits emit
first-line-without-errors x p = apart place p refl

pub first-line-counts-swapped : (x : List ℕ) → Puts (first_line 1 2 3) 0 32 x → get_or x 13 0 ≡ 50 → ⊥
unfolding first_line fields decimal digits digits_in emits emit put
first-line-counts-swapped x p h = unlike (byte 13) p h refl

-- the tree

pub within-always-the-count : Within 5 3 5 → ⊥
within-always-the-count p = apart itself p refl

pub within-the-larger : Within 3 5 5 → ⊥
within-the-larger p = apart itself p refl

-- `null` in parentheses: `0 Paren 0 6`, `1 Null 1 5`
abbrev nodes : List ℕ
nodes = node.Null ∷ 1 ∷ 5 ∷ 0 ∷ 0 ∷ 0 ∷ 0 ∷ 0 ∷ node.Paren ∷ 0 ∷ 6 ∷ 1 ∷ 0 ∷ 0 ∷ 0 ∷ 0 ∷ []

pub node-lines-child-skipped : (x : List ℕ) → Puts (node_lines nodes 2) 0 12 x → ⊥
unfolding node_lines row_lines rows tree.meaning tree.trees tree.label tree.word node_line fields detail detail_name record_name decimal digits digits_in emits emit
node-lines-child-skipped x p = apart place p refl

pub node-lines-level-kept : (x : List ℕ) → Puts (node_lines nodes 2) 0 23 x → get_or x 12 0 ≡ 48 → ⊥
unfolding node_lines row_lines rows tree.meaning tree.trees tree.label tree.word node_line fields detail detail_name record_name decimal digits digits_in emits emit put
node-lines-level-kept x p h = unlike (byte 12) p h refl
