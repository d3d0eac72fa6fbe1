-- The document's example, computed: the listing of `a is int * b`, byte for byte; and a few lines more.
-- Assumes nothing.
use Prim.Native.Nat.{ℕ, ◌^◌, ◌-◌}
use Prim.Native.String.{String}
use mathlib.Core.List.{List, [], ◌∷◌, ◌++◌}
use mathlib.Core.Path.{◌≡◌, refl}
use Rattle.kinds.specs.Spelling.{bytes}
use Rattle.kinds.specs.Listing.{listing_name}
use Rattle.cursor.specs.Tree.{word, label, trees, meaning}
use Rattle.listing.specs.Decimal.{digits_in, digits, decimal, integer}
use Rattle.listing.specs.Names.{record_name, unary_name, binary_name, type_name, detail_name}
use Rattle.listing.specs.Lines.{fields, detail, node_line, found, error_line, first_line, refusal_line}
use Rattle.listing.specs.Listing.{rows, row_lines, node_lines, errors_from, error_lines, listing_of}
use Rattle.listing.specs.Bundle.{token_bytes, bundle_of, little, tokens_at, fits, sheet, copied, token_words, decoded_into}

-- lines, each with its newline
abbrev lines : List String → List ℕ
lines [] = []
lines (s ∷ ss) = bytes s ++ (10 ∷ lines ss)

-- the records: Ident, TypeCheck, Ident, Binary, Program
abbrev pub nodes : List ℕ
nodes =
    7 ∷ 0 ∷ 1 ∷ 0 ∷ 0 ∷ 0 ∷ 0 ∷ 0
    ∷ 16 ∷ 0 ∷ 8 ∷ 1 ∷ 3 ∷ 2 ∷ 5 ∷ 0
    ∷ 7 ∷ 11 ∷ 12 ∷ 0 ∷ 0 ∷ 0 ∷ 0 ∷ 0
    ∷ 15 ∷ 0 ∷ 12 ∷ 2 ∷ 0 ∷ 66 ∷ 0 ∷ 0
    ∷ 33 ∷ 0 ∷ 12 ∷ 4 ∷ 0 ∷ 0 ∷ 0 ∷ 1
    ∷ []

pub example :
    listing_of nodes [] [] (record { reads = 5; nodes = 5; errors = 0 }) ≡
    lines ("read 0 reads 5 nodes 5 errors 0" ∷ "0 Program 0 12" ∷ "1 Binary 0 12 Mul" ∷ "2 TypeCheck 0 8 Int" ∷ "3 Ident 0 1" ∷ "2 Ident 11 12" ∷ [])
unfolding listing_of first_line node_lines row_lines rows meaning trees label word node_line error_lines errors_from fields detail detail_name record_name unary_name binary_name type_name listing_name digits digits_in decimal
example = refl

-- an unexpected token with its kinds, one without, an integer's fault; a refusal
pub errors-example :
    error_lines (0 ∷ 51 ∷ 0 ∷ 1 ∷ 1 ∷ 2 ∷ 0 ∷ 27 ∷ 0 ∷ 3 ∷ 0 ∷ 0 ∷ 1 ∷ 2 ∷ 4 ∷ 23 ∷ 0 ∷ 0 ∷ []) (9 ∷ 70 ∷ 4 ∷ []) 3 ≡
    lines ("error 51 0 1 70 4" ∷ "error 27 0 3" ∷ "error int 2 4 23" ∷ [])
unfolding error_lines errors_from error_line found fields digits digits_in decimal
errors-example = refl

pub refusal-example : refusal_line 12 ≡ lines ("refused 12" ∷ [])
unfolding refusal_line fields digits digits_in decimal
refusal-example = refl

-- integers by their 64 bits: the largest, the smallest, -1, 0
pub integers : (integer (2 ^ 63 - 1) ≡ bytes "9223372036854775807") × (integer (2 ^ 63) ≡ bytes "-9223372036854775808") × (integer (2 ^ 64 - 1) ≡ bytes "-1") × (integer 0 ≡ bytes "0")
unfolding integer digits digits_in decimal
integers = (refl, refl, refl, refl)

-- a bundle there and back: `a b` with its three tokens
pub there_and_back :
    decoded_into (bundle_of (bytes "a b") (4 ∷ 0 ∷ 1 ∷ 2 ∷ 1 ∷ 2 ∷ 4 ∷ 2 ∷ 3 ∷ [])) (0 ∷ 0 ∷ 0 ∷ 9 ∷ []) (8 ∷ 8 ∷ 8 ∷ 8 ∷ 8 ∷ 8 ∷ 8 ∷ 8 ∷ 8 ∷ 8 ∷ []) ≡
    sheet 3 3 (bytes "a b" ++ (9 ∷ [])) (4 ∷ 0 ∷ 1 ∷ 2 ∷ 1 ∷ 2 ∷ 4 ∷ 2 ∷ 3 ∷ 8 ∷ [])
unfolding decoded_into bundle_of token_bytes fits little tokens_at copied token_words
there_and_back = refl
