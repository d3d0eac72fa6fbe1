-- Two wrong answers or more to each function that listing hands out. `Post` is the contract as the check reads it from the source. Assumes nothing.
use mathlib.Core.Path.{refl}
use mathlib.Core.List.{List, [], ◌∷◌}
use Prim.Native.Nat.{ℕ, suc}
use lib.ListN.{replicate}
use denote.Ref.{MutBor}
use Rattle.std.specs.Prelude.{Some, None}
use Rattle.listing.specs.declared.list.Counts.{Counts}
use Rattle.listing.specs.Decimal.{digits_in, digits, decimal}
use Rattle.listing.specs.Lines.{fields, found, error_line, first_line, refusal_line}
use Rattle.listing.specs.Listing.{row_lines, node_lines, errors_from, error_lines, listing_of}
use Rattle.listing.specs.Answers.{Outcome, wrote, short, written}
use Rattle.listing.specs.Bundle.{sheet, refused, little, fits, decoded_into}
use Rattle.listing.specs.Bundle as bundle
use Rattle.listing.proofs.decode.Reads as decode
use Rattle.listing.proofs.listing.Reads as listing
use Rattle.listing.proofs.lent_listing.Reads as lent-listing
use Rattle.listing.proofs.refusal.Reads as refusal
use Rattle.ruled_out.proofs.Small.{lent, lent_mut, blank, blank_mut, apart}

-- nothing was read: `read 0 reads 0 nodes 0 errors 0`, 32 bytes
abbrev counts : Counts
counts = record { reads = 0; nodes = 0; errors = 0 }

abbrev bytes : ℕ → MutBor (List ℕ)
bytes n = lent_mut (replicate n 0)

-- how many bytes were written, and 1 more; 0 where there is no room
abbrev size : Outcome → ℕ
size (wrote n out) = suc n
size (short out) = 0

pub listing-cut-off : (κs : _) (x : _) → listing.Post κs (blank, (blank, (blank, (bytes 31, (counts, tt))))) (Some 31) x → ⊥
unfolding written listing_of first_line node_lines row_lines error_lines errors_from fields decimal digits digits_in
listing-cut-off κs x p = apart size p refl

pub listing-wants-a-byte-more : (κs : _) (x : _) → listing.Post κs (blank, (blank, (blank, (bytes 32, (counts, tt))))) None x → ⊥
unfolding written listing_of first_line node_lines row_lines error_lines errors_from fields decimal digits digits_in
listing-wants-a-byte-more κs x p = apart size p refl

-- `error 7 0 1` too, 12 bytes
pub listing-first-error-left-out : (κs : _) (x : _) → listing.Post κs (blank, (lent (0 ∷ 7 ∷ 0 ∷ 1 ∷ 0 ∷ 0 ∷ []), (blank, (bytes 44, (record { reads = 0; nodes = 0; errors = 1 }, tt))))) (Some 32) x → ⊥
unfolding written listing_of first_line node_lines row_lines error_lines errors_from error_line found fields decimal digits digits_in
listing-first-error-left-out κs x p = apart size p refl

-- the contract does not say how long the lent arrays are
pub lent-listing-without-its-newline : (κs : _) (x : _) → lent-listing.Post κs (blank, (blank, (blank, (bytes 40, (counts, tt))))) 31 x → ⊥
unfolding written listing_of first_line node_lines row_lines error_lines errors_from fields decimal digits digits_in
lent-listing-without-its-newline κs x p = apart size p refl

-- the whole buffer
pub lent-listing-all-its-room : (κs : _) (x : _) → lent-listing.Post κs (blank, (blank, (blank, (bytes 40, (counts, tt))))) 40 x → ⊥
unfolding written listing_of first_line node_lines row_lines error_lines errors_from fields decimal digits digits_in
lent-listing-all-its-room κs x p = apart size p refl

-- `refused 9`
pub refusal-without-its-newline : (κs : _) (x : _) → refusal.Post κs (bytes 10, (9, tt)) (Some 9) x → ⊥
unfolding written refusal_line fields decimal digits digits_in
refusal-without-its-newline κs x p = apart size p refl

pub refusal-wants-a-byte-more : (κs : _) (x : _) → refusal.Post κs (bytes 10, (9, tt)) None x → ⊥
unfolding written refusal_line fields decimal digits digits_in
refusal-wants-a-byte-more κs x p = apart size p refl

-- bundles

-- whether a bundle was taken
abbrev taken : bundle.Outcome → ℕ
taken (sheet n m text tokens) = 1
taken (refused text tokens) = 0

-- nothing at all
pub decode-empty-bundle : (κs : _) (x : _) → decode.Post κs (blank, (blank_mut, (blank_mut, tt))) (Some (record { text = 0; tokens = 0 })) x → ⊥
unfolding decoded_into fits
decode-empty-bundle κs x p = apart taken p.1 refl

-- one byte of text and no token
pub decode-highest-byte-first : (κs : _) (x : _) → decode.Post κs (lent (1 ∷ 0 ∷ 0 ∷ 0 ∷ 97 ∷ 0 ∷ 0 ∷ 0 ∷ 0 ∷ []), (lent_mut (0 ∷ []), (blank_mut, tt))) None x → ⊥
unfolding decoded_into fits little
decode-highest-byte-first κs x p = apart taken p.1 refl
