-- What the lister prints for a bundle.
use Rattle.std.specs.Prelude.{ℕ, ◌*◌, List, true, false, eqb, take, replicate}
use Rattle.listing.specs.Bundle as bundle
use Rattle.listing.specs.Listing.{listing_of, refusal_of}
use Rattle.parser.specs.Outcome.{Outcome}
use Rattle.parser.specs.Parse.{parse}

-- a reading is listed, a refusal told by its number
unfoldable pub printed : Outcome → List ℕ
printed o = elim (eqb o.number 0) as (λ _. List ℕ) [
  | true ↦ listing_of o.records o.faults o.kinds (record { reads = o.reads; nodes = o.nodes; errors = o.errors })
  | false ↦ refusal_of o.number
]

-- the readings that the lister allows
abbrev pub allowance : ℕ
allowance = 100000

-- a sheet, read into blank buffers of 1,024 node records, 16 error records and 1,024 expected kinds
unfoldable pub sheet_answer : List ℕ → List ℕ → List ℕ
sheet_answer text tokens = printed (parse text tokens allowance (replicate 8192 0) (replicate 96 0) (replicate 1024 0))

-- what stands in the buffers for text and tokens; 12 where a bundle is none, or too large for them
abbrev pub decoded_answer : bundle.Outcome → List ℕ
decoded_answer (bundle.sheet n m text tokens) = sheet_answer (take n text) (take (3 * m) tokens)
decoded_answer (bundle.refused text tokens) = refusal_of 12

-- a bundle, decoded into blank buffers of 16,384 bytes of text and 1,500 tokens
unfoldable pub answer_of : List ℕ → List ℕ
answer_of b = decoded_answer (bundle.decoded_into b (replicate 16384 0) (replicate 4500 0))
