-- Each way through answering a bundle.
-- Assumes nothing.
use Rattle.std.specs.Prelude.{Option, IsSome, Result, Ok, Err}
use mathlib.Core.Path.{◌≡◌, refl}
use mathlib.Core.List.{List}
use Prim.Native.Nat.{ℕ, ◌*◌, ◌≤◌, ◌<◌}
use native.Mathlib.Omega.{arith}
use lib.ListN.{length, take, replicate, length-append}
use borrow.Author.Tests.{ne_eqb}
use Rattle.listing.specs.Answers.{as_listed, written}
use Rattle.listing.specs.Bundle.{decoded_into}
use Rattle.listing.specs.Bundle as bundle
use Rattle.listing.specs.Lines.{fields, refusal_line}
use Rattle.listing.specs.Listing.{listing_of, refusal_of}
use Rattle.listing.proofs.Answered.{never-short}
use Rattle.listing.proofs.Room.{decimal-length}
use Rattle.parser.specs.declared.Reading.{Reading}
use Rattle.parser.specs.declared.Refusal.{Refusal}
use Rattle.parser.specs.Outcome.{number, told}
use Rattle.parser.specs.Parse.{parse}
use Rattle.parser.proofs.Numbers.{not-zero}
use Rattle.answer.specs.Answer.{printed, allowance, sheet_answer, answer_of}

-- a refusal always has room
refusal-length : (k : ℕ) → k < 256 → length (refusal_of k) ≤ 12
unfolding refusal_line fields
refusal-length k h = let d = decimal-length 2 k (omega arith) in simp length-append (omega arith)

pub refusal-fits : (r : Option ℕ) (out outs : List ℕ) (k : ℕ) → k < 256 → length out ≡ 262144 → as_listed r outs ≡ written (refusal_of k) out → IsSome r
refusal-fits r out outs k h l e = never-short r _ out outs e (omega (arith, refusal-length k h))

-- a reading is listed, a refusal told by its number
printed-read : (r : Reading) (n e x : List ℕ) → printed (told (Ok r) n e x) ≡ listing_of n e x (record { reads = r.reads; nodes = r.nodes; errors = r.errors })
unfolding printed
printed-read r n e x = refl

printed-refused : (r : Refusal) (n e x : List ℕ) → printed (told (Err r) n e x) ≡ refusal_of (number r)
unfolding printed
printed-refused r n e x = rw (ne_eqb (number r) 0 (not-zero r), printed)

module _ (text tokens : List ℕ) {a : Result Reading Refusal} (n e x : List ℕ) (t : told a n e x ≡ parse text tokens allowance (replicate 8192 0) (replicate 96 0) (replicate 1024 0)) where
  pub sheet-read : {r : Reading} → a ≡ Ok r → sheet_answer text tokens ≡ listing_of n e x (record { reads = r.reads; nodes = r.nodes; errors = r.errors })
  unfolding sheet_answer
  sheet-read {r} q = rw (← t, q) (printed-read r n e x)

  pub sheet-refused : {r : Refusal} {k : ℕ} → a ≡ Err r → k ≡ number r → sheet_answer text tokens ≡ refusal_of k
  unfolding sheet_answer
  sheet-refused {r} q h = rw (← t, q, h) (printed-refused r n e x)

-- a bundle's two ways
module _ (b : List ℕ) {texts words : List ℕ} where
  pub answer-sheet : {n m : ℕ} → bundle.sheet n m texts words ≡ decoded_into b (replicate 16384 0) (replicate 4500 0) → answer_of b ≡ sheet_answer (take n texts) (take (3 * m) words)
  unfolding answer_of
  answer-sheet p = rw (← p)

  pub answer-none : bundle.refused texts words ≡ decoded_into b (replicate 16384 0) (replicate 4500 0) → answer_of b ≡ refusal_of 12
  unfolding answer_of
  answer-none p = rw (← p)
