-- What the rule says of bundles: that of a sheet within the lister's limits is answered as the sheet is, and whatever is no such bundle is
-- refused with 12.
-- Assumes nothing.
use mathlib.Core.Path.{◌≡◌, refl, sym, ◌∙◌}
use mathlib.Core.List.{List, [], ◌∷◌}
use Prim.Native.Nat.{ℕ, ◌*◌, ◌/◌, ◌≤◌}
use native.Mathlib.Omega.{arith}
use lib.ListN.{length, drop, replicate, length-replicate}
use lib.Seq.{take-append_seam}
use Rattle.listing.specs.Bundle.{Bytes, Tokens, Bundled, bundle_of}
use Rattle.listing.specs.Listing.{refusal_of}
use Rattle.listing.proofs.Accepted.{refused-exactly}
use Rattle.listing.proofs.Bundles.{lister-bundle}
use Rattle.answer.specs.Answer.{sheet_answer, answer_of}
use Rattle.answer.proofs.Ways.{answer-sheet, answer-none}

zeros : (n : ℕ) → length (replicate {A = ℕ} n 0) ≡ n
zeros n = length-replicate {A = ℕ} n 0

three-each : (tokens : List ℕ) → Tokens tokens → 3 * (length tokens / 3) ≡ length tokens
three-each [] h = refl
three-each (kind ∷ []) h = absurd h
three-each (kind ∷ start ∷ []) h = absurd h
three-each (kind ∷ start ∷ end ∷ rest) h = let l = three-each rest h.3 in omega arith

pub sheet-answered : (text tokens : List ℕ) → Bytes text → Tokens tokens → length text ≤ 16384 → length tokens / 3 ≤ 1500 → answer_of (bundle_of text tokens) ≡ sheet_answer text tokens
sheet-answered text tokens b t n m =
    let e = lister-bundle text tokens (replicate 16384 0) (replicate 4500 0) b t n m (zeros 16384) (zeros 4500) in
    answer-sheet (bundle_of text tokens) (sym e) ∙ rw (three-each tokens t, take-append_seam text (drop (length text) (replicate 16384 0)), take-append_seam tokens (drop (length tokens) (replicate 4500 0)))

pub others-refused : (b : List ℕ) → Bytes b → (Bundled 16384 4500 b → ⊥) → answer_of b ≡ refusal_of 12
others-refused b h none = answer-none b (sym ((refused-exactly b (replicate 16384 0) (replicate 4500 0) h).1 (λ s. none (rw (zeros 16384, zeros 4500) at s))))
