-- What the contract of `parse` says besides its equation, for its reader.
use Rattle.std.specs.Prelude.{Ok}
use mathlib.Core.Path.{◌≡◌, refl}
use mathlib.Core.List.{List, [], ◌∷◌}
use Prim.Native.Nat.{ℕ, zero, suc, ◌≤◌}
use native.Mathlib.Omega.{arith}
use lib.ListN.{length, get_or, replicate}
use Rattle.cursor.specs.Rule.{world, begin}
use Rattle.entry.specs.Check.{entry_of}
use Rattle.rules.specs.Levels.{levels, program}
use Rattle.blind.proofs.Sure.{Clean, program-sure}
use Rattle.parser.specs.Blank.{up_to, cleared}
use Rattle.parser.specs.Parse.{depth, allowed, reading, parse}

-- The answer and every word of the buffers are a function of text, tokens, allowance and the buffers' lengths alone, for every sheet that
-- passes the entry check: what the buffers held before does not matter.
pub lengths-alone : (text tokens : List ℕ) (allowance : ℕ) (n e x n1 e1 x1 : List ℕ) → entry_of text tokens ≡ Ok tt → length n ≡ length n1 → length e ≡ length e1 → length x ≡ length x1 → parse text tokens allowance n e x ≡ parse text tokens allowance n1 e1 x1
unfolding parse
lengths-alone text tokens allowance n e x n1 e1 x1 fit p q r = rw (fit, parse) (λ j. reading text tokens allowance (replicate (p j) 0) (replicate (q j) 0) (replicate (r j) 0))

-- The program's rule never ends in a fault, so the number 255 of `finished` is never told.
pub never-faults : (text tokens : List ℕ) (allowance : ℕ) (n e x l : List ℕ) → Clean (program (levels (allowed text tokens allowance) depth) begin (world n e x l))
never-faults text tokens allowance n e x l = (program-sure _ _).ends begin (world n e x l)

-- Nothing is left past a count.
pub nothing-past : (k : ℕ) (xs : List ℕ) (i : ℕ) → k ≤ i → get_or (up_to k xs) i 0 ≡ 0
unfolding cleared
nothing-past k [] i h = refl
nothing-past zero (a ∷ xs) zero h = refl
nothing-past zero (a ∷ xs) (suc i) h = nothing-past zero xs i (omega arith)
nothing-past (suc k) (a ∷ xs) zero h = absurd (omega (arith, h))
nothing-past (suc k) (a ∷ xs) (suc i) h = nothing-past k xs i (omega (arith, h))
