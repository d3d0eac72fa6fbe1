-- Wrong answers that the contracts rule out, two to each function whose contract says something. `Post` is the contract as the check reads
-- it from the source.
-- Assumes nothing.
use mathlib.Core.List.{List, [], ◌∷◌}
use Prim.Native.Nat.{ℕ}
use native.Mathlib.Omega.{arith}
use denote.MutBor.{MutBor}
use Rattle.std.specs.Prelude.{Some}
use Rattle.pieces.proofs.word.Reads as word
use Rattle.pieces.proofs.read.Reads as read

-- room that is lent
abbrev lent : List ℕ → MutBor (List ℕ)
lent xs = record { ref_ptr = (0, 0); ghost_name = 0; now = xs }

-- 1, the lowest byte first
pub word-highest-first : (κs : _) (x : _) → word.Post κs (1, (0, (0, (0, tt)))) 16777216 x → ⊥
word-highest-first κs x p = absurd (omega (arith, p))

pub word-of-three-bytes : (κs : _) (x : _) → word.Post κs (1, (0, (0, (1, tt)))) 1 x → ⊥
word-of-three-bytes κs x p = absurd (omega (arith, p))

pub read-without-room : (T : _) (L : _) (R : _) (D : _) (κs : _) (input : _) (x : _) → read.Post T L R D κs (input, (lent [], tt)) (Some 1) x → ⊥
read-without-room T L R D κs input x p = absurd (omega (arith, p.0))

pub read-a-byte-too-many : (T : _) (L : _) (R : _) (D : _) (κs : _) (input : _) (x : _) → read.Post T L R D κs (input, (lent (0 ∷ 0 ∷ []), tt)) (Some 3) x → ⊥
read-a-byte-too-many T L R D κs input x p = absurd (omega (arith, p.0))
