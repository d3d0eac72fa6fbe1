-- A rule that a test decides, proved at every number below a bound by one computed test. The rule of a table is the case where the test
-- looks into the table; an arm that no key of a `match` reached is the case where the test passes at each key.
-- Assumes nothing.
use Prim.Native.Nat.{ℕ, zero, suc, ◌<◌}
use native.Mathlib.Nat.{le_of_suc-le-suc, not-suc-le-zero}
use mathlib.Core.Path.{◌≡◌}
use mathlib.Core.Bool.{Bool, true, false}
use mathlib.Core.List.{List, [], ◌∷◌}
use lib.Dec.{T, eqb, eqb→eq}
use lib.ListN.{get_or}
use borrow.Author.Tests.{ne_eqb}

abbrev pub both : Bool → Bool → Bool
both true b = b
both false b = false

pub both_first : (a b : Bool) → T (both a b) → T a
both_first true b t = tt
both_first false b t = t

pub both-second : (a b : Bool) → T (both a b) → T b
both-second true b t = t
both-second false b t = absurd t

-- the test passes at each number below n
abbrev pub every : ℕ → (ℕ → Bool) → Bool
every zero f = true
every (suc n) f = both (f zero) (every n (λ k. f (suc k)))

pub at : (n : ℕ) (f : ℕ → Bool) → T (every n f) → (k : ℕ) → k < n → T (f k)
at zero f t k h = absurd (not-suc-le-zero h)
at (suc n) f t zero h = both_first (f zero) (every n (λ k. f (suc k))) t
at (suc n) f t (suc k) h = at n (λ k. f (suc k)) (both-second (f zero) (every n (λ k. f (suc k))) t) k (le_of_suc-le-suc h)

-- a list, read at a place below its length, where the test compares each entry with what it should be
pub entry : (n : ℕ) (xs : List ℕ) (f : ℕ → ℕ) → T (every n (λ k. eqb (get_or xs k 0) (f k))) → (k : ℕ) → k < n → get_or xs k 0 ≡ f k
entry n xs f t k h = eqb→eq (get_or xs k 0) (f k) (at n (λ k. eqb (get_or xs k 0) (f k)) t k h)

abbrev pub either : Bool → Bool → Bool
either true b = true
either false b = b

-- the number is one of the keys, or the test passes
abbrev pub unless : List ℕ → ℕ → Bool → Bool
unless [] k b = b
unless (x ∷ xs) k b = either (eqb k x) (unless xs k b)

-- the number is none of the keys: what the last arm of a `match` knows, the last key first
abbrev pub NoneOf : List ℕ → ℕ → Type 0
NoneOf [] k = Unit {0}
NoneOf (x ∷ xs) k = NoneOf xs k × (k ≡ x → ⊥)

pub other : (keys : List ℕ) (k : ℕ) (b : Bool) → T (unless keys k b) → NoneOf keys k → T b
other [] k b t h = t
other (x ∷ xs) k b t h = other xs k b (rw (ne_eqb k x h.1) at t) h.0
