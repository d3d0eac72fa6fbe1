-- Wrong answers that the contract of the function which clears a buffer rules out, two of words and two of bytes: of three all from the second on
-- are to be cleared to 0, and what a slip in the code would leave does not meet the contract. Also two wrong numbers of refusals. `Post` is the contract as the check reads it from the source.
-- Assumes nothing.
use mathlib.Core.Path.{◌≡◌, sym, ap, refl, ◌∙◌}
use mathlib.Core.List.{List, [], ◌∷◌}
use mathlib.Core.Bool.{false}
use Prim.Native.Nat.{ℕ}
use borrow.Author.Tests.{eqb-false}
use lib.Dec.{eqb}
use lib.ListN.{get_or}
use denote.MutBor.{MutBor}
use denote.Builtin.{u8, u32}
use Rattle.cursor.specs.declared.Refusal.TheVariants.{TooDeep}
use Rattle.entry.specs.declared.Refusal.TheVariants.{TextTooLong}
use Rattle.parser.specs.declared.Refusal.TheVariants.{Unfit, CutOff}
use Rattle.parser.specs.Blank.{cleared}
use Rattle.parser.proofs.Refusal.number.Reads as number
use Rattle.parser.proofs.clear.Reads as clear

-- a slice that is lent, by what it holds
abbrev lent : List ℕ → MutBor (List ℕ)
lent xs = record { ref_ptr = (0, 0); ghost_name = 0; now = xs }

abbrev sevens : List ℕ
sevens = 7 ∷ 7 ∷ 7 ∷ []

-- a number that is another in what has to be the same
unlike : {A : Type 0} {a b : A} {n : ℕ} (f : A → ℕ) → a ≡ b → f a ≡ n → eqb (f b) n ≡ false → ⊥
unlike {b = b} {n = n} f p h q = eqb-false (f b) n q (sym (ap f p) ∙ h)

abbrev item : ℕ → List ℕ → ℕ
item i xs = get_or xs i 0

module _ (L : _) (C : _) (G : _) (D : _) where
  -- the word at the place itself is left
  pub clear-words-from-the-next : (κs : _) (x : _) → clear.Post u32 L C G D κs (lent sevens, (1, (0, tt))) tt x → item 1 x.0.now ≡ 7 → ⊥
  unfolding cleared
  clear-words-from-the-next κs x p h = unlike (item 1) p h refl

  -- what stands before the place is cleared too
  pub clear-words-from-the-first : (κs : _) (x : _) → clear.Post u32 L C G D κs (lent sevens, (1, (0, tt))) tt x → item 0 x.0.now ≡ 0 → ⊥
  unfolding cleared
  clear-words-from-the-first κs x p h = unlike (item 0) p h refl

  -- the last byte is left
  pub clear-bytes-one-short : (κs : _) (x : _) → clear.Post u8 L C G D κs (lent sevens, (1, (0, tt))) tt x → item 2 x.0.now ≡ 7 → ⊥
  unfolding cleared
  clear-bytes-one-short κs x p h = unlike (item 2) p h refl

  -- what stands before the place is cleared, and the rest is left
  pub clear-bytes-up-to-the-place : (κs : _) (x : _) → clear.Post u8 L C G D κs (lent sevens, (1, (0, tt))) tt x → item 0 x.0.now ≡ 0 → ⊥
  unfolding cleared
  clear-bytes-up-to-the-place κs x p h = unlike (item 0) p h refl

-- a sheet that is too deep is told as one that takes too many readings
pub number-of-another : (κs : _) (r : _) (x : _) → number.Post κs (CutOff TooDeep, tt) r x → r ≡ 10 → ⊥
number-of-another κs r x p q = eqb-false 9 10 refl (sym p ∙ q)

-- a text that is too long is told as a reading is
pub number-from-zero : (κs : _) (r : _) (x : _) → number.Post κs (Unfit TextTooLong, tt) r x → r ≡ 0 → ⊥
number-from-zero κs r x p q = eqb-false 1 0 refl (sym p ∙ q)
