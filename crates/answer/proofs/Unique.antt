-- No second answer satisfies the contract: two answers that the `ensures` of `answer` admits for the same arguments are one, and the lent
-- buffer holds the same at exit. `Post` is the contract as the check reads it from the source.
-- Assumes nothing.
use Prim.Native.Nat.{ℕ}
use mathlib.Core.List.{List}
use mathlib.Core.Path.{◌≡◌, sym, ◌∙◌}
use Rattle.listing.specs.Answers.{wrote}
use Rattle.answer.proofs.answer.Reads as answer

writtens : (r s : ℕ) (a b : List ℕ) → wrote r a ≡ wrote s b → (r ≡ s) × (a ≡ b)
writtens r s a b e = (cc, cc)

pub one_answer : (κs : _) (args : _) (r s : _) (x y : _) → answer.Post κs args r x → answer.Post κs args s y → (r ≡ s) × (x.1.0.now ≡ y.1.0.now)
one_answer κs args r s x y p q = writtens r s x.1.0.now y.1.0.now (p ∙ sym q)
