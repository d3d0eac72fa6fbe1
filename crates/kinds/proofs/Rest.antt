-- A kind that no arm of a `match` names stands for no operator: one computed test over the kinds.
-- Assumes nothing.
use Prim.Native.Nat.{ℕ, ◌≤◌}
use mathlib.Core.Bool.{Bool, true, false}
use mathlib.Core.List.{List}
use mathlib.Core.Path.{◌≡◌, refl, sym, ap, ◌∙◌}
use native.Mathlib.Decide.{dec_lt}
use native.Mathlib.Omega.{arith}
use lib.Dec.{T}
use lib.ListN.{get_or-eq_default}
use Rattle.std.specs.Prelude.{Option, Some, None}
use Rattle.kinds.specs.declared.operator.BinOp.{BinOp}
use Rattle.kinds.specs.Kinds.{kind_name, order}
use Rattle.kinds.proofs.Every.{every, at, unless, NoneOf, other}

abbrev pub is_nothing : Option BinOp → Bool
is_nothing (Some op) = false
is_nothing None = true

nothing : (o : Option BinOp) → T (is_nothing o) → o ≡ None
nothing (Some op) t = absurd t
nothing None t = refl

-- a number past the last kind names none
pub past : (k : ℕ) → 79 ≤ k → kind_name k ≡ ""
past k h = get_or-eq_default order "" h

module _ (f : ℕ → Option BinOp) (keys : List ℕ) (t : T (every 79 (λ k. unless keys k (is_nothing (f k))))) (none : (k : ℕ) → 79 ≤ k → f k ≡ None) where
  pub rest : (k : ℕ) → NoneOf keys k → f k ≡ None
  rest k free = elim (dec_lt k 79) [
    | yes h ↦ nothing (f k) (other keys k (is_nothing (f k)) (at 79 (λ k. unless keys k (is_nothing (f k))) t k h) free)
    | no h ↦ none k (omega arith)
  ]

-- An arm of a `match`: at the kind that it names the definition computes to what the arm answers.
pub arm : {A : Type 0} (f : ℕ → A) {kind word key : ℕ} → word ≡ kind → word ≡ key → f key ≡ f kind
arm f e h = ap f (sym h ∙ e)
