-- What the rules on expressions are handed: of the rules that use up a level, how much they add to the live list. With one level more the
-- same holds above a base that is higher by `level`: an expression then leaves at most 45 kinds behind a token, and statements at most 46.
use mathlib.Core.Path.{refl}
use mathlib.Core.Bool.{Bool}
use Prim.Native.Nat.{ℕ}
use Rattle.rules.specs.Inner.{Inner, expr}
use Rattle.live.proofs.Live.{Adds, Takes, takes, gives}
use Rattle.live.proofs.Together.{after}
use Rattle.live.proofs.Types.{Atom, Pattern}

pub record Handed (r : Inner) (N : ℕ) : Type 0 where
  pub exprs : (end : ℕ) → Adds r.sheet N 30 36 30 112 (r.exprs end)
  pub prec : (min : ℕ) (lambda : Bool) → Takes r.sheet N 19 32 42 112 (r.prec min lambda)
  pub type_atom : Atom r.sheet N r.type_atom
  pub pattern : Pattern r.sheet N r.pattern

module _ {r : Inner} {N : ℕ} (x : Handed r N) where
  pub expr-bounded : (lambda : Bool) → Takes r.sheet N 19 32 42 112 (expr r lambda)
  unfolding expr
  expr-bounded lambda = takes (after (x.prec 1 lambda) (λ a. gives)) refl refl refl refl
