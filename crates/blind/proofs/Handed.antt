-- What the rules on expressions have to be handed to be blind.
use mathlib.Core.Bool.{Bool}
use Prim.Native.Nat.{ℕ}
use Rattle.rules.specs.Inner.{Inner, expr}
use Rattle.blind.proofs.Blind.{Blind, gives, binds}

pub record Handed (r : Inner) : Type 0 where
  pub exprs : (end : ℕ) → Blind (r.exprs end)
  pub prec : (min : ℕ) (lambda : Bool) → Blind (r.prec min lambda)
  pub type_atom : Blind r.type_atom
  pub pattern : Blind r.pattern

pub expr-blind : {r : Inner} → Handed r → (lambda : Bool) → Blind (expr r lambda)
unfolding expr
expr-blind x lambda = binds (x.prec 1 lambda) (λ a. gives)
