-- The forms of an atom in the code's `match`: what each arm's form is read by. A form's place is in the chain, and past the chain's end is a literal.
use Rattle.std.proofs.Common.{◌≡◌, ℕ, ◌≤◌, Bool, true, not, true≢false, refl, arith, inl, inr, ◌⊎◌, Option, Some, None, is_some}
use borrow.Author.Tests.{ne_eqb}
use Rattle.cursor.specs.declared.State.{State}
use Rattle.cursor.specs.Rule.{World}
use Rattle.types.specs.Lits.{lit}
use Rattle.parts.specs.declared.forms.Form.{Form}
use Rattle.parts.specs.declared.forms.Form.TheVariants as forms
use Rattle.parts.specs.declared.values.Expr.TheVariants as exprs
use Rattle.parts.specs.declared.forms.Opening.{Opening}
use Rattle.parts.specs.declared.forms.Opening.TheVariants as openings
use Rattle.parts.specs.Forms.{place, opens}
use Rattle.parts.specs.Steps.{leaf}
use Rattle.parts.specs.Values.{atom_expr}
use Rattle.rules.specs.Inner.{Inner}
use Rattle.rules.specs.Placed.{group, anon, loops, form}
use Rattle.rules.proofs.AtomPaths.{form-lit}

module _ (r : Inner) (from : ℕ) (f : Form) (s : State) (w : World) where
  pub by-group : (f ≡ forms.OpenParen) ⊎ ((f ≡ forms.OpenBracket) ⊎ (f ≡ forms.Return)) → form r from (place f) s w ≡ group r from (place f) s w
  unfolding form
  by-group (inl p) = rw p
  by-group (inr (inl p)) = rw p
  by-group (inr (inr p)) = rw p

  pub by-anon : (f ≡ forms.Fn) ⊎ ((f ≡ forms.VBar) ⊎ (f ≡ forms.Do)) → form r from (place f) s w ≡ anon r from (place f) s w
  unfolding form
  by-anon (inl p) = rw p
  by-anon (inr (inl p)) = rw p
  by-anon (inr (inr p)) = rw p

  pub by-loops : (f ≡ forms.Loop) ⊎ ((f ≡ forms.While) ⊎ (f ≡ forms.For)) → form r from (place f) s w ≡ loops r from (place f) s w
  unfolding form
  by-loops (inl p) = rw p
  by-loops (inr (inl p)) = rw p
  by-loops (inr (inr p)) = rw p

  pub by-leaf : (f ≡ forms.Break) ⊎ (f ≡ forms.Continue) → form r from (place f) s w ≡ leaf r.sheet from (place f) s w
  unfolding form
  by-leaf (inl p) = rw p
  by-leaf (inr p) = rw p

-- past the chain's end
pub by-lit : (r : Inner) (from which : ℕ) (s : State) (w : World) → 15 ≤ which → form r from which s w ≡ lit r.sheet s w
by-lit r from which s w h = form-lit r from which s w (omega arith) (omega arith) (omega arith) (omega arith) (omega arith) (omega arith) (omega arith) (omega arith) (omega arith) (omega arith)

pub no-name-past : (which link : ℕ) → 15 ≤ which → exprs.Other link ≡ atom_expr which link
no-name-past which link h = let n : which ≡ 1 → ⊥ = omega arith in rw (ne_eqb _ _ n, atom_expr)

-- what is not there is None
pub nothing : {A : Type 0} (o : Option A) {b : Bool} → is_some o ≡ not b → b ≡ true → o ≡ None
nothing (Some a) e p = let q = rw p at e in absurd (true≢false q)
nothing None e p = refl

-- a member begins in one of three ways
pub opens-small : (o : Opening) → opens o ≤ 2
opens-small openings.Bracket = omega arith
opens-small openings.Dot = omega arith
opens-small openings.DoubleColon = omega arith
