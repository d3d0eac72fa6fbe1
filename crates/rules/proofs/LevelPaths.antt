-- Each way through the rules that use up a level, and through a whole sheet.
use mathlib.Core.Path.{◌≡◌, refl}
use mathlib.Core.Bool.{Bool, true, false}
use Prim.Native.Nat.{ℕ, zero, suc, ◌-◌, max}
use native.Mathlib.Numerals.{sub-one}
use Rattle.kinds.specs.Number as kind
use Rattle.cursor.specs.declared.State.{State}
use Rattle.cursor.specs.declared.Kids.{Kids}
use Rattle.cursor.specs.Node as node
use Rattle.cursor.specs.Sheet.{Sheet, range_at}
use Rattle.cursor.specs.Rule.{World, Stop, refused, Out, done, failed, stop, iterate}
use Rattle.cursor.specs.Tokens.{start_of, eat_eol}
use Rattle.cursor.specs.Checks.{eat}
use Rattle.cursor.specs.Records.{append, no_kids, flagged}
use Rattle.cursor.specs.Attempts.{recover}
use Rattle.types.proofs.TypePaths.{starts}
use Rattle.parts.specs.declared.values.Expr.{Expr}
use Rattle.rules.specs.Inner.{Inner}
use Rattle.rules.specs.Precedence.{unary, infix_turn, precedence}
use Rattle.rules.specs.Statements.{stmt}
use Rattle.parts.specs.Recovery.{recovering, after_stmt}
use Rattle.rules.specs.Exprs.{stmt_or, exprs_turn, exprs}
use Rattle.rules.specs.Levels.{knot, levels, program_record, program}

module _ (r : Inner) where
  -- a statement, or what is left where it failed
  pub stmt-or-is : (end : ℕ) (s : State) (w : World) {o : Out ℕ} → o ≡ stmt r s w → stmt_or r end s w ≡ recovering r.sheet end s o
  unfolding stmt_or recover recovering
  stmt-or-is end s w p = rw p

  module _ (end : ℕ) (kids : Kids) (s : State) (w : World) where
    pub body-full : {x : Stop} → eat r.sheet end s w ≡ failed x → exprs_turn r end kids s w ≡ failed x
    unfolding exprs_turn
    body-full p = rw p

    pub body_ended : {s1 : State} {w1 : World} → eat r.sheet end s w ≡ done s1 w1 true → exprs_turn r end kids s w ≡ done s1 w1 (stop kids)
    unfolding exprs_turn
    body_ended p = rw p

    module _ {s1 : State} {w1 : World} (p : eat r.sheet end s w ≡ done s1 w1 false) where
      pub body-failed : {x : Stop} → stmt_or r end s1 w1 ≡ failed x → exprs_turn r end kids s w ≡ failed x
      unfolding exprs_turn
      body-failed q = rw p (rw q)

      pub body-on : {link : ℕ} {s2 : State} {w2 : World} → stmt_or r end s1 w1 ≡ done s2 w2 link → exprs_turn r end kids s w ≡ after_stmt r.sheet end kids link s2 w2
      unfolding exprs_turn
      body-on q = rw p (rw q)

-- no level is left
module _ (e : Sheet) (d : ℕ) (s : State) (w : World) (p : d ≡ 0) where
  pub body-none : (end : ℕ) → (knot e d).exprs end s w ≡ failed (refused 9)
  unfolding knot
  body-none end = rw p

  pub prec-none : (min : ℕ) (lambda : Bool) → (knot e d).prec min lambda s w ≡ failed (refused 9)
  unfolding knot
  prec-none min lambda = rw p

-- with one level less
module _ (e : Sheet) (end : ℕ) (s : State) (w : World) where
  pub body-spent : (d : ℕ) {x : Stop} → (d ≡ 0 → ⊥) → eat_eol e s w ≡ failed x → (knot e d).exprs end s w ≡ failed x
  unfolding knot exprs
  body-spent zero n p = absurd (n refl)
  body-spent (suc d) n p = rw p

  pub body-begin : (d : ℕ) {s1 : State} {w1 : World} → (d ≡ 0 → ⊥) → eat_eol e s w ≡ done s1 w1 tt → (knot e d).exprs end s w ≡ iterate e (exprs_turn (levels e (d - 1)) end) no_kids s1 w1
  unfolding knot exprs
  body-begin zero n p = absurd (n refl)
  body-begin (suc d) n p = rw p (rw sub-one)

module _ (e : Sheet) (min : ℕ) (lambda : Bool) (s : State) (w : World) {from : ℕ} (f : from ≡ start_of (range_at e.tokens s.at)) where
  pub prec-failed : (d : ℕ) {x : Stop} → (d ≡ 0 → ⊥) → unary (levels e (d - 1)) lambda s w ≡ failed x → (knot e d).prec min lambda s w ≡ failed x
  unfolding knot precedence
  prec-failed zero n p = absurd (n refl)
  prec-failed (suc d) n p = let q = rw sub-one at p in rw (starts e s w f) (rw q)

  pub prec-begin : (d : ℕ) {x : Expr} {s1 : State} {w1 : World} → (d ≡ 0 → ⊥) → unary (levels e (d - 1)) lambda s w ≡ done s1 w1 x → (knot e d).prec min lambda s w ≡ iterate e (infix_turn (levels e (d - 1)) from min lambda) x s1 w1
  unfolding knot precedence
  prec-begin zero n p = absurd (n refl)
  prec-begin (suc d) n p = let q = rw sub-one at p in rw (starts e s w f) (rw q (rw sub-one))

-- a whole sheet
module _ (r : Inner) (s : State) (w : World) {from : ℕ} (f : from ≡ start_of (range_at r.sheet.tokens s.at)) where
  pub program-failed : {x : Stop} → r.exprs kind.Eof s w ≡ failed x → program r s w ≡ failed x
  unfolding program
  program-failed p = rw (starts r.sheet s w f) (rw p)

  pub program-on : {end flags : ℕ} {row : Kids} {s1 : State} {w1 : World} → r.exprs kind.Eof s w ≡ done s1 w1 row → flags ≡ flagged row.count 0 false false → end ≡ max from s1.prev → program r s w ≡ append (record { kind = node.Program; start = from; end = end; one = 0; two = 0; flags = flags }) row.first s1 w1
  unfolding program program_record
  program-on p q h = rw (starts r.sheet s w f) (rw p (rw (q, h)))
