-- Operators of a level or higher: parse_expr_precedence.
use Rattle.std.specs.Prelude.{Some, None, Option}
use mathlib.Core.Path.{◌≡◌, refl, sym, ap, ◌∙◌, subst}
use mathlib.Core.List.{List}
use mathlib.Core.Bool.{Bool, true, false, true≢false}
use Prim.Native.Nat.{ℕ, ◌+◌, ◌<◌, ◌≤◌}
use native.Mathlib.Omega.{arith}
use borrow.Author.Tests.{ne_eqb, lt-ltb, le-ltb}
use Rattle.kinds.specs.Number as kind
use Rattle.kinds.specs.declared.operator.BinOp.{BinOp}
use Rattle.kinds.specs.Operators.{binary_of, precedence_of, level_by, level_of}
use Rattle.cursor.specs.declared.State.{State}
use Rattle.cursor.specs.declared.Span.{Span}
use Rattle.cursor.specs.Node as node
use Rattle.cursor.specs.Sheet.{Sheet, kind_at}
use Rattle.cursor.specs.Rule.{World, ◌>>◌, Next, iterate}
use Rattle.cursor.specs.Tokens.{bump}
use Rattle.parts.specs.declared.values.Expr.{Expr}
use Rattle.parts.specs.Values.{link_of}
use Rattle.parts.specs.Steps.{checked_type, type_checked, type_check_at, type_check}
use Rattle.rules.specs.Precedence.{operated, infix_by, infix_turn, precedence}
use Rattle.rules.specs.Levels.{levels}
use Rattle.rules.proofs.Takes.{infix-turn-takes}
use Rattle.grammar.specs.Places.{Place, kind_of, span_of, start_of, after}
use Rattle.grammar.specs.Symbols.{Form, Other, Prec, Ops}
use Rattle.grammar.specs.Derives.{Derives, prec-of, no-op, binary, type-check}
use Rattle.grammar.proofs.Levels.{some_level}
use Rattle.sound.proofs.Links.{place_at, Settled, kind-place}
use Rattle.sound.proofs.SoundSteps.{range-place}
use Rattle.sound.proofs.SoundExprs.{form_of}
use Rattle.complete.proofs.Cost.{taken, costs}
use Rattle.complete.proofs.Records.{records}
use Rattle.complete.specs.Depth.{need}
use Rattle.complete.proofs.Meets.{Cost, ◌⊕◌, nothing, reading, building, inside, cost_of, Goes, goes, Stops, stops, EndsAt, Meets}
use Rattle.complete.proofs.MeetsBinds.{gives, yes-so, not_so, fits, next, turn_more, turn-stop}
use Rattle.complete.proofs.MeetsSteps.{before-none, bumps}
use Rattle.complete.proofs.MeetsValues.{close-meets, begins}
use Rattle.complete.proofs.MeetsRecords.{couple-meets}
use Rattle.complete.proofs.MeetsBlocks.{Handed, Braces}
use Rattle.complete.proofs.MeetsUnary.{unaries-meet}

-- the end of input names no type
untyped : (text : List ℕ) (r : Span) {word : ℕ} → checked_type text kind.Eof r ≡ Some word → ⊥
unfolding checked_type
untyped text r q = true≢false (clash q)
  where
    clash : {word : ℕ} → None ≡ Some word → true ≡ false
    clash q = cc

-- behind `is`: one token that names a type
module _ (e : Sheet) (from : ℕ) (x : Expr) {p : Place} {word : ℕ} (known : checked_type e.text (kind_of p) (span_of p) ≡ Some word) where
  type-is : (s : State) (w : World) → Settled e.tokens s → place_at e.tokens s ≡ p → type_check e from x s w ≡ type_checked e from x (span_of p) (Some word) s w
  unfolding type_check type_check_at
  type-is s w h z =
      let k : kind_at e.tokens s.at ≡ kind_of p = sym (kind-place e.tokens s h) ∙ ap kind_of z in
      ap (λ y. type_check_at e from x (kind_at e.tokens s.at) y s w) (range-place e s (kind_of p) (λ q. untyped e.text (span_of p) (ap (λ y. checked_type e.text y (span_of p)) (sym q) ∙ known)) h (ap kind_of z))
      ∙ (λ i. type_checked e from x (span_of (z i)) (checked_type e.text (k i) (span_of (z i))) s w) ∙ ap (λ c. type_checked e from x (span_of p) c s w) known

  type-meets : {d : ℕ} {q : Place} → after p ≡ q → Meets e d p q (reading (taken p) ⊕ building) (Goes (λ z. form_of z ≡ Other)) (type_check e from x)
  unfolding type_checked
  type-meets t = record { runs = λ s w h z. rw (type-is s w h z) ((bumps t (before-none (close-meets node.TypeCheck from word (start_of p) 0 (link_of x)) (λ link _. gives {P = Goes (λ z. form_of z ≡ Other)} (goes refl)))).runs s w h z) }

module _ {e : Sheet} {d : ℕ} (n : ℕ) (lambda : Bool) (from : ℕ) (x : Expr) where
  -- a turn, by the kind that stands here
  turned : {p q : Place} {c : Cost} {P : Next Expr → Type 0} {k : ℕ} → kind_of p ≡ k → Meets e d p q c P (infix_by (levels e d) from n lambda x k (binary_of k)) → Meets e d p q c P (infix_turn (levels e d) from n lambda x)
  unfolding infix_turn
  turned {q = q} {c = c} {P = P} f y = record { runs = λ s w h z. subst (λ k. EndsAt e d c q P s w (infix_by (levels e d) from n lambda x k (binary_of k) s w)) (sym f ∙ sym (ap kind_of z) ∙ kind-place e.tokens s h) (y.runs s w h z) }

  -- it stops where no operator of the level or higher stands, and goes on from behind one
  stops-by : {f : Form} {p : Place} (k : ℕ) (o : Option BinOp) → level_by o < n → form_of x ≡ f → Meets e d p p nothing (Stops (λ z. form_of z ≡ f)) (infix_by (levels e d) from n lambda x k o)
  unfolding infix_by
  stops-by k (Some op) l i = yes-so _ (lt-ltb (precedence_of op) n l) (gives (stops i))
  stops-by k None l i = gives (stops i)

  goes_by : {p q : Place} {c : Cost} {P : Next Expr → Type 0} (k : ℕ) (o : Option BinOp) → 0 < n → n ≤ level_by o → Meets e d p q c P (bump e >> operated (levels e d) from lambda x k (level_by o)) → Meets e d p q c P (infix_by (levels e d) from n lambda x k o)
  unfolding infix_by
  goes_by k (Some op) i l y = not_so _ (le-ltb (precedence_of op) n l) y
  goes_by k None i l y = absurd (omega arith)

module _ {e : Sheet} {d : ℕ} (h : Handed e d) where
  -- a right operand that starts one level higher
  operand-meets : {k : ℕ} {lambda : Bool} {f : Form} {p q : Place} (from : ℕ) (x : Expr) → (k ≡ kind.Is → ⊥) → (D : Derives e.text (Prec (level_of k + 1) lambda f) p q)
      → Meets e d p q (inside (cost_of D) ⊕ building) (Goes (λ z. form_of z ≡ Other)) (operated (levels e d) from lambda x k (level_of k))
  unfolding operated
  operand-meets {k} from x n D = not_so _ (ne_eqb k kind.Is n) (next (h.precs D) (λ y _. before-none (couple-meets node.Binary from k (link_of x) (link_of y)) (λ link _. gives (goes refl))))

  -- operators behind an expression
  operators-meet : {n : ℕ} {lambda : Bool} {f g : Form} {p q : Place} (D : Derives e.text (Ops n lambda f g) p q) (from : ℕ) (x : Expr) → form_of x ≡ f → Meets e d p q (cost_of D) (λ z. form_of z ≡ g) (iterate e (infix_turn (levels e d) from n lambda) x)
  unfolding level_of operated costs records need
  operators-meet {n} {lambda} (no-op l) from x i = turn-stop _ _ (turned n lambda from x refl (stops-by n lambda from x _ (binary_of _) l i))
  operators-meet {n} {lambda} (binary {k = k} l j a D E) from x i = fits (omega arith) (omega arith) (omega arith)
      (turn_more (infix-turn-takes e d from n lambda) (turned n lambda from x a.here (goes_by n lambda from x k (binary_of k) (some_level E) l (bumps a.next (operand-meets from x j D)))) (λ y o. operators-meet E from y o))
  operators-meet {n} {lambda} (type-check l a c b E) from x i = fits (omega arith) (omega arith) (omega arith)
      (turn_more (infix-turn-takes e d from n lambda) (turned n lambda from x a.here (goes_by n lambda from x kind.Is (binary_of kind.Is) (some_level E) l (bumps a.next (type-meets e from x c b)))) (λ y o. operators-meet E from y o))

  -- parse_expr_precedence
  pub precedence-meets : Braces e d → {n : ℕ} {lambda : Bool} {f : Form} {p q : Place} (D : Derives e.text (Prec n lambda f) p q) → Meets e d p q (cost_of D) (λ x. form_of x ≡ f) (precedence (levels e d) n lambda)
  unfolding precedence costs records need
  precedence-meets b (prec-of D E) = fits (omega arith) (omega arith) (omega arith) (begins (λ from. next (unaries-meet h b D) (λ x i. operators-meet E from x i)))
