-- Unary forms and handlers: parse_expr_unary.
use mathlib.Core.Path.{◌≡◌, refl}
use mathlib.Core.List.{[], ◌∷◌}
use mathlib.Core.Bool.{Bool}
use Prim.Native.Nat.{ℕ}
use native.Mathlib.Omega.{arith}
use Rattle.kinds.specs.Number as kind
use Rattle.cursor.specs.declared.Kids.{Kids}
use Rattle.cursor.specs.declared.Span.{Span}
use Rattle.cursor.specs.Node as node
use Rattle.cursor.specs.Sheet.{Sheet}
use Rattle.cursor.specs.Rule.{iterate}
use Rattle.parts.specs.declared.values.Expr.{Expr}
use Rattle.parts.specs.Values.{link_of, row_of}
use Rattle.rules.specs.Precedence.{handler, handler_turn, tried_by, tried as tried_rule, unary_op as negated_rule, unary_cases, unary}
use Rattle.rules.specs.Levels.{levels}
use Rattle.rules.proofs.Takes.{handler-turn-takes}
use Rattle.grammar.specs.Places.{Place, after, Tok, Free, from-none, from_all}
use Rattle.grammar.specs.Symbols.{Form, Call, Other, Unary, Handler, Handlers, Primary}
use Rattle.grammar.specs.Derives.{Derives, not-expr, neg-expr, tried, no-unary, last-handler, more-handlers, handler-of}
use Rattle.grammar.specs.Words.{among}
use Rattle.grammar.proofs.FirstKinds.{Opens, atoms, opening-apart}
use Rattle.grammar.proofs.Starts.{starts}
use Rattle.sound.proofs.SoundExprs.{form_of}
use Rattle.complete.proofs.Cost.{taken, costs}
use Rattle.complete.proofs.Records.{records}
use Rattle.complete.specs.Depth.{need}
use Rattle.complete.proofs.Meets.{◌⊕◌, reading, building, cost_of, Any, Meets}
use Rattle.complete.proofs.MeetsBinds.{gives, answers-more, answers-stop, fits, next, turn_more, turn-stop}
use Rattle.complete.proofs.MeetsSteps.{after_none, before-none, bumps, expects, here, not-here, chooses, chooses_none, adds}
use Rattle.complete.proofs.MeetsValues.{close-meets, begins, ident-meets}
use Rattle.complete.proofs.MeetsTypes.{params-meet}
use Rattle.complete.proofs.MeetsRecords.{OfForm, a_call, handler-record-meets, handlers-flagged-meet}
use Rattle.complete.proofs.MeetsBlocks.{Handed, Braces, block-meets}
use Rattle.complete.proofs.MeetsPrimary.{of-form, primaries-meet}

-- no unary operator begins an atom
unsigned : {p : Place} → Opens atoms p → Free (kind.Not ∷ kind.Sub ∷ kind.Try ∷ []) p
unfolding among
unsigned o = from_all (opening-apart kind.Not o refl) (from_all (opening-apart kind.Sub o refl) (from_all (opening-apart kind.Try o refl) from-none))

module _ {e : Sheet} {d : ℕ} (h : Handed e d) where
  handler-meets : {p q : Place} (D : Derives e.text Handler p q) → Meets e d p q (cost_of D) Any (handler (levels e d))
  unfolding handler costs records need
  handler-meets (handler-of t D E F) = fits (omega arith) (omega arith) (omega arith)
      (begins (λ from. expects t (next (ident-meets D) (λ name _. next (params-meet E (row_of name)) (λ i _. next (block-meets h F) (λ body _. handler-record-meets from i body))))))

  handlers-meet : {p q : Place} (D : Derives e.text Handlers p q) (kids : Kids) → Meets e d p q (cost_of D) Any (iterate e (handler_turn (levels e d)) kids)
  unfolding handler_turn costs records need
  handlers-meet (last-handler D n) kids = turn-stop _ _ (fits (omega arith) (omega arith) (omega arith) (before-none (handler-meets D) (λ link _. adds kids link (λ all. not-here _ n answers-stop))))
  handlers-meet (more-handlers D E) kids = fits (omega arith) (omega arith) (omega arith) (turn_more (handler-turn-takes e d) (before-none (handler-meets D) (λ link _. adds kids link (λ all. here _ (starts E) answers-more))) (λ k _. handlers-meet E k))

  -- behind a Call, its handlers
  tried-by : {p q : Place} {x : Expr} (span : Span) → OfForm Call x → (D : Derives e.text Handlers p q) → Meets e d p q (cost_of D) (λ z. form_of z ≡ Other) (tried_by (levels e d) span x)
  unfolding tried_by
  tried-by span (a_call {link = link} {called = called}) D = before-none (handlers-meet D called.kids) (λ kids _. after_none (handlers-flagged-meet link called kids.count) (λ _ _. gives refl))

  module _ (b : Braces e d) {lambda : Bool} where
    tried-meets : {p q r s : Place} → Tok kind.Try p q → (D : Derives e.text (Primary lambda Call) q r) (E : Derives e.text Handlers r s) → Meets e d p s (reading (taken p) ⊕ (cost_of D ⊕ cost_of E)) (λ z. form_of z ≡ Other) (tried_rule (levels e d) lambda)
    unfolding tried_rule
    tried-meets t D E = record { runs = λ s w i z. (bumps t.next (next (primaries-meet h b D) (λ x j. tried-by _ (of-form x j) E))).runs s w i z }

    negated-meets : {f : Form} {p q r : Place} (from : ℕ) → after p ≡ q → (D : Derives e.text (Primary lambda f) q r) → Meets e d p r (reading (taken p) ⊕ (cost_of D ⊕ building)) (λ z. form_of z ≡ Other) (negated_rule (levels e d) from lambda)
    unfolding negated_rule
    negated-meets from t D = record { runs = λ s w i z. (bumps t (next (primaries-meet h b D) (λ x j. before-none (close-meets node.Unary from _ 0 0 (link_of x)) (λ link _. gives {P = λ z. form_of z ≡ Other} refl)))).runs s w i z }

    -- parse_expr_unary
    pub unaries-meet : {f : Form} {p q : Place} (D : Derives e.text (Unary lambda f) p q) → Meets e d p q (cost_of D) (λ x. form_of x ≡ f) (unary (levels e d) lambda)
    unfolding unary costs records need
    unaries-meet (not-expr t D) = fits (omega arith) (omega arith) (omega arith) (begins (λ from. chooses (unary_cases (levels e d) from lambda) _ t.here (negated-meets from t.next D)))
    unaries-meet (neg-expr t D) = fits (omega arith) (omega arith) (omega arith) (begins (λ from. chooses (unary_cases (levels e d) from lambda) _ t.here (negated-meets from t.next D)))
    unaries-meet (tried t D E) = fits (omega arith) (omega arith) (omega arith) (begins (λ from. chooses (unary_cases (levels e d) from lambda) _ t.here (tried-meets t D E)))
    unaries-meet (no-unary D) = fits (omega arith) (omega arith) (omega arith) (begins (λ from. chooses_none (unary_cases (levels e d) from lambda) (unsigned (starts D)) (primaries-meet h b D)))
