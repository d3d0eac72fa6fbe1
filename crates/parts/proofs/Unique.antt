-- No second answer satisfies a contract: of each public function, two answers that its `ensures` admits for the same arguments are one, and so
-- is where the parser stands and what it holds, unless the whole reading was refused (cursor's Told). `Post` is the contract as the check reads it
-- from the source.
-- Assumes nothing.
use Rattle.std.specs.Prelude.{Result, Option, Some, None}
use Rattle.std.specs.declared.ops.ControlFlow.{ControlFlow}
use Rattle.std.proofs.Common.{◌≡◌, ℕ, ◌<◌, refl, sym, ap, ◌∙◌, arith}
use Rattle.cursor.specs.declared.Parser.{Parser}
use Rattle.cursor.specs.declared.Stop.{Stop}
use Rattle.cursor.specs.Answers.{ended}
use Rattle.cursor.proofs.Told.{Settled, Same, One, one, one_held, alike, Apart, one_turn}
use Rattle.parts.specs.Answers.{as_turn}
use Rattle.parts.specs.declared.forms.Form.{Form}
use Rattle.parts.specs.declared.forms.Form.TheVariants as forms
use Rattle.parts.specs.declared.forms.Opening.{Opening}
use Rattle.parts.specs.declared.forms.Opening.TheVariants as openings
use Rattle.parts.specs.Forms.{place, Stands, opens, Opens}
use Rattle.parts.proofs.FormPlaces.{one-place, one-opening}
use Rattle.parts.proofs.forms.Form.at.Reads as form-at
use Rattle.parts.proofs.forms.Opening.at.Reads as opening-at
use Rattle.parts.proofs.effects.effect_stmt.Reads as effect-stmt
use Rattle.parts.proofs.imports.import_stmt.Reads as import-stmt
use Rattle.parts.proofs.records.atom_expr.Reads as atom-expr
use Rattle.parts.proofs.records.atom_expr_of.Reads as atom-expr-of
use Rattle.parts.proofs.records.couple.Reads as couple
use Rattle.parts.proofs.records.row_record.Reads as row-record
use Rattle.parts.proofs.records.list_record.Reads as list-record
use Rattle.parts.proofs.records.block_record.Reads as block-record
use Rattle.parts.proofs.records.fn_record.Reads as fn-record
use Rattle.parts.proofs.records.nameless.Reads as nameless
use Rattle.parts.proofs.records.function_record.Reads as function-record
use Rattle.parts.proofs.records.handler_record.Reads as handler-record
use Rattle.parts.proofs.records.handlers_flagged.Reads as handlers-flagged
use Rattle.parts.proofs.records.if_record.Reads as if-record
use Rattle.parts.proofs.records.loop_record.Reads as loop-record
use Rattle.parts.proofs.records.round_record.Reads as round-record
use Rattle.parts.proofs.records.round_record_of.Reads as round-record-of
use Rattle.parts.proofs.records.call_record.Reads as call-record
use Rattle.parts.proofs.records.member_record.Reads as member-record
use Rattle.parts.proofs.records.member_record_of.Reads as member-record-of
use Rattle.parts.proofs.recovery.undone.Reads as undone
use Rattle.parts.proofs.recovery.recovered.Reads as recovered
use Rattle.parts.proofs.recovery.after_stmt.Reads as after-stmt
use Rattle.parts.proofs.steps.alone.Reads as alone
use Rattle.parts.proofs.steps.any_params.Reads as any-params
use Rattle.parts.proofs.steps.braced.Reads as braced
use Rattle.parts.proofs.steps.question.Reads as question
use Rattle.parts.proofs.steps.no_member.Reads as no-member
use Rattle.parts.proofs.steps.pound.Reads as pound
use Rattle.parts.proofs.steps.meta_end.Reads as meta-end
use Rattle.parts.proofs.steps.meta_end_of.Reads as meta-end-of
use Rattle.parts.proofs.steps.items_end.Reads as items-end
use Rattle.parts.proofs.steps.items_end_of.Reads as items-end-of
use Rattle.parts.proofs.steps.operator_of.Reads as operator-of
use Rattle.parts.proofs.steps.lit_key.Reads as lit-key
use Rattle.parts.proofs.steps.paren_key.Reads as paren-key
use Rattle.parts.proofs.steps.leaf.Reads as leaf
use Rattle.parts.proofs.steps.leaf_of.Reads as leaf-of
use Rattle.parts.proofs.steps.loop_names.Reads as loop-names
use Rattle.parts.proofs.steps.loop_names_of.Reads as loop-names-of
use Rattle.parts.proofs.steps.case_patterns.Reads as case-patterns
use Rattle.parts.proofs.steps.type_check.Reads as type-check
use Rattle.parts.proofs.values.Expr.link.Reads as link-of
use Rattle.parts.proofs.values.Expr.assign_left.Reads as to-assign-left

-- a contract admits one answer only. `x` and `y` are what is lent, on return
module _ {K G B X : Type 0} (Post : K → G → B → X → Type 0) where
  abbrev pub OneAnswer : Type 0
  OneAnswer = (κs : K) (args : G) (r s : B) (x y : X) → Post κs args r x → Post κs args s y → r ≡ s

-- a turn's two answers are one, and what the parser holds
abbrev pub OneTurn : {A : Type 0} → Parser → Parser → Result (ControlFlow A A) Stop → Result (ControlFlow A A) Stop → Type 0
OneTurn p q r t = (r ≡ t) × (Settled (ended p (as_turn r)) → Same p q)

pub itself : {A : Type 0} → Apart (λ (a : A). a)
itself a b h = h

-- a contract that is an equation with the answer
pub one-atom-expr : (κs : _) (args : _) (r s : _) (x y : _) → atom-expr.Post κs args r x → atom-expr.Post κs args s y → r ≡ s
one-atom-expr κs args r s x y p q = p ∙ sym q

pub one-atom-expr-of : (κs : _) (args : _) (r s : _) (x y : _) → atom-expr-of.Post κs args r x → atom-expr-of.Post κs args s y → r ≡ s
one-atom-expr-of κs args r s x y p q = p ∙ sym q

pub one-alone : (κs : _) (args : _) (r s : _) (x y : _) → alone.Post κs args r x → alone.Post κs args s y → r ≡ s
one-alone κs args r s x y p q = p ∙ sym q

pub one-items-end : (κs : _) (args : _) (r s : _) (x y : _) → items-end.Post κs args r x → items-end.Post κs args s y → r ≡ s
one-items-end κs args r s x y p q = p ∙ sym q

pub one-items-end-of : (κs : _) (args : _) (r s : _) (x y : _) → items-end-of.Post κs args r x → items-end-of.Post κs args s y → r ≡ s
one-items-end-of κs args r s x y p q = p ∙ sym q

pub one-operator-of : (κs : _) (args : _) (r s : _) (x y : _) → operator-of.Post κs args r x → operator-of.Post κs args s y → r ≡ s
one-operator-of κs args r s x y p q = p ∙ sym q

pub one-link-of : (κs : _) (args : _) (r s : _) (x y : _) → link-of.Post κs args r x → link-of.Post κs args s y → r ≡ s
one-link-of κs args r s x y p q = p ∙ sym q

pub one-to-assign-left : (κs : _) (args : _) (r s : _) (x y : _) → to-assign-left.Post κs args r x → to-assign-left.Post κs args s y → r ≡ s
one-to-assign-left κs args r s x y p q = p ∙ sym q

-- a place of a chain: one form of an atom stands there, or none
form-below : (f : Form) → place f < 15
form-below forms.OpenParen = omega arith
form-below forms.Ident = omega arith
form-below forms.OpenBrace = omega arith
form-below forms.OpenBracket = omega arith
form-below forms.Fn = omega arith
form-below forms.VBar = omega arith
form-below forms.Do = omega arith
form-below forms.If = omega arith
form-below forms.Match = omega arith
form-below forms.Loop = omega arith
form-below forms.While = omega arith
form-below forms.For = omega arith
form-below forms.Break = omega arith
form-below forms.Continue = omega arith
form-below forms.Return = omega arith

stands : (n : ℕ) (r s : Option Form) → Stands n r → Stands n s → r ≡ s
stands n (Some f) (Some g) p q = ap Some (one-place f g (sym p ∙ q))
stands n (Some f) None p q = absurd (let h = form-below f in omega arith)
stands n None (Some g) p q = absurd (let h = form-below g in omega arith)
stands n None None p q = refl

pub one-form-at : (κs : _) (args : _) (r s : _) (x y : _) → form-at.Post κs args r x → form-at.Post κs args s y → r ≡ s
one-form-at κs args r s x y p q = stands args.0 r s p q

-- and one way to begin a member
opening-below : (o : Opening) → opens o < 3
opening-below openings.Bracket = omega arith
opening-below openings.Dot = omega arith
opening-below openings.DoubleColon = omega arith

open-there : (n : ℕ) (r s : Option Opening) → Opens n r → Opens n s → r ≡ s
open-there n (Some f) (Some g) p q = ap Some (one-opening f g (sym p ∙ q))
open-there n (Some f) None p q = absurd (let h = opening-below f in omega arith)
open-there n None (Some g) p q = absurd (let h = opening-below g in omega arith)
open-there n None None p q = refl

pub one-opening-at : (κs : _) (args : _) (r s : _) (x y : _) → opening-at.Post κs args r x → opening-at.Post κs args s y → r ≡ s
one-opening-at κs args r s x y p q = open-there args.0 r s p q

-- a rule
pub one-effect-stmt : (κs : _) (args : _) (r s : _) (x y : _) → effect-stmt.Post κs args r x → effect-stmt.Post κs args s y → One x.0.now y.0.now r s
one-effect-stmt κs args r s x y p q = one x.0.now y.0.now r s p.0 q.0

pub one-import-stmt : (κs : _) (args : _) (r s : _) (x y : _) → import-stmt.Post κs args r x → import-stmt.Post κs args s y → One x.0.now y.0.now r s
one-import-stmt κs args r s x y p q = one x.0.now y.0.now r s p.0 q.0

pub one-couple : (κs : _) (args : _) (r s : _) (x y : _) → couple.Post κs args r x → couple.Post κs args s y → One x.0.now y.0.now r s
one-couple κs args r s x y p q = one x.0.now y.0.now r s p.0 q.0

pub one-row-record : (κs : _) (args : _) (r s : _) (x y : _) → row-record.Post κs args r x → row-record.Post κs args s y → One x.0.now y.0.now r s
one-row-record κs args r s x y p q = one x.0.now y.0.now r s p.0 q.0

pub one-list-record : (κs : _) (args : _) (r s : _) (x y : _) → list-record.Post κs args r x → list-record.Post κs args s y → One x.0.now y.0.now r s
one-list-record κs args r s x y p q = one x.0.now y.0.now r s p.0 q.0

pub one-block-record : (κs : _) (args : _) (r s : _) (x y : _) → block-record.Post κs args r x → block-record.Post κs args s y → One x.0.now y.0.now r s
one-block-record κs args r s x y p q = one x.0.now y.0.now r s p.0 q.0

pub one-fn-record : (κs : _) (args : _) (r s : _) (x y : _) → fn-record.Post κs args r x → fn-record.Post κs args s y → One x.0.now y.0.now r s
one-fn-record κs args r s x y p q = one x.0.now y.0.now r s p.0 q.0

pub one-nameless : (κs : _) (args : _) (r s : _) (x y : _) → nameless.Post κs args r x → nameless.Post κs args s y → One x.0.now y.0.now r s
one-nameless κs args r s x y p q = one x.0.now y.0.now r s p.0 q.0

pub one-function-record : (κs : _) (args : _) (r s : _) (x y : _) → function-record.Post κs args r x → function-record.Post κs args s y → One x.0.now y.0.now r s
one-function-record κs args r s x y p q = one x.0.now y.0.now r s p.0 q.0

pub one-handler-record : (κs : _) (args : _) (r s : _) (x y : _) → handler-record.Post κs args r x → handler-record.Post κs args s y → One x.0.now y.0.now r s
one-handler-record κs args r s x y p q = one x.0.now y.0.now r s p.0 q.0

pub one-if-record : (κs : _) (args : _) (r s : _) (x y : _) → if-record.Post κs args r x → if-record.Post κs args s y → One x.0.now y.0.now r s
one-if-record κs args r s x y p q = one x.0.now y.0.now r s p.0 q.0

pub one-loop-record : (κs : _) (args : _) (r s : _) (x y : _) → loop-record.Post κs args r x → loop-record.Post κs args s y → One x.0.now y.0.now r s
one-loop-record κs args r s x y p q = one x.0.now y.0.now r s p.0 q.0

pub one-round-record : (κs : _) (args : _) (r s : _) (x y : _) → round-record.Post κs args r x → round-record.Post κs args s y → One x.0.now y.0.now r s
one-round-record κs args r s x y p q = one x.0.now y.0.now r s p.0 q.0

pub one-round-record-of : (κs : _) (args : _) (r s : _) (x y : _) → round-record-of.Post κs args r x → round-record-of.Post κs args s y → One x.0.now y.0.now r s
one-round-record-of κs args r s x y p q = one x.0.now y.0.now r s p.0 q.0

-- it writes no buffer: on a refusal too
pub one-undone : (κs : _) (args : _) (r s : _) (x y : _) → undone.Post κs args r x → undone.Post κs args s y → (r ≡ s) × Same x.0.now y.0.now
one-undone κs args r s x y p q = one_held args.0.now x.0.now y.0.now r s p.0 q.0 p.1.1 q.1.1 p.1.0 q.1.0

pub one-recovered : (κs : _) (args : _) (r s : _) (x y : _) → recovered.Post κs args r x → recovered.Post κs args s y → One x.0.now y.0.now r s
one-recovered κs args r s x y p q = one x.0.now y.0.now r s p.0 q.0

pub one-any-params : (κs : _) (args : _) (r s : _) (x y : _) → any-params.Post κs args r x → any-params.Post κs args s y → One x.0.now y.0.now r s
one-any-params κs args r s x y p q = one x.0.now y.0.now r s p.0 q.0

pub one-braced : (κs : _) (args : _) (r s : _) (x y : _) → braced.Post κs args r x → braced.Post κs args s y → One x.0.now y.0.now r s
one-braced κs args r s x y p q = one x.0.now y.0.now r s p.0 q.0

pub one-question : (κs : _) (args : _) (r s : _) (x y : _) → question.Post κs args r x → question.Post κs args s y → One x.0.now y.0.now r s
one-question κs args r s x y p q = one x.0.now y.0.now r s p.0 q.0

pub one-pound : (κs : _) (args : _) (r s : _) (x y : _) → pound.Post κs args r x → pound.Post κs args s y → One x.0.now y.0.now r s
one-pound κs args r s x y p q = one x.0.now y.0.now r s p.0 q.0

pub one-meta-end : (κs : _) (args : _) (r s : _) (x y : _) → meta-end.Post κs args r x → meta-end.Post κs args s y → One x.0.now y.0.now r s
one-meta-end κs args r s x y p q = one x.0.now y.0.now r s p.0 q.0

pub one-meta-end-of : (κs : _) (args : _) (r s : _) (x y : _) → meta-end-of.Post κs args r x → meta-end-of.Post κs args s y → One x.0.now y.0.now r s
one-meta-end-of κs args r s x y p q = one x.0.now y.0.now r s p.0 q.0

pub one-lit-key : (κs : _) (args : _) (r s : _) (x y : _) → lit-key.Post κs args r x → lit-key.Post κs args s y → One x.0.now y.0.now r s
one-lit-key κs args r s x y p q = one x.0.now y.0.now r s p.0 q.0

pub one-paren-key : (κs : _) (args : _) (r s : _) (x y : _) → paren-key.Post κs args r x → paren-key.Post κs args s y → One x.0.now y.0.now r s
one-paren-key κs args r s x y p q = one x.0.now y.0.now r s p.0 q.0

pub one-leaf : (κs : _) (args : _) (r s : _) (x y : _) → leaf.Post κs args r x → leaf.Post κs args s y → One x.0.now y.0.now r s
one-leaf κs args r s x y p q = one x.0.now y.0.now r s p.0 q.0

pub one-leaf-of : (κs : _) (args : _) (r s : _) (x y : _) → leaf-of.Post κs args r x → leaf-of.Post κs args s y → One x.0.now y.0.now r s
one-leaf-of κs args r s x y p q = one x.0.now y.0.now r s p.0 q.0

pub one-loop-names : (κs : _) (args : _) (r s : _) (x y : _) → loop-names.Post κs args r x → loop-names.Post κs args s y → One x.0.now y.0.now r s
one-loop-names κs args r s x y p q = one x.0.now y.0.now r s p.0 q.0

pub one-loop-names-of : (κs : _) (args : _) (r s : _) (x y : _) → loop-names-of.Post κs args r x → loop-names-of.Post κs args s y → One x.0.now y.0.now r s
one-loop-names-of κs args r s x y p q = one x.0.now y.0.now r s p.0 q.0

pub one-case-patterns : (κs : _) (args : _) (r s : _) (x y : _) → case-patterns.Post κs args r x → case-patterns.Post κs args s y → One x.0.now y.0.now r s
one-case-patterns κs args r s x y p q = one x.0.now y.0.now r s p.0 q.0

-- a rule that cannot fail
pub one-handlers-flagged : (κs : _) (args : _) (r s : _) (x y : _) → handlers-flagged.Post κs args r x → handlers-flagged.Post κs args s y → Same x.0.now y.0.now
one-handlers-flagged κs args r s x y p q = (alike x.0.now y.0.now _ _ p.0 q.0).1

-- a turn
pub one-call-record : (κs : _) (args : _) (r s : _) (x y : _) → call-record.Post κs args r x → call-record.Post κs args s y → OneTurn x.0.now y.0.now r s
one-call-record κs args r s x y p q = one_turn itself itself x.0.now y.0.now r s p.0 q.0

pub one-member-record : (κs : _) (args : _) (r s : _) (x y : _) → member-record.Post κs args r x → member-record.Post κs args s y → OneTurn x.0.now y.0.now r s
one-member-record κs args r s x y p q = one_turn itself itself x.0.now y.0.now r s p.0 q.0

pub one-member-record-of : (κs : _) (args : _) (r s : _) (x y : _) → member-record-of.Post κs args r x → member-record-of.Post κs args s y → OneTurn x.0.now y.0.now r s
one-member-record-of κs args r s x y p q = one_turn itself itself x.0.now y.0.now r s p.0 q.0

pub one-after-stmt : (κs : _) (args : _) (r s : _) (x y : _) → after-stmt.Post κs args r x → after-stmt.Post κs args s y → OneTurn x.0.now y.0.now r s
one-after-stmt κs args r s x y p q = one_turn itself itself x.0.now y.0.now r s p.0 q.0

pub one-type-check : (κs : _) (args : _) (r s : _) (x y : _) → type-check.Post κs args r x → type-check.Post κs args s y → OneTurn x.0.now y.0.now r s
one-type-check κs args r s x y p q = one_turn itself itself x.0.now y.0.now r s p.0 q.0

-- and one that leaves the parser as it is
pub one-no-member : (κs : _) (args : _) (r s : _) (x y : _) → no-member.Post κs args r x → no-member.Post κs args s y → r ≡ s
one-no-member κs args r s x y p q = (one_turn itself itself args.0.now args.0.now r s p q).0
