-- Two wrong answers to each public function of parts' modules forms, records and values. `Post` is the contract as the check reads it from the source.
-- Assumes nothing.
use Rattle.std.specs.Prelude.{Ok, Err, Some, None, Option}
use Rattle.std.proofs.Common.{arith, ◌≡◌, ℕ, suc, ◌+◌, ◌^◌, true, false, get_or, refl}
use Rattle.std.specs.declared.ops.ControlFlow.TheVariants.{Continue, Break}
use Rattle.cursor.specs.declared.Refusal.TheVariants as refusals
use Rattle.cursor.specs.declared.Stop.TheVariants as stops
use Rattle.cursor.specs.declared.State.{State}
use Rattle.cursor.specs.Layout.{KIND, END, FIRST, NEXT, ONE, FLAGS, cell}
use Rattle.cursor.specs.Node as node
use Rattle.cursor.specs.Rule.{begin, Next, more, stop}
use Rattle.cursor.specs.Buffer.{put}
use Rattle.cursor.specs.Records.{write, append, add, reflag, flagged}
use Rattle.types.specs.Items.{close, add_some, so}
use Rattle.parts.specs.declared.values.Called.{Called}
use Rattle.parts.specs.declared.values.Expr.{Expr}
use Rattle.parts.specs.declared.values.Expr.TheVariants as sorts
use Rattle.parts.specs.Members as members
use Rattle.parts.specs.Records.{couple, row_record, list_record, wrapped, block_record, fn_record, function_record, handler_record, handlers_flagged, if_record, round_record, call_record, member_record}
use Rattle.parts.proofs.values.Expr.link.Reads as link-of
use Rattle.parts.proofs.values.Expr.assign_left.Reads as to-assign-left
use Rattle.parts.proofs.forms.Form.at.Reads as form-at
use Rattle.parts.proofs.forms.Opening.at.Reads as opening-at
use Rattle.parts.proofs.records.atom_expr.Reads as atom-expr
use Rattle.parts.proofs.records.atom_expr_of.Reads as atom-expr-of
use Rattle.parts.proofs.records.couple.Reads as record-couple
use Rattle.parts.proofs.records.row_record.Reads as row-record
use Rattle.parts.proofs.records.list_record.Reads as list-record
use Rattle.parts.proofs.records.block_record.Reads as block-record
use Rattle.parts.proofs.records.fn_record.Reads as fn-record
use Rattle.parts.proofs.records.nameless.Reads as nameless
use Rattle.parts.proofs.records.function_record.Reads as function-record
use Rattle.parts.proofs.records.handler_record.Reads as handler-record
use Rattle.parts.proofs.records.handlers_flagged.Reads as handlers-flagged
use Rattle.parts.proofs.records.if_record.Reads as if-record
use Rattle.parts.proofs.records.loop_record.Reads as loop-record
use Rattle.parts.proofs.records.round_record.Reads as round-record
use Rattle.parts.proofs.records.round_record_of.Reads as round-record-of
use Rattle.parts.proofs.records.call_record.Reads as call-record
use Rattle.parts.proofs.records.member_record.Reads as member-record
use Rattle.parts.proofs.records.member_record_of.Reads as member-record-of
use Rattle.parts.specs.declared.forms.Form.TheVariants as forms
use Rattle.parts.specs.declared.forms.Opening.TheVariants as openings
use Rattle.ruled_out.proofs.Small.{parser, state, span, row, apart, unlike, outcome, word, answer, itself, sort}

-- a state with so many records
abbrev built : ℕ → State
built n = state 2 5 2 n 0

-- a Call with nothing counted
abbrev called : Called
called = record { kids = row 1 1 0; arguments = 2; lambda = true }

-- which expression a turn answers, and that it stops
abbrev turned_to : Next Expr → ℕ
turned_to (more x) = sort x
turned_to (stop x) = 9

-- forms

pub form-at-the-next-place : (κs : _) (x : _) → form-at.Post κs (0, tt) (Some forms.Ident) x → ⊥
form-at-the-next-place κs x p = apart itself p refl

pub form-at-last-left-out : (κs : _) (x : _) → form-at.Post κs (14, tt) None x → ⊥
form-at-last-left-out κs x p = absurd (omega (arith, p))

pub opening-at-the-next-place : (κs : _) (x : _) → opening-at.Post κs (1, tt) (Some openings.Bracket) x → ⊥
opening-at-the-next-place κs x p = apart itself p refl

pub opening-at-past-the-end : (κs : _) (x : _) → opening-at.Post κs (3, tt) (Some openings.DoubleColon) x → ⊥
opening-at-past-the-end κs x p = apart itself p refl

-- values

pub link-of-a-call-lost : (κs : _) (x : _) → link-of.Post κs (sorts.Call 5 called, tt) 0 x → ⊥
link-of-a-call-lost κs x p = apart itself p refl

pub link-of-as-an-index : (κs : _) (x : _) → link-of.Post κs (sorts.NameMember 5, tt) 4 x → ⊥
link-of-as-an-index κs x p = apart itself p refl

abbrev assigned : Option ℕ → ℕ
assigned (Some link) = suc link
assigned None = 0

pub to-assign-left-a-call : (κs : _) (x : _) → to-assign-left.Post κs (sorts.Call 5 called, tt) (Some 5) x → ⊥
to-assign-left-a-call κs x p = apart assigned p refl

pub to-assign-left-without-members : (κs : _) (x : _) → to-assign-left.Post κs (sorts.NameMember 5, tt) None x → ⊥
to-assign-left-without-members κs x p = apart assigned p refl

pub atom-expr-name-as-another : (κs : _) (x : _) → atom-expr.Post κs (1, (5, tt)) (sorts.Other 5) x → ⊥
atom-expr-name-as-another κs x p = apart sort p refl

pub atom-expr-name-as-another-by-form : (κs : _) (x : _) → atom-expr-of.Post κs (forms.Ident, (5, tt)) (sorts.Other 5) x → ⊥
atom-expr-name-as-another-by-form κs x p = apart sort p refl

pub atom-expr-parentheses-as-a-name : (κs : _) (x : _) → atom-expr.Post κs (0, (5, tt)) (sorts.Name 5) x → ⊥
atom-expr-parentheses-as-a-name κs x p = apart sort p refl

pub atom-expr-parentheses-as-a-name-by-form : (κs : _) (x : _) → atom-expr-of.Post κs (forms.OpenParen, (5, tt)) (sorts.Name 5) x → ⊥
atom-expr-parentheses-as-a-name-by-form κs x p = apart sort p refl

pub atom-expr-name-past-the-chain : (κs : _) (x : _) → atom-expr.Post κs (15, (5, tt)) (sorts.Name 5) x → ⊥
atom-expr-name-past-the-chain κs x p = apart sort p refl

-- records over children: of records 1 and 2 the third

pub couple-second-child-alone : (κs : _) (x : _) → record-couple.Post κs (parser (built 2), (node.Binary, (0, (9, (1, (2, tt)))))) (Ok 3) x → get_or x.0.now.nodes.now (cell 2 FIRST) 0 ≡ 2 → ⊥
unfolding couple close add append write put
couple-second-child-alone κs x p h = unlike (word (cell 2 FIRST)) p.0 h refl

pub couple-operator-lost : (κs : _) (x : _) → record-couple.Post κs (parser (built 2), (node.Binary, (0, (9, (1, (2, tt)))))) (Ok 3) x → get_or x.0.now.nodes.now (cell 2 ONE) 0 ≡ 0 → ⊥
unfolding couple close add append write put
couple-operator-lost κs x p h = unlike (word (cell 2 ONE)) p.0 h refl

pub row-record-counts-the-last : (κs : _) (x : _) → row-record.Post κs (parser (built 2), (node.MatchCase, (0, (row 1 1 1, (2, tt))))) (Ok 3) x → get_or x.0.now.nodes.now (cell 2 FLAGS) 0 ≡ 2 → ⊥
unfolding row_record close add append write put
row-record-counts-the-last κs x p h = unlike (word (cell 2 FLAGS)) p.0 h refl

pub row-record-last-left-out : (κs : _) (x : _) → row-record.Post κs (parser (built 2), (node.MatchCase, (0, (row 1 1 1, (2, tt))))) (Ok 3) x → get_or x.0.now.nodes.now (cell 0 NEXT) 0 ≡ 0 → ⊥
unfolding row_record close add append write put
row-record-last-left-out κs x p h = unlike (word (cell 0 NEXT)) p.0 h refl

pub list-record-not-counted : (κs : _) (x : _) → list-record.Post κs (parser (built 1), (0, (node.List, (Ok (so (row 1 1 1)), tt)))) (Ok 2) x → get_or x.0.now.nodes.now (cell 1 FLAGS) 0 ≡ 0 → ⊥
unfolding list_record close append write put
list-record-not-counted κs x p h = unlike (word (cell 1 FLAGS)) p.0 h refl

pub list-record-in-spite-of-a-refusal : (κs : _) (x : _) → list-record.Post κs (parser begin, (0, (node.List, (Err (stops.Refused refusals.TooDeep), tt)))) (Ok 1) x → ⊥
list-record-in-spite-of-a-refusal κs x p = apart outcome p.0 refl

-- blocks and functions

pub block-record-always-wrapped : (κs : _) (x : _) → block-record.Post κs (parser (built 0), (0, (0, (0, (row 0 0 0, tt))))) (Ok 2) x → ⊥
unfolding block_record wrapped close append
block-record-always-wrapped κs x p = apart (answer itself) p.0 refl

pub block-record-closure-left-out : (κs : _) (x : _) → block-record.Post κs (parser (built 0), (0, (node.Closure, (0, (row 0 0 0, tt))))) (Ok 1) x → ⊥
unfolding block_record wrapped close append write put
block-record-closure-left-out κs x p = apart (answer itself) p.0 refl

pub fn-record-glo-for-the-name : (κs : _) (x : _) → fn-record.Post κs (parser (built 2), (0, (None, (1, (2, tt))))) (Ok 3) x → get_or x.0.now.nodes.now (cell 2 FLAGS) 0 ≡ 2 ^ 30 → ⊥
unfolding fn_record add_some close add append write put
fn-record-glo-for-the-name κs x p h = unlike (word (cell 2 FLAGS)) p.0 h refl

pub fn-record-range-of-glo-lost : (κs : _) (x : _) → fn-record.Post κs (parser (built 2), (0, (Some (span 4 7), (1, (2, tt))))) (Ok 3) x → get_or x.0.now.nodes.now (cell 2 ONE) 0 ≡ 0 → ⊥
unfolding fn_record add_some close add append write put
fn-record-range-of-glo-lost κs x p h = unlike (word (cell 2 ONE)) p.0 h refl

pub nameless-with-a-name : (κs : _) (x : _) → nameless.Post κs (parser (built 1), (0, (Ok 1, tt))) (Ok 2) x → get_or x.0.now.nodes.now (cell 1 FLAGS) 0 ≡ 2 ^ 31 → ⊥
unfolding fn_record add_some close add append write put
nameless-with-a-name κs x p h = unlike (word (cell 1 FLAGS)) p.0 h refl

pub nameless-in-spite-of-a-refusal : (κs : _) (x : _) → nameless.Post κs (parser begin, (0, (Err (stops.Refused refusals.TooDeep), tt))) (Ok 1) x → ⊥
nameless-in-spite-of-a-refusal κs x p = apart outcome p.0 refl

pub function-record-of-a-closure : (κs : _) (x : _) → function-record.Post κs (parser (built 1), (0, (true, (so (row 0 0 0), (0, (1, tt)))))) (Ok 2) x → get_or x.0.now.nodes.now (cell 1 KIND) 0 ≡ node.Function → ⊥
unfolding function_record add_some close add append write put
function-record-of-a-closure κs x p h = unlike (word (cell 1 KIND)) p.0 h refl

-- a function of no parameters that returns a type
pub function-record-counts-the-return : (κs : _) (x : _) → function-record.Post κs (parser (built 2), (0, (false, (so (row 0 0 0), (1, (2, tt)))))) (Ok 3) x → get_or x.0.now.nodes.now (cell 2 FLAGS) 0 ≡ 1 + 2 ^ 31 → ⊥
unfolding function_record add_some close add append write put
function-record-counts-the-return κs x p h = unlike (word (cell 2 FLAGS)) p.0 h refl

-- handlers

pub handler-record-body-left-out : (κs : _) (x : _) → handler-record.Post κs (parser (built 2), (0, (so (row 1 1 0), (2, tt)))) (Ok 3) x → get_or x.0.now.nodes.now (cell 0 NEXT) 0 ≡ 0 → ⊥
unfolding handler_record close add append write put
handler-record-body-left-out κs x p h = unlike (word (cell 0 NEXT)) p.0 h refl

pub handler-record-counts-its-body : (κs : _) (x : _) → handler-record.Post κs (parser (built 2), (0, (so (row 1 1 0), (2, tt)))) (Ok 3) x → get_or x.0.now.nodes.now (cell 2 FLAGS) 0 ≡ 1 → ⊥
unfolding handler_record close add append write put
handler-record-counts-its-body κs x p h = unlike (word (cell 2 FLAGS)) p.0 h refl

pub handlers-flagged-as-arguments : (κs : _) (x : _) → handlers-flagged.Post κs (parser begin, (1, (called, (1, tt)))) tt x → get_or x.0.now.nodes.now FLAGS 0 ≡ flagged 1 2 true false → ⊥
unfolding handlers_flagged reflag put
handlers-flagged-as-arguments κs x p h = unlike (word FLAGS) p.0 h refl

pub handlers-flagged-lambda-lost : (κs : _) (x : _) → handlers-flagged.Post κs (parser begin, (1, (called, (1, tt)))) tt x → get_or x.0.now.nodes.now FLAGS 0 ≡ flagged 2 1 false false → ⊥
unfolding handlers_flagged reflag put
handlers-flagged-lambda-lost κs x p h = unlike (word FLAGS) p.0 h refl

-- the end of the call moved to that of its last handler
pub handlers-flagged-range-grown : (κs : _) (x : _) → handlers-flagged.Post κs (parser begin, (1, (called, (1, tt)))) tt x → get_or x.0.now.nodes.now END 0 ≡ 9 → ⊥
unfolding handlers_flagged reflag put
handlers-flagged-range-grown κs x p h = unlike (word END) p.0 h refl

-- `if` and loops

pub if-record-else-not-flagged : (κs : _) (x : _) → if-record.Post κs (parser (built 2), (0, (row 1 1 1, (Ok 2, tt)))) (Ok 3) x → get_or x.0.now.nodes.now (cell 2 FLAGS) 0 ≡ 0 → ⊥
unfolding if_record add_some close add append write put
if-record-else-not-flagged κs x p h = unlike (word (cell 2 FLAGS)) p.0 h refl

pub if-record-in-spite-of-a-refusal : (κs : _) (x : _) → if-record.Post κs (parser begin, (0, (row 1 1 1, (Err (stops.Refused refusals.TooDeep), tt)))) (Ok 3) x → ⊥
if-record-in-spite-of-a-refusal κs x p = apart outcome p.0 refl

pub loop-record-as-while : (κs : _) (x : _) → loop-record.Post κs (parser (built 1), (0, (Ok 1, tt))) (Ok 2) x → get_or x.0.now.nodes.now (cell 1 KIND) 0 ≡ node.While → ⊥
unfolding close append write put
loop-record-as-while κs x p h = unlike (word (cell 1 KIND)) p.0 h refl

pub loop-record-body-left-out : (κs : _) (x : _) → loop-record.Post κs (parser (built 1), (0, (Ok 1, tt))) (Ok 2) x → get_or x.0.now.nodes.now (cell 1 FIRST) 0 ≡ 0 → ⊥
unfolding close append write put
loop-record-body-left-out κs x p h = unlike (word (cell 1 FIRST)) p.0 h refl

pub round-record-while-as-for : (κs : _) (x : _) → round-record.Post κs (parser (built 2), (0, (10, (0, (row 1 2 2, tt))))) (Ok 3) x → get_or x.0.now.nodes.now (cell 2 KIND) 0 ≡ node.For → ⊥
unfolding round_record close append write put
round-record-while-as-for κs x p h = unlike (word (cell 2 KIND)) p.0 h refl

pub round-record-while-as-for-by-form : (κs : _) (x : _) → round-record-of.Post κs (parser (built 2), (0, (forms.While, (0, (row 1 2 2, tt))))) (Ok 3) x → get_or x.0.now.nodes.now (cell 2 KIND) 0 ≡ node.For → ⊥
unfolding round_record close append write put
round-record-while-as-for-by-form κs x p h = unlike (word (cell 2 KIND)) p.0 h refl

pub round-record-counts-all-children : (κs : _) (x : _) → round-record.Post κs (parser (built 2), (0, (11, (1, (row 1 2 3, tt))))) (Ok 3) x → get_or x.0.now.nodes.now (cell 2 FLAGS) 0 ≡ 3 → ⊥
unfolding round_record close append write put
round-record-counts-all-children κs x p h = unlike (word (cell 2 FLAGS)) p.0 h refl

pub round-record-counts-all-children-by-form : (κs : _) (x : _) → round-record-of.Post κs (parser (built 2), (0, (forms.For, (1, (row 1 2 3, tt))))) (Ok 3) x → get_or x.0.now.nodes.now (cell 2 FLAGS) 0 ≡ 3 → ⊥
unfolding round_record close append write put
round-record-counts-all-children-by-form κs x p h = unlike (word (cell 2 FLAGS)) p.0 h refl

pub round-record-while-past-the-chain : (κs : _) (x : _) → round-record.Post κs (parser (built 2), (0, (15, (0, (row 1 2 2, tt))))) (Ok 3) x → get_or x.0.now.nodes.now (cell 2 KIND) 0 ≡ node.While → ⊥
unfolding round_record close append write put
round-record-while-past-the-chain κs x p h = unlike (word (cell 2 KIND)) p.0 h refl

-- calls and members

pub call-record-ends-the-chain : (κs : _) (x : _) → call-record.Post κs (parser (built 1), (0, (row 1 1 0, (0, tt)))) (Ok (Break (sorts.Call 2 (record { kids = row 1 1 0; arguments = 0; lambda = false })))) x → ⊥
unfolding call_record add_some close append
call-record-ends-the-chain κs x p = apart (answer turned_to) p.0 refl

-- no handler could join it
pub call-record-as-another-expression : (κs : _) (x : _) → call-record.Post κs (parser (built 1), (0, (row 1 1 0, (0, tt)))) (Ok (Continue (sorts.Other 2))) x → ⊥
unfolding call_record add_some close append
call-record-as-another-expression κs x p = apart (answer turned_to) p.0 refl

-- `a?.b`
pub member-record-safe-and-assigned-to : (κs : _) (x : _) → member-record.Post κs (parser (built 2), (0, (sorts.Name 1, (Some (span 1 2), (1, (false, (2, tt))))))) (Ok (Continue (sorts.NameMember 3))) x → ⊥
unfolding member_record add_some close add append put
member-record-safe-and-assigned-to κs x p = apart (answer turned_to) p.0 refl

pub member-record-safe-and-assigned-to-by-opening : (κs : _) (x : _) → member-record-of.Post κs (parser (built 2), (0, (sorts.Name 1, (Some (span 1 2), (openings.Dot, (false, (2, tt))))))) (Ok (Continue (sorts.NameMember 3))) x → ⊥
unfolding member_record add_some close add append put
member-record-safe-and-assigned-to-by-opening κs x p = apart (answer turned_to) p.0 refl

-- `a.#`
pub member-record-meta-as-plain : (κs : _) (x : _) → member-record.Post κs (parser (built 1), (0, (sorts.Name 1, (None, (1, (true, (0, tt))))))) (Ok (Continue (sorts.NameMember 2))) x → get_or x.0.now.nodes.now (cell 1 FLAGS) 0 ≡ members.Dot → ⊥
unfolding member_record add_some close add append write put
member-record-meta-as-plain κs x p h = unlike (word (cell 1 FLAGS)) p.0 h refl

pub member-record-meta-as-plain-by-opening : (κs : _) (x : _) → member-record-of.Post κs (parser (built 1), (0, (sorts.Name 1, (None, (openings.Dot, (true, (0, tt))))))) (Ok (Continue (sorts.NameMember 2))) x → get_or x.0.now.nodes.now (cell 1 FLAGS) 0 ≡ members.Dot → ⊥
unfolding member_record add_some close add append write put
member-record-meta-as-plain-by-opening κs x p h = unlike (word (cell 1 FLAGS)) p.0 h refl

-- past the chain a member's kind is that of `[x]`, meta or not
pub member-record-meta-past-the-chain : (κs : _) (x : _) → member-record.Post κs (parser (built 1), (0, (sorts.Name 1, (None, (3, (true, (0, tt))))))) (Ok (Continue (sorts.NameMember 2))) x → get_or x.0.now.nodes.now (cell 1 FLAGS) 0 ≡ members.BracketMeta → ⊥
unfolding member_record add_some close add append write put
member-record-meta-past-the-chain κs x p h = unlike (word (cell 1 FLAGS)) p.0 h refl
