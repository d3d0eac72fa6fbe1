-- Two wrong answers to each public function of parts' module steps. `Post` is the contract as the check reads it from the source.
-- Assumes nothing.
use Rattle.std.specs.Prelude.{Ok, Err, Some, None}
use Rattle.std.proofs.Common.{◌≡◌, ℕ, suc, true, false, List, [], ◌∷◌, get_or, refl}
use Rattle.std.specs.declared.ops.ControlFlow.TheVariants.{Continue, Break}
use Rattle.cursor.specs.declared.Refusal.TheVariants as refusals
use Rattle.cursor.specs.declared.Stop.TheVariants as stops
use Rattle.kinds.specs.Number as kind
use Rattle.kinds.specs.Operators.{compound_of}
use Rattle.kinds.specs.Kinds.{is_trivia}
use Rattle.kinds.specs.Spelling.{bytes, equal}
use Rattle.kinds.specs.TypeWords.{type_word}
use Rattle.cursor.specs.Sheet.{count, kind_at, range_at, Ranged}
use Rattle.cursor.specs.Layout.{KIND, END, FIRST, ONE}
use Rattle.cursor.specs.Node as node
use Rattle.cursor.specs.Rule.{begin, turns, iterate}
use Rattle.cursor.specs.Buffer.{put}
use Rattle.cursor.specs.Tokens.{past_from, past_trivia, bump}
use Rattle.cursor.specs.Checks.{want, check, eat, unexpected, expect, eat_range, choose}
use Rattle.cursor.specs.Records.{bit, write, append, add}
use Rattle.types.specs.Lits.{literal, lit_from, lit_at, lit, ident_at, ident}
use Rattle.types.specs.Items.{start, close, so}
use Rattle.types.specs.Types.{params, closure_params}
use Rattle.types.specs.Patterns.{pattern, patterns}
use Rattle.parts.specs.declared.values.Expr.TheVariants as sorts
use Rattle.parts.specs.Steps.{items_end, checked_type, any_params, braced, no_member, pound, meta_end, lit_key, paren_key_at, paren_key, leaf, name_turn, names, loop_names, pattern_turn, case_patterns, type_checked, type_check_at, type_check}
use Rattle.parts.proofs.steps.alone.Reads as fault-alone
use Rattle.parts.proofs.steps.any_params.Reads as any-params
use Rattle.parts.proofs.steps.braced.Reads as is-braced
use Rattle.parts.proofs.steps.question.Reads as question
use Rattle.parts.proofs.steps.no_member.Reads as no-member
use Rattle.parts.proofs.steps.pound.Reads as pound-read
use Rattle.parts.proofs.steps.meta_end.Reads as meta-end
use Rattle.parts.proofs.steps.meta_end_of.Reads as meta-end-of
use Rattle.parts.proofs.steps.items_end.Reads as items-end
use Rattle.parts.proofs.steps.items_end_of.Reads as items-end-of
use Rattle.parts.proofs.steps.operator_of.Reads as operator-of
use Rattle.parts.proofs.steps.lit_key.Reads as lit-key
use Rattle.parts.proofs.steps.paren_key.Reads as paren-key
use Rattle.parts.proofs.steps.leaf.Reads as read-leaf
use Rattle.parts.proofs.steps.leaf_of.Reads as read-leaf-of
use Rattle.parts.proofs.steps.loop_names.Reads as loop-names
use Rattle.parts.proofs.steps.loop_names_of.Reads as loop-names-of
use Rattle.parts.proofs.steps.case_patterns.Reads as case-patterns
use Rattle.parts.proofs.steps.type_check.Reads as type-check
use Rattle.parts.specs.declared.forms.Form.TheVariants as forms
use Rattle.parts.specs.declared.forms.Opening.TheVariants as openings
use Rattle.parts.specs.declared.forms.ItemRule.TheVariants as lists
use Rattle.ruled_out.proofs.Small.{spelled, sheet, parser, state, span, row, apart, unlike, outcome, strays, word, answer, itself, seen}

-- a sheet of one token, of one byte, and one of two
abbrev token : ℕ → List ℕ
token k = k ∷ 0 ∷ 1 ∷ []

abbrev two : ℕ → ℕ → List ℕ
two k l = k ∷ 0 ∷ 1 ∷ l ∷ 1 ∷ 2 ∷ []

-- errors, operators and ends of lists

pub alone-with-a-list : (κs : _) (x : _) → fault-alone.Post κs (kind.Try, (span 0 3, tt)) (record { class = 0; found = kind.Try; span = span 0 3; listed = true }) x → ⊥
alone-with-a-list κs x p = apart (λ f. bit f.listed) p refl

pub alone-as-an-integer : (κs : _) (x : _) → fault-alone.Post κs (kind.Try, (span 0 3, tt)) (record { class = 1; found = kind.Try; span = span 0 3; listed = false }) x → ⊥
alone-as-an-integer κs x p = apart (λ f. f.class) p refl

pub items-end-of-elements-in-a-parenthesis : (κs : _) (x : _) → items-end.Post κs (1, tt) kind.CloseParen x → ⊥
unfolding items_end
items-end-of-elements-in-a-parenthesis κs x p = apart itself p refl

pub items-end-of-elements-in-a-parenthesis-by-rule : (κs : _) (x : _) → items-end-of.Post κs (lists.Elements, tt) kind.CloseParen x → ⊥
unfolding items_end
items-end-of-elements-in-a-parenthesis-by-rule κs x p = apart itself p refl

pub items-end-of-properties-in-a-bracket : (κs : _) (x : _) → items-end.Post κs (2, tt) kind.CloseBracket x → ⊥
unfolding items_end
items-end-of-properties-in-a-bracket κs x p = apart itself p refl

pub items-end-of-properties-in-a-bracket-by-rule : (κs : _) (x : _) → items-end-of.Post κs (lists.Properties, tt) kind.CloseBracket x → ⊥
unfolding items_end
items-end-of-properties-in-a-bracket-by-rule κs x p = apart itself p refl

pub items-end-past-the-rules-in-a-parenthesis : (κs : _) (x : _) → items-end.Post κs (3, tt) kind.CloseParen x → ⊥
unfolding items_end
items-end-past-the-rules-in-a-parenthesis κs x p = apart itself p refl

pub operator-of-the-sign : (κs : _) (x : _) → operator-of.Post κs (kind.AddAssign, tt) kind.AddAssign x → ⊥
unfolding compound_of
operator-of-the-sign κs x p = apart itself p refl

pub operator-of-the-next-sign : (κs : _) (x : _) → operator-of.Post κs (kind.AddAssign, tt) kind.Sub x → ⊥
unfolding compound_of
operator-of-the-next-sign κs x p = apart itself p refl

-- parameters, braces and members

pub any-params-of-a-closure-in-parentheses : (κs : _) (x : _) → any-params.Post κs (parser begin, (sheet (two kind.OpenParen kind.CloseParen), (1, (true, tt)))) (Ok (so (row 0 0 0))) x → ⊥
unfolding any_params closure_params expect unexpected eat check want kind_at count
any-params-of-a-closure-in-parentheses κs x p = apart outcome p.0 refl

pub any-params-of-a-function-between-bars : (κs : _) (x : _) → any-params.Post κs (parser begin, (sheet (two kind.VBar kind.VBar), (1, (false, tt)))) (Ok (so (row 0 0 0))) x → ⊥
unfolding any_params params expect unexpected eat check want kind_at count
any-params-of-a-function-between-bars κs x p = apart outcome p.0 refl

pub braced-where-none-is-allowed : (κs : _) (x : _) → is-braced.Post κs (parser begin, (sheet (token kind.OpenBrace), (false, tt))) (Ok true) x → ⊥
unfolding braced
braced-where-none-is-allowed κs x p = apart (answer bit) p.0 refl

pub braced-takes-the-brace : (κs : _) (x : _) → is-braced.Post κs (parser begin, (sheet (token kind.OpenBrace), (true, tt))) (Ok true) x → x.0.now.state ≡ state 1 1 1 0 0 → ⊥
unfolding braced check kind_at count
braced-takes-the-brace κs x p h = strays (λ s. s.at) p.0 h refl

-- where a range ends, and 1 more; 0 for none
abbrev end_of : Ranged → ℕ
end_of (Some r) = suc r.end
end_of None = 0

pub question-not-taken : (κs : _) (x : _) → question.Post κs (parser begin, (sheet (token kind.Question), tt)) (Ok (Some (span 0 1))) x → x.0.now.state ≡ begin → ⊥
unfolding eat_range check bump past_trivia past_from kind_at count
question-not-taken κs x p h = strays (λ s. s.at) p.0 h refl

pub question-range-left-out : (κs : _) (x : _) → question.Post κs (parser begin, (sheet (token kind.Question), tt)) (Ok None) x → ⊥
unfolding eat_range check bump kind_at range_at count
question-range-left-out κs x p = apart (answer end_of) p.0 refl

pub no-member-after-a-question : (κs : _) (x : _) → no-member.Post κs (seen begin, (sheet [], (sorts.Name 1, (Some (span 0 1), tt)))) (Ok (Break (sorts.Name 1))) x → ⊥
unfolding no_member unexpected
no-member-after-a-question κs x p = apart outcome p refl

pub no-member-always-an-error : (κs : _) (x : _) → no-member.Post κs (seen begin, (sheet [], (sorts.Name 1, (None, tt)))) (Err (stops.Fault (record { class = 0; found = kind.Eof; span = span 0 0; listed = true }))) x → ⊥
unfolding no_member
no-member-always-an-error κs x p = apart outcome p refl

-- `#`, behind a member's opening token
pub pound-not-taken : (κs : _) (x : _) → pound-read.Post κs (parser begin, (sheet (two kind.Dot kind.Pound), tt)) (Ok true) x → x.0.now.state ≡ state 1 1 1 0 0 → ⊥
unfolding pound eat check bump past_trivia past_from is_trivia kind_at range_at count
pound-not-taken κs x p h = strays (λ s. s.at) p.0 h refl

pub pound-left-out : (κs : _) (x : _) → pound-read.Post κs (parser begin, (sheet (two kind.Dot kind.Pound), tt)) (Ok false) x → ⊥
unfolding pound eat check bump past_trivia past_from is_trivia kind_at range_at count
pound-left-out κs x p = apart (answer bit) p.0 refl

pub meta-end-without-its-bracket : (κs : _) (x : _) → meta-end.Post κs (parser begin, (sheet (token kind.Ident), (0, tt))) (Ok 0) x → ⊥
unfolding meta_end expect unexpected eat check want kind_at count
meta-end-without-its-bracket κs x p = apart outcome p.0 refl

pub meta-end-without-its-bracket-by-opening : (κs : _) (x : _) → meta-end-of.Post κs (parser begin, (sheet (token kind.Ident), (openings.Bracket, tt))) (Ok 0) x → ⊥
unfolding meta_end expect unexpected eat check want kind_at count
meta-end-without-its-bracket-by-opening κs x p = apart outcome p.0 refl

pub meta-end-with-a-property : (κs : _) (x : _) → meta-end.Post κs (parser begin, (sheet [], (1, tt))) (Ok 1) x → ⊥
unfolding meta_end
meta-end-with-a-property κs x p = apart (answer itself) p.0 refl

pub meta-end-with-a-property-by-opening : (κs : _) (x : _) → meta-end-of.Post κs (parser begin, (sheet [], (openings.Dot, tt))) (Ok 1) x → ⊥
unfolding meta_end
meta-end-with-a-property-by-opening κs x p = apart (answer itself) p.0 refl

-- a bracket that is taken where no opening token is known
pub meta-end-bracket-past-the-chain : (κs : _) (x : _) → meta-end.Post κs (parser begin, (sheet (token kind.CloseBracket), (3, tt))) (Ok 0) x → x.0.now.state ≡ state 1 1 1 0 0 → ⊥
unfolding meta_end
meta-end-bracket-past-the-chain κs x p h = strays (λ s. s.at) p.0 h refl

-- keys

pub lit-key-without-its-colon : (κs : _) (x : _) → lit-key.Post κs (parser begin, (sheet (token kind.Null), tt)) (Ok 1) x → ⊥
unfolding lit_key lit lit_at lit_from literal expect unexpected eat check want bump past_trivia past_from kind_at range_at count append
lit-key-without-its-colon κs x p = apart outcome p.0 refl

pub lit-key-colon-not-taken : (κs : _) (x : _) → lit-key.Post κs (parser begin, (sheet (two kind.Null kind.Colon), tt)) (Ok 1) x → x.0.now.state ≡ state 1 1 1 1 0 → ⊥
unfolding lit_key lit lit_at lit_from literal expect eat check bump past_trivia past_from is_trivia kind_at range_at count append
lit-key-colon-not-taken κs x p h = strays (λ s. s.at) p.0 h refl

-- `) :`, behind an expression
pub paren-key-range-over-the-colon : (κs : _) (x : _) → paren-key.Post κs (parser begin, (sheet (two kind.CloseParen kind.Colon), (0, (3, tt)))) (Ok 1) x → get_or x.0.now.nodes.now END 0 ≡ 2 → ⊥
unfolding paren_key paren_key_at expect eat check bump past_trivia past_from is_trivia kind_at range_at count put append write
paren-key-range-over-the-colon κs x p h = unlike (word END) p.0 h refl

pub paren-key-child-left-out : (κs : _) (x : _) → paren-key.Post κs (parser begin, (sheet (two kind.CloseParen kind.Colon), (0, (3, tt)))) (Ok 1) x → get_or x.0.now.nodes.now FIRST 0 ≡ 0 → ⊥
unfolding paren_key paren_key_at expect eat check bump past_trivia past_from is_trivia kind_at count put append write
paren-key-child-left-out κs x p h = unlike (word FIRST) p.0 h refl

-- atoms

pub leaf-break-as-continue : (κs : _) (x : _) → read-leaf.Post κs (parser begin, (sheet (token kind.Break), (0, (12, tt)))) (Ok 1) x → get_or x.0.now.nodes.now KIND 0 ≡ node.Continue → ⊥
unfolding leaf close bump count put append write
leaf-break-as-continue κs x p h = unlike (word KIND) p.0 h refl

pub leaf-break-as-continue-by-form : (κs : _) (x : _) → read-leaf-of.Post κs (parser begin, (sheet (token kind.Break), (0, (forms.Break, tt)))) (Ok 1) x → get_or x.0.now.nodes.now KIND 0 ≡ node.Continue → ⊥
unfolding leaf close bump count put append write
leaf-break-as-continue-by-form κs x p h = unlike (word KIND) p.0 h refl

pub leaf-not-moved : (κs : _) (x : _) → read-leaf.Post κs (parser begin, (sheet (token kind.Break), (0, (12, tt)))) (Ok 1) x → x.0.now.state ≡ state 0 0 0 1 0 → ⊥
unfolding leaf close bump past_trivia past_from count append
leaf-not-moved κs x p h = strays (λ s. s.at) p.0 h refl

pub leaf-not-moved-by-form : (κs : _) (x : _) → read-leaf-of.Post κs (parser begin, (sheet (token kind.Break), (0, (forms.Break, tt)))) (Ok 1) x → x.0.now.state ≡ state 0 0 0 1 0 → ⊥
unfolding leaf close bump past_trivia past_from count append
leaf-not-moved-by-form κs x p h = strays (λ s. s.at) p.0 h refl

pub leaf-break-past-the-chain : (κs : _) (x : _) → read-leaf.Post κs (parser begin, (sheet (token kind.Break), (0, (15, tt)))) (Ok 1) x → get_or x.0.now.nodes.now KIND 0 ≡ node.Break → ⊥
unfolding leaf close bump count put append write
leaf-break-past-the-chain κs x p h = unlike (word KIND) p.0 h refl

pub loop-names-of-while : (κs : _) (x : _) → loop-names.Post κs (parser begin, (sheet (two kind.Ident kind.In), (10, tt))) (Ok (row 1 1 1)) x → ⊥
unfolding loop_names
loop-names-of-while κs x p = apart (answer (λ k. k.count)) p.0 refl

pub loop-names-of-while-by-form : (κs : _) (x : _) → loop-names-of.Post κs (parser begin, (sheet (two kind.Ident kind.In), (forms.While, tt))) (Ok (row 1 1 1)) x → ⊥
unfolding loop_names
loop-names-of-while-by-form κs x p = apart (answer (λ k. k.count)) p.0 refl

pub loop-names-without-in : (κs : _) (x : _) → loop-names.Post κs (parser begin, (sheet (token kind.Ident), (11, tt))) (Ok (row 1 1 1)) x → ⊥
unfolding loop_names names name_turn iterate turns ident ident_at expect unexpected eat check want bump past_trivia past_from kind_at range_at count append add
loop-names-without-in κs x p = apart outcome p.0 refl

pub loop-names-without-in-by-form : (κs : _) (x : _) → loop-names-of.Post κs (parser begin, (sheet (token kind.Ident), (forms.For, tt))) (Ok (row 1 1 1)) x → ⊥
unfolding loop_names names name_turn iterate turns ident ident_at expect unexpected eat check want bump past_trivia past_from kind_at range_at count append add
loop-names-without-in-by-form κs x p = apart outcome p.0 refl

pub loop-names-none-past-the-chain : (κs : _) (x : _) → loop-names.Post κs (parser begin, (sheet (token kind.Ident), (15, tt))) (Ok (row 0 0 0)) x → ⊥
unfolding loop_names names name_turn iterate turns ident ident_at expect unexpected eat check want bump past_trivia past_from kind_at range_at count append add
loop-names-none-past-the-chain κs x p = apart outcome p.0 refl

pub case-patterns-refused-for-readings : (κs : _) (x : _) → case-patterns.Post κs (parser begin, (sheet (token kind.Ident), (0, tt))) (Err (stops.Refused refusals.AllSpent)) x → ⊥
unfolding case_patterns pattern_turn iterate turns patterns
case-patterns-refused-for-readings κs x p = apart outcome p.0 refl

pub case-patterns-first-not-counted : (κs : _) (x : _) → case-patterns.Post κs (parser begin, (sheet (token kind.Ident), (1, tt))) (Ok (row 1 1 0)) x → ⊥
unfolding case_patterns pattern_turn iterate turns patterns pattern start choose ident ident_at expect eat check want bump past_trivia past_from kind_at range_at count append add
case-patterns-first-not-counted κs x p = apart (answer (λ k. k.count)) p.0 refl

pub type-check-null-as-the-second-type : (κs : _) (x : _) → type-check.Post κs (parser begin, (sheet (token kind.Null), (0, (sorts.Name 3, tt)))) (Ok (Continue (sorts.Other 1))) x → get_or x.0.now.nodes.now ONE 0 ≡ 1 → ⊥
unfolding type_check type_check_at type_checked checked_type close bump kind_at range_at count put append write
type-check-null-as-the-second-type κs x p h = unlike (word ONE) p.0 h refl

pub type-check-of-any-name : (κs : _) (x : _) → type-check.Post κs (parser begin, (spelled (bytes "a") (token kind.Ident), (0, (sorts.Name 3, tt)))) (Ok (Continue (sorts.Other 1))) x → ⊥
unfolding type_check type_check_at type_checked checked_type type_word equal unexpected kind_at range_at count
type-check-of-any-name κs x p = apart outcome p.0 refl
