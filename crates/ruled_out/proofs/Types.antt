-- Two wrong answers or more to each public function of types' module types. `Post` is the contract as the check reads it from the source.
-- Assumes nothing.
use Rattle.std.specs.Prelude.{Ok, Err}
use Rattle.std.proofs.Common.{◌≡◌, ℕ, ◌^◌, false, List, [], ◌∷◌, get_or, refl}
use Rattle.cursor.specs.declared.Refusal.TheVariants as refusals
use Rattle.cursor.specs.declared.Stop.TheVariants as stops
use Rattle.kinds.specs.Number as kind
use Rattle.kinds.specs.Kinds.{is_trivia}
use Rattle.cursor.specs.Layout.{KIND, FIRST, FLAGS, cell}
use Rattle.cursor.specs.Node as node
use Rattle.cursor.specs.Sheet.{count, kind_at, range_at}
use Rattle.cursor.specs.Rule.{begin, turns, iterate}
use Rattle.cursor.specs.Buffer.{put}
use Rattle.cursor.specs.Tokens.{past_from, past_trivia, bump, eat_trivia, eol_turn, eat_eol}
use Rattle.cursor.specs.Checks.{want, check, eat, unexpected, expect, choose}
use Rattle.cursor.specs.Records.{write, append, add}
use Rattle.types.specs.Lits.{literal, lit_from, lit_at, lit, ident_at, ident}
use Rattle.types.specs.Items.{start, close, so, one_item, after_item, item_turn, items_until_with_last}
use Rattle.types.specs.Types.{type_last_kind, type_end, union_turn, union, type, returns, named, typed_ident, table_ty_pair, type_item, type_items, type_paren, type_table, type_atom, atoms, params, closure_params}
use Rattle.types.proofs.types.ty.Reads as ty
use Rattle.types.proofs.types.returns.Reads as read-returns
use Rattle.types.proofs.types.typed_ident.Reads as typed-ident
use Rattle.types.proofs.types.type_items.Reads as type-items
use Rattle.types.proofs.types.type_items_of.Reads as type-items-of
use Rattle.types.proofs.types.type_atom.Reads as type-atom
use Rattle.types.proofs.types.params.Reads as read-params
use Rattle.types.proofs.types.closure_params.Reads as closure-params
use Rattle.types.specs.declared.types.TypeRule.TheVariants as rules
use Rattle.ruled_out.proofs.Small.{sheet, parser, state, row, apart, unlike, outcome, strays, word, answer, itself}

-- `a`; `a )`; `( )`; `| |`
abbrev name : List ℕ
name = kind.Ident ∷ 0 ∷ 1 ∷ []

abbrev name-shut : List ℕ
name-shut = kind.Ident ∷ 0 ∷ 1 ∷ kind.CloseParen ∷ 1 ∷ 2 ∷ []

abbrev parens : List ℕ
parens = kind.OpenParen ∷ 0 ∷ 1 ∷ kind.CloseParen ∷ 1 ∷ 2 ∷ []

abbrev bars : List ℕ
bars = kind.VBar ∷ 0 ∷ 1 ∷ kind.VBar ∷ 1 ∷ 2 ∷ []

pub ty-refused-for-readings : (κs : _) (x : _) → ty.Post κs (parser begin, (sheet name, (0, tt))) (Err (stops.Refused refusals.AllSpent)) x → ⊥
unfolding type start atoms
ty-refused-for-readings κs x p = apart outcome p.0 refl

-- one type as a union
pub ty-wraps-a-single-part : (κs : _) (x : _) → ty.Post κs (parser begin, (sheet name, (1, tt))) (Ok 2) x → ⊥
unfolding type start atoms type_atom ident ident_at expect eat check want bump choose past_trivia past_from kind_at range_at count append
ty-wraps-a-single-part κs x p = apart (answer itself) p.0 refl

-- `a | b`
pub ty-union-over-the-last-part : (κs : _) (x : _) → ty.Post κs (parser begin, (sheet (kind.Ident ∷ 0 ∷ 1 ∷ kind.VBar ∷ 1 ∷ 2 ∷ kind.Ident ∷ 2 ∷ 3 ∷ []), (1, tt))) (Ok 3) x → get_or x.0.now.nodes.now (cell 2 FIRST) 0 ≡ 2 → ⊥
unfolding type union union_turn start atoms type_atom ident ident_at expect eat check want bump choose past_trivia past_from is_trivia kind_at range_at count put append write iterate turns add close
ty-union-over-the-last-part κs x p h = unlike (word (cell 2 FIRST)) p.0 h refl

pub returns-a-link-for-none : (κs : _) (x : _) → read-returns.Post κs (parser begin, (sheet [], (1, tt))) (Ok 1) x → ⊥
unfolding returns eat check want kind_at count
returns-a-link-for-none κs x p = apart (answer itself) p.0 refl

pub returns-nothing-after-an-arrow : (κs : _) (x : _) → read-returns.Post κs (parser begin, (sheet (kind.Arrow ∷ 0 ∷ 2 ∷ []), (1, tt))) (Ok 0) x → ⊥
unfolding returns type start atoms type_atom lit lit_at unexpected eat check want bump choose past_trivia past_from kind_at range_at count
returns-nothing-after-an-arrow κs x p = apart outcome p.0 refl

pub typed-ident-name-left-out : (κs : _) (x : _) → typed-ident.Post κs (parser begin, (sheet name, (1, (false, tt)))) (Ok 0) x → ⊥
unfolding typed_ident start ident ident_at expect eat check want bump past_trivia past_from kind_at range_at count append
typed-ident-name-left-out κs x p = apart (answer itself) p.0 refl

pub typed-ident-nothing-after-a-colon : (κs : _) (x : _) → typed-ident.Post κs (parser begin, (sheet (kind.Ident ∷ 0 ∷ 1 ∷ kind.Colon ∷ 1 ∷ 2 ∷ []), (0, (false, tt)))) (Ok 1) x → ⊥
unfolding typed_ident named type atoms start ident ident_at expect eat check bump past_trivia past_from is_trivia kind_at range_at count append
typed-ident-nothing-after-a-colon κs x p = apart outcome p.0 refl

-- a table type's pairs, up to a parenthesis
pub type-items-end-at-another-kind : (κs : _) (x : _) → type-items.Post κs (parser begin, (sheet (kind.CloseParen ∷ 0 ∷ 1 ∷ []), (1, (2, (row 0 0 0, tt))))) (Ok (so (row 0 0 0))) x → ⊥
unfolding type_items items_until_with_last item_turn one_item type_item table_ty_pair type_end type_last_kind start ident ident_at expect unexpected eat_eol eat_trivia eol_turn iterate turns eat check want past_trivia past_from is_trivia kind_at range_at count
type-items-end-at-another-kind κs x p = apart outcome p.0 refl

pub type-items-end-at-another-kind-by-rule : (κs : _) (x : _) → type-items-of.Post κs (parser begin, (sheet (kind.CloseParen ∷ 0 ∷ 1 ∷ []), (1, (rules.TableTyPairs, (row 0 0 0, tt))))) (Ok (so (row 0 0 0))) x → ⊥
unfolding type_items items_until_with_last item_turn one_item type_item table_ty_pair type_end type_last_kind start ident ident_at expect unexpected eat_eol eat_trivia eol_turn iterate turns eat check want past_trivia past_from is_trivia kind_at range_at count
type-items-end-at-another-kind-by-rule κs x p = apart outcome p.0 refl

pub type-items-one-item-short : (κs : _) (x : _) → type-items.Post κs (parser begin, (sheet name-shut, (1, (3, (row 0 0 0, tt))))) (Ok (so (row 0 0 0))) x → ⊥
unfolding type_items items_until_with_last item_turn one_item after_item type_item type atoms type_atom type_end type_last_kind start ident ident_at expect eat_eol eat_trivia eol_turn iterate turns eat check want bump choose past_trivia past_from is_trivia kind_at range_at count append add
type-items-one-item-short κs x p = apart (answer (λ i. i.kids.count)) p.0 refl

pub type-items-one-item-short-by-rule : (κs : _) (x : _) → type-items-of.Post κs (parser begin, (sheet name-shut, (1, (rules.Types, (row 0 0 0, tt))))) (Ok (so (row 0 0 0))) x → ⊥
unfolding type_items items_until_with_last item_turn one_item after_item type_item type atoms type_atom type_end type_last_kind start ident ident_at expect eat_eol eat_trivia eol_turn iterate turns eat check want bump choose past_trivia past_from is_trivia kind_at range_at count append add
type-items-one-item-short-by-rule κs x p = apart (answer (λ i. i.kids.count)) p.0 refl

-- past the last rule's number a list ends at a parenthesis, and not as the pairs of a table type do
pub type-items-past-the-rules-as-pairs : (κs : _) (x : _) → type-items.Post κs (parser begin, (sheet (kind.CloseBrace ∷ 0 ∷ 1 ∷ []), (1, (7, (row 0 0 0, tt))))) (Ok (so (row 0 0 0))) x → ⊥
unfolding type_items items_until_with_last item_turn one_item type_item type atoms type_atom type_end type_last_kind start lit lit_at lit_from literal unexpected eat_eol eat_trivia eol_turn iterate turns eat check want choose past_trivia past_from is_trivia kind_at range_at count
type-items-past-the-rules-as-pairs κs x p = apart outcome p.0 refl

-- `(` and a name, with one level: none is left for the name
pub type-atom-depth-not-lowered : (κs : _) (x : _) → type-atom.Post κs (parser begin, (sheet (kind.OpenParen ∷ 0 ∷ 1 ∷ kind.Ident ∷ 1 ∷ 2 ∷ kind.CloseParen ∷ 2 ∷ 3 ∷ []), (1, tt))) (Ok 2) x → ⊥
unfolding atoms type_atom type_paren type start check bump choose kind_at count
type-atom-depth-not-lowered κs x p = apart outcome p.0 refl

pub type-atom-name-as-a-string : (κs : _) (x : _) → type-atom.Post κs (parser begin, (sheet name, (1, tt))) (Ok 1) x → get_or x.0.now.nodes.now KIND 0 ≡ node.Str → ⊥
unfolding atoms type_atom start ident ident_at expect eat check want bump choose kind_at range_at count put append write
type-atom-name-as-a-string κs x p h = unlike (word KIND) p.0 h refl

-- `{ }`
pub type-atom-table-flags-a-return : (κs : _) (x : _) → type-atom.Post κs (parser begin, (sheet (kind.OpenBrace ∷ 0 ∷ 1 ∷ kind.CloseBrace ∷ 1 ∷ 2 ∷ []), (1, tt))) (Ok 1) x → get_or x.0.now.nodes.now FLAGS 0 ≡ 2 ^ 31 → ⊥
unfolding atoms type_atom type_table type_items items_until_with_last item_turn type_end start eat_eol eat_trivia eol_turn iterate turns eat check want bump choose past_trivia past_from is_trivia kind_at count put append write close
type-atom-table-flags-a-return κs x p h = unlike (word FLAGS) p.0 h refl

pub params-between-bars : (κs : _) (x : _) → read-params.Post κs (parser begin, (sheet bars, (1, (row 0 0 0, tt)))) (Ok (so (row 0 0 0))) x → ⊥
unfolding params expect unexpected eat check want kind_at count
params-between-bars κs x p = apart outcome p.0 refl

-- what stands in the row before the parameters
pub params-row-begun-anew : (κs : _) (x : _) → read-params.Post κs (parser begin, (sheet parens, (1, (row 1 1 0, tt)))) (Ok (so (row 0 0 0))) x → ⊥
unfolding params type_items items_until_with_last item_turn type_end expect eat_eol eat_trivia eol_turn iterate turns eat check bump past_trivia past_from is_trivia kind_at count
params-row-begun-anew κs x p = apart (answer (λ i. i.kids.first)) p.0 refl

pub closure-params-in-parentheses : (κs : _) (x : _) → closure-params.Post κs (parser begin, (sheet parens, (1, (row 0 0 0, tt)))) (Ok (so (row 0 0 0))) x → ⊥
unfolding closure_params expect unexpected eat check want kind_at count
closure-params-in-parentheses κs x p = apart outcome p.0 refl

pub closure-params-end-not-taken : (κs : _) (x : _) → closure-params.Post κs (parser begin, (sheet bars, (1, (row 0 0 0, tt)))) (Ok (so (row 0 0 0))) x → x.0.now.state ≡ state 1 1 1 0 0 → ⊥
unfolding closure_params type_items items_until_with_last item_turn type_end expect eat_eol eat_trivia eol_turn iterate turns eat check bump past_trivia past_from is_trivia kind_at count
closure-params-end-not-taken κs x p h = strays (λ s. s.at) p.0 h refl
