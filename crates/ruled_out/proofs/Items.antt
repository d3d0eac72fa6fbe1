-- Two wrong answers to each public function of types' modules lits, items and patterns. `Post` is the contract as the check reads it from the source.
-- Assumes nothing.
use Rattle.std.specs.Prelude.{Ok, Err, Some, None, is_some}
use Rattle.std.proofs.Common.{◌≡◌, ℕ, true, false, List, [], ◌∷◌, get_or, refl}
use Rattle.std.specs.declared.ops.ControlFlow.TheVariants.{Continue, Break}
use Rattle.cursor.specs.declared.Refusal.TheVariants as refusals
use Rattle.cursor.specs.declared.Stop.TheVariants as stops
use Rattle.kinds.specs.Number as kind
use Rattle.kinds.specs.Kinds.{is_trivia}
use Rattle.cursor.specs.Layout.{END, FIRST, NEXT, ONE, cell}
use Rattle.cursor.specs.Node as node
use Rattle.cursor.specs.Sheet.{count, kind_at, range_at}
use Rattle.cursor.specs.Rule.{begin, Next, more, stop, turns, iterate}
use Rattle.cursor.specs.Buffer.{put}
use Rattle.cursor.specs.Tokens.{past_from, past_trivia, bump, eat_trivia, eol_turn, eat_eol}
use Rattle.cursor.specs.Checks.{want, check, eat, unexpected, expect, choose}
use Rattle.cursor.specs.Records.{bit, write, append, add}
use Rattle.types.specs.declared.lits.Literal.{Literal}
use Rattle.types.specs.declared.lits.Literal.TheVariants as literals
use Rattle.types.specs.declared.items.Items.{Items}
use Rattle.types.specs.Lits.{leaf, literal, lit_from, lit_at, lit, ident_at, ident}
use Rattle.types.specs.Items.{start, close, pair, add_some, so, one_item, after_item, after_last, item_turn, items_until_with_last}
use Rattle.types.specs.Patterns.{pattern_end, pattern_item, pattern_row, pattern_items, pattern, patterns}
use Rattle.types.proofs.lits.literal_of.Reads as literal-of
use Rattle.types.proofs.lits.lit.Reads as read-lit
use Rattle.types.proofs.lits.ident.Reads as read-ident
use Rattle.types.proofs.items.close.Reads as record-close
use Rattle.types.proofs.items.pair.Reads as record-pair
use Rattle.types.proofs.items.add_some.Reads as add-some
use Rattle.types.proofs.items.after_item.Reads as after-item
use Rattle.types.proofs.items.after_last.Reads as after-last
use Rattle.types.proofs.patterns.span_of.Reads as span-of
use Rattle.types.proofs.patterns.pattern.Reads as read-pattern
use Rattle.cursor.specs.declared.Span.{Span}
use Rattle.ruled_out.proofs.Small.{lent, sheet, parser, state, span, row, apart, unlike, outcome, strays, word, answer}

-- `a`, from byte 2 to 5; `null`; `)`; `,`
abbrev name : List ℕ
name = kind.Ident ∷ 2 ∷ 5 ∷ []

abbrev null : List ℕ
null = kind.Null ∷ 0 ∷ 4 ∷ []

abbrev shut : List ℕ
shut = kind.CloseParen ∷ 0 ∷ 1 ∷ []

abbrev comma : List ℕ
comma = kind.Comma ∷ 0 ∷ 1 ∷ []

-- literals and names

abbrev flags_of : Literal → ℕ
flags_of (literals.Value l) = l.flags
flags_of (literals.Faulty n) = 8
flags_of literals.Nothing = 9

pub literal-of-raw-as-plain : (κs : _) (x : _) → literal-of.Post κs (lent [], (kind.RawStr, (span 0 3, tt))) (leaf node.Str (span 0 3) 0) x → ⊥
unfolding literal
literal-of-raw-as-plain κs x p = apart flags_of p refl

pub literal-of-false-as-true : (κs : _) (x : _) → literal-of.Post κs (lent [], (kind.False, (span 0 5, tt))) (leaf node.Bool (span 0 5) 1) x → ⊥
unfolding literal
literal-of-false-as-true κs x p = apart flags_of p refl

pub lit-not-moved : (κs : _) (x : _) → read-lit.Post κs (parser begin, (sheet null, tt)) (Ok 1) x → x.0.now.state ≡ state 0 0 0 1 0 → ⊥
unfolding lit lit_at lit_from literal bump past_trivia past_from kind_at range_at count append
lit-not-moved κs x p h = strays (λ s. s.at) p.0 h refl

pub lit-of-a-name : (κs : _) (x : _) → read-lit.Post κs (parser begin, (sheet name, tt)) (Ok 1) x → ⊥
unfolding lit lit_at lit_from literal unexpected kind_at range_at count
lit-of-a-name κs x p = apart outcome p.0 refl

pub ident-of-a-literal : (κs : _) (x : _) → read-ident.Post κs (parser begin, (sheet null, tt)) (Ok 1) x → ⊥
unfolding ident ident_at expect eat check want unexpected kind_at range_at count
ident-of-a-literal κs x p = apart outcome p.0 refl

pub ident-ends-at-its-start : (κs : _) (x : _) → read-ident.Post κs (parser begin, (sheet name, tt)) (Ok 1) x → get_or x.0.now.nodes.now END 0 ≡ 2 → ⊥
unfolding ident ident_at expect eat check bump kind_at range_at count append write put
ident-ends-at-its-start κs x p h = unlike (word END) p.0 h refl

-- records and rows

pub close-ends-at-its-start : (κs : _) (x : _) → record-close.Post κs (parser (state 1 5 1 0 0), (node.Null, (2, (0, (0, (0, (0, tt))))))) (Ok 1) x → get_or x.0.now.nodes.now END 0 ≡ 2 → ⊥
unfolding close append write put
close-ends-at-its-start κs x p h = unlike (word END) p.0 h refl

pub close-words-swapped : (κs : _) (x : _) → record-close.Post κs (parser (state 1 5 1 0 0), (node.Null, (2, (3, (4, (0, (0, tt))))))) (Ok 1) x → get_or x.0.now.nodes.now ONE 0 ≡ 4 → ⊥
unfolding close append write put
close-words-swapped κs x p h = unlike (word ONE) p.0 h refl

pub pair-second-child-alone : (κs : _) (x : _) → record-pair.Post κs (parser (state 2 5 2 2 0), (node.TypedIdent, (0, (1, (2, tt))))) (Ok 3) x → get_or x.0.now.nodes.now (cell 2 FIRST) 0 ≡ 2 → ⊥
unfolding pair close add append write put
pair-second-child-alone κs x p h = unlike (word (cell 2 FIRST)) p.0 h refl

pub pair-children-not-linked : (κs : _) (x : _) → record-pair.Post κs (parser (state 2 5 2 2 0), (node.TypedIdent, (0, (1, (2, tt))))) (Ok 3) x → get_or x.0.now.nodes.now (cell 0 NEXT) 0 ≡ 0 → ⊥
unfolding pair close add append write put
pair-children-not-linked κs x p h = unlike (word (cell 0 NEXT)) p.0 h refl

pub add-some-counts-none : (κs : _) (x : _) → add-some.Post κs (parser begin, (row 1 1 1, (0, tt))) (row 1 1 2) x → ⊥
unfolding add_some
add-some-counts-none κs x p = apart (answer (λ k. k.count)) p.0 refl

pub add-some-child-left-out : (κs : _) (x : _) → add-some.Post κs (parser begin, (row 1 1 1, (2, tt))) (row 1 1 1) x → ⊥
unfolding add_some add
add-some-child-left-out κs x p = apart (answer (λ k. k.last)) p.0 refl

-- what a list's end is asked, by std's is_some
pub is-ended-nowhere : is_some {T = Span} None ≡ true → ⊥
is-ended-nowhere p = apart bit p refl

pub is-ended-not-at-a-range : (r : Span) → is_some (Some r) ≡ false → ⊥
is-ended-not-at-a-range r p = apart bit p refl

-- lists

-- whether a turn goes on, and the count of its row
abbrev goes_on : Next Items → ℕ
goes_on (more i) = 1
goes_on (stop i) = 2

abbrev counted : Next Items → ℕ
counted (more i) = i.kids.count
counted (stop i) = i.kids.count

pub after-item-goes-on-at-the-end : (κs : _) (x : _) → after-item.Post κs (parser begin, (sheet shut, (kind.CloseParen, (row 0 0 0, (1, tt))))) (Ok (Continue (row 1 1 1))) x → ⊥
unfolding after_item add eat_eol eat_trivia eol_turn iterate turns eat check bump past_trivia past_from is_trivia kind_at count
after-item-goes-on-at-the-end κs x p = apart (answer goes_on) p.0 refl

pub after-item-not-joined : (κs : _) (x : _) → after-item.Post κs (parser begin, (sheet shut, (kind.CloseParen, (row 0 0 0, (1, tt))))) (Ok (Break (row 0 0 0))) x → ⊥
unfolding after_item add eat_eol eat_trivia eol_turn iterate turns eat check bump past_trivia past_from is_trivia kind_at count
after-item-not-joined κs x p = apart (answer counted) p.0 refl

pub after-last-takes-a-comma : (κs : _) (x : _) → after-last.Post κs (parser begin, (sheet comma, (kind.CloseParen, (so (row 1 1 1), tt)))) (Ok (so (row 1 1 1))) x → ⊥
unfolding after_last eat_eol eat_trivia eol_turn iterate turns expect eat check want unexpected past_trivia past_from is_trivia kind_at count
after-last-takes-a-comma κs x p = apart outcome p.0 refl

pub after-last-end-not-taken : (κs : _) (x : _) → after-last.Post κs (parser begin, (sheet shut, (kind.CloseParen, (so (row 1 1 1), tt)))) (Ok (so (row 1 1 1))) x → x.0.now.state ≡ begin → ⊥
unfolding after_last eat_eol eat_trivia eol_turn iterate turns expect eat check bump past_trivia past_from is_trivia kind_at count
after-last-end-not-taken κs x p h = strays (λ s. s.at) p.0 h refl

-- patterns

pub span-of-nowhere-not-empty : (κs : _) (x : _) → span-of.Post κs (None, tt) (span 0 1) x → ⊥
span-of-nowhere-not-empty κs x p = apart (λ s. s.end) p refl

pub span-of-start-alone : (κs : _) (x : _) → span-of.Post κs (Some (span 2 5), tt) (span 2 2) x → ⊥
span-of-start-alone κs x p = apart (λ s. s.end) p refl

-- `[` and a name, with one level: none is left for the name
pub pattern-depth-not-lowered : (κs : _) (x : _) → read-pattern.Post κs (parser begin, (sheet (kind.OpenBracket ∷ 0 ∷ 1 ∷ kind.Ident ∷ 1 ∷ 2 ∷ kind.CloseBracket ∷ 2 ∷ 3 ∷ []), (1, tt))) (Ok 2) x → ⊥
unfolding patterns pattern pattern_row pattern_items pattern_item pattern_end items_until_with_last item_turn one_item start eat_eol eat_trivia eol_turn iterate turns eat check want bump choose past_trivia past_from is_trivia kind_at count
pattern-depth-not-lowered κs x p = apart outcome p.0 refl

pub pattern-refused-for-readings : (κs : _) (x : _) → read-pattern.Post κs (parser begin, (sheet name, (0, tt))) (Err (stops.Refused refusals.AllSpent)) x → ⊥
unfolding patterns
pattern-refused-for-readings κs x p = apart outcome p.0 refl
