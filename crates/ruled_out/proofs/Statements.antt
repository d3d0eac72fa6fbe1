-- Two wrong answers or more to each public function of parts' modules recovery, effects and imports. `Post` is the contract as the check reads it
-- from the source. Assumes nothing.
use Rattle.std.specs.Prelude.{Ok, Err, None}
use Rattle.std.proofs.Common.{◌≡◌, ℕ, false, List, [], ◌∷◌, get_or, refl}
use lib.ListN.{replicate}
use Rattle.std.specs.declared.ops.ControlFlow.TheVariants.{Continue, Break}
use Rattle.cursor.specs.declared.Refusal.TheVariants as refusals
use Rattle.cursor.specs.declared.Stop.TheVariants as stops
use Rattle.kinds.specs.Number as kind
use Rattle.kinds.specs.Kinds.{is_trivia}
use Rattle.cursor.specs.declared.State.{State}
use Rattle.cursor.specs.declared.Fault.{Fault}
use Rattle.cursor.specs.declared.Kids.{Kids}
use Rattle.cursor.specs.Layout.{FLAGS, cell}
use Rattle.cursor.specs.Sheet.{count, kind_at, range_at}
use Rattle.cursor.specs.Rule.{begin, Next, more, stop, turns, iterate}
use Rattle.cursor.specs.Buffer.{put}
use Rattle.cursor.specs.Tokens.{past_from, past_trivia, bump, eat_trivia, eol_turn, eat_eol, rewind}
use Rattle.cursor.specs.Checks.{want, check, eat, unexpected, expect, choose}
use Rattle.cursor.specs.Records.{write, append, add, log}
use Rattle.cursor.specs.Attempts.{recover}
use Rattle.types.specs.Lits.{ident_at, ident}
use Rattle.types.specs.Items.{start, close, add_some, item_turn, items_until_with_last}
use Rattle.types.specs.Types.{type_end, type_items, params, returns}
use Rattle.parts.specs.Recovery.{skip_turn, skip, skipped, recovering, line_end, after_stmt}
use Rattle.parts.specs.Effects.{effect_record, effect_stmt}
use Rattle.parts.specs.Imports.{import_simple, import_end, path_turn, import_stmt}
use Rattle.parts.proofs.recovery.undone.Reads as undone
use Rattle.parts.proofs.recovery.recovered.Reads as recovered
use Rattle.parts.proofs.recovery.after_stmt.Reads as after-stmt
use Rattle.parts.proofs.effects.effect_stmt.Reads as effect-stmt
use Rattle.parts.proofs.imports.import_stmt.Reads as import-stmt
use Rattle.ruled_out.proofs.Small.{sheet, over, parser, state, span, row, apart, unlike, outcome, strays, word, answer, itself}

-- attempts and recovery

-- an error that lists nothing, and where it was found: behind two tokens and with one record
abbrev lost : Fault
lost = record { class = 0; found = kind.Try; span = span 0 3; listed = false }

abbrev further : State
further = state 2 5 2 1 0

pub undone-place-kept : (κs : _) (x : _) → undone.Post κs (parser further, (begin, (stops.Fault lost, tt))) (Ok tt) x → x.0.now.state ≡ further → ⊥
unfolding rewind
undone-place-kept κs x p h = strays (λ s. s.at) p.0 h refl

pub undone-refusal-forgotten : (κs : _) (x : _) → undone.Post κs (parser begin, (begin, (stops.Refused refusals.TooDeep, tt))) (Ok tt) x → ⊥
undone-refusal-forgotten κs x p = apart outcome p.0 refl

-- behind a statement that failed at the end of the sheet, where an end of line was looked for
abbrev recovery : ℕ → ℕ → State
recovery nodes errors = record { at = 2; prev = 5; reads = 2; nodes = nodes; errors = errors; wanted = 0; live = 1 }

pub recovered-error-not-logged : (κs : _) (x : _) → recovered.Post κs (over [] (replicate 6 0) further, (sheet [], (begin, (kind.CloseBrace, (Err (stops.Fault lost), tt))))) (Ok 0) x → x.0.now.state ≡ recovery 0 0 → ⊥
unfolding recovering log skipped skip skip_turn iterate turns choose check want kind_at count
recovered-error-not-logged κs x p h = strays (λ s. s.errors) p.0 h refl

pub recovered-records-kept : (κs : _) (x : _) → recovered.Post κs (over [] (replicate 6 0) further, (sheet [], (begin, (kind.CloseBrace, (Err (stops.Fault lost), tt))))) (Ok 0) x → x.0.now.state ≡ recovery 1 1 → ⊥
unfolding recovering log skipped skip skip_turn iterate turns choose check want kind_at count
recovered-records-kept κs x p h = strays (λ s. s.nodes) p.0 h refl

-- whether a turn goes on, and the count of its row
abbrev goes_on : Next Kids → ℕ
goes_on (more k) = 1
goes_on (stop k) = 2

abbrev counted : Next Kids → ℕ
counted (more k) = k.count
counted (stop k) = k.count

-- `}` behind a statement
abbrev shut : List ℕ
shut = kind.CloseBrace ∷ 0 ∷ 1 ∷ []

pub after-stmt-goes-on-at-the-end : (κs : _) (x : _) → after-stmt.Post κs (parser begin, (sheet shut, (kind.CloseBrace, (row 0 0 0, (1, tt))))) (Ok (Continue (row 1 1 1))) x → ⊥
unfolding after_stmt add_some add eat check bump kind_at count
after-stmt-goes-on-at-the-end κs x p = apart (answer goes_on) p.0 refl

pub after-stmt-last-one-left-out : (κs : _) (x : _) → after-stmt.Post κs (parser begin, (sheet shut, (kind.CloseBrace, (row 0 0 0, (1, tt))))) (Ok (Break (row 0 0 0))) x → ⊥
unfolding after_stmt add_some add eat check bump kind_at count
after-stmt-last-one-left-out κs x p = apart (answer counted) p.0 refl

-- a line's end behind it
pub after-stmt-reads-one-alone : (κs : _) (x : _) → after-stmt.Post κs (parser begin, (sheet (kind.Eol ∷ 0 ∷ 1 ∷ []), (kind.CloseBrace, (row 0 0 0, (1, tt))))) (Ok (Break (row 1 1 1))) x → ⊥
unfolding after_stmt line_end recover add_some add expect eat check want bump eat_eol eat_trivia eol_turn iterate turns past_trivia past_from kind_at count
after-stmt-reads-one-alone κs x p = apart (answer goes_on) p.0 refl

-- effects and imports

-- `effect ( )`
pub effect-stmt-without-a-name : (κs : _) (x : _) → effect-stmt.Post κs (parser begin, (sheet (kind.Effect ∷ 0 ∷ 6 ∷ kind.OpenParen ∷ 6 ∷ 7 ∷ kind.CloseParen ∷ 7 ∷ 8 ∷ []), (1, (0, (None, tt))))) (Ok 2) x → ⊥
unfolding effect_stmt start ident ident_at unexpected expect eat check want bump past_trivia past_from is_trivia kind_at range_at count
effect-stmt-without-a-name κs x p = apart outcome p.0 refl

-- `effect a ( )`: the link to the effect, and not to the statement over it
pub effect-stmt-own-record-left-out : (κs : _) (x : _) → effect-stmt.Post κs (parser begin, (sheet (kind.Effect ∷ 0 ∷ 6 ∷ kind.Ident ∷ 7 ∷ 8 ∷ kind.OpenParen ∷ 9 ∷ 10 ∷ kind.CloseParen ∷ 10 ∷ 11 ∷ []), (1, (0, (None, tt))))) (Ok 2) x → ⊥
unfolding effect_stmt effect_record params type_items items_until_with_last item_turn type_end returns add_some close add start ident ident_at expect eat_eol eat_trivia eol_turn iterate turns eat check want bump past_trivia past_from is_trivia kind_at range_at count put append write
effect-stmt-own-record-left-out κs x p = apart (answer itself) p.0 refl

-- `import a` and the end of its line
pub import-stmt-path-not-counted : (κs : _) (x : _) → import-stmt.Post κs (parser begin, (sheet (kind.Import ∷ 0 ∷ 6 ∷ kind.Ident ∷ 7 ∷ 8 ∷ kind.Eol ∷ 8 ∷ 9 ∷ []), (0, tt))) (Ok 2) x → get_or x.0.now.nodes.now (cell 1 FLAGS) 0 ≡ 0 → ⊥
unfolding import_stmt path_turn import_end import_simple close add ident ident_at expect iterate turns choose eat check want bump past_trivia past_from is_trivia kind_at range_at count put append write
import-stmt-path-not-counted κs x p h = unlike (word (cell 1 FLAGS)) p.0 h refl

pub import-stmt-without-the-end-of-its-line : (κs : _) (x : _) → import-stmt.Post κs (parser begin, (sheet (kind.Import ∷ 0 ∷ 6 ∷ kind.Ident ∷ 7 ∷ 8 ∷ []), (0, tt))) (Ok 2) x → ⊥
unfolding import_stmt path_turn import_end unexpected add ident ident_at expect iterate turns choose eat check want bump past_trivia past_from is_trivia kind_at range_at count append
import-stmt-without-the-end-of-its-line κs x p = apart outcome p.0 refl
