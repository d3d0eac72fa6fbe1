-- Wrong answers that the contracts rule out, two to each public function, each at one small sheet: the answer that a slip in the code would give
-- does not meet the contract. `Post` is the contract as the check reads it from the source. A wrong answer of a function that takes the parser is what the
-- function answers and where the parser then stands, or what it then holds. Some of the slips are must-fail edits besides.
-- Assumes nothing.
use Rattle.std.specs.Prelude.{Ok, Err, Some, None}
use Rattle.std.proofs.Common.{◌≡◌, ℕ, ◌+◌, ◌*◌, ◌^◌, Bool, true, false, eqb, List, [], ◌∷◌, get_or, sym, refl, ap, ◌∙◌, arith, Bor, MutBor}
use borrow.Author.Tests.{eqb-false}
use Rattle.kinds.specs.Number as kind
use Rattle.kinds.specs.Kinds.{is_trivia}
use Rattle.cursor.specs.declared.State.{State}
use Rattle.cursor.specs.declared.Limits.{Limits}
use Rattle.cursor.specs.declared.Sheet.{Sheet}
use Rattle.cursor.specs.declared.Parser.{Parser}
use Rattle.cursor.specs.declared.reader.Reader.{Reader}
use Rattle.cursor.specs.declared.Span.{Span}
use Rattle.cursor.specs.declared.Fault.{Fault}
use Rattle.cursor.specs.declared.Kids.{Kids}
use Rattle.cursor.specs.declared.Label.{Label}
use Rattle.cursor.specs.declared.Refusal.TheVariants as refusals
use Rattle.cursor.specs.declared.Stop as declared
use Rattle.cursor.specs.declared.Stop.TheVariants as stops
use Rattle.cursor.specs.Sheet.{count, kind_at, range_at}
use Rattle.cursor.specs.Buffer.{put, copy}
use Rattle.cursor.specs.Layout.{NEXT, FLAGS}
use Rattle.cursor.specs.Rule.{World, world, begin, fault, refused, Out, done, failed, turns, iterate}
use Rattle.cursor.specs.Tokens.{past_from, past_trivia, start_of, end_of, bump, eat_trivia, eol_turn, eat_eol, rewind}
use Rattle.cursor.specs.Checks.{want, check, eat, unexpected_at, unexpected, expect, eat_range, pick_from}
use Rattle.cursor.specs.Records.{bit, write, append, add, reflag, write_error, log}
use Rattle.cursor.specs.Answers.{ended}
use Rattle.cursor.proofs.Told.{held_by, stands_by}
use Rattle.cursor.proofs.RecordPaths.{append-full}
use Rattle.cursor.proofs.reader.Reader.over.Reads as over
use Rattle.cursor.proofs.reader.Reader.kind.Reads as here-kind
use Rattle.cursor.proofs.reader.Reader.range.Reads as here-range
use Rattle.cursor.proofs.reader.Reader.past.Reads as past
use Rattle.cursor.proofs.Parser.current_kind.Reads as current-kind
use Rattle.cursor.proofs.Parser.current_range.Reads as current-range
use Rattle.cursor.proofs.Parser.bump.Reads as bump
use Rattle.cursor.proofs.Parser.eat_trivia.Reads as eat-trivia
use Rattle.cursor.proofs.Parser.eat_eol.Reads as eat-eol
use Rattle.cursor.proofs.Parser.start_range.Reads as start-range
use Rattle.cursor.proofs.Parser.end_range.Reads as end-range
use Rattle.cursor.proofs.Parser.rewind.Reads as rewind
use Rattle.cursor.proofs.Parser.check.Reads as check
use Rattle.cursor.proofs.Parser.eat.Reads as eat
use Rattle.cursor.proofs.Parser.unexpected_at.Reads as unexpected-at
use Rattle.cursor.proofs.Parser.unexpected.Reads as unexpected
use Rattle.cursor.proofs.Parser.expect.Reads as expect
use Rattle.cursor.proofs.Parser.eat_range.Reads as eat-range
use Rattle.cursor.proofs.checks.is_in.Reads as is-in
use Rattle.cursor.proofs.Parser.pick.Reads as pick
use Rattle.cursor.proofs.Parser.append.Reads as append
use Rattle.cursor.proofs.Parser.add.Reads as add
use Rattle.cursor.proofs.Parser.reflag.Reads as reflag
use Rattle.cursor.proofs.records.flagged.Reads as flagged
use Rattle.cursor.proofs.Parser.log_error.Reads as log-error

-- a slice that is lent, by what it holds, and one that is lent to be written
abbrev lent : List ℕ → Bor (List ℕ)
lent xs = record { ref_ptr = (0, 0); now = xs }

abbrev lent_mut : List ℕ → MutBor (List ℕ)
lent_mut xs = record { ref_ptr = (0, 0); ghost_name = 0; now = xs }

-- `a ,`: a name, a blank, a comma; and an end of line before a comma
abbrev tokens : List ℕ
tokens = kind.Ident ∷ 0 ∷ 1 ∷ kind.Whitespace ∷ 1 ∷ 2 ∷ kind.Comma ∷ 2 ∷ 3 ∷ []

abbrev lines : List ℕ
lines = kind.Eol ∷ 0 ∷ 1 ∷ kind.Comma ∷ 1 ∷ 2 ∷ []

abbrev limits : Limits
limits = record { allowance = 9 }

-- a sheet that is lent, by its tokens; no test reads its text
abbrev sheet : List ℕ → Bor Sheet
sheet xs = record { ref_ptr = (0, 0); now = record { text = lent []; tokens = lent xs; limits = limits } }

-- a parser, by what it holds and where it stands; lent to be read, and to be written
abbrev parser : World → State → Parser
parser w s = record { nodes = lent_mut w.nodes; errors = lent_mut w.errors; expected = lent_mut w.expected; live = w.live; state = s }

abbrev seen : World → State → Bor Parser
seen w s = record { ref_ptr = (0, 0); now = parser w s }

abbrev moved : World → State → MutBor Parser
moved w s = record { ref_ptr = (0, 0); ghost_name = 0; now = parser w s }

-- nothing in the buffers; so much in the live list; so many nodes
abbrev none : World
none = world [] [] [] []

abbrev listed : List ℕ → World
listed live = world [] [] [] live

abbrev built : List ℕ → World
built nodes = world nodes [] [] []

-- a state: the place, the end before it, the readings, the live list's length
abbrev state : ℕ → ℕ → ℕ → ℕ → State
state at prev reads live = record { at = at; prev = prev; reads = reads; nodes = 0; errors = 0; wanted = 0; live = live }

abbrev span : ℕ → ℕ → Span
span start end = record { start = start; end = end }

-- no two things that a number tells apart are the same
apart : {A : Type 0} {a b : A} (f : A → ℕ) → a ≡ b → eqb (f a) (f b) ≡ false → ⊥
apart {a = a} {b = b} f p q = eqb-false (f a) (f b) q (ap f p)

-- of the end of a rule: where it leaves the parser, what the buffers hold, the answer 'yes', and 0 where it is done, 1 for a fault, else the refusal
abbrev left : {A : Type 0} → Out A → State
left o = stands_by (state 0 0 0 0) o

abbrev holds : {A : Type 0} → Out A → World
holds o = held_by none o

abbrev says : Out Bool → ℕ
says (done s w b) = bit b
says (failed x) = 2

abbrev outcome : {A : Type 0} → Out A → ℕ
outcome (done s w a) = 0
outcome (failed (fault s w f)) = 1
outcome (failed (refused n)) = n

-- a rule does not leave the parser where a number tells that it stands elsewhere; nor with such buffers
strays : {A : Type 0} {a b : Out A} {s : State} (f : State → ℕ) → a ≡ b → left a ≡ s → eqb (f s) (f (left b)) ≡ false → ⊥
strays {b = b} {s = s} f p h q = eqb-false (f s) (f (left b)) q (ap f (sym h) ∙ ap (λ o. f (left o)) p)

spoils : {A : Type 0} {a b : Out A} {xs : List ℕ} (g : World → List ℕ) (f : List ℕ → ℕ) → a ≡ b → g (holds a) ≡ xs → eqb (f xs) (f (g (holds b))) ≡ false → ⊥
spoils {b = b} {xs = xs} g f p h q = eqb-false (f xs) (f (g (holds b))) q (ap f (sym h) ∙ ap (λ o. f (g (holds o))) p)

-- the reader

-- a reader over the tokens
abbrev reader : ℕ → Reader
reader at = record { tokens = lent tokens; at = at }

pub over-begins-at-0 : (κs : _) (x : _) → over.Post κs (lent tokens, (2, tt)) (reader 0) x → ⊥
over-begins-at-0 κs x p = apart (λ (d : Reader). d.at) p refl

pub over-another-list : (κs : _) (x : _) → over.Post κs (lent lines, (2, tt)) (reader 2) x → ⊥
over-another-list κs x p = apart (λ (d : Reader). get_or d.tokens.now 0 0) p refl

pub kind-eol-at-the-end : (κs : _) (x : _) → here-kind.Post κs (reader 3, tt) kind.Eol x → ⊥
unfolding kind_at count
kind-eol-at-the-end κs x p = apart (λ k. k) p refl

pub kind-of-another-token : (κs : _) (x : _) → here-kind.Post κs (reader 0, tt) kind.Comma x → ⊥
unfolding kind_at count
kind-of-another-token κs x p = apart (λ k. k) p refl

pub range-end-for-start : (κs : _) (x : _) → here-range.Post κs (reader 0, tt) (Some (span 1 1)) x → ⊥
unfolding range_at count
range-end-for-start κs x p = apart start_of p refl

pub range-start-for-end : (κs : _) (x : _) → here-range.Post κs (reader 0, tt) (Some (span 0 0)) x → ⊥
unfolding range_at count
range-start-for-end κs x p = apart end_of p refl

pub past-stays : (κs : _) (x : _) → past.Post κs (reader 1, tt) (reader 1) x → ⊥
unfolding past_trivia past_from count kind_at is_trivia
past-stays κs x p = apart (λ (d : Reader). d.at) p refl

pub past-by-twos : (κs : _) (x : _) → past.Post κs (reader 1, tt) (reader 3) x → ⊥
unfolding past_trivia past_from count kind_at is_trivia
past-by-twos κs x p = apart (λ (d : Reader). d.at) p refl

-- tokens

pub current-kind-eol-at-the-end : (κs : _) (x : _) → current-kind.Post κs (seen none (state 3 3 0 0), (sheet tokens, tt)) kind.Eol x → ⊥
unfolding kind_at count
current-kind-eol-at-the-end κs x p = apart (λ k. k) p refl

pub current-kind-of-another-token : (κs : _) (x : _) → current-kind.Post κs (seen none (state 0 0 0 0), (sheet tokens, tt)) kind.Comma x → ⊥
unfolding kind_at count
current-kind-of-another-token κs x p = apart (λ k. k) p refl

pub current-range-end-for-start : (κs : _) (x : _) → current-range.Post κs (seen none (state 0 0 0 0), (sheet tokens, tt)) (Some (span 1 1)) x → ⊥
unfolding range_at count
current-range-end-for-start κs x p = apart start_of p refl

pub current-range-start-for-end : (κs : _) (x : _) → current-range.Post κs (seen none (state 0 0 0 0), (sheet tokens, tt)) (Some (span 0 0)) x → ⊥
unfolding range_at count
current-range-start-for-end κs x p = apart end_of p refl

pub bump-counts-nothing : (κs : _) (x : _) → bump.Post κs (moved none (state 0 0 5 1), (sheet tokens, tt)) (Ok tt) x → x.0.now.state ≡ state 2 1 5 0 → ⊥
unfolding bump past_trivia past_from count kind_at range_at is_trivia
bump-counts-nothing κs x p h = strays (λ s. s.reads) p.0 h refl

pub bump-counts-two : (κs : _) (x : _) → bump.Post κs (moved none (state 0 0 5 1), (sheet tokens, tt)) (Ok tt) x → x.0.now.state ≡ state 2 1 7 0 → ⊥
unfolding bump past_trivia past_from count kind_at range_at is_trivia
bump-counts-two κs x p h = strays (λ s. s.reads) p.0 h refl

pub bump-keeps-the-list : (κs : _) (x : _) → bump.Post κs (moved none (state 0 0 5 1), (sheet tokens, tt)) (Ok tt) x → x.0.now.state ≡ state 2 1 6 1 → ⊥
unfolding bump past_trivia past_from count kind_at range_at is_trivia
bump-keeps-the-list κs x p h = strays (λ s. s.live) p.0 h refl

-- the buffers are the caller's, and no others
pub bump-lends-another-buffer : (κs : _) (x : _) → bump.Post κs (moved none (state 0 0 5 1), (sheet tokens, tt)) (Ok tt) x → x.0.now.nodes.ghost_name ≡ 1 → ⊥
bump-lends-another-buffer κs x p h = eqb-false 1 0 refl (sym h ∙ ap (λ b. b.ghost_name) p.1.0.nodes)

-- a refusal leaves the parser where it stood
pub bump-refused-empties-the-list : (κs : _) (x : _) → bump.Post κs (moved none (state 0 0 9 1), (sheet tokens, tt)) (Err (stops.Refused refusals.AllSpent)) x → x.0.now.state ≡ state 0 0 9 0 → ⊥
bump-refused-empties-the-list κs x p h = apart (λ s. s.live) (sym p.1.1 ∙ h) refl

pub eat-trivia-stays : (κs : _) (x : _) → eat-trivia.Post κs (moved none (state 1 1 1 0), (sheet tokens, tt)) tt x → x.0.now.state ≡ state 1 1 1 0 → ⊥
unfolding eat_trivia past_trivia past_from count kind_at is_trivia
eat-trivia-stays κs x p h = strays (λ s. s.at) p.0 h refl

pub eat-trivia-by-twos : (κs : _) (x : _) → eat-trivia.Post κs (moved none (state 1 1 1 0), (sheet tokens, tt)) tt x → x.0.now.state ≡ state 3 1 1 0 → ⊥
unfolding eat_trivia past_trivia past_from count kind_at is_trivia
eat-trivia-by-twos κs x p h = strays (λ s. s.at) p.0 h refl

pub eat-eol-takes-none : (κs : _) (x : _) → eat-eol.Post κs (moved none (state 0 0 0 0), (sheet lines, tt)) (Ok tt) x → x.0.now.state ≡ state 0 0 0 0 → ⊥
unfolding eat_eol eol_turn iterate turns eat_trivia bump past_trivia past_from count kind_at range_at is_trivia
eat-eol-takes-none κs x p h = strays (λ s. s.at) p.0 h refl

pub eat-eol-takes-commas : (κs : _) (x : _) → eat-eol.Post κs (moved none (state 0 0 0 0), (sheet lines, tt)) (Ok tt) x → x.0.now.state ≡ state 2 2 2 0 → ⊥
unfolding eat_eol eol_turn iterate turns eat_trivia bump past_trivia past_from count kind_at range_at is_trivia
eat-eol-takes-commas κs x p h = strays (λ s. s.at) p.0 h refl

pub eat-eol-refused-moves-on : (κs : _) (x : _) → eat-eol.Post κs (moved none (state 0 0 8 0), (sheet lines, tt)) (Err (stops.Refused refusals.AllSpent)) x → x.0.now.state ≡ state 1 1 9 0 → ⊥
eat-eol-refused-moves-on κs x p h = apart (λ s. s.reads) (sym p.1.1 ∙ h) refl

pub start-range-1-at-the-end : (κs : _) (x : _) → start-range.Post κs (seen none (state 3 3 0 0), (sheet tokens, tt)) 1 x → ⊥
unfolding range_at count
start-range-1-at-the-end κs x p = apart (λ k. k) p refl

pub start-range-end-for-start : (κs : _) (x : _) → start-range.Post κs (seen none (state 2 1 1 0), (sheet tokens, tt)) 3 x → ⊥
unfolding range_at count
start-range-end-for-start κs x p = apart (λ k. k) p refl

pub end-range-of-the-readings : (κs : _) (x : _) → end-range.Post κs (seen none (state 2 1 5 0), (0, tt)) (span 0 5) x → ⊥
end-range-of-the-readings κs x p = apart (λ r. r.end) p refl

pub end-range-turned-round : (κs : _) (x : _) → end-range.Post κs (seen none (state 2 1 5 0), (0, tt)) (span 1 0) x → ⊥
end-range-turned-round κs x p = apart (λ r. r.start) p refl

pub rewind-gives-readings-back : (κs : _) (x : _) → rewind.Post κs (moved none (state 2 1 5 2), (state 0 0 1 3, tt)) tt x → x.0.now.state ≡ state 0 0 1 2 → ⊥
unfolding rewind
rewind-gives-readings-back κs x p h = strays (λ s. s.reads) p.0 h refl

pub rewind-keeps-the-old-length : (κs : _) (x : _) → rewind.Post κs (moved none (state 2 1 5 2), (state 0 0 1 3, tt)) tt x → x.0.now.state ≡ state 0 0 5 3 → ⊥
unfolding rewind
rewind-keeps-the-old-length κs x p h = strays (λ s. s.live) p.0 h refl

-- checks

pub check-refused-10 : (κs : _) (x : _) → check.Post κs (moved none (state 0 0 0 1024), (sheet tokens, (kind.Comma, tt))) (Err (stops.Refused refusals.AllSpent)) x → ⊥
unfolding check want kind_at count
check-refused-10 κs x p = apart outcome p.0 refl

pub check-repeat-left-out : (κs : _) (x : _) → check.Post κs (moved (listed (kind.Comma ∷ 0 ∷ [])) (state 0 0 0 1), (sheet tokens, (kind.Comma, tt))) (Ok false) x → x.0.now.state ≡ state 0 0 0 1 → ⊥
unfolding check want kind_at count
check-repeat-left-out κs x p h = strays (λ s. s.live) p.0 h refl

pub eat-no-is-yes : (κs : _) (x : _) → eat.Post κs (moved (listed (0 ∷ [])) (state 0 0 0 0), (sheet tokens, (kind.Comma, tt))) (Ok true) x → ⊥
unfolding eat check want kind_at count
eat-no-is-yes κs x p = apart says p.0 refl

pub eat-taken-is-no : (κs : _) (x : _) → eat.Post κs (moved (listed (0 ∷ [])) (state 0 0 0 0), (sheet tokens, (kind.Ident, tt))) (Ok false) x → ⊥
unfolding eat check bump past_trivia past_from kind_at range_at count is_trivia
eat-taken-is-no κs x p = apart says p.0 refl

-- a comma that nobody wanted
abbrev comma : Fault
comma = record { class = 0; found = kind.Comma; span = span 2 3; listed = true }

-- an error as a rule ends by it, and what is no such end: a refusal, and the error met at the sheet's begin
pub erred-with-a-number : {A : Type 0} (p : Parser) → ended {A = A} p (Err (stops.Refused refusals.NoRoom)) ≡ failed (fault (state 2 1 1 0) none comma) → ⊥
erred-with-a-number p h = apart outcome h refl

pub erred-without-a-place : {A : Type 0} → ended {A = A} (parser none begin) (Err (stops.Fault comma)) ≡ failed (fault (state 2 1 1 0) none comma) → ⊥
erred-without-a-place h = apart (λ o. (left o).at) h refl

pub unexpected-at-eof-from-0 : (κs : _) (x : _) → unexpected-at.Post κs (seen none (state 3 3 0 0), (sheet tokens, tt)) (record { class = 0; found = kind.Eof; span = span 0 3; listed = true }) x → ⊥
unfolding unexpected_at kind_at range_at count
unexpected-at-eof-from-0 κs x p = apart (λ f. f.span.start) p refl

pub unexpected-at-lists-nothing : (κs : _) (x : _) → unexpected-at.Post κs (seen none (state 3 3 0 0), (sheet tokens, tt)) (record { class = 0; found = kind.Eof; span = span 3 3; listed = false }) x → ⊥
unfolding unexpected_at kind_at range_at count
unexpected-at-lists-nothing κs x p = apart (λ f. bit f.listed) p refl

-- what was found where a rule ends by an error, and where it starts
abbrev found : declared.Stop → ℕ
found (stops.Fault f) = f.found
found (stops.Refused r) = 0

abbrev starts : declared.Stop → ℕ
starts (stops.Fault f) = f.span.start
starts (stops.Refused r) = 0

pub unexpected-past-the-token : (κs : _) (x : _) → unexpected.Post κs (seen none (state 2 1 1 0), (sheet tokens, tt)) (stops.Fault (record { class = 0; found = kind.Comma; span = span 3 3; listed = true })) x → ⊥
unfolding unexpected_at kind_at range_at count
unexpected-past-the-token κs x p = apart starts p refl

pub unexpected-of-another-token : (κs : _) (x : _) → unexpected.Post κs (seen none (state 0 0 0 0), (sheet tokens, tt)) (stops.Fault comma) x → ⊥
unfolding unexpected_at kind_at range_at count
unexpected-of-another-token κs x p = apart found p refl

pub expect-not-moved : (κs : _) (x : _) → expect.Post κs (moved (listed (0 ∷ [])) (state 0 0 0 0), (sheet tokens, (kind.Ident, tt))) (Ok tt) x → x.0.now.state ≡ state 0 0 0 0 → ⊥
unfolding expect eat check bump past_trivia past_from kind_at range_at count is_trivia
expect-not-moved κs x p h = strays (λ s. s.at) p.0 h refl

pub expect-fault-before-the-test : (κs : _) (x : _) → expect.Post κs (moved (listed (0 ∷ [])) (state 0 0 0 0), (sheet tokens, (kind.Comma, tt))) (Err (stops.Fault (record { class = 0; found = kind.Ident; span = span 0 1; listed = true }))) x → x.0.now.state ≡ state 0 0 0 0 → ⊥
unfolding expect unexpected eat check want kind_at count
expect-fault-before-the-test κs x p h = strays (λ s. s.live) p.0 h refl

pub eat-range-not-moved : (κs : _) (x : _) → eat-range.Post κs (moved (listed (0 ∷ [])) (state 0 0 0 0), (sheet tokens, (kind.Ident, tt))) (Ok (Some (span 0 1))) x → x.0.now.state ≡ state 0 0 0 0 → ⊥
unfolding eat_range check bump past_trivia past_from kind_at range_at count is_trivia
eat-range-not-moved κs x p h = strays (λ s. s.at) p.0 h refl

pub eat-range-no-kind-told : (κs : _) (x : _) → eat-range.Post κs (moved (listed (0 ∷ [])) (state 0 0 0 0), (sheet tokens, (kind.Comma, tt))) (Ok None) x → x.0.now.state ≡ state 0 0 0 0 → ⊥
unfolding eat_range check want kind_at count
eat-range-no-kind-told κs x p h = strays (λ s. s.live) p.0 h refl

abbrev chain : List ℕ
chain = kind.Comma ∷ kind.Eol ∷ []

pub is-in-the-last-left-out : (κs : _) (x : _) → is-in.Post κs (kind.Eol, (lent chain, tt)) false x → ⊥
is-in-the-last-left-out κs x p = apart bit p refl

pub is-in-whatever-it-is : (κs : _) (x : _) → is-in.Post κs (kind.Ident, (lent chain, tt)) true x → ⊥
is-in-whatever-it-is κs x p = apart bit p refl

pub pick-counts-no-kind : (κs : _) (x : _) → pick.Post κs (moved (listed (0 ∷ 0 ∷ [])) (state 0 0 0 0), (sheet tokens, (lent chain, tt))) (Ok 2) x → x.0.now.state ≡ state 0 0 0 0 → ⊥
unfolding pick_from check want kind_at count
pick-counts-no-kind κs x p h = strays (λ s. s.live) p.0 h refl

pub pick-writes-another-kind : (κs : _) (x : _) → pick.Post κs (moved (listed (0 ∷ 0 ∷ [])) (state 0 0 0 0), (sheet tokens, (lent chain, tt))) (Ok 2) x → x.0.now.live ≡ 0 ∷ 0 ∷ [] → ⊥
unfolding pick_from check want put kind_at count
pick-writes-another-kind κs x p h = spoils (λ w. w.live) (λ xs. get_or xs 0 0) p.0 h refl

-- records

abbrev name : Label
name = record { kind = 7; start = 0; end = 1; one = 0; two = 0; flags = 0 }

-- a state with so many records
abbrev grown : ℕ → State
grown n = record { at = 0; prev = 0; reads = 0; nodes = n; errors = 0; wanted = 0; live = 0 }

-- one record of zeros, and the same with one word other
abbrev zeros : List ℕ
zeros = 0 ∷ 0 ∷ 0 ∷ 0 ∷ 0 ∷ 0 ∷ 0 ∷ 0 ∷ []

pub append-links-on : (κs : _) (x : _) → append.Post κs (moved (built zeros) (grown 0), (name, (3, tt))) (Ok 1) x → x.0.now.nodes.now ≡ 7 ∷ 0 ∷ 1 ∷ 3 ∷ 3 ∷ 0 ∷ 0 ∷ 0 ∷ [] → ⊥
unfolding append write put
append-links-on κs x p h = spoils (λ w. w.nodes) (λ xs. get_or xs NEXT 0) p.0 h refl

-- whatever buffer is lent
pub append-one-record-more : (κs : _) (x : _) (xs : List ℕ) → append.Post κs (moved (built xs) (grown 8192), (name, (0, tt))) (Ok 8193) x → ⊥
append-one-record-more κs x xs p = apart outcome (p.0 ∙ append-full name 0 (grown 8192) (built xs) refl (omega arith)) refl

abbrev row : ℕ → ℕ → Kids
row last count = record { first = 1; last = last; count = count }

pub add-counts-two : (κs : _) (x : _) → add.Post κs (moved (built zeros) (grown 2), (row 1 1, (2, tt))) (row 2 3) x → ⊥
unfolding add put
add-counts-two κs x p = apart answered p.0 refl
  where
    answered : Out Kids → ℕ
    answered (done s w k) = k.count
    answered (failed f) = 0

pub add-links-the-first-word : (κs : _) (x : _) → add.Post κs (moved (built zeros) (grown 2), (row 1 1, (2, tt))) (row 2 2) x → x.0.now.nodes.now ≡ 0 ∷ 0 ∷ 0 ∷ 2 ∷ 0 ∷ 0 ∷ 0 ∷ 0 ∷ [] → ⊥
unfolding add put
add-links-the-first-word κs x p h = spoils (λ w. w.nodes) (λ xs. get_or xs NEXT 0) p.0 h refl

pub reflag-another-word : (κs : _) (x : _) → reflag.Post κs (moved (built zeros) (grown 1), (1, (9, tt))) tt x → x.0.now.nodes.now ≡ 0 ∷ 0 ∷ 0 ∷ 0 ∷ 0 ∷ 0 ∷ 9 ∷ 0 ∷ [] → ⊥
unfolding reflag put
reflag-another-word κs x p h = spoils (λ w. w.nodes) (λ xs. get_or xs FLAGS 0) p.0 h refl

pub reflag-writes-the-link : (κs : _) (x : _) → reflag.Post κs (moved (built zeros) (grown 1), (1, (9, tt))) tt x → x.0.now.nodes.now ≡ 0 ∷ 0 ∷ 0 ∷ 0 ∷ 0 ∷ 0 ∷ 0 ∷ 1 ∷ [] → ⊥
unfolding reflag put
reflag-writes-the-link κs x p h = spoils (λ w. w.nodes) (λ xs. get_or xs FLAGS 0) p.0 h refl

pub flagged-flags-swapped : (κs : _) (x : _) → flagged.Post κs (1, (2, (true, (false, tt)))) (1 + 2 ^ 15 * 2 + 2 ^ 31) x → ⊥
flagged-flags-swapped κs x p = apart (λ k. k) p refl

pub flagged-14-bits : (κs : _) (x : _) → flagged.Post κs (1, (2, (true, (false, tt)))) (1 + 2 ^ 14 * 2 + 2 ^ 30) x → ⊥
flagged-14-bits κs x p = apart (λ k. k) p refl

-- an error with two expected kinds, and how many errors and kinds are logged
abbrev shut : Fault
shut = record { class = 0; found = 51; span = span 0 1; listed = true }

abbrev logged : ℕ → ℕ → State
logged errors wanted = record { at = 0; prev = 0; reads = 0; nodes = 0; errors = errors; wanted = wanted; live = 2 }

pub log-error-kinds-overwritten : (κs : _) (x : _) → log-error.Post κs (moved (world [] (0 ∷ 0 ∷ 0 ∷ 0 ∷ 0 ∷ 0 ∷ []) (0 ∷ 0 ∷ []) chain) (logged 0 0), (shut, tt)) (Ok tt) x → x.0.now.state ≡ logged 1 0 → ⊥
unfolding log write_error copy put
log-error-kinds-overwritten κs x p h = strays (λ s. s.wanted) p.0 h refl

pub log-error-one-kind-less : (κs : _) (x : _) → log-error.Post κs (moved (world [] (0 ∷ 0 ∷ 0 ∷ 0 ∷ 0 ∷ 0 ∷ []) (0 ∷ 0 ∷ []) chain) (logged 0 0), (shut, tt)) (Err (stops.Refused refusals.ErrorsFull)) x → ⊥
unfolding log write_error copy put
log-error-one-kind-less κs x p = apart outcome p.0 refl
