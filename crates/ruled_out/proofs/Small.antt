-- What the wrong answers share: small sheets, parsers and states that are lent, and how the ends of rules are told apart. Assumes nothing.
use Rattle.std.proofs.Common.{◌≡◌, ℕ, false, eqb, List, [], get_or, ap, sym, ◌∙◌, Bor, MutBor}
use borrow.Author.Tests.{eqb-false}
use lib.ListN.{replicate}
use Rattle.cursor.specs.declared.State.{State}
use Rattle.cursor.specs.declared.Limits.{Limits}
use Rattle.cursor.specs.declared.Sheet.{Sheet}
use Rattle.cursor.specs.declared.Parser.{Parser}
use Rattle.cursor.specs.declared.Span.{Span}
use Rattle.cursor.specs.declared.Kids.{Kids}
use Rattle.parts.specs.declared.values.Expr.{Expr}
use Rattle.parts.specs.declared.values.Expr.TheVariants as sorts
use Rattle.cursor.specs.Rule.{world, begin, fault, refused, Out, done, failed}
use Rattle.cursor.proofs.Told.{held_by, stands_by}

-- a slice that is lent, by what it holds, and one that is lent to be written
abbrev pub lent : List ℕ → Bor (List ℕ)
lent xs = record { ref_ptr = (0, 0); now = xs }

abbrev pub lent_mut : List ℕ → MutBor (List ℕ)
lent_mut xs = record { ref_ptr = (0, 0); ghost_name = 0; now = xs }

-- a buffer that no one writes to here, or whose contents are not asked for
abbrev pub blank : Bor (List ℕ)
blank = lent []

abbrev pub blank_mut : MutBor (List ℕ)
blank_mut = lent_mut []

-- readings enough for every sheet here
abbrev pub limits : Limits
limits = record { allowance = 9 }

-- a sheet that is lent, by its text and its tokens; and one whose text is not asked for
abbrev pub spelled : List ℕ → List ℕ → Bor Sheet
spelled text tokens = record { ref_ptr = (0, 0); now = record { text = lent text; tokens = lent tokens; limits = limits } }

abbrev pub sheet : List ℕ → Bor Sheet
sheet tokens = spelled [] tokens

-- a parser that is lent, by its node records, its error records and where it stands, with nothing in its other buffers; and one with room for three
-- node records
abbrev pub over : List ℕ → List ℕ → State → MutBor Parser
over nodes errors s = record { ref_ptr = (0, 0); ghost_name = 0; now = record { nodes = lent_mut nodes; errors = lent_mut errors; expected = lent_mut []; live = []; state = s } }

abbrev pub parser : State → MutBor Parser
parser s = over (replicate 24 0) [] s

-- the same, lent to be read
abbrev pub seen : State → Bor Parser
seen s = record { ref_ptr = (0, 0); now = (parser s).now }

-- a state: the place, the end before it, the readings, the node records, and the live list's length
abbrev pub state : ℕ → ℕ → ℕ → ℕ → ℕ → State
state at prev reads nodes live = record { at = at; prev = prev; reads = reads; nodes = nodes; errors = 0; wanted = 0; live = live }

abbrev pub span : ℕ → ℕ → Span
span start end = record { start = start; end = end }

-- a row of children: links to the first and the last, and how many
abbrev pub row : ℕ → ℕ → ℕ → Kids
row first last count = record { first = first; last = last; count = count }

-- no two things that a number tells apart are the same
pub apart : {A : Type 0} {a b : A} (f : A → ℕ) → a ≡ b → eqb (f a) (f b) ≡ false → ⊥
apart {a = a} {b = b} f p q = eqb-false (f a) (f b) q (ap f p)

-- a number that is another in what has to be the same
pub unlike : {A : Type 0} {a b : A} {n : ℕ} (f : A → ℕ) → a ≡ b → f a ≡ n → eqb (f b) n ≡ false → ⊥
unlike {b = b} {n = n} f p h q = eqb-false (f b) n q (sym (ap f p) ∙ h)

-- of the end of a rule: 0 where it is done, 1 for a fault, else the refusal
abbrev pub outcome : {A : Type 0} → Out A → ℕ
outcome (done s w a) = 0
outcome (failed (fault s w f)) = 1
outcome (failed (refused n)) = n

-- where it leaves the parser
abbrev pub left : {A : Type 0} → Out A → State
left o = stands_by begin o

-- a rule does not leave the parser where a number tells that it stands elsewhere
pub strays : {A : Type 0} {a b : Out A} {s : State} (f : State → ℕ) → a ≡ b → left a ≡ s → eqb (f s) (f (left b)) ≡ false → ⊥
strays {b = b} {s = s} f p h q = eqb-false (f s) (f (left b)) q (ap f (sym h) ∙ ap (λ o. f (left o)) p)

-- a word of the node buffer that it leaves
abbrev pub word : {A : Type 0} → ℕ → Out A → ℕ
word i o = get_or (held_by (world [] [] [] []) o).nodes i 0

-- what it answers, by a number for each answer
abbrev pub answer : {A : Type 0} → (A → ℕ) → Out A → ℕ
answer f (done s w a) = f a
answer f (failed x) = 0

-- a number as itself
abbrev pub itself : ℕ → ℕ
itself n = n

-- a number for each sort of expression
abbrev pub sort : Expr → ℕ
sort (sorts.Name link) = 1
sort (sorts.NameMember link) = 2
sort (sorts.Call link called) = 3
sort (sorts.Other link) = 4
