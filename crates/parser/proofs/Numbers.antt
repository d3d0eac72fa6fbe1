-- Answered 0, a sheet has at least its program's record, so that no refusal is told as a reading is.
use Rattle.std.specs.Prelude.{Result, Ok, Err, cond}
use mathlib.Core.Path.{◌≡◌, refl, sym, ap, ◌∙◌}
use mathlib.Core.List.{List, [], ◌∷◌}
use Prim.Native.Nat.{ℕ, ◌/◌, ◌<◌, min}
use native.Mathlib.Omega.{arith}
use lib.Dec.{ltb, eqb}
use lib.ListN.{length}
use Rattle.kinds.specs.Number as kind
use Rattle.cursor.specs.declared.State.{State}
use Rattle.cursor.specs.declared.Label.{Label}
use Rattle.cursor.specs.declared.Refusal as declared
use Rattle.cursor.specs.declared.Refusal.TheVariants.{NoRoom, ErrorsFull, TooDeep, AllSpent, ListFull}
use Rattle.cursor.specs.Layout.{node_words, node_limit}
use Rattle.cursor.specs.Answers as answers
use Rattle.cursor.specs.Rule.{World, begin, fault, refused, Out, done, failed, bind}
use Rattle.cursor.specs.Records.{append}
use Rattle.cursor.proofs.Ends.{Ends, Any, branch}
use Rattle.cursor.proofs.Ends as ends
use Rattle.cursor.proofs.Keeps.{Mark, mark, mark-stands, same_refl}
use Rattle.entry.specs.declared.Refusal.{Refusal}
use Rattle.entry.specs.declared.Refusal.TheVariants.{TextTooLong, TooManyTokens, NotUtf8, BadKind, BadRange, BadQuotes}
use Rattle.entry.specs.Check.{refusal_number, entry_of}
use Rattle.types.specs.Items.{start}
use Rattle.rules.specs.Inner.{Inner}
use Rattle.rules.specs.Levels.{program_record, program}
use Rattle.blind.proofs.Blind.{no_node, no-error, too-deep, all-spent, too-many-kinds, Twins, well, ill, cut}
use Rattle.blind.proofs.Program.{program-blind}
use Rattle.parser.specs.declared.Reading.{Reading}
use Rattle.parser.specs.declared.Refusal as own
use Rattle.parser.specs.declared.Refusal.TheVariants.{Unfit, CutOff}
use Rattle.parser.specs.Blank.{blank}
use Rattle.parser.specs.Outcome.{Outcome, number, told}
use Rattle.parser.specs.Finish.{finished}
use Rattle.parser.specs.Parse.{reading, parse}

-- whatever a rule comes to, what goes on from it has a record
Kept : State → World → ℕ → Type 0
Kept s w link = 0 < s.nodes

after : {A : Type 0} (o : Out A) {k : State → World → A → Out ℕ} → ((s : State) (w : World) (a : A) → Ends Kept Any (k s w a)) → Ends Kept Any (bind o k)
after (done s w a) f = f s w a
after (failed (fault s w g)) f = ends.ill tt
after (failed (refused n)) f = ends.cut

appended : (l : Label) (first : ℕ) (s : State) (w : World) → Ends Kept Any (append l first s w)
unfolding append Kept
appended l first s w = branch (ltb s.nodes (min (length w.nodes / node_words) node_limit)) (λ _. ends.well (omega arith)) (λ _. ends.cut)

program-recorded : (r : Inner) (s : State) (w : World) → Ends Kept Any (program r s w)
unfolding program program_record
program-recorded r s w = after (start r.sheet s w) (λ s1 w1 from. after (r.exprs kind.Eof s1 w1) (λ s2 w2 row. appended _ _ s2 w2))

-- an end that is told as 0 is a reading with a record
counted : {m : Mark} {o p : Out ℕ} (n e x : List ℕ) → Ends Kept Any o → Twins m o p → (finished n e x o).number ≡ 0 → 0 < (finished n e x o).nodes
unfolding finished Kept
counted n e x (ends.well p) (well h t) q = p
counted n e x (ends.ill p) (ill h t) q = absurd (omega (arith, q))
counted n e x ends.cut (cut no_node) q = absurd (omega (arith, q))
counted n e x ends.cut (cut no-error) q = absurd (omega (arith, q))
counted n e x ends.cut (cut too-deep) q = absurd (omega (arith, q))
counted n e x ends.cut (cut all-spent) q = absurd (omega (arith, q))
counted n e x ends.cut (cut too-many-kinds) q = absurd (omega (arith, q))

unfit-number : (r : Refusal) → refusal_number r ≡ 0 → ⊥
unfit-number TextTooLong q = omega (arith, q)
unfit-number TooManyTokens q = omega (arith, q)
unfit-number NotUtf8 q = omega (arith, q)
unfit-number BadKind q = omega (arith, q)
unfit-number BadRange q = omega (arith, q)
unfit-number BadQuotes q = omega (arith, q)

cut-number : (r : declared.Refusal) → answers.number r ≡ 0 → ⊥
cut-number NoRoom q = omega (arith, q)
cut-number ErrorsFull q = omega (arith, q)
cut-number TooDeep q = omega (arith, q)
cut-number AllSpent q = omega (arith, q)
cut-number ListFull q = omega (arith, q)

-- 0 is no refusal's number
pub not-zero : (r : own.Refusal) → number r ≡ 0 → ⊥
not-zero (Unfit r) = unfit-number r
not-zero (CutOff r) = cut-number r

module _ (text tokens : List ℕ) (allowance : ℕ) (n e x : List ℕ) where
  reading-counted : (reading text tokens allowance n e x).number ≡ 0 → 0 < (reading text tokens allowance n e x).nodes
  unfolding reading
  reading-counted = counted n e x (program-recorded _ begin _) ((program-blind _ _).ends (mark begin) begin _ _ (mark-stands begin) (record { nodes = same_refl _ _; errors = same_refl _ _; expected = same_refl _ _; live = same_refl _ _ }))

module _ (text tokens : List ℕ) (allowance : ℕ) (n e x : List ℕ) where
  by-entry : (c : Result (Unit {0}) Refusal) → entry_of text tokens ≡ c → (parse text tokens allowance n e x).number ≡ 0 → 0 < (parse text tokens allowance n e x).nodes
  unfolding parse
  by-entry (Ok tt) h = rw (h, parse) (reading-counted text tokens allowance (blank n) (blank e) (blank x))
  by-entry (Err r) h = rw (h, parse) (λ q. absurd (unfit-number r q))

  -- answered 0, a sheet has its program's record
  pub read-has-a-record : (parse text tokens allowance n e x).number ≡ 0 → 0 < (parse text tokens allowance n e x).nodes
  read-has-a-record = by-entry (entry_of text tokens) refl

-- the counts of a reading, from what is told of it
counts_of_lem : {r s : Reading} {n e x n1 e1 x1 : List ℕ} → told (Ok r) n e x ≡ told (Ok s) n1 e1 x1 → r ≡ s
counts_of_lem h = λ j. record { reads = (h j).reads; nodes = (h j).nodes; errors = (h j).errors; expected = (h j).expected }

-- a refusal by its number: no two have the same
named : ℕ → List own.Refusal → own.Refusal
named k [] = CutOff ListFull
named k (r ∷ rs) = cond (eqb k (number r)) r (named k rs)

by_number : ℕ → own.Refusal
by_number k = named k
    (Unfit TextTooLong
    ∷ Unfit TooManyTokens
    ∷ Unfit NotUtf8
    ∷ Unfit BadKind
    ∷ Unfit BadRange
    ∷ Unfit BadQuotes
    ∷ CutOff NoRoom
    ∷ CutOff ErrorsFull
    ∷ CutOff TooDeep
    ∷ CutOff AllSpent
    ∷ [])

number_names : (r : own.Refusal) → by_number (number r) ≡ r
unfolding by_number named
number_names (Unfit TextTooLong) = refl
number_names (Unfit TooManyTokens) = refl
number_names (Unfit NotUtf8) = refl
number_names (Unfit BadKind) = refl
number_names (Unfit BadRange) = refl
number_names (Unfit BadQuotes) = refl
number_names (CutOff NoRoom) = refl
number_names (CutOff ErrorsFull) = refl
number_names (CutOff TooDeep) = refl
number_names (CutOff AllSpent) = refl
number_names (CutOff ListFull) = refl

one_refusal : (r s : own.Refusal) → number r ≡ number s → r ≡ s
one_refusal r s q = sym (number_names r) ∙ ap by_number q ∙ number_names s

module _ (o : Outcome) (has : o.number ≡ 0 → 0 < o.nodes) where
  -- no refusal is told as a reading is
  apart : {r : Reading} (k : own.Refusal) {n e x n1 e1 x1 : List ℕ} → told (Ok r) n e x ≡ o → told (Err k) n1 e1 x1 ≡ o → ⊥
  apart k p q = let zero-nodes : o.nodes ≡ 0 = sym (ap (λ a. a.nodes) q) in omega (arith, has (sym (ap (λ a. a.number) p)), zero-nodes)

  -- two answers that tell one outcome are one answer
  pub one_answer : (r s : Result Reading own.Refusal) (n e x n1 e1 x1 : List ℕ) → told r n e x ≡ o → told s n1 e1 x1 ≡ o → r ≡ s
  one_answer (Ok r) (Ok s) n e x n1 e1 x1 p q = ap Ok (counts_of_lem (p ∙ sym q))
  one_answer (Ok r) (Err k) n e x n1 e1 x1 p q = absurd (apart k p q)
  one_answer (Err k) (Ok s) n e x n1 e1 x1 p q = absurd (apart k q p)
  one_answer (Err k) (Err l) n e x n1 e1 x1 p q = ap Err (one_refusal k l (ap (λ a. a.number) (p ∙ sym q)))
