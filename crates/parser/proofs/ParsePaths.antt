-- Each way through `parse`: the program's rule on the buffers as they were lent comes to what it comes to on blank ones, since the rules are
-- blind to what the buffers held.
use Rattle.std.specs.Prelude.{Result, Ok, Err}
use Rattle.std.specs.Result.{IsErr, IsErrAnd}
use Rattle.std.proofs.lemmas.Result.{err_from_is_err_and}
use mathlib.Core.Path.{◌≡◌, refl, sym, ap, ◌∙◌, subst}
use mathlib.Core.List.{List}
use Prim.Native.Nat.{ℕ, ◌*◌, ◌<◌}
use native.Mathlib.Omega.{arith}
use lib.ListN.{length, replicate, length-replicate}
use Rattle.cursor.specs.declared.State.{State}
use Rattle.cursor.specs.declared.Parser.{Parser}
use Rattle.cursor.specs.declared.Stop as declared
use Rattle.cursor.specs.declared.Stop.TheVariants as stops
use Rattle.cursor.specs.Rule.{World, world, begin, Stop, fault, refused, Out, done, failed}
use Rattle.cursor.specs.Answers.{stop_of}
use Rattle.cursor.proofs.Ends as ends
use Rattle.cursor.specs.Checks.{live_room}
use Rattle.cursor.proofs.Keeps.{Mark, mark, mark-stands, Same}
use Rattle.entry.specs.declared.Refusal.{Refusal}
use Rattle.entry.specs.Check.{entry_of}
use Rattle.rules.specs.Levels.{levels, program}
use Rattle.cursor.specs.Layout.{node_words, error_words}
use Rattle.blind.proofs.Blind.{no_node, no-error, too-deep, all-spent, too-many-kinds, Twin, Twins, well, ill, cut}
use Rattle.blind.proofs.Program.{program-blind}
use Rattle.blind.proofs.Sure.{Clean}
use Rattle.parser.specs.declared.Reading.{Reading}
use Rattle.parser.specs.declared.Refusal as own
use Rattle.parser.specs.declared.Refusal.TheVariants.{Unfit}
use Rattle.parser.specs.Blank.{up_to, blank}
use Rattle.parser.specs.Outcome.{Outcome, told}
use Rattle.parser.specs.Finish.{IsRefusal, trimmed, finished}
use Rattle.parser.specs.Parse.{depth, allowed, reading, parse}
use Rattle.parser.proofs.Blanks.{cleared-long, up-to-none, up-to-same}
use Rattle.parser.proofs.Theorems.{never-faults}

same-up-to : {k : ℕ} {xs ys : List ℕ} → Same k xs ys → up_to k xs ≡ up_to k ys
same-up-to {k} {xs} {ys} h = up-to-same k xs ys h.long h.below

-- the same number and counts over other words
pub over : {a b : Outcome} → a.number ≡ b.number → a.reads ≡ b.reads → a.nodes ≡ b.nodes → a.errors ≡ b.errors → a.expected ≡ b.expected → a.records ≡ b.records → a.faults ≡ b.faults → a.kinds ≡ b.kinds → a ≡ b
over k r n e x ns es xs = λ j. record { number = k j; reads = r j; nodes = n j; errors = e j; expected = x j; records = ns j; faults = es j; kinds = xs j }

-- what is told of a reading whose buffers were cleared past its counts
module _ (n e x : List ℕ) {n1 e1 x1 : List ℕ} where
  pub read_is : (s : State) → n1 ≡ up_to (node_words * s.nodes) n → e1 ≡ up_to (error_words * s.errors) e → x1 ≡ up_to s.wanted x
      → told (Ok (record { reads = s.reads; nodes = s.nodes; errors = s.errors; expected = s.wanted })) n1 e1 x1 ≡ trimmed s n e x
  read_is s p q r = over refl refl refl refl refl p q r

-- ends that differ in the buffers past the counts alone come to the same
finished-same : {m : Mark} {o p : Out ℕ} (n e x : List ℕ) → Twins m o p → finished n e x o ≡ finished n e x p
unfolding finished
finished-same n e x (well h t) = over refl refl refl refl refl (same-up-to t.nodes) (same-up-to t.errors) (same-up-to t.expected)
finished-same n e x (ill h t) = refl
finished-same n e x (cut p) = refl

-- the number of a refusal is one of the document's
pub number : Stop → ℕ
number (fault s w f) = 0
number (refused k) = k

-- the number by which an end refuses, 0 where it does not
ending : Out ℕ → ℕ
ending (done s w link) = 0
ending (failed z) = number z

ending-short : {m : Mark} {o p : Out ℕ} → Twins m o p → ending o < 256
unfolding ending number
ending-short (well h t) = omega arith
ending-short (ill h t) = omega arith
ending-short (cut no_node) = omega arith
ending-short (cut no-error) = omega arith
ending-short (cut too-deep) = omega arith
ending-short (cut all-spent) = omega arith
ending-short (cut too-many-kinds) = omega arith

-- where the program's rule does not end well it is refused
unfaulted : {o : Out ℕ} → Clean o → (p : Parser) (z : declared.Stop) → o ≡ failed (stop_of p z) → IsRefusal z
unfaulted c p (stops.Fault f) q = absurd (no-fault (subst (λ o. Clean o) q c))
  where
    no-fault : {s : State} {w : World} → Clean {A = ℕ} (failed (fault s w f)) → ⊥
    no-fault (ends.ill h) = h
unfaulted c p (stops.Refused r) q = tt

pub refusing : (text tokens : List ℕ) (allowance : ℕ) (n e x l : List ℕ) (p : Parser) (z : declared.Stop) → program (levels (allowed text tokens allowance) depth) begin (world n e x l) ≡ failed (stop_of p z) → IsRefusal z
refusing text tokens allowance n e x l = unfaulted (never-faults text tokens allowance n e x l)

none_below : {xs ys : List ℕ} → length ys ≡ length xs → Same 0 xs ys
none_below l = record { long = l; below = λ i h. absurd (omega (arith, h)) }

blank-below : (xs : List ℕ) → Same 0 xs (blank xs)
blank-below xs = none_below (length-replicate {A = ℕ} (length xs) 0)

cleared : (xs ys : List ℕ) → length xs ≡ length ys → up_to 0 xs ≡ blank ys
cleared xs ys h = up-to-none xs ∙ ap (λ k. replicate k 0) h

module _ (text tokens : List ℕ) (allowance : ℕ) (n e x live : List ℕ) (room : length live ≡ live_room) where
  -- blank buffers and these, before anything was read
  twin : Twin begin (world n e x live) (world (blank n) (blank e) (blank x) (replicate live_room 0))
  twin = record { nodes = blank-below n; errors = blank-below e; expected = blank-below x; live = none_below (length-replicate {A = ℕ} live_room 0 ∙ sym room) }

  twins : Twins (mark begin) (program (levels (allowed text tokens allowance) depth) begin (world n e x live)) (program (levels (allowed text tokens allowance) depth) begin (world (blank n) (blank e) (blank x) (replicate live_room 0)))
  twins = (program-blind _ _).ends (mark begin) begin _ _ (mark-stands begin) twin

  -- whatever the program's rule is refused by, its number is one byte
  pub refused-short : {z : Stop} → program (levels (allowed text tokens allowance) depth) begin (world n e x live) ≡ failed z → number z < 256
  unfolding ending
  refused-short p = let h = ending-short twins in rw p at h

  read-as-blank : finished (blank n) (blank e) (blank x) (program (levels (allowed text tokens allowance) depth) begin (world n e x live)) ≡ reading text tokens allowance (blank n) (blank e) (blank x)
  unfolding reading
  read-as-blank = finished-same (blank n) (blank e) (blank x) twins

  module _ (fit : entry_of text tokens ≡ Ok tt) where
    parsed : parse text tokens allowance n e x ≡ reading text tokens allowance (blank n) (blank e) (blank x)
    unfolding parse
    parsed = rw (fit, parse)

    pub read-on : {s : State} {w : World} {link : ℕ} → program (levels (allowed text tokens allowance) depth) begin (world n e x live) ≡ done s w link → trimmed s w.nodes w.errors w.expected ≡ parse text tokens allowance n e x
    unfolding finished
    read-on p = ap (finished (blank n) (blank e) (blank x)) (sym p) ∙ read-as-blank ∙ sym parsed

    -- the buffers that were cleared are as long as those that were lent
    pub refused-on : {z : Stop} (n1 e1 x1 : List ℕ) → length n1 ≡ length n → length e1 ≡ length e → length x1 ≡ length x → program (levels (allowed text tokens allowance) depth) begin (world n e x live) ≡ failed z → finished (up_to 0 n1) (up_to 0 e1) (up_to 0 x1) (failed z) ≡ parse text tokens allowance n e x
    refused-on {z} n1 e1 x1 a b c p =
        (λ j. finished (cleared n1 n a j) (cleared e1 e b j) (cleared x1 x c j) (failed z)) ∙ ap (finished (blank n) (blank e) (blank x)) (sym p) ∙ read-as-blank ∙ sym parsed

module _ (text tokens : List ℕ) (allowance : ℕ) (n e x : List ℕ) where
  pub unfit-on : {r : Refusal} → entry_of text tokens ≡ Err r → told (Err (Unfit r)) n e x ≡ parse text tokens allowance n e x
  unfolding parse
  unfit-on h = rw (h, parse) refl

  pub unfit-exit : (r : Result Reading own.Refusal) {k : Refusal} → IsErr r × IsErrAnd r (λ f. f ≡ Unfit k) → entry_of text tokens ≡ Err k → told r n e x ≡ parse text tokens allowance n e x
  unfit-exit r h q = let k = err_from_is_err_and r h.1 in rw (k.1, k.2) (unfit-on q)

-- the caller's buffers are those that the parser held
pub held : (r : Result Reading own.Refusal) (p : Parser) {n e x : List ℕ} {o : Outcome} → told r p.nodes.now p.errors.now p.expected.now ≡ o → n ≡ p.nodes.now → e ≡ p.errors.now → x ≡ p.expected.now → told r n e x ≡ o
held r p h a b c = (λ j. told r (a j) (b j) (c j)) ∙ h

-- cleared all over, as long as they were lent
as_long : {a b : List ℕ} (m l : List ℕ) → a ≡ b → b ≡ up_to 0 m → length a ≡ length l → length m ≡ length l
as_long m l p q h = sym (ap {A = List ℕ} length (p ∙ q) ∙ cleared-long {A = ℕ} 0 0 m) ∙ h

-- whatever the end, its buffers are those that it was finished with
finished-with : (n e x : List ℕ) (z : Stop) → ((finished n e x (failed z)).records ≡ n) × ((finished n e x (failed z)).faults ≡ e) × ((finished n e x (failed z)).kinds ≡ x)
unfolding finished
finished-with n e x (fault s w f) = (refl, refl, refl)
finished-with n e x (refused k) = (refl, refl, refl)

module _ (r : own.Refusal) (p q : Parser) (z : Stop) (n0 e0 x0 : List ℕ) {n e x : List ℕ} {o : Outcome} where
  pub held-cleared : told (Err r) p.nodes.now p.errors.now p.expected.now ≡ finished (up_to 0 q.nodes.now) (up_to 0 q.errors.now) (up_to 0 q.expected.now) (failed z)
      → (length q.nodes.now ≡ length n0 → length q.errors.now ≡ length e0 → length q.expected.now ≡ length x0 → finished (up_to 0 q.nodes.now) (up_to 0 q.errors.now) (up_to 0 q.expected.now) (failed z) ≡ o)
      → n ≡ p.nodes.now → length n ≡ length n0 → e ≡ p.errors.now → length e ≡ length e0 → x ≡ p.expected.now → length x ≡ length x0 → told (Err r) n e x ≡ o
  held-cleared h k a la b lb c lc =
      let same = finished-with (up_to 0 q.nodes.now) (up_to 0 q.errors.now) (up_to 0 q.expected.now) z in
      held (Err r) p (h ∙ k (as_long _ _ a (ap (λ u. u.records) h ∙ same.0) la) (as_long _ _ b (ap (λ u. u.faults) h ∙ same.1) lb) (as_long _ _ c (ap (λ u. u.kinds) h ∙ same.2) lc)) a b c
