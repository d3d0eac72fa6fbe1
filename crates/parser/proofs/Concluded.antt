-- Demand 1: an outcome has a number up to 10, and counts and buffers are as the document says for it. The numbers of a reading are those of Blind's
-- refusals, without 11, since the live list never fills.
use Rattle.std.specs.Prelude.{Result, Ok, Err}
use mathlib.Core.Path.{◌≡◌, refl}
use mathlib.Core.List.{List}
use Prim.Native.Nat.{ℕ, ◌≤◌}
use native.Mathlib.Omega.{arith}
use Rattle.cursor.specs.Rule.{begin, refused, Out, failed}
use Rattle.cursor.proofs.Ends as ends
use Rattle.cursor.proofs.Keeps.{Mark, mark, mark-stands, same_refl}
use Rattle.entry.specs.declared.Refusal.{Refusal}
use Rattle.entry.specs.declared.Refusal.TheVariants.{TextTooLong, TooManyTokens, NotUtf8, BadKind, BadRange, BadQuotes}
use Rattle.entry.specs.Check.{refusal_number, entry_of}
use Rattle.blind.proofs.Blind.{no_node, no-error, too-deep, all-spent, too-many-kinds, Twins, well, ill, cut}
use Rattle.blind.proofs.Program.{program-blind}
use Rattle.blind.proofs.Sure.{Clean, program-sure}
use Rattle.live.proofs.Program.{program-bounded}
use Rattle.parser.specs.Blank.{blank}
use Rattle.parser.specs.Outcome.{Outcome, unread}
use Rattle.parser.specs.Finish.{finished}
use Rattle.parser.specs.Parse.{reading, parse}
use Rattle.parser.specs.Concluded.{Trimmed, Concluded}
use Rattle.parser.proofs.Theorems.{nothing-past}

-- what is known of a sheet that passed the entry check, over the buffers on which it began
record Ended (n e x : List ℕ) (o : Outcome) : Type 0 where
  numbered : o.number ≤ 10
  late : 1 ≤ o.number → 7 ≤ o.number
  cleared : 7 ≤ o.number → o ≡ unread o.number n e x
  trimmed : o.number ≡ 0 → Trimmed o

-- refused on the way
cut_off : (k : ℕ) (n e x : List ℕ) → 7 ≤ k → k ≤ 10 → Ended n e x (unread k n e x)
cut_off k n e x h g = record { numbered = g; late = λ _. h; cleared = λ _. refl; trimmed = λ q. absurd (omega (arith, h, q)) }

ended : {m : Mark} {o p : Out ℕ} (n e x : List ℕ) → ((k : ℕ) → o ≡ failed (refused k) → k ≡ 11 → ⊥) → Clean o → Twins m o p → Ended n e x (finished n e x o)
unfolding finished
ended n e x never (ends.well c) (well h t) = record {
  numbered = omega arith;
  late = λ q. absurd (omega (arith, q));
  cleared = λ q. absurd (omega (arith, q));
  trimmed = λ _. record { records = nothing-past _ _; faults = nothing-past _ _; kinds = nothing-past _ _ };
}
ended n e x never (ends.ill c) (ill h t) = absurd c
ended n e x never ends.cut (cut no_node) = cut_off 7 n e x (omega arith) (omega arith)
ended n e x never ends.cut (cut no-error) = cut_off 8 n e x (omega arith) (omega arith)
ended n e x never ends.cut (cut too-deep) = cut_off 9 n e x (omega arith) (omega arith)
ended n e x never ends.cut (cut all-spent) = cut_off 10 n e x (omega arith) (omega arith)
ended n e x never ends.cut (cut too-many-kinds) = absurd (never _ refl refl)

module _ (text tokens : List ℕ) (allowance : ℕ) (n e x : List ℕ) where
  read : Ended n e x (reading text tokens allowance n e x)
  unfolding reading
  read = ended n e x (λ z. program-bounded _ _ begin z refl) ((program-sure _ _).ends begin _)
      ((program-blind _ _).ends (mark begin) begin _ _ (mark-stands begin) (record { nodes = same_refl _ _; errors = same_refl _ _; expected = same_refl _ _; live = same_refl _ _ }))

-- refused at the door
record AtDoor (k : ℕ) : Type 0 where
  some : 1 ≤ k
  few : k ≤ 6

unfit : (r : Refusal) → AtDoor (refusal_number r)
unfit TextTooLong = record { some = omega arith; few = omega arith }
unfit TooManyTokens = record { some = omega arith; few = omega arith }
unfit NotUtf8 = record { some = omega arith; few = omega arith }
unfit BadKind = record { some = omega arith; few = omega arith }
unfit BadRange = record { some = omega arith; few = omega arith }
unfit BadQuotes = record { some = omega arith; few = omega arith }

module _ (text tokens : List ℕ) (allowance : ℕ) (n e x : List ℕ) where
  let-in : entry_of text tokens ≡ Ok tt → {o : Outcome} → Ended (blank n) (blank e) (blank x) o → Concluded text tokens n e x o
  let-in fit z = record {
    numbered = z.numbered;
    at-the-door = λ k h g. rw fit ((λ q. absurd (omega (arith, z.late (omega (arith, q, h)), q, g))), (λ q. absurd (omega (arith, q, h))));
    untouched = λ h g. absurd (omega (arith, z.late h, g));
    cleared = z.cleared;
    trimmed = z.trimmed;
  }

  kept_out : (r : Refusal) → entry_of text tokens ≡ Err r → Concluded text tokens n e x (unread (refusal_number r) n e x)
  kept_out r h = let d = unfit r in
      record {
        numbered = omega (arith, d.few);
        at-the-door = λ k _ _. rw h ((λ q. q), (λ q. q));
        untouched = λ _ _. refl;
        cleared = λ g. absurd (omega (arith, d.few, g));
        trimmed = λ q. absurd (omega (arith, d.some, q));
      }

  by-entry : (c : Result (Unit {0}) Refusal) → entry_of text tokens ≡ c → Concluded text tokens n e x (parse text tokens allowance n e x)
  unfolding parse
  by-entry (Ok tt) h = rw (h, parse) (let-in h (read text tokens allowance (blank n) (blank e) (blank x)))
  by-entry (Err r) h = rw (h, parse) (kept_out r h)

  pub concluded : Concluded text tokens n e x (parse text tokens allowance n e x)
  concluded = by-entry (entry_of text tokens) refl
