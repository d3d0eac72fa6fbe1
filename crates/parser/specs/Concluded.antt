-- Demand 1 of an outcome: whatever text and tokens are lent, however damaged, the answer is 0 or a refusal under its number, and counts and buffers are
-- then as the document says.
use Rattle.std.specs.Prelude.{◌≡◌, List, ◌↔◌, ℕ, ◌*◌, ◌≤◌, get_or, Result, Ok, Err}
use Rattle.cursor.specs.Layout.{node_words, error_words}
use Rattle.entry.specs.declared.Refusal.{Refusal}
use Rattle.entry.specs.Check.{refusal_number, entry_of}
use Rattle.parser.specs.Blank.{blank}
use Rattle.parser.specs.Outcome.{Outcome, unread}

-- the number under which the entry check refuses; 0 where it does not
abbrev pub door_number : Result (Unit {0}) Refusal → ℕ
door_number (Ok _) = 0
door_number (Err r) = refusal_number r

-- every word of a buffer from a place on is zero
abbrev pub ZeroFrom : ℕ → List ℕ → Type 0
ZeroFrom k xs = (i : ℕ) → k ≤ i → get_or xs i 0 ≡ 0

-- all past the reported counts is zero
pub record Trimmed (o : Outcome) : Type 0 where
  pub records : ZeroFrom (node_words * o.nodes) o.records
  pub faults : ZeroFrom (error_words * o.errors) o.faults
  pub kinds : ZeroFrom o.expected o.kinds

-- what is promised of the outcome of any text and tokens, where the buffers held n, e and x
pub record Concluded (text tokens n e x : List ℕ) (o : Outcome) : Type 0 where
  -- 0 to 10, and no other number
  pub numbered : o.number ≤ 10
  -- 1 to 6 exactly by the entry check
  pub at-the-door : (k : ℕ) → 1 ≤ k → k ≤ 6 → (o.number ≡ k) ↔ (door_number (entry_of text tokens) ≡ k)
  -- these return counts of zero and leave every word as it was
  pub untouched : 1 ≤ o.number → o.number ≤ 6 → o ≡ unread o.number n e x
  -- 7 to 10 return counts of zero and leave the buffers all zero
  pub cleared : 7 ≤ o.number → o ≡ unread o.number (blank n) (blank e) (blank x)
  -- after 0 all past the counts is zero
  pub trimmed : o.number ≡ 0 → Trimmed o
