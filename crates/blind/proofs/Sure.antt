-- A program never ends in a fault: the fault of a statement is logged and what is left of it skipped, and nothing around statements fails
-- but by a refusal. What the rules on statements are handed does not matter for that.
use mathlib.Core.List.{List, [], ◌∷◌}
use mathlib.Core.Bool.{Bool, true, false}
use Prim.Native.Nat.{ℕ, zero, suc, ◌+◌, ◌/◌, min}
use lib.Dec.{ltb, leb, eqb}
use lib.ListN.{length}
use Rattle.kinds.specs.Number as kind
use Rattle.cursor.specs.declared.State.{State}
use Rattle.cursor.specs.declared.Fault.{Fault}
use Rattle.cursor.specs.declared.Kids.{Kids}
use Rattle.cursor.specs.declared.Label.{Label}
use Rattle.cursor.specs.Layout.{node_words, error_words, node_limit, error_limit, expected_limit}
use Rattle.cursor.specs.Sheet.{Sheet, count, kind_at}
use Rattle.cursor.specs.Rule.{World, fault, refused, Out, done, failed, Rule, ◌>>=◌, ◌>>◌, give, refuse, if_so, Next, more, stop, Turn, next, turns, iterate}
use Rattle.cursor.specs.Tokens.{eat_trivia, bump, eol_turn, eat_eol}
use Rattle.cursor.specs.Checks.{live_room, want, check, eat, expect, Case, ◌⇒◌, choose, unexpected_at}
use Rattle.cursor.specs.Records.{append, add, list_length, log, no_kids}
use Rattle.cursor.specs.Attempts.{unbuilt, recover}
use Rattle.cursor.proofs.Chosen.{Every, all, ◌&◌}
use Rattle.cursor.proofs.Ends.{Ends, well, ill, cut, Any, branch, then, either}
use Rattle.types.specs.Items.{start, add_some}
use Rattle.parts.specs.Recovery.{skip_cases, skip_turn, skip, skipped, recovering, log_here, line_end, after_stmt}
use Rattle.rules.specs.Inner.{Inner}
use Rattle.rules.specs.Statements.{stmt}
use Rattle.rules.specs.Exprs.{stmt_or, exprs_turn, exprs}
use Rattle.rules.specs.Levels.{knot, levels, program_record, program}

-- done or refused, no fault
abbrev pub Clean : {A : Type 0} → Out A → Type 0
Clean o = Ends (λ s w a. Unit {0}) (λ s w f. ⊥) o

pub record Sure {A : Type 0} (r : Rule A) : Type 0 where
  pub ends : (s : State) (w : World) → Clean (r s w)

-- of any end
anyhow : {A : Type 0} (o : Out A) → Ends (λ s w a. Unit {0}) Any o
anyhow (done s w a) = well tt
anyhow (failed (fault s w f)) = ill tt
anyhow (failed (refused f)) = cut

-- the ways in which rules are put together
module _ {A : Type 0} where
  gives : {a : A} → Sure (give a)
  gives = record { ends = λ s w. well tt }

  refuses : {n : ℕ} → Sure {A = A} (refuse n)
  refuses = record { ends = λ s w. cut }

  ifs : {r q : Rule A} (b : Bool) → Sure r → Sure q → Sure (if_so r q b)
  ifs true x y = x
  ifs false x y = y

module _ {A B : Type 0} where
  binds : {r : Rule A} {k : A → Rule B} → Sure r → ((a : A) → Sure (k a)) → Sure (r >>= k)
  binds x y = record { ends = λ s w. then (x.ends s w) (λ _ _ _ p. p) (λ s1 w1 a _. (y a).ends s1 w1) }

  thens : {r : Rule A} {q : Rule B} → Sure r → Sure q → Sure (r >> q)
  thens x y = binds x (λ _. y)

module _ {A : Type 0} {t : Turn A} (turn : (a : A) → Sure (t a)) where
  go_on : {r : A → Rule A} → ((a : A) → Sure (r a)) → (n : Next A) → Sure (next r n)
  go_on f (more a) = f a
  go_on f (stop a) = gives

  turns-sure : (k : ℕ) (a : A) → Sure (turns t k a)
  unfolding turns
  turns-sure zero a = gives
  turns-sure (suc k) a = binds (turn a) (go_on (turns-sure k))

  loops : (e : Sheet) (a : A) → Sure (iterate e t a)
  unfolding iterate
  loops e a = record { ends = λ s w. (turns-sure _ a).ends s w }

log-sure : (f : Fault) → Sure (log f)
unfolding log
log-sure f = record {
  ends = λ s w. branch (ltb s.errors (min (length w.errors / error_words) error_limit)) (λ _. branch (leb (s.wanted + list_length f s) (min (length w.expected) expected_limit)) (λ _. well tt) (λ _. cut)) (λ _. cut);
}

-- whatever the first rule is: its fault is logged
recovers : {A B : Type 0} (r : Rule A) {k : A → Rule B} {back : Rule B} → ((a : A) → Sure (k a)) → Sure back → Sure (recover r k back)
unfolding recover
recovers r y z = record { ends = λ s w. either (anyhow (r s w)) (λ s1 w1 a _. (y a).ends s1 w1) (λ s1 w1 f _. (thens (log-sure f) z).ends (unbuilt s s1) w1) }

-- the rules of cursor
want-sure : (k : ℕ) → Sure (want k)
unfolding want
want-sure k = record { ends = λ s w. branch (ltb s.live live_room) (λ _. well tt) (λ _. cut) }

module _ (e : Sheet) where
  eat-trivia-sure : Sure (eat_trivia e)
  unfolding eat_trivia
  eat-trivia-sure = record { ends = λ s w. well tt }

  bump-sure : Sure (bump e)
  unfolding bump
  bump-sure = record { ends = λ s w. branch (ltb s.at (count e.tokens)) (λ _. branch (ltb s.reads e.limits.allowance) (λ _. well tt) (λ _. cut)) (λ _. well tt) }

  eol-sure : (a : Unit) → Sure (eol_turn e a)
  unfolding eol_turn
  eol-sure a = record { ends = λ s w. branch (eqb (kind_at e.tokens s.at) kind.Eol) (λ _. (thens bump-sure gives).ends s w) (λ _. well tt) }

  eat-eol-sure : Sure (eat_eol e)
  unfolding eat_eol
  eat-eol-sure = thens eat-trivia-sure (loops eol-sure e tt)

  check-sure : (k : ℕ) → Sure (check e k)
  unfolding check
  check-sure k = record { ends = λ s w. branch (eqb (kind_at e.tokens s.at) k) (λ _. well tt) (λ _. (thens (want-sure k) gives).ends s w) }

  eat-sure : (k : ℕ) → Sure (eat e k)
  unfolding eat
  eat-sure k = binds (check-sure k) (λ here. ifs here (thens bump-sure gives) gives)

  chooses : {A : Type 0} (cases : List (Case A)) {other : Rule A} → Every Sure cases → Sure other → Sure (choose e cases other)
  unfolding choose
  chooses [] all x = x
  chooses ((k ⇒ r) ∷ cases) (h & hs) x = binds (check-sure k) (λ here. ifs here h (chooses cases hs x))

append-sure : (l : Label) (first : ℕ) → Sure (append l first)
unfolding append
append-sure l first = record { ends = λ s w. branch (ltb s.nodes (min (length w.nodes / node_words) node_limit)) (λ _. well tt) (λ _. cut) }

add-sure : (k : Kids) (link : ℕ) → Sure (add k link)
unfolding add
add-sure k link = record { ends = λ s w. by k.last (well tt) (λ i. well tt) }
  where
    by : (n : ℕ) {o : Out Kids} {p : ℕ → Out Kids} → Clean o → ((i : ℕ) → Clean (p i)) → Clean {A = Kids} (elim n as (λ _. Out Kids) [ zero ↦ o | suc i ↦ p i ])
    by zero x y = x
    by (suc i) x y = y i

add-some-sure : (kids : Kids) (link : ℕ) → Sure (add_some kids link)
unfolding add_some
add-some-sure kids zero = gives
add-some-sure kids (suc i) = add-sure kids (suc i)

-- statements in a row
module _ (e : Sheet) where
  start-sure : Sure (start e)
  unfolding start
  start-sure = record { ends = λ s w. well tt }

  skip-turn-sure : (end : ℕ) (a : Unit) → Sure (skip_turn e end a)
  unfolding skip_turn
  skip-turn-sure end a = chooses e (skip_cases e end) (gives & gives & gives & all) (thens (bump-sure e) gives)

  skip-sure : (end : ℕ) → Sure (skip e end)
  unfolding skip
  skip-sure end = loops (skip-turn-sure end) e tt

  skipped-sure : (end : ℕ) → Sure (skipped e end)
  unfolding skipped
  skipped-sure end = thens (skip-sure end) gives

  -- however the statement ended
  pub recovering-clean : (end : ℕ) (s : State) (o : Out ℕ) → Clean (recovering e end s o)
  unfolding recovering
  recovering-clean end s o = either (anyhow o) (λ s1 w1 link _. well tt) (λ s1 w1 f _. (thens (log-sure f) (skipped-sure end)).ends (unbuilt s s1) w1)

  log-here-sure : Sure (log_here e)
  unfolding log_here
  log-here-sure = record { ends = λ s w. (log-sure (unexpected_at e s)).ends s w }

  line-end-sure : Sure (line_end e)
  unfolding line_end
  line-end-sure = recovers (expect e kind.Eol) (λ _. gives) gives

  pub after-stmt-sure : (end : ℕ) (kids : Kids) (link : ℕ) → Sure (after_stmt e end kids link)
  unfolding after_stmt
  after-stmt-sure end kids link =
      binds (eat-sure e end) (λ closed. ifs closed (binds (add-some-sure kids link) (λ all. gives)) (binds (check-sure e kind.Eof) (λ over. ifs over
      (thens log-here-sure (binds (add-some-sure kids link) (λ all. gives)))
      (thens line-end-sure (thens (eat-eol-sure e) (binds (add-some-sure kids link) (λ longer. gives)))))))

module _ (r : Inner) where
  stmt-or-sure : (end : ℕ) → Sure (stmt_or r end)
  unfolding stmt_or
  stmt-or-sure end = recovers (stmt r) (λ link. gives) (skipped-sure r.sheet end)

  pub body-turn-sure : (end : ℕ) (kids : Kids) → Sure (exprs_turn r end kids)
  unfolding exprs_turn
  body-turn-sure end kids = binds (eat-sure r.sheet end) (λ closed. ifs closed gives (binds (stmt-or-sure end) (λ link. after-stmt-sure r.sheet end kids link)))

  pub body-sure : (end : ℕ) → Sure (exprs r end)
  unfolding exprs
  body-sure end = thens (eat-eol-sure r.sheet) (loops (body-turn-sure end) r.sheet no_kids)

-- a whole program: without a level left its statements are refused
pub levels-sure : (e : Sheet) (d end : ℕ) → Sure ((levels e d).exprs end)
unfolding knot
levels-sure e zero end = refuses
levels-sure e (suc d) end = body-sure (levels e d) end

program-record-sure : (from : ℕ) (row : Kids) → Sure (program_record from row)
unfolding program_record
program-record-sure from row = record { ends = λ s w. (append-sure _ row.first).ends s w }

pub program-sure : (e : Sheet) (d : ℕ) → Sure (program (levels e d))
unfolding program
program-sure e d = binds (start-sure e) (λ from. binds (levels-sure e d kind.Eof) (λ row. program-record-sure from row))
