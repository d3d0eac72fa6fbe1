-- Rules: the parser's functions as functions on values, and how they are put together.
use Rattle.std.specs.Prelude.{ℕ, zero, suc, ◌-◌, Bool, true, false, List}
use Rattle.cursor.specs.declared.State.{State}
use Rattle.cursor.specs.declared.Fault.{Fault}
use Rattle.cursor.specs.Sheet.{Sheet, count}

-- what the buffers hold
pub record World : Type 0 where
  pub nodes : List ℕ
  pub errors : List ℕ
  pub expected : List ℕ
  pub live : List ℕ

abbrev pub world : List ℕ → List ℕ → List ℕ → List ℕ → World
world n e x l = record { nodes = n; errors = e; expected = x; live = l }

-- where a reading begins: before the first token, with nothing read, built or logged
abbrev pub begin : State
begin = record { at = 0; prev = 0; reads = 0; nodes = 0; errors = 0; wanted = 0; live = 0 }

-- how a rule fails: Rust's Err, where it was met, which is not logged yet; or a refusal under a number, 7 to 11, which ends the whole reading and tells no more
pub data Stop : Type 0 where
  fault : State → World → Fault → Stop
  refused : ℕ → Stop

-- how a rule ends: Rust's Ok, or it fails
pub data Out (A : Type 0) : Type 0 where
  done : State → World → A → Out A
  failed : Stop → Out A

abbrev pub Rule : Type 0 → Type 0
Rule A = State → World → Out A

abbrev pub bind : {A B : Type 0} → Out A → (State → World → A → Out B) → Out B
bind (done s w a) k = k s w a
bind (failed x) k = failed x

infixl 20 ◌>>=◌
abbrev pub ◌>>=◌ : {A B : Type 0} → Rule A → (A → Rule B) → Rule B
◌>>=◌ r k s w = bind (r s w) (λ s1 w1 a. k a s1 w1)

infixl 20 ◌>>◌
abbrev pub ◌>>◌ : {A B : Type 0} → Rule A → Rule B → Rule B
◌>>◌ r k s w = bind (r s w) (λ s1 w1 _. k s1 w1)

-- nothing happens, and this is the answer
abbrev pub give : {A : Type 0} → A → Rule A
give a s w = done s w a

-- the whole reading ends under this number
abbrev pub refuse : {A : Type 0} → ℕ → Rule A
refuse n s w = failed (refused n)

-- the one rule or the other
abbrev pub if_so : {A : Type 0} → Rule A → Rule A → Bool → Rule A
if_so r q b s w = elim b as (λ _. Out _) [ true ↦ r s w | false ↦ q s w ]

-- what goes on from a rule, and what from its fault
abbrev pub or_else : {A B : Type 0} → Out A → (State → World → A → Out B) → (State → World → Fault → Out B) → Out B
or_else (done s w a) k back = k s w a
or_else (failed (fault s w f)) k back = back s w f
or_else (failed (refused f)) k back = failed (refused f)

-- what a turn of a loop answers: go on, or stop
pub data Next (A : Type 0) : Type 0 where
  more : A → Next A
  stop : A → Next A

abbrev pub Turn : Type 0 → Type 0
Turn A = A → Rule (Next A)

abbrev pub next : {A : Type 0} → (A → Rule A) → Next A → Rule A
next r (more a) s w = r a s w
next r (stop a) s w = done s w a

-- at most so many turns. With none left it answers as after a turn that stops, which never arises: `iterate` gives one turn more than
-- tokens are left, and each turn that goes on takes a token at least. That is `Takes` of crates/cursor/proofs/Loops.antt, proved of the
-- turn of every loop (by `takes` of Spends.antt, mostly); from it `turns-end` and `enough` there refute the case of no turn left
unfoldable pub turns : {A : Type 0} → Turn A → ℕ → A → Rule A
turns t zero a s w = done s w a
turns t (suc k) a s w = bind (t a s w) (λ s1 w1 n. next (turns t k) n s1 w1)

-- turn after turn until one stops: as many as tokens are left, and one to stop
unfoldable pub iterate : {A : Type 0} → Sheet → Turn A → A → Rule A
iterate e t a s w = turns t (suc (count e.tokens - s.at)) a s w
