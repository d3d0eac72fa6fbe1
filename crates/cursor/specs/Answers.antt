-- What the program's answers are as ends of rules: a parser's state and buffers as a rule sees them, and an answer with what the parser then holds as the
-- end of a rule.
use Rattle.std.specs.Prelude.{◌≡◌, ℕ, length, Result, Ok, Err}
use Rattle.std.specs.declared.ops.ControlFlow.{ControlFlow}
use Rattle.std.specs.declared.ops.ControlFlow.TheVariants.{Continue, Break}
use Rattle.cursor.specs.declared.Sheet.{Sheet}
use Rattle.cursor.specs.declared.Parser.{Parser}
use Rattle.cursor.specs.declared.Refusal.{Refusal}
use Rattle.cursor.specs.declared.Refusal.TheVariants as refusals
use Rattle.cursor.specs.declared.Stop as declared
use Rattle.cursor.specs.declared.Stop.TheVariants as stops
use Rattle.cursor.specs.Sheet as sheets
use Rattle.cursor.specs.Rule.{World, world, Stop, fault, refused, Out, done, failed, Rule, Next, more, stop}

-- the sheet that is lent
abbrev pub sheet_of : Sheet → sheets.Sheet
sheet_of s = sheets.sheet s.text.now s.tokens.now s.limits

-- what a parser's buffers hold
abbrev pub world_of : Parser → World
world_of p = world p.nodes.now p.errors.now p.expected.now p.live

-- a rule from where a parser stands
abbrev pub run : {A : Type 0} → Rule A → Parser → Out A
run r p = r p.state (world_of p)

-- the number that the document gives a refusal
abbrev pub number : Refusal → ℕ
number refusals.NoRoom = 7
number refusals.ErrorsFull = 8
number refusals.TooDeep = 9
number refusals.AllSpent = 10
number refusals.ListFull = 11

-- an error is met where the parser then stands
abbrev pub stop_of : Parser → declared.Stop → Stop
stop_of p (stops.Fault f) = fault p.state (world_of p) f
stop_of p (stops.Refused r) = refused (number r)

-- an answer, and what the parser then holds
abbrev pub ended : {A : Type 0} → Parser → Result A declared.Stop → Out A
ended p (Ok a) = done p.state (world_of p) a
ended p (Err e) = failed (stop_of p e)

-- a turn's answer as the rules have it: what goes on and what stops, each as the loop's value
abbrev pub turned : {A B C E : Type 0} → (C → A) → (B → A) → Result (ControlFlow B C) E → Result (Next A) E
turned on end (Ok (Continue c)) = Ok (more (on c))
turned on end (Ok (Break b)) = Ok (stop (end b))
turned on end (Err e) = Err e

-- What a function leaves of the buffers, however it ends, a refusal too. They are still the caller's, and as long as they were; of what it is not lent to write
-- it leaves every word.

-- all three may be written
pub record SameLoans (p q : Parser) : Type 0 where
  pub nodes : q.nodes.ghost_name ≡ p.nodes.ghost_name
  pub errors : q.errors.ghost_name ≡ p.errors.ghost_name
  pub expected : q.expected.ghost_name ≡ p.expected.ghost_name
  pub node_words : length q.nodes.now ≡ length p.nodes.now
  pub error_words : length q.errors.now ≡ length p.errors.now
  pub expected_bytes : length q.expected.now ≡ length p.expected.now

-- nodes and the live list may be written
pub record SameErrors (p q : Parser) : Type 0 where
  pub nodes : q.nodes.ghost_name ≡ p.nodes.ghost_name
  pub node_words : length q.nodes.now ≡ length p.nodes.now
  pub errors : q.errors ≡ p.errors
  pub expected : q.expected ≡ p.expected

-- nodes may be written
pub record SameLists (p q : Parser) : Type 0 where
  pub nodes : q.nodes.ghost_name ≡ p.nodes.ghost_name
  pub node_words : length q.nodes.now ≡ length p.nodes.now
  pub errors : q.errors ≡ p.errors
  pub expected : q.expected ≡ p.expected
  pub live : q.live ≡ p.live

-- the live list may be written
pub record SameRecords (p q : Parser) : Type 0 where
  pub nodes : q.nodes ≡ p.nodes
  pub errors : q.errors ≡ p.errors
  pub expected : q.expected ≡ p.expected

-- errors, their expected kinds and the live list may be written
pub record SameNodes (p q : Parser) : Type 0 where
  pub nodes : q.nodes ≡ p.nodes
  pub errors : q.errors.ghost_name ≡ p.errors.ghost_name
  pub expected : q.expected.ghost_name ≡ p.expected.ghost_name
  pub error_words : length q.errors.now ≡ length p.errors.now
  pub expected_bytes : length q.expected.now ≡ length p.expected.now

-- none is written
pub record SameBuffers (p q : Parser) : Type 0 where
  pub nodes : q.nodes ≡ p.nodes
  pub errors : q.errors ≡ p.errors
  pub expected : q.expected ≡ p.expected
  pub live : q.live ≡ p.live
