-- Soundness: what a rule has read with no error logged is in the grammar, and what it built is the shape of that.
--
-- A rule is described by a claim: a relation between the spot where it began, the spot where it was done, and its answer. A spot is all that
-- the grammar and the tree know of a state: its place among the tokens, the count of node records, and the node buffer. `Sound X r` says: begun
-- at no trivia, r ends at no trivia and drops no error, and where it is done with as many errors as it found, X relates the two spots and the
-- answer. Where an error was logged nothing more is owed, and where the whole reading is refused nothing at all.
--
-- A claim has no hypothesis, so one step never needs what an earlier one has shown: that is why rules can be described one after the other although
-- an error may lie between them. What a claim wants of the buffer (that it holds a stack) stands inside it, as the argument of a function: a
-- step pushes one entry on any stack. Claims are put together as rules are: `Seq` for bind, `If` for if_so, `Star` for a loop, `Else` for an attempt; a
-- recovery is what its first rule is, since the other way logs an error. So the proof for a rule has two parts. One is a term that mirrors its text and gives a claim
-- that is nothing but that text; the other is a function without any rule in it, from that claim to the one that is wanted. The steps
-- are data indexed by their spots, so that the function matches them, and their places and buffers come to fit.
--
-- The claims that are wanted differ by the answer: `Value y` for a link, of any symbol that becomes one tree; `Optional y` for a link that may be
-- 0; `Becomes` for a link to a tree that is made of a derivation's shape; `Listed` for items, and `Rowing` for a row alone; `Ended` for a last item; `Expressed`
-- for an expression with its form; `Grown` for what a loop makes of an expression. They have the derivation and its shape outside, and what hangs on the stack
-- inside a function that takes one. SoundMeaning says what they come to: a derivation, and the record behind the answer means its tree.
--
-- An attempt that is undone drops the errors that were logged in it, so no claim can say what it left of the buffer: that its rule touches nothing below the
-- count has to be known of it whatever happens (`Keeps (mark s)`), and is handed to `attempts`.
use mathlib.Core.Path.{◌≡◌, refl, ap}
use mathlib.Core.List.{List}
use mathlib.Core.Bool.{Bool, true, false, true≢false}
use Prim.Native.Nat.{ℕ, zero, suc, ◌+◌, ◌/◌, ◌<◌, ◌≤◌, min}
use native.Mathlib.Nat.{le_refl, le_trans}
use native.Mathlib.Omega.{arith}
use lib.ListN.{length}
use lib.Dec.{ltb, leb}
use Rattle.cursor.specs.declared.State.{State}
use Rattle.cursor.specs.declared.Fault.{Fault}
use Rattle.cursor.specs.Layout.{error_words, error_limit, expected_limit}
use Rattle.cursor.specs.Sheet.{Sheet}
use Rattle.cursor.specs.Rule.{World, Out, Rule, ◌>>=◌, give, refuse, if_so, Next, more, stop, Turn, next, turns, iterate}
use Rattle.cursor.specs.Tokens.{rewind}
use Rattle.cursor.specs.Records.{list_length, log}
use Rattle.cursor.specs.Attempts.{try_parse, unbuilt, recover}
use Rattle.cursor.proofs.Ends.{Ends, well, cut, branch, then, either, weaken, both}
use Rattle.cursor.proofs.Loops.{left, Goes, on, off, Takes}
use Rattle.cursor.proofs.Keeps.{mark, mark-stands, Keeps, Plain}
use Rattle.cursor.proofs.Stack.{Entry, Stack, keep}
use Rattle.grammar.specs.Places.{Place}
use Rattle.sound.proofs.Links.{place_at, Settled}

-- where a rule stands: the place, how many node records there are, and the node buffer
pub data Spot : Type 0 where
  at : Place → ℕ → List ℕ → Spot

abbrev pub Claim : Type 0 → Type 1
Claim A = Spot → Spot → A → Type 0

-- first X, then what X's answer calls for
infixr 5 ◌▸◌
pub data Seq {A B : Type 0} (X : Claim A) (Y : A → Claim B) : Spot → Spot → B → Type 0 where
  ◌▸◌ : {x y z : Spot} {a : A} {b : B} → X x y a → Y a y z b → Seq X Y x z b

-- nothing happened, and this was the answer
pub data Gave {A : Type 0} : A → Spot → Spot → A → Type 0 where
  gave : {x : Spot} {a : A} → Gave a x x a

pub answer : {A : Type 0} {a b : A} {x y : Spot} → Gave a x y b → a ≡ b
answer gave = refl

-- what holds of where nothing happened, and of the answer, holds of where and what a rule has come to
pub going : {A : Type 0} {a b : A} {x y : Spot} (P : Spot → A → Type 0) → Gave a x y b → P x a → P y b
going P gave z = z

-- a turn does not both go on and stop
pub not-both : {A : Type 0} {a b : A} → more a ≡ stop b → ⊥
not-both q = true≢false (ap goes q)
  where
    goes : {A : Type 0} → Next A → Bool
    goes (more a) = true
    goes (stop a) = false

-- the one claim or the other
abbrev pub If : {A : Type 0} → Bool → Claim A → Claim A → Claim A
If true X Y = X
If false X Y = Y

-- turn after turn, up to one that stops
pub data Star {A : Type 0} (T : A → Claim (Next A)) : A → Spot → Spot → A → Type 0 where
  halt : {x y : Spot} {a b : A} → T a x y (stop b) → Star T a x y b
  turn : {x y z : Spot} {a b c : A} → T a x y (more b) → Star T b y z c → Star T a x z c

-- an attempt: kept, or undone and begun again, with a buffer that holds every stack which it held
pub data Else {A : Type 0} (X Z : Claim A) : Spot → Spot → A → Type 0 where
  stayed : {x y : Spot} {a : A} → X x y a → Else X Z x y a
  undone : {p : Place} {n : ℕ} {xs ys : List ℕ} {y : Spot} {a : A} → ((es : List Entry) → Stack xs n es → Stack ys n es) → Z (at p n ys) y a → Else X Z (at p n xs) y a

-- what can't be
abbrev pub Nothing : {A : Type 0} → Claim A
Nothing x y a = ⊥

above : (n : ℕ) → n ≤ n + 1
above n = omega arith

module _ (e : Sheet) where
  abbrev pub spot : State → World → Spot
  spot s w = at (place_at e.tokens s) s.nodes w.nodes

  -- at no trivia, and no error dropped
  pub record Came (s s1 : State) : Type 0 where
    pub calm : Settled e.tokens s1
    pub errors : s.errors ≤ s1.errors

  pub record Holds {A : Type 0} (X : Claim A) (s : State) (w : World) (s1 : State) (w1 : World) (a : A) : Type 0 where
    pub came : Came s s1
    pub fact : s1.errors ≡ s.errors → X (spot s w) (spot s1 w1) a

  abbrev pub EndsBy : {A : Type 0} → Claim A → State → World → Out A → Type 0
  EndsBy X s w o = Ends (Holds X s w) (λ s1 w1 f. Came s s1) o

  pub record Sound {A : Type 0} (X : Claim A) (r : Rule A) : Type 0 where
    pub ends : (s : State) (w : World) → Settled e.tokens s → EndsBy X s w (r s w)

  pub came-refl : {s : State} → Settled e.tokens s → Came s s
  came-refl h = record { calm = h; errors = le_refl _ }

  pub came-trans : {s s1 s2 : State} → Came s s1 → Came s1 s2 → Came s s2
  came-trans p q = record { calm = q.calm; errors = le_trans p.errors q.errors }

  module _ {A : Type 0} {X : Claim A} where
    pub holds : {s s1 : State} {w w1 : World} {a : A} → Settled e.tokens s1 → s1.errors ≡ s.errors → X (spot s w) (spot s1 w1) a → Holds X s w s1 w1 a
    holds {s} {s1} h q x = record { came = record { calm = h; errors = omega (arith, q) }; fact = λ _. x }

    pub refuses : {n : ℕ} → Sound X (refuse n)
    refuses = record { ends = λ s w h. cut }

  pub gives : {A : Type 0} {a : A} → Sound (Gave a) (give a)
  gives = record { ends = λ s w h. well (holds h refl gave) }

  module _ {A : Type 0} {X Y : Claim A} where
    -- less may be claimed
    pub maps : {r : Rule A} → ((x y : Spot) (a : A) → X x y a → Y x y a) → Sound X r → Sound Y r
    maps f x = record { ends = λ s w h. weaken (x.ends s w h) (λ s1 w1 a p. record { came = p.came; fact = λ q. f _ _ _ (p.fact q) }) (λ s1 w1 f p. p) }

    -- less may be claimed, by what is known of where a rule begins
    pub reads : {r : Rule A} {s : State} {w : World} → Sound X r → Settled e.tokens s → ((y : Spot) (a : A) → X (spot s w) y a → Y (spot s w) y a) → EndsBy Y s w (r s w)
    reads x h f = weaken (x.ends _ _ h) (λ s1 w1 a p. record { came = p.came; fact = λ q. f _ _ (p.fact q) }) (λ s1 w1 f p. p)

    -- the one rule or the other
    pub ifs : {r q : Rule A} (b : Bool) → Sound X r → Sound Y q → Sound (If b X Y) (if_so r q b)
    ifs true x y = x
    ifs false x y = y

  -- where an error is logged there is one more than before
  pub log-sound : (f : Fault) → Sound Nothing (log f)
  unfolding log
  log-sound f = record {
    ends = λ s w h. branch (ltb s.errors (min (length w.errors / error_words) error_limit))
        (λ _. branch (leb (s.wanted + list_length f s) (min (length w.expected) expected_limit)) (λ _. well (record { came = record { calm = record { settled = h.settled }; errors = above s.errors }; fact = λ q. same s.errors q })) (λ _. cut))
        (λ _. cut);
  }
    where
      same : (n : ℕ) → n + 1 ≡ n → ⊥
      same n q = omega (arith, q)

  module _ {A B : Type 0} {X : Claim A} {Y : A → Claim B} where
    -- what goes on from a rule that was done
    further : {s s1 : State} {w w1 : World} {a : A} {o : Out B} → Holds X s w s1 w1 a → EndsBy (Y a) s1 w1 o → EndsBy (Seq X Y) s w o
    further p x = weaken x
        (λ s2 w2 b q. record { came = came-trans p.came q.came; fact = λ z. p.fact (omega (arith, p.came.errors, q.came.errors, z)) ▸ q.fact (omega (arith, p.came.errors, q.came.errors, z)) })
        (λ s2 w2 f q. came-trans p.came q)

    -- first a rule, then what its answer calls for
    pub binds : {r : Rule A} {k : A → Rule B} → Sound X r → ((a : A) → Sound (Y a) (k a)) → Sound (Seq X Y) (r >>= k)
    binds x y = record { ends = λ s w h. then (x.ends s w h) (λ s1 w1 f p. p) (λ s1 w1 a p. further p ((y a).ends s1 w1 p.came.calm)) }

    -- an attempt: what it keeps of the buffers is what the other rule finds
    pub attempts : {Z : Claim B} {r : Rule A} {k : A → Rule B} {back : Rule B} → ((s : State) → Keeps (mark s) Plain r) → Sound X r → ((a : A) → Sound (Y a) (k a)) → Sound Z back → Sound (Else (Seq X Y) Z) (try_parse r k back)
    unfolding try_parse rewind
    attempts kept x y z = record {
      ends = λ s w h. either (both (x.ends s w h) ((kept s).ends s w (mark-stands s)))
          (λ s1 w1 a p. weaken (further p.0 ((y a).ends s1 w1 p.0.came.calm)) (λ s2 w2 b q. record { came = q.came; fact = λ u. stayed (q.fact u) }) (λ s2 w2 f q. q))
          (λ s1 w1 f p. weaken (z.ends (rewind s s1) w1 (record { settled = h.settled }))
          (λ s2 w2 b q. record {
            came = record { calm = q.came.calm; errors = q.came.errors };
            fact = λ u. undone (λ es st. keep st p.1.kept.nodes (le_refl _) p.1.kept.nodes-long) (q.fact u);
          })
          (λ s2 w2 f q. record { calm = q.calm; errors = q.errors }));
    }

    -- a recovery: where the first rule fails an error is logged, and nothing is owed any more
    pub recovers : {Z : Claim B} {r : Rule A} {k : A → Rule B} {back : Rule B} → Sound X r → ((a : A) → Sound (Y a) (k a)) → Sound Z back → Sound (Seq X Y) (recover r k back)
    unfolding recover
    recovers x y z = record {
      ends = λ s w h. either (x.ends s w h) (λ s1 w1 a p. further p ((y a).ends s1 w1 p.came.calm))
          (λ s1 w1 f p. then ((log-sound f).ends (unbuilt s s1) w1 (record { settled = p.calm.settled })) (λ _ _ _ q. record { calm = q.calm; errors = le_trans p.errors q.errors })
          (λ s2 w2 _ q. weaken (z.ends s2 w2 q.came.calm)
          (λ s3 w3 b u. record {
            came = record { calm = u.came.calm; errors = le_trans p.errors (le_trans q.came.errors u.came.errors) };
            fact = λ v. absurd (q.fact (omega (arith, p.errors, q.came.errors, u.came.errors, v)));
          })
          (λ s3 w3 f u. record { calm = u.calm; errors = le_trans p.errors (le_trans q.came.errors u.errors) })));
    }

  module _ {A : Type 0} {t : Turn A} {T : A → Claim (Next A)} (takes : Takes e t) (sound : (a : A) → Sound (T a) (t a)) where
    -- what a turn answered is what the loop goes on from
    went_on : (k : ℕ) → ((s : State) (w : World) (a : A) → left e s < k → Settled e.tokens s → EndsBy (Star T a) s w (turns t k a s w)) → (s : State) (w : World) (a : A) (s1 : State) (w1 : World) (n : Next A)
        → left e s ≤ k → Holds (T a) s w s1 w1 n → Goes (λ _ _ _. Unit {0}) (λ _ _ _. Unit {0}) e (left e s) s1 w1 n → EndsBy (Star T a) s w (next (turns t k) n s1 w1)
    went_on k ih s w a s1 w1 (more b) m p (on _ l) = weaken (ih s1 w1 b (omega arith) p.came.calm)
        (λ s2 w2 c q. record { came = came-trans p.came q.came; fact = λ z. turn (p.fact (omega (arith, p.came.errors, q.came.errors, z))) (q.fact (omega (arith, p.came.errors, q.came.errors, z))) })
        (λ s2 w2 f q. came-trans p.came q)
    went_on k ih s w a s1 w1 (stop b) m p (off _) = well (record { came = p.came; fact = λ z. halt (p.fact z) })

    turns-sound : (k : ℕ) (s : State) (w : World) (a : A) → left e s < k → Settled e.tokens s → EndsBy (Star T a) s w (turns t k a s w)
    unfolding turns
    turns-sound zero s w a l h = absurd (omega arith)
    turns-sound (suc k) s w a l h = then (both ((sound a).ends s w h) (takes s w a tt)) (λ s1 w1 f p. p.0) (λ s1 w1 n p. went_on k (turns-sound k) s w a s1 w1 n (omega arith) p.0 p.1)

    -- a loop, each turn of which takes a token
    pub loops : (a : A) → Sound (Star T a) (iterate e t a)
    unfolding iterate
    loops a = record { ends = λ s w h. turns-sound _ s w a (omega arith) h }
