-- Which rules leave fewer tokens: a bump over a token that exists, and what begins with one or comes to one. A turn of a loop that goes on
-- has to; `takes` then gives what the lemmas of Loops ask for. The rest of a turn need only keep the place (Keeps, at the mark `ground`). As with
-- Keeps, a proof is one term that mirrors the rule's text; Spent has the rules of this crate.
use Rattle.std.proofs.Common.{◌<◌, ◌≤◌, Bool, true, false, arith}
use Rattle.cursor.specs.declared.State.{State}
use Rattle.cursor.specs.Sheet.{Sheet, count}
use Rattle.cursor.specs.declared.Fault.{Fault}
use Rattle.cursor.specs.Rule.{World, Out, bind, Rule, ◌>>=◌, or_else, give, if_so, Next, more, stop, Turn}
use Rattle.cursor.specs.Tokens.{rewind}
use Rattle.cursor.specs.Attempts.{try_parse, unbuilt, recover}
use Rattle.cursor.proofs.Ends.{Ends, well, ill, cut, Any, then, weaken, both}
use Rattle.cursor.proofs.Loops.{left, Goes, on, off, Takes}
use Rattle.cursor.proofs.Keeps.{ground, ground-stands, Keeps, Plain}
use Rattle.cursor.proofs.Kept.{log-keeps}

-- where its answer is as W says, the rule leaves fewer tokens
pub record Spends {A : Type 0} (e : Sheet) (W : A → Type 0) (r : Rule A) : Type 0 where
  pub ends : (s : State) (w : World) → Ends (λ s1 _ a. W a → left e s1 < left e s) Any (r s w)

-- the same of a rule that begins where a token stands
pub record Feeds {A : Type 0} (e : Sheet) (W : A → Type 0) (r : Rule A) : Type 0 where
  pub ends : (s : State) (w : World) → s.at < count e.tokens → Ends (λ s1 _ a. W a → left e s1 < left e s) Any (r s w)

-- a turn goes on; a test holds
abbrev pub Further : {A : Type 0} → Next A → Type 0
Further (more a) = Unit {0}
Further (stop a) = ⊥

abbrev pub Holds : Bool → Type 0
Holds true = Unit {0}
Holds false = ⊥

-- each turn that goes on takes a token
pub takes : {A : Type 0} {e : Sheet} {t : Turn A} → ((a : A) → Spends e Further (t a)) → Takes e t
takes {A} {e} p s w a _ = weaken ((p a).ends s w) go (λ _ _ _ _. tt)
  where
    go : (s1 : State) (w1 : World) (n : Next A) → (Further n → left e s1 < left e s) → Goes (λ _ _ _. Unit {0}) (λ _ _ _. Unit {0}) e (left e s) s1 w1 n
    go s1 w1 (more b) f = on tt (f tt)
    go s1 w1 (stop b) f = off tt

module _ {A : Type 0} {e : Sheet} {W : A → Type 0} where
  -- nothing is owed of this answer
  pub spares : {a : A} → (W a → ⊥) → Spends e W (give a)
  spares n = record { ends = λ s w. well (λ x. absurd (n x)) }

  -- a rule that always takes a token
  pub always : {r : Rule A} → Spends e Plain r → Spends e W r
  always x = record { ends = λ s w. weaken (x.ends s w) (λ s1 w1 a f _. f tt) (λ _ _ _ _. tt) }

  -- one that takes a token wherever it begins does so where one stands
  pub feeds : {r : Rule A} → Spends e W r → Feeds e W r
  feeds x = record { ends = λ s w h. x.ends s w }

  pub either-spends : {r q : Rule A} (b : Bool) → Spends e W r → Spends e W q → Spends e W (if_so r q b)
  either-spends true x y = x
  either-spends false x y = y

module _ {B : Type 0} (e : Sheet) {W : B → Type 0} where
  -- what ends a rule that keeps the place, after one that began with more tokens left
  rests : {r : Rule B} (s : State) (s1 : State) (w1 : World) → Keeps ground Plain r → left e s1 < left e s → Ends (λ s2 _ b. W b → left e s2 < left e s) Any (r s1 w1)
  rests s s1 w1 x h = weaken (x.ends s1 w1 (ground-stands s1)) (λ s2 w2 b p _. let l = p.0.later.at in omega arith) (λ _ _ _ _. tt)

module _ {A B : Type 0} {e : Sheet} {W : B → Type 0} where
  -- first a rule that takes a token, then one that keeps the place
  pub first-spends : {r : Rule A} {k : A → Rule B} → Spends e Plain r → ((a : A) → Keeps ground Plain (k a)) → Spends e W (r >>= k)
  first-spends x y = record { ends = λ s w. then (x.ends s w) (λ _ _ _ _. tt) (λ s1 w1 a f. rests e s s1 w1 (y a) (f tt)) }

  pub first-feeds : {r : Rule A} {k : A → Rule B} → Feeds e Plain r → ((a : A) → Keeps ground Plain (k a)) → Feeds e W (r >>= k)
  first-feeds x y = record { ends = λ s w h. then (x.ends s w h) (λ _ _ _ _. tt) (λ s1 w1 a f. rests e s s1 w1 (y a) (f tt)) }

  -- first a rule that keeps the place, then one that takes a token
  pub then-spends : {G : A → Type 0} {r : Rule A} {k : A → Rule B} → Keeps ground G r → ((a : A) → Spends e W (k a)) → Spends e W (r >>= k)
  then-spends x y = record { ends = λ s w. then (x.ends s w (ground-stands s)) (λ _ _ _ _. tt) (λ s1 w1 a p. let l = p.0.later.at in weaken ((y a).ends s1 w1) (λ s2 w2 b f o. let z = f o in omega arith) (λ _ _ _ _. tt)) }

module _ {A : Type 0} {e : Sheet} {W : A → Type 0} where
  -- a rule that takes a token where it holds, then one that keeps the place; where it does not, the other rule has to take one
  pub if-spends : {G : Bool → Type 0} {r : Rule Bool} {p q : Rule A} → Keeps ground G r → Spends e Holds r → Keeps ground Plain p → Spends e W q → Spends e W (r >>= if_so p q)
  if-spends {p = p} {q = q} k x y z = record { ends = λ s w. then (both (k.ends s w (ground-stands s)) (x.ends s w)) (λ _ _ _ _. tt) (λ s1 w1 b f. by s s1 w1 b f.0.0.later.at f.1) }
    where
      by : (s s1 : State) (w1 : World) (b : Bool) → s.at ≤ s1.at → (Holds b → left e s1 < left e s) → Ends (λ s2 _ a. W a → left e s2 < left e s) Any (if_so p q b s1 w1)
      by s s1 w1 true l f = rests e s s1 w1 y (f tt)
      by s s1 w1 false l f = weaken (z.ends s1 w1) (λ s2 w2 a g o. let u = g o in omega arith) (λ _ _ _ _. tt)

-- a rule with another one for where it fails: what is owed where it does not
instead : {A B : Type 0} {P : State → World → B → Type 0} {o : Out A} {back : State → World → Fault → Out B} (k : State → World → A → Out B) → Ends (λ _ _ _. Unit {0}) (λ s w f. Ends P Any (back s w f)) o → Ends P Any (bind o k) → Ends P Any (or_else o k back)
instead k (well p) x = x
instead k (ill p) x = p
instead k cut x = cut

module _ {A B : Type 0} {e : Sheet} {W : B → Type 0} {G : A → Type 0} {r : Rule A} {back : Rule B} (k : A → Rule B) (keeps : Keeps ground G r) (kept : Spends e W (r >>= k)) (other : Spends e W back) where
  -- an attempt that takes a token where it is kept; where it is undone the other rule has to
  pub attempt-spends : Spends e W (try_parse r k back)
  unfolding try_parse rewind
  attempt-spends = record { ends = λ s w. instead (λ s1 w1 a. k a s1 w1) (weaken (keeps.ends s w (ground-stands s)) (λ _ _ _ _. tt) (λ s1 w1 f p. other.ends _ w1)) (kept.ends s w) }

  -- recovery likewise: the other rule begins where the first one failed
  pub recover-spends : Spends e W (recover r k back)
  unfolding recover
  recover-spends = record {
    ends = λ s w. instead (λ s1 w1 a. k a s1 w1) (weaken (keeps.ends s w (ground-stands s)) (λ _ _ _ _. tt)
        (λ s1 w1 f p. let l = p.later.at in weaken ((then-spends (log-keeps f) (λ _. other)).ends (unbuilt s s1) w1) (λ s2 w2 b h o. let z = h o in omega arith) (λ _ _ _ _. tt))) (kept.ends s w);
  }
