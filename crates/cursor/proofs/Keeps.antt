-- What every rule keeps, however it ends: it never moves back, counts and readings never fall, the buffers stay as long as they are, and
-- what lay below the counts when it began is not touched, but for the link behind a row that its caller handed it. The lemmas below
-- follow the ways in which rules are put together, so that the proof for a rule is one term that mirrors its text; Kept has those of this crate.
use Rattle.std.proofs.Common.{◌≡◌, ℕ, zero, suc, ◌*◌, ◌<◌, ◌≤◌, Bool, true, false, List, length, get_or, refl, ◌∙◌, le_trans, le_refl, arith}
use Rattle.cursor.specs.declared.State.{State}
use Rattle.cursor.specs.Layout.{node_words, NEXT, cell, error_words}
use Rattle.cursor.specs.Sheet.{Sheet}
use Rattle.cursor.specs.Rule.{World, Out, Rule, ◌>>=◌, ◌>>◌, give, refuse, if_so, Next, more, stop, Turn, next, turns, iterate}
use Rattle.cursor.specs.Tokens.{rewind}
use Rattle.cursor.specs.Records.{with_nodes}
use Rattle.cursor.specs.Attempts.{try_parse}
use Rattle.cursor.proofs.Ends.{Ends, well, cut, then, either, weaken}
use Rattle.cursor.proofs.Finished.{Agree}

-- the place, the readings and the counts of one state are not below another's
pub record Later (s s1 : State) : Type 0 where
  pub at : s.at ≤ s1.at
  pub reads : s.reads ≤ s1.reads
  pub nodes : s.nodes ≤ s1.nodes
  pub errors : s.errors ≤ s1.errors
  pub wanted : s.wanted ≤ s1.wanted

abbrev pub later : {s s1 : State} → s.at ≤ s1.at → s.reads ≤ s1.reads → s.nodes ≤ s1.nodes → s.errors ≤ s1.errors → s.wanted ≤ s1.wanted → Later s s1
later a r n e x = record { at = a; reads = r; nodes = n; errors = e; wanted = x }

pub later_refl : (s : State) → Later s s
later_refl s = later (le_refl _) (le_refl _) (le_refl _) (le_refl _) (le_refl _)

pub later_trans : {s s1 s2 : State} → Later s s1 → Later s1 s2 → Later s s2
later_trans a b = later (le_trans a.at b.at) (le_trans a.reads b.reads) (le_trans a.nodes b.nodes) (le_trans a.errors b.errors) (le_trans a.wanted b.wanted)

-- up to where the buffers are to stay: so many node records, error records and expected kinds; and the place of the one word of those
-- node records that may be written
pub record Mark : Type 0 where
  pub nodes : ℕ
  pub errors : ℕ
  pub wanted : ℕ
  pub spare : ℕ

-- all that is there stays
abbrev pub mark : State → Mark
mark s = record { nodes = s.nodes; errors = s.errors; wanted = s.wanted; spare = node_words * s.nodes }

-- all but the link behind the record that a link leads to
abbrev pub behind_of : State → ℕ → ℕ
behind_of s zero = node_words * s.nodes
behind_of s (suc i) = cell i NEXT

abbrev pub mark_behind : State → ℕ → Mark
mark_behind s link = record { nodes = s.nodes; errors = s.errors; wanted = s.wanted; spare = behind_of s link }

-- nothing need stay: for what is owed of the state alone
abbrev pub ground : Mark
ground = record { nodes = 0; errors = 0; wanted = 0; spare = 0 }

-- a state is not below a mark
pub record Stands (m : Mark) (s : State) : Type 0 where
  pub nodes : m.nodes ≤ s.nodes
  pub errors : m.errors ≤ s.errors
  pub wanted : m.wanted ≤ s.wanted

pub mark-stands : (s : State) → Stands (mark s) s
mark-stands s = record { nodes = le_refl _; errors = le_refl _; wanted = le_refl _ }

pub behind-stands : (s : State) (link : ℕ) → Stands (mark_behind s link) s
behind-stands s link = record { nodes = le_refl _; errors = le_refl _; wanted = le_refl _ }

pub ground-stands : (s : State) → Stands ground s
ground-stands s = record { nodes = omega arith; errors = omega arith; wanted = omega arith }

pub stands-later : {m : Mark} {s s1 : State} → Stands m s → Later s s1 → Stands m s1
stands-later h l = record { nodes = le_trans h.nodes l.nodes; errors = le_trans h.errors l.errors; wanted = le_trans h.wanted l.wanted }

-- as long as before, and the same below a place
pub record Same (n : ℕ) (xs ys : List ℕ) : Type 0 where
  pub long : length ys ≡ length xs
  pub below : (i : ℕ) → i < n → get_or ys i 0 ≡ get_or xs i 0

pub same_refl : (n : ℕ) (xs : List ℕ) → Same n xs xs
same_refl n xs = record { long = refl; below = λ i h. refl }

pub same-trans : {n : ℕ} {xs ys zs : List ℕ} → Same n xs ys → Same n ys zs → Same n xs zs
same-trans a b = record { long = b.long ∙ a.long; below = λ i h. b.below i h ∙ a.below i h }

-- the buffers are as long as before, and below the mark the same
pub record Kept (m : Mark) (w w1 : World) : Type 0 where
  pub nodes : Agree w.nodes w1.nodes 0 m.nodes m.spare
  pub nodes-long : length w1.nodes ≡ length w.nodes
  pub errors : Same (error_words * m.errors) w.errors w1.errors
  pub expected : Same m.wanted w.expected w1.expected
  pub live-long : length w1.live ≡ length w.live

pub kept_refl : (m : Mark) (w : World) → Kept m w w
kept_refl m w = record { nodes = record { at = λ i k p q r n. refl }; nodes-long = refl; errors = same_refl _ _; expected = same_refl _ _; live-long = refl }

-- another node buffer, that keeps the records below the mark
pub kept-nodes : {m : Mark} {xs : List ℕ} (w : World) → Agree w.nodes xs 0 m.nodes m.spare → length xs ≡ length w.nodes → Kept m w (with_nodes w xs)
kept-nodes w a h = record { nodes = a; nodes-long = h; errors = same_refl _ _; expected = same_refl _ _; live-long = refl }

pub kept_trans : {m : Mark} {w w1 w2 : World} → Kept m w w1 → Kept m w1 w2 → Kept m w w2
kept_trans a b = record {
  nodes = record { at = λ i k p q r n. b.nodes.at i k p q r n ∙ a.nodes.at i k p q r n };
  nodes-long = b.nodes-long ∙ a.nodes-long;
  errors = same-trans a.errors b.errors;
  expected = same-trans a.expected b.expected;
  live-long = b.live-long ∙ a.live-long;
}

-- from one state and buffers to others
pub record Went (m : Mark) (s : State) (w : World) (s1 : State) (w1 : World) : Type 0 where
  pub later : Later s s1
  pub kept : Kept m w w1

pub went_refl : (m : Mark) (s : State) (w : World) → Went m s w s w
went_refl m s w = record { later = later_refl s; kept = kept_refl m w }

pub went-trans : {m : Mark} {s s1 s2 : State} {w w1 w2 : World} → Went m s w s1 w1 → Went m s1 w1 s2 w2 → Went m s w s2 w2
went-trans a b = record { later = later_trans a.later b.later; kept = kept_trans a.kept b.kept }

-- how what began at one state and its buffers ends
abbrev pub EndsFrom : {A : Type 0} → Mark → (A → Type 0) → State → World → Out A → Type 0
EndsFrom m G s w o = Ends (λ s1 w1 a. Went m s w s1 w1 × G a) (λ s1 w1 f. Went m s w s1 w1) o

-- a rule keeps what lies below the mark, however it ends, and where it is done its answer is as G says
pub record Keeps {A : Type 0} (m : Mark) (G : A → Type 0) (r : Rule A) : Type 0 where
  pub ends : (s : State) (w : World) → Stands m s → EndsFrom m G s w (r s w)

-- nothing is said of the answer
abbrev pub Plain : {A : Type 0} → A → Type 0
Plain a = Unit {0}

module _ {A : Type 0} {m : Mark} {G : A → Type 0} where
  pub gives : {a : A} → G a → Keeps m G (give a)
  gives g = record { ends = λ s w h. well (went_refl m s w, g) }

  pub refuses : {n : ℕ} → Keeps m G (refuse n)
  refuses = record { ends = λ s w h. cut }

  -- the one rule or the other
  pub ifs : {r q : Rule A} (b : Bool) → Keeps m G r → Keeps m G q → Keeps m G (if_so r q b)
  ifs true x y = x
  ifs false x y = y

  -- less may be said of the answer
  pub eases : {H : A → Type 0} {r : Rule A} → Keeps m G r → ((a : A) → G a → H a) → Keeps m H r
  eases x f = record { ends = λ s w h. weaken (x.ends s w h) (λ s1 w1 a p. (p.0, f a p.1)) (λ s1 w1 f p. p) }

-- nothing is said of the answer any more
pub plain : {A : Type 0} {m : Mark} {G : A → Type 0} {r : Rule A} → Keeps m G r → Keeps m Plain r
plain x = eases x (λ _ _. tt)

module _ {A : Type 0} {m : Mark} {G : A → Type 0} where
  -- what began at a later state began at the earlier one
  pub earlier : {o : Out A} {s s1 : State} {w w1 : World} → Went m s w s1 w1 → EndsFrom m G s1 w1 o → EndsFrom m G s w o
  earlier p x = weaken x (λ s2 w2 a q. (went-trans p q.0, q.1)) (λ s2 w2 f q. went-trans p q)

module _ {A B : Type 0} {m : Mark} {G : A → Type 0} {H : B → Type 0} where
  -- first a rule, then what its answer calls for
  pub binds : {r : Rule A} {k : A → Rule B} → Keeps m G r → ((a : A) → G a → Keeps m H (k a)) → Keeps m H (r >>= k)
  binds x y = record { ends = λ s w h. then (x.ends s w h) (λ s1 w1 f p. p) (λ s1 w1 a p. earlier p.0 ((y a p.1).ends s1 w1 (stands-later h p.0.later))) }

  -- first a rule, then another
  pub thens : {r : Rule A} {q : Rule B} → Keeps m G r → Keeps m H q → Keeps m H (r >> q)
  thens x y = binds x (λ a g. y)

  -- an attempt: the other rule begins where the attempt did
  pub attempts : {r : Rule A} {k : A → Rule B} {back : Rule B} → Keeps m G r → ((a : A) → G a → Keeps m H (k a)) → Keeps m H back → Keeps m H (try_parse r k back)
  unfolding try_parse rewind
  attempts x y z = record {
    ends = λ s w h. either (x.ends s w h)
        (λ s1 w1 a p. earlier p.0 ((y a p.1).ends s1 w1 (stands-later h p.0.later)))
        (λ s1 w1 f p. earlier (record { later = later (le_refl _) p.later.reads (le_refl _) (le_refl _) (le_refl _); kept = p.kept }) (z.ends _ w1 (record { nodes = h.nodes; errors = h.errors; wanted = h.wanted })));
  }

-- what is owed of a turn's answer is owed of the value that it goes on or stops with
abbrev pub Nexts : {A : Type 0} → (A → Type 0) → Next A → Type 0
Nexts I (more a) = I a
Nexts I (stop a) = I a

module _ {A : Type 0} {m : Mark} {I : A → Type 0} {t : Turn A} (turn : (a : A) → I a → Keeps m (Nexts I) (t a)) where
  go_on : {r : A → Rule A} → ((a : A) → I a → Keeps m I (r a)) → (n : Next A) → Nexts I n → Keeps m I (next r n)
  go_on f (more a) i = f a i
  go_on f (stop a) i = gives i

  turns-keep : (k : ℕ) (a : A) → I a → Keeps m I (turns t k a)
  unfolding turns
  turns-keep zero a i = gives i
  turns-keep (suc k) a i = binds (turn a i) (go_on (turns-keep k))

  -- a loop keeps what each of its turns keeps
  pub loops : (e : Sheet) {a : A} → I a → Keeps m I (iterate e t a)
  unfolding iterate
  loops e {a} i = record { ends = λ s w h. (turns-keep _ a i).ends s w h }
