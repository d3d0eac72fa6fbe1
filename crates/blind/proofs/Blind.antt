-- Rules are blind to what the lent buffers held: started on buffers that agree below the counts of the state, a rule ends the same way, with
-- the same state and answer, and leaves buffers that agree below the counts of that state. Buffers are written and never read but for their
-- lengths, and the live list only below its length. The lemmas follow the ways in which rules are put together, so that the proof for a rule
-- is one term that mirrors its text.
use mathlib.Core.Path.{◌≡◌, sym}
use mathlib.Core.List.{List}
use mathlib.Core.Bool.{Bool, true, false, false≢true}
use Prim.Native.Nat.{ℕ, zero, suc, ◌*◌, ◌≤◌}
use native.Mathlib.Nat.{le_refl, le_trans}
use native.Mathlib.Omega.{arith}
use Rattle.cursor.specs.declared.State.{State}
use Rattle.cursor.specs.declared.Fault.{Fault}
use Rattle.cursor.specs.Layout.{node_words, error_words}
use Rattle.cursor.specs.Sheet.{Sheet}
use Rattle.cursor.specs.Rule.{World, fault, refused, Out, done, failed, bind, or_else, Rule, ◌>>=◌, ◌>>◌, give, refuse, if_so, Next, more, stop, Turn, next, turns, iterate}
use Rattle.cursor.specs.Tokens.{rewind}
use Rattle.cursor.specs.Attempts.{try_parse}
use Rattle.cursor.proofs.Keeps.{Mark, mark, Stands, mark-stands, Same}

-- buffers of the same lengths that agree below the counts of a state
pub record Twin (s : State) (w v : World) : Type 0 where
  pub nodes : Same (node_words * s.nodes) w.nodes v.nodes
  pub errors : Same (error_words * s.errors) w.errors v.errors
  pub expected : Same s.wanted w.expected v.expected
  pub live : Same s.live w.live v.live

pub same-below : {m n : ℕ} {xs ys : List ℕ} → m ≤ n → Same n xs ys → Same m xs ys
same-below h a = record { long = a.long; below = λ i p. a.below i (omega arith) }

-- twins at a state are twins at one whose counts are not above its counts
pub twin-below : {s s1 : State} {w v : World} → s.nodes ≤ s1.nodes → s.errors ≤ s1.errors → s.wanted ≤ s1.wanted → s.live ≤ s1.live → Twin s1 w v → Twin s w v
twin-below n e x l t = record { nodes = same-below (omega arith) t.nodes; errors = same-below (omega arith) t.errors; expected = same-below x t.expected; live = same-below l t.live }

-- the numbers of the refusals that arise as work goes on
pub data Refuses : ℕ → Type 0 where
  no_node : Refuses 7
  no-error : Refuses 8
  too-deep : Refuses 9
  all-spent : Refuses 10
  too-many-kinds : Refuses 11

-- two ends that are the same but for what the buffers hold past the counts; the counts are not below a mark, and a refusal has its number
pub data Twins {A : Type 0} (m : Mark) : Out A → Out A → Type 0 where
  well : {s : State} {w v : World} {a : A} → Stands m s → Twin s w v → Twins m (done s w a) (done s v a)
  ill : {s : State} {w v : World} {f : Fault} → Stands m s → Twin s w v → Twins m (failed (fault s w f)) (failed (fault s v f))
  cut : {n : ℕ} → Refuses n → Twins m (failed (refused n)) (failed (refused n))

pub record Blind {A : Type 0} (r : Rule A) : Type 0 where
  pub ends : (m : Mark) (s : State) (w v : World) → Stands m s → Twin s w v → Twins m (r s w) (r s v)

stands-trans : {m : Mark} {s s1 : State} → Stands m s → Stands (mark s) s1 → Stands m s1
stands-trans h g = record { nodes = le_trans h.nodes g.nodes; errors = le_trans h.errors g.errors; wanted = le_trans h.wanted g.wanted }

module _ {A B : Type 0} {m : Mark} where
  then : {o p : Out A} {k : State → World → A → Out B} → Twins m o p → ((s : State) (w v : World) (a : A) → Stands m s → Twin s w v → Twins m (k s w a) (k s v a)) → Twins m (bind o k) (bind p k)
  then (well h t) f = f _ _ _ _ h t
  then (ill h t) f = ill h t
  then (cut p) f = cut p

  pub either : {o p : Out A} {k : State → World → A → Out B} {back : State → World → Fault → Out B} → Twins m o p → ((s : State) (w v : World) (a : A) → Stands m s → Twin s w v → Twins m (k s w a) (k s v a)) → ((s : State) (w v : World) (f : Fault) → Stands m s → Twin s w v → Twins m (back s w f) (back s v f)) → Twins m (or_else o k back) (or_else p k back)
  either (well h t) f g = f _ _ _ _ h t
  either (ill h t) f g = g _ _ _ _ h t
  either (cut p) f g = cut p

-- done with the counts as they were, and a live list that is not longer
pub on : {A : Type 0} {m : Mark} {s s1 : State} {w v : World} {a : A} → s1.nodes ≡ s.nodes → s1.errors ≡ s.errors → s1.wanted ≡ s.wanted → s1.live ≤ s.live → Stands m s → Twin s w v → Twins m (done s1 w a) (done s1 v a)
on {s1 = s1} n e x l h t = well {s = s1} (record { nodes = omega (arith, n, h.nodes); errors = omega (arith, e, h.errors); wanted = omega (arith, x, h.wanted) }) (twin-below (omega (arith, n)) (omega (arith, e)) (omega (arith, x)) l t)

-- under one mark, whatever was known under a higher one
pub lowered : {A : Type 0} {m : Mark} {s : State} {o p : Out A} → Stands m s → Twins (mark s) o p → Twins m o p
lowered h (well g t) = well (stands-trans h g) t
lowered h (ill g t) = ill (stands-trans h g) t
lowered h (cut p) = cut p

module _ {A : Type 0} where
  pub gives : {a : A} → Blind (give a)
  gives = record { ends = λ m s w v h t. well h t }

  pub refuses : {n : ℕ} → Refuses n → Blind {A = A} (refuse n)
  refuses p = record { ends = λ m s w v h t. cut p }

  -- the one rule or the other
  pub ifs : {r q : Rule A} (b : Bool) → Blind r → Blind q → Blind (if_so r q b)
  ifs true x y = x
  ifs false x y = y

  -- a branch on what both ends know
  pub branch : {m : Mark} (b : Bool) {c : Bool} {x y p q : Out A} → c ≡ b → Twins m x p → Twins m y q → Twins {A = A} m (elim b as (λ _. Out A) [ true ↦ x | false ↦ y ]) (elim c as (λ _. Out A) [ true ↦ p | false ↦ q ])
  branch true {c = true} e f g = f
  branch true {c = false} e f g = absurd (false≢true e)
  branch false {c = false} e f g = g
  branch false {c = true} e f g = absurd (false≢true (sym e))

module _ {A B : Type 0} where
  -- first a rule, then what its answer calls for
  pub binds : {r : Rule A} {k : A → Rule B} → Blind r → ((a : A) → Blind (k a)) → Blind (r >>= k)
  binds x y = record { ends = λ m s w v h t. then (x.ends m s w v h t) (λ s1 w1 v1 a g u. (y a).ends m s1 w1 v1 g u) }

  -- first a rule, then another
  pub thens : {r : Rule A} {q : Rule B} → Blind r → Blind q → Blind (r >> q)
  thens x y = binds x (λ _. y)

  -- an attempt: the other rule begins where the attempt did
  pub attempts : {r : Rule A} {k : A → Rule B} {back : Rule B} → Blind r → ((a : A) → Blind (k a)) → Blind back → Blind (try_parse r k back)
  unfolding try_parse rewind
  attempts x y z = record {
    ends = λ m s w v h t. lowered h (either (x.ends (mark s) s w v (mark-stands s) t)
        (λ s1 w1 v1 a g u. (y a).ends (mark s) s1 w1 v1 g u)
        (λ s1 w1 v1 f g u. z.ends (mark s) _ w1 v1 (record { nodes = le_refl _; errors = le_refl _; wanted = le_refl _ }) (twin-below g.nodes g.errors g.wanted (omega arith) u)));
  }

module _ {A : Type 0} {t : Turn A} (turn : (a : A) → Blind (t a)) where
  go_on : {r : A → Rule A} → ((a : A) → Blind (r a)) → (n : Next A) → Blind (next r n)
  go_on f (more a) = f a
  go_on f (stop a) = gives

  turns-blind : (k : ℕ) (a : A) → Blind (turns t k a)
  unfolding turns
  turns-blind zero a = gives
  turns-blind (suc k) a = binds (turn a) (go_on (turns-blind k))

  pub loops : (e : Sheet) (a : A) → Blind (iterate e t a)
  unfolding iterate
  loops e a = record { ends = λ m s w v h u. (turns-blind _ a).ends m s w v h u }
