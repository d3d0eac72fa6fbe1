-- Loops: as many turns as tokens are left are enough, since each turn that goes on leaves fewer.
use Rattle.std.proofs.Common.{◌≡◌, ℕ, zero, suc, ◌-◌, ◌<◌, ◌≤◌, refl, ap, ◌∙◌, arith}
use Rattle.cursor.specs.declared.State.{State}
use Rattle.cursor.specs.declared.Fault.{Fault}
use Rattle.cursor.specs.Sheet.{Sheet, count}
use Rattle.cursor.specs.Rule.{World, Stop, done, failed, bind, Next, more, stop, Turn, next, turns, iterate}
use Rattle.cursor.proofs.Ends.{Ends, well, Any, at_done, then, bind-same}

-- how many tokens are left
abbrev pub left : Sheet → State → ℕ
left e s = count e.tokens - s.at

-- a turn that goes on keeps I and leaves fewer tokens; one that stops has Q
pub data Goes {A : Type 0} (I Q : State → World → A → Type 0) (e : Sheet) (n : ℕ) : State → World → Next A → Type 0 where
  on : {s : State} {w : World} {a : A} → I s w a → left e s < n → Goes I Q e n s w (more a)
  off : {s : State} {w : World} {a : A} → Q s w a → Goes I Q e n s w (stop a)

abbrev pub Turning : {A : Type 0} (I Q : State → World → A → Type 0) (F : State → World → Fault → Type 0) → Sheet → Turn A → Type 0
Turning I Q F e t = (s : State) (w : World) (a : _) → I s w a → Ends (Goes I Q e (left e s)) F (t a s w)

-- nothing is kept but that each turn takes a token
abbrev pub Takes : {A : Type 0} → Sheet → Turn A → Type 0
Takes e t = Turning (λ _ _ _. Unit {0}) (λ _ _ _. Unit {0}) Any e t

module _ {A : Type 0} {I Q : State → World → A → Type 0} {F : State → World → Fault → Type 0} (e : Sheet) (t : Turn A) (turning : Turning I Q F e t) where
  turned : (k : ℕ) → ((s : State) (w : World) (a : A) → left e s < k → I s w a → Ends Q F (turns t k a s w)) → (s : State) (w : World) (n : Next A) {i : ℕ} → i ≤ k → Goes I Q e i s w n → Ends Q F (next (turns t k) n s w)
  turned k ih s w n h (on i p) = ih s w _ (omega arith) i
  turned k ih s w n h (off q) = well q

  turns-end : (k : ℕ) (s : State) (w : World) (a : A) → left e s < k → I s w a → Ends Q F (turns t k a s w)
  unfolding turns
  turns-end zero s w a h i = absurd (omega arith)
  turns-end (suc k) s w a h i = then (turning s w a i) (λ _ _ _ f. f) (λ s1 w1 n g. turned k (turns-end k) s1 w1 n (omega arith) g)

  -- a loop ends as its last turn does
  pub loop-ends : (s : State) (w : World) (a : A) → I s w a → Ends Q F (iterate e t a s w)
  unfolding iterate
  loop-ends s w a i = turns-end (suc (left e s)) s w a (omega arith) i

module _ {A : Type 0} (e : Sheet) (t : Turn A) (takes : Takes e t) where
  same_next : (k m : ℕ) → ((s : State) (w : World) (a : A) → left e s < k → left e s < m → turns t k a s w ≡ turns t m a s w) → (s : State) (w : World) (n : Next A) {i : ℕ} → i ≤ k → i ≤ m → Goes (λ _ _ _. Unit {0}) (λ _ _ _. Unit {0}) e i s w n → next (turns t k) n s w ≡ next (turns t m) n s w
  same_next k m ih s w n p q (on _ r) = ih s w _ (omega arith) (omega arith)
  same_next k m ih s w n p q (off _) = refl

  -- more turns than tokens are left change nothing
  enough : (k m : ℕ) (s : State) (w : World) (a : A) → left e s < k → left e s < m → turns t k a s w ≡ turns t m a s w
  unfolding turns
  enough zero m s w a p q = absurd (omega arith)
  enough (suc k) zero s w a p q = absurd (omega arith)
  enough (suc k) (suc m) s w a p q = bind-same (takes s w a tt) (λ s1 w1 n g. same_next k m (enough k m) s1 w1 n (omega arith) (omega arith) g)

  fewer : {s1 : State} {w1 : World} {a1 : A} {i : ℕ} → Goes (λ _ _ _. Unit {0}) (λ _ _ _. Unit {0}) e i s1 w1 (more a1) → left e s1 < i
  fewer (on _ p) = p

  pub loop-less : {s s1 : State} {w w1 : World} {a a1 : A} → t a s w ≡ done s1 w1 (more a1) → left e s1 < left e s
  loop-less {s} {w = w} {a = a} q = fewer (at_done (takes s w a tt) q)

  pub loop-more : {s s1 : State} {w w1 : World} {a a1 : A} → t a s w ≡ done s1 w1 (more a1) → iterate e t a s w ≡ iterate e t a1 s1 w1
  unfolding iterate turns
  loop-more {s} {s1} {w} {w1} {a} {a1} q =
      let less = loop-less q in
      ap (λ o. bind o (λ s2 w2 n. next (turns t (left e s)) n s2 w2)) q ∙ enough (left e s) (suc (left e s1)) s1 w1 a1 less (omega arith)

module _ {A : Type 0} (e : Sheet) (t : Turn A) where
  pub loop-stop : {s s1 : State} {w w1 : World} {a a1 : A} → t a s w ≡ done s1 w1 (stop a1) → iterate e t a s w ≡ done s1 w1 a1
  unfolding iterate turns
  loop-stop {s} q = ap (λ o. bind o (λ s2 w2 n. next (turns t (left e s)) n s2 w2)) q

  pub loop-failed : {s : State} {w : World} {a : A} {x : Stop} → t a s w ≡ failed x → iterate e t a s w ≡ failed x
  unfolding iterate turns
  loop-failed {s} q = ap (λ o. bind o (λ s2 w2 n. next (turns t (left e s)) n s2 w2)) q
