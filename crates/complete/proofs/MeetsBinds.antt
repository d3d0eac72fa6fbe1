-- Rules put together: the proof for a rule is a term that mirrors its text, by `next`, the turns of loops and the steps of MeetsSteps, with the
-- cost that comes of it; `fits` makes it the cost that is wanted.
use mathlib.Core.Path.{◌≡◌, refl}
use mathlib.Core.Bool.{Bool, true, false}
use Prim.Native.Nat.{ℕ, zero, suc, ◌<◌}
use native.Mathlib.Omega.{arith}
use Rattle.cursor.specs.declared.State.{State}
use Rattle.cursor.specs.declared.Fault.{Fault}
use Rattle.cursor.specs.Sheet.{Sheet}
use Rattle.cursor.specs.Rule.{World, Out, bind, Rule, ◌>>=◌, or_else, give, refuse, if_so, Next, more, stop, Turn, iterate}
use Rattle.cursor.specs.Attempts.{try_parse, recover}
use Rattle.cursor.proofs.Loops.{Takes, loop-more, loop-stop, loop-failed}
use Rattle.grammar.specs.Places.{Place}
use Rattle.complete.proofs.Meets.{Cost, ◌⊕◌, nothing, inside, Any, Goes, goes, Stops, stops, Arrived, few-nodes, few-levels, few-reads, full, EndsAt, arrives, short, Meets, lacks, lacks-first, lacks-later, stays, arrived-trans}

module _ {e : Sheet} {A : Type 0} {d : ℕ} {p : Place} where
  -- nothing happens; P holds of the answer
  pub gives : {P : A → Type 0} {a : A} → P a → Meets e d p p nothing P (give a)
  gives x = record { runs = λ s w h z. arrives (stays h z) x }

  -- the same where nothing is said of the answer, alone or as that of a turn
  pub answers : {a : A} → Meets e d p p nothing Any (give a)
  answers = record { runs = λ s w h z. arrives (stays h z) tt }

  pub answers-more : {a : A} → Meets e d p p nothing (Goes Any) (give (more a))
  answers-more = record { runs = λ s w h z. arrives (stays h z) (goes tt) }

  pub answers-stop : {a : A} → Meets e d p p nothing (Stops Any) (give (stop a))
  answers-stop = record { runs = λ s w h z. arrives (stays h z) (stops tt) }

-- no level is left
pub refuses : {e : Sheet} {A : Type 0} {p q : Place} {c : Cost} {P : A → Type 0} → 0 < c.need → Meets e zero p q c P (refuse 9)
refuses h = record { runs = λ s w _ _. short (few-levels h) }

module _ {e : Sheet} {A : Type 0} {d : ℕ} {p : Place} {P : A → Type 0} where
  -- by a test that is known
  pub yes-so : {q : Place} {c : Cost} {r : Rule A} (t : Rule A) {b : Bool} → b ≡ true → Meets e d p q c P r → Meets e d p q c P (if_so r t b)
  yes-so t h x = rw h x

  pub not_so : {q : Place} {c : Cost} (r : Rule A) {t : Rule A} {b : Bool} → b ≡ false → Meets e d p q c P t → Meets e d p q c P (if_so r t b)
  not_so r h x = rw h x

module _ {e : Sheet} {A : Type 0} {d : ℕ} {p q : Place} {P : A → Type 0} {r : Rule A} where
  -- the same cost
  pub fits : {a b : Cost} → a.reads ≡ b.reads → a.nodes ≡ b.nodes → a.need ≡ b.need → Meets e d p q a P r → Meets e d p q b P r
  fits {a} {b} f g h x = record { runs = λ s w i z. go s w (x.runs s w i z) }
    where
      go : (s : State) (w : World) {o : Out A} → EndsAt e d a q P s w o → EndsAt e d b q P s w o
      go s w (arrives y i) = arrives (record { calm = y.calm; place = y.place; errors = y.errors; wanted = y.wanted; reads = omega (arith, y.reads); paid = y.paid; nodes = omega (arith, y.nodes); housed = y.housed; deep = omega (arith, h, y.deep); long = y.long }) i
      go s w (short l) = short (lacks (omega arith) (omega arith) (omega (arith, h)) refl l)

  -- with one level more
  pub deeper : {c : Cost} → Meets e d p q c P r → Meets e (suc d) p q (inside c) P r
  deeper {c} x = record { runs = λ s w i z. go s w (x.runs s w i z) }
    where
      go : (s : State) (w : World) {o : Out A} → EndsAt e d c q P s w o → EndsAt e (suc d) (inside c) q P s w o
      go s w (arrives y i) = arrives (record { calm = y.calm; place = y.place; errors = y.errors; wanted = y.wanted; reads = y.reads; paid = y.paid; nodes = y.nodes; housed = y.housed; deep = omega (arith, y.deep); long = y.long }) i
      go s w (short (few-nodes l)) = short (few-nodes l)
      go s w (short (few-levels l)) = short (few-levels (omega arith))
      go s w (short (few-reads l)) = short (few-reads l)
      go s w (short full) = short full

  -- less may be said of the answer
  pub maps : {Q : A → Type 0} {c : Cost} → ((a : A) → P a → Q a) → Meets e d p q c P r → Meets e d p q c Q r
  maps {Q} {c} f x = record { runs = λ s w i z. go s w (x.runs s w i z) }
    where
      go : (s : State) (w : World) {o : Out A} → EndsAt e d c q P s w o → EndsAt e d c q Q s w o
      go s w (arrives y i) = arrives y (f _ i)
      go s w (short l) = short l

  -- nothing need be said of it
  pub any : {c : Cost} → Meets e d p q c P r → Meets e d p q c Any r
  any x = record { runs = λ s w i z. go s w (x.runs s w i z) }
    where
      go : (s : State) (w : World) {c : Cost} {o : Out A} → EndsAt e d c q P s w o → EndsAt e d c q Any s w o
      go s w (arrives y i) = arrives y tt
      go s w (short l) = short l

-- what goes on from where a rule has come to
further : {e : Sheet} {B : Type 0} {d : ℕ} {q v : Place} {a b : Cost} {Q : B → Type 0} {s s1 : State} {w w1 : World} {o : Out B} → Arrived e d q a s w s1 w1 → EndsAt e d b v Q s1 w1 o → EndsAt e d (a ⊕ b) v Q s w o
further x (arrives y h) = arrives (arrived-trans x y) h
further x (short l) = short (lacks-later x l)

module _ {e : Sheet} {A B : Type 0} {d : ℕ} {q v : Place} {a b : Cost} {P : A → Type 0} {Q : B → Type 0} where
  onward : {s : State} {w : World} {o : Out A} {k : State → World → A → Out B} → EndsAt e d a q P s w o
      → ((s1 : State) (w1 : World) (x : A) → Arrived e d q a s w s1 w1 → P x → EndsAt e d b v Q s1 w1 (k s1 w1 x)) → EndsAt e d (a ⊕ b) v Q s w (bind o k)
  onward (arrives x h) f = further x (f _ _ _ x h)
  onward (short l) f = short (lacks-first b l)

  -- the same with another way to go on from a fault
  onward-else : {s : State} {w : World} {o : Out A} {k : State → World → A → Out B} (other : State → World → Fault → Out B) → EndsAt e d a q P s w o
      → ((s1 : State) (w1 : World) (x : A) → Arrived e d q a s w s1 w1 → P x → EndsAt e d b v Q s1 w1 (k s1 w1 x)) → EndsAt e d (a ⊕ b) v Q s w (or_else o k other)
  onward-else other (arrives x h) f = further x (f _ _ _ x h)
  onward-else other (short l) f = short (lacks-first b l)

  module _ {p : Place} {r : Rule A} {k : A → Rule B} (first : Meets e d p q a P r) (then : (x : A) → P x → Meets e d q v b Q (k x)) where
    -- first a rule, then what its answer calls for
    pub next : Meets e d p v (a ⊕ b) Q (r >>= k)
    next = record { runs = λ s w h z. onward (first.runs s w h z) (λ s1 w1 x y i. (then x i).runs s1 w1 y.calm y.place) }

    -- an attempt or a recovery whose rule meets its end: the other way is not gone
    pub kept-attempt : (back : Rule B) → Meets e d p v (a ⊕ b) Q (try_parse r k back)
    unfolding try_parse
    kept-attempt back = record { runs = λ s w h z. onward-else _ (first.runs s w h z) (λ s1 w1 x y i. (then x i).runs s1 w1 y.calm y.place) }

    pub kept-recover : (back : Rule B) → Meets e d p v (a ⊕ b) Q (recover r k back)
    unfolding recover
    kept-recover back = record { runs = λ s w h z. onward-else _ (first.runs s w h z) (λ s1 w1 x y i. (then x i).runs s1 w1 y.calm y.place) }

-- loops: a turn that goes on, and the rest; a turn that stops
module _ {e : Sheet} {A : Type 0} {d : ℕ} {p q v : Place} {a b : Cost} {P Q : A → Type 0} {t : Turn A} {x : A} where
  pub turn_more : Takes e t → Meets e d p q a (Goes P) (t x) → ((y : A) → P y → Meets e d q v b Q (iterate e t y)) → Meets e d p v (a ⊕ b) Q (iterate e t x)
  turn_more takes first then = record { runs = λ s w h z. go refl (first.runs s w h z) }
    where
      go : {s : State} {w : World} {o : Out (Next A)} → t x s w ≡ o → EndsAt e d a q (Goes P) s w o → EndsAt e d (a ⊕ b) v Q s w (iterate e t x s w)
      go f (arrives y (goes h)) = rw (loop-more e t takes f) (further y ((then _ h).runs _ _ y.calm y.place))
      go f (short l) = rw (loop-failed e t f) (short (lacks-first b l))

module _ {e : Sheet} {A : Type 0} {d : ℕ} {p q : Place} {c : Cost} {P : A → Type 0} (t : Turn A) (x : A) where
  pub turn-stop : Meets e d p q c (Stops P) (t x) → Meets e d p q c P (iterate e t x)
  turn-stop last = record { runs = λ s w h z. go refl (last.runs s w h z) }
    where
      go : {s : State} {w : World} {o : Out (Next A)} → t x s w ≡ o → EndsAt e d c q (Stops P) s w o → EndsAt e d c q P s w (iterate e t x s w)
      go f (arrives y (stops h)) = rw (loop-stop e t f) (arrives y h)
      go f (short l) = rw (loop-failed e t f) (short l)
