-- Attempts that have to fail: what a failure costs, where a rule fails, and what goes on from where it began.
use mathlib.Core.Path.{◌≡◌, refl, ◌∙◌}
use Prim.Native.Nat.{ℕ, ◌+◌, ◌≤◌, max}
use native.Mathlib.Omega.{arith}
use lib.ListN.{length}
use Rattle.cursor.specs.declared.State.{State}
use Rattle.cursor.specs.Sheet.{Sheet}
use Rattle.cursor.specs.Rule.{World, Out, bind, Rule, ◌>>=◌, or_else}
use Rattle.cursor.specs.Tokens.{rewind}
use Rattle.cursor.specs.Attempts.{try_parse}
use Rattle.grammar.specs.Places.{Place}
use Rattle.sound.proofs.Links.{place_at, Settled}
use Rattle.complete.proofs.Meets.{Cost, ◌⊕◌, undone, Arrived, EndsAt, arrives, short, Meets, FailsAt, faulty, lacking, Fails, lacks, lacks-first, lacks-later}

module _ {e : Sheet} {A B : Type 0} {d : ℕ} {p : Place} {a : Cost} where
  -- a rule fails where its first part does
  pub fails-first : {r : Rule A} (k : A → Rule B) → Fails e d p a r → Fails e d p a (r >>= k)
  fails-first k x = record { fails = λ s w h z. go (x.fails s w h z) }
    where
      go : {s : State} {w : World} {o : Out A} → FailsAt e d a s w o → FailsAt e d a s w (bind o (λ s1 w1 y. k y s1 w1))
      go (faulty f k g) = faulty f k g
      go (lacking l) = lacking l

  -- or where what follows does
  pub fails-later : {q : Place} {b : Cost} {P : A → Type 0} {r : Rule A} {k : A → Rule B} → Meets e d p q a P r → ((x : A) → P x → Fails e d q b (k x)) → Fails e d p (a ⊕ b) (r >>= k)
  fails-later {q} {b} {P} {k = k} first then = record { fails = λ s w h z. go (first.runs s w h z) }
    where
      on : {s s1 : State} {w w1 : World} {o : Out B} → Arrived e d q a s w s1 w1 → FailsAt e d b s1 w1 o → FailsAt e d (a ⊕ b) s w o
      on y (faulty {s1 = s2} {w1 = w2} {f = x} f k g) = faulty {s1 = s2} {w1 = w2} {f = x} (omega (arith, y.reads, f)) (omega (arith, y.paid, k)) (g ∙ y.long)
      on y (lacking l) = lacking (lacks-later y l)

      go : {s : State} {w : World} {o : Out A} → EndsAt e d a q P s w o → FailsAt e d (a ⊕ b) s w (bind o (λ s1 w1 y. k y s1 w1))
      go (arrives y h) = on y ((then _ h).fails _ _ y.calm y.place)
      go (short l) = lacking (lacks-first b l)

module _ {e : Sheet} {A : Type 0} {d : ℕ} {p : Place} {a b : Cost} where
  pub fails-fit : {r : Rule A} → a.reads ≡ b.reads → a.nodes ≤ b.nodes → a.need ≤ b.need → Fails e d p a r → Fails e d p b r
  fails-fit f g h x = record { fails = λ s w i z. go s w (x.fails s w i z) }
    where
      go : (s : State) (w : World) {o : Out A} → FailsAt e d a s w o → FailsAt e d b s w o
      go s w (faulty {s1 = s1} {w1 = w1} {f = x} i k j) = faulty {s1 = s1} {w1 = w1} {f = x} (omega (arith, i)) k j
      go s w (lacking l) = lacking (lacks (omega arith) (omega arith) h refl l)

-- an attempt that fails is undone, and the other rule goes on from where it began; it needs room for no fewer records, and no fewer levels
module _ {e : Sheet} {A B : Type 0} {d : ℕ} {p v : Place} {a b : Cost} {Q : B → Type 0} {r : Rule A} (k : A → Rule B) {back : Rule B} where
  pub retried : Fails e d p a r → a.nodes ≤ b.nodes → a.need ≤ b.need → Meets e d p v b Q back → Meets e d p v (undone a b) Q (try_parse r k back)
  unfolding try_parse rewind
  retried first l m other = record { runs = λ s w h z. go s w h z (first.fails s w h z) }
    where
      on : (s s1 : State) (w w1 : World) {o : Out B} → s1.reads ≡ s.reads + a.reads → s1.reads ≤ max s.reads e.limits.allowance → length w1.nodes ≡ length w.nodes → EndsAt e d b v Q (rewind s s1) w1 o → EndsAt e d (undone a b) v Q s w o
      on s s1 w w1 f k g (arrives y h) = arrives (record { calm = y.calm; place = y.place; errors = y.errors; wanted = y.wanted; reads = omega (arith, f, y.reads); paid = omega (arith, k, y.paid); nodes = y.nodes; housed = omega (arith, y.housed, g); deep = y.deep; long = y.long ∙ g }) h
      on s s1 w w1 f k g (short x) = short (lacks (omega (arith, f)) (omega arith) (omega arith) g x)

      go : (s : State) (w : World) → Settled e.tokens s → place_at e.tokens s ≡ p → {o : Out A} → FailsAt e d a s w o → EndsAt e d (undone a b) v Q s w (or_else o (λ s1 w1 x. k x s1 w1) (λ s1 w1 f. back (rewind s s1) w1))
      go s w h z (faulty {s1 = s1} {w1 = w1} f k g) = on s s1 w w1 f k g (other.runs (rewind s s1) w1 (record { settled = h.settled }) z)
      go s w h z (lacking x) = short (lacks (omega arith) (omega arith) (omega arith) refl x)
