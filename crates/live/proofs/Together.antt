-- The ways in which rules are put together, and what the whole adds to the live list by what its parts do.
use mathlib.Core.Path.{◌≡◌, refl}
use mathlib.Core.Bool.{Bool, true, false}
use Prim.Native.Nat.{ℕ, zero, suc, ◌+◌, ◌-◌, ◌≤◌, max}
use native.Mathlib.Nat.{le_refl, le_trans}
use native.Mathlib.Omega.{arith}
use Rattle.cursor.specs.declared.State.{State}
use Rattle.cursor.specs.Sheet.{Sheet, count}
use Rattle.cursor.specs.Rule.{World, Out, Rule, ◌>>=◌, Next, more, stop, Turn, next, turns, iterate}
use Rattle.cursor.specs.Tokens.{rewind}
use Rattle.cursor.specs.Checks.{live_room}
use Rattle.cursor.specs.Attempts.{try_parse}
use Rattle.live.proofs.Live.{Ends, well, weaken, then, either, Settled, Kept, taken, fresh, same, none, all, going, Bounded, Adds, Turns, loosen, anyway, later, later-room, at_most, behind, without-m, left-of, right_of}

module _ {e : Sheet} {N : ℕ} where
  module _ {A B : Type 0} {φ : B → Bool} {a1 m1 b1 f1 j1 a2 m2 b2 f2 j2 : ℕ} {r : Rule A} {k : A → Rule B} where
    -- first a rule, then what its answer calls for
    pub binds : Bounded e N none a1 m1 b1 f1 j1 r → ((x : A) → Bounded e N φ a2 m2 b2 f2 j2 (k x)) → Bounded e N φ (a1 + a2) m2 (max (b1 + a2) b2) (max f1 (max (b1 + a2) f2)) (max j1 (max (b1 + a2) j2)) (r >>= k)
    binds x y = record {
      ends = λ s w h g t. then (x.ends s w h (omega arith) (omega arith))
          (λ s1 z. (z.0, loosen (omega arith) (le_refl _) (left-of _ _) z.1))
          (λ s1 w1 v z. weaken ((y v).ends s1 w1 z.0 (later-room a2 z.1 g (omega arith)) (omega arith))
          (λ s2 _ u. (u.0, later z.1 u.1))
          (λ s2 u. (u.0, loosen (le_refl _) (le_refl _) (right_of _ _) (later z.1 u.1))));
    }

    -- first a rule that passes a token, then one of which the same is told as of both
    pub onto : Bounded e N all a1 m1 b1 f1 j1 r → ((x : A) → Bounded e N φ a2 m2 b2 f2 j2 (k x)) → Bounded e N φ a1 m2 (max (m1 + a2) b2) (max f1 (max (m1 + a2) f2)) (max j1 (max (m1 + a2) j2)) (r >>= k)
    onto x y = record {
      ends = λ s w h g t. then (x.ends s w h g (omega arith))
          (λ s1 z. (z.0, loosen (le_refl _) (le_refl _) (left-of _ _) z.1))
          (λ s1 w1 v z. let l = at_most z.1 in weaken ((y v).ends s1 w1 z.0 (omega arith) (omega arith))
          (λ s2 _ u. (u.0, on l u.1))
          (λ s2 u. (u.0, loosen {a = a1} {m = 0} (le_refl _) (le_refl _) (right_of _ _) (fresh (behind m1 l u.1)))));
    }
      where
        on : {s s1 s2 : State} {c : Bool} → s1.live ≤ N + m1 → Kept N s1 s2 a2 m2 b2 c → Kept N s s2 a1 m2 (max (m1 + a2) b2) c
        on l (taken n) = taken n
        on l (fresh n) = fresh (omega arith)
        on l (same q n) = fresh (omega arith)

  -- first a rule that passes a token, then any
  module _ {A B : Type 0} {φ : B → Bool} {a1 m1 b1 f1 j1 a2 m2 b2 f2 j2 : ℕ} {r : Rule A} {k : A → Rule B} where
    pub after : Bounded e N all a1 m1 b1 f1 j1 r → ((x : A) → Bounded e N none a2 m2 b2 f2 j2 (k x)) → Bounded e N φ a1 (max (m1 + a2) b2) (max (m1 + a2) b2) (max f1 (max (m1 + a2) f2)) (max j1 (max (m1 + a2) j2)) (r >>= k)
    after x y = record {
      ends = λ s w h g t. then (x.ends s w h g (omega arith))
          (λ s1 z. (z.0, loosen (le_refl _) (le_refl _) (left-of _ _) z.1))
          (λ s1 w1 v z. let l = at_most z.1 in weaken ((y v).ends s1 w1 z.0 (omega arith) (omega arith))
          (λ s2 o u. (u.0, anyway (φ o) (behind m1 l u.1)))
          (λ s2 u. (u.0, loosen {a = a1} {m = 0} (le_refl _) (le_refl _) (right_of _ _) (fresh (behind m1 l u.1)))));
    }

  -- first a rule whose answer may tell that it passed a token, then what the answer calls for
  module _ {A B : Type 0} {φ : A → Bool} {ψ : B → Bool} {a1 m1 b1 f1 j1 a2 m2 b2 f2 j2 a3 m3 b3 f3 j3 : ℕ} {r : Rule A} {k : A → Rule B} where
    splits-to : (M T F J : ℕ) → max (m1 + a2) b2 ≤ M → max (m1 + a2) b2 ≤ T → m3 ≤ M → max (b1 + a3) b3 ≤ T → f1 ≤ F → max (m1 + a2) f2 ≤ F → max (b1 + a3) f3 ≤ F → j1 ≤ J → max (m1 + a2) j2 ≤ J → max (b1 + a3) j3 ≤ J
        → Bounded e N φ a1 m1 b1 f1 j1 r → ((x : A) → φ x ≡ true → Bounded e N none a2 m2 b2 f2 j2 (k x)) → ((x : A) → φ x ≡ false → Bounded e N ψ a3 m3 b3 f3 j3 (k x)) → Bounded e N ψ (a1 + a3) M T F J (r >>= k)
    splits-to M T F J p1 p2 p3 p4 p5 p6 p7 p8 p9 p0 x y n = record {
      ends = λ s w h g t. then (x.ends s w h (omega arith) (omega arith))
          (λ s1 z. (z.0, loosen (omega arith) (le_refl _) p5 z.1))
          (λ s1 w1 v z. by s w1 v g t (φ v) refl z.0 z.1);
    }
      where
        by : (s : State) {s1 : State} (w1 : World) (v : A) → s.live + (a1 + a3) ≤ live_room → N + J ≤ live_room → (c : Bool) → φ v ≡ c → Settled e s1 → Kept N s s1 a1 m1 b1 c → Ends (λ s2 x. Settled e s2 × Kept N s s2 (a1 + a3) M T (ψ x)) (λ s2. Settled e s2 × Kept N s s2 (a1 + a3) 0 F false) (k v s1 w1)
        by s w1 v g t true q h z =
            let l = at_most z in
            weaken ((y v q).ends _ w1 h (omega (arith, l, p9, t)) (omega (arith, p9, t)))
            (λ s2 o u. (u.0, loosen {a = a1 + a3} (le_refl _) p1 p2 (anyway (ψ o) (behind m1 l u.1))))
            (λ s2 u. (u.0, loosen {a = a1 + a3} {m = 0} (le_refl _) (le_refl _) p6 (fresh (behind m1 l u.1))))
        by s w1 v g t false q h z =
            weaken ((n v q).ends _ w1 h (later-room a3 z g (omega (arith, p0, t))) (omega (arith, p0, t))) (λ s2 o u. (u.0, loosen (le_refl _) p3 p4 (later z u.1))) (λ s2 u. (u.0, loosen (le_refl _) (le_refl _) p7 (later z u.1)))

    pub splits : Bounded e N φ a1 m1 b1 f1 j1 r → ((x : A) → φ x ≡ true → Bounded e N none a2 m2 b2 f2 j2 (k x)) → ((x : A) → φ x ≡ false → Bounded e N ψ a3 m3 b3 f3 j3 (k x))
        → Bounded e N ψ (a1 + a3) (max (max (m1 + a2) b2) m3) (max (max (m1 + a2) b2) (max (b1 + a3) b3)) (max f1 (max (max (m1 + a2) f2) (max (b1 + a3) f3))) (max j1 (max (max (m1 + a2) j2) (max (b1 + a3) j3))) (r >>= k)
    splits = splits-to _ _ _ _ (left-of _ _) (left-of _ _) (right_of _ _) (right_of _ _) (left-of _ _) (le_trans (left-of _ _) (right_of _ _)) (le_trans (right_of _ _) (right_of _ _)) (left-of _ _) (le_trans (left-of _ _) (right_of _ _)) (le_trans (right_of _ _) (right_of _ _))

  -- an attempt: the other rule begins where the attempt did
  module _ {A B : Type 0} {ψ : B → Bool} {a1 m1 b1 f1 j1 a2 m2 b2 f2 j2 a3 m3 b3 f3 j3 : ℕ} {r : Rule A} {k : A → Rule B} {back : Rule B} where
    attempts-to : (L M T F J : ℕ) → a1 ≤ L → a3 ≤ L → max (m1 + a2) b2 ≤ M → max (m1 + a2) b2 ≤ T → m3 ≤ M → b3 ≤ T → max (m1 + a2) f2 ≤ F → f3 ≤ F → j1 ≤ J → max (m1 + a2) j2 ≤ J → j3 ≤ J
        → Bounded e N all a1 m1 b1 f1 j1 r → ((x : A) → Bounded e N none a2 m2 b2 f2 j2 (k x)) → Bounded e N ψ a3 m3 b3 f3 j3 back → Bounded e N ψ L M T F J (try_parse r k back)
    unfolding try_parse rewind
    attempts-to L M T F J l1 l3 p1 p2 p3 p4 p5 p6 p7 p8 p9 x y z = record {
      ends = λ s w h g t. either (x.ends s w h (omega arith) (omega arith))
          (λ s1 w1 v u. let l = at_most u.1 in weaken ((y v).ends s1 w1 u.0 (omega (arith, l, p8, t)) (omega (arith, p8, t)))
          (λ s2 o i. (i.0, loosen {a = L} (le_refl _) p1 p2 (anyway (ψ o) (behind m1 l i.1))))
          (λ s2 i. (i.0, loosen {a = L} {m = 0} (le_refl _) (le_refl _) p5 (fresh (behind m1 l i.1)))))
          (λ s1 w1 f u. weaken (z.ends (rewind s s1) w1 (record { calm = h.calm }) (omega (arith, l3, g)) (omega (arith, p9, t)))
          (λ s2 o i. (i.0, loosen l3 p3 p4 (back_to s s1 i.1)))
          (λ s2 i. (i.0, loosen l3 (le_refl _) p6 (back_to s s1 i.1))));
    }
      where
        back_to : (s s1 : State) {s2 : State} {a m b : ℕ} {c : Bool} → Kept N (rewind s s1) s2 a m b c → Kept N s s2 a m b c
        back_to s s1 (taken l) = taken l
        back_to s s1 (fresh l) = fresh l
        back_to s s1 (same q l) = same q (omega arith)

    pub attempts : Bounded e N all a1 m1 b1 f1 j1 r → ((x : A) → Bounded e N none a2 m2 b2 f2 j2 (k x)) → Bounded e N ψ a3 m3 b3 f3 j3 back
        → Bounded e N ψ (max a1 a3) (max (max (m1 + a2) b2) m3) (max (max (m1 + a2) b2) b3) (max (max (m1 + a2) f2) f3) (max j1 (max (max (m1 + a2) j2) j3)) (try_parse r k back)
    attempts = attempts-to _ _ _ _ _ (left-of _ _) (right_of _ _) (left-of _ _) (left-of _ _) (right_of _ _) (right_of _ _) (left-of _ _) (right_of _ _) (left-of _ _) (le_trans (left-of _ _) (right_of _ _)) (le_trans (right_of _ _) (right_of _ _))

  -- loops
  module _ {A : Type 0} {t : Turn A} {a m b f j : ℕ} (turn : (x : A) → Turns e N a m b f j (t x)) where
    abbrev Ended : Out A → Type 0
    Ended o = Ends (λ s1 x. Settled e s1 × (s1.live ≤ N + max (m + a) b)) (λ s1. Settled e s1 × (s1.live ≤ N + max (m + a) f)) o

    goes_on_lem : {r : A → Rule A} → ((s : State) (w : World) (x : A) → Settled e s → s.live ≤ N + m → Ended (r x s w)) → (s s1 : State) (w1 : World) (n : Next A) → s.live ≤ N + m → Settled e s1 → Kept N s s1 a m b (going n) → Ended (next r n s1 w1)
    goes_on_lem on s s1 w1 (more x) l h z = on s1 w1 x h (at_most z)
    goes_on_lem on s s1 w1 (stop x) l h z = well (h, behind m l z)

    turns-on : N + max (m + a) j ≤ live_room → (k : ℕ) (s : State) (w : World) (x : A) → Settled e s → s.live ≤ N + m → Ended (turns t k x s w)
    unfolding turns
    turns-on g zero s w x h l = well (h, omega arith)
    turns-on g (suc k) s w x h l = then ((turn x).ends s w h (omega arith) (omega arith)) (λ s1 z. (z.0, behind m l z.1)) (λ s1 w1 n z. goes_on_lem (turns-on g k) s s1 w1 n l z.0 z.1)

    turns-bounded : (k : ℕ) (x : A) → Adds e N a (max (m + a) b) (max (m + a) f) (max (m + a) j) (turns t (suc k) x)
    unfolding turns
    turns-bounded k x = record {
      ends = λ s w h g l. then ((turn x).ends s w h g (omega arith)) (λ s1 z. (z.0, loosen (le_refl _) (le_refl _) (right_of _ _) z.1)) (λ s1 w1 n z. by s s1 w1 n l z.0 z.1);
    }
      where
        by : (s s1 : State) (w1 : World) (n : Next A) → N + max (m + a) j ≤ live_room → Settled e s1 → Kept N s s1 a m b (going n) → Ends (λ s2 x. Settled e s2 × Kept N s s2 a 0 (max (m + a) b) false) (λ s2. Settled e s2 × Kept N s s2 a 0 (max (m + a) f) false) (next (turns t k) n s1 w1)
        by s s1 w1 (more x) g h z = weaken (turns-on g k s1 w1 x h (at_most z)) (λ s2 _ u. (u.0, fresh u.1)) (λ s2 u. (u.0, fresh u.1))
        by s s1 w1 (stop x) g h z = well (h, loosen (le_refl _) (le_refl _) (right_of _ _) (without-m z))

    pub loops : (d : Sheet) (x : A) → Adds e N a (max (m + a) b) (max (m + a) f) (max (m + a) j) (iterate d t x)
    unfolding iterate
    loops d x = record { ends = λ s w h g l. (turns-bounded (count d.tokens - s.at) x).ends s w h g l }
