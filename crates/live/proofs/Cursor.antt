-- What the rules of cursor add to the live list.
use Rattle.std.specs.Prelude.{Some, None}
use mathlib.Core.Path.{◌≡◌, refl, sym, ap, ◌∙◌}
use mathlib.Core.List.{List, [], ◌∷◌}
use mathlib.Core.Bool.{Bool, true, false, false≢true, true≢false}
use Prim.Native.Nat.{ℕ, zero, suc, ◌+◌, ◌-◌, ◌/◌, ◌≤◌, min, max, zero-le}
use native.Mathlib.Nat.{le_refl}
use native.Mathlib.Omega.{arith}
use lib.Dec.{ltb, leb, eqb}
use lib.ListN.{length}
use borrow.Author.Tests.{ltb-false, eqb-true, eqb-false}
use Rattle.kinds.specs.Kinds.{is_trivia}
use Rattle.cursor.specs.declared.State.{State}
use Rattle.cursor.specs.declared.Fault.{Fault}
use Rattle.cursor.specs.declared.Kids.{Kids}
use Rattle.cursor.specs.declared.Label.{Label}
use Rattle.cursor.specs.declared.Span.{Span}
use Rattle.cursor.specs.Sheet.{Sheet, count, kind_at, Ranged}
use Rattle.cursor.specs.Layout.{node_words, error_words, node_limit, error_limit, expected_limit}
use Rattle.cursor.specs.Rule.{World, Out, Rule, ◌>>=◌, give, if_so, iterate}
use Rattle.cursor.specs.Tokens.{past_from, past_trivia, eat_trivia, bump, eol_turn, eat_eol}
use Rattle.cursor.specs.Checks.{live_room, want, check, eat, expect, eat_range, unexpected, Case, ◌⇒◌, choose}
use Rattle.cursor.specs.Records.{append, add, reflag, list_length, log}
use Rattle.cursor.proofs.TokenPaths.{kind-out, past_off}
use Rattle.types.specs.Items.{is_ended}
use Rattle.live.proofs.Live.{Ends, well, ill, cut, branch, weaken, then, Settled, settled-by, Kept, taken, same, none, Bounded, Adds, Takes, Turns, eased, adds, takes, fits, gives, ifs}
use Rattle.live.proofs.Together.{binds, after, splits, loops}

-- past trivia none stands
module _ (ws : List ℕ) where
  calm-from : (n i : ℕ) → length ws / 3 ≤ i + n → is_trivia (kind_at ws (past_from ws n i)) ≡ false
  unfolding past_from is_trivia
  calm-from zero i h = ap is_trivia (kind-out ws i (omega arith))
  calm-from (suc n) i h = go (is_trivia (kind_at ws i)) refl (calm-from n (i + 1) (omega arith))
    where
      go : (b : Bool) → is_trivia (kind_at ws i) ≡ b → is_trivia (kind_at ws (past_from ws n (i + 1))) ≡ false → is_trivia (kind_at ws (past_from ws (suc n) i)) ≡ false
      go true e f = rw (e, past_from) f
      go false e f = rw (e, past_from) e

  pub calm-past : (i : ℕ) → is_trivia (kind_at ws (past_trivia ws i)) ≡ false
  unfolding past_trivia count
  calm-past i = calm-from (length ws / 3 - i) i (omega arith)

pub no_more : (n k : ℕ) → n ≤ n + k
no_more n k = omega arith

-- an answer that is the test itself
abbrev pub yes : Bool → Bool
yes b = b

-- first a test that passes a token where it holds, then the one rule or the other
pub asks : {e : Sheet} {N : ℕ} {B : Type 0} {ψ : B → Bool} {a1 m1 b1 f1 j1 a2 m2 b2 f2 j2 a3 m3 b3 f3 j3 : ℕ} {r : Rule Bool} {q z : Rule B} → Bounded e N yes a1 m1 b1 f1 j1 r → Bounded e N none a2 m2 b2 f2 j2 q → Bounded e N ψ a3 m3 b3 f3 j3 z
    → Bounded e N ψ (a1 + a3) (max (max (m1 + a2) b2) m3) (max (max (m1 + a2) b2) (max (b1 + a3) b3)) (max f1 (max (max (m1 + a2) f2) (max (b1 + a3) f3))) (max j1 (max (max (m1 + a2) j2) (max (b1 + a3) j3))) (r >>= if_so q z)
asks {e} {N} {ψ = ψ} {a2 = a2} {m2 = m2} {b2 = b2} {f2 = f2} {j2 = j2} {a3 = a3} {m3 = m3} {b3 = b3} {f3 = f3} {j3 = j3} {q = q} {z = z} x y n = splits x so not
  where
    so : (c : Bool) → c ≡ true → Bounded e N none a2 m2 b2 f2 j2 (if_so q z c)
    so true p = y
    so false p = absurd (false≢true p)

    not : (c : Bool) → c ≡ false → Bounded e N ψ a3 m3 b3 f3 j3 (if_so q z c)
    not true p = absurd (true≢false p)
    not false p = n

-- the same where the answer is a range or none
pub ranges : {e : Sheet} {N : ℕ} {B : Type 0} {ψ : B → Bool} {a1 m1 b1 f1 j1 a2 m2 b2 f2 j2 a3 m3 b3 f3 j3 : ℕ} {r : Rule Ranged} (k : Ranged → Rule B) → Bounded e N is_ended a1 m1 b1 f1 j1 r → ((c : Span) → Bounded e N none a2 m2 b2 f2 j2 (k (Some c))) → Bounded e N ψ a3 m3 b3 f3 j3 (k None)
    → Bounded e N ψ (a1 + a3) (max (max (m1 + a2) b2) m3) (max (max (m1 + a2) b2) (max (b1 + a3) b3)) (max f1 (max (max (m1 + a2) f2) (max (b1 + a3) f3))) (max j1 (max (max (m1 + a2) j2) (max (b1 + a3) j3))) (r >>= k)
ranges {e} {N} {ψ = ψ} {a2 = a2} {m2 = m2} {b2 = b2} {f2 = f2} {j2 = j2} {a3 = a3} {m3 = m3} {b3 = b3} {f3 = f3} {j3 = j3} k x y n = splits x so not
  where
    so : (c : Ranged) → is_ended c ≡ true → Bounded e N none a2 m2 b2 f2 j2 (k c)
    so (Some c) p = y c
    so None p = absurd (false≢true p)

    not : (c : Ranged) → is_ended c ≡ false → Bounded e N ψ a3 m3 b3 f3 j3 (k c)
    not (Some c) p = absurd (true≢false p)
    not None p = n

-- what the ways of a chain of checks add: the one that is taken, or one kind and what the ways behind it add, down to the other rule
infixr 30 ◌&◌
pub data Ways (e : Sheet) (N : ℕ) {A : Type 0} (φ : A → Bool) : ℕ → ℕ → ℕ → ℕ → ℕ → List (Case A) → Rule A → Type 0 where
  otherwise : {a m b f j : ℕ} {other : Rule A} → Bounded e N φ a m b f j other → Ways e N φ a m b f j [] other
  ◌&◌ : {a m b f j a1 m1 b1 f1 j1 k : ℕ} {r other : Rule A} {cases : List (Case A)} → Bounded e N φ a m b f j r → Ways e N φ a1 m1 b1 f1 j1 cases other
      → Ways e N φ (1 + max a a1) (max m m1) (max (max a a1) (max b b1)) (max (max a a1) (max f f1)) (max (max a a1) (max j j1)) ((k ⇒ r) ∷ cases) other

-- rules that leave the place and do not lengthen the live list
pub record Still {A : Type 0} (r : Rule A) : Type 0 where
  pub stays : (s : State) (w : World) → Ends (λ s1 _. (s1.at ≡ s.at) × (s1.live ≤ s.live)) (λ _. ⊥) (r s w)

pub still-bounded : {e : Sheet} {N : ℕ} {A : Type 0} {r : Rule A} → Still r → Adds e N 0 0 0 0 r
still-bounded x = record { ends = λ s w h g t. weaken (x.stays s w) (λ s1 _ z. (settled-by z.0 h, same z.0 (no_longer z.1))) (λ s1 z. absurd z) }
  where
    no_longer : {n m : ℕ} → n ≤ m → n ≤ m + 0
    no_longer p = omega arith

-- what a test says of the kind k that stands here
pub data Checked (k kind : ℕ) (s s1 : State) : Bool → Type 0 where
  found : k ≡ kind → s1.at ≡ s.at → s1.live ≤ s.live → Checked k kind s s1 true
  other : (k ≡ kind → ⊥) → s1.at ≡ s.at → s1.live ≤ s.live + 1 → Checked k kind s s1 false

module _ (e : Sheet) where
  pub check-tells : {k : ℕ} (kind : ℕ) (s : State) (w : World) → kind_at e.tokens s.at ≡ k → s.live + 1 ≤ live_room → Ends (λ s1 b. Checked k kind s s1 b) (λ _. ⊥) (check e kind s w)
  unfolding check want
  check-tells kind s w q g = branch (eqb (kind_at e.tokens s.at) kind)
      (λ p. well (found (sym q ∙ eqb-true _ _ p) refl (le_refl _)))
      (λ p. then (branch {P = λ s1 _. (s1.at ≡ s.at) × (s1.live ≤ s.live + 1)} (ltb s.live live_room) (λ _. well (refl, le_refl _)) (λ o. absurd (omega (arith, ltb-false s.live live_room o)))) (λ _ z. z) (λ s1 w1 _ z. well (other (λ t. eqb-false _ _ p (q ∙ t)) z.0 z.1)))

  -- a token is passed, and the live list is empty; no error arises
  pub bump-tells : (s : State) (w : World) → Settled e s → Ends (λ s1 _. Settled e s1 × (s1.live ≤ 0)) (λ _. ⊥) (bump e s w)
  unfolding bump
  bump-tells s w h = branch (ltb s.at (count e.tokens))
      (λ _. branch (ltb s.reads e.limits.allowance) (λ _. well (record { calm = calm-past e.tokens (s.at + 1) }, zero-le)) (λ _. cut (λ q. omega arith)))
      (λ _. well (record { calm = h.calm }, zero-le))

module _ {e : Sheet} {N : ℕ} where
  pub bump-bounded : Takes e N 0 0 0 0 (bump e)
  bump-bounded = record { ends = λ s w h g t. weaken (bump-tells e s w h) (λ s1 _ z. (z.0, taken (low z.1))) (λ s1 z. absurd z) }
    where
      low : {n : ℕ} → n ≤ 0 → n ≤ N + 0
      low p = omega arith

  eat-trivia-bounded : Adds e N 0 0 0 0 (eat_trivia e)
  unfolding eat_trivia
  eat-trivia-bounded = record { ends = λ s w h g t. well (record { calm = calm-past e.tokens s.at }, same (past_off e.tokens s.at h.calm) (no_more _ _)) }

  eol-bounded : (x : Unit {0}) → Turns e N 0 0 0 0 0 (eol_turn e x)
  unfolding eol_turn
  eol-bounded x = record { ends = λ s w h g t. branch (eqb (kind_at e.tokens s.at) 69) (λ _. (after bump-bounded (λ _. gives)).ends s w h g t) (λ _. well (h, same refl (no_more _ _))) }

  pub eols-bounded : (x : Unit {0}) → Adds e N 0 0 0 0 (iterate e (eol_turn e) x)
  eols-bounded x = loops eol-bounded e x

  pub eat-eol-bounded : Adds e N 0 0 0 0 (eat_eol e)
  unfolding eat_eol
  eat-eol-bounded = adds (binds eat-trivia-bounded (λ _. eols-bounded tt)) refl refl refl refl

  pub check-bounded : (k : ℕ) → Adds e N 1 0 0 0 (check e k)
  check-bounded k = record { ends = λ s w h g t. weaken (check-tells e k s w refl g) (λ s1 b z. by h z) (λ s1 z. absurd z) }
    where
      by : {s s1 : State} {k kind : ℕ} {b : Bool} → Settled e s → Checked k kind s s1 b → Settled e s1 × Kept N s s1 1 0 0 false
      by h (found p q l) = (settled-by q h, same q (omega arith))
      by h (other p q l) = (settled-by q h, same q l)

  pub unexpected-bounded : {A : Type 0} {φ : A → Bool} → Bounded e N φ 0 0 0 0 0 (unexpected {A = A} e)
  unfolding unexpected
  unexpected-bounded = record { ends = λ s w h g t. ill (h, same refl (no_more _ _)) }

  -- a chain of checks
  pub chooses : {A : Type 0} {φ : A → Bool} {a m b f j : ℕ} {cases : List (Case A)} {other : Rule A} → Ways e N φ a m b f j cases other → Bounded e N φ a m b f j (choose e cases other)
  unfolding choose
  chooses (otherwise x) = x
  chooses (◌&◌ {k = k} x y) = eased (binds (check-bounded k) (λ here. ifs here x (chooses y))) (omega arith) (omega arith) (omega arith) (omega arith) (omega arith)

  no : Bounded e N yes 0 0 0 0 0 (give false)
  no = record { ends = λ s w h g t. well (h, same refl (no_more _ _)) }

  pub eat-bounded : (k : ℕ) → Bounded e N yes 1 0 0 0 0 (eat e k)
  unfolding eat
  eat-bounded k = fits (binds (check-bounded k) (λ here. ifs here (after bump-bounded (λ _. gives)) no)) refl refl refl refl refl

  pub expect-bounded : (k : ℕ) → Takes e N 1 0 0 0 (expect e k)
  unfolding expect
  expect-bounded k = takes (asks (eat-bounded k) gives unexpected-bounded) refl refl refl refl

  nowhere : Bounded e N is_ended 0 0 0 0 0 (give None)
  nowhere = record { ends = λ s w h g t. well (h, same refl (no_more _ _)) }

  pub eat-range-bounded : (k : ℕ) → Bounded e N is_ended 1 0 0 0 0 (eat_range e k)
  unfolding eat_range
  eat-range-bounded k = record { ends = λ s w h g t. (binds (check-bounded k) (λ here. ifs here (after bump-bounded (λ _. gives)) nowhere)).ends s w h g t }

-- records
pub append-still : (l : Label) (first : ℕ) → Still (append l first)
unfolding append
append-still l first = record { stays = λ s w. branch (ltb s.nodes (min (length w.nodes / node_words) node_limit)) (λ _. well (refl, le_refl _)) (λ _. cut (λ q. omega arith)) }

pub add-still : (k : Kids) (link : ℕ) → Still (add k link)
unfolding add
add-still k link = record { stays = λ s w. by k.last (well (refl, le_refl _)) (λ i. well (refl, le_refl _)) }
  where
    by : (n : ℕ) {P : State → Kids → Type 0} {F : State → Type 0} {o : Out Kids} {p : ℕ → Out Kids} → Ends P F o → ((i : ℕ) → Ends P F (p i)) → Ends P F (elim n as (λ _. Out Kids) [ zero ↦ o | suc i ↦ p i ])
    by zero x y = x
    by (suc i) x y = y i

reflag-still : (link flags : ℕ) → Still (reflag link flags)
unfolding reflag
reflag-still zero flags = record { stays = λ s w. well (refl, le_refl _) }
reflag-still (suc i) flags = record { stays = λ s w. well (refl, le_refl _) }

pub log-still : (f : Fault) → Still (log f)
unfolding log
log-still f = record {
  stays = λ s w. branch (ltb s.errors (min (length w.errors / error_words) error_limit))
      (λ _. branch (leb (s.wanted + list_length f s) (min (length w.expected) expected_limit)) (λ _. well (refl, le_refl _)) (λ _. cut (λ q. omega arith)))
      (λ _. cut (λ q. omega arith));
}

module _ {e : Sheet} {N : ℕ} where
  pub append-bounded : (l : Label) (first : ℕ) → Adds e N 0 0 0 0 (append l first)
  append-bounded l first = still-bounded (append-still l first)

  pub add-bounded : (k : Kids) (link : ℕ) → Adds e N 0 0 0 0 (add k link)
  add-bounded k link = still-bounded (add-still k link)

  pub reflag-bounded : (link flags : ℕ) → Adds e N 0 0 0 0 (reflag link flags)
  reflag-bounded link flags = still-bounded (reflag-still link flags)
