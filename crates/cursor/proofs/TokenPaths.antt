-- Each way through the rules on tokens.
use Rattle.std.specs.Prelude.{Some, None}
use Rattle.std.proofs.Common.{◌≡◌, ℕ, zero, suc, ◌+◌, ◌-◌, ◌*◌, ◌/◌, ◌<◌, ◌≤◌, Bool, true, false, eqb, ltb, List, length, get_or, min, sym, refl, ◌∙◌, arith, ltb-false, le-ltb, lt-ltb, eq-eqb, ne_eqb, eqb-true}
use native.Mathlib.Decide.{dec_lt}
use borrow.Author.Tests.{eqb-false}
use Rattle.kinds.specs.Number as kind
use Rattle.kinds.specs.Kinds.{is_trivia}
use Rattle.cursor.specs.declared.State.{State}
use Rattle.cursor.specs.declared.Span.{Span}
use Rattle.cursor.specs.Sheet.{Sheet, Ranged, count, kind_at, range_at}
use Rattle.cursor.specs.Rule.{World, Stop, done, failed, refused, more, stop, iterate}
use Rattle.cursor.specs.Tokens.{past_from, past_trivia, eat_trivia, bump, eol_turn, eat_eol, rewind}
use Rattle.cursor.proofs.Ends.{Ends, well, cut, Any, branch, then}
use Rattle.cursor.proofs.Loops.{left, on, off, Takes}

pub kind-in : (ts : List ℕ) (i : ℕ) → i < length ts / 3 → kind_at ts i ≡ get_or ts (i * 3) 0
unfolding kind_at count
kind-in ts i p = rw (lt-ltb _ _ p, kind_at)

pub kind-out : (ts : List ℕ) (i : ℕ) → length ts / 3 ≤ i → kind_at ts i ≡ kind.Eof
unfolding kind_at count
kind-out ts i p = rw (le-ltb _ _ p, kind_at)

pub range-in : (ts : List ℕ) (i : ℕ) → i < length ts / 3 → range_at ts i ≡ Some (record { start = get_or ts (i * 3 + 1) 0; end = get_or ts (i * 3 + 2) 0 })
unfolding range_at count
range-in ts i p = rw (lt-ltb _ _ p, range_at)

pub range-out : (ts : List ℕ) (i : ℕ) → length ts / 3 ≤ i → range_at ts i ≡ None
unfolding range_at count
range-out ts i p = rw (le-ltb _ _ p, range_at)

-- a kind that is not Eof has a token
pub there : (ts : List ℕ) (i : ℕ) → (kind_at ts i ≡ kind.Eof → ⊥) → i < length ts / 3
there ts i p = by (dec_lt i (length ts / 3))
  where
    by : Dec (i < length ts / 3) → i < length ts / 3
    by (yes q) = q
    by (no q) = absurd (p (kind-out ts i (omega arith)))

-- a token that has a range is there, and where none has one the tokens are at their end
pub range-there : (ts : List ℕ) (i : ℕ) {r : Span} → range_at ts i ≡ Some r → i < length ts / 3
range-there ts i {r} p = by (dec_lt i (length ts / 3))
  where
    by : Dec (i < length ts / 3) → i < length ts / 3
    by (yes q) = q
    by (no q) = let o = range-out ts i (omega arith) in let z : ◌≡◌ {A = ℕ} 0 1 = cc in omega arith

pub range-gone : (ts : List ℕ) (i : ℕ) → range_at ts i ≡ None → length ts / 3 ≤ i
range-gone ts i p = by (dec_lt i (length ts / 3))
  where
    by : Dec (i < length ts / 3) → length ts / 3 ≤ i
    by (yes q) = let o = range-in ts i q in let z : ◌≡◌ {A = ℕ} 0 1 = cc in omega arith
    by (no q) = omega arith

module _ (ts : List ℕ) where
  past-from-off : (k i : ℕ) → is_trivia (kind_at ts i) ≡ false → past_from ts k i ≡ i
  unfolding past_from
  past-from-off zero i p = refl
  past-from-off (suc k) i p = rw (p, past_from)

  past-from-on : (k i : ℕ) → is_trivia (kind_at ts i) ≡ true → past_from ts (suc k) i ≡ past_from ts k (i + 1)
  unfolding past_from
  past-from-on k i p = rw (p, past_from)

  pub past_off : (i : ℕ) → is_trivia (kind_at ts i) ≡ false → past_trivia ts i ≡ i
  unfolding past_trivia
  past_off i p = past-from-off _ i p

  -- Eof is no trivia
  pub trivia-there : (i : ℕ) → is_trivia (kind_at ts i) ≡ true → i < length ts / 3
  unfolding is_trivia
  trivia-there i p = there ts i (λ q. let r : ◌≡◌ {A = Bool} false true = rw q at p in let z : ◌≡◌ {A = ℕ} 0 1 = cc in omega arith)

  pub past-on : (i : ℕ) → is_trivia (kind_at ts i) ≡ true → past_trivia ts i ≡ past_trivia ts (i + 1)
  unfolding past_trivia count
  past-on i p =
      let h = trivia-there i p in
      let e : length ts / 3 - i ≡ suc (length ts / 3 - (i + 1)) = omega arith in
      rw e (past-from-on _ i p)

module _ (e : Sheet) (s : State) (w : World) where
  pub bump-end : range_at e.tokens s.at ≡ None → bump e s w ≡ done (record { at = s.at; prev = s.prev; reads = s.reads; nodes = s.nodes; errors = s.errors; wanted = s.wanted; live = 0 }) w tt
  unfolding bump count
  bump-end p = rw (le-ltb _ _ (range-gone _ _ p), bump)

  module _ {r : Span} (p : range_at e.tokens s.at ≡ Some r) where
    pub bump-spent : e.limits.allowance ≤ s.reads → bump e s w ≡ failed (refused 10)
    unfolding bump count
    bump-spent q = rw (lt-ltb _ _ (range-there _ _ p), bump) (rw (le-ltb _ _ q))

    pub bump-on : {i : ℕ} → s.reads < e.limits.allowance → i ≡ past_trivia e.tokens (s.at + 1) → bump e s w ≡ done (record { at = i; prev = r.end; reads = s.reads + 1; nodes = s.nodes; errors = s.errors; wanted = s.wanted; live = 0 }) w tt
    unfolding bump count
    bump-on q n = rw (lt-ltb _ _ (range-there _ _ p), bump) (rw (lt-ltb _ _ q, p, n))

  -- it fails by a refusal alone
  pub bump-refused : {x : Stop} → failed x ≡ bump e s w → x ≡ refused 10
  bump-refused {x} h = at-end-or-not (range_at e.tokens s.at) refl
    where
      spent-or-not : {r : Span} → range_at e.tokens s.at ≡ Some r → Dec (s.reads < e.limits.allowance) → x ≡ refused 10
      spent-or-not p (yes q) = absurd (cc (h, bump-on p q refl))
      spent-or-not p (no q) = cc (h, bump-spent p (omega arith))

      at-end-or-not : (r : Ranged) → range_at e.tokens s.at ≡ r → x ≡ refused 10
      at-end-or-not None p = absurd (cc (h, bump-end p))
      at-end-or-not (Some r) p = spent-or-not p (dec_lt s.reads e.limits.allowance)

  pub eat-trivia-on : {i : ℕ} → i ≡ past_trivia e.tokens s.at → eat_trivia e s w ≡ done (record { at = i; prev = s.prev; reads = s.reads; nodes = s.nodes; errors = s.errors; wanted = s.wanted; live = s.live }) w tt
  unfolding eat_trivia
  eat-trivia-on p = rw (p, eat_trivia)

  pub eol-on : {s1 : State} {w1 : World} → kind_at e.tokens s.at ≡ kind.Eol → bump e s w ≡ done s1 w1 tt → eol_turn e tt s w ≡ done s1 w1 (more tt)
  unfolding eol_turn
  eol-on p q = rw (eq-eqb _ _ p, eol_turn) (rw q)

  pub eol-spent : {x : Stop} → kind_at e.tokens s.at ≡ kind.Eol → bump e s w ≡ failed x → eol_turn e tt s w ≡ failed x
  unfolding eol_turn
  eol-spent p q = rw (eq-eqb _ _ p, eol_turn) (rw q)

  pub eol-off : (kind_at e.tokens s.at ≡ kind.Eol → ⊥) → eol_turn e tt s w ≡ done s w (stop tt)
  unfolding eol_turn
  eol-off p = rw (ne_eqb _ _ p, eol_turn)

  pub eat-eol-on : {s1 : State} {w1 : World} → eat_trivia e s w ≡ done s1 w1 tt → eat_eol e s w ≡ iterate e (eol_turn e) tt s1 w1
  unfolding eat_eol
  eat-eol-on p = rw p

-- trivia are passed forward
past-from-ge : (ts : List ℕ) (k i : ℕ) → i ≤ past_from ts k i
unfolding past_from
past-from-ge ts zero i = omega arith
past-from-ge ts (suc k) i = by (is_trivia (kind_at ts i)) (past-from-ge ts k (i + 1))
  where
    by : (b : Bool) → i + 1 ≤ past_from ts k (i + 1) → i ≤ elim b as (λ _. ℕ) [ true ↦ past_from ts k (i + 1) | false ↦ i ]
    by true h = omega arith
    by false h = omega arith

pub past-ge : (ts : List ℕ) (i : ℕ) → i ≤ past_trivia ts i
unfolding past_trivia
past-ge ts i = past-from-ge ts _ i

module _ (e : Sheet) where
  -- a bump over a token leaves fewer
  pub bump_takes : (s : State) (w : World) → s.at < length e.tokens / 3 → Ends (λ s1 _ _. left e s1 < left e s) Any (bump e s w)
  unfolding bump count
  bump_takes s w h =
      branch (ltb s.at (length e.tokens / 3))
      (λ _. branch (ltb s.reads e.limits.allowance) (λ _. well (omega (arith, past-ge e.tokens (s.at + 1)))) (λ _. cut))
      (λ q. absurd (omega (arith, ltb-false s.at (length e.tokens / 3) q)))

  pub eol-takes : Takes e (eol_turn e)
  unfolding eol_turn
  eol-takes s w tt _ =
      branch (eqb (kind_at e.tokens s.at) kind.Eol)
      (λ p. then (bump_takes s w (there e.tokens s.at (λ q. eqb-false kind.Eol kind.Eof refl (sym (eqb-true _ _ p) ∙ q)))) (λ _ _ _ _. tt) (λ s1 w1 _ r. well (on tt r)))
      (λ _. well (off tt))

module _ (mark s : State) where
  pub rewind-is : {n : ℕ} → n ≡ min mark.live s.live → record { at = mark.at; prev = mark.prev; reads = s.reads; nodes = mark.nodes; errors = mark.errors; wanted = mark.wanted; live = n } ≡ rewind mark s
  unfolding rewind
  rewind-is p = rw p refl
