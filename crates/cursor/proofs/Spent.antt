-- Which rules of this crate leave fewer tokens (Spends), and when a token stands here.
use Rattle.std.specs.Prelude.{Some, None}
use Rattle.std.proofs.Common.{◌≡◌, ℕ, ◌+◌, ◌/◌, ◌<◌, Bool, true, false, eqb, ltb, List, [], ◌∷◌, length, sym, refl, ◌∙◌, arith, ltb-false, eqb-true}
use borrow.Author.Tests.{eqb-false}
use Rattle.kinds.specs.Number as kind
use Rattle.cursor.specs.declared.State.{State}
use Rattle.cursor.specs.Sheet.{Sheet, count, kind_at, Ranged}
use Rattle.cursor.specs.Rule.{World, Out, Rule, ◌>>=◌, if_so}
use Rattle.cursor.specs.Tokens.{bump}
use Rattle.cursor.specs.Checks.{live_room, want, check, eat, expect, eat_range, unexpected, Case, ◌⇒◌, choose}
use Rattle.cursor.proofs.Chosen.{kinds_of, Every, all, ◌&◌}
use Rattle.cursor.proofs.Ends.{Ends, well, ill, cut, Any, branch, then, weaken}
use Rattle.cursor.proofs.Loops.{left}
use Rattle.cursor.proofs.TokenPaths.{there, past-ge, bump_takes}
use Rattle.cursor.proofs.Keeps.{Plain, gives}
use Rattle.cursor.proofs.Kept.{eat-keeps}
use Rattle.cursor.proofs.Spends.{Spends, Feeds, Holds, spares, first-feeds, if-spends}

-- a bump over a token is one reading, and moves forward
pub bump-reads : (e : Sheet) (s : State) (w : World) → s.at < length e.tokens / 3 → Ends (λ s1 _ _. (s1.reads ≡ s.reads + 1) × (s.at < s1.at)) Any (bump e s w)
unfolding bump count
bump-reads e s w h =
    branch (ltb s.at (length e.tokens / 3))
    (λ _. branch (ltb s.reads e.limits.allowance) (λ _. well (refl, omega (arith, past-ge e.tokens (s.at + 1)))) (λ _. cut))
    (λ q. absurd (omega (arith, ltb-false s.at (length e.tokens / 3) q)))

-- a rule that only looks: it stays where it began, and where its answer is as W says a token stands there
abbrev pub Looks : {A : Type 0} → Sheet → (A → Type 0) → State → Out A → Type 0
Looks e W s o = Ends (λ s1 _ a. (s1.at ≡ s.at) × (W a → s.at < count e.tokens)) Any o

module _ (e : Sheet) where
  want-looks : (k : ℕ) (s : State) (w : World) → Looks e (λ _. ⊥) s (want k s w)
  unfolding want
  want-looks k s w = branch (ltb s.live live_room) (λ _. well (refl, λ x. absurd x)) (λ _. cut)

  -- a token of a kind other than Eof stands here
  stands : (k : ℕ) (s : State) → eqb k kind.Eof ≡ false → eqb (kind_at e.tokens s.at) k ≡ true → s.at < count e.tokens
  unfolding count
  stands k s n p = there e.tokens s.at (λ q. eqb-false k kind.Eof n (sym (eqb-true _ _ p) ∙ q))

  pub check-looks : (k : ℕ) → eqb k kind.Eof ≡ false → (s : State) (w : World) → Looks e Holds s (check e k s w)
  unfolding check
  check-looks k n s w = branch (eqb (kind_at e.tokens s.at) k) (λ p. well (refl, λ _. stands k s n p)) (λ _. then (want-looks k s w) (λ _ _ _ _. tt) (λ s1 w1 _ p. well (p.0, λ x. absurd x)))

-- none of these kinds is Eof
abbrev pub no_eof : List ℕ → Bool
no_eof [] = true
no_eof (k ∷ ks) = elim (eqb k kind.Eof) as (λ _. Bool) [ true ↦ false | false ↦ no_eof ks ]

no-eof : (k : ℕ) (ks : List ℕ) → no_eof (k ∷ ks) ≡ true → (eqb k kind.Eof ≡ false) × (no_eof ks ≡ true)
no-eof k ks = by (eqb k kind.Eof)
  where
    by : (b : Bool) → elim b as (λ _. Bool) [ true ↦ false | false ↦ no_eof ks ] ≡ true → (b ≡ false) × (no_eof ks ≡ true)
    by true n = let z : ◌≡◌ {A = ℕ} 0 1 = cc in absurd (omega arith)
    by false n = (refl, n)

-- from where a rule only looked
looked : {A : Type 0} {W : A → Type 0} {o : Out A} (e : Sheet) (s s1 : State) → s1.at ≡ s.at → Ends (λ s2 _ a. W a → left e s2 < left e s1) Any o → Ends (λ s2 _ a. W a → left e s2 < left e s) Any o
looked e s s1 q x = weaken x (λ s2 w2 b f o. let z = f o in omega arith) (λ _ _ _ _. tt)

module _ {A : Type 0} {e : Sheet} {W : A → Type 0} where
  -- where a test holds what follows begins at a token; where it fails the other rule has to take one
  pub check-spends : {p q : Rule A} (k : ℕ) → eqb k kind.Eof ≡ false → Feeds e W p → Spends e W q → Spends e W (check e k >>= if_so p q)
  check-spends {p} {q} k n x y = record { ends = λ s w. then (check-looks e k n s w) (λ _ _ _ _. tt) (λ s1 w1 b f. looked e s s1 f.0 (by s s1 w1 b f.0 f.1)) }
    where
      by : (s s1 : State) (w1 : World) (b : Bool) → s1.at ≡ s.at → (Holds b → s.at < count e.tokens) → Ends (λ s2 _ a. W a → left e s2 < left e s1) Any (if_so p q b s1 w1)
      by s s1 w1 true l f = let h = f tt in x.ends s1 w1 (omega arith)
      by s s1 w1 false l f = y.ends s1 w1

  -- the same of a chain of checks
  pub choose-spends : (cases : List (Case A)) {other : Rule A} → no_eof (kinds_of cases) ≡ true → Every (Feeds e W) cases → Spends e W other → Spends e W (choose e cases other)
  unfolding choose
  choose-spends [] n all y = y
  choose-spends ((k ⇒ r) ∷ cases) n (x & xs) y = let h = no-eof k (kinds_of cases) n in check-spends k h.0 x (choose-spends cases h.1 xs y)

  pub unexpected-spends : Spends e W (unexpected e)
  unfolding unexpected
  unexpected-spends = record { ends = λ s w. ill tt }

-- a range is there
abbrev pub Found : Ranged → Type 0
Found (Some r) = Unit {0}
Found None = ⊥

module _ {e : Sheet} where
  pub bump-feeds : Feeds e Plain (bump e)
  unfolding count
  bump-feeds = record { ends = λ s w h. weaken (bump_takes e s w h) (λ s1 w1 a f _. f) (λ _ _ _ _. tt) }

  -- kinds other than Eof
  module _ (k : ℕ) (n : eqb k kind.Eof ≡ false) where
    pub eat-spends : Spends e Holds (eat e k)
    unfolding eat
    eat-spends = check-spends k n (first-feeds bump-feeds (λ _. gives tt)) (spares (λ x. x))

    pub expect-spends : Spends e Plain (expect e k)
    unfolding expect
    expect-spends = if-spends (eat-keeps e k) eat-spends (gives tt) unexpected-spends

    pub eat-range-spends : Spends e Found (eat_range e k)
    unfolding eat_range
    eat-range-spends = record { ends = λ s w. (check-spends k n (first-feeds bump-feeds (λ _. gives tt)) (spares (λ x. x))).ends s w }
