-- Each turn of skipping takes a token: Eof is among the kinds that stop it, so where none of them stands here a token does.
use mathlib.Core.Path.{◌≡◌, refl, sym, ◌∙◌, subst}
use mathlib.Core.Bool.{Bool, true, false}
use mathlib.Core.List.{List, [], ◌∷◌}
use Prim.Native.Nat.{ℕ, suc, ◌+◌, ◌<◌, ◌≤◌}
use native.Mathlib.Omega.{arith}
use lib.Dec.{ltb, eqb}
use lib.ListN.{length}
use borrow.Author.Tests.{eqb-true, eqb-false, ltb-false}
use Rattle.kinds.specs.Number as kind
use Rattle.cursor.specs.declared.State.{State}
use Rattle.cursor.specs.Sheet.{Sheet, count, kind_at}
use Rattle.cursor.specs.Rule.{World, Out, give, if_so}
use Rattle.cursor.specs.Checks.{live_room, want, check, pick_from}
use Rattle.cursor.proofs.Ends.{Ends, well, cut, Any, branch, then, weaken}
use Rattle.cursor.proofs.Loops.{Takes}
use Rattle.cursor.proofs.Spends.{Spends, Further, takes}
use Rattle.cursor.proofs.TokenPaths.{there, bump_takes}
use Rattle.parts.specs.Recovery.{skip_turn}
use Rattle.parts.proofs.Placed.{skip-turn-placed}

-- is Eof one of these kinds?
abbrev has_eof : List ℕ → Bool
has_eof [] = false
has_eof (k ∷ ks) = elim (eqb k kind.Eof) as (λ _. Bool) [ true ↦ true | false ↦ has_eof ks ]

-- a rule that only looks, and where its answer is as W says a token stands here
abbrev Sees : {A : Type 0} → Sheet → (A → Type 0) → State → Out A → Type 0
Sees e W s o = Ends (λ s1 _ a. (s1.at ≡ s.at) × (W a → s.at < count e.tokens)) Any o

module _ (e : Sheet) where
  want-sees : {W : Unit → Type 0} (k : ℕ) (s : State) (w : World) → (W tt → s.at < count e.tokens) → Sees e W s (want k s w)
  unfolding want
  want-sees k s w f = branch (ltb s.live live_room) (λ _. well (refl, f)) (λ _. cut)

  -- a test for Eof that failed
  check-sees : (k : ℕ) (s : State) (w : World) → Sees e (λ b. (b ≡ false) × (eqb k kind.Eof ≡ true)) s (check e k s w)
  unfolding check count
  check-sees k s w = branch (eqb (kind_at e.tokens s.at) k)
      (λ _. well (refl, λ h. let z : ◌≡◌ {A = ℕ} 0 1 = cc in absurd (omega arith)))
      (λ p. then (want-sees {W = λ _. eqb k kind.Eof ≡ true} k s w (λ h. there e.tokens s.at (λ q. eqb-false _ _ p (q ∙ sym (eqb-true _ _ h))))) (λ _ _ _ _. tt) (λ s1 w1 _ f. well (f.0, λ h. f.1 h.1)))

  -- a chain with Eof in it found nothing
  pick-sees : (ks : List ℕ) (i : ℕ) (s : State) (w : World) → Sees e (λ j. (i + length ks ≤ j) × (has_eof ks ≡ true)) s (pick_from e ks i s w)
  unfolding pick_from
  pick-sees [] i s w = well (refl, λ h. let z : ◌≡◌ {A = Bool} false true = h.1 in let y : ◌≡◌ {A = ℕ} 0 1 = cc in absurd (omega arith))
  pick-sees (k ∷ ks) i s w = then (check-sees k s w) (λ _ _ _ _. tt) (λ s1 w1 b f. by s1 w1 b f.0 f.1 (pick-sees ks (i + 1) s1 w1))
    where
      among : (s1 : State) (j : ℕ) (b : Bool) → s1.at ≡ s.at → (b ≡ true → s.at < count e.tokens) → ((i + 1 + length ks ≤ j) × (has_eof ks ≡ true) → s1.at < count e.tokens) → i + suc (length ks) ≤ j → elim b as (λ _. Bool) [ true ↦ true | false ↦ has_eof ks ] ≡ true → s.at < count e.tokens
      among s1 j true q f g l h = f refl
      among s1 j false q f g l h = let z = g (omega arith, h) in omega arith

      by : (s1 : State) (w1 : World) (b : Bool) → s1.at ≡ s.at → ((b ≡ false) × (eqb k kind.Eof ≡ true) → s.at < count e.tokens) → Sees e (λ j. (i + 1 + length ks ≤ j) × (has_eof ks ≡ true)) s1 (pick_from e ks (i + 1) s1 w1) → Sees e (λ j. (i + length (k ∷ ks) ≤ j) × (has_eof (k ∷ ks) ≡ true)) s (if_so (give i) (pick_from e ks (i + 1)) b s1 w1)
      by s1 w1 true q f x = well {a = i} (q, λ h. let l = h.0 in absurd (omega arith))
      by s1 w1 false q f x = weaken x (λ s2 w2 j g. (g.0 ∙ q, λ h. among s1 j (eqb k kind.Eof) q (λ t. f (refl, t)) g.1 h.0 h.1)) (λ _ _ _ _. tt)

  pub skip-takes : (end : ℕ) → Takes e (skip_turn e end)
  unfolding count
  skip-takes end = takes (λ a. subst (Spends e Further) (sym (skip-turn-placed e end a)) (record {
    ends = λ s w. then (pick-sees (kind.Eol ∷ kind.Eof ∷ end ∷ []) 0 s w) (λ _ _ _ _. tt) (λ s1 w1 j f. branch (ltb j 3)
        (λ _. well (λ x. absurd x))
        (λ p. let here = f.1 (ltb-false j 3 p, refl) in let q = f.0 in then (bump_takes e s1 w1 (omega arith)) (λ _ _ _ _. tt) (λ s2 w2 _ l. well (λ _. omega arith))));
  }))
