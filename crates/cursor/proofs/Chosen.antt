-- A rule that goes by kinds (`choose`) is the code's way by places (`pick`): one lemma, which every chain of checks cites.
use Rattle.std.proofs.Common.{◌≡◌, ℕ, zero, suc, ◌+◌, Bool, true, false, List, [], ◌∷◌, sym, refl, ◌∙◌, add-one}
use mathlib.Core.Path.{fun_ext}
use Rattle.cursor.specs.declared.State.{State}
use Rattle.cursor.specs.Sheet.{Sheet}
use Rattle.cursor.specs.Rule.{World, Out, done, failed, Rule, bind, ◌>>=◌, give, if_so}
use Rattle.cursor.specs.Checks.{check, Case, ◌⇒◌, choose, pick_from, pick}

-- the kinds of a chain
abbrev pub kinds_of : {A : Type 0} → List (Case A) → List ℕ
kinds_of [] = []
kinds_of ((k ⇒ r) ∷ cases) = k ∷ kinds_of cases

-- the rule at a place of it, and past its end the other one
abbrev pub case_at : {A : Type 0} → List (Case A) → Rule A → ℕ → Rule A
case_at [] other i = other
case_at ((k ⇒ r) ∷ cases) other zero = r
case_at ((k ⇒ r) ∷ cases) other (suc i) = case_at cases other i

-- what is said of the rule of every way of a chain
infixr 30 ◌&◌
pub data Every {A : Type 0} (P : Rule A → Type 0) : List (Case A) → Type 0 where
  all : Every P []
  ◌&◌ : {k : ℕ} {r : Rule A} {cases : List (Case A)} → P r → Every P cases → Every P ((k ⇒ r) ∷ cases)

pub each : {A : Type 0} {P Q : Rule A → Type 0} → ((r : Rule A) → P r → Q r) → (cases : List (Case A)) → Every P cases → Every Q cases
each f [] all = all
each f ((k ⇒ r) ∷ cases) (h & hs) = f r h & each f cases hs

module _ {A : Type 0} where
  bound : (o : Out ℕ) (f g : ℕ → Rule A) → ((i : ℕ) (s : State) (w : World) → f i s w ≡ g i s w) → bind o (λ s w i. f i s w) ≡ bind o (λ s w i. g i s w)
  bound (done s w i) f g h = h i s w
  bound (failed x) f g h = refl

-- what goes on alike behind both ends of a check goes on alike behind the check
module _ {A : Type 0} where
  past-check : (o : Out Bool) (r q r1 q1 : Rule ℕ) (f g : ℕ → Rule A) → ((s : State) (w : World) → (r >>= f) s w ≡ (r1 >>= g) s w) → ((s : State) (w : World) → (q >>= f) s w ≡ (q1 >>= g) s w)
      → bind (bind o (λ s w b. if_so r q b s w)) (λ s w j. f j s w) ≡ bind (bind o (λ s w b. if_so r1 q1 b s w)) (λ s w j. g j s w)
  past-check (done s w true) r q r1 q1 f g h i = h s w
  past-check (done s w false) r q r1 q1 f g h i = i s w
  past-check (failed x) r q r1 q1 f g h i = refl

  past-case : (o : Out Bool) (q : Rule A) (q1 : Rule ℕ) (k : ℕ → Rule A) → ((s : State) (w : World) → q s w ≡ (q1 >>= k) s w) → bind o (λ s w b. if_so (k 0) q b s w) ≡ bind (bind o (λ s w b. if_so (give 0) q1 b s w)) (λ s w j. k j s w)
  past-case (done s w true) q q1 k i = refl
  past-case (done s w false) q q1 k i = i s w
  past-case (failed x) q q1 k i = refl

module _ (e : Sheet) where
  -- a chain looked through from a later place on answers places that are as much later
  later : {A : Type 0} (k : ℕ → Rule A) (ks : List ℕ) (i : ℕ) (s : State) (w : World) → (pick_from e ks (i + 1) >>= k) s w ≡ (pick_from e ks i >>= (λ j. k (suc j))) s w
  unfolding pick_from
  later k [] i s w = rw (add-one i)
  later k (a ∷ ks) i s w = past-check (check e a s w) _ _ _ _ k (λ j. k (suc j)) (λ s1 w1. rw (add-one i)) (λ s1 w1. later k ks (i + 1) s1 w1)

  module _ {A : Type 0} (other : Rule A) where
    by_place : (cases : List (Case A)) (s : State) (w : World) → choose e cases other s w ≡ (pick e (kinds_of cases) >>= case_at cases other) s w
    unfolding choose pick_from
    by_place [] s w = refl
    by_place ((a ⇒ r) ∷ cases) s w = past-case (check e a s w) _ _ (case_at ((a ⇒ r) ∷ cases) other) (λ s1 w1. by_place cases s1 w1 ∙ sym (later (case_at ((a ⇒ r) ∷ cases) other) (kinds_of cases) 0 s1 w1))

    -- k is what the code does at each place
    pub chosen : (cases : List (Case A)) {k : ℕ → Rule A} → ((i : ℕ) (s : State) (w : World) → case_at cases other i s w ≡ k i s w) → choose e cases other ≡ (pick e (kinds_of cases) >>= k)
    chosen cases {k} h = fun_ext (λ s. fun_ext (λ w. by_place cases s w ∙ bound (pick e (kinds_of cases) s w) _ k h))
