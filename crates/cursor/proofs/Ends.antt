-- How a rule ends: P holds where it is done, F where it fails by a fault; nothing is owed where the whole reading is refused.
use Rattle.std.proofs.Common.{◌≡◌, ℕ, Bool, true, false, refl, subst}
use Rattle.cursor.specs.declared.State.{State}
use Rattle.cursor.specs.declared.Fault.{Fault}
use Rattle.cursor.specs.Rule.{World, fault, refused, Out, done, failed, bind, or_else}

pub data Ends {A : Type 0} (P : State → World → A → Type 0) (F : State → World → Fault → Type 0) : Out A → Type 0 where
  well : {s : State} {w : World} {a : A} → P s w a → Ends P F (done s w a)
  ill : {s : State} {w : World} {f : Fault} → F s w f → Ends P F (failed (fault s w f))
  cut : {n : ℕ} → Ends P F (failed (refused n))

-- nothing is owed of a fault
abbrev pub Any : State → World → Fault → Type 0
Any s w f = Unit {0}

module _ {A : Type 0} {P : State → World → A → Type 0} {F : State → World → Fault → Type 0} where
  pub at_done : {o : Out A} {s : State} {w : World} {a : A} → Ends P F o → o ≡ done s w a → P s w a
  at_done h e = held (subst (λ o. Ends P F o) e h)
    where
      held : {s : State} {w : World} {a : A} → Ends P F (done s w a) → P s w a
      held (well p) = p

  pub branch : (b : Bool) {x y : Out A} → (b ≡ true → Ends P F x) → (b ≡ false → Ends P F y) → Ends P F (elim b as (λ _. Out A) [ true ↦ x | false ↦ y ])
  branch true f g = f refl
  branch false f g = g refl

module _ {A : Type 0} {P Q : State → World → A → Type 0} {F G : State → World → Fault → Type 0} where
  pub weaken : {o : Out A} → Ends P F o → ((s : State) (w : World) (a : A) → P s w a → Q s w a) → ((s : State) (w : World) (f : Fault) → F s w f → G s w f) → Ends Q G o
  weaken (well p) f g = well (f _ _ _ p)
  weaken (ill h) f g = ill (g _ _ _ h)
  weaken cut f g = cut

  -- what is known of an end in two ways
  pub both : {o : Out A} → Ends P F o → Ends Q G o → Ends (λ s w a. P s w a × Q s w a) (λ s w f. F s w f × G s w f) o
  both (well p) (well q) = well (p, q)
  both (ill p) (ill q) = ill (p, q)
  both cut cut = cut

module _ {A B : Type 0} {P : State → World → A → Type 0} {Q : State → World → B → Type 0} {F G : State → World → Fault → Type 0} where
  -- first a rule, then what goes on from it
  pub then : {o : Out A} {k : State → World → A → Out B} → Ends P F o → ((s : State) (w : World) (f : Fault) → F s w f → G s w f) → ((s : State) (w : World) (a : A) → P s w a → Ends Q G (k s w a)) → Ends Q G (bind o k)
  then (well p) g f = f _ _ _ p
  then (ill h) g f = ill (g _ _ _ h)
  then cut g f = cut

  -- a rule with another one for where it fails
  pub either : {o : Out A} {k : State → World → A → Out B} {back : State → World → Fault → Out B} → Ends P F o → ((s : State) (w : World) (a : A) → P s w a → Ends Q G (k s w a)) → ((s : State) (w : World) (f : Fault) → F s w f → Ends Q G (back s w f)) → Ends Q G (or_else o k back)
  either (well p) f g = f _ _ _ p
  either (ill h) f g = g _ _ _ h
  either cut f g = cut

-- where two continuations agree on all that P allows, so does what goes on from the rule
pub bind-same : {A B : Type 0} {P : State → World → A → Type 0} {F : State → World → Fault → Type 0} {o : Out A} {k k' : State → World → A → Out B} → Ends P F o → ((s : State) (w : World) (a : A) → P s w a → k s w a ≡ k' s w a) → bind o k ≡ bind o k'
bind-same (well p) f = f _ _ _ p
bind-same (ill h) f = refl
bind-same cut f = refl
