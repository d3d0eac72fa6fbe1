-- An answer and what the parser then holds can be read off the end of the rule that they stand for: two that stand for one end are the same
-- answer, and the parser stands at the same place and holds the same in its buffers, unless the whole reading was refused. A refusal says
-- nothing of the buffers (the entry function then clears them).
-- Assumes nothing.
use Rattle.std.specs.Prelude.{Result, Ok, Err, OnErr}
use Rattle.std.specs.declared.ops.ControlFlow.{ControlFlow}
use Rattle.std.specs.declared.ops.ControlFlow.TheVariants.{Continue, Break}
use Rattle.std.proofs.Common.{◌≡◌, ℕ, zero, suc, ◌-◌, sym, subst, refl, ap, ◌∙◌}
use Rattle.cursor.specs.declared.State.{State}
use Rattle.cursor.specs.declared.Fault.{Fault}
use Rattle.cursor.specs.declared.Parser.{Parser}
use Rattle.cursor.specs.declared.Refusal.{Refusal}
use Rattle.cursor.specs.declared.Refusal.TheVariants as refusals
use Rattle.cursor.specs.declared.Stop as declared
use Rattle.cursor.specs.declared.Stop.TheVariants as stops
use Rattle.cursor.specs.Rule.{World, Stop, fault, refused, Out, done, failed, Next}
use Rattle.cursor.specs.Answers.{world_of, number, stop_of, ended, turned, SameBuffers}

-- the reading goes on, or stops by an error: only a refusal says nothing of the buffers
abbrev pub Settled : {A : Type 0} → Out A → Type 0
Settled (done s w a) = Unit {0}
Settled (failed (fault s w f)) = Unit {0}
Settled (failed (refused n)) = ⊥

-- what the buffers hold then
abbrev pub held_by : {A : Type 0} → World → Out A → World
held_by d (done s w a) = w
held_by d (failed (fault s w f)) = w
held_by d (failed (refused n)) = d

-- and where the parser stands
abbrev pub stands_by : {A : Type 0} → State → Out A → State
stands_by d (done s w a) = s
stands_by d (failed (fault s w f)) = s
stands_by d (failed (refused n)) = d

-- two parsers stand at the same place and hold the same in their buffers
abbrev pub Same : Parser → Parser → Type 0
Same p q = (p.state ≡ q.state) × (world_of p ≡ world_of q)

-- two answers are one, and what the parsers hold
abbrev pub One : {A : Type 0} → Parser → Parser → Result A declared.Stop → Result A declared.Stop → Type 0
One p q r t = (r ≡ t) × (Settled (ended p r) → Same p q)

-- each refusal can be read off its number
by_place : ℕ → Refusal
by_place zero = refusals.NoRoom
by_place (suc zero) = refusals.ErrorsFull
by_place (suc (suc zero)) = refusals.TooDeep
by_place (suc (suc (suc zero))) = refusals.AllSpent
by_place (suc (suc (suc (suc n)))) = refusals.ListFull

pub named : ℕ → Refusal
named n = by_place (n - 7)

told : (r : Refusal) → named (number r) ≡ r
unfolding named by_place
told refusals.NoRoom = refl
told refusals.ErrorsFull = refl
told refusals.TooDeep = refl
told refusals.AllSpent = refl
told refusals.ListFull = refl

-- what holds of every error and of every refusal holds of every stop
pub by_number : (P : declared.Stop → Type 0) → ((x : Fault) → P (stops.Fault x)) → ((r : Refusal) → P (stops.Refused r)) → (z : declared.Stop) → P z
by_number P e r (stops.Fault x) = e x
by_number P e r (stops.Refused k) = r k

-- a stop can be read off the end of a rule that it stands for, and what the buffers hold off an error
abbrev pub back_stop : Stop → declared.Stop
back_stop (fault s w x) = stops.Fault x
back_stop (refused n) = stops.Refused (named n)

pub failure : (p : Parser) (z : declared.Stop) → back_stop (stop_of p z) ≡ z
failure p = by_number (λ z. back_stop (stop_of p z) ≡ z) (λ x. refl) (λ r. ap (λ k. stops.Refused k) (told r))

pub lost : (A : Type 0) (p : Parser) (z : declared.Stop) (d : World) → Settled {A = A} (failed (stop_of p z)) → held_by {A = A} d (failed (stop_of p z)) ≡ world_of p
lost A p z d = by_number (λ g. Settled {A = A} (failed (stop_of p g)) → held_by {A = A} d (failed (stop_of p g)) ≡ world_of p) (λ x h. refl) (λ r h. absurd h) z

-- two answers that stand for the same end are one, and so is what the parser holds
pub one : {A : Type 0} {o : Out A} (p q : Parser) (r t : Result A declared.Stop) → ended p r ≡ o → ended q t ≡ o → One p q r t
one p q (Ok a) (Ok b) h k = (cc (h, k), λ _. (cc (h, k), cc (h, k)))
one p q (Ok a) (Err (stops.Fault f)) h k = absurd (cc (h, k))
one p q (Ok a) (Err (stops.Refused f)) h k = absurd (cc (h, k))
one p q (Err (stops.Fault f)) (Ok a) h k = absurd (cc (h, k))
one p q (Err (stops.Refused f)) (Ok a) h k = absurd (cc (h, k))
one p q (Err (stops.Fault f)) (Err (stops.Fault g)) h k = (cc (h, k), λ _. (cc (h, k), cc (h, k)))
one p q (Err (stops.Fault f)) (Err (stops.Refused g)) h k = absurd (cc (h, k))
one p q (Err (stops.Refused f)) (Err (stops.Fault g)) h k = absurd (cc (h, k))
one p q (Err (stops.Refused f)) (Err (stops.Refused g)) h k = let e : number f ≡ number g = cc (h, k) in (ap (λ x. Err (stops.Refused x)) (sym (told f) ∙ ap named e ∙ told g), λ b. absurd b)

-- of a rule that cannot fail both hold always
pub alike : {A : Type 0} {o : Out A} (p q : Parser) (a b : A) → ended p (Ok a) ≡ o → ended q (Ok b) ≡ o → (a ≡ b) × Same p q
alike p q a b h k = (cc (h, k), (cc (h, k), cc (h, k)))

-- of a function that writes no buffer, and on a refusal leaves the parser where it stood, both hold always
pub one_held : {A : Type 0} {o : Out A} (d p q : Parser) (r t : Result A declared.Stop) → ended p r ≡ o → ended q t ≡ o → OnErr r (p.state ≡ d.state) → OnErr t (q.state ≡ d.state)
    → SameBuffers d p → SameBuffers d q → (r ≡ t) × Same p q
one_held {A = A} d p q r t h k a b x y = let z = one p q r t h k in (z.0, by r z.0 a z.1)
  where
    back : (u v : Parser) → u.state ≡ d.state → v.state ≡ d.state → SameBuffers d u → SameBuffers d v → Same u v
    back u v a b x y = (a ∙ sym b, rw (x.nodes, x.errors, x.expected, x.live, y.nodes, y.errors, y.expected, y.live) refl)

    by : (r : Result A declared.Stop) → r ≡ t → OnErr r (p.state ≡ d.state) → (Settled (ended p r) → Same p q) → Same p q
    by (Ok v) e a s = s tt
    by (Err (stops.Fault f)) e a s = s tt
    by (Err (stops.Refused f)) e a s = back p q a (subst (λ v. OnErr v (q.state ≡ d.state)) (sym e) b) x y

-- a value can be read off what is made of it
abbrev pub Apart : {A B : Type 0} → (A → B) → Type 0
Apart f = (a b : _) → f a ≡ f b → a ≡ b

-- a turn's answer can be read off the loop's values that it stands for
turn : {A B C E : Type 0} (f : C → A) (g : B → A) → Apart f → Apart g → (r t : Result (ControlFlow B C) E) → turned f g r ≡ turned f g t → r ≡ t
turn f g i j (Ok (Continue a)) (Ok (Continue b)) h = ap (λ x. Ok (Continue x)) (i a b (cc h))
turn f g i j (Ok (Continue a)) (Ok (Break b)) h = absurd (cc h)
turn f g i j (Ok (Break a)) (Ok (Continue b)) h = absurd (cc h)
turn f g i j (Ok (Break a)) (Ok (Break b)) h = ap (λ x. Ok (Break x)) (j a b (cc h))
turn f g i j (Ok (Continue a)) (Err e) h = absurd (cc h)
turn f g i j (Ok (Break a)) (Err e) h = absurd (cc h)
turn f g i j (Err e) (Ok (Continue a)) h = absurd (cc h)
turn f g i j (Err e) (Ok (Break a)) h = absurd (cc h)
turn f g i j (Err d) (Err e) h = cc h

-- two turns that stand for the same end
pub one_turn : {A B C : Type 0} {f : C → A} {g : B → A} {o : Out (Next A)} → Apart f → Apart g → (p q : Parser) (r t : Result (ControlFlow B C) declared.Stop)
    → ended p (turned f g r) ≡ o → ended q (turned f g t) ≡ o → (r ≡ t) × (Settled (ended p (turned f g r)) → Same p q)
one_turn {f = f} {g = g} i j p q r t h k = let z = one p q (turned f g r) (turned f g t) h k in (turn f g i j r t z.0, z.1)
