-- Each way through an attempt: its node is kept; or it is undone, and the other rule starts over; or a refusal ends the whole reading.
use mathlib.Core.Path.{◌≡◌, refl, ◌∙◌}
use Rattle.cursor.specs.declared.State.{State}
use Rattle.cursor.specs.Rule.{World, Stop, fault, refused, done, failed, Rule, bind, or_else}
use Rattle.cursor.specs.Tokens.{rewind}
use Rattle.cursor.specs.Attempts.{try_parse}
use Rattle.parts.specs.Recovery.{undone}

module _ {A B : Type 0} (r : Rule A) (k : A → Rule B) (back : Rule B) (s : State) (w : World) where
  pub kept : {a : A} {s1 : State} {w1 : World} → r s w ≡ done s1 w1 a → try_parse r k back s w ≡ k a s1 w1
  unfolding try_parse
  kept p = rw p

  -- what follows a failure: the other rule, from where the attempt began
  undoing : (x : Stop) → or_else (failed x) (λ s1 w1 a. k a s1 w1) (λ s1 w1 f. back (rewind s s1) w1) ≡ bind (undone s x) (λ s1 w1 _. back s1 w1)
  undoing (fault s1 w1 f) = refl
  undoing (refused n) = refl

  module _ {x : Stop} (p : r s w ≡ failed x) where
    pub starts-over : {s1 : State} {w1 : World} → undone s x ≡ done s1 w1 tt → try_parse r k back s w ≡ back s1 w1
    unfolding try_parse
    starts-over q = rw p (undoing x ∙ rw q)

    pub lost : {y : Stop} → undone s x ≡ failed y → try_parse r k back s w ≡ failed y
    unfolding try_parse
    lost q = rw p (undoing x ∙ rw q)
