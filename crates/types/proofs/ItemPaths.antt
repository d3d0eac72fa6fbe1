-- Each way through the steps that rules share, and through lists of items.
use Rattle.std.specs.Prelude.{Some, None}
use Rattle.std.specs.Option.{is_some}
use mathlib.Core.Path.{◌≡◌, refl, sym}
use mathlib.Core.Bool.{true, false}
use Prim.Native.Nat.{ℕ, zero, suc}
use Rattle.kinds.specs.Number as kind
use Rattle.cursor.specs.declared.State.{State}
use Rattle.cursor.specs.declared.Kids.{Kids}
use Rattle.cursor.specs.Sheet.{Sheet, Ranged}
use Rattle.cursor.specs.Rule.{World, Stop, Out, done, failed, Rule, more, stop, iterate}
use Rattle.cursor.specs.Tokens.{eat_eol}
use Rattle.cursor.specs.Checks.{check, eat, expect}
use Rattle.cursor.specs.Records.{append, add, no_kids}
use Rattle.types.specs.declared.items.Items.{Items}
use Rattle.types.specs.Items.{close, pair, add_some, is_ended, so, after_item, one_item, after_last, last_item, item_turn, items_until_with_last}
use Rattle.cursor.proofs.Loops.{loop-stop, loop-failed}

pub close-is : (k from one two flags first : ℕ) (s : State) (w : World) → close k from one two flags first s w ≡ append (record { kind = k; start = from; end = s.prev; one = one; two = two; flags = flags }) first s w
unfolding close
close-is k from one two flags first s w = refl

pub pair-on : (k from a b : ℕ) (s : State) (w : World) {s1 s2 : State} {w1 w2 : World} {k1 k2 : Kids} → done s1 w1 k1 ≡ add no_kids a s w → done s2 w2 k2 ≡ add k1 b s1 w1 → pair k from a b s w ≡ close k from 0 0 0 k2.first s2 w2
unfolding pair
pair-on k from a b s w p q = rw (← p) (rw (← q))

-- whether a list has a last item, which the code asks by std's is_some
pub is-ended-is-some : (g : Ranged) → is_some g ≡ is_ended g
is-ended-is-some (Some r) = refl
is-ended-is-some None = refl

module _ (kids : Kids) (link : ℕ) (s : State) (w : World) where
  pub some-none : link ≡ 0 → add_some kids link s w ≡ done s w kids
  unfolding add_some
  some-none p = rw (p, add_some)

pub some-on : (kids : Kids) (link : ℕ) (s : State) (w : World) → (link ≡ 0 → ⊥) → add_some kids link s w ≡ add kids link s w
unfolding add_some
some-on kids zero s w p = absurd (p refl)
some-on kids (suc i) s w p = refl

module _ (e : Sheet) (end : ℕ) where
  module _ (kids : Kids) (r : ℕ) (s : State) (w : World) {longer : Kids} {s2 : State} {w2 : World} (q : done s2 w2 longer ≡ add kids r s w) where
    pub after-spent : {x : Stop} → eat_eol e s2 w2 ≡ failed x → after_item e end kids r s w ≡ failed x
    unfolding after_item
    after-spent a = rw (← q) (rw a)

    module _ {s3 : State} {w3 : World} (a : eat_eol e s2 w2 ≡ done s3 w3 tt) where
      pub after-full : {x : Stop} → eat e end s3 w3 ≡ failed x → after_item e end kids r s w ≡ failed x
      unfolding after_item
      after-full b = rw (← q) (rw a (rw b))

      pub after-ended : {s4 : State} {w4 : World} → eat e end s3 w3 ≡ done s4 w4 true → after_item e end kids r s w ≡ done s4 w4 (stop (so longer))
      unfolding after_item
      after-ended b = rw (← q) (rw a (rw b))

      module _ {s4 : State} {w4 : World} (b : eat e end s3 w3 ≡ done s4 w4 false) where
        pub after_open : {x : Stop} → expect e kind.Comma s4 w4 ≡ failed x → after_item e end kids r s w ≡ failed x
        unfolding after_item
        after_open c = rw (← q) (rw a (rw b (rw c)))

        module _ {s5 : State} {w5 : World} (c : expect e kind.Comma s4 w4 ≡ done s5 w5 tt) where
          pub after-lost : {x : Stop} → eat_eol e s5 w5 ≡ failed x → after_item e end kids r s w ≡ failed x
          unfolding after_item
          after-lost d = rw (← q) (rw a (rw b (rw c (rw d))))

          pub after_more : {s6 : State} {w6 : World} → eat_eol e s5 w5 ≡ done s6 w6 tt → after_item e end kids r s w ≡ done s6 w6 (more (so longer))
          unfolding after_item
          after_more d = rw (← q) (rw a (rw b (rw c (rw d))))

  module _ (i : Items) (s : State) (w : World) where
    pub last-spent : {x : Stop} → eat_eol e s w ≡ failed x → after_last e end i s w ≡ failed x
    unfolding after_last
    last-spent p = rw p

    module _ {s1 : State} {w1 : World} (p : eat_eol e s w ≡ done s1 w1 tt) where
      pub last-open : {x : Stop} → expect e end s1 w1 ≡ failed x → after_last e end i s w ≡ failed x
      unfolding after_last
      last-open q = rw p (rw q)

      pub last_on : {s2 : State} {w2 : World} → expect e end s1 w1 ≡ done s2 w2 tt → after_last e end i s w ≡ done s2 w2 i
      unfolding after_last
      last_on q = rw p (rw q)

module _ (e : Sheet) (item : Rule ℕ) (last_kind : ℕ) (last : Items → Rule Items) (end : ℕ) where
  module _ (kids : Kids) (s : State) (w : World) where
    pub items-failed : {x : Stop} → eat_eol e s w ≡ failed x → items_until_with_last e item last_kind last end kids s w ≡ failed x
    unfolding items_until_with_last
    items-failed p = rw p

    pub items-on : {s1 : State} {w1 : World} → eat_eol e s w ≡ done s1 w1 tt → items_until_with_last e item last_kind last end kids s w ≡ iterate e (item_turn e item last_kind last end) (so kids) s1 w1
    unfolding items_until_with_last
    items-on p = rw p

  module _ (i : Items) (s : State) (w : World) where
    pub turn-failed : {x : Stop} → eat e end s w ≡ failed x → item_turn e item last_kind last end i s w ≡ failed x
    unfolding item_turn
    turn-failed p = rw p

    pub turn-ended : {s1 : State} {w1 : World} → eat e end s w ≡ done s1 w1 true → item_turn e item last_kind last end i s w ≡ done s1 w1 (stop i)
    unfolding item_turn
    turn-ended p = rw p

    module _ {s1 : State} {w1 : World} (p : eat e end s w ≡ done s1 w1 false) where
      pub turn-full : {x : Stop} → check e last_kind s1 w1 ≡ failed x → item_turn e item last_kind last end i s w ≡ failed x
      unfolding item_turn
      turn-full q = rw p (rw q)

      module _ {s2 : State} {w2 : World} (q : check e last_kind s1 w1 ≡ done s2 w2 true) where
        pub turn-last-failed : {x : Stop} → last_item e last end i s2 w2 ≡ failed x → item_turn e item last_kind last end i s w ≡ failed x
        unfolding item_turn
        turn-last-failed r = rw p (rw q (rw r))

        pub turn_last : {j : Items} {s3 : State} {w3 : World} → last_item e last end i s2 w2 ≡ done s3 w3 j → item_turn e item last_kind last end i s w ≡ done s3 w3 (stop j)
        unfolding item_turn
        turn_last r = rw p (rw q (rw r))

      module _ {s2 : State} {w2 : World} (q : check e last_kind s1 w1 ≡ done s2 w2 false) where
        pub turn-item-failed : {x : Stop} → item s2 w2 ≡ failed x → item_turn e item last_kind last end i s w ≡ failed x
        unfolding item_turn one_item
        turn-item-failed r = rw p (rw q (rw r))

        pub turn-item : {r : ℕ} {s3 : State} {w3 : World} → item s2 w2 ≡ done s3 w3 r → item_turn e item last_kind last end i s w ≡ after_item e end i.kids r s3 w3
        unfolding item_turn one_item
        turn-item r = rw p (rw q (rw r))

  -- a list whose last item is read is what the last item's rule and the end give
  pub turned-last : (o : Out Items) (i : Items) (s : State) (w : World) {s1 s2 : State} {w1 w2 : World} → eat e end s w ≡ done s1 w1 false → check e last_kind s1 w1 ≡ done s2 w2 true → o ≡ last_item e last end i s2 w2 → iterate e (item_turn e item last_kind last end) i s w ≡ o
  turned-last (done s3 w3 j) i s w p q r = loop-stop e _ (turn_last i _ _ p q (sym r))
  turned-last (failed x) i s w p q r = loop-failed e _ (turn-last-failed i _ _ p q (sym r))
