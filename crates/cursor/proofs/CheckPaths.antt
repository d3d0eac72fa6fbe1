-- Each way through the rules that test what stands here.
use Rattle.std.specs.Prelude.{None}
use Rattle.std.proofs.Common.{◌≡◌, ℕ, zero, suc, ◌+◌, ◌-◌, ◌<◌, ◌≤◌, Bool, true, false, leb, List, [], ◌∷◌, length, get_or, drop, set, sym, refl, ap, ◌∙◌, add-one, arith, drop-cons, le-ltb, lt-ltb, eq-eqb, ne_eqb, le-leb, leb-false, leb-true}
use mathlib.Core.Bool.{false≢true}
use lib.Seq.{drop-nil}
use native.Mathlib.Decide.{dec_le}
use borrow.Author.Tests.{lt-leb}
use Rattle.cursor.specs.declared.State.{State}
use Rattle.cursor.specs.declared.Span.{Span}
use Rattle.cursor.specs.Sheet.{Sheet, kind_at, range_at, Ranged}
use Rattle.cursor.specs.Rule.{World, Stop, fault, refused, done, failed}
use Rattle.cursor.specs.Buffer.{put}
use Rattle.cursor.specs.Tokens.{bump}
use Rattle.cursor.specs.Checks.{live_room, room_for, full_at, want, check, eat, unexpected_at, unexpected, expect, eat_range, pick_from, found_at}

-- what a rule answered, from what a function with that rule ensures and what its result is known to be
pub via : {A B : Type 0} (f : A → World → B) {r v : A} {w : World} {m : B} → f r w ≡ m → r ≡ v → m ≡ f v w
via f {w = w} h q = sym h ∙ ap (λ r. f r w) q

-- a store of the program's
pub stored : (xs : List ℕ) (i a : ℕ) → set xs i a ≡ put xs i a
unfolding put
stored xs i a = refl

module _ (e : Sheet) (k : ℕ) (s : State) (w : World) where
  pub check-yes : kind_at e.tokens s.at ≡ k → check e k s w ≡ done s w true
  unfolding check
  check-yes p = rw (eq-eqb _ _ p, check)

  pub check-full : (kind_at e.tokens s.at ≡ k → ⊥) → live_room ≤ s.live → check e k s w ≡ failed (refused 11)
  unfolding check want
  check-full p q = rw (ne_eqb _ _ p, check) (rw (le-ltb _ _ q, want))

  pub check-no : {l : List ℕ} → (kind_at e.tokens s.at ≡ k → ⊥) → s.live < live_room → l ≡ put w.live s.live k → check e k s w ≡ done (record { at = s.at; prev = s.prev; reads = s.reads; nodes = s.nodes; errors = s.errors; wanted = s.wanted; live = s.live + 1 }) (record { nodes = w.nodes; errors = w.errors; expected = w.expected; live = l }) false
  unfolding check want
  check-no p q r = rw (ne_eqb _ _ p, check) (rw (lt-ltb _ _ q, want, r))

  module _ {x : Stop} where
    pub eat-failed : check e k s w ≡ failed x → eat e k s w ≡ failed x
    unfolding eat
    eat-failed p = rw p

    pub eat-spent : {s1 : State} {w1 : World} → check e k s w ≡ done s1 w1 true → bump e s1 w1 ≡ failed x → eat e k s w ≡ failed x
    unfolding eat
    eat-spent p q = rw p (rw q)

  pub eat-no : {s1 : State} {w1 : World} → check e k s w ≡ done s1 w1 false → eat e k s w ≡ done s1 w1 false
  unfolding eat
  eat-no p = rw p

  pub eat-yes : {s1 s2 : State} {w1 w2 : World} → check e k s w ≡ done s1 w1 true → bump e s1 w1 ≡ done s2 w2 tt → eat e k s w ≡ done s2 w2 true
  unfolding eat
  eat-yes p q = rw p (rw q)

  module _ {x : Stop} where
    pub expect-failed : eat e k s w ≡ failed x → expect e k s w ≡ failed x
    unfolding expect
    expect-failed p = rw p

    pub range-failed : check e k s w ≡ failed x → eat_range e k s w ≡ failed x
    unfolding eat_range
    range-failed p = rw p

    pub range-spent : {s1 : State} {w1 : World} → check e k s w ≡ done s1 w1 true → bump e s1 w1 ≡ failed x → eat_range e k s w ≡ failed x
    unfolding eat_range
    range-spent p q = rw p (rw q)

  pub expect-yes : {s1 : State} {w1 : World} → eat e k s w ≡ done s1 w1 true → expect e k s w ≡ done s1 w1 tt
  unfolding expect
  expect-yes p = rw p

  pub expect-no : {s1 : State} {w1 : World} → eat e k s w ≡ done s1 w1 false → expect e k s w ≡ failed (fault s1 w1 (unexpected_at e s1))
  unfolding expect unexpected
  expect-no p = rw p

  pub range-no : {s1 : State} {w1 : World} → check e k s w ≡ done s1 w1 false → eat_range e k s w ≡ done s1 w1 None
  unfolding eat_range
  range-no p = rw p

  pub range-yes : {s1 s2 : State} {w1 w2 : World} {r : Ranged} → check e k s w ≡ done s1 w1 true → bump e s1 w1 ≡ done s2 w2 tt → range_at e.tokens s.at ≡ r → eat_range e k s w ≡ done s2 w2 r
  unfolding eat_range
  range-yes p q r = rw p (rw (q, r))

-- the error of an unexpected token, from the kind and the range of the current one
module _ (e : Sheet) (s : State) where
  pub unexpected-is : {found : ℕ} {r : Ranged} {x : Span} → found ≡ kind_at e.tokens s.at → range_at e.tokens s.at ≡ r → x ≡ found_at r s.prev → unexpected_at e s ≡ record { class = 0; found = found; span = x; listed = true }
  unfolding unexpected_at
  unexpected-is p q t = rw (p, q, t)

pub drop_all : (ks : List ℕ) (i : ℕ) → length ks ≤ i → drop i ks ≡ []
drop_all [] i h = drop-nil i
drop_all (k ∷ ks) zero h = absurd (omega arith)
drop_all (k ∷ ks) (suc i) h = drop_all ks i (omega arith)

-- the room of the live list, told for a whole chain
pub roomy-within : (told more : ℕ) → room_for told more ≡ true → told + more ≤ live_room
unfolding room_for
roomy-within told more p = leb-true _ _ p

pub room-tested : (told more : ℕ) → more ≤ live_room → leb told (live_room - more) ≡ room_for told more
unfolding room_for
room-tested told more p = by (dec_le told (live_room - more))
  where
    by : Dec (told ≤ live_room - more) → leb told (live_room - more) ≡ leb (told + more) live_room
    by (yes q) = le-leb told (live_room - more) q ∙ sym (le-leb (told + more) live_room (omega arith))
    by (no q) = let h : live_room - more < told = omega arith in let k : live_room < told + more = omega arith in lt-leb _ _ h ∙ sym (lt-leb _ _ k)

pub no-room-at-all : (told more : ℕ) → live_room < more → leb more live_room ≡ room_for told more
unfolding room_for
no-room-at-all told more p = let k : live_room < told + more = omega arith in lt-leb _ _ p ∙ sym (lt-leb _ _ k)

pub full_at_lem : (roomy : Bool) (told : ℕ) → full_at roomy told ≡ true → live_room ≤ told
unfolding full_at
full_at_lem true told p = absurd (false≢true p)
full_at_lem false told p = leb-true _ _ p

pub not_full : (roomy : Bool) (told : ℕ) → full_at roomy told ≡ false → (roomy ≡ true → told < live_room) → told < live_room
unfolding full_at
not_full true told p q = q refl
not_full false told p q = leb-false _ _ p

-- a chain of checks, at its place i
module _ (e : Sheet) (ks : List ℕ) (i : ℕ) (s : State) (w : World) where
  pub pick_end : length ks ≤ i → pick_from e (drop i ks) i s w ≡ done s w i
  unfolding pick_from
  pick_end p = rw (drop_all ks i p)

  module _ (p : i < length ks) where
    pub pick-here : kind_at e.tokens s.at ≡ get_or ks i 0 → pick_from e (drop i ks) i s w ≡ done s w i
    unfolding pick_from
    pick-here q = rw (drop-cons ks i 0 p) (rw (check-yes e _ s w q))

    pub pick-full : (kind_at e.tokens s.at ≡ get_or ks i 0 → ⊥) → live_room ≤ s.live → pick_from e (drop i ks) i s w ≡ failed (refused 11)
    unfolding pick_from
    pick-full q r = rw (drop-cons ks i 0 p) (rw (check-full e _ s w q r))

    pub pick-on : {l : List ℕ} → (kind_at e.tokens s.at ≡ get_or ks i 0 → ⊥) → s.live < live_room → l ≡ put w.live s.live (get_or ks i 0) → pick_from e (drop i ks) i s w ≡ pick_from e (drop (i + 1) ks) (i + 1) (record { at = s.at; prev = s.prev; reads = s.reads; nodes = s.nodes; errors = s.errors; wanted = s.wanted; live = s.live + 1 }) (record { nodes = w.nodes; errors = w.errors; expected = w.expected; live = l })
    unfolding pick_from
    pick-on q r t = rw (drop-cons ks i 0 p) (rw (check-no e _ s w q r t, add-one i))
