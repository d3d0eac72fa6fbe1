-- Each way through writing one byte, and how writings follow one another.
-- Assumes nothing.
use mathlib.Core.Path.{◌≡◌, refl, sym, ap, ◌∙◌}
use mathlib.Core.List.{List, [], ◌∷◌, ◌++◌}
use Prim.Native.Nat.{ℕ, suc, ◌+◌, ◌<◌, ◌≤◌, min}
use lib.ListN.{length, set, get_or, drop, drop_of_length-le}
use lib.Seq.{set_out, drop-cons, sets, sets-eq}
use lib.Dec.{ltb}
use mathlib.Core.Bool.{Bool, true, false}
use native.Mathlib.Omega.{arith}
use native.Mathlib.Nat.{min-eq_left, min-eq_right}
use native.Mathlib.Numerals.{add-one}
use borrow.Author.Tests.{lt-ltb, le-ltb, ltb-true, ltb-false}
use Rattle.cursor.specs.Buffer.{put}
use Rattle.listing.specs.declared.page.Page.{Page}
use Rattle.listing.specs.Page.{emit, emits}

-- a page whose buffer holds this, with its next byte there
abbrev pub left : Page → List ℕ → ℕ → Page
left p xs at = record p { out = record p.out { now = xs }; at = at }

module _ (p : Page) (b : ℕ) where
  -- no room left
  pub byte_full : p.room ≤ p.at → p ≡ emits (b ∷ []) p
  unfolding emits emit
  byte_full h = sym (rw (le-ltb p.at p.room h, emit))

  module _ (h : p.at < p.room) where
    -- into the buffer
    pub byte-on : left p (set p.out.now p.at b) (p.at + 1) ≡ emits (b ∷ []) p
    unfolding emits emit put
    byte-on = sym (rw (lt-ltb p.at p.room h, emit))

    -- past its end
    pub byte_past : length p.out.now ≤ p.at → left p p.out.now (p.at + 1) ≡ emits (b ∷ []) p
    byte_past g = rw (set_out p.out.now p.at b g) at byte-on

pub emits-append : (a b : List ℕ) (p : Page) → emits (a ++ b) p ≡ emits b (emits a p)
unfolding emits
emits-append [] b p = refl
emits-append (x ∷ a) b p = emits-append a b (emit x p)

-- one writing after another
pub and_then : (a b : List ℕ) (p : Page) {q r : Page} → q ≡ emits a p → r ≡ emits b q → r ≡ emits (a ++ b) p
and_then a b p e f = f ∙ ap (emits b) e ∙ sym (emits-append a b p)

-- what is left of a word, one byte further
pub word_on : (w : List ℕ) (i : ℕ) (p : Page) {q : Page} → i < length w → q ≡ emits (get_or w i 0 ∷ []) p → emits (drop i w) p ≡ emits (drop (i + 1) w) q
unfolding emits
word_on w i p h e = rw (e, drop-cons w i 0 h, add-one)

-- and nothing
pub word_end : (w : List ℕ) (i : ℕ) (p : Page) → length w ≤ i → emits (drop i w) p ≡ p
unfolding emits
word_end w i p h = rw (drop_of_length-le w h)

-- with room for all the bytes they stand in the buffer one after the other, and the next one goes behind them
pub emits-all : (b : List ℕ) (p : Page) → p.at + length b ≤ p.room → emits b p ≡ left p (sets p.out.now p.at b) (p.at + length b)
unfolding emits emit put
emits-all [] p h = let e : p.at + 0 ≡ p.at = omega arith in rw e
emits-all (x ∷ b) p h =
    let e : p.at + suc (length b) ≡ p.at + 1 + length b = omega arith in
    let g : p.at < p.room = omega arith in
    rw (lt-ltb p.at p.room g, emit, e, ← add-one p.at) (emits-all b (left p (set p.out.now p.at x) (p.at + 1)) (omega arith))

-- the buffer stays the one that was lent
pub emits-name : (b : List ℕ) (p : Page) → (emits b p).out.ghost_name ≡ p.out.ghost_name
unfolding emits emit
emits-name [] p = refl
emits-name (x ∷ b) p = by (ltb p.at p.room) refl (λ q. emits-name b q)
  where
    by : (t : Bool) → ltb p.at p.room ≡ t → ((q : Page) → (emits b q).out.ghost_name ≡ q.out.ghost_name) → (emits b (emit x p)).out.ghost_name ≡ p.out.ghost_name
    by true e less = rw (e, emit) (less (left p (put p.out.now p.at x) (p.at + 1)))
    by false e less = rw (e, emit) (less p)

pub same_buffer : (b : List ℕ) (p : Page) {q : Page} → q ≡ emits b p → p.out.ghost_name ≡ q.out.ghost_name
same_buffer b p e = sym (ap (λ (q : Page). q.out.ghost_name) e ∙ emits-name b p)

-- bytes are counted, as far as the room goes
pub emits-at : (b : List ℕ) (p : Page) → p.at ≤ p.room → (emits b p).at ≡ min (p.at + length b) p.room
unfolding emits emit
emits-at [] p h = let e : p.at + 0 ≡ p.at = omega arith in sym (rw e (min-eq_left h))
emits-at (x ∷ b) p h = by (ltb p.at p.room) refl (λ q g. emits-at b q g)
  where
    by : (t : Bool) → ltb p.at p.room ≡ t → ((q : Page) → q.at ≤ q.room → (emits b q).at ≡ min (q.at + length b) q.room) → (emits b (emit x p)).at ≡ min (p.at + suc (length b)) p.room
    by true e less =
        let g = ltb-true p.at p.room e in
        let k : p.at + suc (length b) ≡ p.at + 1 + length b = omega arith in
        rw (e, emit, k) (less (left p (put p.out.now p.at x) (p.at + 1)) (omega arith))
    by false e less =
        let g = ltb-false p.at p.room e in
        rw (e, emit) (less p h ∙ min-eq_right (omega arith) ∙ sym (min-eq_right (omega arith)))

-- the bytes at the buffer's start
pub emits-front : (b : List ℕ) (p : Page) → p.at ≡ 0 → length b ≤ length p.out.now → length b ≤ p.room → emits b p ≡ left p (b ++ drop (length b) p.out.now) (length b)
emits-front b p z h g = let k : p.at + length b ≡ length b = omega arith in rw (emits-all b p (omega arith), k, z) (ap (λ (l : List ℕ). left p l (length b)) (let zz : 0 + length b ≡ length b = omega arith in rw zz at (sets-eq b p.out.now 0 (omega arith))))
