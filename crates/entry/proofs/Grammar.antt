-- `boundary` and `is_utf8` decide the grammar: what derives a place between characters, and what derives a text.
use Prim.Native.Nat.{ℕ, zero, suc, ◌+◌, ◌-◌}
use native.Mathlib.Omega.{arith}
use mathlib.Core.Path.{◌≡◌, refl, sym, ap, ◌∙◌}
use mathlib.Core.Bool.{Bool, true, false, cond, false≢true}
use mathlib.Core.Logic.{◌↔◌}
use mathlib.Core.List.{List, [], ◌∷◌, ◌++◌, Memᴰ}
use lib.ListN.{length, take, drop, length-append, take-append-drop}
use lib.Seq.{length-take-le, drop-append_seam}
use lib.Dec.{leb, eqb-suc-zero}
use borrow.Author.Tests.{leb-true}
use Rattle.entry.specs.Utf8.{Form, forms, holds, fits, first_fit, char_length, arrives, boundary, is_utf8}
use Rattle.entry.specs.Grammar.{Spells, Character, Octets, Boundary}
use Rattle.kinds.proofs.Logic.{both}
use Rattle.entry.proofs.Forms.{holds-in, apart, parted, only}
use Rattle.entry.proofs.Walk.{char-within, arrives-skip}

-- from a test to the grammar

fits-spells : (f : Form) (t : List ℕ) → fits f t ≡ true → Spells f (take (length f) t)
unfolding fits
fits-spells [] t e = Spells.end
fits-spells (r ∷ f) [] e = absurd (false≢true e)
fits-spells (r ∷ f) (b ∷ t) e =
    let h = both (holds r b) (fits f t) e in
    let i = both (leb r.low b) (leb b r.high) h.0 in
    Spells.byte (leb-true _ _ i.0) (leb-true _ _ i.1) (fits-spells f t h.1)

-- the form that decided a length
first-form : (fs : List Form) (t : List ℕ) (n : ℕ) → first_fit fs t ≡ suc n → (f : Form) × Memᴰ f fs × (fits f t ≡ true) × (length f ≡ suc n)
unfolding first_fit
first-form [] t n e = absurd (omega arith)
first-form (f ∷ fs) t n e = go (first-form fs t n) (fits f t) refl e
  where
    go : (first_fit fs t ≡ suc n → (g : Form) × Memᴰ g fs × (fits g t ≡ true) × (length g ≡ suc n))
        → (x : Bool) → fits f t ≡ x → cond x (length f) (first_fit fs t) ≡ suc n
        → (g : Form) × Memᴰ g (f ∷ fs) × (fits g t ≡ true) × (length g ≡ suc n)
    go later true s q = (f, Memᴰ.head refl, s, q)
    go later false s q = let h = later q in (h.0, Memᴰ.tail h.1, h.2, h.3)

char-spelled : (t : List ℕ) (n : ℕ) → char_length t ≡ suc n → Character (take (suc n) t)
char-spelled t n e =
    let h = first-form forms t n e in
    Character.spelled h.1 (rw h.3 at (fits-spells h.0 t h.2))

-- one character more
past_first : (t : List ℕ) (n j : ℕ) → char_length t ≡ suc n → Boundary (drop (suc n) t) j → Boundary t (suc n + j)
past_first t n j e b =
    let w = char-within t in
    let l = length-take-le (suc n) t (omega arith) in
    rw (take-append-drop (suc n) t, l) at (Boundary.past (char-spelled t n e) b)

reach : (t : List ℕ) (n k : ℕ) → arrives n t k ≡ true → (j : ℕ) × (k ≡ n + j) × Boundary (drop n t) j
unfolding arrives
reach t zero zero e = (0, refl, Boundary.here)
reach t (suc n) zero e = absurd (false≢true (sym (eqb-suc-zero n) ∙ e))
reach [] zero (suc k) e = absurd (false≢true e)
reach [] (suc n) (suc k) e = absurd (false≢true e)
reach (b ∷ t) zero (suc k) e = go (λ n. reach t n k) (char_length (b ∷ t)) refl e
  where
    go : ((n : ℕ) → arrives n t k ≡ true → (j : ℕ) × (k ≡ n + j) × Boundary (drop n t) j)
        → (c : ℕ) → char_length (b ∷ t) ≡ c → (elim c as (λ _. Bool) [ zero ↦ false | suc n ↦ arrives n t k ]) ≡ true
        → (j : ℕ) × (suc k ≡ 0 + j) × Boundary (b ∷ t) j
    go later zero s q = absurd (false≢true q)
    go later (suc n) s q =
        let h = later n q in
        (suc n + h.0, omega arith, past_first (b ∷ t) n h.0 s h.2)
reach (b ∷ t) (suc n) (suc k) e = let h = reach t n k e in (h.0, omega arith, h.2)

pub boundary-sound : (t : List ℕ) (k : ℕ) → boundary t k ≡ true → Boundary t k
boundary-sound t k e =
    let h = reach t 0 k e in
    let s : h.0 ≡ k = omega arith in
    rw s at h.2

-- from the grammar to a test

spells-fits : (f : Form) (c t : List ℕ) → Spells f c → fits f (c ++ t) ≡ true
unfolding fits
spells-fits f c t Spells.end = refl
spells-fits f c t (Spells.byte {r = r} {f = g} {b = b} {c = d} p q s) = rw (holds-in r b p q) (spells-fits g d t s)

spells-length : {f : Form} {c : List ℕ} → Spells f c → length f ≡ length c
spells-length Spells.end = refl
spells-length (Spells.byte p q s) = ap suc (spells-length s)

-- no form is empty
no-empty : (f : Form) (fs : List Form) → Memᴰ f fs → f ≡ [] → parted fs ≡ true → ⊥
unfolding parted
no-empty f fs (Memᴰ.head {x = []} e) z o = false≢true o
no-empty f fs (Memᴰ.head {x = r ∷ g} e) z o = let h : length (r ∷ g) ≡ 0 = ap length (sym e ∙ z) in omega arith
no-empty f fs (Memᴰ.tail {x = []} m) z o = false≢true o
no-empty f fs (Memᴰ.tail {x = r ∷ g} {xs = gs} m) z o = no-empty f gs m z (both (apart r.low r.high gs) (parted gs) o).1

-- a character is as long as the test says, whatever follows it
char_of : (f : Form) (c t : List ℕ) → Memᴰ f forms → Spells f c → (n : ℕ) × (length c ≡ suc n) × (char_length (c ++ t) ≡ suc n)
unfolding parted
char_of f c t m Spells.end = absurd (no-empty [] forms m refl refl)
char_of f c t m (Spells.byte {r = r} {f = g} {b = b} {c = d} p q s) =
    (length d, refl, only b (d ++ t) (r ∷ g) forms m refl (holds-in r b p q) ∙ rw (spells-fits g d t s) (ap suc (spells-length s)))

char-alone : (c t : List ℕ) → Character c → (n : ℕ) × (length c ≡ suc n) × (char_length (c ++ t) ≡ suc n)
char-alone c t (Character.spelled {f = f} m s) = char_of f c t m s

step : (c t : List ℕ) (k n : ℕ) → length c ≡ suc n → char_length (c ++ t) ≡ suc n → boundary t k ≡ true → boundary (c ++ t) (length c + k) ≡ true
unfolding arrives
step [] t k n l e h = absurd (omega arith)
step (b ∷ d) t k n l e h =
    let s : suc (length d) + k ≡ suc (length d + k) = omega arith in
    let m : n ≡ length d = omega arith in
    let u : length d + k - length d ≡ k = omega arith in
    let a = length-append d t in
    rw (s, e, arrives, m)
    (arrives-skip (length d) (d ++ t) (length d + k) (omega arith) (omega arith) ∙ rw (drop-append_seam d t, u) h)

pub boundary-complete : {t : List ℕ} {k : ℕ} → Boundary t k → boundary t k ≡ true
unfolding arrives
boundary-complete Boundary.here = refl
boundary-complete (Boundary.past {c = c} {t = t} {k = k} ch b) =
    let h = char-alone c t ch in
    step c t k h.0 h.1 h.2 (boundary-complete b)

-- a text is UTF-8 where its end is a boundary

octets-end : {t : List ℕ} → Octets t → Boundary t (length t)
octets-end Octets.none = Boundary.here
octets-end (Octets.more {c = c} {t = t} ch o) = rw (length-append c t) (Boundary.past ch (octets-end o))

end-octets : {t : List ℕ} {k : ℕ} → Boundary t k → k ≡ length t → Octets t
end-octets {t} Boundary.here e = none_left t e
  where
    none_left : (t : List ℕ) → 0 ≡ length t → Octets t
    none_left [] e = Octets.none
    none_left (b ∷ t) e = absurd (omega arith)
end-octets (Boundary.past {c = c} {t = t} ch b) e = let l = length-append c t in Octets.more ch (end-octets b (omega arith))

pub boundary-decides : (t : List ℕ) (k : ℕ) → (boundary t k ≡ true) ↔ Boundary t k
boundary-decides t k = (boundary-sound t k, boundary-complete)

pub utf8-decides : (t : List ℕ) → (is_utf8 t ≡ true) ↔ Octets t
utf8-decides t = (λ e. end-octets (boundary-sound t (length t) e) refl, λ o. boundary-complete (octets-end o))
