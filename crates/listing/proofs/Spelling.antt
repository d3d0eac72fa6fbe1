-- What the listing writes for a number spells that number: its digits have its value, are '0' to '9' and have no leading zero. No other
-- bytes do, and two numbers are never written alike.
-- Assumes nothing.
use mathlib.Core.Path.{◌≡◌, refl, sym, ap, ◌∙◌}
use mathlib.Core.List.{List, [], ◌∷◌, ◌++◌}
use Prim.Native.Nat.{ℕ, zero, suc, ◌+◌, ◌-◌, ◌*◌, ◌/◌, ◌%◌, ◌^◌, ◌<◌, ◌≤◌}
use native.Mathlib.Decide.{dec_lt}
use native.Mathlib.Omega.{arith}
use Rattle.listing.specs.Decimal.{value_from, value, Digits, Leads, Spells, decimal, integer}
use Rattle.listing.proofs.Decimals.{decimal-one, decimal-more, integer-small, integer-large}

-- one more digit
value-snoc : (v : ℕ) (bs : List ℕ) (b : ℕ) → value_from v (bs ++ (b ∷ [])) ≡ 10 * value_from v bs + (b - 48)
value-snoc v [] b = refl
value-snoc v (c ∷ bs) b = value-snoc (10 * v + (c - 48)) bs b

each_snoc : (bs : List ℕ) (b : ℕ) → Digits bs → 48 ≤ b → b ≤ 57 → Digits (bs ++ (b ∷ []))
each_snoc [] b h p q = (p, q, tt)
each_snoc (c ∷ bs) b h p q = (h.0, h.1, each_snoc bs b h.2 p q)

leads-snoc : (bs : List ℕ) (b : ℕ) → Leads bs → (value bs ≡ 0 → ⊥) → Leads (bs ++ (b ∷ []))
leads-snoc [] b h n = absurd h
leads-snoc (c ∷ []) b h n = λ e. n (omega arith)
leads-snoc (c ∷ d ∷ bs) b h n = h

one-digit : (n : ℕ) → n < 10 → Spells n ((48 + n % 10) ∷ [])
one-digit n h = record { worth = omega arith; each = (omega arith, omega arith, tt); leads = tt }

more-digits : (n : ℕ) (bs : List ℕ) → 10 ≤ n → Spells (n / 10) bs → Spells n (bs ++ ((48 + n % 10) ∷ []))
more-digits n bs h s = record {
  worth = value-snoc 0 bs (48 + n % 10) ∙ omega (arith, s.worth);
  each = each_snoc bs (48 + n % 10) s.each (omega arith) (omega arith);
  leads = leads-snoc bs (48 + n % 10) s.leads (λ z. omega (arith, s.worth));
}

spelled-up-to : (k n : ℕ) → n ≤ k → Spells n (decimal n)
spelled-up-to zero n h = rw (decimal-one n (omega arith)) (one-digit n (omega arith))
spelled-up-to (suc k) n h = elim (dec_lt n 10) [
  | yes p ↦ rw (decimal-one n p) (one-digit n p)
  | no p ↦ rw (decimal-more n (omega arith)) (more-digits n (decimal (n / 10)) (omega arith) (spelled-up-to k (n / 10) (omega arith)))
]

-- what is written for a number spells it
pub decimal-spells : (n : ℕ) → Spells n (decimal n)
decimal-spells n = spelled-up-to n n (omega arith)

-- two numbers are never written alike
pub decimal-apart : (n m : ℕ) → decimal n ≡ decimal m → n ≡ m
decimal-apart n m e = sym (decimal-spells n).worth ∙ ap value e ∙ (decimal-spells m).worth

-- the last digit taken off again
record Ends (bs : List ℕ) : Type 0 where
  front : List ℕ
  end : ℕ
  whole : bs ≡ front ++ (end ∷ [])

ends : (b : ℕ) (bs : List ℕ) → Ends (b ∷ bs)
ends b [] = record { front = []; end = b; whole = refl }
ends b (c ∷ bs) = let e = ends c bs in record { front = b ∷ e.front; end = e.end; whole = ap (λ (l : List ℕ). b ∷ l) e.whole }

each-front : (bs : List ℕ) (b : ℕ) → Digits (bs ++ (b ∷ [])) → Digits bs × (48 ≤ b) × (b ≤ 57)
each-front [] b h = (tt, h.0, h.1)
each-front (c ∷ bs) b h = let g = each-front bs b h.2 in ((h.0, h.1, g.0), g.1, g.2)

leads-front : (b : ℕ) (bs : List ℕ) → (b ≡ 48 → ⊥) → Leads (b ∷ bs)
leads-front b [] h = tt
leads-front b (c ∷ bs) h = h

value_grows : (v : ℕ) (bs : List ℕ) → v ≤ value_from v bs
value_grows v [] = omega arith
value_grows v (b ∷ bs) = omega (arith, value_grows (10 * v + (b - 48)) bs)

-- what several digits spell, and what all but the last of them do
tenth : (n b : ℕ) (bs : List ℕ) (d : ℕ) → Spells n (b ∷ (bs ++ (d ∷ []))) → (b ≡ 48 → ⊥) → (10 ≤ n) × Spells (n / 10) (b ∷ bs) × (d ≡ 48 + n % 10)
tenth n b bs d s z =
    let g = each-front (b ∷ bs) d s.each in
    let w : 10 * value (b ∷ bs) + (d - 48) ≡ n = sym (value-snoc 0 (b ∷ bs) d) ∙ s.worth in
    let v : 10 * 0 + (b - 48) ≤ value (b ∷ bs) = value_grows (10 * 0 + (b - 48)) bs in
    let p : 49 ≤ b = omega (arith, g.0.0) in
    (omega arith, record { worth = omega (arith, g.1, g.2); each = g.0; leads = leads-front b bs z }, omega (arith, g.1, g.2))

only-from : (n : ℕ) (bs : List ℕ) → ((cs : List ℕ) → n / 10 < n → Spells (n / 10) cs → cs ≡ decimal (n / 10)) → Spells n bs → bs ≡ decimal n
only-from n [] less s = absurd s.leads
only-from n (b ∷ []) less s =
    let g = s.each.1 in
    rw (decimal-one n (omega (arith, s.worth))) (ap (λ (d : ℕ). d ∷ []) (omega (arith, s.worth, s.each.0)))
only-from n (b ∷ c ∷ bs) less s =
    let e = ends c bs in
    let t = tenth n b e.front e.end (rw e.whole at s) s.leads in
    rw (decimal-more n t.0, ← less (b ∷ e.front) (omega (arith, t.0)) t.1, ← t.2) (ap (λ (l : List ℕ). b ∷ l) e.whole)

only-up-to : (k n : ℕ) (bs : List ℕ) → n ≤ k → Spells n bs → bs ≡ decimal n
only-up-to zero n bs h s = only-from n bs (λ cs g. absurd (omega arith)) s
only-up-to (suc k) n bs h s = only-from n bs (λ cs g. only-up-to k (n / 10) cs (omega arith)) s

-- no other bytes spell a number
pub decimal-only : (n : ℕ) (bs : List ℕ) → Spells n bs → bs ≡ decimal n
decimal-only n bs s = only-up-to n n bs (omega arith) s

-- digits never begin with a minus
no_minus : (n : ℕ) (bs : List ℕ) → decimal n ≡ 45 ∷ bs → ⊥
no_minus n bs e = let h : Digits (45 ∷ bs) = rw e at (decimal-spells n).each in omega (arith, h.0)

-- nor are two integers of 64 bits ever written alike, the sign included
pub integer-apart : (n m : ℕ) → n < 2 ^ 64 → m < 2 ^ 64 → integer n ≡ integer m → n ≡ m
integer-apart n m h g e = elim (dec_lt n (2 ^ 63)) [
  | yes p ↦ elim (dec_lt m (2 ^ 63)) [
    | yes q ↦ decimal-apart n m (sym (integer-small n p) ∙ e ∙ integer-small m q)
    | no q ↦ absurd (no_minus n (decimal (2 ^ 64 - m)) (sym (integer-small n p) ∙ e ∙ integer-large m (omega arith)))
  ]
  | no p ↦ elim (dec_lt m (2 ^ 63)) [
    | yes q ↦ absurd (no_minus m (decimal (2 ^ 64 - n)) (sym (integer-small m q) ∙ sym e ∙ integer-large n (omega arith)))
    | no q ↦ let d : 2 ^ 64 - n ≡ 2 ^ 64 - m = decimal-apart _ _ (cc (integer-large n (omega arith), integer-large m (omega arith))) in omega arith
  ]
]
