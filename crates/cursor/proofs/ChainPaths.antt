-- A chain of kinds of which none stands here.
use Rattle.std.proofs.Common.{◌≡◌, ℕ, zero, suc, ◌+◌, ◌<◌, ◌≤◌, true, false, not, eqb, List, [], ◌∷◌, length, get_or, drop, sym, ◌∙◌, true≢false, add-one, arith, drop-cons, eq-eqb, ne_eqb}
use borrow.Author.Tests.{not-true}
use Rattle.kinds.proofs.Logic.{both, neither}
use Rattle.cursor.specs.Checks.{live_room, room_for, is_in, misses}
use Rattle.cursor.proofs.CheckPaths.{drop_all, roomy-within}

-- the search for a kind, at its place i
module _ (k : ℕ) (ks : List ℕ) (i : ℕ) where
  pub in_end : length ks ≤ i → is_in k (drop i ks) ≡ false
  in_end p = rw (drop_all ks i p)

  module _ (p : i < length ks) where
    pub in-here : k ≡ get_or ks i 0 → is_in k (drop i ks) ≡ true
    in-here q = rw (drop-cons ks i 0 p) (rw (eq-eqb _ _ q))

    pub in_on : (k ≡ get_or ks i 0 → ⊥) → is_in k (drop i ks) ≡ is_in k (drop (i + 1) ks)
    in_on q = rw (drop-cons ks i 0 p) (rw (ne_eqb _ _ q, add-one i))

-- a kind that is none of a chain's stands at no place of it
pub not_in : (k : ℕ) (ks : List ℕ) (i : ℕ) → is_in k ks ≡ false → i < length ks → k ≡ get_or ks i 0 → ⊥
not_in k [] i e p q = omega arith
not_in k (a ∷ ks) zero e p q = true≢false (sym (rw (eq-eqb k a q)) ∙ e)
not_in k (a ∷ ks) (suc i) e p q = not_in k ks i (neither (eqb k a) (is_in k ks) e).1 (omega arith) q

-- what a miss tells
module _ (found told : ℕ) (ks : List ℕ) where
  pub miss-in : is_in found ks ≡ true → false ≡ misses found told ks
  unfolding misses
  miss-in p = rw p

  pub miss-room : is_in found ks ≡ false → room_for told (length ks) ≡ misses found told ks
  unfolding misses
  miss-room p = rw p

  pub missed : misses found told ks ≡ true → (is_in found ks ≡ false) × (told + length ks ≤ live_room)
  unfolding misses
  missed e = let h = both (not (is_in found ks)) (room_for told (length ks)) e in (not-true (is_in found ks) h.0, roomy-within told (length ks) h.1)
