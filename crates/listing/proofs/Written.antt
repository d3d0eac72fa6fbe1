-- Each way through the functions that write numbers, fields and lines.
-- Assumes nothing.
use mathlib.Core.Path.{◌≡◌, refl}
use mathlib.Core.List.{List, [], ◌∷◌, ◌++◌, append_assoc, append-nil}
use Prim.Native.Nat.{ℕ, ◌+◌, ◌-◌, ◌/◌, ◌%◌, ◌^◌, ◌<◌, ◌≤◌}
use Rattle.listing.specs.declared.page.Page.{Page}
use Rattle.listing.specs.Page.{emits}
use Rattle.listing.specs.Decimal.{decimal, integer}
use Rattle.listing.specs.Names.{name_from}
use Rattle.listing.specs.Lines.{fields}
use Rattle.listing.proofs.Pages.{and_then}
use Rattle.listing.proofs.Decimals.{decimal-one, decimal-more, integer-small, integer-large}

module _ (p : Page) {q : Page} where
  -- the same bytes, otherwise told
  pub told : {a b : List ℕ} → a ≡ b → q ≡ emits a p → q ≡ emits b p
  told e f = rw (← e) f

  module _ (n : ℕ) {d : ℕ} (e : d ≡ 48 + n % 10) where
    pub number-one : n < 10 → q ≡ emits (d ∷ []) p → q ≡ emits (decimal n) p
    number-one h f = rw (decimal-one n h, ← e) f

    pub number_more : {r : Page} → 10 ≤ n → q ≡ emits (decimal (n / 10)) p → r ≡ emits (d ∷ []) q → r ≡ emits (decimal n) p
    number_more h f g = rw (decimal-more n h, ← e) (and_then (decimal (n / 10)) (d ∷ []) p f g)

  -- an integer, by its sign
  module _ (bits : ℕ) where
    pub integer-plus : bits < 2 ^ 63 → q ≡ emits (decimal bits) p → q ≡ emits (integer bits) p
    integer-plus h f = rw (integer-small bits h) f

    pub integer-minus : {r : Page} {n : ℕ} → 2 ^ 63 ≤ bits → n ≡ 2 ^ 64 - bits → q ≡ emits (45 ∷ []) p → r ≡ emits (decimal n) q → r ≡ emits (integer bits) p
    integer-minus h e f g = rw (integer-large bits h) (and_then (45 ∷ []) (decimal (2 ^ 64 - bits)) p f (rw e at g))

  -- a field after a space
  pub field : {r : Page} (f : List ℕ) → q ≡ emits (32 ∷ []) p → r ≡ emits f q → r ≡ emits (fields (f ∷ [])) p
  unfolding fields
  field f e g = rw (append-nil f) (and_then (32 ∷ []) f p e g)

pub fields-append : (fs gs : List (List ℕ)) → fields (fs ++ gs) ≡ fields fs ++ fields gs
unfolding fields
fields-append [] gs = refl
fields-append (f ∷ fs) gs = rw (fields-append fs gs, append_assoc f (fields fs) (fields gs))

-- further fields
pub also_fields : (fs gs : List (List ℕ)) (p : Page) {q r : Page} → q ≡ emits (fields fs) p → r ≡ emits (fields gs) q → r ≡ emits (fields (fs ++ gs)) p
also_fields fs gs p e f = rw (fields-append fs gs) (and_then (fields fs) (fields gs) p e f)

-- a name that has another byte, and one that has none
pub name-more : (p : Page) (place : ℕ) {q : Page} {b : ℕ} → name_from place ≡ b ∷ name_from (place + 1) → q ≡ emits (b ∷ []) p → emits (name_from place) p ≡ emits (name_from (place + 1)) q
unfolding emits
name-more p place e f = rw (f, e)

pub name_done : (p : Page) (place : ℕ) → name_from place ≡ [] → emits (name_from place) p ≡ p
unfolding emits
name_done p place e = rw e
