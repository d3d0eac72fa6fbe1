-- What stands at a place: by a test that computes, and by what is known to stand there.
use Prim.Native.Nat.{ℕ}
use mathlib.Core.Path.{◌≡◌, refl, sym, ◌∙◌}
use mathlib.Core.List.{List, [], ◌∷◌}
use mathlib.Core.Bool.{Bool, true, false, true≢false}
use lib.Dec.{eqb}
use borrow.Author.Tests.{eqb-false}
use Rattle.kinds.specs.Number as kind
use Rattle.kinds.specs.Operators.{binary_of, level_of}
use Rattle.grammar.specs.Places.{Place, kind_of, after, Tok, Here, Not, Free, from-none, from_all}
use Rattle.grammar.specs.Words.{among}

-- a token of this kind leads there
pub takes : {k : ℕ} {p q : Place} → kind_of p ≡ k → after p ≡ q → Tok k p q
takes a b = record { here = a; next = b }

-- this kind stands here, or another
pub this : {k : ℕ} {p : Place} → kind_of p ≡ k → Here k p
this a = record { stands = a }

pub other : {k : ℕ} {p : Place} → eqb (kind_of p) k ≡ false → Not k p
other {k} {p} e = record { differs = eqb-false (kind_of p) k e }

-- the kind of a token stands where it is taken
pub at-token : {k : ℕ} {p q : Place} → Tok k p q → Here k p
at-token t = this t.here

-- where one kind stands another does not
pub elsewhere : {k : ℕ} {p : Place} (j : ℕ) → eqb k j ≡ false → Here k p → Not j p
elsewhere {k} j e h = record { differs = λ q. eqb-false k j e (sym h.stands ∙ q) }

-- a Colon is no operator
pub colon-level : level_of kind.Colon ≡ 0
unfolding level_of binary_of
colon-level = refl

-- none of these kinds stands here
pub free : {ks : List ℕ} {p : Place} → among (kind_of p) ks ≡ false → Free ks p
unfolding among
free {ks} {p} e = go ks e
  where
    step : (k : ℕ) (js : List ℕ) (b : Bool) → eqb (kind_of p) k ≡ b → (among (kind_of p) js ≡ false → Free js p) → elim b as (λ _. Bool) [ true ↦ true | false ↦ among (kind_of p) js ] ≡ false → Free (k ∷ js) p
    step k js true q rest f = absurd (true≢false f)
    step k js false q rest f = from_all (other q) (rest f)

    go : (js : List ℕ) → among (kind_of p) js ≡ false → Free js p
    go [] f = from-none
    go (k ∷ js) f = step k js (eqb (kind_of p) k) refl (go js) f
