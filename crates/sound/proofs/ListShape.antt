-- A list that goes on from a row is that row with the list behind it.
use mathlib.Core.Path.{◌≡◌, refl, sym, ap, ◌∙◌}
use mathlib.Core.List.{List}
use mathlib.Core.Bool.{Bool}
use Prim.Native.Nat.{ℕ, ◌+◌}
use native.Mathlib.Omega.{arith}
use Rattle.cursor.specs.Sheet.{Ranged}
use Rattle.cursor.specs.Tree.{Trees, join}
use Rattle.cursor.proofs.Laws.{join-none, join-assoc}
use Rattle.grammar.specs.Places.{Place}
use Rattle.grammar.specs.Symbols.{Sym, Until, Items, Params}
use Rattle.grammar.specs.Derives.{Derives, until-of, items-end, items-last, items-final, items-comma, params_of, closure-params}
use Rattle.grammar.specs.Builders.{Shape, blank}
use Rattle.grammar.specs.Shape.{shape}
use Rattle.sound.proofs.SoundItems.{sofar}

-- a row of so many, and these behind it
abbrev pub behind : Trees → ℕ → Shape → Shape
behind ts c f = record { row = join ts f.row; count = f.count + c; last = f.last }

-- two shapes are the same whose three parts are
same_shape : {t u : Trees} {m n : ℕ} {r : Ranged} → t ≡ u → m ≡ n → ◌≡◌ {A = Shape} (record { row = t; count = m; last = r }) (record { row = u; count = n; last = r })
same_shape {r = r} p q = λ i. record { row = p i; count = q i; last = r }

-- the same where the row was not counted
abbrev pub under : Trees → Shape → Shape
under ts f = record { row = join ts f.row; count = f.count; last = f.last }

pub behind-none : (ts : Trees) (f : Shape) → behind ts 0 f ≡ under ts f
behind-none ts f = same_shape refl (nothing f.count)
  where
    nothing : (n : ℕ) → n + 0 ≡ n
    nothing n = omega arith

pub items-behind : {text : List ℕ} {x y : Sym} {end : ℕ} {p q : Place} (d : Derives text (Items x y end) p q) (ts : Trees) (c : ℕ) → shape d 0 (sofar ts c) ≡ behind ts c (shape d 0 blank)
unfolding shape join
items-behind (items-end a) ts c = same_shape (sym (join-none ts)) (omega arith)
items-behind (items-last d a b) ts c = same_shape refl (omega arith)
items-behind (items-final d a b) ts c = same_shape refl (omega arith)
items-behind (items-comma d a b g e) ts c =
    let f = shape e 0 blank in
    let t = (shape d 0 blank).row in
    items-behind e (join ts t) (c + 1) ∙ same_shape (join-assoc ts t f.row) (nat c f.count) ∙ ap (behind ts c) (sym (items-behind e t 1))
  where
    nat : (c n : ℕ) → n + (c + 1) ≡ n + 1 + c
    nat c n = omega arith

pub until-behind : {text : List ℕ} {x y : Sym} {end : ℕ} {p q : Place} (d : Derives text (Until x y end) p q) (ts : Trees) (c : ℕ) → shape d 0 (sofar ts c) ≡ behind ts c (shape d 0 blank)
unfolding shape
until-behind (until-of a d) ts c = items-behind d ts c

pub params-behind : {text : List ℕ} {closure : Bool} {p q : Place} (d : Derives text (Params closure) p q) (ts : Trees) (c : ℕ) → shape d 0 (sofar ts c) ≡ behind ts c (shape d 0 blank)
unfolding shape
params-behind (params_of a d) ts c = until-behind d ts c
params-behind (closure-params a d) ts c = until-behind d ts c
