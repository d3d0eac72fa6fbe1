-- What soundness says of the buffer: where a rule for a value is done and logged no error, there is a derivation from the place where it began to
-- the place where it ended, and the record behind its answer means the derivation's tree.
use mathlib.Core.Path.{◌≡◌, sym, ap, ◌∙◌}
use mathlib.Core.List.{List, []}
use Prim.Native.Nat.{ℕ, suc, ◌*◌, ◌≤◌}
use native.Mathlib.Omega.{arith}
use lib.ListN.{length}
use Rattle.cursor.specs.declared.State.{State}
use Rattle.cursor.specs.Layout.{node_words}
use Rattle.cursor.specs.Sheet.{Sheet}
use Rattle.cursor.specs.Rule.{World, done, Rule}
use Rattle.cursor.specs.Tree.{meaning}
use Rattle.cursor.proofs.Ends.{at_done}
use Rattle.cursor.proofs.Stack.{bottom, room, top}
use Rattle.cursor.proofs.Meaning.{built-meaning}
use Rattle.types.specs.Types.{type, atoms}
use Rattle.types.specs.Patterns.{patterns}
use Rattle.grammar.specs.Places.{Place}
use Rattle.grammar.specs.Symbols.{Sym, Ty, TyAtom, Pattern}
use Rattle.grammar.specs.Derives.{Derives}
use Rattle.grammar.specs.Builders.{blank}
use Rattle.grammar.specs.Shape.{shape}
use Rattle.sound.proofs.Links.{place_at, Settled}
use Rattle.sound.proofs.Sound.{at, Sound}
use Rattle.sound.proofs.SoundValues.{Value, value}
use Rattle.sound.proofs.SoundTypes.{atoms-sound, types-sound}
use Rattle.sound.proofs.SoundPatterns.{patterns-sound}

pub record Read (text : List ℕ) (y : Sym) (p q : Place) (ys : List ℕ) (link : ℕ) : Type 0 where
  pub der : Derives text y p q
  pub root : ℕ
  pub is : link ≡ suc root
  pub tree-of : meaning ys root ≡ (shape der 0 blank).row

-- that a rule leaves this
abbrev pub Reads : Sheet → Sym → Rule ℕ → Type 0
Reads e y r = (s s1 : State) (w w1 : World) (link : ℕ) → Settled e.tokens s → node_words * s.nodes ≤ length w.nodes → r s w ≡ done s1 w1 link → s1.errors ≡ s.errors → Read e.text y (place_at e.tokens s) (place_at e.tokens s1) w1.nodes link

pub value-reads : (e : Sheet) (y : Sym) (r : Rule ℕ) → Sound e (Value e.text y) r → Reads e y r
value-reads e y r sound s s1 w w1 link h fits q same = go fits ((at_done (sound.ends s w h) q).fact same)
  where
    go : {p q : Place} {n m a : ℕ} {xs ys : List ℕ} → node_words * n ≤ length xs → Value e.text y (at p n xs) (at q m ys) a → Read e.text y p q ys a
    go {n = n} fits (value d s f) =
        let st = f [] (bottom {hi = n} fits) in
        let t = top st in
        let o = room st in
        record { der = d; root = t.root; is = t.is; tree-of = built-meaning t.tree-of (omega (arith, o)) ∙ ap (λ z. z.row) (sym s) }

pub type_reads : (e : Sheet) (d : ℕ) → Reads e Ty (type e (atoms e d))
type_reads e d = value-reads e Ty _ (types-sound e d)

pub atom-reads : (e : Sheet) (d : ℕ) → Reads e TyAtom (atoms e d)
atom-reads e d = value-reads e TyAtom _ (atoms-sound e d)

pub pattern-reads : (e : Sheet) (d : ℕ) → Reads e Pattern (patterns e d)
pattern-reads e d = value-reads e Pattern _ (patterns-sound e d)
