-- The live list never fills, whatever the sheet is: with at most 64 levels no reading is refused for it.
use mathlib.Core.Path.{◌≡◌, refl}
use Prim.Native.Nat.{ℕ, zero, suc, ◌*◌, ◌≤◌}
use native.Mathlib.Nat.{le_trans}
use native.Mathlib.Omega.{arith}
use Rattle.kinds.specs.Number as kind
use Rattle.cursor.specs.declared.State.{State}
use Rattle.cursor.specs.Sheet.{Sheet}
use Rattle.cursor.specs.Rule.{World, refused, failed}
use Rattle.cursor.specs.Checks.{live_room}
use Rattle.types.specs.Items.{start}
use Rattle.rules.specs.Levels.{knot, levels, program_record, program}
use Rattle.live.proofs.Live.{Ends, cut, weaken, then, not_full, refuses, lifted}
use Rattle.live.proofs.Cursor.{append-still}
use Rattle.live.proofs.Types.{level, atoms-bounded, patterns-bounded}
use Rattle.live.proofs.Handed.{Handed}
use Rattle.live.proofs.Atoms.{precedence-bounded}
use Rattle.live.proofs.Body.{body-bounded, body-anywhere}

-- by the levels left
pub levels-handed : (e : Sheet) (d : ℕ) → Handed (levels e d) (level * d)
unfolding knot
levels-handed e zero = record { exprs = λ end. refuses (λ q. omega arith); prec = λ min lambda. refuses (λ q. omega arith); type_atom = atoms-bounded e zero; pattern = patterns-bounded e zero }
levels-handed e (suc d) = record {
  exprs = λ end. lifted level (omega arith) (body-bounded (levels-handed e d) end) refl refl refl refl;
  prec = λ min lambda. lifted level (omega arith) (precedence-bounded (levels-handed e d) min lambda) refl refl refl refl;
  type_atom = atoms-bounded e (suc d);
  pattern = patterns-bounded e (suc d);
}

-- with at most 64 levels the base of those inside is at most 819, and 112 kinds above it are within the room of 1,024
pub program-ends : (e : Sheet) (d : ℕ) (s : State) (w : World) → d ≤ 64 → s.live ≡ 0 → Ends (λ s1 _. s1.live ≤ live_room) (λ _. Unit {0}) (program (levels e d) s w)
unfolding program knot start program_record
program-ends e zero s w h q = cut {n = 9} (λ p. omega arith)
program-ends e (suc d) s w h q = then (body-anywhere (levels-handed e d) kind.Eof s w (omega arith) (omega arith)) (λ _ z. z) (λ s1 w1 row l. weaken ((append-still _ row.first).stays s1 w1) (λ s2 _ z. le_trans z.1 l) (λ _ z. absurd z))

pub never-full : (e : Sheet) (d : ℕ) (w : World) (s : State) {n : ℕ} → d ≤ 64 → s.live ≡ 0 → program (levels e d) s w ≡ failed (refused n) → n ≡ 11 → ⊥
never-full e d w s h q = not_full (program-ends e d s w h q)

-- whatever the limits and the buffers are
pub program-bounded : (e : Sheet) (w : World) (s : State) (n : ℕ) → s.live ≡ 0 → program (levels e 64) s w ≡ failed (refused n) → n ≡ 11 → ⊥
program-bounded e w s n q = never-full e 64 w s (omega arith) q
