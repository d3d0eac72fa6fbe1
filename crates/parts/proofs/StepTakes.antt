-- The turns of the loops over names and over the patterns of a case take tokens: each that goes on takes the sign behind its item.
use mathlib.Core.Path.{◌≡◌, refl}
use mathlib.Core.Bool.{false}
use Prim.Native.Nat.{ℕ}
use lib.Dec.{eqb}
use Rattle.kinds.specs.Number as kind
use Rattle.cursor.specs.declared.Kids.{Kids}
use Rattle.cursor.specs.Sheet.{Sheet}
use Rattle.cursor.specs.Rule.{Rule, ◌>>=◌, give, if_so, more, stop}
use Rattle.cursor.specs.Checks.{eat}
use Rattle.cursor.specs.Records.{add}
use Rattle.cursor.proofs.Loops.{Takes}
use Rattle.cursor.proofs.Keeps.{Keeps, ground, gives}
use Rattle.cursor.proofs.Kept.{eat-keeps, add-keeps, ground-mine}
use Rattle.cursor.proofs.Spends.{Spends, Further, takes, spares, then-spends, if-spends}
use Rattle.cursor.proofs.Spent.{eat-spends}
use Rattle.types.specs.Lits.{ident}
use Rattle.types.specs.Patterns.{patterns}
use Rattle.types.proofs.ItemKeeps.{ident-keeps}
use Rattle.types.proofs.PatternKeeps.{patterns-keep}
use Rattle.parts.specs.Steps.{name_turn, pattern_turn}

module _ (e : Sheet) where
  -- an item joins its row; the sign that is taken behind it means one more
  row-spends : (sign : ℕ) → eqb sign kind.Eof ≡ false → {G : ℕ → Type 0} (item : Rule ℕ) → Keeps ground G item → (kids : Kids) → Spends e Further (item >>= (λ link. add kids link >>= (λ longer. eat e sign >>= if_so (give (more longer)) (give (stop longer)))))
  row-spends sign n item keeps kids = then-spends keeps (λ link. then-spends (add-keeps kids link (ground-mine _) (ground-mine link)) (λ longer. if-spends (eat-keeps e sign) (eat-spends sign n) (gives tt) (spares (λ x. x))))

  pub names-take : Takes e (name_turn e)
  unfolding name_turn
  names-take = takes (λ kids. row-spends kind.Comma refl (ident e) (ident-keeps e) kids)

  pub case-patterns-take : (d : ℕ) → Takes e (pattern_turn e (patterns e d))
  unfolding pattern_turn
  case-patterns-take d = takes (λ kids. row-spends kind.VBar refl (patterns e d) (patterns-keep e d) kids)
