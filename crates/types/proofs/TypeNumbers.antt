-- The paths of TypePaths that go by an item rule, over every number of one, whether or not the code has a rule of that number.
-- Assumes nothing.
use Rattle.std.proofs.Common.{◌≡◌, refl}
use Prim.Native.Nat.{ℕ, zero, suc}
use mathlib.Core.Bool.{true, false}
use borrow.Author.Tests.{eq-eqb, ne_eqb}
use Rattle.kinds.specs.Number as kind
use Rattle.cursor.specs.declared.State.{State}
use Rattle.cursor.specs.Sheet.{Sheet}
use Rattle.cursor.specs.Rule.{World, Stop, done, failed, Rule}
use Rattle.cursor.specs.Checks.{expect}
use Rattle.types.specs.Types.{type_last_kind, type_end, type, named, typed_ident, table_ty_pair, table_ty_other, type_item, type_last_item}

-- how lists of each item rule end, and how their last item starts
pub last-kind-pairs : {k : ℕ} → k ≡ 2 → type_last_kind k ≡ kind.OpenBracket
unfolding type_last_kind
last-kind-pairs p = rw p

pub last-kind-others : (k : ℕ) → (k ≡ 2 → ⊥) → type_last_kind k ≡ kind.Ellipsis
unfolding type_last_kind
last-kind-others zero p = refl
last-kind-others (suc zero) p = refl
last-kind-others (suc (suc zero)) p = absurd (p refl)
last-kind-others (suc (suc (suc k))) p = refl

pub end-closure : {k : ℕ} → k ≡ 1 → type_end k ≡ kind.VBar
unfolding type_end
end-closure p = rw p

pub end-pairs : {k : ℕ} → k ≡ 2 → type_end k ≡ kind.CloseBrace
unfolding type_end
end-pairs p = rw p

pub end-others : (k : ℕ) → (k ≡ 1 → ⊥) → (k ≡ 2 → ⊥) → type_end k ≡ kind.CloseParen
unfolding type_end
end-others zero p q = refl
end-others (suc zero) p q = absurd (p refl)
end-others (suc (suc zero)) p q = absurd (q refl)
end-others (suc (suc (suc k))) p q = refl

module _ (e : Sheet) (atom : Rule ℕ) where
  pub item-typed : (k : ℕ) (s : State) (w : World) → k ≡ 0 → type_item e atom k s w ≡ typed_ident e (named e atom false) s w
  unfolding type_item
  item-typed k s w p = rw p

  pub item-atom : (k : ℕ) (s : State) (w : World) → k ≡ 1 → type_item e atom k s w ≡ typed_ident e (named e atom true) s w
  unfolding type_item
  item-atom k s w p = rw p

  pub item-pair : (k : ℕ) (s : State) (w : World) → k ≡ 2 → type_item e atom k s w ≡ table_ty_pair e atom s w
  unfolding type_item
  item-pair k s w p = rw p

  pub item-type : (k : ℕ) (s : State) (w : World) → (k ≡ 0 → ⊥) → (k ≡ 1 → ⊥) → (k ≡ 2 → ⊥) → type_item e atom k s w ≡ type e atom s w
  unfolding type_item
  item-type zero s w p q r = absurd (p refl)
  item-type (suc zero) s w p q r = absurd (q refl)
  item-type (suc (suc zero)) s w p q r = absurd (r refl)
  item-type (suc (suc (suc k))) s w p q r = refl

  module _ (k : ℕ) (s : State) (w : World) where
    pub last-other : k ≡ 2 → type_last_item e atom k s w ≡ table_ty_other e atom s w
    unfolding type_last_item
    last-other p = rw (eq-eqb _ _ p, type_last_item)

    module _ (n : k ≡ 2 → ⊥) where
      pub last-shut : {x : Stop} → expect e kind.Ellipsis s w ≡ failed x → type_last_item e atom k s w ≡ failed x
      unfolding type_last_item
      last-shut p = rw (ne_eqb _ _ n, type_last_item) (rw p)

      pub last-dots : {s1 : State} {w1 : World} → expect e kind.Ellipsis s w ≡ done s1 w1 tt → type_last_item e atom k s w ≡ type_item e atom k s1 w1
      unfolding type_last_item
      last-dots p = rw (ne_eqb _ _ n, type_last_item) (rw p)
