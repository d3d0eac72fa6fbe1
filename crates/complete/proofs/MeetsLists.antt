-- Lists of items: each turn is one production of `Items`, told by the first token.
use mathlib.Core.Path.{◌≡◌}
use mathlib.Core.List.{List}
use mathlib.Core.Bool.{false}
use Prim.Native.Nat.{ℕ}
use native.Mathlib.Omega.{arith}
use lib.Dec.{eqb}
use Rattle.kinds.specs.Number as kind
use Rattle.cursor.specs.declared.Kids.{Kids}
use Rattle.cursor.specs.Sheet.{Sheet}
use Rattle.cursor.specs.Rule.{Rule, iterate}
use Rattle.cursor.proofs.Loops.{Takes}
use Rattle.types.specs.declared.items.Items.{Items as Row}
use Rattle.types.specs.Items.{so, after_item, one_item, after_last, last_item, item_turn, items_until_with_last}
use Rattle.parts.specs.Until.{until_turn, items_until}
use Rattle.grammar.specs.Places.{Place, Tok, Here, Not}
use Rattle.grammar.specs.Symbols.{Sym, Eols, Until, Items}
use Rattle.grammar.specs.Derives.{Derives, until-of, items-end, items-last, items-final, items-comma}
use Rattle.grammar.proofs.Tests.{elsewhere, at-token}
use Rattle.complete.proofs.Cost.{taken, costs, cost}
use Rattle.complete.proofs.Records.{records}
use Rattle.complete.specs.Depth.{need}
use Rattle.complete.proofs.Meets.{◌⊕◌, reading, cost_of, item_cost, Any, Goes, Stops, Meets, Reads}
use Rattle.complete.proofs.MeetsBinds.{answers, answers-more, answers-stop, yes-so, fits, next, turn_more, turn-stop}
use Rattle.complete.proofs.MeetsSteps.{before-none, eat-yes, eols-meet, expects, lines, here, not-here, eats, eats-not, adds}

-- an item is told from the end of its list and from a last item by its first token
pub record Parted (text : List ℕ) (x y : Sym) (end last : ℕ) : Type 0 where
  pub no_end : {p q : Place} → Derives text x p q → Not end p
  pub no_last : {p q : Place} → Derives text x p q → Not last p
  pub lastly : {p q : Place} → Derives text y p q → Here last p
  pub differ : eqb last end ≡ false

-- the same where there is no last item
pub record Unlasted (text : List ℕ) (x y : Sym) (end : ℕ) : Type 0 where
  pub no_end : {p q : Place} → Derives text x p q → Not end p
  pub none : {p q : Place} → Derives text y p q → ⊥

module _ {e : Sheet} {d : ℕ} {x : Sym} (end : ℕ) (item : Rule ℕ) (unlike-comma : eqb kind.Comma end ≡ false) (items : Reads e d x item) where
  -- an item that ends the list, and one with a comma behind it
  item-stops : {p q r s : Place} (D : Derives e.text x p q) (E : Derives e.text Eols q r) → Tok end r s → (i : Row) → Meets e d p s (item_cost D ⊕ (reading (cost E) ⊕ reading (taken r))) (Stops Any) (one_item e item end i)
  unfolding one_item after_item
  item-stops D E t i = next (items.meets D) (λ link _. adds _ _ (λ all. next (eols-meet E) (λ _ _. before-none (eat-yes end t) (λ b f. yes-so _ f answers-stop))))

  item-goes : {p q r s t : Place} (D : Derives e.text x p q) (E : Derives e.text Eols q r) → Tok kind.Comma r s → (F : Derives e.text Eols s t) → (i : Row)
      → Meets e d p t (item_cost D ⊕ (reading (cost E) ⊕ (reading (taken r) ⊕ reading (cost F)))) (Goes Any) (one_item e item end i)
  unfolding one_item after_item
  item-goes D E t F i = next (items.meets D) (λ link _. adds _ _ (λ all. lines E (eats-not _ (elsewhere end unlike-comma (at-token t)) (expects t (before-none (eols-meet F) (λ _ _. answers-more))))))

  -- parse_items_until_with_last
  module _ {y : Sym} (last_kind : ℕ) (last : Row → Rule Row) (takes : Takes e (item_turn e item last_kind last end)) (lasts : (i : Row) → Reads e d y (last i)) (parted : Parted e.text x y end last_kind) where
    rows : {p q : Place} (D : Derives e.text (Items x y end) p q) (i : Row) → Meets e d p q (cost_of D) Any (iterate e (item_turn e item last_kind last end) i)
    unfolding item_turn last_item after_last costs records need
    rows (items-end t) i = turn-stop _ _ (fits (omega arith) (omega arith) (omega arith) (eats _ t answers-stop))
    rows (items-last D E t) i = turn-stop _ _ (fits (omega arith) (omega arith) (omega arith) (eats-not _ (elsewhere end parted.differ (parted.lastly D)) (here _ (parted.lastly D)
        (before-none (next ((lasts i).meets D) (λ j _. lines E (expects t answers))) (λ j _. answers-stop)))))
    rows (items-final D E t) i = turn-stop _ _ (fits (omega arith) (omega arith) (omega arith) (eats-not _ (parted.no_end D) (not-here _ (parted.no_last D) (item-stops D E t i))))
    rows (items-comma D E t F G) i = fits (omega arith) (omega arith) (omega arith) (turn_more takes (eats-not _ (parted.no_end D) (not-here _ (parted.no_last D) (item-goes D E t F i))) (λ j _. rows G j))

    pub items-meet : {p q : Place} (D : Derives e.text (Until x y end) p q) (kids : Kids) → Meets e d p q (cost_of D) Any (items_until_with_last e item last_kind last end kids)
    unfolding items_until_with_last costs records need
    items-meet (until-of E D) kids = fits (omega arith) (omega arith) (omega arith) (lines E (rows D (so kids)))

  -- parse_items_until: the same without a last item
  module _ {y : Sym} (takes : Takes e (until_turn e item end)) (unlasted : Unlasted e.text x y end) where
    plain : {p q : Place} (D : Derives e.text (Items x y end) p q) (i : Row) → Meets e d p q (cost_of D) Any (iterate e (until_turn e item end) i)
    unfolding until_turn costs records need
    plain (items-end t) i = turn-stop _ _ (fits (omega arith) (omega arith) (omega arith) (eats _ t answers-stop))
    plain (items-last D E t) i = absurd (unlasted.none D)
    plain (items-final D E t) i = turn-stop _ _ (fits (omega arith) (omega arith) (omega arith) (eats-not _ (unlasted.no_end D) (item-stops D E t i)))
    plain (items-comma D E t F G) i = fits (omega arith) (omega arith) (omega arith) (turn_more takes (eats-not _ (unlasted.no_end D) (item-goes D E t F i)) (λ j _. plain G j))

    pub until-meets : {p q : Place} (D : Derives e.text (Until x y end) p q) (kids : Kids) → Meets e d p q (cost_of D) Any (items_until e item end kids)
    unfolding items_until costs records need
    until-meets (until-of E D) kids = fits (omega arith) (omega arith) (omega arith) (lines E (plain D (so kids)))
