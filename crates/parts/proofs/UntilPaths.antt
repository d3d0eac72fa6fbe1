-- Each way through a list of items up to its end, what the list keeps, and that each turn that goes on takes a comma. The item rule and the end
-- are whatever the list has: items of an import, arguments, elements, properties.
use mathlib.Core.Path.{◌≡◌}
use mathlib.Core.Bool.{Bool, true, false}
use Prim.Native.Nat.{ℕ}
use Rattle.cursor.specs.declared.State.{State}
use Rattle.cursor.specs.declared.Kids.{Kids}
use Rattle.cursor.specs.Sheet.{Sheet}
use Rattle.cursor.specs.Rule.{World, Stop, done, failed, Rule, ◌>>=◌, give, if_so, stop, iterate}
use Rattle.cursor.specs.Tokens.{eat_eol}
use Rattle.cursor.specs.Checks.{eat}
use Rattle.types.specs.declared.items.Items.{Items}
use Rattle.types.specs.Items.{so, after_item, one_item}
use Rattle.cursor.proofs.Loops.{Takes}
use Rattle.cursor.proofs.Keeps.{Mark, Keeps, Plain, Nexts, ground, gives, ifs, binds, thens, loops}
use Rattle.cursor.proofs.Kept.{eat-keeps, eat-eol-keeps, Fresh, RowFor, fresh-mine}
use Rattle.cursor.proofs.Spends.{Spends, Further, takes, spares, then-spends}
use Rattle.types.proofs.ItemKeeps.{ItemsFor, after-item-keeps, after-item-spends}
use Rattle.parts.specs.Until.{until_turn, items_until}

module _ (e : Sheet) (item : Rule ℕ) (end : ℕ) where
  module _ (kids : Kids) (s : State) (w : World) where
    pub until-spent : {x : Stop} → eat_eol e s w ≡ failed x → items_until e item end kids s w ≡ failed x
    unfolding items_until
    until-spent p = rw p

    pub until-on : {s1 : State} {w1 : World} → eat_eol e s w ≡ done s1 w1 tt → items_until e item end kids s w ≡ iterate e (until_turn e item end) (so kids) s1 w1
    unfolding items_until
    until-on p = rw p

  module _ (i : Items) (s : State) (w : World) where
    pub until-full : {x : Stop} → eat e end s w ≡ failed x → until_turn e item end i s w ≡ failed x
    unfolding until_turn
    until-full p = rw p

    pub until-ended : {s1 : State} {w1 : World} → eat e end s w ≡ done s1 w1 true → until_turn e item end i s w ≡ done s1 w1 (stop i)
    unfolding until_turn
    until-ended p = rw p

    module _ {s1 : State} {w1 : World} (p : eat e end s w ≡ done s1 w1 false) where
      pub until-failed : {x : Stop} → item s1 w1 ≡ failed x → until_turn e item end i s w ≡ failed x
      unfolding until_turn one_item
      until-failed q = rw p (rw q)

      pub until-item : {r : ℕ} {s2 : State} {w2 : World} → item s1 w1 ≡ done s2 w2 r → until_turn e item end i s w ≡ after_item e end i.kids r s2 w2
      unfolding until_turn one_item
      until-item q = rw p (rw q)

-- what a list keeps
module _ {m : Mark} (e : Sheet) (item : Rule ℕ) (end : ℕ) (keeps : Keeps m (Fresh m) item) where
  until-turn-keeps : (i : Items) → ItemsFor m i → Keeps m (Nexts (ItemsFor m)) (until_turn e item end i)
  unfolding until_turn one_item
  until-turn-keeps i h = binds (eat-keeps e end) (λ b _. ifs b (gives h) (binds keeps (λ r f. after-item-keeps e end i.kids r h (fresh-mine r f))))

  pub until-keeps : (kids : Kids) → RowFor m kids → Keeps m (ItemsFor m) (items_until e item end kids)
  unfolding items_until
  until-keeps kids h = thens (eat-eol-keeps e) (loops until-turn-keeps e h)

-- each turn that goes on takes a comma
module _ (e : Sheet) (item : Rule ℕ) (end : ℕ) (keeps : Keeps ground Plain item) where
  until-spends : (i : Items) → Spends e Further (until_turn e item end i)
  unfolding until_turn one_item
  until-spends i = then-spends (eat-keeps e end) (λ b. by b)
    where
      by : (b : Bool) → Spends e Further (if_so (give (stop i)) (item >>= (λ r. after_item e end i.kids r)) b)
      by true = spares (λ x. x)
      by false = then-spends keeps (λ r. after-item-spends e end i.kids r)

  pub until-takes : Takes e (until_turn e item end)
  until-takes = takes until-spends
