-- What literals, names and lists of items keep, and that each turn of a list takes a token.
use Rattle.std.specs.Prelude.{Some, None}
use mathlib.Core.Path.{refl}
use mathlib.Core.Bool.{Bool, true, false}
use Prim.Native.Nat.{ℕ, zero, suc}
use Rattle.kinds.specs.Number as kind
use Rattle.cursor.specs.declared.Kids.{Kids}
use Rattle.cursor.specs.declared.Span.{Span}
use Rattle.cursor.specs.Sheet.{Sheet, kind_at, range_at, Ranged}
use Rattle.cursor.specs.Rule.{Rule, ◌>>=◌, ◌>>◌, give, if_so, more, stop}
use Rattle.cursor.specs.Tokens.{eat_eol}
use Rattle.cursor.specs.Checks.{check, expect}
use Rattle.cursor.specs.Records.{no_kids}
use Rattle.cursor.proofs.Ends.{ill, well}
use Rattle.cursor.proofs.Loops.{Takes}
use Rattle.cursor.proofs.Keeps.{Mark, Keeps, Plain, Nexts, ground, went_refl, gives, ifs, binds, thens, loops}
use Rattle.cursor.proofs.Kept.{bump-keeps, check-keeps, eat-keeps, expect-keeps, unexpected-keeps, eat-eol-keeps, append-keeps, add-keeps, Mine, nothing, Fresh, RowFor, fresh-mine, ground-mine}
use Rattle.cursor.proofs.Spends.{Spends, Further, takes, spares, first-spends, then-spends}
use Rattle.cursor.proofs.Spent.{expect-spends}
use Rattle.types.specs.declared.items.Items.{Items}
use Rattle.types.specs.declared.lits.Literal.{Literal}
use Rattle.types.specs.declared.lits.Literal.TheVariants as literals
use Rattle.types.specs.Lits.{literal, lit_from, lit_at, lit, ident_at, ident}
use Rattle.types.specs.Items.{start, close, pair, add_some, so, after_item, one_item, after_last, last_item, item_turn, items_until_with_last}

-- a row of items whose last child may be linked on
abbrev pub ItemsFor : Mark → Items → Type 0
ItemsFor m i = RowFor m i.kids

module _ {m : Mark} (e : Sheet) where
  pub start-keeps : Keeps m Plain (start e)
  unfolding start
  start-keeps = record { ends = λ s w h. well (went_refl m s w, tt) }

  pub close-keeps : (k from one two flags first : ℕ) → Keeps m (Fresh m) (close k from one two flags first)
  unfolding close
  close-keeps k from one two flags first = record { ends = λ s w h. (append-keeps _ first).ends s w h }

  pub pair_keeps : (k from a b : ℕ) → Fresh m a → Fresh m b → Keeps m (Fresh m) (pair k from a b)
  unfolding pair
  pair_keeps k from a b p q = binds (add-keeps no_kids a nothing (fresh-mine a p)) (λ one r. binds (add-keeps one b r (fresh-mine b q)) (λ two _. close-keeps k from 0 0 0 two.first))

  pub add-some-keeps : (kids : Kids) (link : ℕ) → RowFor m kids → Mine m link → Keeps m (RowFor m) (add_some kids link)
  unfolding add_some
  add-some-keeps kids zero p q = gives p
  add-some-keeps kids (suc i) p q = add-keeps kids (suc i) p q

  lit-from-keeps : (r : Span) (l : Literal) → Keeps m (Fresh m) (lit_from e r l)
  unfolding lit_from
  lit-from-keeps r (literals.Value l) = thens (bump-keeps e) (append-keeps l 0)
  lit-from-keeps r (literals.Faulty n) = record { ends = λ s w h. ill (went_refl m s w) }
  lit-from-keeps r literals.Nothing = unexpected-keeps e

  lit-at-keeps : (k : ℕ) (r : Ranged) → Keeps m (Fresh m) (lit_at e k r)
  unfolding lit_at
  lit-at-keeps k (Some r) = lit-from-keeps r (literal e.text k r)
  lit-at-keeps k None = unexpected-keeps e

  pub lit-keeps : Keeps m (Fresh m) (lit e)
  unfolding lit
  lit-keeps = record { ends = λ s w h. (lit-at-keeps (kind_at e.tokens s.at) (range_at e.tokens s.at)).ends s w h }

  ident-at-keeps : (r : Ranged) → Keeps m (Fresh m) (ident_at e r)
  unfolding ident_at
  ident-at-keeps (Some r) = thens (expect-keeps e kind.Ident) (append-keeps _ 0)
  ident-at-keeps None = unexpected-keeps e

  pub ident-keeps : Keeps m (Fresh m) (ident e)
  unfolding ident
  ident-keeps = record { ends = λ s w h. (ident-at-keeps (range_at e.tokens s.at)).ends s w h }

  -- lists
  pub after-item-keeps : (end : ℕ) (kids : Kids) (r : ℕ) → RowFor m kids → Mine m r → Keeps m (Nexts (ItemsFor m)) (after_item e end kids r)
  unfolding after_item
  after-item-keeps end kids r p q =
      binds (add-keeps kids r p q) (λ longer h. thens (eat-eol-keeps e) (binds (eat-keeps e end) (λ b _. ifs b (gives h) (thens (expect-keeps e kind.Comma) (thens (eat-eol-keeps e) (gives h))))))

  pub after-last-keeps : (end : ℕ) (i : Items) → ItemsFor m i → Keeps m (ItemsFor m) (after_last e end i)
  unfolding after_last
  after-last-keeps end i h = thens (eat-eol-keeps e) (thens (expect-keeps e end) (gives h))

  module _ (item : Rule ℕ) (last_kind : ℕ) (last : Items → Rule Items) (end : ℕ) (keeps : Keeps m (Fresh m) item) (keeps_last : (i : Items) → ItemsFor m i → Keeps m (ItemsFor m) (last i)) where
    pub last-item-keeps : (i : Items) → ItemsFor m i → Keeps m (ItemsFor m) (last_item e last end i)
    unfolding last_item
    last-item-keeps i h = binds (keeps_last i h) (λ j g. after-last-keeps end j g)

    pub turn-keeps : (i : Items) → ItemsFor m i → Keeps m (Nexts (ItemsFor m)) (item_turn e item last_kind last end i)
    unfolding item_turn one_item
    turn-keeps i h =
        binds (eat-keeps e end) (λ b _. ifs b (gives h) (binds (check-keeps e last_kind) (λ c _. ifs c
        (binds (last-item-keeps i h) (λ j g. gives g))
        (binds keeps (λ r f. after-item-keeps end i.kids r h (fresh-mine r f))))))

    pub items_keep : (kids : Kids) → RowFor m kids → Keeps m (ItemsFor m) (items_until_with_last e item last_kind last end kids)
    unfolding items_until_with_last
    items_keep kids h = thens (eat-eol-keeps e) (loops turn-keeps e h)

-- each turn of a list that goes on takes a comma
module _ (e : Sheet) where
  pub after-item-spends : (end : ℕ) (kids : Kids) (r : ℕ) → Spends e Further (after_item e end kids r)
  unfolding after_item
  after-item-spends end kids r =
      then-spends (add-keeps kids r (ground-mine _) (ground-mine r)) (λ longer. then-spends (eat-eol-keeps e) (λ _. then-spends (eat-keeps e end) (λ b. by longer b)))
    where
      by : (longer : Kids) (b : Bool) → Spends e Further (if_so (give (stop (so longer))) (expect e kind.Comma >> (eat_eol e >> give (more (so longer)))) b)
      by longer true = spares (λ x. x)
      by longer false = first-spends (expect-spends kind.Comma refl) (λ _. thens (eat-eol-keeps e) (gives tt))

  module _ (item : Rule ℕ) (last_kind : ℕ) (last : Items → Rule Items) (end : ℕ) (keeps : Keeps ground Plain item) (keeps_last : (i : Items) → Keeps ground Plain (last i)) where
    last-plain : (i : Items) → Keeps ground Plain (last_item e last end i)
    unfolding last_item after_last
    last-plain i = binds (keeps_last i) (λ j _. thens (eat-eol-keeps e) (thens (expect-keeps e end) (gives tt)))

    one-spends : (i : Items) → Spends e Further (one_item e item end i)
    unfolding one_item
    one-spends i = then-spends keeps (λ r. after-item-spends end i.kids r)

    ended-spends : (i : Items) (c : Bool) → Spends e Further (if_so (last_item e last end i >>= (λ j. give (stop j))) (one_item e item end i) c)
    ended-spends i true = then-spends (last-plain i) (λ j. spares (λ x. x))
    ended-spends i false = one-spends i

    begun-spends : (i : Items) (b : Bool) → Spends e Further (if_so (give (stop i)) (check e last_kind >>= (λ c. if_so (last_item e last end i >>= (λ j. give (stop j))) (one_item e item end i) c)) b)
    begun-spends i true = spares (λ x. x)
    begun-spends i false = then-spends (check-keeps e last_kind) (ended-spends i)

    pub items-take : Takes e (item_turn e item last_kind last end)
    unfolding item_turn
    items-take = takes (λ i. then-spends (eat-keeps e end) (begun-spends i))
