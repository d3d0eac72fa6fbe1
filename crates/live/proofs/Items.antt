-- What the rules on literals, names and lists of items add to the live list.
use Rattle.std.specs.Prelude.{Some, None}
use mathlib.Core.Path.{◌≡◌, refl}
use mathlib.Core.Bool.{true}
use Prim.Native.Nat.{ℕ, zero, suc}
use lib.Dec.{leb}
use Rattle.kinds.specs.Number as kind
use Rattle.cursor.specs.declared.Kids.{Kids}
use Rattle.cursor.specs.declared.Span.{Span}
use Rattle.cursor.specs.Sheet.{Sheet, kind_at, range_at, Ranged}
use Rattle.cursor.specs.Rule.{Rule}
use Rattle.cursor.specs.Records.{no_kids}
use Rattle.types.specs.declared.items.Items.{Items}
use Rattle.types.specs.declared.lits.Literal.{Literal}
use Rattle.types.specs.declared.lits.Literal.TheVariants as literals
use Rattle.types.specs.Lits.{literal, lit_from, lit_at, lit, ident_at, ident}
use Rattle.types.specs.Items.{start, close, pair, add_some, so, after_item, one_item, after_last, last_item, item_turn, items_until_with_last}
use Rattle.live.proofs.Live.{well, ill, same, Adds, Takes, Turns, adds, takes, fits, gives, ifs}
use Rattle.live.proofs.Together.{binds, onto, after, loops}
use Rattle.live.proofs.Cursor.{no_more, asks, bump-bounded, check-bounded, eat-bounded, unexpected-bounded, expect-bounded, eat-eol-bounded, append-bounded, add-bounded}

-- an item of a list, and its last one
abbrev pub Item : (e : Sheet) (N : ℕ) {A : Type 0} → Rule A → Type 0
Item e N r = Takes e N 20 32 42 112 r

pub as-item : {e : Sheet} {N : ℕ} {A : Type 0} {a m f j : ℕ} {r : Rule A} → Takes e N a m f j r → leb a 20 ≡ true → leb m 32 ≡ true → leb f 42 ≡ true → leb j 112 ≡ true → Item e N r
as-item x = takes x

module _ {e : Sheet} {N : ℕ} where
  pub close-bounded : (k from one two flags first : ℕ) → Adds e N 0 0 0 0 (close k from one two flags first)
  unfolding close
  close-bounded k from one two flags first = adds (record { ends = λ s w h g t. (append-bounded _ first).ends s w h g t }) refl refl refl refl

  pub pair-bounded : (k from a b : ℕ) → Adds e N 0 0 0 0 (pair k from a b)
  unfolding pair
  pair-bounded k from a b = adds (binds (add-bounded no_kids a) (λ one. binds (add-bounded one b) (λ two. close-bounded k from 0 0 0 two.first))) refl refl refl refl

  pub add-some-bounded : (kids : Kids) (link : ℕ) → Adds e N 0 0 0 0 (add_some kids link)
  unfolding add_some
  add-some-bounded kids zero = adds (gives) refl refl refl refl
  add-some-bounded kids (suc i) = adds (add-bounded kids (suc i)) refl refl refl refl

  pub start-bounded : Adds e N 0 0 0 0 (start e)
  unfolding start
  start-bounded = record { ends = λ s w h g t. well (h, same refl (no_more _ _)) }

  -- literals and names
  lit-from-bounded : (r : Span) (l : Literal) → Takes e N 0 0 0 0 (lit_from e r l)
  unfolding lit_from
  lit-from-bounded r (literals.Value l) = takes (after bump-bounded (λ _. append-bounded l 0)) refl refl refl refl
  lit-from-bounded r (literals.Faulty n) = record { ends = λ s w h g t. ill (h, same refl (no_more _ _)) }
  lit-from-bounded r literals.Nothing = takes (unexpected-bounded) refl refl refl refl

  lit-at-bounded : (k : ℕ) (r : Ranged) → Takes e N 0 0 0 0 (lit_at e k r)
  unfolding lit_at
  lit-at-bounded k (Some r) = takes (lit-from-bounded r (literal e.text k r)) refl refl refl refl
  lit-at-bounded k None = takes (unexpected-bounded) refl refl refl refl

  pub lit-bounded : Takes e N 0 0 0 0 (lit e)
  unfolding lit
  lit-bounded = takes (record { ends = λ s w h g t. (lit-at-bounded (kind_at e.tokens s.at) (range_at e.tokens s.at)).ends s w h g t }) refl refl refl refl

  ident-at-bounded : (r : Ranged) → Takes e N 1 0 0 0 (ident_at e r)
  unfolding ident_at
  ident-at-bounded (Some r) = takes (after (expect-bounded kind.Ident) (λ _. append-bounded _ 0)) refl refl refl refl
  ident-at-bounded None = takes (unexpected-bounded) refl refl refl refl

  pub ident-bounded : Takes e N 1 0 0 0 (ident e)
  unfolding ident
  ident-bounded = takes (record { ends = λ s w h g t. (ident-at-bounded (range_at e.tokens s.at)).ends s w h g t }) refl refl refl refl

  -- lists
  pub after-item-bounded : (end : ℕ) (kids : Kids) (r : ℕ) → Turns e N 2 0 2 2 2 (after_item e end kids r)
  unfolding after_item
  after-item-bounded end kids r = fits (binds (add-bounded kids r) (λ longer. binds eat-eol-bounded (λ _. asks (eat-bounded end) gives (after (expect-bounded kind.Comma) (λ _. binds eat-eol-bounded (λ _. gives)))))) refl refl refl refl refl

  after-last-bounded : (end : ℕ) (i : Items) → Takes e N 1 0 1 1 (after_last e end i)
  unfolding after_last
  after-last-bounded end i = takes (binds eat-eol-bounded (λ _. after (expect-bounded end) (λ _. gives))) refl refl refl refl

  module _ {item : Rule ℕ} (x : Item e N item) where
    pub one-item-bounded : (end : ℕ) (i : Items) → Turns e N 20 0 34 42 112 (one_item e item end i)
    unfolding one_item
    one-item-bounded end i = fits (onto x (λ r. after-item-bounded end i.kids r)) refl refl refl refl refl

  module _ {last : Items → Rule Items} (y : (i : Items) → Item e N (last i)) where
    pub last-item-bounded : (end : ℕ) (i : Items) → Takes e N 20 0 42 112 (last_item e last end i)
    unfolding last_item
    last-item-bounded end i = takes (onto (y i) (λ j. after-last-bounded end j)) refl refl refl refl

  module _ {item : Rule ℕ} (x : Item e N item) (last_kind : ℕ) {last : Items → Rule Items} (y : (i : Items) → Item e N (last i)) (end : ℕ) where
    item-turn-bounded : (i : Items) → Turns e N 22 0 34 42 112 (item_turn e item last_kind last end i)
    unfolding item_turn
    item-turn-bounded i = fits (asks (eat-bounded end) gives (binds (check-bounded last_kind) (λ c. ifs c (after (last-item-bounded y end i) (λ j. gives)) (one-item-bounded x end i)))) refl refl refl refl refl

    pub items-until-with-last-bounded : (kids : Kids) → Adds e N 22 34 42 112 (items_until_with_last e item last_kind last end kids)
    unfolding items_until_with_last
    items-until-with-last-bounded kids = adds (binds eat-eol-bounded (λ _. loops item-turn-bounded e (so kids))) refl refl refl refl
