-- The rules on literals, names and lists of items are blind to what the lent buffers held.
use Rattle.std.specs.Prelude.{Some, None}
use Prim.Native.Nat.{ℕ, zero, suc}
use Rattle.kinds.specs.Number as kind
use Rattle.cursor.specs.declared.Kids.{Kids}
use Rattle.cursor.specs.declared.Span.{Span}
use Rattle.cursor.specs.Sheet.{Sheet, kind_at, range_at, Ranged}
use Rattle.cursor.specs.Rule.{Rule}
use Rattle.cursor.specs.Records.{no_kids}
use Rattle.types.specs.declared.items.Items.{Items}
use Rattle.types.specs.declared.lits.Literal.{Literal}
use Rattle.types.specs.declared.lits.Literal.TheVariants as literals
use Rattle.types.specs.Lits.{literal, lit_from, lit_at, lit, ident_at, ident}
use Rattle.types.specs.Items.{start, close, pair, add_some, so, after_item, one_item, after_last, last_item, item_turn, items_until_with_last}
use Rattle.blind.proofs.Blind.{well, ill, Blind, gives, ifs, binds, thens, loops}
use Rattle.blind.proofs.Cursor.{bump-blind, check-blind, eat-blind, unexpected-blind, expect-blind, eat-eol-blind, append-blind, add-blind}

pub close-blind : (k from one two flags first : ℕ) → Blind (close k from one two flags first)
unfolding close
close-blind k from one two flags first = record { ends = λ m s w v h t. (append-blind _ first).ends m s w v h t }

pub pair-blind : (k from a b : ℕ) → Blind (pair k from a b)
unfolding pair
pair-blind k from a b = binds (add-blind no_kids a) (λ one. binds (add-blind one b) (λ two. close-blind k from 0 0 0 two.first))

pub add-some-blind : (kids : Kids) (link : ℕ) → Blind (add_some kids link)
unfolding add_some
add-some-blind kids zero = gives
add-some-blind kids (suc i) = add-blind kids (suc i)

module _ (e : Sheet) where
  pub start-blind : Blind (start e)
  unfolding start
  start-blind = record { ends = λ m s w v h t. well h t }

  -- literals and names: which one it is hangs on the tokens and the text alone
  lit-from-blind : (r : Span) (l : Literal) → Blind (lit_from e r l)
  unfolding lit_from
  lit-from-blind r (literals.Value l) = thens (bump-blind e) (append-blind l 0)
  lit-from-blind r (literals.Faulty n) = record { ends = λ m s w v h t. ill h t }
  lit-from-blind r literals.Nothing = unexpected-blind e

  lit-at-blind : (k : ℕ) (r : Ranged) → Blind (lit_at e k r)
  unfolding lit_at
  lit-at-blind k (Some r) = lit-from-blind r (literal e.text k r)
  lit-at-blind k None = unexpected-blind e

  pub lit-blind : Blind (lit e)
  unfolding lit
  lit-blind = record { ends = λ m s w v h t. (lit-at-blind (kind_at e.tokens s.at) (range_at e.tokens s.at)).ends m s w v h t }

  ident-at-blind : (r : Ranged) → Blind (ident_at e r)
  unfolding ident_at
  ident-at-blind (Some r) = thens (expect-blind e kind.Ident) (append-blind _ 0)
  ident-at-blind None = unexpected-blind e

  pub ident-blind : Blind (ident e)
  unfolding ident
  ident-blind = record { ends = λ m s w v h t. (ident-at-blind (range_at e.tokens s.at)).ends m s w v h t }

  -- lists
  pub after-item-blind : (end : ℕ) (kids : Kids) (r : ℕ) → Blind (after_item e end kids r)
  unfolding after_item
  after-item-blind end kids r = binds (add-blind kids r) (λ longer. thens (eat-eol-blind e) (binds (eat-blind e end) (λ b. ifs b gives (thens (expect-blind e kind.Comma) (thens (eat-eol-blind e) gives)))))

  pub one-item-blind : (item : Rule ℕ) → Blind item → (end : ℕ) (i : Items) → Blind (one_item e item end i)
  unfolding one_item
  one-item-blind item x end i = binds x (λ r. after-item-blind end i.kids r)

  after-last-blind : (end : ℕ) (i : Items) → Blind (after_last e end i)
  unfolding after_last
  after-last-blind end i = thens (eat-eol-blind e) (thens (expect-blind e end) gives)

  pub last-item-blind : (last : Items → Rule Items) → ((i : Items) → Blind (last i)) → (end : ℕ) (i : Items) → Blind (last_item e last end i)
  unfolding last_item
  last-item-blind last y end i = binds (y i) (λ j. after-last-blind end j)

  item-turn-blind : (item : Rule ℕ) → Blind item → (last_kind : ℕ) (last : Items → Rule Items) → ((i : Items) → Blind (last i)) → (end : ℕ) (i : Items) → Blind (item_turn e item last_kind last end i)
  unfolding item_turn
  item-turn-blind item x last_kind last y end i =
      binds (eat-blind e end) (λ b. ifs b gives (binds (check-blind e last_kind) (λ c. ifs c (binds (last-item-blind last y end i) (λ j. gives)) (one-item-blind item x end i))))

  pub items-until-with-last-blind : (item : Rule ℕ) → Blind item → (last_kind : ℕ) (last : Items → Rule Items) → ((i : Items) → Blind (last i)) → (end : ℕ) (kids : Kids) → Blind (items_until_with_last e item last_kind last end kids)
  unfolding items_until_with_last
  items-until-with-last-blind item x last_kind last y end kids = thens (eat-eol-blind e) (loops (item-turn-blind item x last_kind last y end) e (so kids))
