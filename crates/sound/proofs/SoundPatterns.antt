-- Patterns, for every depth.
use Rattle.std.specs.Prelude.{Some}
use mathlib.Core.Path.{◌≡◌, refl, sym, ap}
use mathlib.Core.List.{List}
use mathlib.Core.Bool.{false}
use Prim.Native.Nat.{ℕ, zero, suc}
use Rattle.kinds.specs.Number as kind
use Rattle.cursor.specs.declared.Kids.{Kids}
use Rattle.cursor.specs.declared.Span.{Span}
use Rattle.cursor.specs.Node as node
use Rattle.cursor.specs.Sheet.{Sheet}
use Rattle.cursor.specs.Records.{no_kids, flagged}
use Rattle.cursor.specs.Tree.{none}
use Rattle.cursor.proofs.Laws.{join-none}
use Rattle.cursor.proofs.Grows.{begin, as_row}
use Rattle.types.specs.declared.items.Items.{Items as Row}
use Rattle.types.specs.Items.{is_ended}
use Rattle.types.specs.ItemRules as items
use Rattle.types.specs.Patterns.{pattern_end, pattern_last, table_pattern_pair, pattern_item, pattern_items, pattern_row, pattern_cases, pattern, patterns, span_of as range_of}
use Rattle.types.proofs.PatternKeeps.{pattern-items-take}
use Rattle.grammar.specs.Places.{Place, span_of, start_of, Here}
use Rattle.grammar.specs.Symbols.{Sym, Until, Dots, Lit, Ident, Pattern, PatternPair}
use Rattle.grammar.specs.Derives.{dots, pattern-name, pattern-table, pattern-list, pattern-literal, pattern-pair}
use Rattle.grammar.specs.Builders.{Shape, couple}
use Rattle.grammar.specs.Shape.{shape}
use Rattle.sound.proofs.Sound.{Spot, at, Claim, Seq, ◌▸◌, Gave, gave, Sound, gives, refuses, maps, reads, binds}
use Rattle.sound.proofs.SoundSteps.{Bumped, bumped, Took, took, Way, this-one, later-one, bump-sound, expect-sound, way, otherwise, chooses, span-place}
use Rattle.sound.proofs.SoundValues.{Value, value, closing, wrapped, relabel, retree, Started, started, labelled, Closed, Paired, paired, start-sound, close-sound, pair-sound, ident-sound, lit-sound}
use Rattle.sound.proofs.SoundItems.{Rowed, Listed, listed, Ended, ended_by, Given, given, list-flags, items-sound}

-- the `...` of a pattern, where one stands
pub dots-sound : (e : Sheet) (i : Row) → Sound e (Given kind.Ellipsis (Ended e.text Dots i)) (pattern_last e i)
unfolding pattern_last shape
dots-sound e i = record { ends = λ s w h. reads e (binds e (bump-sound e) (λ _. gives e)) h (λ v j c. go _ (span-place e s h) c) }
  where
    go : {p : Place} {n : ℕ} {xs : List ℕ} {v : Spot} {j : Row} (r : Span) → span_of p ≡ r → Seq Bumped (λ _. Gave (record { kids = i.kids; ended = Some r })) (at p n xs) v j → Given kind.Ellipsis (Ended e.text Dots i) (at p n xs) v j
    go r q (bumped a ▸ gave) = given (λ h. ended_by (dots (record { here = h.stands; next = a })) (λ lo c ts es k st. record { stack = retree (sym (join-none ts)) st; count = k; last = ap Some (sym q) }))

module _ (e : Sheet) (d : ℕ) (inner : Sound e (Value e.text Pattern) (patterns e d)) where
  pair_read : Sound e (Value e.text PatternPair) (table_pattern_pair e (patterns e d))
  unfolding table_pattern_pair shape
  pair_read = maps e (λ u v a c. go c) (binds e (start-sound e) (λ from. binds e (lit-sound e) (λ key. binds e (expect-sound e kind.Colon) (λ _. binds e inner (λ val. pair-sound e node.TablePatternPair from key val)))))
    where
      go : {u v : Spot} {a : ℕ} → Seq Started (λ from. Seq (Value e.text Lit) (λ key. Seq (Took kind.Colon) (λ _. Seq (Value e.text Pattern) (λ val. Paired node.TablePatternPair from key val)))) u v a → Value e.text PatternPair u v a
      go (started {p = p} ▸ value d s f ▸ took t ▸ value d2 s2 g ▸ paired {p = q} h) = value (pattern-pair d t d2) (λ i. couple node.TablePatternPair (start_of p) q (s i) (s2 i)) (λ es st. h _ _ _ _ _ _ es (g _ (as_row (f es st))))

  pairs-list : (kids : Kids) → Sound e (Listed e.text (Until PatternPair Dots kind.CloseBrace) kids) (pattern_items e (patterns e d) 0 kids)
  unfolding pattern_items pattern_item pattern_end
  pairs-list kids = items-sound e PatternPair Dots kind.CloseBrace _ _ _ (pattern-items-take e d 0 kind.CloseBrace) pair_read (dots-sound e) kids

  patterns-list : (kids : Kids) → Sound e (Listed e.text (Until Pattern Dots kind.CloseBracket) kids) (pattern_items e (patterns e d) 1 kids)
  unfolding pattern_items pattern_item pattern_end
  patterns-list kids = items-sound e Pattern Dots kind.CloseBracket _ _ _ (pattern-items-take e d 1 kind.CloseBracket) inner (dots-sound e) kids

  -- a table or a list pattern: what the rules claim, word by word
  abbrev RowOf : Sym → ℕ → ℕ → Claim ℕ
  RowOf z k from = Seq Bumped (λ _. Seq (Listed e.text z no_kids) (λ i. Closed k from (range_of i.ended).start (range_of i.ended).end (flagged i.kids.count 0 (is_ended i.ended) false) i.kids.first))

  table-sound : (from : ℕ) → Sound e (RowOf (Until PatternPair Dots kind.CloseBrace) node.PatternTable from) (pattern_row e (patterns e d) from items.Pairs node.PatternTable)
  unfolding pattern_row
  table-sound from = binds e (bump-sound e) (λ _. binds e (pairs-list no_kids) (λ i. close-sound e node.PatternTable from _ _ _ i.kids.first))

  row-sound : (from : ℕ) → Sound e (RowOf (Until Pattern Dots kind.CloseBracket) node.PatternList from) (pattern_row e (patterns e d) from items.Patterns node.PatternList)
  unfolding pattern_row
  row-sound from = binds e (bump-sound e) (λ _. binds e (patterns-list no_kids) (λ i. close-sound e node.PatternList from _ _ _ i.kids.first))

  -- the label of such a record, as the shape has it
  row_label : {ys : List ℕ} {m lo : ℕ} {i : Row} {f : Shape} {es : _} (k from : ℕ) (q : Place) → Rowed ys m lo i f es
      → labelled k from (range_of i.ended).start (range_of i.ended).end (flagged i.kids.count 0 (is_ended i.ended) false) q ≡ labelled k from (range_of f.last).start (range_of f.last).end (flagged f.count 0 (is_ended f.last) false) q
  row_label k from q r = λ j. labelled k from (range_of (r.last j)).start (range_of (r.last j)).end (list-flags false r j) q

  table-read : {p : Place} {n a : ℕ} {xs : List ℕ} {v : Spot} → Here kind.OpenBrace p → RowOf (Until PatternPair Dots kind.CloseBrace) node.PatternTable (start_of p) (at p n xs) v a → Value e.text Pattern (at p n xs) v a
  unfolding shape
  table-read {p} h (bumped q ▸ listed {q = r} d f ▸ c) = closing (Value e.text Pattern _) c (λ o.
      value (pattern-table (record { here = h.stands; next = q }) d) refl (λ es st. let g = f _ 0 none es refl (begin st) in relabel (row_label node.PatternTable (start_of p) r g) (wrapped _ g.stack o)))

  list_read : {p : Place} {n a : ℕ} {xs : List ℕ} {v : Spot} → Here kind.OpenBracket p → RowOf (Until Pattern Dots kind.CloseBracket) node.PatternList (start_of p) (at p n xs) v a → Value e.text Pattern (at p n xs) v a
  unfolding shape
  list_read {p} h (bumped q ▸ listed {q = r} d f ▸ c) = closing (Value e.text Pattern _) c (λ o.
      value (pattern-list (record { here = h.stands; next = q }) d) refl (λ es st. let g = f _ 0 none es refl (begin st) in relabel (row_label node.PatternList (start_of p) r g) (wrapped _ g.stack o)))

  pub pattern-sound : Sound e (Value e.text Pattern) (pattern e (patterns e d))
  unfolding pattern shape
  pattern-sound = maps e (λ u v a c. go c) (binds e (start-sound e) (λ from. chooses e (pattern_cases e (patterns e d) from) (way e (ident-sound e) (way e (table-sound from) (way e (row-sound from) (otherwise e (lit-sound e)))))))
    where
      named-read : {u v : Spot} {a : ℕ} → Value e.text Ident u v a → Value e.text Pattern u v a
      named-read (value d s f) = value (pattern-name d) s f

      literal-read : {u v : Spot} {a : ℕ} → Value e.text Lit u v a → Value e.text Pattern u v a
      literal-read (value d s f) = value (pattern-literal d) s f

      go : {u v : Spot} {a : ℕ} → Seq Started (λ from. Way kind.Ident (Value e.text Ident) (Way kind.OpenBrace (RowOf (Until PatternPair Dots kind.CloseBrace) node.PatternTable from)
          (Way kind.OpenBracket (RowOf (Until Pattern Dots kind.CloseBracket) node.PatternList from) (Value e.text Lit)))) u v a → Value e.text Pattern u v a
      go (started ▸ this-one h c) = named-read c
      go (started ▸ later-one _ (this-one h c)) = table-read h c
      go (started ▸ later-one _ (later-one _ (this-one h c))) = list_read h c
      go (started ▸ later-one _ (later-one _ (later-one _ c))) = literal-read c

-- parse_pattern, with so many levels left
pub patterns-sound : (e : Sheet) (d : ℕ) → Sound e (Value e.text Pattern) (patterns e d)
unfolding patterns
patterns-sound e zero = refuses e
patterns-sound e (suc d) = pattern-sound e d (patterns-sound e d)
