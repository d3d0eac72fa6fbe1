-- Each way through the rules on patterns.
use Rattle.std.specs.Prelude.{Option, Some, None}
use mathlib.Core.Path.{◌≡◌, refl, sym}
use mathlib.Core.Bool.{Bool, false}
use Prim.Native.Nat.{ℕ, zero, suc, ◌-◌}
use native.Mathlib.Numerals.{sub-one}
use Rattle.kinds.specs.Number as kind
use Rattle.cursor.specs.declared.State.{State}
use Rattle.cursor.specs.declared.Kids.{Kids}
use Rattle.cursor.specs.declared.Span.{Span}
use Rattle.cursor.specs.Sheet.{Sheet, range_at}
use Rattle.cursor.specs.Node as node
use Rattle.cursor.specs.Rule.{World, Stop, done, failed, refused, Rule, iterate}
use Rattle.cursor.specs.Tokens.{start_of, bump, eat_eol}
use Rattle.cursor.specs.Checks.{expect, pick}
use Rattle.cursor.specs.Records.{no_kids, flagged}
use Rattle.types.specs.declared.items.Items.{Items}
use Rattle.types.specs.Lits.{lit, ident}
use Rattle.types.specs.Items.{close, pair, is_ended, so, after_last, last_item, item_turn, items_until_with_last}
use Rattle.types.specs.declared.patterns.PatternRule.{PatternRule}
use Rattle.types.specs.declared.patterns.PatternRule.TheVariants as rules
use Rattle.types.specs.ItemRules.{pattern_rule}
use Rattle.types.specs.Patterns.{span_of, pattern_end, pattern_last, table_pattern_pair, pattern_item, pattern_items, pattern_ended, pattern_row, patterns}
use Rattle.types.proofs.Placed.{pattern_chain, pattern_by, pattern-placed}
use Rattle.types.proofs.TypePaths.{starts}

-- how a list of each item rule ends
pub end-pairs : {r : PatternRule} → r ≡ rules.Pairs → kind.CloseBrace ≡ pattern_end (pattern_rule r)
unfolding pattern_end
end-pairs p = rw p

pub end-patterns : {r : PatternRule} → r ≡ rules.Patterns → kind.CloseBracket ≡ pattern_end (pattern_rule r)
unfolding pattern_end
end-patterns p = rw p

-- a range that is told apart, or its empty stand-in
pub span-at : {g : Option Span} {r : Span} → g ≡ Some r → r ≡ span_of g
span-at p = sym (rw p)

pub span-nowhere : {g : Option Span} → g ≡ None → record { start = 0; end = 0 } ≡ span_of g
span-nowhere p = sym (rw p)

module _ (e : Sheet) (k : ℕ) (kids : Kids) (s : State) (w : World) where
  pub ended-spent : {x : Stop} → bump e s w ≡ failed x → pattern_ended e k kids s w ≡ failed x
  unfolding pattern_ended last_item pattern_last
  ended-spent p = rw p

  pub ended-on : {r : Span} {end : ℕ} {s1 : State} {w1 : World} → bump e s w ≡ done s1 w1 tt → r ≡ span_of (range_at e.tokens s.at) → end ≡ pattern_end k → pattern_ended e k kids s w ≡ after_last e end (record { kids = kids; ended = Some r }) s1 w1
  unfolding pattern_ended last_item pattern_last
  ended-on p q r = rw p (rw (q, r))

-- the last item and the end, whatever name the end goes by
pub ended_is : (e : Sheet) (k : ℕ) (kids : Kids) (s : State) (w : World) {end : ℕ} → end ≡ pattern_end k → pattern_ended e k kids s w ≡ last_item e (pattern_last e) end (so kids) s w
unfolding pattern_ended
ended_is e k kids s w q = rw q

module _ (e : Sheet) (inner : Rule ℕ) (s : State) (w : World) {from : ℕ} (f : from ≡ start_of (range_at e.tokens s.at)) where
  pub pair-failed : {x : Stop} → lit e s w ≡ failed x → table_pattern_pair e inner s w ≡ failed x
  unfolding table_pattern_pair
  pair-failed p = rw (starts e s w f) (rw p)

  module _ {key : ℕ} {s1 : State} {w1 : World} (p : lit e s w ≡ done s1 w1 key) where
    pub pair-open : {x : Stop} → expect e kind.Colon s1 w1 ≡ failed x → table_pattern_pair e inner s w ≡ failed x
    unfolding table_pattern_pair
    pair-open q = rw (starts e s w f) (rw p (rw q))

    module _ {s2 : State} {w2 : World} (q : expect e kind.Colon s1 w1 ≡ done s2 w2 tt) where
      pub pair-lost : {x : Stop} → inner s2 w2 ≡ failed x → table_pattern_pair e inner s w ≡ failed x
      unfolding table_pattern_pair
      pair-lost r = rw (starts e s w f) (rw p (rw q (rw r)))

      pub pair-on : {v : ℕ} {s3 : State} {w3 : World} → inner s2 w2 ≡ done s3 w3 v → table_pattern_pair e inner s w ≡ pair node.TablePatternPair from key v s3 w3
      unfolding table_pattern_pair
      pair-on r = rw (starts e s w f) (rw p (rw q (rw r)))

module _ (e : Sheet) (inner : Rule ℕ) where
  module _ {r : PatternRule} (s : State) (w : World) where
    pub item-pair : r ≡ rules.Pairs → pattern_item e inner (pattern_rule r) s w ≡ table_pattern_pair e inner s w
    unfolding pattern_item
    item-pair p = rw p

    pub item-pattern : r ≡ rules.Patterns → pattern_item e inner (pattern_rule r) s w ≡ inner s w
    unfolding pattern_item
    item-pattern p = rw p

  -- a list begins
  module _ (k : ℕ) (kids : Kids) (s : State) (w : World) where
    pub items-spent : {x : Stop} → eat_eol e s w ≡ failed x → pattern_items e inner k kids s w ≡ failed x
    unfolding pattern_items items_until_with_last
    items-spent p = rw p

    pub items-begin : {end : ℕ} {s1 : State} {w1 : World} → end ≡ pattern_end k → eat_eol e s w ≡ done s1 w1 tt → pattern_items e inner k kids s w ≡ iterate e (item_turn e (pattern_item e inner k) kind.Ellipsis (pattern_last e) end) (so kids) s1 w1
    unfolding pattern_items items_until_with_last
    items-begin q p = rw p (rw q)

  -- a table or a list pattern
  module _ (from k n : ℕ) (s : State) (w : World) where
    pub row-spent : {x : Stop} → bump e s w ≡ failed x → pattern_row e inner from k n s w ≡ failed x
    unfolding pattern_row
    row-spent p = rw p

    module _ {s1 : State} {w1 : World} (p : bump e s w ≡ done s1 w1 tt) where
      pub row-failed : {x : Stop} → pattern_items e inner k no_kids s1 w1 ≡ failed x → pattern_row e inner from k n s w ≡ failed x
      unfolding pattern_row
      row-failed q = rw p (rw q)

      pub row_on : {i : Items} {r : Span} {b : Bool} {flags : ℕ} {s2 : State} {w2 : World} → pattern_items e inner k no_kids s1 w1 ≡ done s2 w2 i → r ≡ span_of i.ended → b ≡ is_ended i.ended → flags ≡ flagged i.kids.count 0 b false → pattern_row e inner from k n s w ≡ close n from r.start r.end flags i.kids.first s2 w2
      unfolding pattern_row
      row_on q r b h = rw p (rw (q, h, b, r))

  pub by-ident : (from k : ℕ) (s : State) (w : World) → k ≡ 0 → pattern_by e inner from k s w ≡ ident e s w
  unfolding pattern_by
  by-ident from k s w p = rw p

  pub by-table : (from k : ℕ) (s : State) (w : World) → k ≡ 1 → pattern_by e inner from k s w ≡ pattern_row e inner from 0 node.PatternTable s w
  unfolding pattern_by
  by-table from k s w p = rw p

  pub by-list : (from k : ℕ) (s : State) (w : World) → k ≡ 2 → pattern_by e inner from k s w ≡ pattern_row e inner from 1 node.PatternList s w
  unfolding pattern_by
  by-list from k s w p = rw p

  pub by-lit : (from k : ℕ) (s : State) (w : World) → (k ≡ 0 → ⊥) → (k ≡ 1 → ⊥) → (k ≡ 2 → ⊥) → pattern_by e inner from k s w ≡ lit e s w
  unfolding pattern_by
  by-lit from zero s w p q r = absurd (p refl)
  by-lit from (suc zero) s w p q r = absurd (q refl)
  by-lit from (suc (suc zero)) s w p q r = absurd (r refl)
  by-lit from (suc (suc (suc k))) s w p q r = refl

module _ (e : Sheet) (s : State) (w : World) where
  pub patterns-none : (d : ℕ) → d ≡ 0 → patterns e d s w ≡ failed (refused 9)
  unfolding patterns
  patterns-none d p = rw (p, patterns)

  module _ {from : ℕ} (f : from ≡ start_of (range_at e.tokens s.at)) where
    pub patterns-full : (d : ℕ) {x : Stop} → (d ≡ 0 → ⊥) → pick e (pattern_chain e) s w ≡ failed x → patterns e d s w ≡ failed x
    unfolding patterns
    patterns-full zero n p = absurd (n refl)
    patterns-full (suc d) n p = rw (pattern-placed e (patterns e d)) (rw (starts e s w f) (rw p))

    pub patterns-on : (d : ℕ) {which : ℕ} {s1 : State} {w1 : World} → (d ≡ 0 → ⊥) → pick e (pattern_chain e) s w ≡ done s1 w1 which → patterns e d s w ≡ pattern_by e (patterns e (d - 1)) from which s1 w1
    unfolding patterns
    patterns-on zero n p = absurd (n refl)
    patterns-on (suc d) n p = rw (pattern-placed e (patterns e d)) (rw (starts e s w f) (rw p (rw sub-one)))
