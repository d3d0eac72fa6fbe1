-- The rules on types and patterns are blind to what the lent buffers held.
use mathlib.Core.Bool.{Bool, true, false}
use Prim.Native.Nat.{ℕ, zero, suc}
use lib.Dec.{eqb}
use Rattle.kinds.specs.Number as kind
use Rattle.cursor.specs.declared.Kids.{Kids}
use Rattle.cursor.specs.Node as node
use Rattle.cursor.specs.Sheet.{Sheet}
use Rattle.cursor.specs.Rule.{Out, Rule}
use Rattle.cursor.specs.Records.{no_kids}
use Rattle.cursor.proofs.Chosen.{all, ◌&◌}
use Rattle.cursor.proofs.Keeps.{Mark}
use Rattle.types.specs.declared.items.Items.{Items}
use Rattle.types.specs.Items.{so}
use Rattle.types.specs.ItemRules as items
use Rattle.types.specs.ItemRules.{by_rule}
use Rattle.types.specs.Types.{union_turn, union, type, returns, named, typed_ident, table_ty_pair, table_ty_other, type_item, type_last_kind, type_end, type_last_item, type_last, last_of, type_items, type_paren, type_table, type_function, type_cases, type_atom, atoms, params, closure_params}
use Rattle.types.specs.Patterns.{pattern_end, pattern_last, table_pattern_pair, pattern_item, pattern_items, pattern_ended, pattern_row, pattern_cases, pattern, patterns}
use Rattle.blind.proofs.Blind.{too-deep, Twins, Blind, gives, refuses, ifs, binds, thens, loops}
use Rattle.blind.proofs.Cursor.{bump-blind, check-blind, eat-blind, expect-blind, chooses, add-blind}
use Rattle.blind.proofs.Items.{start-blind, close-blind, pair-blind, add-some-blind, lit-blind, ident-blind, last-item-blind, items-until-with-last-blind}

-- what goes with an item rule, at both ends
picks : {A : Type 0} {m : Mark} (k : ℕ) {a b c d a1 b1 c1 d1 : Out A} → Twins m a a1 → Twins m b b1 → Twins m c c1 → Twins m d d1 → Twins m (by_rule k a b c d) (by_rule k a1 b1 c1 d1)
picks zero p q r t = p
picks (suc zero) p q r t = q
picks (suc (suc zero)) p q r t = r
picks (suc (suc (suc n))) p q r t = t

pub typed-ident-blind : (e : Sheet) (ty : Rule ℕ) → Blind ty → Blind (typed_ident e ty)
unfolding typed_ident
typed-ident-blind e ty x = binds (start-blind e) (λ from. binds (ident-blind e) (λ name. binds (eat-blind e kind.Colon) (λ c. ifs c (binds x (λ t. pair-blind node.TypedIdent from name t)) gives)))

module _ (e : Sheet) (atom : Rule ℕ) (x : Blind atom) where
  union-turn-blind : (kids : Kids) → Blind (union_turn e atom kids)
  unfolding union_turn
  union-turn-blind kids = binds (eat-blind e kind.VBar) (λ b. ifs b (binds x (λ t. binds (add-blind kids t) (λ longer. gives))) gives)

  union-blind : (from first : ℕ) → Blind (union e atom from first)
  unfolding union
  union-blind from first = binds (add-blind no_kids first) (λ kids. binds (loops union-turn-blind e kids) (λ all. close-blind node.Union from 0 0 _ all.first))

  pub type-blind : Blind (type e atom)
  unfolding type
  type-blind = binds (start-blind e) (λ from. binds x (λ first. binds (check-blind e kind.VBar) (λ b. ifs b (union-blind from first) gives)))

  pub returns-blind : Blind (returns e atom)
  unfolding returns
  returns-blind = binds (eat-blind e kind.Arrow) (λ b. ifs b type-blind gives)

  pub named-blind : (b : Bool) → Blind (named e atom b)
  unfolding named
  named-blind b = ifs b x type-blind

  table-ty-pair-blind : Blind (table_ty_pair e atom)
  unfolding table_ty_pair
  table-ty-pair-blind = binds (start-blind e) (λ from. binds (ident-blind e) (λ key. thens (expect-blind e kind.Colon) (binds type-blind (λ value. pair-blind node.TableTyPair from key value))))

  table-ty-other-blind : Blind (table_ty_other e atom)
  unfolding table_ty_other
  table-ty-other-blind =
      binds (start-blind e) (λ from. thens (expect-blind e kind.OpenBracket) (binds type-blind (λ key. thens (expect-blind e kind.CloseBracket) (thens (expect-blind e kind.Colon) (binds type-blind (λ value. pair-blind node.TableTyOther from key value))))))

  type-item-blind : (k : ℕ) → Blind (type_item e atom k)
  unfolding type_item
  type-item-blind k = record {
    ends = λ m s w v h t. picks k
        ((typed-ident-blind e (named e atom false) (named-blind false)).ends m s w v h t)
        ((typed-ident-blind e (named e atom true) (named-blind true)).ends m s w v h t)
        (table-ty-pair-blind.ends m s w v h t)
        (type-blind.ends m s w v h t);
  }

  type-last-item-blind : (k : ℕ) → Blind (type_last_item e atom k)
  unfolding type_last_item
  type-last-item-blind k = record { ends = λ m s w v h t. (ifs (eqb k items.TableTyPairs) table-ty-other-blind (thens (expect-blind e kind.Ellipsis) (type-item-blind k))).ends m s w v h t }

  type-last-blind : (k : ℕ) (i : Items) → Blind (type_last e atom k i)
  unfolding type_last
  type-last-blind k i = binds (type-last-item-blind k) (λ r. binds (add-blind i.kids r) (λ after. gives))

  pub last-of-blind : (k : ℕ) (kids : Kids) → Blind (last_of e atom k kids)
  unfolding last_of
  last-of-blind k kids = last-item-blind e (type_last e atom k) (type-last-blind k) (type_end k) (so kids)

  pub type-items-blind : (k : ℕ) (kids : Kids) → Blind (type_items e atom k kids)
  unfolding type_items
  type-items-blind k kids = items-until-with-last-blind e (type_item e atom k) (type-item-blind k) (type_last_kind k) (type_last e atom k) (type-last-blind k) (type_end k) kids

  type-paren-blind : (from : ℕ) → Blind (type_paren e atom from)
  unfolding type_paren
  type-paren-blind from = thens (bump-blind e) (binds type-blind (λ t. thens (expect-blind e kind.CloseParen) (binds (add-blind no_kids t) (λ kids. close-blind node.TyParen from 0 0 0 kids.first))))

  type-table-blind : (from : ℕ) → Blind (type_table e atom from)
  unfolding type_table
  type-table-blind from = thens (bump-blind e) (binds (type-items-blind items.TableTyPairs no_kids) (λ i. close-blind node.TyTable from 0 0 _ i.kids.first))

  type-function-blind : (from : ℕ) → Blind (type_function e atom from)
  unfolding type_function
  type-function-blind from = thens (bump-blind e) (binds (type-items-blind items.Types no_kids) (λ i. binds returns-blind (λ r. binds (add-some-blind i.kids r) (λ kids. close-blind node.TyFunction from 0 0 _ kids.first))))

  type-atom-blind : Blind (type_atom e atom)
  unfolding type_atom
  type-atom-blind = binds (start-blind e) (λ from. chooses e (type_cases e atom from) (type-paren-blind from & ident-blind e & type-table-blind from & type-function-blind from & all) (lit-blind e))

  pub params-blind : (kids : Kids) → Blind (params e atom kids)
  unfolding params
  params-blind kids = thens (expect-blind e kind.OpenParen) (type-items-blind items.TypedIdents kids)

  pub closure-params-blind : (kids : Kids) → Blind (closure_params e atom kids)
  unfolding closure_params
  closure-params-blind kids = thens (expect-blind e kind.VBar) (type-items-blind items.AtomTypedIdents kids)

pub atoms-blind : (e : Sheet) (d : ℕ) → Blind (atoms e d)
unfolding atoms
atoms-blind e zero = refuses too-deep
atoms-blind e (suc d) = type-atom-blind e (atoms e d) (atoms-blind e d)

-- patterns
module _ (e : Sheet) where
  pattern-last-blind : (i : Items) → Blind (pattern_last e i)
  unfolding pattern_last
  pattern-last-blind i = record { ends = λ m s w v h t. (thens (bump-blind e) gives).ends m s w v h t }

  pub pattern-ended-blind : (k : ℕ) (kids : Kids) → Blind (pattern_ended e k kids)
  unfolding pattern_ended
  pattern-ended-blind k kids = last-item-blind e (pattern_last e) pattern-last-blind (pattern_end k) (so kids)

  module _ (inner : Rule ℕ) (x : Blind inner) where
    table-pattern-pair-blind : Blind (table_pattern_pair e inner)
    unfolding table_pattern_pair
    table-pattern-pair-blind = binds (start-blind e) (λ from. binds (lit-blind e) (λ key. thens (expect-blind e kind.Colon) (binds x (λ value. pair-blind node.TablePatternPair from key value))))

    pattern-item-blind : (k : ℕ) → Blind (pattern_item e inner k)
    unfolding pattern_item
    pattern-item-blind zero = record { ends = λ m s w v h t. table-pattern-pair-blind.ends m s w v h t }
    pattern-item-blind (suc k) = record { ends = λ m s w v h t. x.ends m s w v h t }

    pattern-items-blind : (k : ℕ) (kids : Kids) → Blind (pattern_items e inner k kids)
    unfolding pattern_items
    pattern-items-blind k kids = items-until-with-last-blind e (pattern_item e inner k) (pattern-item-blind k) kind.Ellipsis (pattern_last e) pattern-last-blind (pattern_end k) kids

    pattern-row-blind : (from k n : ℕ) → Blind (pattern_row e inner from k n)
    unfolding pattern_row
    pattern-row-blind from k n = thens (bump-blind e) (binds (pattern-items-blind k no_kids) (λ i. close-blind n from _ _ _ i.kids.first))

    pattern-blind : Blind (pattern e inner)
    unfolding pattern
    pattern-blind =
        binds (start-blind e) (λ from. chooses e (pattern_cases e inner from) (ident-blind e & pattern-row-blind from items.Pairs node.PatternTable & pattern-row-blind from items.Patterns node.PatternList & all) (lit-blind e))

pub patterns-blind : (e : Sheet) (d : ℕ) → Blind (patterns e d)
unfolding patterns
patterns-blind e zero = refuses too-deep
patterns-blind e (suc d) = pattern-blind e (patterns e d) (patterns-blind e d)
