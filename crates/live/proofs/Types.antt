-- What the rules on types and patterns add to the live list.
use mathlib.Core.Path.{refl}
use mathlib.Core.Bool.{Bool, true, false}
use Prim.Native.Nat.{ℕ, zero, suc, ◌*◌, max}
use native.Mathlib.Omega.{arith}
use lib.Dec.{eqb}
use Rattle.kinds.specs.Number as kind
use Rattle.cursor.specs.declared.Kids.{Kids}
use Rattle.cursor.specs.Node as node
use Rattle.cursor.specs.Sheet.{Sheet}
use Rattle.cursor.specs.Rule.{Rule}
use Rattle.cursor.specs.Records.{no_kids}
use Rattle.types.specs.declared.items.Items.{Items}
use Rattle.types.specs.ItemRules as items
use Rattle.types.specs.ItemRules.{by_rule}
use Rattle.types.specs.Types.{union_turn, union, type, returns, named, typed_ident, table_ty_pair, table_ty_other, type_item, type_last_kind, type_end, type_last_item, type_last, type_items, type_paren, type_table, type_function, type_atom, atoms, params, closure_params}
use Rattle.types.specs.Patterns.{pattern_end, pattern_last, table_pattern_pair, pattern_item, pattern_items, pattern_row, pattern, patterns}
use Rattle.live.proofs.Live.{Bounded, Adds, Takes, Turns, eased, adds, takes, fits, passed, gives, stops, refuses, ifs, lifted}
use Rattle.live.proofs.Together.{binds, onto, after, loops}
use Rattle.live.proofs.Cursor.{asks, bump-bounded, check-bounded, eat-bounded, expect-bounded, otherwise, ◌&◌, chooses, add-bounded}
use Rattle.live.proofs.Items.{as-item, start-bounded, close-bounded, pair-bounded, add-some-bounded, lit-bounded, ident-bounded, items-until-with-last-bounded}

-- what goes with an item rule
picks : {e : Sheet} {N : ℕ} {A : Type 0} {φ : A → Bool} {a1 m1 b1 f1 j1 a2 m2 b2 f2 j2 a3 m3 b3 f3 j3 a4 m4 b4 f4 j4 : ℕ} {p q r t : Rule A} (k : ℕ) → Bounded e N φ a1 m1 b1 f1 j1 p → Bounded e N φ a2 m2 b2 f2 j2 q → Bounded e N φ a3 m3 b3 f3 j3 r → Bounded e N φ a4 m4 b4 f4 j4 t
    → Bounded e N φ (max (max a1 a2) (max a3 a4)) (max (max m1 m2) (max m3 m4)) (max (max b1 b2) (max b3 b4)) (max (max f1 f2) (max f3 f4)) (max (max j1 j2) (max j3 j4)) (λ s w. by_rule k (p s w) (q s w) (r s w) (t s w))
picks zero x y z u = eased x (omega arith) (omega arith) (omega arith) (omega arith) (omega arith)
picks (suc zero) x y z u = eased y (omega arith) (omega arith) (omega arith) (omega arith) (omega arith)
picks (suc (suc zero)) x y z u = eased z (omega arith) (omega arith) (omega arith) (omega arith) (omega arith)
picks (suc (suc (suc n))) x y z u = eased u (omega arith) (omega arith) (omega arith) (omega arith) (omega arith)

-- the numbers of the rules that use up a level, of types and of patterns
abbrev pub Atom : (e : Sheet) (N : ℕ) → Rule ℕ → Type 0
Atom e N r = Takes e N 5 24 40 112 r

abbrev pub Pattern : (e : Sheet) (N : ℕ) → Rule ℕ → Type 0
Pattern e N r = Takes e N 4 24 40 112 r

-- how much higher the base is with one level more
abbrev pub level : ℕ
level = 13

module _ {e : Sheet} {N : ℕ} where
  pub typed-ident-bounded : {ty : Rule ℕ} → Takes e N 5 26 40 112 ty → Takes e N 1 26 40 112 (typed_ident e ty)
  unfolding typed_ident
  typed-ident-bounded x = takes (binds start-bounded (λ from. after ident-bounded (λ name. asks (eat-bounded kind.Colon) (after x (λ t. pair-bounded node.TypedIdent from name t)) gives))) refl refl refl refl

  module _ {atom : Rule ℕ} (x : Atom e N atom) where
    union-turn-bounded : (kids : Kids) → Turns e N 1 24 24 40 112 (union_turn e atom kids)
    unfolding union_turn
    union-turn-bounded kids = fits (asks (eat-bounded kind.VBar) (after x (λ t. binds (add-bounded kids t) (λ longer. gives))) stops) refl refl refl refl refl

    union-bounded : (from first : ℕ) → Adds e N 1 25 40 112 (union e atom from first)
    unfolding union
    union-bounded from first = adds (binds (add-bounded no_kids first) (λ kids. binds (loops union-turn-bounded e kids) (λ all. close-bounded node.Union from 0 0 _ all.first))) refl refl refl refl

    pub type-bounded : Takes e N 5 26 40 112 (type e atom)
    unfolding type
    type-bounded = takes (binds start-bounded (λ from. after x (λ first. binds (check-bounded kind.VBar) (λ b. ifs b (union-bounded from first) gives)))) refl refl refl refl

    pub returns-bounded : Adds e N 1 26 40 112 (returns e atom)
    unfolding returns
    returns-bounded = adds (asks (eat-bounded kind.Arrow) (passed type-bounded) gives) refl refl refl refl

    pub named-bounded : (b : Bool) → Takes e N 5 26 40 112 (named e atom b)
    unfolding named
    named-bounded b = takes (ifs b x type-bounded) refl refl refl refl

    table-ty-pair-bounded : Takes e N 1 26 40 112 (table_ty_pair e atom)
    unfolding table_ty_pair
    table-ty-pair-bounded = takes (binds start-bounded (λ from. onto ident-bounded (λ key. onto (expect-bounded kind.Colon) (λ _. after type-bounded (λ value. pair-bounded node.TableTyPair from key value))))) refl refl refl refl

    table-ty-other-bounded : Takes e N 1 26 40 112 (table_ty_other e atom)
    unfolding table_ty_other
    table-ty-other-bounded =
        takes (binds start-bounded (λ from. onto (expect-bounded kind.OpenBracket) (λ _. onto type-bounded (λ key. onto (expect-bounded kind.CloseBracket) (λ _. onto (expect-bounded kind.Colon) (λ _. after type-bounded (λ value. pair-bounded node.TableTyOther from key value))))))) refl refl refl refl

    type-item-bounded : (k : ℕ) → Takes e N 5 26 40 112 (type_item e atom k)
    unfolding type_item
    type-item-bounded k = takes (picks k (typed-ident-bounded (named-bounded false)) (typed-ident-bounded (named-bounded true)) table-ty-pair-bounded type-bounded) refl refl refl refl

    type-last-item-bounded : (k : ℕ) → Takes e N 1 26 40 112 (type_last_item e atom k)
    unfolding type_last_item
    type-last-item-bounded k = takes (ifs (eqb k items.TableTyPairs) table-ty-other-bounded (onto (expect-bounded kind.Ellipsis) (λ _. type-item-bounded k))) refl refl refl refl

    type-last-bounded : (k : ℕ) (i : Items) → Takes e N 1 26 40 112 (type_last e atom k i)
    unfolding type_last
    type-last-bounded k i = takes (after (type-last-item-bounded k) (λ r. binds (add-bounded i.kids r) (λ all. gives))) refl refl refl refl

    pub type-items-bounded : (k : ℕ) (kids : Kids) → Adds e N 22 34 42 112 (type_items e atom k kids)
    unfolding type_items
    type-items-bounded k kids = adds (items-until-with-last-bounded (as-item (type-item-bounded k) refl refl refl refl) (type_last_kind k) (λ i. as-item (type-last-bounded k i) refl refl refl refl) (type_end k) kids) refl refl refl refl

    type-paren-bounded : (from : ℕ) → Takes e N 0 0 40 112 (type_paren e atom from)
    unfolding type_paren
    type-paren-bounded from = takes (onto bump-bounded (λ _. onto type-bounded (λ t. after (expect-bounded kind.CloseParen) (λ _. binds (add-bounded no_kids t) (λ kids. close-bounded node.TyParen from 0 0 0 kids.first))))) refl refl refl refl

    type-table-bounded : (from : ℕ) → Takes e N 0 34 42 112 (type_table e atom from)
    unfolding type_table
    type-table-bounded from = takes (after bump-bounded (λ _. binds (type-items-bounded items.TableTyPairs no_kids) (λ i. close-bounded node.TyTable from 0 0 _ i.kids.first))) refl refl refl refl

    type-function-bounded : (from : ℕ) → Takes e N 0 35 42 112 (type_function e atom from)
    unfolding type_function
    type-function-bounded from = takes (after bump-bounded (λ _. binds (type-items-bounded items.Types no_kids) (λ i. binds returns-bounded (λ r. binds (add-some-bounded i.kids r) (λ kids. close-bounded node.TyFunction from 0 0 _ kids.first))))) refl refl refl refl

    pub type-atom-bounded : Takes e N 5 35 42 112 (type_atom e atom)
    unfolding type_atom
    type-atom-bounded = takes (binds start-bounded (λ from. chooses (type-paren-bounded from & ident-bounded & type-table-bounded from & type-function-bounded from & otherwise lit-bounded))) refl refl refl refl

    pub params-bounded : (kids : Kids) → Takes e N 1 34 42 112 (params e atom kids)
    unfolding params
    params-bounded kids = takes (after (expect-bounded kind.OpenParen) (λ _. type-items-bounded items.TypedIdents kids)) refl refl refl refl

    pub closure-params-bounded : (kids : Kids) → Takes e N 1 34 42 112 (closure_params e atom kids)
    unfolding closure_params
    closure-params-bounded kids = takes (after (expect-bounded kind.VBar) (λ _. type-items-bounded items.AtomTypedIdents kids)) refl refl refl refl

pub atoms-bounded : (e : Sheet) (d : ℕ) → Atom e (level * d) (atoms e d)
unfolding atoms
atoms-bounded e zero = refuses (λ q. omega arith)
atoms-bounded e (suc d) = lifted level (omega arith) (type-atom-bounded (atoms-bounded e d)) refl refl refl refl

-- patterns
module _ {e : Sheet} {N : ℕ} where
  pattern-last-bounded : (i : Items) → Takes e N 0 0 0 0 (pattern_last e i)
  unfolding pattern_last
  pattern-last-bounded i = takes (record { ends = λ s w h g t. (after bump-bounded (λ _. gives)).ends s w h g t }) refl refl refl refl

  module _ {inner : Rule ℕ} (x : Pattern e N inner) where
    table-pattern-pair-bounded : Takes e N 0 24 40 112 (table_pattern_pair e inner)
    unfolding table_pattern_pair
    table-pattern-pair-bounded = takes (binds start-bounded (λ from. onto lit-bounded (λ key. onto (expect-bounded kind.Colon) (λ _. after x (λ value. pair-bounded node.TablePatternPair from key value))))) refl refl refl refl

    pattern-item-bounded : (k : ℕ) → Takes e N 4 24 40 112 (pattern_item e inner k)
    unfolding pattern_item
    pattern-item-bounded zero = takes table-pattern-pair-bounded refl refl refl refl
    pattern-item-bounded (suc k) = x

    pattern-items-bounded : (k : ℕ) (kids : Kids) → Adds e N 22 34 42 112 (pattern_items e inner k kids)
    unfolding pattern_items
    pattern-items-bounded k kids = adds (items-until-with-last-bounded (as-item (pattern-item-bounded k) refl refl refl refl) kind.Ellipsis (λ i. as-item (pattern-last-bounded i) refl refl refl refl) (pattern_end k) kids) refl refl refl refl

    pattern-row-bounded : (from k n : ℕ) → Takes e N 0 34 42 112 (pattern_row e inner from k n)
    unfolding pattern_row
    pattern-row-bounded from k n = takes (after bump-bounded (λ _. binds (pattern-items-bounded k no_kids) (λ i. close-bounded n from _ _ _ i.kids.first))) refl refl refl refl

    pub pattern-bounded : Takes e N 4 34 42 112 (pattern e inner)
    unfolding pattern
    pattern-bounded = takes (binds start-bounded (λ from. chooses (ident-bounded & pattern-row-bounded from items.Pairs node.PatternTable & pattern-row-bounded from items.Patterns node.PatternList & otherwise lit-bounded))) refl refl refl refl

pub patterns-bounded : (e : Sheet) (d : ℕ) → Pattern e (level * d) (patterns e d)
unfolding patterns
patterns-bounded e zero = refuses (λ q. omega arith)
patterns-bounded e (suc d) = lifted level (omega arith) (pattern-bounded (patterns-bounded e d)) refl refl refl refl
