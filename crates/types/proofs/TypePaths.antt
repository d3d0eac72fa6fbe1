-- Each way through the rules on types.
use mathlib.Core.Path.{◌≡◌, refl}
use mathlib.Core.Bool.{Bool, true, false}
use Prim.Native.Nat.{ℕ, zero, suc, ◌-◌}
use native.Mathlib.Numerals.{sub-one}
use lib.Dec.{eqb, ltb}
use Rattle.kinds.specs.Number as kind
use Rattle.cursor.specs.declared.State.{State}
use Rattle.cursor.specs.declared.Kids.{Kids}
use Rattle.cursor.specs.Node as node
use Rattle.cursor.specs.Sheet.{Sheet, range_at}
use Rattle.cursor.specs.Rule.{World, Stop, Out, done, failed, refused, Rule, more, stop, iterate}
use Rattle.cursor.specs.Tokens.{start_of, bump, eat_eol}
use Rattle.cursor.specs.Checks.{check, eat, expect, pick}
use Rattle.cursor.specs.Records.{add, no_kids, flagged}
use Rattle.types.specs.declared.items.Items.{Items}
use Rattle.types.specs.Lits.{lit, ident}
use Rattle.types.specs.Items.{start, close, pair, add_some, is_ended, so, after_last, last_item, item_turn, items_until_with_last}
use Rattle.types.specs.declared.types.TypeRule.{TypeRule}
use Rattle.types.specs.declared.types.TypeRule.TheVariants as rules
use Rattle.types.specs.ItemRules.{TableTyPairs, type_rule}
use Rattle.types.specs.Types.{ended, type_last_kind, type_end, union_turn, union, type, returns, named, typed_ident, table_ty_pair, table_ty_other, type_item, type_last_item, type_last, last_of, type_items, type_paren, type_table, type_function, atoms, params, closure_params}
use Rattle.types.proofs.Placed.{type_chain, type_by, type-atom-placed}

-- how lists of each item rule end, and how their last item starts
module _ {r : TypeRule} where
  pub last-kind-pairs : r ≡ rules.TableTyPairs → kind.OpenBracket ≡ type_last_kind (type_rule r)
  unfolding type_last_kind
  last-kind-pairs p = rw p

  pub end-closure : r ≡ rules.AtomTypedIdents → kind.VBar ≡ type_end (type_rule r)
  unfolding type_end
  end-closure p = rw p

  pub end-pairs : r ≡ rules.TableTyPairs → kind.CloseBrace ≡ type_end (type_rule r)
  unfolding type_end
  end-pairs p = rw p

pub last-kind-others : (r : TypeRule) → (r ≡ rules.TableTyPairs → ⊥) → kind.Ellipsis ≡ type_last_kind (type_rule r)
unfolding type_last_kind
last-kind-others rules.TypedIdents p = refl
last-kind-others rules.AtomTypedIdents p = refl
last-kind-others rules.TableTyPairs p = absurd (p refl)
last-kind-others rules.Types p = refl

pub end-others : (r : TypeRule) → (r ≡ rules.AtomTypedIdents → ⊥) → (r ≡ rules.TableTyPairs → ⊥) → kind.CloseParen ≡ type_end (type_rule r)
unfolding type_end
end-others rules.TypedIdents p q = refl
end-others rules.AtomTypedIdents p q = absurd (p refl)
end-others rules.TableTyPairs p q = absurd (q refl)
end-others rules.Types p q = refl

-- a rule that is not that of table types has another number
others : (r : TypeRule) → (r ≡ rules.TableTyPairs → ⊥) → eqb (type_rule r) TableTyPairs ≡ false
others rules.TypedIdents p = refl
others rules.AtomTypedIdents p = refl
others rules.TableTyPairs p = absurd (p refl)
others rules.Types p = refl

-- where a value starts
pub starts : (e : Sheet) (s : State) (w : World) {from : ℕ} → from ≡ start_of (range_at e.tokens s.at) → start e s w ≡ done s w from
unfolding start
starts e s w p = rw p

module _ (e : Sheet) (atom : Rule ℕ) (s : State) (w : World) where
  -- a union
  module _ (kids : Kids) where
    pub bar-failed : {x : Stop} → eat e kind.VBar s w ≡ failed x → union_turn e atom kids s w ≡ failed x
    unfolding union_turn
    bar-failed p = rw p

    pub bar-stop : {s1 : State} {w1 : World} → eat e kind.VBar s w ≡ done s1 w1 false → union_turn e atom kids s w ≡ done s1 w1 (stop kids)
    unfolding union_turn
    bar-stop p = rw p

    module _ {s1 : State} {w1 : World} (p : eat e kind.VBar s w ≡ done s1 w1 true) where
      pub part-failed : {x : Stop} → atom s1 w1 ≡ failed x → union_turn e atom kids s w ≡ failed x
      unfolding union_turn
      part-failed q = rw p (rw q)

      pub part-more : {r : ℕ} {longer : Kids} {s2 s3 : State} {w2 w3 : World} → atom s1 w1 ≡ done s2 w2 r → done s3 w3 longer ≡ add kids r s2 w2 → union_turn e atom kids s w ≡ done s3 w3 (more longer)
      unfolding union_turn
      part-more q r = rw p (rw q (rw (← r)))

  module _ (from first : ℕ) {kids : Kids} {s1 : State} {w1 : World} (p : done s1 w1 kids ≡ add no_kids first s w) where
    pub union-failed : {x : Stop} → iterate e (union_turn e atom) kids s1 w1 ≡ failed x → union e atom from first s w ≡ failed x
    unfolding union
    union-failed q = rw (← p) (rw q)

    pub union-on : {flags : ℕ} {all : Kids} {s2 : State} {w2 : World} → iterate e (union_turn e atom) kids s1 w1 ≡ done s2 w2 all → flags ≡ flagged all.count 0 false false → union e atom from first s w ≡ close node.Union from 0 0 flags all.first s2 w2
    unfolding union
    union-on q r = rw (← p) (rw (q, r))

  -- parse_type
  module _ {from : ℕ} (f : from ≡ start_of (range_at e.tokens s.at)) where
    pub type-failed : {x : Stop} → atom s w ≡ failed x → type e atom s w ≡ failed x
    unfolding type
    type-failed p = rw (starts e s w f) (rw p)

    module _ {first : ℕ} {s1 : State} {w1 : World} (p : atom s w ≡ done s1 w1 first) where
      pub type-full : {x : Stop} → check e kind.VBar s1 w1 ≡ failed x → type e atom s w ≡ failed x
      unfolding type
      type-full q = rw (starts e s w f) (rw p (rw q))

      pub type-single : {s2 : State} {w2 : World} → check e kind.VBar s1 w1 ≡ done s2 w2 false → type e atom s w ≡ done s2 w2 first
      unfolding type
      type-single q = rw (starts e s w f) (rw p (rw q))

      pub type-union : {s2 : State} {w2 : World} → check e kind.VBar s1 w1 ≡ done s2 w2 true → type e atom s w ≡ union e atom from first s2 w2
      unfolding type
      type-union q = rw (starts e s w f) (rw p (rw q))

  -- parse_returns
  pub returns-failed : {x : Stop} → eat e kind.Arrow s w ≡ failed x → returns e atom s w ≡ failed x
  unfolding returns
  returns-failed p = rw p

  pub returns-none : {s1 : State} {w1 : World} → eat e kind.Arrow s w ≡ done s1 w1 false → returns e atom s w ≡ done s1 w1 0
  unfolding returns
  returns-none p = rw p

  pub returns-some : {s1 : State} {w1 : World} → eat e kind.Arrow s w ≡ done s1 w1 true → returns e atom s w ≡ type e atom s1 w1
  unfolding returns
  returns-some p = rw p

  -- the type of a name
  pub named-atom : {b : Bool} → b ≡ true → named e atom b s w ≡ atom s w
  unfolding named
  named-atom p = rw p

  pub named-type : {b : Bool} → b ≡ false → named e atom b s w ≡ type e atom s w
  unfolding named
  named-type p = rw p

  -- parse_typed_ident, whose type's rule is `atom` here; and a pair of a table type
  module _ {from : ℕ} (f : from ≡ start_of (range_at e.tokens s.at)) where
    pub typed-failed : {x : Stop} → ident e s w ≡ failed x → typed_ident e atom s w ≡ failed x
    unfolding typed_ident
    typed-failed p = rw (starts e s w f) (rw p)

    pub key-failed : {x : Stop} → ident e s w ≡ failed x → table_ty_pair e atom s w ≡ failed x
    unfolding table_ty_pair
    key-failed p = rw (starts e s w f) (rw p)

    module _ {name : ℕ} {s1 : State} {w1 : World} (p : ident e s w ≡ done s1 w1 name) where
      pub typed-full : {x : Stop} → eat e kind.Colon s1 w1 ≡ failed x → typed_ident e atom s w ≡ failed x
      unfolding typed_ident
      typed-full q = rw (starts e s w f) (rw p (rw q))

      pub typed-bare : {s2 : State} {w2 : World} → eat e kind.Colon s1 w1 ≡ done s2 w2 false → typed_ident e atom s w ≡ done s2 w2 name
      unfolding typed_ident
      typed-bare q = rw (starts e s w f) (rw p (rw q))

      module _ {s2 : State} {w2 : World} (q : eat e kind.Colon s1 w1 ≡ done s2 w2 true) where
        pub typed-lost : {x : Stop} → atom s2 w2 ≡ failed x → typed_ident e atom s w ≡ failed x
        unfolding typed_ident
        typed-lost r = rw (starts e s w f) (rw p (rw q (rw r)))

        pub typed-on : {t : ℕ} {s3 : State} {w3 : World} → atom s2 w2 ≡ done s3 w3 t → typed_ident e atom s w ≡ pair node.TypedIdent from name t s3 w3
        unfolding typed_ident
        typed-on r = rw (starts e s w f) (rw p (rw q (rw r)))

      pub key-open : {x : Stop} → expect e kind.Colon s1 w1 ≡ failed x → table_ty_pair e atom s w ≡ failed x
      unfolding table_ty_pair
      key-open q = rw (starts e s w f) (rw p (rw q))

      module _ {s2 : State} {w2 : World} (q : expect e kind.Colon s1 w1 ≡ done s2 w2 tt) where
        pub key-lost : {x : Stop} → type e atom s2 w2 ≡ failed x → table_ty_pair e atom s w ≡ failed x
        unfolding table_ty_pair
        key-lost r = rw (starts e s w f) (rw p (rw q (rw r)))

        pub key-on : {t : ℕ} {s3 : State} {w3 : World} → type e atom s2 w2 ≡ done s3 w3 t → table_ty_pair e atom s w ≡ pair node.TableTyPair from name t s3 w3
        unfolding table_ty_pair
        key-on r = rw (starts e s w f) (rw p (rw q (rw r)))

    -- the other pairs of a table type
    pub other-shut : {x : Stop} → expect e kind.OpenBracket s w ≡ failed x → table_ty_other e atom s w ≡ failed x
    unfolding table_ty_other
    other-shut a = rw (starts e s w f) (rw a)

    module _ {s1 : State} {w1 : World} (a : expect e kind.OpenBracket s w ≡ done s1 w1 tt) where
      pub other-failed : {x : Stop} → type e atom s1 w1 ≡ failed x → table_ty_other e atom s w ≡ failed x
      unfolding table_ty_other
      other-failed b = rw (starts e s w f) (rw a (rw b))

      module _ {key : ℕ} {s2 : State} {w2 : World} (b : type e atom s1 w1 ≡ done s2 w2 key) where
        pub other-open : {x : Stop} → expect e kind.CloseBracket s2 w2 ≡ failed x → table_ty_other e atom s w ≡ failed x
        unfolding table_ty_other
        other-open c = rw (starts e s w f) (rw a (rw b (rw c)))

        module _ {s3 : State} {w3 : World} (c : expect e kind.CloseBracket s2 w2 ≡ done s3 w3 tt) where
          pub other-bare : {x : Stop} → expect e kind.Colon s3 w3 ≡ failed x → table_ty_other e atom s w ≡ failed x
          unfolding table_ty_other
          other-bare d = rw (starts e s w f) (rw a (rw b (rw c (rw d))))

          module _ {s4 : State} {w4 : World} (d : expect e kind.Colon s3 w3 ≡ done s4 w4 tt) where
            pub other-lost : {x : Stop} → type e atom s4 w4 ≡ failed x → table_ty_other e atom s w ≡ failed x
            unfolding table_ty_other
            other-lost h = rw (starts e s w f) (rw a (rw b (rw c (rw d (rw h)))))

            pub other-on : {t : ℕ} {s5 : State} {w5 : World} → type e atom s4 w4 ≡ done s5 w5 t → table_ty_other e atom s w ≡ pair node.TableTyOther from key t s5 w5
            unfolding table_ty_other
            other-on h = rw (starts e s w f) (rw a (rw b (rw c (rw d (rw h)))))

-- items by their rule
module _ (e : Sheet) (atom : Rule ℕ) where
  module _ {r : TypeRule} (s : State) (w : World) where
    pub item-typed : r ≡ rules.TypedIdents → type_item e atom (type_rule r) s w ≡ typed_ident e (named e atom false) s w
    unfolding type_item
    item-typed p = rw p

    pub item-atom : r ≡ rules.AtomTypedIdents → type_item e atom (type_rule r) s w ≡ typed_ident e (named e atom true) s w
    unfolding type_item
    item-atom p = rw p

    pub item-pair : r ≡ rules.TableTyPairs → type_item e atom (type_rule r) s w ≡ table_ty_pair e atom s w
    unfolding type_item
    item-pair p = rw p

    pub item-type : r ≡ rules.Types → type_item e atom (type_rule r) s w ≡ type e atom s w
    unfolding type_item
    item-type p = rw p

    pub last-other : r ≡ rules.TableTyPairs → type_last_item e atom (type_rule r) s w ≡ table_ty_other e atom s w
    unfolding type_last_item
    last-other p = rw p

    module _ (n : r ≡ rules.TableTyPairs → ⊥) where
      pub last-shut : {x : Stop} → expect e kind.Ellipsis s w ≡ failed x → type_last_item e atom (type_rule r) s w ≡ failed x
      unfolding type_last_item
      last-shut p = rw (others r n, type_last_item) (rw p)

      pub last-dots : {s1 : State} {w1 : World} → expect e kind.Ellipsis s w ≡ done s1 w1 tt → type_last_item e atom (type_rule r) s w ≡ type_item e atom (type_rule r) s1 w1
      unfolding type_last_item
      last-dots p = rw (others r n, type_last_item) (rw p)

  module _ (k : ℕ) (s : State) (w : World) where
    module _ (kids : Kids) where
      pub last-failed : {x : Stop} → type_last_item e atom k s w ≡ failed x → last_of e atom k kids s w ≡ failed x
      unfolding last_of last_item type_last
      last-failed p = rw p

      pub last_on : {r end : ℕ} {longer : Kids} {s1 s2 : State} {w1 w2 : World} → type_last_item e atom k s w ≡ done s1 w1 r → done s2 w2 longer ≡ add kids r s1 w1 → end ≡ type_end k → last_of e atom k kids s w ≡ after_last e end (ended kids longer) s2 w2
      unfolding last_of last_item type_last
      last_on p q r = rw p (rw (← q) (rw r))

  -- a type in parentheses, a table type, a function type
  module _ (from : ℕ) (s : State) (w : World) where
    module _ {x : Stop} (p : bump e s w ≡ failed x) where
      pub paren-spent : type_paren e atom from s w ≡ failed x
      unfolding type_paren
      paren-spent = rw p

      pub table-spent : type_table e atom from s w ≡ failed x
      unfolding type_table
      table-spent = rw p

      pub function-spent : type_function e atom from s w ≡ failed x
      unfolding type_function
      function-spent = rw p

    module _ {s1 : State} {w1 : World} (p : bump e s w ≡ done s1 w1 tt) where
      pub paren-failed : {x : Stop} → type e atom s1 w1 ≡ failed x → type_paren e atom from s w ≡ failed x
      unfolding type_paren
      paren-failed q = rw p (rw q)

      module _ {r : ℕ} {s2 : State} {w2 : World} (q : type e atom s1 w1 ≡ done s2 w2 r) where
        pub paren-open : {x : Stop} → expect e kind.CloseParen s2 w2 ≡ failed x → type_paren e atom from s w ≡ failed x
        unfolding type_paren
        paren-open c = rw p (rw q (rw c))

        pub paren-on : {kids : Kids} {s3 s4 : State} {w3 w4 : World} → expect e kind.CloseParen s2 w2 ≡ done s3 w3 tt → done s4 w4 kids ≡ add no_kids r s3 w3 → type_paren e atom from s w ≡ close node.TyParen from 0 0 0 kids.first s4 w4
        unfolding type_paren
        paren-on c d = rw p (rw q (rw c (rw (← d))))

      pub table-failed : {x : Stop} → type_items e atom 2 no_kids s1 w1 ≡ failed x → type_table e atom from s w ≡ failed x
      unfolding type_table
      table-failed q = rw p (rw q)

      pub table_on : {b : Bool} {flags : ℕ} {i : Items} {s2 : State} {w2 : World} → type_items e atom 2 no_kids s1 w1 ≡ done s2 w2 i → b ≡ is_ended i.ended → flags ≡ flagged i.kids.count 0 b false → type_table e atom from s w ≡ close node.TyTable from 0 0 flags i.kids.first s2 w2
      unfolding type_table
      table_on q b h = rw p (rw (q, h, b))

      pub function-failed : {x : Stop} → type_items e atom 3 no_kids s1 w1 ≡ failed x → type_function e atom from s w ≡ failed x
      unfolding type_function
      function-failed q = rw p (rw q)

      module _ {i : Items} {s2 : State} {w2 : World} (q : type_items e atom 3 no_kids s1 w1 ≡ done s2 w2 i) where
        pub function-lost : {x : Stop} → returns e atom s2 w2 ≡ failed x → type_function e atom from s w ≡ failed x
        unfolding type_function
        function-lost r = rw p (rw q (rw r))

        pub function-on : {b : Bool} {flags r : ℕ} {kids : Kids} {s3 s4 : State} {w3 w4 : World} → returns e atom s2 w2 ≡ done s3 w3 r → done s4 w4 kids ≡ add_some i.kids r s3 w3 → b ≡ is_ended i.ended → flags ≡ flagged i.kids.count 0 b (ltb 0 r) → type_function e atom from s w ≡ close node.TyFunction from 0 0 flags kids.first s4 w4
        unfolding type_function
        function-on r c b h = rw p (rw q (rw r (rw (← c) (rw (h, b)))))

-- type atoms
module _ (e : Sheet) (d : ℕ) (s : State) (w : World) where
  pub atoms-none : d ≡ 0 → atoms e d s w ≡ failed (refused 9)
  unfolding atoms
  atoms-none p = rw (p, atoms)

module _ (e : Sheet) (s : State) (w : World) {from : ℕ} (f : from ≡ start_of (range_at e.tokens s.at)) where
  pub atoms-full : (d : ℕ) {x : Stop} → (d ≡ 0 → ⊥) → pick e (type_chain e) s w ≡ failed x → atoms e d s w ≡ failed x
  unfolding atoms
  atoms-full zero n p = absurd (n refl)
  atoms-full (suc d) n p = rw (type-atom-placed e (atoms e d)) (rw (starts e s w f) (rw p))

  pub atoms-on : (d : ℕ) {which : ℕ} {s1 : State} {w1 : World} → (d ≡ 0 → ⊥) → pick e (type_chain e) s w ≡ done s1 w1 which → atoms e d s w ≡ type_by e (atoms e (d - 1)) from which s1 w1
  unfolding atoms
  atoms-on zero n p = absurd (n refl)
  atoms-on (suc d) n p = rw (type-atom-placed e (atoms e d)) (rw (starts e s w f) (rw p (rw sub-one)))

module _ (e : Sheet) (inner : Rule ℕ) (from : ℕ) where
  pub by-paren : (k : ℕ) (s : State) (w : World) → k ≡ 0 → type_by e inner from k s w ≡ type_paren e inner from s w
  unfolding type_by
  by-paren k s w p = rw p

  pub by-ident : (k : ℕ) (s : State) (w : World) → k ≡ 1 → type_by e inner from k s w ≡ ident e s w
  unfolding type_by
  by-ident k s w p = rw p

  pub by-table : (k : ℕ) (s : State) (w : World) → k ≡ 2 → type_by e inner from k s w ≡ type_table e inner from s w
  unfolding type_by
  by-table k s w p = rw p

  pub by-function : (k : ℕ) (s : State) (w : World) → k ≡ 3 → type_by e inner from k s w ≡ type_function e inner from s w
  unfolding type_by
  by-function k s w p = rw p

  pub by-lit : (k : ℕ) (s : State) (w : World) → (k ≡ 0 → ⊥) → (k ≡ 1 → ⊥) → (k ≡ 2 → ⊥) → (k ≡ 3 → ⊥) → type_by e inner from k s w ≡ lit e s w
  unfolding type_by
  by-lit zero s w p q r t = absurd (p refl)
  by-lit (suc zero) s w p q r t = absurd (q refl)
  by-lit (suc (suc zero)) s w p q r t = absurd (r refl)
  by-lit (suc (suc (suc zero))) s w p q r t = absurd (t refl)
  by-lit (suc (suc (suc (suc k)))) s w p q r t = refl

-- parameters
module _ (e : Sheet) (atom : Rule ℕ) (kids : Kids) (s : State) (w : World) where
  pub params-shut : {x : Stop} → expect e kind.OpenParen s w ≡ failed x → params e atom kids s w ≡ failed x
  unfolding params
  params-shut p = rw p

  pub params-on : {s1 : State} {w1 : World} → expect e kind.OpenParen s w ≡ done s1 w1 tt → params e atom kids s w ≡ type_items e atom 0 kids s1 w1
  unfolding params
  params-on p = rw p

  pub closure-shut : {x : Stop} → expect e kind.VBar s w ≡ failed x → closure_params e atom kids s w ≡ failed x
  unfolding closure_params
  closure-shut p = rw p

  pub closure-on : {s1 : State} {w1 : World} → expect e kind.VBar s w ≡ done s1 w1 tt → closure_params e atom kids s w ≡ type_items e atom 1 kids s1 w1
  unfolding closure_params
  closure-on p = rw p

-- a list begins; and its last item, whatever name the end goes by
module _ (e : Sheet) (atom : Rule ℕ) (k : ℕ) (kids : Kids) (s : State) (w : World) where
  pub items-spent : {x : Stop} → eat_eol e s w ≡ failed x → type_items e atom k kids s w ≡ failed x
  unfolding type_items items_until_with_last
  items-spent p = rw p

  module _ {end : ℕ} (q : end ≡ type_end k) where
    pub items-begin : {s1 : State} {w1 : World} → eat_eol e s w ≡ done s1 w1 tt → type_items e atom k kids s w ≡ iterate e (item_turn e (type_item e atom k) (type_last_kind k) (type_last e atom k) end) (so kids) s1 w1
    unfolding type_items items_until_with_last
    items-begin p = rw p (rw q)

    pub last-is : last_of e atom k kids s w ≡ last_item e (type_last e atom k) end (so kids) s w
    unfolding last_of
    last-is = rw q

-- a check of a kind that has another name
pub check-as : (e : Sheet) (s : State) (w : World) {k m : ℕ} {o : Out Bool} → k ≡ m → check e k s w ≡ o → check e m s w ≡ o
check-as e s w p q = rw p at q
